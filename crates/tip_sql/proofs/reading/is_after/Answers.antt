use Rattle.std.proofs.Common.{◌≡◌, Some, rules, sym, ◌∙◌}
use Rattle.tip_sql.specs.Reading.{last_of}
use Rattle.tip_sql.proofs.Risings.{last_is}
use Rattle.tip_sql.proofs.reading.is_after.Goals as goal

pub returns-in-Some : goal.returns-in-Some
returns-in-Some c =
    let e : last_of c.args.names.now ≡ Some c.in-Some.last.now = sym (last_is c.args.names.now) ∙ sym c.in-Some.ensures.value in
    rw e (search rules)
