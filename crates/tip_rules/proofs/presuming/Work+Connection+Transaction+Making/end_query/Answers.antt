use Rattle.std.proofs.Common.{ap, sym, ◌∙◌}
use Rattle.std.proofs.lemmas.Option.{same_Some}
use Rattle.tip_machine.specs.Types.{Connection}
use Rattle.tip_rules.proofs.Asking.{query_doubt}
use Rattle.tip_rules.proofs.presuming.Work+Connection+Transaction+Making.end_query.Goals as goal

pub returns-then-is_in_doubt : goal.returns-then-is_in_doubt
returns-then-is_in_doubt g c = λ connection said found.
    query_doubt c.args.self.now c.go-2.new.self c.args.number c.args.key connection said found c.go-2.ensures.does c.args.exists c.presume_abort.new.self c.connection.result.now.role c.if-exists.false (sym c.is_in_doubt.ensures ∙ c.if-is_in_doubt.true)
    (ap (λ (d : Connection). d.role) (same_Some c.connection.result.now connection (sym c.connection.ensures ∙ found))) c.presume_abort.ensures
