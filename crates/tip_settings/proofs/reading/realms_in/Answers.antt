use Rattle.std.proofs.Common.{◌≡◌, length, arith}
use Rattle.std.proofs.lemmas.Bool.Decides.{nat_tests}
use Rattle.tip_settings.proofs.Refusing.{no_realms}
use Rattle.toml.specs.View.{table_view}
use Rattle.tip_settings.proofs.reading.realms_in.Goals as goal

pub returns-then-is_empty-clause-why : goal.returns-then-is_empty-clause-why
returns-then-is_empty-clause-why c =
    let none : length c.in_ok-realms.realms.items ≡ 0 = grind (arith, nat_tests, c.in_ok-realms.realms.ok.0) in
    no_realms (table_view c.args.table.now) c.in-Some.items.now.items c.deref.result.now c.in_ok-realms.realms.items c.in-Some.ensures c.deref.ensures.value c.in_ok-realms.ensures.ok none
