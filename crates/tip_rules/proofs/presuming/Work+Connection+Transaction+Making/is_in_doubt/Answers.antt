use Rattle.std.proofs.Common.{ap, sym, ◌∙◌}
use Rattle.tip_machine.specs.Transactions.{is_prepared}
use Rattle.tip_machine.specs.Types.{seen}
use Rattle.tip_rules.proofs.Asking.{doubt_by}
use Rattle.tip_rules.proofs.presuming.Work+Connection+Transaction+Making.is_in_doubt.Goals as goal

pub returns-then-is_prepared : goal.returns-then-is_prepared
returns-then-is_prepared g c = doubt_by c.args.self.now c.args.key (seen c.at.result.now) c.at.ensures.found c.has_superior.result (sym (c.is_prepared.ensures ∙ ap is_prepared c.phase.ensures) ∙ c.if-is_prepared.true) c.has_superior.ensures
