use Rattle.std.proofs.Common.{true, sym, ◌∙◌}
use Rattle.tip_machine.specs.Types.{seen}
use Rattle.tip_rules.proofs.Outcomes.{done_where}
use Rattle.tip_rules.proofs.outcome.is_done.Goals as goal

pub returns-then-is_spent : goal.returns-then-is_spent
returns-then-is_spent g c = sym (done_where (seen c.args.transaction.now) true c.is_acknowledged.result (sym c.if-is_spent.true ∙ c.is_spent.ensures) c.is_acknowledged.ensures)
