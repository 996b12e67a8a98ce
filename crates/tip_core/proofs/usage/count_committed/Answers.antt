use Rattle.std.proofs.Common.{sym, ◌∙◌}
use Rattle.tip_machine.specs.Transactions.{is_committed}
use Rattle.tip_table.specs.Kept.{of}
use Rattle.tip_core.proofs.Usages.{held_at}
use Rattle.tip_core.proofs.usage.count_committed.Goals as goal

pub returns : goal.returns
returns g c = c.count_passing.ensures ∙ sym (held_at is_committed (of c.args.transactions.now c.args.realm))
