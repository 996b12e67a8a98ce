use Rattle.std.proofs.Common.{ap, sym, ◌∙◌}
use Rattle.std.specs.Prelude.{slice_get}
use Rattle.tip_txn.specs.Parts.{acknowledged}
use Rattle.tip_outlook.proofs.Subordinates.{no_part}
use Rattle.tip_rules.proofs.Works.{gone_part}
use Rattle.tip_rules.proofs.work.acknowledge_part.Goals as goal

pub returns-else-is_some : goal.returns-else-is_some
returns-else-is_some c = ap (λ parts. record c.args.txn.now { parts = parts }) (sym (no_part c.args.part acknowledged c.args.txn.now.parts (gone_part c.part.result (slice_get c.args.txn.now.parts c.args.part) c.part.ensures (sym c.is_some.ensures ∙ c.if-is_some.false))))
