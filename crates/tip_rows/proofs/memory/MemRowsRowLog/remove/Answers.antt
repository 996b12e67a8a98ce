use Rattle.std.proofs.Common.{refl, sym, ap, inr, ◌∙◌}
use Rattle.tip_rows.specs.Memory.{log_of}
use Rattle.tip_rows.proofs.MemoryLemmas.{shows}
use Rattle.tip_rows.proofs.OrderLemmas.{Shows-removed}
use Rattle.tip_rows.proofs.memory.MemRowsRowLog.remove.Goals as goal

pub invariant_of-self : goal.invariant_of-self
invariant_of-self g c = rw c.remove_from.ensures (Shows-removed _ _ c.args.realm.now c.args.key _ (shows _ _ _ c.self.invariant refl)).kept

pub returns-clause-stands : goal.returns-clause-stands
returns-clause-stands g c = λ log same. rw c.remove_from.ensures (Shows-removed _ _ c.args.realm.now c.args.key log (shows _ _ _ c.self.invariant (ap log_of c.self.view_is ∙ c.take_due.ensures.log ∙ same))).same

pub returns-clause-stop : goal.returns-clause-stop
returns-clause-stop g c = λ log same _ left leaves. inr (sym leaves ∙ returns-clause-stands g c log same)
