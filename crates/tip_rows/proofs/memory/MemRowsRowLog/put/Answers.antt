use Rattle.std.proofs.Common.{refl, sym, ap, inr, ◌∙◌}
use Rattle.tip_rows.specs.Memory.{Stored, log_of}
use Rattle.tip_rows.proofs.MemoryLemmas.{shows}
use Rattle.tip_rows.proofs.OrderLemmas.{Shows-put}
use Rattle.tip_rows.proofs.memory.MemRowsRowLog.put.Goals as goal

pub invariant_of-self : goal.invariant_of-self
invariant_of-self g c =
    let s : Stored = record { realm = c.args.realm.now; key = c.args.key; row = c.args.row.now } in
    rw c.in-Ok.ensures.ok (Shows-put _ _ s _ (shows _ _ _ c.self.invariant refl)).kept

pub returns-in-Ok-clause-stands : goal.returns-in-Ok-clause-stands
returns-in-Ok-clause-stands g c = λ log same.
    let s : Stored = record { realm = c.args.realm.now; key = c.args.key; row = c.args.row.now } in
    rw c.in-Ok.ensures.ok (Shows-put _ _ s log (shows _ _ _ c.self.invariant (ap log_of c.self.view_is ∙ c.take_due.ensures.log ∙ same))).same

pub returns-in-Ok-clause-stop : goal.returns-in-Ok-clause-stop
returns-in-Ok-clause-stop g c = λ log same _ left leaves. inr (sym leaves ∙ returns-in-Ok-clause-stands g c log same)
