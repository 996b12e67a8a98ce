use Rattle.std.proofs.Common.{refl, sym, ap, inr, ◌∙◌}
use Rattle.tip_rows.specs.Memory.{log_of}
use Rattle.tip_rows.proofs.MemoryLemmas.{shows}
use Rattle.tip_rows.proofs.NameLemmas.{Shows-known, due-known}
use Rattle.tip_rows.proofs.memory.MemRowsRowLog.know.Goals as goal

pub invariant_of-self : goal.invariant_of-self
invariant_of-self g c = rw c.in-Ok.ensures.ok (Shows-known c.args.realm.now _ _ _ c.in-Ok.ensures.realm (shows _ _ _ c.self.invariant refl)).kept

pub returns-in-Ok-clause-stands : goal.returns-in-Ok-clause-stands
returns-in-Ok-clause-stands g c = λ log same. rw c.in-Ok.ensures.ok (Shows-known c.args.realm.now _ _ log c.in-Ok.ensures.realm (shows _ _ _ c.self.invariant (ap log_of c.self.view_is ∙ same))).same

pub returns-in-Ok-clause-stop : goal.returns-in-Ok-clause-stop
returns-in-Ok-clause-stop g c = λ log same _ left leaves. inr (sym leaves ∙ returns-in-Ok-clause-stands g c log same)

pub returns-in-Ok-clause-due : goal.returns-in-Ok-clause-due
returns-in-Ok-clause-due g c = λ log same r. rw (c.in-Ok.ensures.ok, ← c.self.view_is) (due-known c.args.realm.now c.self.inside.known.items r c.self.invariant.names)
