use Rattle.std.proofs.Common.{true, refl}
use Rattle.tip_rows.proofs.MemoryLemmas.{shows, Shows-refusing, due-demanded}
use Rattle.tip_rows.proofs.memory.MemRows.refuse_next.Goals as goal

pub invariant_of-self : goal.invariant_of-self
invariant_of-self g c = rw c.set_due.ensures (Shows-refusing c.args.realm.now true _ _ _ (shows _ _ _ c.self.invariant refl)).kept

pub returns-clause-log : goal.returns-clause-log
returns-clause-log g c = rw (c.set_due.ensures, ← c.self.view_is) (Shows-refusing c.args.realm.now true _ _ _ (shows _ _ _ c.self.invariant refl)).same

pub returns-clause-due : goal.returns-clause-due
returns-clause-due g c = λ r. rw (c.set_due.ensures, ← c.self.view_is) (due-demanded c.args.realm.now c.self.inside.known.items r)
