use Rattle.std.proofs.Common.{◌≡◌, ◌∙◌, ap, false, refl, sym}
use Rattle.tip_rows.specs.Memory.{due_in}
use Rattle.tip_rows.proofs.MemoryLemmas.{shows, Shows-refusing, due-spent, undue-spent}
use Rattle.tip_rows.proofs.memory.MemRows.take_due.Goals as goal
use Rattle.tip_rows.proofs.memory.MemRows.take_due.Goals.{then-due, else-due}

pub invariant_of-self : goal.invariant_of-self
invariant_of-self g c = elim c.if-due.branch [
  | then-due w ↦ rw (w.self-inside-is, w.set_due.ensures) (Shows-refusing c.args.realm.now false _ _ _ (shows _ _ _ c.self.invariant refl)).kept
  | else-due w ↦ rw w.self-inside-is c.self.invariant
]

pub returns-clause-spent : goal.returns-clause-spent
returns-clause-spent g c = elim c.if-due.branch [
  | then-due w ↦ λ r. rw (w.self-inside-is, w.set_due.ensures, ← c.self.view_is) (due-spent c.args.realm.now c.self.inside.known.items r)
  | else-due w ↦
      let none : due_in c.self.inside.known.items c.args.realm.now ≡ false = ap (λ known. due_in known c.args.realm.now) (sym c.deref.ensures.value) ∙ (sym c.is_due-due.ensures ∙ w.if-due.false) in
      λ r. rw (w.self-inside-is, ← c.self.view_is) (undue-spent c.args.realm.now c.self.inside.known.items none r)
]

pub returns-clause-log : goal.returns-clause-log
returns-clause-log g c = elim c.if-due.branch [
  | then-due w ↦ rw (w.self-inside-is, w.set_due.ensures, ← c.self.view_is) (Shows-refusing c.args.realm.now false _ _ _ (shows _ _ _ c.self.invariant refl)).same
  | else-due w ↦ rw (w.self-inside-is, ← c.self.view_is) refl
]
