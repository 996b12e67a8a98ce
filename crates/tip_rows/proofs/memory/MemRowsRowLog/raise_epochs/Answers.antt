use Rattle.std.proofs.Common.{◌≡◌, true, false, refl, sym, ◌∙◌, inr, ap}
use Rattle.tip_rows.specs.Logs.{Log}
use Rattle.tip_rows.specs.Memory.{log_of, is_at_end}
use Rattle.std.specs.List.{list_any}
use Rattle.tip_rows.proofs.MemoryLemmas.{shows, Shows-raised_all, due-raised_all, none_at_end, one_at_end}
use Rattle.tip_rows.proofs.memory.MemRowsRowLog.raise_epochs.Goals as goal

pub returns-then-one_is_at_end-clause-end : goal.returns-then-one_is_at_end-clause-end
returns-then-one_is_at_end-clause-end g c = λ log same _ _.
    let known = c.self.inside.known.items in
    let some : list_any is_at_end known ≡ true = rw (← c.deref.ensures.value) (sym c.one_is_at_end.ensures ∙ c.if-one_is_at_end.true) in
    let found = one_at_end known c.self.invariant.names some in
    (found.0, sym (ap (λ (l : Log). l.epochs found.0) (ap log_of c.self.view_is ∙ same)) ∙ found.1)

pub invariant_of-self : goal.invariant_of-self
invariant_of-self g c = rw c.raise_each.ensures (Shows-raised_all _ _ _ (shows _ _ _ c.self.invariant refl)).kept

pub returns-clause-stands : goal.returns-clause-stands
returns-clause-stands g c = λ log same. rw c.raise_each.ensures (Shows-raised_all _ _ log (shows _ _ _ c.self.invariant (ap log_of c.self.view_is ∙ same))).same

pub returns-clause-stop : goal.returns-clause-stop
returns-clause-stop g c = λ log same _ left leaves. inr (sym leaves ∙ returns-clause-stands g c log same)

pub returns-clause-no_end : goal.returns-clause-no_end
returns-clause-no_end g c = λ log same _ realm at.
    let known = c.self.inside.known.items in
    let none : list_any is_at_end known ≡ false = rw (← c.deref.ensures.value) (sym c.one_is_at_end.ensures ∙ c.if-one_is_at_end.false) in
    none_at_end known none realm (ap (λ (l : Log). l.epochs realm) (ap log_of c.self.view_is ∙ same) ∙ at)

pub returns-clause-due : goal.returns-clause-due
returns-clause-due g c = λ r. rw (c.raise_each.ensures, ← c.self.view_is) (due-raised_all c.self.inside.known.items r)
