use Rattle.std.proofs.Common.{◌≡◌, refl, sym, ◌∙◌, inr, ap, Some, pos}
use Rattle.tip_rows.specs.Logs.{Log, last_epoch}
use Rattle.tip_rows.specs.Memory.{Memory, log_of, is_due_in, epoch_in}
use Rattle.tip_rows.proofs.MemoryLemmas.{shows, Shows-raised_named, due-raised_named}
use Rattle.tip_rows.proofs.memory.MemRowsRowLog.raise_epoch.Goals as goal

pub returns-then-is_at_end-clause-end : goal.returns-then-is_at_end-clause-end
returns-then-is_at_end-clause-end g c = λ log same _ _.
    let ended : epoch_in c.self.inside.known.items c.args.realm.now ≡ Some (pos last_epoch) = rw (← c.deref.ensures.value) (c.is_at_end.ensures.0 c.if-is_at_end.true) in
    sym (ap (λ (l : Log). l.epochs c.args.realm.now) (ap log_of c.self.view_is ∙ c.take_due.ensures.log ∙ same)) ∙ ended

pub invariant_of-self : goal.invariant_of-self
invariant_of-self g c = rw c.raise_of.ensures (Shows-raised_named c.args.realm.now _ _ _ (shows _ _ _ c.self.invariant refl)).kept

pub returns-clause-stands : goal.returns-clause-stands
returns-clause-stands g c = λ log same. rw c.raise_of.ensures (Shows-raised_named c.args.realm.now _ _ log (shows _ _ _ c.self.invariant (ap log_of c.self.view_is ∙ c.take_due.ensures.log ∙ same))).same

pub returns-clause-stop : goal.returns-clause-stop
returns-clause-stop g c = λ log same _ left leaves. inr (sym leaves ∙ returns-clause-stands g c log same)

pub returns-clause-no_end : goal.returns-clause-no_end
returns-clause-no_end g c = λ log same _ at.
    let ended : epoch_in c.deref.result.now c.args.realm.now ≡ Some (pos last_epoch) = rw c.deref.ensures.value (ap (λ (l : Log). l.epochs c.args.realm.now) (ap log_of c.self.view_is ∙ c.take_due.ensures.log ∙ same) ∙ at) in
    cc (c.is_at_end.ensures.1 ended, c.if-is_at_end.false)

pub returns-clause-spent : goal.returns-clause-spent
returns-clause-spent g c = λ r. rw c.raise_of.ensures (due-raised_named c.args.realm.now c.self.inside.known.items r ∙ ap (λ (m : Memory). is_due_in m r) c.self.view_is ∙ c.take_due.ensures.spent r)
