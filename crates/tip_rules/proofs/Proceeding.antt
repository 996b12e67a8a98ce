-- What the rules of a transaction come to, case by case.
use Rattle.std.proofs.Common.{◌≡◌, Bool, true, false, cond, Option, Some, None, refl, ap, sym, subst, ◌∙◌}
use Rattle.std.specs.Prelude.{◌&&◌, not}
use Rattle.std.specs.List.{list_any}
use Rattle.tip_branch.specs.Notes.{PartyNotes}
use Rattle.tip_branch.specs.declared.member.Errand.{Errand}
use Rattle.tip_rows.specs.Keys.{Key}
use Rattle.tip_txn.specs.declared.answer.Phase.{Phase}
use Rattle.tip_txn.specs.declared.answer.Phase.TheVariants.{Aborted}
use Rattle.tip_machine.specs.Changes.{end, on, on_key}
use Rattle.tip_machine.specs.Connections.{is_on}
use Rattle.tip_machine.specs.Proceeding.{abort, dispatch, dispatched, enter, errand_in, give_out, let_go, release}
use Rattle.tip_machine.specs.Reactions.{aborts, react}
use Rattle.tip_machine.specs.States.{Work, transaction_of}
use Rattle.tip_machine.specs.Transactions.{entering, has_key, has_ready, is_spent}
use Rattle.tip_machine.specs.Types.{PartyPlace, Transaction, seen}
use Rattle.tip_machine.specs.declared.transaction.PartyPlace.TheVariants.{Here, Out, Spent}
use Rattle.tip_outlook.specs.Searches.{HeldTransaction}
use Rattle.tip_rules.specs.Works.{Does, Held, work_of}
use Rattle.tip_table.proofs.Standing.{change_none}
use Rattle.tip_rules.proofs.Works.{may_entered, may_idle, may_reacted, nothing, then}

pub on_none : (key : Key) (rule : Transaction → Work → Work) (w : Work) → transaction_of key w.state ≡ None → on_key key rule w ≡ w
on_none key rule w none = ap (λ found. on found rule w) none

pub on_some : (key : Key) (rule : Transaction → Work → Work) (w : Work) (t : Transaction) → transaction_of key w.state ≡ Some t → on_key key rule w ≡ rule t w
on_some key rule w t found = ap (λ found. on found rule w) found

-- Dispatch

pub dispatch_none : (key : Key) (w : Work) → transaction_of key w.state ≡ None → dispatch key w ≡ w
unfolding dispatch
dispatch_none key w none = on_none key _ w none

pub dispatch_some : (key : Key) (w : Work) (t : Transaction) → transaction_of key w.state ≡ Some t → dispatch key w ≡ dispatched t.place t.phase key w
unfolding dispatch
dispatch_some key w t found = on_some key _ w t found

-- it changes no connection, and tells none
pub quiet_dispatch : (key : Key) (w : Work) → ((dispatch key w).state.connections ≡ w.state.connections) × ((dispatch key w).answer.sent ≡ w.answer.sent)
quiet_dispatch key w = step (transaction_of key w.state) refl where
  sent : (phase : Phase) (party : PartyNotes) (ready : Bool) → ((cond ready (give_out (errand_in phase) party key w) (let_go party key w)).state.connections ≡ w.state.connections) × ((cond ready (give_out (errand_in phase) party key w) (let_go party key w)).answer.sent ≡ w.answer.sent)
  sent phase party true = (refl, refl)
  sent phase party false = (refl, refl)

  at : (phase : Phase) (place : PartyPlace) → ((dispatched place phase key w).state.connections ≡ w.state.connections) × ((dispatched place phase key w).answer.sent ≡ w.answer.sent)
  at phase (Here party) = sent phase party (has_ready party)
  at phase (Out errand) = (refl, refl)
  at phase Spent = (refl, refl)

  step : (found : Option Transaction) → transaction_of key w.state ≡ found → ((dispatch key w).state.connections ≡ w.state.connections) × ((dispatch key w).answer.sent ≡ w.answer.sent)
  step None is = (ap (λ v. v.state.connections) (dispatch_none key w is), ap (λ v. v.answer.sent) (dispatch_none key w is))
  step (Some t) is = (ap (λ v. v.state.connections) (dispatch_some key w t is) ∙ (at t.phase t.place).0, ap (λ v. v.answer.sent) (dispatch_some key w t is) ∙ (at t.phase t.place).1)

module _ (s s' : Held) (key : Key) (t : HeldTransaction) (found : transaction_of key (work_of s).state ≡ Some (seen t)) where
  dispatch_is : (place : PartyPlace) → t.place ≡ place → dispatch key (work_of s) ≡ dispatched place t.txn.phase key (work_of s)
  unfolding dispatch
  dispatch_is place is = on_some key _ (work_of s) (seen t) found ∙ ap (λ p. dispatched p t.txn.phase key (work_of s)) is

  pub dispatched_out : (errand : Errand) → t.place ≡ Out errand → Does s s (dispatch key (work_of s))
  dispatched_out errand is = subst (Does s s) (sym (dispatch_is (Out errand) is)) (nothing s)

  pub dispatched_spent : t.place ≡ Spent → Does s s (dispatch key (work_of s))
  dispatched_spent is = subst (Does s s) (sym (dispatch_is Spent is)) (nothing s)

  pub dispatched_ready : (party : PartyNotes) → t.place ≡ Here party → has_ready party ≡ true → Does s s' (give_out (errand_in t.txn.phase) party key (work_of s)) → Does s s' (dispatch key (work_of s))
  dispatched_ready party is ready does = subst (Does s s') (sym (dispatch_is (Here party) is ∙ ap (λ b. cond b (give_out (errand_in t.txn.phase) party key (work_of s)) (let_go party key (work_of s))) ready)) does

  pub dispatched_done : (party : PartyNotes) → t.place ≡ Here party → has_ready party ≡ false → Does s s' (let_go party key (work_of s)) → Does s s' (dispatch key (work_of s))
  dispatched_done party is done does = subst (Does s s') (sym (dispatch_is (Here party) is ∙ ap (λ b. cond b (give_out (errand_in t.txn.phase) party key (work_of s)) (let_go party key (work_of s))) done)) does

  -- Release

  release_is : (spent reached : Bool) → is_spent t.place ≡ spent → list_any (is_on key) (work_of s).state.connections ≡ reached → release key (work_of s) ≡ cond (spent && not reached) (end key (work_of s)) (work_of s)
  unfolding release
  release_is spent reached is reach = on_some key _ (work_of s) (seen t) found ∙ ap (λ b. cond (b && not (list_any (is_on key) (work_of s).state.connections)) (end key (work_of s)) (work_of s)) is ∙ ap (λ b. cond (spent && not b) (end key (work_of s)) (work_of s)) reach

  pub released : is_spent t.place ≡ true → list_any (is_on key) (work_of s).state.connections ≡ false → Does s s' (end key (work_of s)) → Does s s' (release key (work_of s))
  released spent quiet does = subst (Does s s') (sym (release_is true false spent quiet)) does

  pub kept_reached : is_spent t.place ≡ true → list_any (is_on key) (work_of s).state.connections ≡ true → Does s s (release key (work_of s))
  kept_reached spent reached = subst (Does s s) (sym (release_is true true spent reached)) (nothing s)

  pub kept_unspent : is_spent t.place ≡ false → Does s s (release key (work_of s))
  kept_unspent unspent = subst (Does s s) (sym (release_is false (list_any (is_on key) (work_of s).state.connections) unspent refl)) (nothing s)

-- Abort

pub aborted : (a b c d e : Held) (key : Key) → Does a b (enter Aborted key (work_of a)) → Does b c (react aborts key (work_of b)) → Does c d (dispatch key (work_of c)) → Does d e (release key (work_of d)) → Does a e (abort key (work_of a))
unfolding abort
aborted a b c d e key first second third fourth =
    then a d e (release key) _ (then a c d (dispatch key) _ (then a b c (react aborts key) _ first second) third) fourth

pub ruleset dispatching = (dispatched_out, dispatched_spent, dispatched_ready, dispatched_done)

pub ruleset releasing = (released, kept_reached, kept_unspent)

pub ruleset aborting = (may_entered, may_reacted, aborted)

-- where it is not open, who is on it hears so
abort_none : (key : Key) (w : Work) → transaction_of key w.state ≡ None → react aborts key w ≡ abort key w
unfolding abort react dispatch release
abort_none key w none =
    sym (on_none key _ (react aborts key w) none)
    ∙ ap (λ v. release key v) (sym (dispatch_none key (react aborts key w) none))
    ∙ ap (λ ts. release key (dispatch key (react aborts key (record w { state = record w.state { transactions = ts } })))) (sym (change_none (has_key key) (entering Aborted) w.state.transactions none))

pub aborted_nobody : (a b : Held) (key : Key) → transaction_of key (work_of a).state ≡ None → Does a b (react aborts key (work_of a)) → Does a b (abort key (work_of a))
aborted_nobody a b key none does = subst (Does a b) (abort_none key (work_of a) none) does

pub ruleset aborting_open = (aborted_nobody, may_idle)
