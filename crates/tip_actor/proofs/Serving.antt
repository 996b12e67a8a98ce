-- One event of a realm by a stored core, whatever it keeps its rows in.
use Rattle.std.proofs.Common.{◌≡◌, ◌≢◌, ◌∙◌, ℕ, Bool, true, false, List, Option, Some, None, refl, ap, subst}
use Rattle.std.specs.Prelude.{◌&&◌, is_some, if◌then◌else◌}
use Rattle.std.specs.Str.{bytes_eq}
use Rattle.std.proofs.lemmas.Bool.{false≢true}
use Rattle.std.proofs.lemmas.Slice.Eq.{bytes_eq-Decides}
use Rattle.tip_core.specs.Hosted.{HaveNames, Hosted, Steps, realm}
use Rattle.tip_stored.specs.Keeping.{Keeps, is_change, log_after}
use Rattle.tip_stored.proofs.Parts.{epochs_stay, part_after, part_stays}
use Rattle.tip_machine.proofs.Stepping.{step-named}
use Rattle.tip_machine.specs.Moves.{rows_after}
use Rattle.tip_machine.specs.States.{State}
use Rattle.tip_machine.specs.Steps.{fits, step, wants}
use Rattle.tip_machine.specs.Types.{Event}
use Rattle.tip_machine.specs.declared.event.Change.{Change}
use Rattle.tip_machine.specs.declared.event.Outcome.{Outcome}
use Rattle.tip_machine.specs.declared.event.Outcome.TheVariants.{NoChange, Stored, Refused}
use Rattle.tip_rows.specs.Keys.{Key}
use Rattle.tip_rows.specs.Logs.{Keeping, Log}
use Rattle.tip_rows.specs.declared.row.Row.{Row}
use Rattle.tip_actor.specs.Acting.{outcome_of, still_due}
use Rattle.tip_actor.specs.Halting.{AllStay}
use Rattle.tip_actor.proofs.Halting.{all_same, all_stood}
use Rattle.tip_actor.specs.Standing.{Happened, StoredCore, IsServed, IsStored, Serves}

-- the outcome is that of a store which refuses where that is due alone
outcome_is : (due : Bool) (change : Option Change) (outcome : Outcome) → fits change outcome ≡ true → (due ≡ true → outcome ≢ Stored) → (outcome ≡ Refused → due ≡ true) → outcome ≡ outcome_of due change
outcome_is due None NoChange fit kept alone = refl
outcome_is due None Stored fit kept alone = absurd (cc)
outcome_is due None Refused fit kept alone = absurd (cc)
outcome_is due (Some change) NoChange fit kept alone = absurd (cc)
outcome_is true (Some change) Stored fit kept alone = absurd (kept refl refl)
outcome_is true (Some change) Refused fit kept alone = refl
outcome_is false (Some change) Stored fit kept alone = refl
outcome_is false (Some change) Refused fit kept alone = absurd (false≢true (alone refl))

due_then : (due : Bool) (change : Option Change) → (if is_change change && true then false else due) ≡ still_due due change
due_then due None = refl
due_then due (Some change) = refl

and_false : (b : Bool) → b && false ≡ false
and_false true = refl
and_false false = refl

pub itself : (name : List ℕ) → bytes_eq name name ≡ true
itself name = (bytes_eq-Decides name name).1 refl

module _ {S : Type 0} (kept : Keeping S) where
  -- what is stored of a realm once a change of its rows was asked for
  stored_then : (old new : S) (name : List ℕ) (change : Option Change) (outcome : Outcome) (epoch : ℕ) (rows : List (Key × Row)) → Keeps kept name change outcome old new → IsStored kept old name epoch rows → IsStored kept new name epoch (rows_after change outcome rows)
  stored_then old new name change outcome epoch rows keeps stored = record {
    log = log_after name change outcome stored.log;
    stood = keeps.rows stored.log stored.stood;
    part = part_after name change outcome stored.log epoch rows stored.part;
    known = ap (λ f. is_some (f name)) (epochs_stay name change outcome stored.log) ∙ stored.known;
  }

  -- and what is stored of another
  others_stored : (old new : S) (name : List ℕ) (change : Option Change) (outcome : Outcome) (other : List ℕ) (epoch : ℕ) (rows : List (Key × Row)) → bytes_eq name other ≡ false → Keeps kept name change outcome old new → IsStored kept old other epoch rows → IsStored kept new other epoch rows
  others_stored old new name change outcome other epoch rows differ keeps stored = record {
    log = log_after name change outcome stored.log;
    stood = keeps.rows stored.log stored.stood;
    part = part_stays name change outcome stored.log other epoch rows differ stored.part;
    known = ap (λ f. is_some (f other)) (epochs_stay name change outcome stored.log) ∙ stored.known;
  }

  -- the store is relied on no more than before
  pub still_true : (core : Hosted) (old new : S) (place : ℕ) (change : Option Change) (outcome : Outcome) (found : Option State) → realm core place ≡ found → (realm core place ≡ None → new ≡ old) →
      ((state : State) → realm core place ≡ Some state → Keeps kept state.head.name change outcome old new) → kept.is_true new → kept.is_true old
  still_true core old new place change outcome None none absent keeps is = subst kept.is_true (absent none) is
  still_true core old new place change outcome (Some state) here absent keeps is = (keeps state here).truth is

  -- a change that was refused leaves all that is stored
  log_refused : (name : List ℕ) (change : Option Change) (log : Log) → log_after name change Refused log ≡ log
  log_refused name None log = refl
  log_refused name (Some change) log = refl

  pub refused_stays : (core : Hosted) (old new : S) (place : ℕ) (change : Option Change) (outcome : Outcome) (found : Option State) → realm core place ≡ found → outcome ≡ Refused → (realm core place ≡ None → new ≡ old) →
      ((state : State) → realm core place ≡ Some state → Keeps kept state.head.name change outcome old new) → AllStay kept old new
  refused_stays core old new place change outcome None none refused absent keeps = all_same kept old new (absent none)
  refused_stays core old new place change outcome (Some state) here refused absent keeps = all_stood kept old new (λ log stood. subst (kept.stands new) (ap (λ o. log_after state.head.name change o log) refused ∙ log_refused state.head.name change log) ((keeps state here).rows log stood))

  pub serves : (old new : StoredCore S) (place : ℕ) (state : State) (due : Bool) (event : Event) (happened : Happened) → IsServed kept old place state due →
      Steps old.core new.core place event happened.outcome happened.answer → happened.change ≡ wants state event → fits happened.change happened.outcome ≡ true → HaveNames new.core →
      Keeps kept state.head.name happened.change happened.outcome old.store new.store →
      (happened.outcome ≡ Refused → due ≡ true) →
      Serves kept old new place state due event happened
  serves old new place state due event happened served steps change fit names keeps alone =
      let outcome : happened.outcome ≡ outcome_of due happened.change = outcome_is due happened.change happened.outcome fit (λ is. keeps.due (served.due_is ∙ is)) alone in
      let outcome_now : happened.outcome ≡ outcome_of due (wants state event) = outcome ∙ ap (outcome_of due) change in
      let went = steps.own state served.state_is in
      let same_name = step-named state event (outcome_of due (wants state event)) in
      record {
        change = change;
        outcome = outcome_now;
        answer = went.0 ∙ ap (λ o. (step state event o).answer) outcome_now;
        served = record {
          state_is = went.1 ∙ ap (λ o. Some (step state event o).state) outcome_now;
          names = names;
          due_is = ap (kept.is_due new.store) same_name ∙ keeps.spent state.head.name ∙ ap (λ b. if is_change happened.change && b then false else kept.is_due old.store state.head.name) (itself state.head.name) ∙ ap (λ d. if is_change happened.change && true then false else d) served.due_is ∙ due_then due happened.change ∙ ap (still_due due) change;
        };
        stored = λ epoch rows stored.
            let then_ = stored_then old.store new.store state.head.name happened.change happened.outcome epoch rows keeps stored in
            subst (λ c. IsStored kept new.store state.head.name epoch (rows_after c (outcome_of due (wants state event)) rows)) change
            (subst (λ o. IsStored kept new.store state.head.name epoch (rows_after happened.change o rows)) outcome_now then_);
        leaves = record {
          realms = steps.others;
          due = λ other differ. keeps.spent other ∙ ap (λ b. if is_change happened.change && b then false else kept.is_due old.store other) differ ∙ ap (λ b. if b then false else kept.is_due old.store other) (and_false (is_change happened.change));
          stored = λ other epoch rows differ stored. others_stored old.store new.store state.head.name happened.change happened.outcome other epoch rows differ keeps stored;
        };
      }
