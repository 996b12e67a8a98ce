-- An event that happens in the room that was made for it.
use Rattle.std.proofs.Common.{◌≡◌, ◌∙◌, ℕ, true, Option, Some, None, ap, refl, subst}
use Rattle.tip_agreement.proofs.Uncalled.{step_uncalled}
use Rattle.tip_core.specs.Hosted.{Hosted, Steps, realm}
use Rattle.tip_line.specs.declared.refusal.Refusal.TheVariants.{NoRealm}
use Rattle.tip_machine.proofs.Stepping.{returned-silent}
use Rattle.tip_machine.specs.States.{State}
use Rattle.tip_machine.specs.Types.{Answer, Event}
use Rattle.tip_machine.specs.declared.event.Outcome.{Outcome}
use Rattle.tip_rows.specs.Logs.{Keeping}
use Rattle.tip_stored.specs.Errands.{goes_uncalled}
use Rattle.tip_stored.specs.Keeping.{Happened, Happens, StoredCore, Keeps}

-- the room changes no realm, and not the store
pub in_room : {S : Type 0} (kept : Keeping S) (old made new : StoredCore S) (place : ℕ) (event : Event) (happened : Happened) →
    ((at : ℕ) → realm made.core at ≡ realm old.core at) → made.store ≡ old.store → Happens kept made new place event happened → Happens kept old new place event happened
in_room kept old made new place event happened same stays is = record {
  steps = record {
    own = λ state there. is.steps.own state (same place ∙ there);
    others = λ other differ. is.steps.others other differ ∙ same other;
    absent = λ none. is.steps.absent (same place ∙ none);
  };
  wanted = λ state there. is.wanted state (same place ∙ there);
  absent = λ none. let nothing = is.absent (same place ∙ none) in (nothing.0, nothing.1 ∙ stays);
  fits = is.fits;
  keeps = λ state there. subst (λ s. Keeps kept state.head.name happened.change happened.outcome s new.store) stays (is.keeps state (same place ∙ there));
  names = is.names;
}

-- who goes out was not called since its errand was given; where no realm is there, nobody goes out
pub went_uncalled : (old new : Hosted) (place : ℕ) (event : Event) (outcome : Outcome) (answer : Answer) → Steps old new place event outcome answer → goes_uncalled answer.work ≡ true
went_uncalled old new place event outcome answer steps = by (realm old place) refl where
  by : (found : Option State) → realm old place ≡ found → goes_uncalled answer.work ≡ true
  by (Some state) here = ap (λ (a : Answer). goes_uncalled a.work) (steps.own state here).0 ∙ step_uncalled state event outcome
  by None absent = ap (λ (a : Answer). goes_uncalled a.work) (steps.absent absent).0 ∙ ap goes_uncalled (returned-silent NoRealm event).1
