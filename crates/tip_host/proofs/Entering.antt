-- An entry in the journal and in the pass.
use Rattle.std.proofs.Common.{◌≡◌, ◌∙◌, ◌+◌, ◌^◌, ◌<◌, ◌++◌, ◌∷◌, [], ℕ, Bool, false, true, List, Option, None, Some, ap, refl, subst, sym}
use Rattle.std.specs.Prelude.{IfSome, nat_lt, slice_get}
use Rattle.std.specs.Option.{option_map, option_map_or}
use Rattle.tip_journal.specs.Journal.{with_entry}
use Rattle.tip_journal.specs.Journals.{epoch_at, last_number, with_current}
use Rattle.tip_machine.specs.States.{State}
use Rattle.tip_machine.specs.Types.{Event}
use Rattle.tip_machine.specs.declared.event.Outcome.{Outcome}
use Rattle.tip_machine.specs.declared.head.Head.{Head}
use Rattle.tip_host.proofs.Journals.{bare_entry, epoch_bare, number_bare}
use Rattle.tip_honest.specs.Honesty.{Journal}
use Rattle.tip_host.specs.Entries.{Enters, Noted, bare, takes_entry}
use Rattle.tip_host.specs.Notings.{AreOf}
use Rattle.tip_honest.specs.declared.entry.Entry.{Entry}
use Rattle.tip_host.specs.declared.noting.Noting.{Noting}

abbrev entry_of : Event → Outcome → Entry
entry_of event outcome = record { event = event; outcome = outcome }

abbrev noted_as : ℕ → ℕ → ℕ → Event → Outcome → Noted
noted_as place epoch number event outcome = record { realm = place; epoch = epoch; number = number; entry = entry_of event outcome }

pub entered_so : (old new : List (List Journal)) (noted noted' : List Noted) (place : ℕ) (event : Event) (outcome : Outcome) (noting : Noting) (epoch number : ℕ) → AreOf event (Some noting) →
    new ≡ with_current place (with_entry (entry_of noting.journal outcome)) old → number ≡ last_number old place + 1 → epoch ≡ epoch_at old place →
    noted' ≡ noted ++ noted_as place epoch number noting.pass outcome ∷ [] →
    Enters true (bare old) (bare new) noted noted' place (entry_of event outcome) (Some number)
entered_so old new noted noted' place event outcome noting epoch number are new_is number_is epoch_is noted_is =
    let number_now : number ≡ last_number (bare old) place + 1 = number_is ∙ ap (λ n. n + 1) (sym (number_bare old place)) in
    let epoch_now : epoch ≡ epoch_at (bare old) place = epoch_is ∙ sym (epoch_bare old place) in (
      ap bare new_is ∙ bare_entry old place (entry_of noting.journal outcome) ∙ ap (λ e. with_current place (with_entry (entry_of e outcome)) (bare old)) are.0,
      noted_is ∙ ap (λ e. noted ++ noted_as place e number noting.pass outcome ∷ []) epoch_now ∙ ap (λ n. noted ++ noted_as place (epoch_at (bare old) place) n noting.pass outcome ∷ []) number_now ∙ ap (λ e. noted ++ noted_as place (epoch_at (bare old) place) (last_number (bare old) place + 1) e outcome ∷ []) are.1,
      ap Some number_now,
    )

-- Whether one is taken

takes_as : (s : Option State) → option_map_or (λ (head : Head). nat_lt head.entries head.limits.entries) (option_map (λ (state : State). state.head) s) false ≡ takes_entry s
takes_as None = refl
takes_as (Some state) = refl

pub takes_is : (heads : List Head) (place : ℕ) (s : Option State) → slice_get heads place ≡ option_map (λ (state : State). state.head) s → (result : Bool) → result ≡ option_map_or (λ (head : Head). nat_lt head.entries head.limits.entries) (slice_get heads place) false → result ≡ takes_entry s
takes_is heads place s here result is = is ∙ ap (λ (o : Option Head). option_map_or (λ (head : Head). nat_lt head.entries head.limits.entries) o false) here ∙ takes_as s

pub few_here : (heads : List Head) (place : ℕ) (s : Option State) → slice_get heads place ≡ option_map (λ (state : State). state.head) s → (state : State) → s ≡ Some state → IfSome (slice_get heads place) (λ head. head.entries + 1 < 2 ^ 32) → state.head.entries + 1 < 2 ^ 32
few_here heads place s here state is few = subst (λ (o : Option Head). IfSome o (λ head. head.entries + 1 < 2 ^ 32)) (here ∙ ap (option_map (λ (state : State). state.head)) is) few
