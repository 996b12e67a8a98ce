-- Each realm has a name of its own, at its start and after each event.
use Rattle.std.proofs.Common.{◌≡◌, ◌≢◌, ℕ, zero, suc, Bool, true, false, List, [], ◌∷◌, ◌++◌, Option, Some, None, refl, ap, sym, ◌∙◌, subst, inl, inr}
use Rattle.std.specs.Prelude.{map, not, slice_get, option_map}
use Rattle.std.specs.List.{All, list_all}
use Rattle.std.specs.Str.{bytes_eq}
use Rattle.std.proofs.lemmas.List.Elements.{All-push}
use Rattle.std.proofs.lemmas.Option.{same_Some, none-some}
use Rattle.std.proofs.lemmas.Bool.{and_from, and_parts, cases_eq}
use Rattle.std.proofs.lemmas.Slice.Eq.{bytes_eq-Decides}
use Rattle.tip_machine.specs.Heads.{have_names, is_other, starting}
use Rattle.tip_machine.specs.States.{State, started}
use Rattle.tip_machine.specs.Types.{Answer, Event}
use Rattle.tip_machine.specs.declared.event.Outcome.{Outcome}
use Rattle.tip_machine.specs.declared.head.Start.{Start}
use Rattle.tip_machine.proofs.Stepping.{step-named}
use Rattle.tip_core.specs.Hosted.{HasEpoch, Hosted, HaveNames, Steps, realm}
use Rattle.tip_core.specs.Starting.{AreEmpty}
use Rattle.tip_rules.specs.Works.{Realms}
use Rattle.tip_core.proofs.Stepping.{hosted, new_realm}

-- Realms that are to start

all_more : (test : Start → Bool) (starts : List Start) (start : Start) → list_all test starts ≡ true → test start ≡ true → list_all test (starts ++ start ∷ []) ≡ true
all_more test [] start all last = rw last refl
all_more test (s ∷ starts) start all last = let parts = and_parts (test s) (list_all test starts) all in and_from (test s) _ parts.0 (all_more test starts start parts.1 last)

pub named_more : (starts : List Start) (start : Start) → have_names starts ≡ true → list_all (is_other start.name) starts ≡ true → have_names (starts ++ start ∷ []) ≡ true
named_more [] start named other = refl
named_more (s ∷ starts) start named other =
    let names = and_parts (list_all (λ (o : Start). not (bytes_eq s.name o.name)) starts) (have_names starts) named in
    let others = and_parts (is_other start.name s) (list_all (is_other start.name) starts) other in
    and_from (list_all (λ (o : Start). not (bytes_eq s.name o.name)) (starts ++ start ∷ [])) _ (all_more (λ o. not (bytes_eq s.name o.name)) starts start names.0 others.0) (named_more starts start names.1 others.1)

pub epochs_more : (starts : List Start) (start : Start) → All HasEpoch starts → HasEpoch start → All HasEpoch (starts ++ start ∷ [])
epochs_more starts start all last = All-push HasEpoch starts start all last

pub ruleset adding = (named_more, epochs_more)

-- a name and another

not_both : (b : Bool) → b ≡ true → not b ≡ true → ⊥
not_both true is not_is = absurd (cc)
not_both false is not_is = absurd (cc)

differ : (this that : List ℕ) → this ≡ that → not (bytes_eq this that) ≡ true → ⊥
differ this that same apart = not_both (bytes_eq this that) ((bytes_eq-Decides this that).1 same) apart

apart_at : (name : List ℕ) (starts : List Start) (place : ℕ) (start : Start) → list_all (λ (o : Start). not (bytes_eq name o.name)) starts ≡ true → slice_get starts place ≡ Some start → name ≢ start.name
apart_at name [] place start all is same = none-some start is
apart_at name (s ∷ starts) zero start all is same = differ name s.name (same ∙ ap (λ (o : Start). o.name) (sym (same_Some s start is))) (and_parts _ _ all).0
apart_at name (s ∷ starts) (suc place) start all is same = apart_at name starts place start (and_parts (not (bytes_eq name s.name)) _ all).1 is same

one_place : (starts : List Start) (place other : ℕ) (this that : Start) → have_names starts ≡ true → slice_get starts place ≡ Some this → slice_get starts other ≡ Some that → this.name ≡ that.name → place ≡ other
one_place [] place other this that named a b same = absurd (none-some this a)
one_place (s ∷ starts) zero zero this that named a b same = refl
one_place (s ∷ starts) zero (suc other) this that named a b same = absurd (apart_at s.name starts other that (and_parts _ (have_names starts) named).0 b (ap (λ (o : Start). o.name) (same_Some s this a) ∙ same))
one_place (s ∷ starts) (suc place) zero this that named a b same = absurd (apart_at s.name starts place this (and_parts _ (have_names starts) named).0 a (ap (λ (o : Start). o.name) (same_Some s that b) ∙ sym same))
one_place (s ∷ starts) (suc place) (suc other) this that named a b same = ap suc (one_place starts place other this that (and_parts (list_all (λ (o : Start). not (bytes_eq s.name o.name)) starts) (have_names starts) named).1 a b same)

-- a realm that has just started was to start under its name
began : (found : Option Start) (state : State) → option_map (λ start. started (starting start)) found ≡ Some state → (start : Start) × (found ≡ Some start) × (state.head.name ≡ start.name)
began None state is = absurd (none-some state is)
began (Some start) state is = (start, refl, ap (λ (s : State). s.head.name) (sym (same_Some _ state is)))

pub named_at_start : (core : Hosted) (starts : List Start) → have_names starts ≡ true → ((place : ℕ) → realm core place ≡ option_map (λ start. started (starting start)) (slice_get starts place)) → HaveNames core
named_at_start core starts named are place other this that a b same =
    let first = began (slice_get starts place) this (sym (are place) ∙ a) in
    let second = began (slice_get starts other) that (sym (are other) ∙ b) in
    one_place starts place other first.0 second.0 named first.1 second.1 (sym first.2 ∙ same ∙ second.2)

-- After an event

module _ (old new : Hosted) (place : ℕ) (event : Event) (outcome : Outcome) (answer : Answer) (steps : Steps old new place event outcome answer) where
  own_before : (found : Option State) (state : State) → realm old place ≡ found → realm new place ≡ Some state → (before : State) × (realm old place ≡ Some before) × (state.head.name ≡ before.head.name)
  own_before None state none is = absurd (none-some state (sym (steps.absent none).1 ∙ is))
  own_before (Some before) state here is = (before, here, ap (λ (s : State). s.head.name) (sym (same_Some _ state (sym (steps.own before here).1 ∙ is))) ∙ step-named before event outcome)

  before_it : (at : ℕ) (state : State) → realm new at ≡ Some state → (before : State) × (realm old at ≡ Some before) × (state.head.name ≡ before.head.name)
  before_it at state is = elim (cases_eq at place) [
    | inl same ↦ subst (λ p. (before : State) × (realm old p ≡ Some before) × (state.head.name ≡ before.head.name)) (sym same) (own_before (realm old place) state refl (ap (realm new) (sym same) ∙ is))
    | inr other ↦ (state, sym (steps.others at other) ∙ is, refl)
  ]

  pub still_named : HaveNames old → HaveNames new
  still_named named this that a b is_this is_that same =
      let first = before_it this a is_this in
      let second = before_it that b is_that in
      named this that first.0 second.0 first.1 second.1 (sym first.2 ∙ same ∙ second.2)

-- Where no realm changes, and where there is none

pub named_alike : (old new : Hosted) → ((place : ℕ) → realm new place ≡ realm old place) → HaveNames old → HaveNames new
named_alike old new same named this that a b is_this is_that names = named this that a b (sym (same this) ∙ is_this) (sym (same that) ∙ is_that) names

pub none_named : (core : Hosted) → ((place : ℕ) → realm core place ≡ None) → HaveNames core
none_named core none this that a b is_this is_that same = absurd (none-some a (sym (none this) ∙ is_this))

pub heads_named : (starts : List Start) (realms : Realms) (turns : ℕ) → have_names starts ≡ true → realms.heads.items ≡ map starting starts → AreEmpty realms.tables.items → HaveNames (hosted realms turns)
heads_named starts realms turns named are empty = named_at_start (hosted realms turns) starts named (new_realm starts realms are empty turns)
