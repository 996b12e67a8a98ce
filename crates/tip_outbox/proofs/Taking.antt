-- What goes to a connection, once the first of it is taken out.
use Rattle.std.proofs.Common.{◌≡◌, ◌≢◌, ◌∙◌, ◌∷◌, [], ℕ, ◌+◌, ◌==◌, ◌<◌, ◌≤◌, zero, suc, Bool, true, false, List, Some, None, drop, length, map, arith, refl, ap, sym, inl, inr}
use Rattle.std.specs.Prelude.{filter, nat_lt, position, remove, slice_get, slice_index_or}
use Rattle.std.specs.List.{position_or_len}
use Rattle.std.proofs.lemmas.Bool.{cases_Bool, cases_lt}
use Rattle.std.proofs.lemmas.Bool.Decides.{nat_tests}
use Rattle.std.proofs.lemmas.Option.{none-some, same_Some, slice_get-get_or}
use Rattle.tip_machine.specs.Steps.{is_for}
use Rattle.tip_machine.specs.declared.answer.Sent.{Sent}
use Rattle.tip_outbox.specs.Waiting.{sent_to}

module _ {A : Type 0} (p : A → Bool) where
  nowhere : (xs : List A) → length xs ≤ position_or_len p xs → filter p xs ≡ []
  nowhere [] past = refl
  nowhere (x ∷ xs) past = elim (cases_Bool (p x)) [
    | inl is ↦ absurd (let here : position_or_len p (x ∷ xs) ≡ 0 = rw is refl in omega (arith, here, past))
    | inr is ↦ (let less : position_or_len p (x ∷ xs) ≡ position_or_len p xs + 1 = rw is (omega arith) in rw is (nowhere xs (omega (arith, less, past))))
  ]

  -- one in front that does not pass changes nothing
  passed_over : (x y : A) (xs : List A) (place : ℕ) → p x ≡ false → filter p xs ≡ y ∷ filter p (remove xs place) → filter p (x ∷ xs) ≡ y ∷ filter p (remove (x ∷ xs) (suc place))
  passed_over x y xs place not_it goes = rw not_it goes

  first_at : (xs : List A) (place : ℕ) → position_or_len p xs ≡ place → place < length xs → (x : A) × (slice_get xs place ≡ Some x) × (p x ≡ true) × (filter p xs ≡ x ∷ filter p (remove xs place))
  first_at [] place stands within = absurd (omega (arith, within))
  first_at (x ∷ xs) zero stands within = elim (cases_Bool (p x)) [
    | inl is ↦ (x, refl, is, rw is refl)
    | inr is ↦ absurd (let more : position_or_len p (x ∷ xs) ≡ position_or_len p xs + 1 = rw is (omega arith) in omega (arith, more, stands))
  ]
  first_at (x ∷ xs) (suc place) stands within = elim (cases_Bool (p x)) [
    | inl is ↦ absurd (let none : position_or_len p (x ∷ xs) ≡ 0 = rw is refl in omega (arith, none, stands))
    | inr is ↦
        let next : position_or_len p (x ∷ xs) ≡ position_or_len p xs + 1 = rw is (omega arith) in
        let more = first_at xs place (omega (arith, next, stands)) (omega (arith, within)) in
        (more.0, more.1, more.2, passed_over x more.0 xs place is more.3)
  ]

  -- where a search finds none, none goes
  pub none_goes : (xs : List A) → position p xs ≡ None → filter p xs ≡ []
  none_goes xs none = elim (cases_lt (position_or_len p xs) (length xs)) [
    | inl within ↦ absurd (let found : position p xs ≡ Some (position_or_len p xs) = (let test : nat_lt (position_or_len p xs) (length xs) ≡ true = grind (arith, nat_tests) in rw test refl) in none-some (position_or_len p xs) (sym none ∙ found))
    | inr past ↦ nowhere xs past
  ]

  -- where it finds one, that goes first, and behind it what is left
  pub first_goes : (xs : List A) (place : ℕ) → position p xs ≡ Some place → (x : A) × (slice_get xs place ≡ Some x) × (p x ≡ true) × (filter p xs ≡ x ∷ filter p (remove xs place)) × (place < length xs)
  first_goes xs place some = elim (cases_lt (position_or_len p xs) (length xs)) [
    | inl within ↦
        let found : position p xs ≡ Some (position_or_len p xs) = (let test : nat_lt (position_or_len p xs) (length xs) ≡ true = grind (arith, nat_tests) in rw test refl) in
        let same : position_or_len p xs ≡ place = same_Some _ _ (sym found ∙ some) in
        let less : place < length xs = omega (arith, same, within) in
        let at = first_at xs place same less in
        (at.0, at.1, at.2, at.3, less)
    | inr past ↦ absurd (let none : position p xs ≡ None = (let test : nat_lt (position_or_len p xs) (length xs) ≡ false = grind (arith, nat_tests) in rw test refl) in none-some place (sym none ∙ some))
  ]

  -- one that does not pass may be taken out
  pub others_go : (xs : List A) (place : ℕ) (x : A) → slice_get xs place ≡ Some x → p x ≡ false → filter p (remove xs place) ≡ filter p xs
  others_go [] place x here fails = absurd (none-some x here)
  others_go (y ∷ xs) zero x here fails = let not_it : p y ≡ false = ap p (same_Some y x here) ∙ fails in rw not_it refl
  others_go (y ∷ xs) (suc place) x here fails = elim (cases_Bool (p y)) [
    | inl is ↦ rw is (ap (λ l. y ∷ l) (others_go xs place x here fails))
    | inr is ↦ rw is (others_go xs place x here fails)
  ]

module _ (sent : List Sent) (number place : ℕ) (one : Sent) (found : position (is_for number) sent ≡ Some place) (is : one ≡ slice_index_or sent place one) where
  first : (x : Sent) × (slice_get sent place ≡ Some x) × (is_for number x ≡ true) × (filter (is_for number) sent ≡ x ∷ filter (is_for number) (remove sent place)) × (place < length sent)
  first = first_goes (is_for number) sent place found

  same : first.0 ≡ one
  same = same_Some first.0 one (sym first.1 ∙ slice_get-get_or sent place one first.4 ∙ ap Some (sym is))

  goes : sent_to number sent ≡ one.item ∷ sent_to number (remove sent place)
  goes = ap (map (λ s. s.item)) first.3 ∙ ap (λ (s : Sent). s.item ∷ sent_to number (remove sent place)) same

  pub taken_first : Some one.item ≡ slice_get (sent_to number sent) 0
  taken_first = sym (ap (λ l. slice_get l 0) goes)

  pub taken_left : sent_to number (remove sent place) ≡ drop 1 (sent_to number sent)
  taken_left = sym (ap (drop 1) goes)

  pub taken_others : (other : ℕ) → other ≢ number → sent_to other (remove sent place) ≡ sent_to other sent
  taken_others other differ =
      let own : (one.connection == number) ≡ true = ap (is_for number) (sym same) ∙ first.2 in
      let not_it : (one.connection == other) ≡ false = grind (arith, nat_tests) in
      ap (map (λ s. s.item)) (others_go (is_for other) sent place one (first.1 ∙ ap Some same) not_it)

-- where none goes
pub none_taken : (sent : List Sent) (number : ℕ) → position (is_for number) sent ≡ None → sent_to number sent ≡ []
none_taken sent number none = ap (map (λ s. s.item)) (none_goes (is_for number) sent none)
