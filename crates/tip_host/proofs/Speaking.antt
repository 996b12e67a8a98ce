-- Which connections an event speaks to, one line after another.
use Rattle.std.proofs.Common.{◌≡◌, ◌++◌, ◌∷◌, ◌∙◌, ◌⊎◌, ◌==◌, [], ℕ, Bool, true, false, List, inl, inr, refl, subst, sym}
use Rattle.std.specs.Prelude.{◌||◌, not}
use Rattle.std.specs.Cmp.{unsigned_Decides}
use Rattle.std.specs.List.{list_any}
use Rattle.std.proofs.lemmas.Bool.{and_from, and_parts, both_ways, not-true, not_from_false, or_cases, or_from, or_left, or_right}
use Rattle.std.proofs.lemmas.List.Folds.{list_any-append}
use Rattle.arrayvec.specs.ArrayVec.{array_vec_len}
use Rattle.tip_machine.specs.Invariants.Links.{are_distinct}
use Rattle.tip_machine.specs.Steps.{is_for}
use Rattle.tip_machine.specs.declared.answer.Sent.{Sent}
use Rattle.tip_host.specs.Speaking.{Speaks, goes_to, names}
use Rattle.tip_host.specs.declared.spoken.Spoken.{Spoken}

abbrev is_one : ℕ → ℕ → Bool
is_one number other = number == other

-- one more that is not among numbers that are apart
apart_behind : (numbers : List ℕ) (number : ℕ) → list_any (λ (named : ℕ). named == number) numbers ≡ false → are_distinct is_one numbers ≡ true → are_distinct is_one (numbers ++ number ∷ []) ≡ true
apart_behind [] number none apart = refl
apart_behind (first ∷ numbers) number none apart = step (first == number) refl (apart_behind numbers number) where
  step : (b : Bool) → (first == number) ≡ b → (list_any (λ (named : ℕ). named == number) numbers ≡ false → are_distinct is_one numbers ≡ true → are_distinct is_one (numbers ++ number ∷ []) ≡ true) → are_distinct is_one (first ∷ (numbers ++ number ∷ [])) ≡ true
  step true is more = absurd (both_ways (list_any (λ (named : ℕ). named == number) (first ∷ numbers)) none (or_left (first == number) _ is))
  step false is more =
      let parts = and_parts (not (list_any (is_one first) numbers)) (are_distinct is_one numbers) apart in
      let rest : list_any (λ (named : ℕ). named == number) numbers ≡ false = subst (λ b. b || list_any (λ (named : ℕ). named == number) numbers ≡ false) is none in
      and_from _ _ (not_from_false _ (list_any-append (is_one first) numbers (number ∷ []) ∙ or_from _ _ (not-true _ parts.0) (or_from _ _ is refl))) (more rest parts.1)

module _ (before : List Sent) (one : Sent) where
  goes_still : (number : ℕ) → goes_to before number ≡ true → goes_to (before ++ one ∷ []) number ≡ true
  goes_still number is = list_any-append (is_for number) before (one ∷ []) ∙ or_left (goes_to before number) _ is

  goes_now : goes_to (before ++ one ∷ []) one.connection ≡ true
  goes_now = list_any-append (is_for one.connection) before (one ∷ []) ∙ or_right (goes_to before one.connection) _ (or_left (is_for one.connection one) false ((unsigned_Decides one.connection one.connection).1 refl))

  -- it went before, or it goes now
  goes_which : (number : ℕ) → goes_to (before ++ one ∷ []) number ≡ true → (goes_to before number ≡ true) ⊎ (one.connection ≡ number)
  goes_which number is = elim (or_cases (goes_to before number) (is_for number one || false) (sym (list_any-append (is_for number) before (one ∷ [])) ∙ is)) [
    | inl was ↦ inl was
    | inr now ↦ elim (or_cases (is_for number one) false now) [ inl here ↦ inr ((unsigned_Decides one.connection number).0 here) | inr wrong ↦ absurd (cc) ]
  ]

  pub speaks_still : (spoken : Spoken) → Speaks before spoken → names spoken one.connection ≡ true → Speaks (before ++ one ∷ []) spoken
  speaks_still spoken speaks named = record {
    only = λ number is. goes_still number (speaks.only number is);
    all = λ whole number is. elim (goes_which number is) [ inl was ↦ speaks.all whole number was | inr here ↦ subst (λ (n : ℕ). names spoken n ≡ true) here named ];
    once = speaks.once;
    full = speaks.full;
    ninth = λ more. (let other = speaks.ninth more in (other.0, goes_still other.0 other.1, other.2));
  }

  pub speaks_more : (spoken : Spoken) → Speaks before spoken → names spoken one.connection ≡ false → array_vec_len spoken.numbers ≡ 8 → Speaks (before ++ one ∷ []) (record spoken { more = true })
  speaks_more spoken speaks unnamed full = record {
    only = λ number is. goes_still number (speaks.only number is);
    all = λ whole. absurd (cc);
    once = speaks.once;
    full = λ more. full;
    ninth = λ more. (one.connection, goes_now, unnamed);
  }

  pub speaks_named : (spoken new : Spoken) → Speaks before spoken → names spoken one.connection ≡ false → (array_vec_len spoken.numbers ≡ 8 → ⊥) → new.numbers.items ≡ spoken.numbers.items ++ one.connection ∷ [] → new.more ≡ spoken.more → Speaks (before ++ one ∷ []) new
  speaks_named spoken new speaks unnamed room items more = record {
    only = λ number is. elim (or_cases (names spoken number) ((one.connection == number) || false) (sym (list_any-append (λ (named : ℕ). named == number) spoken.numbers.items (one.connection ∷ [])) ∙ subst (λ (l : List ℕ). list_any (λ (named : ℕ). named == number) l ≡ true) items is)) [
      | inl was ↦ goes_still number (speaks.only number was)
      | inr now ↦ elim (or_cases (one.connection == number) false now) [ inl here ↦ subst (λ (n : ℕ). goes_to (before ++ one ∷ []) n ≡ true) ((unsigned_Decides one.connection number).0 here) goes_now | inr wrong ↦ absurd (cc) ]
    ];
    all = λ whole number is. subst (λ (l : List ℕ). list_any (λ (named : ℕ). named == number) l ≡ true) (sym items) (list_any-append (λ (named : ℕ). named == number) spoken.numbers.items (one.connection ∷ []) ∙ elim (goes_which number is) [
      | inl was ↦ or_left (names spoken number) _ (speaks.all (sym more ∙ whole) number was)
      | inr here ↦ or_right (names spoken number) _ (or_left (one.connection == number) false ((unsigned_Decides one.connection number).1 here))
    ]);
    once = subst (λ (l : List ℕ). are_distinct is_one l ≡ true) (sym items) (apart_behind spoken.numbers.items one.connection unnamed speaks.once);
    full = λ is. absurd (room (speaks.full (sym more ∙ is)));
    ninth = λ is. absurd (room (speaks.full (sym more ∙ is)));
  }
