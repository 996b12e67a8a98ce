-- Keys in a list: which are among them, and that none stands twice.
use Rattle.std.proofs.Common.{◌≡◌, ◌≢◌, ◌<◌, ℕ, zero, suc, List, [], ◌∷◌, length, get_or, Bool, true, false, refl, arith, ◌∙◌, subst, inl, inr}
use Rattle.std.specs.Prelude.{◌==◌, ◌||◌, insert, remove}
use Rattle.std.proofs.lemmas.Bool.{cases_Bool}
use Rattle.std.proofs.lemmas.Bool.Decides.{nat_tests}
use Rattle.tip_table.specs.Entries.{AreApart, is_among}

pub differs : (k key : ℕ) → (k == key) ≡ false → k ≢ key
differs k key apart same = let wrong : (k == key) ≡ true = grind (arith, nat_tests) in absurd (cc)

pub head_apart : (k key : ℕ) (keys : List ℕ) → is_among (k ∷ keys) key ≡ false → (k == key) ≡ false
head_apart k key keys none = step (k == key) none where
  step : (b : Bool) → (b || is_among keys key) ≡ false → b ≡ false
  step true wrong = absurd (cc)
  step false is = refl

pub tail_apart : (k key : ℕ) (keys : List ℕ) → is_among (k ∷ keys) key ≡ false → is_among keys key ≡ false
tail_apart k key keys none = step (k == key) none where
  step : (b : Bool) → (b || is_among keys key) ≡ false → is_among keys key ≡ false
  step true wrong = absurd (cc)
  step false is = is

turned : (k key : ℕ) → (k == key) ≡ false → (key == k) ≡ false
turned k key apart = grind (arith, nat_tests, apart)

-- one of them is it
pub is_somewhere : (keys : List ℕ) (key : ℕ) → is_among keys key ≡ true → ((k : ℕ) → k < length keys → (get_or keys k 0 == key) ≡ false) → ⊥
is_somewhere [] key among none = absurd (cc)
is_somewhere (k ∷ ks) key among none =
    let other : (k == key) ≡ false = none 0 (omega arith) in
    is_somewhere ks key (simp other at among) (λ j within. none (suc j) (omega (arith, within)))

-- one more
pub among-insert : (keys : List ℕ) (n key other : ℕ) → is_among (insert keys n key) other ≡ ((key == other) || is_among keys other)
among-insert [] zero key other = refl
among-insert [] (suc n) key other = refl
among-insert (k ∷ ks) zero key other = refl
among-insert (k ∷ ks) (suc n) key other = rw (among-insert ks n key other) (either (k == other) (key == other)) where
  either : (a b : Bool) → (a || (b || is_among ks other)) ≡ (b || (a || is_among ks other))
  either true true = refl
  either true false = refl
  either false true = refl
  either false false = refl

pub apart-insert : (keys : List ℕ) (n key : ℕ) → AreApart keys → is_among keys key ≡ false → AreApart (insert keys n key)
apart-insert [] zero key apart none = (refl, tt)
apart-insert [] (suc n) key apart none = (refl, tt)
apart-insert (k ∷ ks) zero key apart none = (none, apart)
apart-insert (k ∷ ks) (suc n) key apart none =
    (among-insert ks n key k ∙ rw (turned k key (head_apart k key ks none), apart.0) refl, apart-insert ks n key apart.1 (tail_apart k key ks none))

-- one less
pub among-get : (keys : List ℕ) (i d : ℕ) → i < length keys → is_among keys (get_or keys i d) ≡ true
among-get [] i d within = absurd (omega arith)
among-get (k ∷ ks) zero d within = let own : (k == k) ≡ true = grind (arith, nat_tests) in simp own refl
among-get (k ∷ ks) (suc i) d within = rw (among-get ks i d (omega arith)) (either (k == get_or ks i d)) where
  either : (b : Bool) → (b || true) ≡ true
  either true = refl
  either false = refl

pub later_apart : (k : ℕ) (ks : List ℕ) (i d : ℕ) → is_among ks k ≡ false → i < length ks → (k == get_or ks i d) ≡ false
later_apart k ks i d apart within = elim (cases_Bool (k == get_or ks i d)) [
  | inl same ↦ absurd (
      let is : get_or ks i d ≡ k = grind (arith, nat_tests, same) in
      let wrong : is_among ks k ≡ true = subst (λ n. is_among ks n ≡ true) is (among-get ks i d within) in cc)
  | inr apart ↦ apart
]

among-removed : (keys : List ℕ) (i key : ℕ) → is_among keys key ≡ false → is_among (remove keys i) key ≡ false
among-removed [] zero key none = refl
among-removed [] (suc i) key none = refl
among-removed (k ∷ ks) zero key none = tail_apart k key ks none
among-removed (k ∷ ks) (suc i) key none = rw (head_apart k key ks none, among-removed ks i key (tail_apart k key ks none)) refl

pub apart-removed : (keys : List ℕ) (i : ℕ) → AreApart keys → AreApart (remove keys i)
apart-removed [] zero apart = tt
apart-removed [] (suc i) apart = tt
apart-removed (k ∷ ks) zero apart = apart.1
apart-removed (k ∷ ks) (suc i) apart = (among-removed ks i k apart.0, apart-removed ks i apart.1)
