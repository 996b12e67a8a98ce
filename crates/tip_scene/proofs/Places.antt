-- Where the first item of a list stands that passes a test.
use Rattle.std.proofs.Common.{◌≡◌, ◌<◌, ◌≤◌, ◌+◌, ◌==◌, ℕ, suc, zero, List, [], ◌∷◌, Bool, true, false, Some, length, arith, refl, sym, ap, ◌∙◌}
use Rattle.std.specs.Cmp.{unsigned_Decides}
use Rattle.std.specs.List.{position_or_len}
use Rattle.std.specs.Prelude.{slice_get}
use Rattle.std.proofs.lemmas.Bool.{false≢true}
use Rattle.std.proofs.lemmas.List.Folds.{find_at}
use Rattle.std.proofs.lemmas.Option.{none-some, same_Some}
use Rattle.tip_line.proofs.Texts.{find_passes}

-- none of so many passes
abbrev pub NonePasses : {X : Type 0} → (X → Bool) → List X → ℕ → Type 0
NonePasses p xs count = (place : ℕ) (x : _) → slice_get xs place ≡ Some x → place < count → p x ≡ false

pub none_yet : {X : Type 0} (p : X → Bool) (xs : List X) → NonePasses p xs 0
none_yet p xs = λ place x is few. absurd (omega (arith, few))

fails_at : {X : Type 0} (p : X → Bool) (xs : List X) (count : ℕ) (x : X) → NonePasses p xs count → slice_get xs count ≡ Some x → p x ≡ false → (place : ℕ) (y : X) → slice_get xs place ≡ Some y → place < count + 1 → (same : Bool) → (place == count) ≡ same → p y ≡ false
fails_at p xs count x none is fails place y at few true e = ap p (same_Some y x (sym at ∙ ap (slice_get xs) ((unsigned_Decides place count).0 e) ∙ is)) ∙ fails
fails_at p xs count x none is fails place y at few false e =
    let differ : (place ≡ count) → ⊥ = λ same. false≢true (sym e ∙ (unsigned_Decides place count).1 same) in
    none place y at (omega (arith, few, differ))

pub one_more_fails : {X : Type 0} (p : X → Bool) (xs : List X) (count : ℕ) (x : X) → NonePasses p xs count → slice_get xs count ≡ Some x → p x ≡ false → NonePasses p xs (count + 1)
one_more_fails p xs count x none is fails = λ place y at few. fails_at p xs count x none is fails place y at few (place == count) refl

pub first_passes : {X : Type 0} (p : X → Bool) (xs : List X) (place : ℕ) (x : X) → slice_get xs place ≡ Some x → p x ≡ true → NonePasses p xs place → place ≡ position_or_len p xs
first_passes p [] place x is passes none = absurd (none-some x is)
first_passes p (y ∷ xs) zero x is passes none = rw (ap p (same_Some y x is) ∙ passes) refl
first_passes p (y ∷ xs) (suc place) x is passes none = rw (none 0 y refl (omega arith)) (let more = first_passes p xs place x is passes (λ k z at few. none (suc k) z at (omega (arith, few))) in omega (arith, more))

pub none_passes : {X : Type 0} (p : X → Bool) (xs : List X) (count : ℕ) → length xs ≤ count → NonePasses p xs count → length xs ≡ position_or_len p xs
none_passes p [] count all none = refl
none_passes p (y ∷ xs) zero all none = absurd (omega (arith, all))
none_passes p (y ∷ xs) (suc count) all none = rw (none 0 y refl (omega arith)) (let more = none_passes p xs count (omega (arith, all)) (λ k z at few. none (suc k) z at (omega (arith, few))) in omega (arith, more))

-- the item there passes
pub passes_at : {X : Type 0} (p : X → Bool) (xs : List X) (place : ℕ) (x : X) → place ≡ position_or_len p xs → slice_get xs place ≡ Some x → p x ≡ true
passes_at p xs place x is here = find_passes p xs x (find_at p xs ∙ ap (slice_get xs) (sym is) ∙ here)
