-- Which of several names a word is.
use Rattle.std.proofs.Common.{◌≡◌, ◌||◌, Bool, true, false, List, ℕ, refl, true≢false}
use Rattle.std.specs.Str.{bytes_eq}
use Rattle.std.proofs.lemmas.Slice.Eq.{bytes_eq-Decides}

pub same : (name command : List ℕ) → bytes_eq name command ≡ true → name ≡ command
same name command is = (bytes_eq-Decides name command).0 is

-- the first of several, where it is none behind
pub first_is : (first others : Bool) → (first || others) ≡ true → others ≡ false → first ≡ true
first_is true others one none = refl
first_is false true others none = absurd (true≢false none)
first_is false false one none = one

pub none_is : (first others : Bool) → first ≡ false → others ≡ false → (first || others) ≡ false
none_is true others first none = first
none_is false others first none = none
