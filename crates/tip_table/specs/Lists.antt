-- The first item of a list that passes a test, changed and taken out. Which item it is, `find` says.
use Rattle.std.specs.Prelude.{◌≡◌, ◌&&◌, ℕ, zero, suc, Bool, true, false, if◌then◌else◌, nat_lt, List, [], ◌∷◌}
use Rattle.std.specs.List.{list_all}

abbrev pub changed : {T : Type 0} → (T → Bool) → (T → T) → List T → List T
changed test change [] = []
changed test change (item ∷ items) = if test item then change item ∷ items else item ∷ changed test change items

abbrev pub without : {T : Type 0} → (T → Bool) → List T → List T
without test [] = []
without test (item ∷ items) = if test item then items else item ∷ without test items

-- the item at this index is the first that passes
abbrev pub IsFirst : {T : Type 0} → (T → Bool) → List T → ℕ → Type 0
IsFirst test [] at = ⊥
IsFirst test (item ∷ items) zero = test item ≡ true
IsFirst test (item ∷ items) (suc at) = (test item ≡ false) × IsFirst test items at

-- each number is below all behind it
abbrev pub are_rising : List ℕ → Bool
are_rising [] = true
are_rising (number ∷ numbers) = list_all (nat_lt number) numbers && are_rising numbers
