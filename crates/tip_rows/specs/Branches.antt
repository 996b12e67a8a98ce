-- The local branches of a row.
use Rattle.std.specs.Prelude.{ℕ, List, [], ◌∷◌, Bool, true, ◌&&◌, not, nat_lt, nat_le}
use Rattle.std.specs.List.{list_all}
use Rattle.std.specs.Str.{bytes_eq}

-- a branch that may stand behind one of this number and label: its number is greater and its label another
abbrev pub is_behind : ℕ → List ℕ → ℕ × List ℕ → Bool
is_behind number label other = nat_lt number other.0 && not (bytes_eq label other.1)

-- a branch has a member number from 1 to 8 and a label; numbers rise and labels are distinct
abbrev pub are_branches : List (ℕ × List ℕ) → Bool
are_branches [] = true
are_branches (b ∷ branches) = nat_le 1 b.0 && nat_le b.0 8 && list_all (is_behind b.0 b.1) branches && are_branches branches
