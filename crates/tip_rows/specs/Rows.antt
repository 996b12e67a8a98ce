-- Rows, and the texts in which they are stored.
--
-- A row is written in one way, by version 2. The texts of version 1, which had numbers without labels, are still read.
use Rattle.std.specs.Prelude.{◌≡◌, ℕ, ◌+◌, List, [], ◌∷◌, ◌++◌, map, true, ◌&&◌, Option, Some, None, codes, ◌⊎◌}
use Rattle.std.specs.Fmt.{decimal}
use Rattle.std.specs.List.{list_all, join_with_byte, flat_map}
use Rattle.std.specs.Str.{bytes_eq}
use Rattle.tip_line.specs.Words.{is_word, is_address}
use Rattle.tip_rows.specs.Branches.{are_branches}
use Rattle.tip_rows.specs.Labels.{is_label}
use Rattle.tip_rows.specs.declared.row.Row.{Row}
use Rattle.tip_rows.specs.declared.row.Row.TheVariants.{Prepared, Committed}

-- the row of these parts, which is in doubt where it has a superior, after its address
abbrev pub row_with : Option (List ℕ × List ℕ) → List (ℕ × List ℕ) → List (List ℕ × List ℕ) → Row
row_with (Some superior) branches subordinates = Prepared superior.0 superior.1 branches subordinates
row_with None branches subordinates = Committed branches subordinates

-- what each row is made of
abbrev pub AreBranches : List (ℕ × List ℕ) → Type 0
AreBranches branches = (are_branches branches ≡ true) × (list_all (λ b. is_label b.1) branches ≡ true)

abbrev pub AreSubordinates : List (List ℕ × List ℕ) → Type 0
AreSubordinates subordinates = list_all (λ s. is_address s.0 && is_word s.1) subordinates ≡ true

abbrev pub IsRow : Row → Type 0
IsRow (Prepared address superior branches subordinates) = (is_address address ≡ true) × (is_word superior ≡ true) × AreBranches branches × AreSubordinates subordinates
IsRow (Committed branches subordinates) = AreBranches branches × AreSubordinates subordinates

abbrev pub space : ℕ
space = 32

abbrev pub comma : ℕ
comma = 44

-- a number from 1 to 8
abbrev pub digit : ℕ → List ℕ
digit number = (48 + number) ∷ []

-- number, colon, label
abbrev pub item : ℕ × List ℕ → List ℕ
item b = (48 + b.0) ∷ 58 ∷ b.1

-- branches are one word, a dash where there is none
abbrev pub list_word : List (List ℕ) → List ℕ
list_word [] = codes "-"
list_word (x ∷ items) = join_with_byte comma (x ∷ items)

abbrev pub branches_word : List (ℕ × List ℕ) → List ℕ
branches_word branches = list_word (map item branches)

-- the same by version 1
abbrev pub numbers_word : List (ℕ × List ℕ) → List ℕ
numbers_word branches = list_word (map (λ b. digit b.0) branches)

-- each subordinate is two words
abbrev pub subordinate_words : List (List ℕ × List ℕ) → List (List ℕ)
subordinate_words [] = []
subordinate_words (s ∷ subordinates) = s.0 ∷ s.1 ∷ subordinate_words subordinates

-- the words of a row behind its version
abbrev pub row_words : (List (ℕ × List ℕ) → List ℕ) → Row → List (List ℕ)
row_words word (Prepared address superior branches subordinates) = codes "P" ∷ address ∷ superior ∷ word branches ∷ subordinate_words subordinates
row_words word (Committed branches subordinates) = codes "C" ∷ word branches ∷ subordinate_words subordinates

-- the text that is written: words with single spaces
abbrev pub written : Row → List ℕ
written row = join_with_byte space (codes "2" ∷ row_words branches_word row)

-- the same, piece by piece as they are printed: what stands behind the first branch, and behind all branches
abbrev pub others_text : List (ℕ × List ℕ) → List ℕ
others_text others = flat_map (λ b. comma ∷ decimal b.0 ++ 58 ∷ b.1) others

abbrev pub subordinates_text : List (List ℕ × List ℕ) → List ℕ
subordinates_text subordinates = flat_map (λ s. space ∷ s.0 ++ space ∷ s.1) subordinates

-- the label that a branch of version 1 has: the letter b and its number
abbrev pub first_label : ℕ → List ℕ
first_label number = 98 ∷ digit number

abbrev pub branches_of : Row → List (ℕ × List ℕ)
branches_of (Prepared address superior branches subordinates) = branches
branches_of (Committed branches subordinates) = branches

-- the text of version 1, of a row whose branches have the labels of version 1
pub record IsFirstText (row : Row) (text : List ℕ) : Type 0 where
  pub labels : list_all (λ b. bytes_eq b.1 (first_label b.0)) (branches_of row) ≡ true
  pub spelled : text ≡ join_with_byte space (codes "1" ∷ row_words numbers_word row)

-- a text is read as a row
pub record Spells (row : Row) (text : List ℕ) : Type 0 where
  pub whole : IsRow row
  pub spelled : (text ≡ written row) ⊎ IsFirstText row text
