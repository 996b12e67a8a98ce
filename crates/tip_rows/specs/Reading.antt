-- How a text is read as a row, step by step.
use Rattle.std.specs.Prelude.{◌≡◌, ℕ, ◌-◌, List, [], ◌∷◌, ◌++◌, Bool, ◌&&◌, nat_le, eqb, Option, Some, None, Result, Ok, Err, codes, if◌then◌else◌}
use Rattle.std.specs.List.{slice_split}
use Rattle.std.specs.Str.{bytes_eq}
use Rattle.tip_line.specs.Words.{is_word, is_address}
use Rattle.tip_rows.specs.Branches.{are_branches}
use Rattle.tip_rows.specs.Labels.{is_label}
use Rattle.tip_line.specs.declared.fault.WordFault.{WordFault}
use Rattle.tip_line.specs.declared.fault.WordFault.TheVariants as word_fault
use Rattle.tip_rows.specs.declared.label.LabelFault.{LabelFault}
use Rattle.tip_rows.specs.declared.label.LabelFault.TheVariants as label_fault
use Rattle.tip_rows.specs.declared.reading.Version.{Version}
use Rattle.tip_rows.specs.declared.reading.Version.TheVariants.{First, Second}
use Rattle.tip_rows.specs.declared.row.Row.{Row}
use Rattle.tip_rows.specs.declared.row.Row.TheVariants.{Prepared, Committed}
use Rattle.tip_rows.specs.declared.text.RowFault.{RowFault}
use Rattle.tip_rows.specs.declared.text.RowFault.TheVariants.{BadRow, Memory}

infixl 10 ◌>>=◌
abbrev pub ◌>>=◌ : {A B : Type 0} → Option A → (A → Option B) → Option B
None >>= f = None
(Some x) >>= f = f x

-- What a function answers is what reading gives, unless it is out of memory.
abbrev pub Fails : {A : Type 0} → RowFault → Option A → Type 0
Fails BadRow read = read ≡ None
Fails Memory read = Unit {0}

abbrev pub Gives : {A : Type 0} → Result A RowFault → Option A → Type 0
Gives (Ok x) read = read ≡ Some x
Gives (Err fault) read = Fails fault read

-- what is no word or label is no row
abbrev pub of_word_fault : WordFault → RowFault
of_word_fault word_fault.NotWord = BadRow
of_word_fault word_fault.Memory = Memory

abbrev pub of_label_fault : LabelFault → RowFault
of_label_fault label_fault.BadLabel = BadRow
of_label_fault label_fault.Memory = Memory

abbrev pub checked : {A : Type 0} → (A → Bool) → A → Option A
checked test x = if test x then Some x else None

-- a digit from 1 to 8
abbrev pub is_member : ℕ → Bool
is_member octet = nat_le 49 octet && nat_le octet 56

unfoldable pub version_in : List ℕ → Option Version
version_in word = if bytes_eq word (codes "1") then Some First else (if bytes_eq word (codes "2") then Some Second else None)

-- a branch of version 1: its number alone, which makes its label
unfoldable pub first_branch : List ℕ → Option (ℕ × List ℕ)
first_branch [] = None
first_branch (octet ∷ []) = if is_member octet then Some (octet - 48, 98 ∷ octet ∷ []) else None
first_branch (octet ∷ next ∷ rest) = None

-- a branch of version 2: number, colon, label
unfoldable pub second_branch : List ℕ → Option (ℕ × List ℕ)
second_branch [] = None
second_branch (octet ∷ []) = None
second_branch (octet ∷ colon ∷ rest) = if is_member octet && eqb colon 58 then (checked is_label rest >>= (λ label. Some (octet - 48, label))) else None

unfoldable pub branch_in : Version → List ℕ → Option (ℕ × List ℕ)
branch_in First part = first_branch part
branch_in Second part = second_branch part

unfoldable pub branches_onto : Version → List (ℕ × List ℕ) → List (List ℕ) → Option (List (ℕ × List ℕ))
branches_onto version items [] = Some items
branches_onto version items (part ∷ parts) = do
  branch ← branch_in version part
  branches_onto version (items ++ branch ∷ []) parts

unfoldable pub items_in : Version → List ℕ → Option (List (ℕ × List ℕ))
items_in version word = if bytes_eq word (codes "-") then Some [] else branches_onto version [] (slice_split (λ octet. eqb octet 44) word)

unfoldable pub branches_in : Version → List ℕ → Option (List (ℕ × List ℕ))
branches_in version word = do
  items ← items_in version word
  checked are_branches items

unfoldable pub subordinate_in : List ℕ → List ℕ → Option (List ℕ × List ℕ)
subordinate_in word next = do
  address ← checked is_address word
  id ← checked is_word next
  Some (address, id)

unfoldable pub subordinates_onto : List (List ℕ × List ℕ) → List (List ℕ) → Option (List (List ℕ × List ℕ))
subordinates_onto items [] = Some items
subordinates_onto items (word ∷ []) = None
subordinates_onto items (word ∷ next ∷ words) = do
  subordinate ← subordinate_in word next
  subordinates_onto (items ++ subordinate ∷ []) words

unfoldable pub prepared_in : Version → List (List ℕ) → Option Row
prepared_in version [] = None
prepared_in version (first ∷ []) = None
prepared_in version (first ∷ second ∷ []) = None
prepared_in version (first ∷ second ∷ third ∷ words) = do
  address ← checked is_address first
  superior ← checked is_word second
  branches ← branches_in version third
  subordinates ← subordinates_onto [] words
  Some (Prepared address superior branches subordinates)

unfoldable pub committed_in : Version → List (List ℕ) → Option Row
committed_in version [] = None
committed_in version (first ∷ words) = do
  branches ← branches_in version first
  subordinates ← subordinates_onto [] words
  Some (Committed branches subordinates)

unfoldable pub kind_in : Version → List ℕ → List (List ℕ) → Option Row
kind_in version kind words = if bytes_eq kind (codes "P") then prepared_in version words else (if bytes_eq kind (codes "C") then committed_in version words else None)

unfoldable pub row_in : List (List ℕ) → Option Row
row_in [] = None
row_in (first ∷ []) = None
row_in (first ∷ kind ∷ words) = do
  version ← version_in first
  kind_in version kind words
