-- What the audit keeps of each journal while it walks over the passes. No public contract speaks of it.
use Rattle.std.specs.Prelude.{◌≡◌, ℕ, ◌==◌, ◌-◌, ◌<◌, List, length, Bool, true, false, if◌then◌else◌, Option, Some, None, replicate, slice_get, slice_set}
use Rattle.tip_journal.specs.Journal.{Written, at_number}
use Rattle.tip_journal.specs.Journals.{at, changed_at}
use Rattle.tip_journal.specs.declared.pass.Noted.{Noted}

-- the pass whose entry was marked last, the number of that entry, and a mark for each entry found in a pass
pub record Marked : Type 0 where
  pub pass : ℕ
  pub last : ℕ
  pub marks : List Bool

-- nothing is marked
abbrev pub blank : {S E : Type 0} → Written S E → Marked
blank journal = record { pass = 0; last = 0; marks = replicate (length journal.entries) false }

-- the number that a pass's next entry is to be above
abbrev pub last_in : ℕ → Marked → ℕ
last_in pass sheet = if sheet.pass == pass then sheet.last else 0

-- an entry of a pass is the next one, stands in the journal, and was in no pass before
pub record CanMark {E : Type 0} (entries : List E) (pass : ℕ) (noted : Noted E) (sheet : Marked) : Type 0 where
  pub rises : last_in pass sheet < noted.number
  pub stands : at_number entries noted.number ≡ Some noted.entry
  pub free : slice_get sheet.marks (noted.number - 1) ≡ Some false

-- the sheet with an entry of a pass marked
abbrev pub marked : {E : Type 0} → ℕ → Noted E → Marked → Marked
marked pass noted sheet = record { pass = pass; last = noted.number; marks = slice_set sheet.marks (noted.number - 1) true }

-- both are there and fit each other, or neither is there
abbrev pub AreBoth : {A B : Type 0} → (A → B → Type 0) → Option A → Option B → Type 0
AreBoth P None None = Unit {0}
AreBoth P None (Some y) = ⊥
AreBoth P (Some x) None = ⊥
AreBoth P (Some x) (Some y) = P x y

-- each journal has a sheet, with a mark for each entry
abbrev pub HaveSheets : {S E : Type 0} → List (List (Written S E)) → List (List Marked) → Type 0
HaveSheets journals sheets = (realm place : ℕ) → AreBoth (λ journal sheet. length sheet.marks ≡ length journal.entries) (at journals realm place) (at sheets realm place)

-- an entry of a pass can be marked in the journal that it names
pub record CanMarkIn {S E : Type 0} (journals : List (List (Written S E))) (pass : ℕ) (noted : Noted E) (sheets : List (List Marked)) : Type 0 where
  pub place : ℕ
  pub journal : Written S E
  pub sheet : Marked
  pub named : at journals noted.realm place ≡ Some journal
  pub epoch : journal.epoch ≡ noted.epoch
  pub kept : at sheets noted.realm place ≡ Some sheet
  pub can : CanMark journal.entries pass noted sheet

-- all sheets with an entry of a pass marked
abbrev pub marked_at : {E : Type 0} → ℕ → ℕ → Noted E → List (List Marked) → List (List Marked)
marked_at place pass noted sheets = changed_at noted.realm (changed_at place (marked pass noted)) sheets
