-- A realm's stored rows before they are taken up again, and the boxes that were adopted for them so far.
use Rattle.std.specs.Prelude.{◌≡◌, ℕ, ◌<◌, ◌==◌, ◌&&◌, Bool, true, false, not, List, [], ◌∷◌, length, map, Option, None, Some, find, is_none, unwrap_or, if◌then◌else◌, MatchOption}
use Rattle.std.specs.List.{list_all}
use Rattle.std.specs.Option.{option_map_or}
use Rattle.std.specs.Str.{bytes_eq}
use Rattle.tip_branch.specs.declared.branch.Badge.{Badge}
use Rattle.tip_branch.specs.Members.{are_numbers}
use Rattle.tip_rows.specs.Keys.{Key}
use Rattle.tip_rows.specs.Logs.{is_rising}
use Rattle.tip_rows.specs.Rows.{branches_of}
use Rattle.tip_rows.specs.declared.row.Row.{Row}
use Rattle.tip_rows.specs.declared.row.Row.TheVariants.{Prepared, Committed}
use Rattle.tip_table.specs.Lists.{changed}
use Rattle.tip_txn.specs.Transactions.{Transaction, recovered}
use Rattle.tip_txn.specs.declared.answer.Phase.{Phase}
use Rattle.tip_txn.specs.declared.answer.Phase.TheVariants as phase
use Rattle.tip_machine.specs.Answers.{identifier}
use Rattle.tip_machine.specs.Recovery.{Loaded}
use Rattle.tip_machine.specs.declared.transaction.Origin.{Origin}
use Rattle.tip_machine.specs.declared.transaction.Origin.TheVariants as origin
use Rattle.tip_recovery.specs.declared.unfinished.AdoptFault.{AdoptFault}
use Rattle.tip_recovery.specs.declared.unfinished.AdoptFault.TheVariants.{NotInDoubt, WrongCount}

-- a transaction that a restart left unfinished: its realm, its row, and its boxes once they were adopted
pub record Unfinished : Type 0 where
  pub realm : List ℕ
  pub key : Key
  pub row : Row
  pub boxes : Option (List Badge)

-- a row that was loaded, and for which nothing was adopted yet
abbrev pub unadopted : List ℕ → Key × Row → Unfinished
unadopted realm stored = record { realm = realm; key = stored.0; row = stored.1; boxes = None }

-- the row with its boxes, as recovery takes it
abbrev pub loaded : Unfinished → Loaded
loaded unfinished = record { key = unfinished.key; row = unfinished.row; boxes = unwrap_or unfinished.boxes [] }

-- it waits for boxes: its row names branches, and none were adopted
abbrev pub waits : Unfinished → Bool
waits unfinished = not (length (branches_of unfinished.row) == 0) && is_none unfinished.boxes

-- why these boxes can't be its own: it waits for none, or they are not one for each branch
abbrev pub fault_of : List Badge → Unfinished → Option AdoptFault
fault_of boxes unfinished =
    if not (waits unfinished) then Some NotInDoubt
    else if length boxes == length (branches_of unfinished.row) then None
    else Some WrongCount

abbrev pub adopting : List Badge → Unfinished → Unfinished
adopting boxes unfinished = record unfinished { boxes = Some boxes }

-- are they one for each branch, of a row for which nothing was adopted?
abbrev pub are_for : List Badge → Unfinished → Bool
are_for boxes unfinished = length boxes == length (branches_of unfinished.row) && is_none unfinished.boxes

-- a row without branches has no boxes, and nothing is adopted for it
abbrev pub with_boxes : List Badge → Unfinished → Unfinished
with_boxes [] unfinished = unfinished
with_boxes (box ∷ boxes) unfinished = adopting (box ∷ boxes) unfinished

-- ONE REALM that starts again: the epoch of its start, and its rows by rising key
pub record Recovery : Type 0 where
  pub realm : List ℕ
  pub epoch : ℕ
  pub rows : List Unfinished

-- all rows are of this realm
abbrev pub AreOf : List ℕ → List Unfinished → Type 0
AreOf realm [] = Unit {0}
AreOf realm (unfinished ∷ rows) = (unfinished.realm ≡ realm) × AreOf realm rows

-- the stored rows themselves
abbrev pub stored_of : List Unfinished → List (Key × Row)
stored_of rows = map (λ unfinished. (unfinished.key, unfinished.row)) rows

-- rows of one realm, by rising key
pub record IsWhole (realm : List ℕ) (rows : List Unfinished) : Type 0 where
  pub own : AreOf realm rows
  pub rising : is_rising (stored_of rows) ≡ true

-- no row waits any more
abbrev pub are_adopted : List Unfinished → Bool
are_adopted rows = list_all (λ unfinished. not (waits unfinished)) rows

-- is this the row of that identifier?
abbrev pub is_named : List ℕ → Unfinished → Bool
is_named id unfinished = bytes_eq (identifier unfinished.realm unfinished.key) id

-- why boxes are not adopted for the row of an identifier
abbrev pub refusal_of : List ℕ → List Badge → List Unfinished → Option AdoptFault
refusal_of id boxes rows = option_map_or (fault_of boxes) (find (is_named id) rows) (Some NotInDoubt)

-- they are adopted for it
abbrev pub adopted_for : List ℕ → List Badge → Recovery → Recovery
adopted_for id boxes recovery = record recovery { rows = changed (is_named id) (adopting boxes) recovery.rows }

-- each of a list with what stands at its place in another
abbrev pub given : {T B : Type 0} → (B → T → T) → List B → List T → List T
given give [] xs = xs
given give (b ∷ bs) [] = []
given give (b ∷ bs) (x ∷ xs) = give b x ∷ given give bs xs

-- does each fit what stands at its place, with nothing left over?
abbrev pub fit : {T B : Type 0} → (B → T → Bool) → List B → List T → Bool
fit test [] [] = true
fit test [] (x ∷ xs) = false
fit test (b ∷ bs) [] = false
fit test (b ∷ bs) (x ∷ xs) = test b x && fit test bs xs

-- boxes for each row at its place, one for each branch
abbrev pub are_for_all : List (List Badge) → List Unfinished → Bool
are_for_all boxes rows = fit are_for boxes rows

-- they are adopted
abbrev pub adopted_all : List (List Badge) → List Unfinished → List Unfinished
adopted_all boxes rows = given with_boxes boxes rows

-- What is made of a row beforehand

abbrev pub phase_of : Row → Phase
phase_of (Prepared address superior branches subordinates) = phase.Prepared
phase_of (Committed branches subordinates) = phase.Committed

abbrev pub origin_of : Row → Origin
origin_of (Prepared address superior branches subordinates) = origin.Subordinate (Some address) superior
origin_of (Committed branches subordinates) = origin.Root

abbrev pub subordinates_of : Row → List (List ℕ × List ℕ)
subordinates_of (Prepared address superior branches subordinates) = subordinates
subordinates_of (Committed branches subordinates) = subordinates

abbrev pub numbers_in : Row → List ℕ
numbers_in row = map (λ branch. branch.0) (branches_of row)

-- boxes for a row's branches, of which there are some
pub record AreFor (row : Row) (boxes : List Badge) : Type 0 where
  pub counted : length boxes ≡ length (branches_of row)
  pub some : 0 < length boxes

-- what its transaction is made of stands ready
pub record IsReady (unfinished : Unfinished) (id numbers : List ℕ) (txn : Transaction) : Type 0 where
  pub named : id ≡ identifier unfinished.realm unfinished.key
  pub numbered : numbers ≡ numbers_in unfinished.row
  pub rising : are_numbers numbers ≡ true
  pub promised : txn ≡ recovered (phase_of unfinished.row) (subordinates_of unfinished.row)
  pub fitting : MatchOption unfinished.boxes (Unit {0}) (AreFor unfinished.row)
