-- How rows and names are read from what a query shows (ours).
use Rattle.std.specs.Prelude.{◌≡◌, ℕ, pos, negsuc, List, [], ◌∷◌, ◌&&◌, Bool, true, false, if◌then◌else◌, nat_lt, nat_le, Option, Some, None, Result, Ok, Err}
use Rattle.std.specs.List.{list_all}
use Rattle.tip_line.specs.Words.{is_realm}
use Rattle.tip_rows.specs.Keys.{Key}
use Rattle.tip_rows.specs.Logs.{last_epoch}
use Rattle.tip_rows.specs.declared.row.Row.{Row}
use Rattle.tip_rows.specs.declared.log.LoadFault.{LoadFault}
use Rattle.tip_rows.specs.declared.log.LoadFault.TheVariants.{Refused, BadRow, Memory}
use Rattle.sqlite.specs.Order.{Row as SqlRow, column}
use Rattle.sqlite.specs.declared.types.Value.{Value}
use Rattle.sqlite.specs.declared.types.Value.TheVariants.{Null, Int, Real, Text, Blob}
use Rattle.tip_sql.specs.Standing.{row_of}

-- what a function answers is what reading gives, unless it is out of memory
abbrev pub Reads : {A : Type 0} → Result A LoadFault → Option A → Type 0
Reads (Ok x) read = read ≡ Some x
Reads (Err Refused) read = ⊥
Reads (Err BadRow) read = read ≡ None
Reads (Err Memory) read = Unit {0}

-- a number of 32 bits
abbrev pub number_in : Value → Option ℕ
number_in Null = None
number_in (Int (pos n)) = if nat_le n last_epoch then Some n else None
number_in (Int (negsuc n)) = None
number_in (Real x) = None
number_in (Text t) = None
number_in (Blob b) = None

-- the key of three numbers, each 1 or more
abbrev pub key_of : Option ℕ → Option ℕ → Option ℕ → Option Key
key_of None connection number = None
key_of (Some epoch) None number = None
key_of (Some epoch) (Some connection) None = None
key_of (Some epoch) (Some connection) (Some number) =
    if nat_lt 0 epoch && (nat_lt 0 connection && nat_lt 0 number) then Some (record { epoch = epoch; connection = connection; number = number }) else None

abbrev pub key_in : SqlRow → Option Key
key_in r = key_of (number_in (column r 0)) (number_in (column r 1)) (number_in (column r 2))

abbrev pub row_in : Value → Option Row
row_in Null = None
row_in (Int n) = None
row_in (Real x) = None
row_in (Text text) = row_of text
row_in (Blob b) = None

abbrev pub entry_of : Option Key → Option Row → Option (Key × Row)
entry_of None row = None
entry_of (Some key) None = None
entry_of (Some key) (Some row) = Some (key, row)

-- three numbers and a text, read as a key and a row
abbrev pub entry_in : SqlRow → Option (Key × Row)
entry_in r = entry_of (key_in r) (row_in (column r 3))

-- the epoch of a realm, which is 0 where none is stored
abbrev pub epoch_in : List SqlRow → Option ℕ
epoch_in [] = Some 0
epoch_in (r ∷ rows) = number_in (column r 0)

abbrev pub name_in : Value → Option (List ℕ)
name_in Null = None
name_in (Int n) = None
name_in (Real x) = None
name_in (Text text) = if is_realm text then Some text else None
name_in (Blob b) = None

abbrev pub realm_in : SqlRow → Option (List ℕ)
realm_in r = name_in (column r 0)

-- the last of the keys and of the names that were read
abbrev pub last_of : {A : Type 0} → List A → Option A
last_of [] = None
last_of (x ∷ []) = Some x
last_of (x ∷ y ∷ rest) = last_of (y ∷ rest)

-- nothing comes before, or this does
abbrev pub may_follow : {A : Type 0} → (A → A → Bool) → Option A → A → Bool
may_follow before None next = true
may_follow before (Some last) next = before last next

-- something is shown
abbrev pub has_some : {A : Type 0} → List A → Bool
has_some [] = false
has_some (x ∷ rest) = true

-- each comes before all that follow
abbrev pub rises : {A : Type 0} → (A → A → Bool) → List A → Bool
rises before [] = true
rises before (x ∷ xs) = list_all (before x) xs && rises before xs
