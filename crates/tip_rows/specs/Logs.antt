-- What a log of rows holds, and what its calls do to it.
use Rattle.std.specs.Prelude.{◌≡◌, ℕ, ◌+◌, ◌%◌, ◌^◌, ℤ, pos, List, [], ◌∷◌, Bool, true, false, ◌&&◌, if◌then◌else◌, Option, Some, None, option_map, unwrap_or, find, Result, Ok, Err, ◌⊎◌, ◌≢◌, ◌≤◌, ◌↔◌, MatchResult, nat_lt, IsSome, is_some}
use Rattle.std.specs.List.{list_all, list_any}
use Rattle.std.specs.Ordering.{is_lt, nat_cmp}
use Rattle.std.specs.Cmp.Lexicographic.{slice_cmp}
use Rattle.tip_line.specs.Words.{is_realm}
use Rattle.std.specs.Str.{bytes_eq}
use Rattle.tip_rows.specs.Keys.{Key, is_same, comes_before}
use Rattle.tip_rows.specs.declared.row.Row.{Row}
use Rattle.tip_rows.specs.declared.log.LoadFault.{LoadFault}
use Rattle.tip_rows.specs.declared.log.LoadFault.TheVariants as load_fault
use Rattle.tip_rows.specs.declared.log.RaiseFault.{RaiseFault}
use Rattle.tip_rows.specs.declared.log.RaiseFault.TheVariants as raise_fault

-- `epochs` has the known realms, each with the number that is stored as its epoch; `rows` has the row at a key of a realm.
-- `unreadable` says that something at a key is no text of a row, and `strays` that a row of the realm stands at numbers that are no key:
-- a store that only tipd wrote has neither
pub record Log : Type 0 where
  pub epochs : List ℕ → Option ℤ
  pub rows : List ℕ → Key → Option Row
  pub unreadable : List ℕ → Key → Bool
  pub strays : List ℕ → Bool

abbrev pub empty_log : Log
empty_log = record { epochs = λ realm. None; rows = λ realm key. None; unreadable = λ realm key. false; strays = λ realm. false }

abbrev pub is_here : List ℕ → Key → List ℕ → Key → Bool
is_here realm key r k = bytes_eq realm r && is_same key k

-- the log with this, or nothing, at a key of a realm
abbrev pub with_at : List ℕ → Key → Option Row → Log → Log
with_at realm key row log = record log {
  rows = λ r k. if is_here realm key r k then row else log.rows r k;
  unreadable = λ r k. if is_here realm key r k then false else log.unreadable r k;
}

abbrev pub with_row : List ℕ → Key → Row → Log → Log
with_row realm key row log = with_at realm key (Some row) log

abbrev pub without_row : List ℕ → Key → Log → Log
without_row realm key log = with_at realm key None log

-- a realm that was not known has the epoch 0
abbrev pub known : Option ℤ → Option ℤ
known None = Some (pos 0)
known (Some epoch) = Some epoch

abbrev pub with_known : List ℕ → Log → Log
with_known realm log = record log { epochs = λ r. if bytes_eq realm r then known (log.epochs r) else log.epochs r }

-- the log with this epoch of a realm
abbrev pub with_epoch : List ℕ → ℕ → Log → Log
with_epoch realm n log = record log { epochs = λ r. if bytes_eq realm r then Some (pos n) else log.epochs r }

abbrev pub last_epoch : ℕ
last_epoch = 4294967295

abbrev pub raised_number : ℕ → ℕ
raised_number n = if nat_lt n last_epoch then n + 1 else n

-- an epoch rises by one; a number at the end or out of range stays
abbrev pub raised : ℤ → ℤ
raised (pos n) = pos (raised_number n)
raised z = z

abbrev pub with_all_raised : Log → Log
with_all_raised log = record log { epochs = λ r. option_map raised (log.epochs r) }

abbrev pub with_raised : List ℕ → Log → Log
with_raised realm log = record log { epochs = λ r. if bytes_eq realm r then option_map raised (log.epochs r) else log.epochs r }

-- an epoch that can't rise
abbrev pub IsAtEnd : Log → List ℕ → Type 0
IsAtEnd log realm = log.epochs realm ≡ Some (pos last_epoch)

-- what is stored of a realm and is no epoch, no key or no row
abbrev pub IsSpoiled : Log → List ℕ → Type 0
IsSpoiled log realm = ((z : ℤ) × (log.epochs realm ≡ Some z) × ((n : ℕ) → n ≤ last_epoch → z ≢ pos n)) ⊎ ((log.strays realm ≡ true) ⊎ ((key : Key) × (log.unreadable realm key ≡ true)))

-- the row that a list has at a key
abbrev pub row_at : Key → List (Key × Row) → Option Row
row_at key rows = option_map (λ e. e.1) (find (λ e. is_same e.0 key) rows)

-- by strictly rising key
abbrev pub is_rising : List (Key × Row) → Bool
is_rising [] = true
is_rising (e ∷ rows) = list_all (λ f. comes_before e.0 f.0) rows && is_rising rows

-- what is loaded of a realm: its rows by rising key, and its epoch, which is 0 where it is not known
pub record IsPart (log : Log) (realm : List ℕ) (number : ℕ) (rows : List (Key × Row)) : Type 0 where
  pub epoch : unwrap_or (log.epochs realm) (pos 0) ≡ pos number
  pub rising : is_rising rows ≡ true
  pub same : (key : Key) → row_at key rows ≡ log.rows realm key
  pub sound : ¬ IsSpoiled log realm

-- one more where a call was refused; after the greatest value comes 0
abbrev pub counted : Bool → ℕ → ℕ
counted true faults = (faults + 1) % 2 ^ 64
counted false faults = faults

abbrev pub is_refused_load : {T : Type 0} → Result T LoadFault → Bool
is_refused_load (Ok x) = false
is_refused_load (Err load_fault.Refused) = true
is_refused_load (Err load_fault.BadRow) = false
is_refused_load (Err load_fault.Memory) = false

abbrev pub is_refused_raise : {T : Type 0} → Result T RaiseFault → Bool
is_refused_raise (Ok x) = false
is_refused_raise (Err raise_fault.Refused) = true
is_refused_raise (Err raise_fault.EpochEnd) = false

-- WHAT A STORE SHOWS of the rows that it keeps
pub record Keeping (S : Type 0) : Type 1 where
  -- it shows this log, as long as it may be relied on. One that can't be asked any more shows every log, and refuses each call
  pub stands : S → Log → Type 0
  -- what a stop at this moment may leave
  pub may_leave : S → Log → Type 0
  -- what it shows may be relied on: so it is as long as its medium is faithful
  pub is_true : S → Type 0
  -- how many calls it refused; after the greatest value comes 0
  pub faults : S → ℕ
  -- the next change of a realm will be refused
  pub is_due : S → List ℕ → Bool

-- at Ok the store stands for the changed log, and else for the log as it was
abbrev pub Stands : {S T E : Type 0} → Keeping S → (Log → Log) → S → S → Result T E → Type 0
Stands kept change old new result = (log : Log) → kept.stands old log → MatchResult result (λ _. kept.stands new (change log)) (λ _. kept.stands new log)

-- a store stands for one log, and a stop leaves that log and nothing else
pub record IsSettled {S : Type 0} (kept : Keeping S) (store : S) : Type 0 where
  pub log : Log
  pub shown : kept.stands store log
  pub one : (other : Log) → kept.stands store other → other ≡ log
  pub left : (other : Log) → kept.may_leave store other ↔ (other ≡ log)

-- a stop after the call leaves what a stop before it could leave, or the changed log
abbrev pub LeavesOne : {S : Type 0} → Keeping S → (Log → Log) → S → S → Type 0
LeavesOne kept change old new = (log : Log) → kept.stands old log → kept.is_true new → (left : Log) → kept.may_leave new left → kept.may_leave old left ⊎ (left ≡ change log)

-- a stop after a call that changes nothing leaves what a stop before it could leave
abbrev pub LeavesSame : {S : Type 0} → Keeping S → S → S → Type 0
LeavesSame kept old new = (log : Log) → kept.stands old log → kept.is_true new → (left : Log) → kept.may_leave new left → kept.may_leave old left

-- a refusal that was due is spent by the realm's next change
abbrev pub IsSpent : (List ℕ → Bool) → (List ℕ → Bool) → List ℕ → Type 0
IsSpent old new realm = (r : List ℕ) → new r ≡ (if bytes_eq realm r then false else old r)

-- a name comes before another in the order of its octets
abbrev pub name_before : List ℕ → List ℕ → Bool
name_before a b = is_lt (slice_cmp nat_cmp a b)

abbrev pub are_rising_names : List (List ℕ) → Bool
are_rising_names [] = true
are_rising_names (name ∷ names) = list_all (name_before name) names && are_rising_names names

-- a known realm whose name is none
abbrev pub HasBadName : Log → Type 0
HasBadName log = (name : List ℕ) × IsSome (log.epochs name) × (is_realm name ≡ false)

-- the names of the known realms, each once and rising
pub record AreNames (log : Log) (names : List (List ℕ)) : Type 0 where
  pub rising : are_rising_names names ≡ true
  pub known : (name : List ℕ) → is_some (log.epochs name) ≡ list_any (λ other. bytes_eq other name) names
  pub sound : ¬ HasBadName log
