-- The log that a database stands for, and what the calls on it do (ours).
use Rattle.std.specs.Prelude.{◌≡◌, ◌⊎◌, ◌&&◌, ◌||◌, ◌==◌, if◌then◌else◌, codes, ℕ, pos, Bool, true, false, List, [], map, filter, eqb, Option, Some, None, option_and_then, is_some, not, IsTrue, Result, MatchResult, IfOk, OnOk, Vec}
use Rattle.std.specs.List.{slice_split, list_any}
use Rattle.std.specs.List.Sorted.{IsPermutation}
use Rattle.std.specs.declared.alloc.Global.{Global}
use Rattle.tip_rows.specs.Keys.{Key}
use Rattle.tip_rows.specs.Logs.{Log, with_known, with_all_raised, with_raised, with_row, without_row}
use Rattle.tip_rows.specs.Reading.{row_in}
use Rattle.tip_rows.specs.declared.row.Row.{Row}
use Rattle.sqlite.specs.Order.{Row as SqlRow}
use Rattle.sqlite.specs.Tree.{Trees}
use Rattle.sqlite.specs.declared.error.Error.{Error}
use Rattle.sqlite.specs.State.{State, HasCleanDisk, IsUnchanged}
use Rattle.sqlite.specs.Effect.{Database}
use Rattle.sqlite.specs.Schema.{Schema}
use Rattle.sqlite.specs.Table.{Table}
use Rattle.std.specs.Str.{bytes_eq}
use Rattle.tip_sql.specs.Tables.{log_schema}
use Rattle.tip_sql.specs.declared.statements.Change.{Change}
use Rattle.tip_sql.specs.declared.statements.Change.TheVariants.{Know, RaiseAll, RaiseOne, Put, Remove}
use Rattle.tip_sql.specs.Places.{Place, AreRealms, AreRows, epoch_at, text_at, is_stray, id_shown, all_rows}

-- ---- the log

abbrev pub place_of : List ℕ → Key → Place
place_of realm key = (realm, pos key.epoch, pos key.connection, pos key.number)

-- the row that a stored text is, in either version
abbrev pub row_of : List ℕ → Option Row
row_of text = row_in (slice_split (λ octet. eqb octet 32) text)

abbrev pub is_no_row : Option (List ℕ) → Bool
is_no_row None = false
is_no_row (Some text) = not (is_some (row_of text))

abbrev pub log_of : Trees → Log
log_of db = record {
  epochs = epoch_at (db 0);
  rows = λ realm key. option_and_then row_of (text_at (db 2) (place_of realm key));
  unreadable = λ realm key. is_no_row (text_at (db 2) (place_of realm key));
  strays = λ realm. list_any (is_stray realm) (db 2);
}

-- the connection is open, outside a transaction, has the two tables and nothing else, and they obey their keys
pub record IsOurs (s : State) : Type 0 where
  pub is_open : IsTrue s.is_open
  pub schema : s.now.schema ≡ log_schema
  pub settled : s.committed ≡ s.now
  pub autocommit : s.in_transaction ≡ false
  pub realms : AreRealms (s.now.trees 0)
  pub rows : AreRows (s.now.trees 2)

-- what is kept true of a connection: while the disk has returned what was written, it is ours until it is shut
abbrev pub IsKept : State → Bool → Type 0
IsKept s is_shut = HasCleanDisk s → is_shut ≡ false → IsOurs s

abbrev pub Stands : State → Bool → Log → Type 0
Stands s is_shut log = HasCleanDisk s → is_shut ≡ false → log_of s.now.trees ≡ log

-- a stop now may leave this
abbrev pub MayLeave : State → Log → Type 0
MayLeave s log = (db : Trees) × s.may_leave db × (log_of db ≡ log)

-- ---- the calls

-- what a change makes of a log
abbrev pub change_of : Change → Log → Log
change_of (Know realm) = with_known realm.now
change_of RaiseAll = with_all_raised
change_of (RaiseOne realm) = with_raised realm.now
change_of (Put realm key row) = with_row realm.now key row.now
change_of (Remove realm key) = without_row realm.now key

-- the connection is ours still, and stands for this log
abbrev pub IsLeft : State → Log → Type 0
IsLeft s log = IsOurs s × (log_of s.now.trees ≡ log)

-- One statement that makes a change: at Ok it is made, and at an error nothing is, unless the connection is shut.
-- A stop leaves what it could leave before, or the change.
pub record Changes {T : Type 0} (change : Log → Log) (old new : State) (result : Result T Error) : Type 0 where
  pub truth : HasCleanDisk new → HasCleanDisk old
  pub made : HasCleanDisk new → IsOurs old → MatchResult result (λ _. IsLeft new (change (log_of old.now.trees))) (λ _. IsTrue new.is_open → IsLeft new (log_of old.now.trees))
  pub leaves : HasCleanDisk new → IsOurs old → (left : Log) → MayLeave new left → MayLeave old left ⊎ (left ≡ change (log_of old.now.trees))

-- one statement that shows of each row of a tree that passes a test what `f` makes of it, in some order, and changes nothing
pub record Shows (tree : ℕ) (test : SqlRow → Bool) (f : SqlRow → SqlRow) (old new : State) (result : Result (Vec SqlRow Global) Error) : Type 0 where
  pub truth : HasCleanDisk new → HasCleanDisk old
  pub shown : HasCleanDisk new → IsOurs old → IfOk result (λ rows. IsPermutation (map f (filter test (old.now.trees tree))) rows.items)
  pub same : HasCleanDisk new → IsOurs old → IsTrue new.is_open → IsLeft new (log_of old.now.trees)
  pub opens : HasCleanDisk new → IsOurs old → OnOk result (IsTrue new.is_open)
  pub leaves : HasCleanDisk new → IsOurs old → (left : Log) → MayLeave new left → MayLeave old left

-- ---- a database that is taken over

-- the trees of the tables that are there; a table that is not there has no rows
abbrev pub trees_in : Database → Trees
trees_in db t = if list_any (λ table. table.tree == t) db.schema.tables then db.trees t else []

-- the log that is found in a database
abbrev pub found_in : Database → Log
found_in db = log_of (trees_in db)

abbrev pub has_column : List ℕ → Table → Bool
has_column name table = list_any (λ column. bytes_eq column.name name) table.columns

abbrev pub lacks : Table → Bool
lacks table =
    (bytes_eq table.name (codes "realm") && not (has_column (codes "name") table && has_column (codes "epoch") table))
    || (bytes_eq table.name (codes "txn")
    && not (has_column (codes "realm") table && has_column (codes "epoch") table && has_column (codes "conn") table && has_column (codes "num") table && has_column (codes "text") table))

-- a table of ours lacks a column of ours
abbrev pub lacks_column : Schema → Bool
lacks_column schema = list_any lacks schema.tables

-- what a step towards our tables leaves: this schema, and the log that was found
pub record Takes {T E : Type 0} (schema : Schema) (old new : State) (result : Result T E) : Type 0 where
  pub truth : HasCleanDisk new → HasCleanDisk old
  pub taken : HasCleanDisk new → OnOk result ((new.now.schema ≡ schema) × (found_in new.now ≡ found_in old.now))

-- all rowids of a tree, where the schema is ours
pub record ShowsIds (tree : ℕ) (old new : State) (result : Result (Vec SqlRow Global) Error) : Type 0 where
  pub truth : HasCleanDisk new → HasCleanDisk old
  pub shown : HasCleanDisk new → old.now.schema ≡ log_schema → IfOk result (λ rows. IsUnchanged old new × IsPermutation (map id_shown (filter all_rows (old.now.trees tree))) rows.items)

-- a connection that is ours, and shows what it did
pub record Checks (old new : State) (is_ours : Bool) : Type 0 where
  pub truth : HasCleanDisk new → HasCleanDisk old
  pub ours : HasCleanDisk new → is_ours ≡ true → IsOurs new × (log_of new.now.trees ≡ log_of old.now.trees)
