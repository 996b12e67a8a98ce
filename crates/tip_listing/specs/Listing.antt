-- What a listing of stored rows is (ours).
use Rattle.std.specs.Prelude.{◌≡◌, ◌⊎◌, ⊤, ℕ, List, [], ◌∷◌, ◌++◌, codes, Option, IsSome, Result, Ok, Err}
use Rattle.std.specs.Fmt.{decimal}
use Rattle.std.specs.Io.KnownBytes.{Appends, Keeps}
use Rattle.std.specs.List.{flat_map}
use Rattle.tip_line.specs.Ids.{id_of}
use Rattle.tip_line.specs.declared.refusal.Refusal.{Refusal}
use Rattle.tip_line.specs.declared.refusal.Refusal.TheVariants as refusal
use Rattle.tip_rows.specs.Keys.{Key}
use Rattle.tip_rows.specs.Logs.{Log, IsPart, AreNames, HasBadName, IsSpoiled}
use Rattle.tip_rows.specs.Rows.{written}
use Rattle.tip_rows.specs.declared.log.LoadFault.{LoadFault}
use Rattle.tip_rows.specs.declared.log.LoadFault.TheVariants as load_fault
use Rattle.tip_rows.specs.declared.row.Row.{Row}
use Rattle.tip_listing.specs.declared.fault.RowsFault.{RowsFault}
use Rattle.tip_listing.specs.declared.fault.RowsFault.TheVariants.{Refused, BadRow, Write, Memory}
use Rattle.tip_writing.specs.Fronts.{IsFrontOf}

-- row ID TEXT
abbrev pub row_text : List ℕ → Key × Row → List ℕ
row_text realm entry = codes "row " ++ id_of realm entry.0.epoch entry.0.connection entry.0.number ++ codes " " ++ written entry.1 ++ codes "\n"

-- epoch NAME E, and then each row
abbrev pub part_text : List ℕ → ℕ → List (Key × Row) → List ℕ
part_text realm epoch rows = codes "epoch " ++ realm ++ codes " " ++ decimal epoch ++ codes "\n" ++ flat_map (row_text realm) rows

-- what is stored of a realm is printed behind a text
abbrev pub ListsPart : Log → List ℕ → List ℕ → List ℕ → Type 0
ListsPart log realm old new = (epoch : ℕ) × (rows : List (Key × Row)) × IsPart log realm epoch rows × (new ≡ old ++ part_text realm epoch rows)

-- the parts of these realms, one after another
abbrev pub ListsAll : Log → List (List ℕ) → List ℕ → Type 0
ListsAll log [] text = text ≡ []
ListsAll log (realm ∷ realms) text = (rest : List ℕ) × ((epoch : ℕ) × (rows : List (Key × Row)) × IsPart log realm epoch rows × (text ≡ part_text realm epoch rows ++ rest)) × ListsAll log realms rest

-- all known realms by name
abbrev pub IsListing : Log → List ℕ → Type 0
IsListing log text = (realms : List (List ℕ)) × AreNames log realms × ListsAll log realms text

-- a name that is none, or a known realm of which something is stored that is no epoch, key or row
abbrev pub HasBadRow : Log → Type 0
HasBadRow log = HasBadName log ⊎ ((realm : List ℕ) × IsSome (log.epochs realm) × IsSpoiled log realm)

-- why there is no listing: a bad row only where something is bad
abbrev pub Fails : Type 0 → RowsFault → Type 0
Fails Bad Refused = ⊤
Fails Bad BadRow = Bad
Fails Bad Write = ⊥
Fails Bad Memory = ⊤

-- what is written of a text: all of it, or a front where writing fails
abbrev pub WritesText : {T : Type 0} → List ℕ → Option (List ℕ) → Option (List ℕ) → Result T RowsFault → Type 0
WritesText text old new (Ok done) = Appends old new text
WritesText text old new (Err Write) = IsFrontOf text old new
WritesText text old new (Err Refused) = ⊥
WritesText text old new (Err BadRow) = ⊥
WritesText text old new (Err Memory) = ⊥

-- what is written of a log: its listing, or a front of that where writing fails; nothing where there is no listing
abbrev pub Writes : {T : Type 0} → Log → Option (List ℕ) → Option (List ℕ) → Result T RowsFault → Type 0
Writes log old new (Ok done) = (text : List ℕ) × IsListing log text × Appends old new text
Writes log old new (Err Write) = (text : List ℕ) × IsListing log text × IsFrontOf text old new
Writes log old new (Err Refused) = Keeps old new
Writes log old new (Err BadRow) = HasBadRow log × Keeps old new
Writes log old new (Err Memory) = Keeps old new

abbrev pub refusal_of : RowsFault → Refusal
refusal_of Refused = refusal.Refused
refusal_of BadRow = refusal.BadRow
refusal_of Write = refusal.WriteFault
refusal_of Memory = refusal.Memory

abbrev pub fault_of : LoadFault → RowsFault
fault_of load_fault.Refused = Refused
fault_of load_fault.BadRow = BadRow
fault_of load_fault.Memory = Memory
