-- What comes next from a reader: of lines that wait, and of what is read behind them (RFC 2371, section 11).
use Rattle.std.specs.Prelude.{◌≡◌, ◌≤◌, ◌+◌, ◌*◌, ℕ, List, [], ◌∷◌, ◌++◌, length, Option, Result, Ok, Err}
use Rattle.std.specs.Io.KnownBytes.{Consumes, IsAtEnd}
use Rattle.tip_line.specs.Reading.{Item, Text, Bad, items_of}
use Rattle.tip_line.specs.declared.lines.Cause.{Cause}
use Rattle.tip_intake.specs.declared.intake.Coming.{Coming}
use Rattle.tip_intake.specs.declared.intake.Coming.TheVariants.{Line, Fault, End}
use Rattle.tip_intake.specs.declared.intake.InputEnd.{InputEnd}
use Rattle.tip_intake.specs.declared.intake.InputEnd.TheVariants.{AtEnd, ReadFault, NoReadsLeft}
use Rattle.tip_intake.specs.declared.intake.Intake.{Intake}

-- these octets, whatever comes behind them, begin with the item, and go on as the others do
abbrev pub Begins : List ℕ → Item → List ℕ → Type 0
Begins octets item others = (more : List ℕ) → items_of (octets ++ more) ≡ item ∷ items_of (others ++ more)

-- these octets, whatever comes behind them, are a fault and nothing else
abbrev pub IsFault : List ℕ → Cause → Type 0
IsFault octets cause = (more : List ℕ) → items_of (octets ++ more) ≡ Bad cause ∷ []

-- they give the same, whatever comes behind them
abbrev pub GivesSame : List ℕ → List ℕ → Type 0
GivesSame octets others = (more : List ℕ) → items_of (others ++ more) ≡ items_of (octets ++ more)

-- what one read adds to lines, none of which has come whole: a piece of 1 to 1,024 octets, or nothing
abbrev pub Adds : List ℕ → List ℕ → Option (List ℕ) → Option (List ℕ) → Result (Unit {0}) InputEnd → Type 0
Adds old new before after (Ok done) = (piece : List ℕ) × (1 ≤ length piece) × (length piece ≤ 1024) × Consumes before after piece × GivesSame (old ++ piece) new
Adds old new before after (Err AtEnd) = Consumes before after [] × (new ≡ old) × IsAtEnd after
Adds old new before after (Err ReadFault) = Consumes before after [] × (new ≡ old)
Adds old new before after (Err NoReadsLeft) = Consumes before after [] × (new ≡ old)

-- one read less is left, or none was
abbrev pub Spends : ℕ → ℕ → Result (Unit {0}) InputEnd → Type 0
Spends old new (Ok done) = new + 1 ≡ old
Spends old new (Err AtEnd) = new + 1 ≡ old
Spends old new (Err ReadFault) = new + 1 ≡ old
Spends old new (Err NoReadsLeft) = (new ≡ 0) × (old ≡ 0)

-- no line has come whole, and what waits stays
abbrev pub HasNone : List ℕ → List ℕ → Type 0
HasNone octets new = (items_of octets ≡ []) × GivesSame octets new

-- what the octets give first that waited or were read, a line as it was heard; and the octets that wait behind it
abbrev pub Gives : {T : Type 0} → (List ℕ → T → Type 0) → List ℕ → List ℕ → Option (List ℕ) → Coming T → Type 0
Gives IsHeard octets new after (Line heard) = (text : List ℕ) × IsHeard text heard × Begins octets (Text text) new
Gives IsHeard octets new after (Fault cause) = IsFault octets cause × GivesSame octets new
Gives IsHeard octets new after (End AtEnd) = HasNone octets new × IsAtEnd after
Gives IsHeard octets new after (End ReadFault) = HasNone octets new
Gives IsHeard octets new after (End NoReadsLeft) = HasNone octets new

-- how many reads are left where so many gave octets: the end of the input and a fault are a read more
abbrev pub LeavesReads : {T : Type 0} → ℕ → ℕ → ℕ → Coming T → Type 0
LeavesReads old gave new (Line heard) = old ≡ gave + new
LeavesReads old gave new (Fault cause) = old ≡ gave + new
LeavesReads old gave new (End AtEnd) = old ≡ gave + new + 1
LeavesReads old gave new (End ReadFault) = old ≡ gave + new + 1
LeavesReads old gave new (End NoReadsLeft) = (new ≡ 0) × (old ≡ gave)

-- WHAT COMES NEXT: the octets that were read, in pieces of 1 to 1,024, what they give behind those that waited, and the
-- reads that are left
pub record Comes {T : Type 0} (IsHeard : List ℕ → T → Type 0) (old new : Intake) (before after : Option (List ℕ)) (coming : Coming T) : Type 0 where
  pub read : List ℕ
  pub consumed : Consumes before after read
  pub gives : Gives IsHeard (old.lines ++ read) new.lines after coming
  pub pieces : ℕ
  pub at_least : pieces ≤ length read
  pub at_most : length read ≤ pieces * 1024
  pub reads : LeavesReads old.reads_left pieces new.reads_left coming
