-- A HOST OF SEVERAL REALMS (ours), as far as it goes for honesty: what it knows of each realm, by its place.
use Rattle.std.specs.Prelude.{◌≡◌, ◌≢◌, ◌⊎◌, ◌+◌, ◌<◌, ℕ, true, List, [], ◌∷◌, ◌++◌, Option, Some, None, slice_get, if◌then◌else◌}
use Rattle.std.specs.Option.{option_to_list}
use Rattle.tip_branch.specs.Notes.{PartyNotes}
use Rattle.tip_journal.specs.Journal.{begun, with_entry}
use Rattle.tip_journal.specs.Journals.{renewed, with_current}
use Rattle.tip_rows.specs.Keys.{Key}
use Rattle.tip_rows.specs.declared.row.Row.{Row}
use Rattle.tip_rows.specs.Logs.{is_rising, last_epoch}
use Rattle.tip_machine.specs.Agreement.{IsAgreed}
use Rattle.tip_machine.specs.Agreement.Traces.{traced}
use Rattle.tip_machine.specs.Honest.{brings_no_party}
use Rattle.tip_machine.specs.Moves.{Move, World, picked, risen, rows_after}
use Rattle.tip_machine.specs.Recovery.{Loaded, restarted}
use Rattle.tip_machine.specs.Returns.{Back, can_answer, event_of}
use Rattle.tip_machine.specs.Starting.{IsStart}
use Rattle.tip_machine.specs.States.{State}
use Rattle.tip_machine.specs.Steps.{fits, is_open, step, wants}
use Rattle.tip_machine.specs.Types.{Event}
use Rattle.tip_machine.specs.declared.event.Outcome.{Outcome}
use Rattle.tip_honest.specs.Honesty.{AreHonest, Journal, are_boxed, rows_of}

-- the state of each realm, the parties that are out of it, its stored rows, and its journals, one for each start
pub record Known : Type 0 where
  pub realm : ℕ → Option State
  pub out : ℕ → List PartyNotes
  pub rows : ℕ → List (Key × Row)
  pub journals : List (List Journal)

-- A REALM IS HONEST: its journals are those of an honest run, which leads to its state, to its stored rows, and to the parties that
-- are out. Where no realm is, no journal is, and nobody is out
abbrev pub IsHonestAt : Option State → List PartyNotes → List (Key × Row) → Option (List Journal) → Type 0
IsHonestAt None out rows None = out ≡ []
IsHonestAt None out rows (Some journals) = ⊥
IsHonestAt (Some state) out rows None = ⊥
IsHonestAt (Some state) out rows (Some journals) = AreHonest (record { state = state; rows = rows; errands = out }) journals

-- ALL REALMS ARE HONEST, each by its own journals
abbrev pub AreAllHonest : Known → Type 0
AreAllHonest known = (place : ℕ) → IsHonestAt (known.realm place) (known.out place) (known.rows place) (slice_get known.journals place)

-- A REALM'S JOURNALS ARE THOSE OF AN HONEST RUN that leads to this state, these stored rows and these parties that are out; and where
-- that begins as a run may begin, no transaction of it is half committed
pub record IsHonestRun (world : World) (journals : List Journal) : Type 0 where
  pub honest : AreHonest world journals
  pub agreed : IsStart honest.start → (id : List ℕ) → IsAgreed honest.start (traced honest.start honest.moves) id

-- AN HONEST RUN GOES ON to another world, and leaves these journals: it begins where it began, and has made some moves more
pub record GoesOn {world : World} {journals : List Journal} (before : AreHonest world journals) (now : World) (all : List Journal) : Type 0 where
  pub run : IsHonestRun now all
  pub from : run.honest.start ≡ before.start
  pub more : List Move
  pub moves : run.honest.moves ≡ before.moves ++ more

-- of the moves that it has made more this holds
abbrev pub GoesBy : {world : World} {journals : List Journal} → AreHonest world journals → World → List Journal → (List Move → Type 0) → Type 0
GoesBy before now all by = (goes : GoesOn before now all) × by goes.more

-- So it is of a realm of a host. Where no realm is, no journal is, and nobody is out
abbrev pub HasHonestRun : Option State → List PartyNotes → List (Key × Row) → Option (List Journal) → Type 0
HasHonestRun None out rows None = out ≡ []
HasHonestRun None out rows (Some journals) = ⊥
HasHonestRun (Some state) out rows None = ⊥
HasHonestRun (Some state) out rows (Some journals) = IsHonestRun (record { state = state; rows = rows; errands = out }) journals

-- nothing has happened
pub record IsSame (old new : Known) : Type 0 where
  pub realms : (place : ℕ) → new.realm place ≡ old.realm place
  pub out : (place : ℕ) → new.out place ≡ old.out place
  pub rows : (place : ℕ) → new.rows place ≡ old.rows place
  pub journals : new.journals ≡ old.journals

-- every realm but this one keeps its state, its parties and its rows
abbrev pub AreOthersKept : ℕ → Known → Known → Type 0
AreOthersKept place old new = (other : ℕ) → other ≢ place → (new.realm other ≡ old.realm other) × (new.out other ≡ old.out other) × (new.rows other ≡ old.rows other)

-- the parties that are out but for the one that an event brings: it brings none, or one that is out and comes back as its errand
-- leaves it
abbrev pub Brings : List PartyNotes → Event → List PartyNotes → Type 0
Brings out event left =
    ((brings_no_party event ≡ true) × (left ≡ out))
    ⊎ ((spot : ℕ) × (party : PartyNotes) × (back : Back) × (picked spot out ≡ party ∷ left) × (can_answer party.errand back party.members ≡ true) × (event ≡ event_of party back))

-- THE MOVE that an event is: the event itself, or one of these parties that are out, which comes back so
abbrev pub IsEventOf : List PartyNotes → Event → Outcome → Move → Type 0
IsEventOf out event outcome (Move.Step one became) = (brings_no_party event ≡ true) × (one ≡ event) × (became ≡ outcome)
IsEventOf out event outcome (Move.Go spot back became) = (party : PartyNotes) × (left : List PartyNotes) × (picked spot out ≡ party ∷ left) × (event ≡ event_of party back) × (became ≡ outcome)
IsEventOf out event outcome other = ⊥

-- AN EVENT has come at a place, where this realm stood, and its change had this outcome
pub record HasCome (old new : Known) (place : ℕ) (event : Event) (outcome : Outcome) (state : State) : Type 0 where
  pub here : old.realm place ≡ Some state
  pub after : new.realm place ≡ Some (step state event outcome).state
  pub fit : fits (wants state event) outcome ≡ true
  pub left : List PartyNotes
  pub brings : Brings (old.out place) event left
  pub out_is : new.out place ≡ left ++ option_to_list (step state event outcome).answer.work
  pub rows_are : new.rows place ≡ rows_after (wants state event) outcome (old.rows place)
  pub entered : new.journals ≡ (if is_open state then with_current place (with_entry (record { event = event; outcome = outcome })) old.journals else old.journals)
  pub others : AreOthersKept place old new

-- A PARTY that is out at a place is lost
pub record IsLost (old new : Known) (place : ℕ) : Type 0 where
  pub spot : ℕ
  pub party : PartyNotes
  pub was : picked spot (old.out place) ≡ party ∷ new.out place
  pub realm_is : new.realm place ≡ old.realm place
  pub rows_are : new.rows place ≡ old.rows place
  pub same : new.journals ≡ old.journals
  pub others : AreOthersKept place old new

-- A REALM IS RENEWED by its stored rows, which rise, with a box for each of their branches; its parties that are out stay out
pub record IsRenewed (old new : Known) (place : ℕ) (state : State) (start : List Loaded) : Type 0 where
  pub here : old.realm place ≡ Some state
  pub of_rows : rows_of start ≡ old.rows place
  pub rising : is_rising (rows_of start) ≡ true
  pub boxed : are_boxed start ≡ true
  pub rises : state.head.epoch < last_epoch
  pub after : new.realm place ≡ Some (restarted (risen state.head) start)
  pub out_is : new.out place ≡ old.out place
  pub rows_are : new.rows place ≡ old.rows place
  pub begun : new.journals ≡ renewed place (begun (state.head.epoch + 1) start) old.journals
  pub others : AreOthersKept place old new
