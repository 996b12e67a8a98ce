-- How the code's values stand for a realm at work, over a store of any kind.
use Rattle.std.specs.Prelude.{◌≡◌, ◌≢◌, ℕ, suc, List, [], ◌∷◌, ◌++◌, Bool, true, false, Option, Some, None, is_some, slice_get, slice_set}
use Rattle.std.specs.List.{position}
use Rattle.std.specs.Str.{bytes_eq}
use Rattle.tip_core.specs.declared.happened.Happened as happenings
use Rattle.tip_machine.specs.Moves.{rows_after}
use Rattle.tip_machine.specs.States.{State}
use Rattle.tip_machine.specs.Steps.{step, wants}
use Rattle.tip_machine.specs.Types.{Answer, Event}
use Rattle.tip_branch.specs.Notes.{PartyNotes}
use Rattle.tip_core.specs.Hosted.{Hosted, HaveNames, realm}
use Rattle.tip_stored.specs.declared.stored_core.StoredCore as stored_cores
use Rattle.tip_line.specs.Reading.{Item}
use Rattle.tip_machine.specs.declared.event.Event.TheVariants as events
use Rattle.tip_machine.specs.declared.event.Heard.{Heard}
use Rattle.tip_rows.specs.Keys.{Key}
use Rattle.tip_rows.specs.Logs.{Keeping, IsPart, Log}
use Rattle.tip_rows.specs.declared.row.Row.{Row}
use Rattle.tip_actor.specs.Acting.{Acting, Done, Reading, happens, heard_more, is_next, lines_of, outcome_of, reading_on, said_by, still_due, takes_next}
use Rattle.tip_actor.specs.declared.actor.Actor as actors
use Rattle.tip_actor.specs.Listening.{gives}
use Rattle.tip_actor.specs.declared.reader.Reader.{Reader}

-- the stored core of a script
abbrev pub StoredCore : Type 0 → Type 0
StoredCore S = stored_cores.StoredCore S Hosted

abbrev pub Actor : Type 0
Actor = actors.Actor PartyNotes

abbrev pub Happened : Type 0
Happened = happenings.Happened Answer

-- the reader gives these items, and then the lines that end behind what was heard
abbrev pub Owes : Reader → List Item → List ℕ → Type 0
Owes reader items heard = (more : List ℕ) → gives reader more ≡ items ++ lines_of heard more

-- what has come on a connection, and the lines of it that wait
abbrev pub IsReading : Reader → Reading → Type 0
IsReading reader reading = (reader.seat ≡ reading.seat) × Owes reader reading.waiting reading.heard

abbrev pub AreReadings : List Reader → List Reading → Type 0
AreReadings [] [] = Unit {0}
AreReadings [] (reading ∷ readings) = ⊥
AreReadings (reader ∷ readers) [] = ⊥
AreReadings (reader ∷ readers) (reading ∷ readings) = IsReading reader reading × AreReadings readers readings

-- the realm's name, its parties that are out, whether its next change is to be refused, and what has come on its connections
pub record IsActor (actor : Actor) (acting : Acting) : Type 0 where
  pub name : actor.name ≡ acting.name
  pub errands : actor.errands.items ≡ acting.world.errands
  pub due : actor.is_due ≡ acting.due
  pub readings : AreReadings actor.readers.items acting.readings

-- octets have come on the connection of a number, or the realm has not given it
abbrev pub IsFed : Bool → ℕ → List ℕ → List Reading → List Reader → Type 0
IsFed true connection octets readings readers =
    (index : ℕ) × (reading : Reading) × (connection ≡ suc index) × (slice_get readings index ≡ Some reading) × AreReadings readers (slice_set readings index (heard_more octets reading))
IsFed false connection octets readings readers = (reading_on connection readings ≡ None) × AreReadings readers readings

-- these rows are stored of a realm, in this epoch
pub record IsStored {S : Type 0} (kept : Keeping S) (store : S) (name : List ℕ) (epoch : ℕ) (rows : List (Key × Row)) : Type 0 where
  pub log : Log
  pub stood : kept.stands store log
  pub part : IsPart log name epoch rows
  pub known : is_some (log.epochs name) ≡ true

-- a realm has this place in the stored core, whose store refuses its next change or not
pub record IsServed {S : Type 0} (kept : Keeping S) (stored_core : StoredCore S) (place : ℕ) (state : State) (due : Bool) : Type 0 where
  pub state_is : realm stored_core.core place ≡ Some state
  pub names : HaveNames stored_core.core
  pub due_is : kept.is_due stored_core.store state.head.name ≡ due

-- whatever the other realms were, they are
pub record Leaves {S : Type 0} (kept : Keeping S) (old new : StoredCore S) (place : ℕ) (name : List ℕ) : Type 0 where
  pub realms : (other : ℕ) → other ≢ place → realm new.core other ≡ realm old.core other
  pub due : (other : List ℕ) → bytes_eq name other ≡ false → kept.is_due new.store other ≡ kept.is_due old.store other
  pub stored : (other : List ℕ) (epoch : ℕ) (rows : List (Key × Row)) → bytes_eq name other ≡ false → IsStored kept old.store other epoch rows → IsStored kept new.store other epoch rows

-- one event of a realm has happened, and its change was refused exactly where that was due
pub record Serves {S : Type 0} (kept : Keeping S) (old new : StoredCore S) (place : ℕ) (state : State) (due : Bool) (event : Event) (happened : Happened) : Type 0 where
  pub change : happened.change ≡ wants state event
  pub outcome : happened.outcome ≡ outcome_of due (wants state event)
  pub answer : happened.answer ≡ (step state event (outcome_of due (wants state event))).answer
  pub served : IsServed kept new place (step state event (outcome_of due (wants state event))).state (still_due due (wants state event))
  pub stored : (epoch : ℕ) (rows : List (Key × Row)) → IsStored kept old.store state.head.name epoch rows → IsStored kept new.store state.head.name epoch (rows_after (wants state event) (outcome_of due (wants state event)) rows)
  pub leaves : Leaves kept old new place state.head.name

-- THE CODE STANDS FOR A REALM AT WORK
pub record IsActing {S : Type 0} (kept : Keeping S) (stored_core : StoredCore S) (place : ℕ) (actor : Actor) (acting : Acting) : Type 0 where
  pub served : IsServed kept stored_core place acting.world.state acting.due
  pub stored : IsStored kept stored_core.store acting.world.state.head.name acting.world.state.head.epoch acting.world.rows
  pub named : acting.world.state.head.name ≡ acting.name
  pub own : IsActor actor acting

-- a realm has done something, and printed it
pub record IsDone {S : Type 0} (kept : Keeping S) (stored_core stored_core' : StoredCore S) (place : ℕ) (actor actor' : Actor) (printed printed' : List ℕ) (done : Done) : Type 0 where
  pub own : IsActing kept stored_core' place actor' done.acting
  pub leaves : Leaves kept stored_core stored_core' place actor.name
  pub name : actor'.name ≡ actor.name
  pub text : printed' ≡ printed ++ done.printed

-- whatever realm at work the code stood for, it has done this
abbrev pub Acts : {S : Type 0} → Keeping S → StoredCore S → StoredCore S → ℕ → Actor → Actor → List ℕ → List ℕ → (Acting → Done) → Type 0
Acts kept stored_core stored_core' place actor actor' printed printed' f = (acting : Acting) → IsActing kept stored_core place actor acting → IsDone kept stored_core stored_core' place actor actor' printed printed' (f acting)

-- it was done, or could not be told
abbrev pub Tells : {S : Type 0} → Keeping S → StoredCore S → StoredCore S → ℕ → Actor → Actor → List ℕ → List ℕ → Bool → Option Done → Type 0
Tells kept stored_core stored_core' place actor actor' printed printed' true (Some done) = IsDone kept stored_core stored_core' place actor actor' printed printed' done
Tells kept stored_core stored_core' place actor actor' printed printed' true None = ⊥
Tells kept stored_core stored_core' place actor actor' printed printed' false (Some done) = ⊥
Tells kept stored_core stored_core' place actor actor' printed printed' false None = printed' ≡ printed

-- the first line that waits on a connection is taken
pub record TakesLine (reader' : Reader) (reading : Reading) (heard : Heard) : Type 0 where
  pub item : Item
  pub items : List Item
  pub waits : reading.waiting ≡ item ∷ items
  pub heard_is : heard ≡ said_by item
  pub stands : IsReading reader' (record reading { waiting = items })

abbrev pub GivesNext : State → Reader → Reading → Option Heard → Type 0
GivesNext state reader' reading None = IsReading reader' reading × (is_next state reading ≡ false)
GivesNext state reader' reading (Some heard) = TakesLine reader' reading heard × (is_next state reading ≡ true)

-- the first connection with a line that may be taken, and its line is taken
pub record TakesFirst (state : State) (readings : List Reading) (readers' : List Reader) (event : Event) : Type 0 where
  pub index : ℕ
  pub reading : Reading
  pub item : Item
  pub items : List Item
  pub first : position (is_next state) readings ≡ Some index
  pub there : slice_get readings index ≡ Some reading
  pub waits : reading.waiting ≡ item ∷ items
  pub event_is : event ≡ events.Line reading.seat (said_by item)
  pub stands : AreReadings readers' (slice_set readings index (record reading { waiting = items }))

abbrev pub FindsIn : State → List Reading → List Reader → Option Event → Type 0
FindsIn state readings readers' None = (position (is_next state) readings ≡ None) × AreReadings readers' readings
FindsIn state readings readers' (Some event) = TakesFirst state readings readers' event

-- the next line that may be taken: its event, and the realm without it
pub record IsNextLine (actor' : Actor) (acting : Acting) (event : Event) : Type 0 where
  pub readings : List Reading
  pub stands : IsActor actor' (record acting { readings = readings })
  pub takes : takes_next acting ≡ Some (happens event (record acting { readings = readings }))

abbrev pub Finds : Actor → Acting → Option Event → Type 0
Finds actor' acting None = (takes_next acting ≡ None) × IsActor actor' acting
Finds actor' acting (Some event) = IsNextLine actor' acting event
