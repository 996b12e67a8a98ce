-- A realm of a script at work, and what one line of the script makes of it.
use Rattle.std.specs.Prelude.{ℕ, zero, suc, ◌+◌, ◌==◌, List, [], ◌∷◌, ◌++◌, length, drop, map, Bool, true, false, ◌&&◌, not, Option, Some, None, is_none, slice_get, slice_set, if◌then◌else◌}
use Rattle.std.specs.List.{flat_map, position}
use Rattle.std.specs.Option.{option_map_or}
use Rattle.tip_branch.specs.declared.branch.Badge.{Badge}
use Rattle.tip_branch.specs.declared.branch.Plan.{Plan}
use Rattle.tip_branch.specs.declared.branch.Plan.TheVariants.{Yes}
use Rattle.tip_branch.specs.Notes.{PartyNotes}
use Rattle.tip_line.specs.Reading.{Item, Text, Bad, items_of}
use Rattle.tip_machine.specs.Answers.{identifier}
use Rattle.tip_machine.specs.Events.{heard_of}
use Rattle.tip_line.specs.declared.refusal.Refusal.TheVariants.{EpochEnd}
use Rattle.tip_machine.specs.Moves.{World, Moved, Renew, Restart, moved, stepped}
use Rattle.tip_machine.specs.Outputs.{drops_of}
use Rattle.tip_machine.specs.Returns.{event_of}
use Rattle.tip_machine.specs.Requests.{must_wait_on}
use Rattle.tip_machine.specs.States.{State, seated}
use Rattle.tip_machine.specs.Steps.{step, wants}
use Rattle.tip_machine.specs.Types.{Answer, Event}
use Rattle.tip_machine.specs.declared.answer.Item as items
use Rattle.tip_machine.specs.declared.answer.Item.TheVariants.{Close}
use Rattle.tip_machine.specs.declared.answer.Sent.{Sent}
use Rattle.tip_machine.specs.declared.event.Change.{Change}
use Rattle.tip_machine.specs.declared.event.Event.TheVariants as event
use Rattle.tip_machine.specs.declared.event.Heard.{Heard}
use Rattle.tip_machine.specs.declared.event.Heard.TheVariants.{Malformed}
use Rattle.tip_machine.specs.declared.event.Outcome.{Outcome}
use Rattle.tip_machine.specs.declared.event.Outcome.TheVariants.{NoChange, Stored, Refused}
use Rattle.tip_machine.specs.declared.event.Seat.{Seat}
use Rattle.tip_rows.specs.Keys.{Key}
use Rattle.tip_rows.specs.Logs.{last_epoch, row_at}
use Rattle.tip_rows.specs.Rows.{branches_of}
use Rattle.tip_rows.specs.declared.row.Row.{Row}
use Rattle.tip_actor.specs.Promises.{answers_of, are_foretold}
use Rattle.tip_transcript.specs.Printing.{adopted_text, idle_text, refusal_text, shown_text, start_text}

-- what has come on a connection since it was given, or since it failed, and the lines of it that were not yet taken
pub record Reading : Type 0 where
  pub seat : Seat
  pub heard : List ℕ
  pub waiting : List Item

-- a realm at work, with what is around it, whether its next change is to be refused, and what has come on each connection that
-- it has given, by their numbers from 1
pub record Acting : Type 0 where
  pub name : List ℕ
  pub world : World
  pub due : Bool
  pub readings : List Reading

-- what a realm has printed, and what it is then
pub record Done : Type 0 where
  pub printed : List ℕ
  pub acting : Acting

-- where a realm has nothing more to do
abbrev pub quiet : Acting → Done
quiet acting = record { printed = []; acting = acting }

-- behind what was printed before
abbrev pub behind : List ℕ → Done → Done
behind before done = record done { printed = before ++ done.printed }

-- One event

-- the store refuses a change where that was asked for
abbrev pub outcome_of : Bool → Option Change → Outcome
outcome_of due None = NoChange
outcome_of true (Some change) = Refused
outcome_of false (Some change) = Stored

-- it refuses one change alone
abbrev pub still_due : Bool → Option Change → Bool
still_due due None = due
still_due due (Some change) = false

-- what was read on a connection is gone with it
abbrev pub forgotten : Reading → Reading
forgotten reading = record reading { heard = []; waiting = [] }

abbrev pub forgotten_at : ℕ → Option Reading → List Reading → List Reading
forgotten_at index None readings = readings
forgotten_at index (Some reading) readings = slice_set readings index (forgotten reading)

abbrev pub lost_on : ℕ → List Reading → List Reading
lost_on zero readings = readings
lost_on (suc index) readings = forgotten_at index (slice_get readings index) readings

abbrev pub after_item : ℕ → items.Item → List Reading → List Reading
after_item number Close readings = lost_on number readings
after_item number other readings = readings

abbrev pub after_sent : List Sent → List Reading → List Reading
after_sent [] readings = readings
after_sent (sent ∷ more) readings = after_sent more (after_item sent.connection sent.item readings)

abbrev pub with_opened : Option Seat → List Reading → List Reading
with_opened None readings = readings
with_opened (Some seat) readings = readings ++ record { seat = seat; heard = []; waiting = [] } ∷ []

abbrev pub outcome_in : Acting → Event → Outcome
outcome_in acting event = outcome_of acting.due (wants acting.world.state event)

abbrev pub answer_in : Acting → Event → Answer
answer_in acting event = (step acting.world.state event (outcome_in acting event)).answer

-- what an event shows, and the realm then
abbrev pub happens : Event → Acting → Done
happens event acting = record {
  printed = shown_text acting.name (stepped event (outcome_in acting event) acting.world).shown;
  acting = record acting {
    world = (stepped event (outcome_in acting event) acting.world).world;
    due = still_due acting.due (wants acting.world.state event);
    readings = with_opened (answer_in acting event).opened (after_sent (answer_in acting event).sent acting.readings);
  };
}

-- Lines that come on a connection

-- the lines that octets end, behind those that have come before
abbrev pub lines_of : List ℕ → List ℕ → List Item
lines_of heard octets = drop (length (items_of heard)) (items_of (heard ++ octets))

abbrev pub said_by : Item → Heard
said_by (Text text) = heard_of text
said_by (Bad cause) = Malformed

abbrev pub is_waiting : Reading → Bool
is_waiting reading = not (is_none (slice_get reading.waiting 0))

-- a line has come that may be taken; it is held where it must wait
abbrev pub is_next : State → Reading → Bool
is_next state reading = is_waiting reading && not (must_wait_on (seated reading.seat state))

-- the first line that waits on a connection is taken
abbrev pub takes_from : ℕ → Reading → List Item → Acting → Option Done
takes_from index reading [] acting = None
takes_from index reading (item ∷ items) acting = Some (happens (event.Line reading.seat (said_by item)) (record acting { readings = slice_set acting.readings index (record reading { waiting = items }) }))

abbrev pub takes_on : ℕ → Option Reading → Acting → Option Done
takes_on index None acting = None
takes_on index (Some reading) acting = takes_from index reading reading.waiting acting

abbrev pub takes_at : Option ℕ → Acting → Option Done
takes_at None acting = None
takes_at (Some index) acting = takes_on index (slice_get acting.readings index) acting

-- the first connection with a line that may be taken takes one
abbrev pub takes_next : Acting → Option Done
takes_next acting = takes_at (position (is_next acting.world.state) acting.readings) acting

abbrev pub goes_on : Option Done → Acting → (Acting → Done) → Done
goes_on None acting more = quiet acting
goes_on (Some done) acting more = behind done.printed (more done.acting)

-- lines are taken while one may be, so many at most
abbrev pub takes : ℕ → Acting → Done
takes zero acting = quiet acting
takes (suc count) acting = goes_on (takes_next acting) acting (takes count)

-- how many lines wait
abbrev pub count_of : List Reading → ℕ
count_of [] = 0
count_of (reading ∷ readings) = length reading.waiting + count_of readings

-- then all lines that may be taken are taken
abbrev pub settles : Done → Done
settles done = behind done.printed (takes (count_of done.acting.readings) done.acting)

-- One realm

-- octets come on a connection
abbrev pub heard_more : List ℕ → Reading → Reading
heard_more octets reading = record reading { heard = reading.heard ++ octets; waiting = reading.waiting ++ lines_of reading.heard octets }

abbrev pub feeds : List ℕ → ℕ → Reading → Acting → Done
feeds octets index reading acting = quiet (record acting { readings = slice_set acting.readings index (heard_more octets reading) })

abbrev pub forgets_on : Bool → ℕ → Acting → Acting
forgets_on true number acting = record acting { readings = lost_on number acting.readings }
forgets_on false number acting = acting

-- what has come on the connection of a number
abbrev pub reading_on : ℕ → List Reading → Option Reading
reading_on zero readings = None
reading_on (suc index) readings = slice_get readings index

-- on a connection that the realm has given; no other may be named
abbrev pub on_reading : (ℕ → Reading → Acting → Done) → ℕ → Option Reading → Acting → Option Done
on_reading f index None acting = None
on_reading f index (Some reading) acting = Some (f index reading acting)

abbrev pub on_connection : (ℕ → Reading → Acting → Done) → ℕ → Acting → Option Done
on_connection f zero acting = None
on_connection f (suc index) acting = on_reading f index (reading_on (suc index) acting.readings) acting

-- a connection is lost, and what was read on it, unless that is refused
abbrev pub loses : ℕ → Reading → Acting → Done
loses index reading acting =
    let done = happens (event.Lost reading.seat) acting in
    record done { acting = forgets_on (is_none (answer_in acting (event.Lost reading.seat)).refusal) (suc index) done.acting }

-- a transaction is to be pushed to the other side of a connection
abbrev pub pushes : List ℕ → ℕ → Reading → Acting → Done
pushes id index reading acting = happens (event.AskPush reading.seat id) acting

-- one of the other side is to be pulled here
abbrev pub pulls : List ℕ → ℕ → Reading → Acting → Done
pulls superior index reading acting = happens (event.AskPull reading.seat superior) acting

-- no line prints the mark of a box
abbrev pub boxes_of : List Plan → List Badge
boxes_of plans = map (λ plan. record { plan = plan; mark = 0 }) plans

-- the oldest errand is done as its branches have promised; a branch of a script has
abbrev pub goes_for : List PartyNotes → Acting → Option Done
goes_for [] acting = Some (record { printed = idle_text acting.name; acting = acting })
goes_for (party ∷ errands) acting =
    if are_foretold party then Some (happens (event_of party (answers_of party)) (record acting { world = record acting.world { errands = errands } }))
    else None

-- the oldest errand is lost
abbrev pub drops_from : List PartyNotes → Acting → Done
drops_from [] acting = record { printed = idle_text acting.name; acting = acting }
drops_from (party ∷ errands) acting = record {
  printed = shown_text acting.name (drops_of party);
  acting = record acting { world = record acting.world { errands = errands } };
}

-- the next change of its rows is to be refused
abbrev pub refuses : Acting → Done
refuses acting = quiet (record acting { due = true })

-- A restart

-- so many boxes that promise to commit
abbrev pub willing : ℕ → List Badge
willing zero = []
willing (suc count) = record { plan = Yes; mark = 0 } ∷ willing count

-- each branch of a row has one again
abbrev pub willing_boxes : Row → List Badge
willing_boxes row = willing (length (branches_of row))

abbrev pub boxes_in : List (Key × Row) → Key → List Badge
boxes_in rows key = option_map_or willing_boxes (row_at key rows) []

-- the process starts again: of what it was only the rows stay, and a refusal that is due
abbrev pub restarts : Acting → Done
restarts acting =
    let again = moved (Restart (boxes_in acting.world.rows)) acting.world in
    record { printed = shown_text acting.name again.shown; acting = record acting { world = again.world; readings = [] } }

-- after the last epoch there is none
abbrev pub is_at_end : Acting → Bool
is_at_end acting = acting.world.state.head.epoch == last_epoch

-- what a realm says when it has started: its epoch, and the branches of its rows that have their boxes again
abbrev pub adoption_text : List ℕ → Key × Row → List ℕ
adoption_text name stored = adopted_text name (identifier name stored.0) (branches_of stored.1)

abbrev pub opening_text : Acting → List ℕ
opening_text acting = start_text acting.name acting.world.state.head.epoch ++ flat_map (adoption_text acting.name) acting.world.rows

-- A renewal

abbrev pub renewal : Outcome → Acting → Moved
renewal outcome acting = moved (Renew (boxes_in acting.world.rows) outcome) acting.world

-- the realm alone starts again: no connection is there, and the parties that are out stay out; a refusal that was due is spent
abbrev pub renewed : Bool → Acting → Done
renewed true acting = record { printed = shown_text acting.name (renewal Refused acting).shown; acting = record acting { due = false } }
renewed false acting =
    let now = record acting { world = (renewal Stored acting).world; readings = [] } in
    record { printed = shown_text acting.name (renewal Stored acting).shown ++ opening_text now; acting = now }

-- after the last epoch there is none
abbrev pub renews : Acting → Done
renews acting = if is_at_end acting then record { printed = refusal_text acting.name EpochEnd; acting = acting } else renewed acting.due acting
