-- A realm with what is around it: its stored rows, and the parties that are out (ours).
use Rattle.std.specs.Prelude.{ℕ, zero, suc, ◌+◌, List, [], ◌∷◌, ◌++◌, map, flat_map, Option, Some, if◌then◌else◌}
use Rattle.std.specs.Option.{option_to_list}
use Rattle.tip_branch.specs.Notes.{PartyNotes}
use Rattle.tip_branch.specs.declared.branch.Badge.{Badge}
use Rattle.tip_line.specs.declared.refusal.Refusal.TheVariants as refusal
use Rattle.tip_rows.specs.Keys.{Key, comes_before, is_same}
use Rattle.tip_rows.specs.declared.row.Row.{Row}
use Rattle.tip_table.specs.Lists.{without}
use Rattle.tip_machine.specs.Types.{Event, PartyPlace}
use Rattle.tip_machine.specs.Outputs.{Output, drops_of, outputs}
use Rattle.tip_machine.specs.Recovery.{Loaded, restarted}
use Rattle.tip_machine.specs.Returns.{Back, event_of}
use Rattle.tip_machine.specs.States.{State, started}
use Rattle.tip_machine.specs.Steps.{step, wants}
use Rattle.tip_machine.specs.declared.event.Change.{Change}
use Rattle.tip_machine.specs.declared.event.Change.TheVariants.{Put, Remove}
use Rattle.tip_machine.specs.declared.event.Outcome.{Outcome}
use Rattle.tip_machine.specs.declared.event.Outcome.TheVariants.{Stored}
use Rattle.tip_machine.specs.declared.head.Head.{Head}
use Rattle.tip_machine.specs.declared.transaction.PartyPlace.TheVariants.{Here, Out, Spent}

-- rows by rising key, and parties that are out, the oldest first
pub record World : Type 0 where
  pub state : State
  pub rows : List (Key × Row)
  pub errands : List PartyNotes

pub data Move : Type 0 where
  -- an event, and what becomes of the change that it wants
  Step : Event → Outcome → Move
  -- the errand at a place, the oldest at 0, is over: what its branches answered, or that nobody was called
  Go : ℕ → Back → Outcome → Move
  -- the errand at a place is lost: its party does not come back
  Lose : ℕ → Move
  -- the process starts again; these boxes are adopted for the branches of each row
  Restart : (Key → List Badge) → Move
  -- the realm alone starts again, if the store lets its epoch rise
  Renew : (Key → List Badge) → Outcome → Move

-- what a move shows, and what is there afterwards
pub record Moved : Type 0 where
  pub shown : List Output
  pub world : World

-- The store

abbrev pub row_put : Key → Row → List (Key × Row) → List (Key × Row)
row_put key row [] = (key, row) ∷ []
row_put key row (other ∷ rows) =
    if is_same key other.0 then (key, row) ∷ rows
    else if comes_before key other.0 then (key, row) ∷ other ∷ rows
    else other ∷ row_put key row rows

abbrev pub stored : Change → List (Key × Row) → List (Key × Row)
stored (Put key row) rows = row_put key row rows
stored (Remove key) rows = without (λ other. is_same key other.0) rows

-- a change that was refused has changed nothing
abbrev pub rows_after : Option Change → Outcome → List (Key × Row) → List (Key × Row)
rows_after (Some change) Stored rows = stored change rows
rows_after change outcome rows = rows

-- Events

unfoldable pub stepped : Event → Outcome → World → Moved
stepped event outcome world =
    let change = wants world.state event in
    let work = step world.state event outcome in
    record {
      shown = outputs event change outcome work.answer;
      world = record { state = work.state; rows = rows_after change outcome world.rows; errands = world.errands ++ option_to_list work.answer.work };
    }

-- Errands

-- a party behind the first of others, if there are any
abbrev pub behind_first : PartyNotes → List PartyNotes → List PartyNotes
behind_first party [] = []
behind_first party (first ∷ others) = first ∷ party ∷ others

-- the errand at a place, and then all others, the oldest first; none where there is no such place
abbrev pub picked : ℕ → List PartyNotes → List PartyNotes
picked place [] = []
picked zero (party ∷ errands) = party ∷ errands
picked (suc place) (party ∷ errands) = behind_first party (picked place errands)

-- the first errand's party comes back
abbrev pub gone_for : List PartyNotes → Back → Outcome → World → Moved
gone_for [] back outcome world = record { shown = []; world = world }
gone_for (party ∷ errands) back outcome world = stepped (event_of party back) outcome (record world { errands = errands })

-- it is lost
abbrev pub lost_from : List PartyNotes → World → Moved
lost_from [] world = record { shown = []; world = world }
lost_from (party ∷ errands) world = record { shown = drops_of party; world = record world { errands = errands } }

-- Starts

-- nothing was counted yet in the new epoch
abbrev pub risen : Head → Head
risen head = record head { epoch = head.epoch + 1; given = 0; entries = 0 }

-- rows with the boxes that were adopted for them
abbrev pub loaded : (Key → List Badge) → List (Key × Row) → List Loaded
loaded boxes rows = map (λ stored. record { key = stored.0; row = stored.1; boxes = boxes stored.0 }) rows

abbrev pub restarted_from : (Key → List Badge) → World → State
restarted_from boxes world = restarted (risen world.state.head) (loaded boxes world.rows)

abbrev pub drops_at : PartyPlace → List Output
drops_at (Here party) = drops_of party
drops_at (Out errand) = []
drops_at Spent = []

-- the active branches of the parties that are here
abbrev pub drops_here : State → List Output
drops_here state = flat_map (λ transaction. drops_at transaction.place) state.transactions

abbrev pub renewed : (Key → List Badge) → Outcome → World → Moved
renewed boxes Stored world = record { shown = drops_here world.state; world = record world { state = restarted_from boxes world } }
renewed boxes other world = record { shown = Output.Refused refusal.Refused ∷ []; world = world }

-- ONE MOVE
abbrev pub moved : Move → World → Moved
moved (Step event outcome) world = stepped event outcome world
moved (Go place back outcome) world = gone_for (picked place world.errands) back outcome world
moved (Lose place) world = lost_from (picked place world.errands) world
moved (Restart boxes) world = record {
  shown = flat_map drops_of world.errands ++ drops_here world.state;
  world = record { state = restarted_from boxes world; rows = world.rows; errands = [] };
}
moved (Renew boxes outcome) world = renewed boxes outcome world

-- what a list of moves shows
abbrev pub shown : World → List Move → List (List Output)
shown world [] = []
shown world (move ∷ moves) = (moved move world).shown ∷ shown (moved move world).world moves

-- where a list of moves leads
abbrev pub led_to : World → List Move → World
led_to world [] = world
led_to world (move ∷ moves) = led_to (moved move world).world moves

-- a realm that starts and has stored nothing
abbrev pub fresh : Head → World
fresh head = record { state = started head; rows = []; errands = [] }
