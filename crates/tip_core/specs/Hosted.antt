-- What a core stands for, and what one event does to it.
use Rattle.std.specs.Prelude.{ℕ, Bool, false, ◌≡◌, ◌≢◌, ◌≤◌, ◌<◌, List, Option, Some, None, length, option_map, slice_get, slice_index_or}
use Rattle.tip_table.specs.Kept.{capacity, of}
use Rattle.tip_machine.specs.States.{State, seated}
use Rattle.tip_machine.specs.Requests.{may_take_on, must_wait_on}
use Rattle.tip_machine.specs.Steps.{step, nowhere}
use Rattle.tip_machine.specs.Types.{Answer, Event}
use Rattle.tip_machine.specs.declared.head.Head.{Head}
use Rattle.tip_machine.specs.declared.head.Start.{Start}
use Rattle.tip_machine.specs.declared.event.Outcome.{Outcome}
use Rattle.tip_machine.specs.declared.event.Seat.{Seat}
use Rattle.tip_rules.specs.Needs.{Granted, Suits}
use Rattle.tip_rules.specs.Standing.{standing_on}
use Rattle.tip_rules.specs.declared.standing.Standing.{Standing}
use Rattle.tip_rules.specs.declared.standing.Standing.TheVariants.{Gone}
use Rattle.tip_rules.specs.Works.{Tables, no_tables, state_of}

-- all realms, each with its tables; clauses speak of them by `realm`, `free_in` and `room_in`
pub record Hosted : Type 0 where
  pub heads : List Head
  pub tables : List Tables
  -- how many connections' turns can be noted without memory
  pub turns : ℕ

-- the tables of the realm at a place
abbrev pub tables_at : ℕ → Hosted → Tables
tables_at place hosted = slice_index_or hosted.tables place no_tables

-- the realm at a place in the order of declaration
abbrev pub realm : Hosted → ℕ → Option State
realm hosted place = option_map (λ head. state_of place head (tables_at place hosted)) (slice_get hosted.heads place)

-- how many transactions more it can have without memory
abbrev pub free_in : ℕ → Hosted → ℕ
free_in place hosted = (tables_at place hosted).transactions.free

-- a start has an epoch from 1 on
abbrev pub HasEpoch : Start → Type 0
HasEpoch start = 0 < start.epoch

-- each realm has a name of its own, so that a place and a name are one
abbrev pub HaveNames : Hosted → Type 0
HaveNames hosted = (place other : ℕ) (this that : State) → realm hosted place ≡ Some this → realm hosted other ≡ Some that → this.head.name ≡ that.head.name → place ≡ other

-- how much a realm can have without memory: connections, transactions, and noted turns
pub record Capacity : Type 0 where
  pub connections : ℕ
  pub transactions : ℕ
  pub turns : ℕ

abbrev pub room_in : ℕ → Hosted → Capacity
room_in place hosted = record { connections = capacity (tables_at place hosted).connections; transactions = capacity (tables_at place hosted).transactions; turns = hosted.turns }

-- ONE EVENT: its realm goes by its own machine, every other realm stays, and one for a realm that is not there does nothing
pub record Steps (old new : Hosted) (place : ℕ) (event : Event) (outcome : Outcome) (answer : Answer) : Type 0 where
  pub own : (state : State) → realm old place ≡ Some state → (answer ≡ (step state event outcome).answer) × (realm new place ≡ Some (step state event outcome).state)
  pub others : (other : ℕ) → other ≢ place → realm new other ≡ realm old other
  pub absent : realm old place ≡ None → (answer ≡ nowhere event) × (realm new place ≡ None)

-- this is a Room of this event, in this state
pub record IsRoomFor (hosted : Hosted) (place : ℕ) (event : Event) (room : Granted) : Type 0 where
  pub suits : (state : State) → realm hosted place ≡ Some state → Suits state (tables_at place hosted).connections.free (tables_at place hosted).transactions.free (of (tables_at place hosted).transactions place) event room
  pub turns : (state : State) → realm hosted place ≡ Some state → length state.connections ≤ hosted.turns
  pub nothing : realm hosted place ≡ None → room.change ≡ None

-- may a line of this seat be taken now? not in a realm that is not there
abbrev pub may_take_in : Seat → Option State → Bool
may_take_in seat None = false
may_take_in seat (Some state) = may_take_on (seated seat state)

abbrev pub must_wait_in : Seat → Option State → Bool
must_wait_in seat None = false
must_wait_in seat (Some state) = must_wait_on (seated seat state)

-- how the connection of a seat stands: in a realm that is not there it is gone
abbrev pub standing_in : Seat → Option State → Standing
standing_in seat None = Gone
standing_in seat (Some state) = standing_on (seated seat state)
