-- One realm as a value, and the work that an event makes there.
use Rattle.std.specs.Prelude.{ℕ, List, [], ◌==◌, ◌&&◌, Bool, nat_le, nat_lt, length, Option, None, find, if◌then◌else◌}
use Rattle.tip_rows.specs.Keys.{Key}
use Rattle.tip_machine.specs.Types.{Answer, Connection, Transaction}
use Rattle.tip_machine.specs.Connections.{has_number}
use Rattle.tip_machine.specs.Transactions.{has_id, has_key}
use Rattle.tip_machine.specs.declared.head.Head.{Head}
use Rattle.tip_machine.specs.declared.event.Change.{Change}
use Rattle.tip_machine.specs.declared.event.Seat.{Seat}

-- a realm: its declaration and counts, its connections in the order made, and its open transactions in the order made
pub record State : Type 0 where
  pub head : Head
  pub connections : List Connection
  pub transactions : List Transaction

-- a realm that was just started
abbrev pub started : Head → State
started head = record { head = head; connections = []; transactions = [] }

-- what an event has done so far: the state as it is now, and the answer as far as it goes
pub record Work : Type 0 where
  pub state : State
  pub answer : Answer

-- What an event comes to: work that is done, or work that asks for one change of the stored rows, and goes on by what
-- becomes of it. So an event has one answer for each outcome, and wants at most one change.
pub data Attempt : Type 0 where
  Done : Work → Attempt
  Asks : (change : Change) → (stored : Work) → (refused : Work) → Attempt

-- the connection that a seat names
abbrev pub seated : Seat → State → Option Connection
seated seat state = if seat.epoch == state.head.epoch then find (has_number seat.number) state.connections else None

abbrev pub connection_of : ℕ → State → Option Connection
connection_of number state = find (has_number number) state.connections

abbrev pub transaction_of : Key → State → Option Transaction
transaction_of key state = find (has_key key) state.transactions

-- the transaction of an identifier: no other realm is looked through (section 5)
abbrev pub identified_by : List ℕ → State → Option Transaction
identified_by id state = find (has_id state.head.name id) state.transactions

-- is there a connection free, and are there no more boxes than may be? (ours)
abbrev pub has_place : ℕ → State → Bool
has_place boxes state = nat_lt (length state.connections) state.head.limits.connections && nat_le boxes state.head.limits.boxes

-- is there a transaction free, and has the connection a box for each branch? (ours, for NOTBEGUN and NOTPUSHED)
abbrev pub has_room : Connection → State → Bool
has_room connection state = nat_lt (length state.transactions) state.head.limits.transactions && nat_le (length state.head.branches) (length connection.boxes)
