-- What an event needs, made before it happens, and what it comes to where it has that.
use Rattle.std.specs.Prelude.{ℕ, ◌≡◌, ◌+◌, ◌<◌, ◌≤◌, Bool, true, false, List, Option, Some, None, is_some, length, if◌then◌else◌}
use Rattle.std.specs.Option.{option_and_then}
use Rattle.tip_line.specs.declared.command.Command.TheVariants as commands
use Rattle.tip_table.specs.Kept.{of}
use Rattle.tip_machine.specs.Given.{are_numbered}
use Rattle.tip_machine.specs.Requests.{owner}
use Rattle.tip_machine.specs.States.{State, Work, connection_of, has_room}
use Rattle.tip_machine.specs.Steps.{attempt, chosen, entered, frozen, is_open, wants}
use Rattle.tip_machine.specs.Transactions.{next_key}
use Rattle.tip_machine.specs.Types.{Connection, Event}
use Rattle.tip_machine.specs.declared.event.Change.{Change}
use Rattle.tip_machine.specs.declared.event.Event.TheVariants.{AskPull, AskPush, Dial, Line, Lost, Open, Settled, Voted}
use Rattle.tip_machine.specs.declared.event.Heard.{Heard}
use Rattle.tip_machine.specs.declared.event.Heard.TheVariants.{Command}
use Rattle.tip_machine.specs.declared.event.Outcome.{Outcome}
use Rattle.tip_rules.specs.Growing.{CanGrow}
use Rattle.tip_rules.specs.Pursuing.{word_at}
use Rattle.tip_rules.specs.Rooms.{TransactionRoom, room_for}
use Rattle.tip_outlook.specs.Endings.{EndsBy}
use Rattle.tip_outlook.specs.Searches.{HeldTransaction}
use Rattle.tip_outlook.specs.Wanting.{foreseen}
use Rattle.tip_outlook.specs.declared.next.Endings.{Endings}
use Rattle.tip_rules.specs.Works.{Held, IsIdle, MayMake, lines_at, lines_of, lines_queried, peer_of, work_of}

-- how many lines and closings an answer may have: one for each connection on the transaction, and two on the event's own; the
-- transaction that the connection asks for may be another
abbrev pub lines_needed : Event → State → ℕ
lines_needed (Line seat heard) state = lines_at seat.number state + (lines_queried seat.number state + 2)
lines_needed (Voted party) state = lines_of (owner party state) state
lines_needed (Settled party) state = lines_of (owner party state) state
lines_needed (Lost seat) state = lines_at seat.number state
lines_needed (Dial address purpose boxes) state = 1
lines_needed (AskPush seat id) state = 1
lines_needed (AskPull seat superior) state = 1
lines_needed other state = 0

-- the connection that an event comes on
abbrev pub number_in : Event → Option ℕ
number_in (Line seat heard) = Some seat.number
number_in (Lost seat) = Some seat.number
number_in (AskPush seat id) = Some seat.number
number_in (AskPull seat superior) = Some seat.number
number_in other = None

abbrev pub own_of : Event → State → Option Connection
own_of event state = option_and_then (λ number. connection_of number state) (number_in event)

-- how many connections an event may add
abbrev pub connections_for : Event → ℕ
connections_for (Open boxes) = 1
connections_for (Dial address purpose boxes) = 1
connections_for other = 0

-- may a transaction begin?
abbrev pub begins : Heard → Bool
begins (Command commands.Begin) = true
begins (Command (commands.Push superior)) = true
begins other = false

-- the number of the connection on which an event may begin a transaction
abbrev pub begins_on : Event → Option ℕ
begins_on (Line seat heard) = if begins heard then Some seat.number else None
begins_on (AskPull seat superior) = Some seat.number
begins_on other = None

-- how many transactions an event may add
abbrev pub transactions_for : Event → ℕ
transactions_for event = if is_some (begins_on event) then 1 else 0

-- room for the transaction that an event may begin
abbrev pub room_on : ℕ → State → Option TransactionRoom
room_on number state = option_and_then (λ connection. if has_room connection state then Some (room_for state.head (next_key state.head connection)) else None) (connection_of number state)

abbrev pub room_needed : Event → State → Option TransactionRoom
room_needed event state = option_and_then (λ number. room_on number state) (begins_on event)

-- the identifier of the transaction that may get a part more
abbrev pub joined : Heard → Option (List ℕ)
joined (Command (commands.Pull superior subordinate)) = Some superior
joined other = None

abbrev pub joined_by : Event → Option (List ℕ)
joined_by (Line seat heard) = joined heard
joined_by (AskPush seat id) = Some id
joined_by other = None

-- it has room for that, in a realm of this name
abbrev pub MayJoin : Event → List ℕ → List HeldTransaction → Type 0
MayJoin event realm transactions = (id : List ℕ) → joined_by event ≡ Some id → CanGrow realm id transactions

-- where the other side of the event's connection is
abbrev pub peer_needed : Event → State → Option (List ℕ)
peer_needed (Line seat heard) state = peer_of seat.number state
peer_needed (Dial address purpose boxes) state = Some address
peer_needed (AskPush seat id) state = peer_of seat.number state
peer_needed (AskPull seat superior) state = peer_of seat.number state
peer_needed other state = None

-- where we are, for a connection that we open
abbrev pub ours_needed : Event → State → Option (List ℕ)
ours_needed (Dial address purpose boxes) state = Some state.head.address
ours_needed other state = None

-- the identifier that goes into a question
abbrev pub word_needed : Event → State → Option (List ℕ)
word_needed (Line seat heard) state = word_at seat.number state
word_needed (AskPull seat superior) state = Some superior
word_needed other state = None

-- what a Room has
pub record Granted : Type 0 where
  -- for so many lines and closings
  pub lines : ℕ
  pub transaction : Option TransactionRoom
  pub peer : Option (List ℕ)
  pub ours : Option (List ℕ)
  pub word : Option (List ℕ)
  -- the change of its row that the event wants
  pub change : Option Change
  -- how its transaction goes on by what becomes of that, if it does
  pub endings : Endings

-- This is room for the event in this state, with so many places free in the tables. The realm's transactions are held so: each
-- has room for some parts more.
pub record Suits (state : State) (free_connections free_transactions : ℕ) (held : List HeldTransaction) (event : Event) (room : Granted) : Type 0 where
  pub lines : lines_needed event state ≤ room.lines
  pub connections : connections_for event ≤ free_connections
  pub transactions : transactions_for event ≤ free_transactions
  pub transaction : is_open state ≡ true → room.transaction ≡ room_needed event state
  pub part : MayJoin event state.head.name held
  pub peer : room.peer ≡ peer_needed event state
  pub ours : room.ours ≡ ours_needed event state
  pub word : room.word ≡ word_needed event state
  pub change : room.change ≡ wants state event
  pub endings : is_open state ≡ true → EndsBy (foreseen event state) room.endings

-- the work of an event has what it needs
pub record HasNeeds (event : Event) (held : Held) : Type 0 where
  pub lines : lines_needed event (work_of held).state ≤ held.making.free
  pub connections : connections_for event ≤ held.connections.free
  pub transactions : transactions_for event ≤ held.transactions.free
  pub transaction : is_open (work_of held).state ≡ true → held.making.room ≡ room_needed event (work_of held).state
  pub part : MayJoin event (work_of held).state.head.name (of held.transactions held.realm)
  pub peer : held.making.peer ≡ peer_needed event (work_of held).state
  pub ours : held.making.ours ≡ ours_needed event (work_of held).state
  pub word : held.making.word ≡ word_needed event (work_of held).state
  pub endings : is_open (work_of held).state ≡ true → EndsBy (foreseen event (work_of held).state) held.endings

-- the same once the event has its entry
pub record IsReady (event : Event) (held : Held) : Type 0 where
  pub here : held.realm < length held.heads.items
  pub counted : (work_of held).state.head.given < (work_of held).state.head.entries
  pub numbered : are_numbered (work_of held).state ≡ true
  pub lines : lines_needed event (work_of held).state ≤ held.making.free
  pub connections : connections_for event ≤ held.connections.free
  pub able : (number : ℕ) → begins_on event ≡ Some number → MayMake number held
  pub part : MayJoin event (work_of held).state.head.name (of held.transactions held.realm)
  pub peer : held.making.peer ≡ peer_needed event (work_of held).state
  pub ours : held.making.ours ≡ ours_needed event (work_of held).state
  pub word : held.making.word ≡ word_needed event (work_of held).state
  pub endings : EndsBy (foreseen event (work_of held).state) held.endings
  pub idle : IsIdle held.making.answer

-- what an event comes to, before its lines are put in order
abbrev pub happened : State → Event → Outcome → Work
happened state event outcome = if is_open state then chosen (attempt event (entered state)) outcome else frozen event state
