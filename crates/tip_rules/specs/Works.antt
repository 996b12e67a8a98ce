-- How the tables stand for the work of an event in its realm.
use Rattle.std.specs.Prelude.{ℕ, ◌≡◌, ◌≢◌, ◌+◌, ◌<◌, ◌∷◌, ◌++◌, Bool, true, false, List, [], Option, None, Some, filter, length, map, slice_index_or, if◌then◌else◌}
use Rattle.std.specs.Option.{option_and_then, option_map_or}
use Rattle.tip_branch.specs.Notes.{PartyNotes}
use Rattle.tip_branch.specs.declared.member.Errand.TheVariants as errand
use Rattle.tip_rows.specs.Keys.{Key}
use Rattle.tip_table.specs.Kept.{Kept, capacity, item_at, of}
use Rattle.tip_machine.specs.Commands.{make}
use Rattle.tip_machine.specs.Connections.{is_on, key_queried}
use Rattle.tip_machine.specs.Counts.{HasCounts}
use Rattle.tip_machine.specs.Proceeding.{owed_to_superior}
use Rattle.tip_machine.specs.States.{State, Work, connection_of, has_room, transaction_of}
use Rattle.tip_machine.specs.Transactions.{next_key}
use Rattle.tip_machine.specs.Types.{Answer, Connection, PartyPlace, Transaction, seen}
use Rattle.tip_machine.specs.declared.head.Head.{Head}
use Rattle.tip_machine.specs.declared.connection.Role.{Role}
use Rattle.tip_machine.specs.declared.connection.Role.TheVariants.{Superior, Subordinate}
use Rattle.tip_machine.specs.declared.transaction.Origin.{Origin}
use Rattle.tip_machine.specs.declared.transaction.PartyPlace.TheVariants.{Here, Out, Spent}
use Rattle.tip_machine.specs.declared.event.Outcome.{Outcome}
use Rattle.tip_machine.specs.declared.event.Seat.{Seat}
use Rattle.tip_outlook.specs.Endings.{EndsBy, EndsSo}
use Rattle.tip_outlook.specs.Searches.{HeldTransaction}
use Rattle.tip_outlook.specs.Wanting.{Course, outlook}
use Rattle.tip_outlook.specs.declared.next.Endings.{Endings}
use Rattle.tip_rules.specs.Makings.{Made}
use Rattle.tip_rules.specs.Rooms.{room_for}
use Rattle.tip_rules.specs.declared.realms.Realms as realms
use Rattle.tip_rules.specs.declared.realms.Tables as tables
use Rattle.tip_rules.specs.declared.work.Work as declared

abbrev pub Held : Type 0
Held = declared.Work Connection HeldTransaction Made

-- stands where there is no realm
abbrev pub no_head : Head
no_head = record {
  name = [];
  address = [];
  limits = record { connections = 0; transactions = 0; boxes = 0; entries = 0 };
  branches = [];
  epoch = 0;
  given = 0;
  entries = 0;
}

-- one realm
abbrev pub realm_of : ℕ → Held → State
realm_of realm held = record { head = slice_index_or held.heads.items realm no_head; connections = of held.connections realm; transactions = map seen (of held.transactions realm) }

-- what the event at hand has done so far in its realm
abbrev pub work_of : Held → Work
work_of held = record { state = realm_of held.realm held; answer = held.making.answer }

-- The realms between two events

abbrev pub Realms : Type 0
Realms = realms.Realms Connection HeldTransaction

abbrev pub Tables : Type 0
Tables = tables.Tables Connection HeldTransaction

-- stand where there is no realm
abbrev pub no_tables : Tables
no_tables = record { connections = record { entries = []; free = 0 }; transactions = record { entries = []; free = 0 } }

-- what a realm has is in its own tables
abbrev pub tables_in : ℕ → Realms → Tables
tables_in realm realms = slice_index_or realms.tables.items realm no_tables

-- the realm of this head and these tables
abbrev pub state_of : ℕ → Head → Tables → State
state_of realm head tables = record { head = head; connections = of tables.connections realm; transactions = map seen (of tables.transactions realm) }

abbrev pub state_in : ℕ → Realms → State
state_in realm realms = state_of realm (slice_index_or realms.heads.items realm no_head) (tables_in realm realms)

-- its tables are lent to the work of an event
abbrev pub working : ℕ → Outcome → Endings → Made → Realms → Held
working realm outcome endings making realms = record { heads = realms.heads; connections = (tables_in realm realms).connections; transactions = (tables_in realm realms).transactions; realm = realm; outcome = outcome; endings = endings; making = making }

-- each realm's counts are as they can be
abbrev pub HaveCounts : Realms → Type 0
HaveCounts realms = (realm : ℕ) → realm < length realms.heads.items → HasCounts (state_in realm realms)

-- a realm as far as seats can tell
abbrev pub connected : Head → Kept Connection → ℕ → State
connected head connections realm = record { head = head; connections = of connections realm; transactions = [] }

-- how many lines and closings the answer can have
abbrev pub lines_in : Held → ℕ
lines_in held = length held.making.answer.sent + held.making.free

-- Work was done in the realm at hand: every other realm stays, and no memory was taken.
pub record Does (old new : Held) (work : Work) : Type 0 where
  pub own : work_of new ≡ work
  pub others : (other : ℕ) → other ≢ old.realm → realm_of other new ≡ realm_of other old
  pub realm : new.realm ≡ old.realm
  pub count : length new.heads.items ≡ length old.heads.items
  pub connections : capacity new.connections ≡ capacity old.connections
  pub transactions : capacity new.transactions ≡ capacity old.transactions
  pub lines : lines_in new ≡ lines_in old
  pub outcome : new.outcome ≡ old.outcome
  pub endings : new.endings ≡ old.endings

-- how many lines the connections on a transaction may need, where each reacts once
abbrev pub lines_for : Key → State → ℕ
lines_for key state = length (filter (is_on key) state.connections)

-- the same, of the transaction that a connection of this role is on
abbrev pub lines_as : Option Role → State → ℕ
lines_as None state = 0
lines_as (Some (Superior key)) state = lines_for key state
lines_as (Some (Subordinate key part)) state = lines_for key state

-- the same, of the transaction that a connection is on, if there is one, or that of a number
abbrev pub lines_on : Option Connection → State → ℕ
lines_on own state = option_map_or (λ connection. lines_as connection.role state) own 0

abbrev pub lines_at : ℕ → State → ℕ
lines_at number state = lines_on (connection_of number state) state

-- the same, of the transaction that it asks for
abbrev pub lines_asked : Option Connection → State → ℕ
lines_asked own state = option_map_or (λ key. lines_for key state) (option_and_then (λ connection. key_queried connection.awaited) own) 0

abbrev pub lines_queried : ℕ → State → ℕ
lines_queried number state = lines_asked (connection_of number state) state

-- the same, of a transaction, if there is one
abbrev pub lines_of : Option Transaction → State → ℕ
lines_of transaction state = option_map_or (λ transaction. lines_for transaction.key state) transaction 0

-- where the other side of the connection of a number is
abbrev pub peer_of : ℕ → State → Option (List ℕ)
peer_of number state = option_and_then (λ connection. connection.peer) (connection_of number state)

-- the party, where it is with its transaction
abbrev pub party_at : PartyPlace → Option PartyNotes
party_at (Here party) = Some party
party_at (Out errand) = None
party_at Spent = None

-- the party of the transaction at a place, where it is with it
abbrev pub party_here : ℕ → Held → Option PartyNotes
party_here place held = option_and_then (λ transaction. party_at transaction.place) (item_at held.transactions place)

-- is the party out for its votes?
abbrev pub is_voting : PartyPlace → Bool
is_voting (Here party) = false
is_voting (Out errand.Vote) = true
is_voting (Out other) = false
is_voting Spent = false

-- is it out to be told to commit, or to abort?
abbrev pub is_committing : PartyPlace → Bool
is_committing (Here party) = false
is_committing (Out errand.Commit) = true
is_committing (Out other) = false
is_committing Spent = false

abbrev pub is_aborting : PartyPlace → Bool
is_aborting (Here party) = false
is_aborting (Out errand.Abort) = true
is_aborting (Out other) = false
is_aborting Spent = false

-- no party goes out or is let go so far
pub record IsIdle (answer : Answer) : Type 0 where
  pub work : answer.work ≡ None
  pub spent : answer.spent ≡ None

-- where the party of a transaction is here, none goes out or is let go so far
abbrev pub MayDispatch : Key → Work → Type 0
MayDispatch key work = (transaction : Transaction) (party : PartyNotes) → transaction_of key work.state ≡ Some transaction → transaction.place ≡ Here party → IsIdle work.answer

-- The transaction is there, and goes on by what was decided for this event once it is altered so.
abbrev pub ContinuesAs : Option Transaction → (Transaction → Transaction) → Held → Type 0
ContinuesAs None altering held = ⊥
ContinuesAs (Some transaction) altering held = EndsSo (outlook (altering transaction)) (owed_to_superior transaction.key (work_of held).state) held.endings

-- What was decided of the connection of a number is such a course.
abbrev pub GoesBy : ℕ → (Connection → State → Course) → Held → Type 0
GoesBy number course held = (connection : Connection) → connection_of number (work_of held).state ≡ Some connection → EndsBy (course connection (work_of held).state) held.endings

-- Steps that make something new

-- a connection more is given
abbrev pub counting : Work → Work
counting work = record work { state = record work.state { head = record work.state.head { given = work.state.head.given + 1 } } }

-- a connection joins
abbrev pub joining : Connection → Work → Work
joining connection work = record work { state = record work.state { connections = work.state.connections ++ connection ∷ [] } }

-- a transaction begins
abbrev pub beginning : Transaction → Work → Work
beginning transaction work = record work { state = record work.state { transactions = work.state.transactions ++ transaction ∷ [] } }

-- a new connection is shown
abbrev pub showing : Seat → Work → Work
showing seat work = record work { answer = record work.answer { opened = Some seat } }

-- A transaction can be made on a connection.
pub record CanMake (held : Held) (connection : Connection) : Type 0 where
  pub made : connection.made < (work_of held).state.head.limits.entries
  pub number : 0 < connection.number
  pub epoch : 0 < (work_of held).state.head.epoch
  pub place : 0 < held.transactions.free
  pub room : held.making.room ≡ Some (room_for (work_of held).state.head (next_key (work_of held).state.head connection))

-- the same of the connection of a number, where the realm has room
abbrev pub MayMake : ℕ → Held → Type 0
MayMake number held = (connection : Connection) → connection_of number (work_of held).state ≡ Some connection → has_room connection (work_of held).state ≡ true → CanMake held connection

-- a transaction is made on a connection, where the realm has room
abbrev pub make_where_room : Origin → Connection → Work → Work
make_where_room from connection work = if has_room connection work.state then make from connection work else work

-- the key of it
abbrev pub key_where_room : Connection → State → Option Key
key_where_room connection state = if has_room connection state then Some (next_key state.head connection) else None
