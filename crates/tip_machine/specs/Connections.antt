-- One connection, and how it goes by the connection table (RFC 2371, sections 4, 9 and 13).
use Rattle.std.specs.Prelude.{ℕ, ◌+◌, ◌*◌, ◌<◌, ◌^◌, ◌==◌, ◌&&◌, ◌||◌, List, Bool, true, false, Option, Some, None, is_some, is_none}
use Rattle.tip_line.specs.declared.command.CommandName.{CommandName}
use Rattle.tip_line.specs.declared.command.CommandName.TheVariants as command
use Rattle.tip_line.specs.declared.response.ResponseName.{ResponseName}
use Rattle.tip_line.specs.declared.response.ResponseName.TheVariants as response
use Rattle.tip_branch.specs.declared.branch.Badge.{Badge}
use Rattle.tip_conn.specs.Table.{next_of}
use Rattle.tip_conn.specs.declared.state.State.{State}
use Rattle.tip_conn.specs.declared.state.State.TheVariants.{Initial, Idle, Begun, Enlisted, Prepared, Error}
use Rattle.tip_conn.specs.declared.state.Side.{Side}
use Rattle.tip_conn.specs.declared.state.Side.TheVariants.{Primary, Secondary}
use Rattle.tip_conn.specs.declared.state.Turn.{Turn}
use Rattle.tip_conn.specs.declared.state.Turn.TheVariants.{Keep, Reverse, Original}
use Rattle.tip_rows.specs.Keys.{IsKey, Key, is_same}
use Rattle.tip_machine.specs.Types.{Connection}
use Rattle.tip_machine.specs.declared.connection.Awaited.{Awaited}
use Rattle.tip_machine.specs.declared.connection.Awaited.TheVariants as awaited
use Rattle.tip_machine.specs.declared.connection.Purpose.{Purpose}
use Rattle.tip_machine.specs.declared.connection.Role.{Role}
use Rattle.tip_machine.specs.declared.connection.Role.TheVariants.{Superior, Subordinate}

-- is this the connection of that number?
abbrev pub has_number : ℕ → Connection → Bool
has_number number connection = connection.number == number

-- a connection that another manager has just opened: we are its secondary (section 4)
abbrev pub accepted : List Badge → ℕ → Connection
accepted boxes number = record { number = number; dialled = false; state = Initial; side = Secondary; peer = None; boxes = boxes; owed = None; awaited = None; role = None; made = 0 }

-- a connection that we have just opened: we are its primary, and have said IDENTIFY (section 4)
abbrev pub dialled : List ℕ → Purpose → List Badge → ℕ → Connection
dialled address purpose boxes number = record (accepted boxes number) { dialled = true; side = Primary; peer = Some address; awaited = Some (awaited.Identify purpose) }

-- Whose transaction

-- the number by which a transaction is found, and what is on it: its key as one number (ours)
abbrev pub link_of : Key → ℕ
link_of key = (key.epoch * 2 ^ 32 + key.connection) * 2 ^ 32 + key.number

-- the numbers of a key that there is are in their ranges
abbrev pub IsInRange : Key → Type 0
IsInRange key = IsKey key × (key.epoch < 2 ^ 32) × (key.connection < 2 ^ 32) × (key.number < 2 ^ 32)

-- The connection table

abbrev pub opposite : Side → Side
opposite Primary = Secondary
opposite Secondary = Primary

-- who opened a connection is its primary (section 4)
abbrev pub first_side : Bool → Side
first_side true = Primary
first_side false = Secondary

-- the side that we are on after a turn
abbrev pub turned : Turn → Connection → Side
turned Keep connection = connection.side
turned Reverse connection = opposite connection.side
turned Original connection = first_side connection.dialled

-- a connection that becomes idle leaves its transaction (section 9)
abbrev pub role_in : State → Option Role → Option Role
role_in Initial role = role
role_in Idle role = None
role_in Begun role = role
role_in Enlisted role = role
role_in Prepared role = role
role_in Error role = role

abbrev pub advanced_to : Option (State × Turn) → Connection → Connection
advanced_to None connection = connection
advanced_to (Some place) connection = record connection { state = place.0; side = turned place.1 connection; owed = None; awaited = None; role = role_in place.0 connection.role }

-- the connection after this command was answered so, by the connection table: nothing is owed or awaited any more
abbrev pub advanced : CommandName → ResponseName → Connection → Connection
advanced command response connection = advanced_to (next_of command connection.state response) connection

-- the connection after IDENTIFY, whose primary is there if it said where (section 13)
abbrev pub identified : Option (List ℕ) → Connection → Connection
identified peer connection = record (advanced command.Identify response.Identified connection) { peer = peer }

-- Whose turn it is

abbrev pub is_secondary : Side → Bool
is_secondary Primary = false
is_secondary Secondary = true

-- A line is taken from the primary where nothing is owed to it, and from the secondary where a response is awaited
-- (section 12).
abbrev pub may_take : Connection → Bool
may_take connection = is_none connection.owed && (is_secondary connection.side || is_some connection.awaited)

abbrev pub is_idle : State → Bool
is_idle Initial = false
is_idle Idle = true
is_idle Begun = false
is_idle Enlisted = false
is_idle Prepared = false
is_idle Error = false

-- a connection that we opened and on which nothing is under way: we may ask on it
abbrev pub is_free : Connection → Bool
is_free connection = connection.dialled && is_idle connection.state && is_none connection.awaited

-- a command was said, and its response is awaited
abbrev pub awaiting : Awaited → Connection → Connection
awaiting response connection = record connection { awaited = Some response }

-- the transaction that a connection asks for
abbrev pub key_queried : Option Awaited → Option Key
key_queried None = None
key_queried (Some (awaited.Identify purpose)) = None
key_queried (Some awaited.Push) = None
key_queried (Some awaited.Pull) = None
key_queried (Some awaited.Prepare) = None
key_queried (Some awaited.Commit) = None
key_queried (Some awaited.Abort) = None
key_queried (Some (awaited.Query key)) = Some key
key_queried (Some awaited.Reconnect) = None

-- a response is owed to this command
abbrev pub owing : CommandName → Connection → Connection
owing command connection = record connection { owed = Some command }

-- Its transaction

abbrev pub names : Key → Option Role → Bool
names key None = false
names key (Some (Superior other)) = is_same key other
names key (Some (Subordinate other part)) = is_same key other

-- the transaction that a connection of this role is on
abbrev pub key_of : Option Role → Option Key
key_of None = None
key_of (Some (Superior key)) = Some key
key_of (Some (Subordinate key part)) = Some key

-- is the connection on the transaction of this key?
abbrev pub is_on : Key → Connection → Bool
is_on key connection = names key connection.role

abbrev pub asks_for : Key → Option Role → Bool
asks_for key None = false
asks_for key (Some (Superior other)) = is_same key other
asks_for key (Some (Subordinate other part)) = false

-- is it the connection of its superior?
abbrev pub is_superior_of : Key → Connection → Bool
is_superior_of key connection = asks_for key connection.role

abbrev pub reaches : Key → ℕ → Option Role → Bool
reaches key part None = false
reaches key part (Some (Superior other)) = false
reaches key part (Some (Subordinate other place)) = is_same key other && (part == place)

-- is it the connection of this part?
abbrev pub is_part_of : Key → ℕ → Connection → Bool
is_part_of key part connection = reaches key part connection.role

-- the connection takes its role on a transaction
abbrev pub taking : Role → Connection → Connection
taking role connection = record connection { role = Some role }
