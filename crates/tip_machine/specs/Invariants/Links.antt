-- What a connection is to the transaction that it is on, and what each connection is (ours, for RFC 2371, sections 4, 9 and 12).
use Rattle.std.specs.Prelude.{◌==◌, ◌&&◌, ◌||◌, not, nat_le, nat_lt, Bool, true, false, List, [], ◌∷◌, length, filter_map, Option, Some, None, is_some, is_none}
use Rattle.std.specs.List.{list_all, list_any}
use Rattle.std.specs.Option.{option_map_or}
use Rattle.tip_conn.specs.declared.state.Side.{Side}
use Rattle.tip_conn.specs.declared.state.Side.TheVariants.{Primary, Secondary}
use Rattle.tip_conn.specs.declared.state.State.{State as ConnectionState}
use Rattle.tip_conn.specs.declared.state.State.TheVariants.{Initial, Idle, Begun, Enlisted, Prepared, Error}
use Rattle.tip_line.specs.declared.command.CommandName.{CommandName}
use Rattle.tip_rows.specs.Keys.{is_same}
use Rattle.tip_machine.specs.Types.{Connection}
use Rattle.tip_machine.specs.Connections.{first_side}
use Rattle.tip_machine.specs.States.{State, transaction_of}
use Rattle.tip_machine.specs.declared.connection.Awaited.{Awaited}
use Rattle.tip_machine.specs.declared.connection.Awaited.TheVariants as awaited
use Rattle.tip_machine.specs.declared.connection.Role.{Role}
use Rattle.tip_machine.specs.declared.connection.Role.TheVariants.{Superior, Subordinate}

pub data Link : Type 0 where
  -- there is no connection
  Gone : Link
  -- we are its secondary, in this state; it is owed the response to a command, or none
  Owes : ConnectionState → Option CommandName → Link
  -- we are its primary, in this state; the response to a command is awaited, or none
  Awaits : ConnectionState → Option Awaited → Link

abbrev pub link_on : Side → Connection → Link
link_on Secondary connection = Owes connection.state connection.owed
link_on Primary connection = Awaits connection.state connection.awaited

abbrev pub link : Option Connection → Link
link None = Gone
link (Some connection) = link_on connection.side connection

-- Each connection

-- as its secondary we await nothing; as its primary we owe nothing (section 12)
abbrev pub acts_as : Side → Connection → Bool
acts_as Secondary connection = is_none connection.awaited
acts_as Primary connection = is_none connection.owed

abbrev pub is_same_side : Side → Side → Bool
is_same_side Primary Primary = true
is_same_side Secondary Secondary = true
is_same_side this that = false

-- the states before a transaction (section 9)
abbrev pub is_early : ConnectionState → Bool
is_early Initial = true
is_early Idle = true
is_early Begun = false
is_early Enlisted = false
is_early Prepared = false
is_early Error = false

-- before a transaction, a connection has its original sides (section 4)
abbrev pub has_its_side : Connection → Bool
has_its_side connection = not (is_early connection.state) || is_same_side connection.side (first_side connection.dialled)

-- THE TABLE OF A CONNECTION that is on no transaction (section 13, IDENTIFY and QUERY)
abbrev pub is_on_none : Link → Bool
is_on_none (Owes Initial None) = true
is_on_none (Owes Idle None) = true
is_on_none (Awaits Initial (Some (awaited.Identify purpose))) = true
is_on_none (Awaits Idle None) = true
is_on_none (Awaits Idle (Some (awaited.Query key))) = true
is_on_none link = false

abbrev pub is_connected : Connection → Bool
is_connected connection =
    acts_as connection.side connection && has_its_side connection && (is_some connection.role || is_on_none (link_on connection.side connection))

-- Roles

-- a role names an open transaction, and of its parts one that is there beside the local party
abbrev pub is_role_in : State → Role → Bool
is_role_in state (Superior key) = is_some (transaction_of key state)
is_role_in state (Subordinate key part) = nat_le 1 part && option_map_or (λ transaction. nat_lt part (length transaction.parts)) (transaction_of key state) false

abbrev pub is_same_role : Role → Role → Bool
is_same_role (Superior key) (Superior other) = is_same key other
is_same_role (Superior key) (Subordinate other place) = false
is_same_role (Subordinate key part) (Superior other) = false
is_same_role (Subordinate key part) (Subordinate other place) = is_same key other && (part == place)

abbrev pub roles_of : State → List Role
roles_of state = filter_map (λ connection. connection.role) state.connections

-- no two of them are the same
abbrev pub are_distinct : {T : Type 0} → (T → T → Bool) → List T → Bool
are_distinct same [] = true
are_distinct same (x ∷ xs) = not (list_any (same x) xs) && are_distinct same xs

-- each transaction has one superior at most, and each part one connection
abbrev pub have_roles : State → Bool
have_roles state = list_all (is_role_in state) (roles_of state) && are_distinct is_same_role (roles_of state)
