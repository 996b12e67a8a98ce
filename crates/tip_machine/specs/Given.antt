-- What a realm has given: numbers to connections, and keys to transactions (ours). It computes.
use Rattle.std.specs.Prelude.{ℕ, ◌+◌, ◌==◌, ◌&&◌, ◌||◌, not, nat_le, nat_lt, Bool, List, [], ◌∷◌, ◌++◌, map}
use Rattle.std.specs.List.{list_any}
use Rattle.tip_rows.specs.Keys.{Key}
use Rattle.tip_table.specs.Lists.{are_rising}
use Rattle.tip_machine.specs.Types.{Connection}
use Rattle.tip_machine.specs.Connections.{has_number}
use Rattle.tip_machine.specs.States.{State}

abbrev pub numbers_of : List Connection → List ℕ
numbers_of connections = map (λ connection. connection.number) connections

-- the numbers of connections rise in the order made, and each was given
abbrev pub are_numbered : State → Bool
are_numbered state = are_rising (numbers_of state.connections ++ (state.head.given + 1) ∷ [])

-- is the transaction of this key one that this connection has still to make?
abbrev pub is_to_make : Key → Connection → Bool
is_to_make key connection = has_number key.connection connection && nat_lt connection.made key.number

-- this key was given: each of an earlier start was; of this start those that a connection has made; where it is gone, all
abbrev pub was_given : State → Key → Bool
was_given state key =
    nat_lt key.epoch state.head.epoch
    || ((key.epoch == state.head.epoch) && (nat_le key.connection state.head.given && not (list_any (is_to_make key) state.connections)))
