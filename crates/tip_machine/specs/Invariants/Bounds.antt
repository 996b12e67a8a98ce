-- Counts that are bounded, so that each number of a key fits 32 bits, and identifiers tell transactions apart (ours, for section 5).
use Rattle.std.specs.Prelude.{ℕ, ◌&&◌, nat_le, nat_lt, Bool}
use Rattle.std.specs.List.{list_all}
use Rattle.tip_rows.specs.Keys.{Key}
use Rattle.tip_rows.specs.Logs.{last_epoch}
use Rattle.tip_machine.specs.Heads.{are_allowed, is_within}
use Rattle.tip_machine.specs.States.{State}
use Rattle.tip_machine.specs.Types.{Connection}

-- each number of the key fits 32 bits, as the last epoch does
abbrev pub is_spelled : Key → Bool
is_spelled key = nat_le key.epoch last_epoch && nat_le key.connection last_epoch && nat_le key.number last_epoch

-- a connection has a number, and no more transactions were made on it than there are entries
abbrev pub is_below : ℕ → Connection → Bool
is_below entries connection = nat_lt 0 connection.number && nat_le connection.made entries

-- an epoch and limits as they may be, no more entries than the limit, no more counted than there are entries, and keys that fit
abbrev pub are_bounded : State → Bool
are_bounded state =
    is_within 1 last_epoch state.head.epoch && are_allowed state.head.limits
    && nat_le state.head.given state.head.entries && nat_le state.head.entries state.head.limits.entries
    && list_all (is_below state.head.entries) state.connections && list_all (λ transaction. is_spelled transaction.key) state.transactions
