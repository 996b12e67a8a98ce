-- Whether the realms of a store may start (ours).
use Rattle.std.specs.Prelude.{◌≡◌, ℕ, ◌<◌, nat_lt, Bool, true, List, pos, unwrap_or, is_some}
use Rattle.std.specs.List.{list_any}
use Rattle.tip_rows.specs.Keys.{Key}
use Rattle.tip_rows.specs.Logs.{Log}
use Rattle.tip_rows.specs.declared.row.Row.{Row}

-- A ROW IS AHEAD of its realm: its transaction was made in a later epoch than the realm has. A start would raise the epoch to that
-- one some day, and give the identifier a second time.
abbrev pub IsAhead : Log → List ℕ → Type 0
IsAhead log realm = (epoch : ℕ) × (key : Key) × (unwrap_or (log.epochs realm) (pos 0) ≡ pos epoch) × (is_some (log.rows realm key) ≡ true) × (epoch < key.epoch)

-- the same of the rows that were loaded
abbrev pub are_ahead : ℕ → List (Key × Row) → Bool
are_ahead epoch rows = list_any (λ row. nat_lt epoch row.0.epoch) rows
