-- THE STORED ROWS of each realm (ours), as the store has answered: what a host knows of them without reading them again.
use Rattle.std.specs.Prelude.{ℕ, suc, Bool, false, List, [], ◌∷◌, slice_get, if◌then◌else◌}
use Rattle.std.specs.Option.{option_map_or}
use Rattle.tip_rows.specs.Keys.{Key, comes_before, is_same}
use Rattle.tip_rows.specs.declared.row.Row.{Row}

-- the rows of one realm, by rising key, and how many can be put without memory
pub record RealmRows : Type 0 where
  pub rows : List (Key × Row)
  pub free : ℕ

-- THE ROWS of the realm at a place; none where no realm is
abbrev pub rows_at : List RealmRows → ℕ → List (Key × Row)
rows_at kept place = option_map_or (λ own. own.rows) (slice_get kept place) []

-- how many can be put there without memory
abbrev pub room_at : List RealmRows → ℕ → ℕ
room_at kept place = option_map_or (λ own. own.free) (slice_get kept place) 0

-- how many rows, at the front, come before a key
abbrev pub count_before : Key → List (Key × Row) → ℕ
count_before key [] = 0
count_before key (stored ∷ rows) = if comes_before stored.0 key then suc (count_before key rows) else 0

-- the row of a key stands at this index
abbrev pub is_at : Key → List (Key × Row) → ℕ → Bool
is_at key rows index = option_map_or (λ stored. is_same key stored.0) (slice_get rows index) false
