-- Realms at their start have nothing.
use Rattle.std.specs.Prelude.{ℕ, ◌≡◌, List, [], slice_index_or}
use Rattle.tip_table.specs.Kept.{of}
use Rattle.tip_rules.specs.Works.{Tables, no_tables}

-- these tables have no connection and no transaction, of whatever realm
abbrev pub AreEmpty : List Tables → Type 0
AreEmpty tables = (place realm : ℕ) → (of (slice_index_or tables place no_tables).connections realm ≡ []) × (of (slice_index_or tables place no_tables).transactions realm ≡ [])
