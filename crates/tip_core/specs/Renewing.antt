-- A realm that starts again while the others run: what it had leaves, and it has tables with room.
use Rattle.std.specs.Prelude.{◌≡◌, ◌+◌, ◌-◌, ◌≤◌, ℕ, [], length, vec_capacity, vec_len}
use Rattle.tip_table.specs.Kept.{Kept, capacity, of}
use Rattle.tip_machine.specs.Types.{Connection}
use Rattle.tip_outlook.specs.Searches.{HeldTransaction}
use Rattle.tip_rules.specs.Works.{Tables}
use Rattle.tip_core.specs.declared.renewing.Left as lefts
use Rattle.tip_core.specs.declared.renewing.Parting as partings

abbrev pub Left : Type 0
Left = lefts.Left Connection HeldTransaction

abbrev pub Parting : Type 0
Parting = partings.Parting Connection HeldTransaction

-- an empty table that has room for all items of another, and so many more
pub record IsSpare {T : Type 0} (kept : Kept T) (more : ℕ) (spare : Kept T) : Type 0 where
  pub items : (realm : ℕ) → of spare realm ≡ []
  pub room : capacity kept + more ≤ spare.free + kept.free

-- room for the realm of these tables to start again with so many rows
pub record HasRoom (tables : Tables) (realm rows : ℕ) (room : Parting) : Type 0 where
  pub spare_connections : IsSpare tables.connections 0 room.connections
  pub spare_transactions : IsSpare tables.transactions rows room.transactions
  pub no_connections : room.left.connections.items ≡ []
  pub no_transactions : room.left.transactions.items ≡ []
  pub leaving : length (of tables.connections realm) ≤ vec_capacity room.left.connections - vec_len room.left.connections
  pub closing : length (of tables.transactions realm) ≤ vec_capacity room.left.transactions - vec_len room.left.transactions
