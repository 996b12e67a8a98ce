-- What a table ends as, where a `&mut` to one of its items is returned.
use Rattle.std.specs.Prelude.{ℕ}
use Rattle.std.specs.Borrow.{Lends, Fml, RattleType, MutBor}
use Rattle.std.specs.declared.alloc.Allocator.{Ghosts}
use Rattle.tip_table.specs.declared.link.Linked as linked
use Rattle.tip_table.specs.Kept.{Kept, with_item_at}
use Rattle.tip_table.specs.contracts.table.Table.{the_row}

module _ (T A : RattleType) (links : linked.Ghosts T.Denot) (alloc : Ghosts A.Denot) (table : MutBor (Kept T.Denot)) (place : ℕ) where
  -- once the borrow ends, the place has the last value written through it
  abbrev pub LendsItem : MutBor T.Denot → Fml
  LendsItem item = Lends (the_row T A links alloc) T table item (with_item_at table.now place)
