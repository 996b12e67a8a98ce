use Rattle.std.proofs.Common.{◌∙◌, ap}
use Rattle.std.specs.Prelude.{option_map}
use Rattle.tip_table.specs.Entries.{placed_at}
use Rattle.tip_table.specs.Kept.{of, places}
use Rattle.tip_table.proofs.EntryLemmas.{item-standing}
use Rattle.tip_table.proofs.SlotLemmas.{get-standing, item-get}
use Rattle.tip_table.proofs.table.Table.item.Goals as goal

pub index-requires : goal.index-requires
unfolding places
index-requires g c = get-standing c.self.inside.slots c.self.inside.order.items c.args.place (rw (← c.self.view_is) at c.requires)

pub returns : goal.returns
unfolding of places
returns g c =
    let slots = c.self.inside.slots in
    let keys = c.self.inside.order.items in
    rw (← c.self.view_is) (item-standing (placed_at slots keys) c.args.place ∙ item-get slots keys c.args.place (rw (← c.self.view_is) at c.requires) ∙ ap (option_map (λ entry. entry.item)) c.index.ensures)
