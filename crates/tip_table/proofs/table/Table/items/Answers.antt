use Rattle.std.proofs.Common.{◌≡◌, ◌∙◌, ap}
use Rattle.tip_table.specs.Entries.{own_keys}
use Rattle.tip_table.specs.Kept.{of}
use Rattle.tip_table.proofs.Shelving.{own-items}
use Rattle.tip_table.proofs.table.Table.items.Goals as goal

pub returns : goal.returns
unfolding of
returns g c =
    let slots = c.self.inside.slots in
    let keys = c.self.inside.order.items in
    let own : c.own.result.now ≡ own_keys slots keys c.args.realm = c.own.ensures ∙ ap (λ ks. own_keys slots ks c.args.realm) c.deref.ensures.value in
    rw (← c.self.view_is) (c.new.ensures ∙ own-items slots keys c.own.result.now c.args.realm own)
