use Rattle.std.proofs.Common.{◌≡◌, ◌∙◌, ap, length, sym}
use Rattle.tip_table.specs.Entries.{own_keys}
use Rattle.tip_table.specs.Kept.{of}
use Rattle.tip_table.proofs.OwnLemmas.{items-own, length-items, there-own}
use Rattle.tip_table.proofs.table.Table.count.Goals as goal

pub returns : goal.returns
unfolding of
returns g c =
    let slots = c.self.inside.slots in
    let keys = c.self.inside.order.items in
    let own : c.own.result.now ≡ own_keys slots keys c.args.realm = c.own.ensures ∙ ap (λ ks. own_keys slots ks c.args.realm) c.deref.ensures.value in
    rw (← c.self.view_is) (ap length own ∙ sym (length-items slots (own_keys slots keys c.args.realm) (there-own slots keys c.args.realm c.self.invariant.0.there)) ∙ ap length (items-own slots keys c.args.realm))
