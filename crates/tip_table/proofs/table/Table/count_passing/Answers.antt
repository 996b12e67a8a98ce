use Rattle.std.proofs.Common.{◌∙◌, ap, length, subst}
use Rattle.std.specs.Prelude.{filter}
use Rattle.tip_table.specs.Entries.{own_keys}
use Rattle.tip_table.specs.Kept.{of}
use Rattle.tip_table.specs.Links.{AreEnough}
use Rattle.tip_table.proofs.Aiming.{enough-filter}
use Rattle.tip_table.proofs.OwnLemmas.{counted, items-own}
use Rattle.tip_table.proofs.table.Table.count_passing.Goals as goal

pub returns : goal.returns
unfolding of
returns g c =
    let slots = c.self.inside.slots in
    let keys = c.self.inside.order.items in
    let own = own_keys slots keys c.args.realm in
    let some = c.aimed-some.result.now in
    let test = g.Q.Test.passes c.args.query.now in
    let link = g.T.Linked in
    let enough : AreEnough link slots own c.aim.result some = subst (λ ks. AreEnough link slots (own_keys slots ks c.args.realm) c.aim.result some) c.deref.ensures.value c.aimed-some.ensures in
    rw (← c.self.view_is) (c.count_passing.ensures ∙ counted slots test some ∙ ap length (enough-filter link slots c.aim.result test c.aim.ensures own some enough ∙ ap (filter test) (items-own slots keys c.args.realm)))
