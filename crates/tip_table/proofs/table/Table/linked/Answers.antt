use Rattle.std.proofs.Common.{◌∙◌, ◌≤◌, ap, length, subst, sym}
use Rattle.std.specs.Prelude.{filter}
use Rattle.tip_table.specs.Entries.{items_at, own_keys}
use Rattle.tip_table.specs.Kept.{of}
use Rattle.tip_table.specs.Links.{AreEnough}
use Rattle.tip_table.proofs.Aiming.{enough-fewer, enough-filter}
use Rattle.tip_table.proofs.OwnLemmas.{items-own, there-own}
use Rattle.tip_table.proofs.table.Table.linked.Goals as goal

pub returns-clause-all : goal.returns-clause-all
unfolding of
returns-clause-all g c = λ test aims.
    let slots = c.self.inside.slots in
    let keys = c.self.inside.order.items in
    let own = own_keys slots keys c.args.realm in
    let some = c.aimed-some.result.now in
    let link = g.T.Linked in
    let enough : AreEnough link slots own c.args.aim some = subst (λ ks. AreEnough link slots (own_keys slots ks c.args.realm) c.args.aim some) c.deref.ensures.value c.aimed-some.ensures in
    rw (← c.self.view_is) (ap (filter test) c.new.ensures ∙ enough-filter link slots c.args.aim test aims own some enough ∙ ap (filter test) (items-own slots keys c.args.realm))

pub returns-clause-fewer : goal.returns-clause-fewer
unfolding of
returns-clause-fewer g c =
    let slots = c.self.inside.slots in
    let keys = c.self.inside.order.items in
    let own = own_keys slots keys c.args.realm in
    let some = c.aimed-some.result.now in
    let link = g.T.Linked in
    let enough : AreEnough link slots own c.args.aim some = subst (λ ks. AreEnough link slots (own_keys slots ks c.args.realm) c.args.aim some) c.deref.ensures.value c.aimed-some.ensures in
    let fewer = enough-fewer slots link own some c.args.aim enough (there-own slots keys c.args.realm c.self.invariant.0.there) in
    rw (← c.self.view_is) (subst (λ items. length c.new.result ≤ length items) (items-own slots keys c.args.realm) (subst (λ items. length items ≤ length (items_at slots own)) (sym c.new.ensures) fewer))
