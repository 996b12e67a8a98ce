-- It is among those of its realm.
use Rattle.std.proofs.Common.{◌≡◌, ◌∙◌, ap, arith, true}
use Rattle.std.specs.Prelude.{◌==◌, slice_range}
use Rattle.std.proofs.lemmas.Bool.{and_from}
use Rattle.std.proofs.lemmas.Bool.Decides.{nat_tests}
use Rattle.slab.specs.Slab.{get}
use Rattle.tip_table.specs.Entries.{is_among, own_keys, realm_in}
use Rattle.tip_table.proofs.OwnLemmas.{among-own, own-range}
use Rattle.tip_table.proofs.order.index_of.Goals as goal

pub offset_of-requires : goal.offset_of-requires
offset_of-requires g c =
    let slots = c.args.slots.now in
    let keys = c.args.keys.now in
    let realm = c.realm_at-realm.result in
    let own : slice_range keys c.before-start.result c.through-end.result ≡ own_keys slots keys realm = rw (c.before-start.ensures.count, c.through-end.ensures.count) (own-range slots keys realm c.requires.there c.requires.by_realm) in
    let its = c.realm_at-realm.ensures in
    let same : (realm_in (get slots c.args.key) == realm) ≡ true = grind (arith, nat_tests, its) in
    ap (λ l. is_among l c.args.key) own ∙ among-own slots keys realm c.args.key ∙ and_from (is_among keys c.args.key) (realm_in (get slots c.args.key) == realm) c.requires.among same
