use Rattle.std.proofs.Common.{◌≡◌, ◌∙◌, ℕ, Bool, List, None, Option, Some, ap, refl, subst, sym, true}
use Rattle.std.specs.Prelude.{IfSome, map, slice_get}
use Rattle.std.specs.List.{find}
use Rattle.std.proofs.lemmas.Option.{IfSome_then}
use Rattle.slab.specs.Slab.{Slab}
use Rattle.tip_table.specs.declared.table.Entry.{Entry}
use Rattle.tip_table.specs.Entries.{AreByRealm, AreThere, IsFirstAt, items_at, items_in, own_keys, placed_at}
use Rattle.tip_table.specs.Kept.{of, places}
use Rattle.tip_table.specs.Lists.{IsFirst, are_rising}
use Rattle.tip_table.proofs.Halving.{has}
use Rattle.tip_table.proofs.OwnLemmas.{items-own, standing-own}
use Rattle.tip_table.proofs.Standing.{found-first}
use Rattle.tip_table.proofs.table.Table.find_ranked.Goals as goal

pub key_ranked-requires-clause-there : goal.key_ranked-requires-clause-there
key_ranked-requires-clause-there g c = subst (AreThere c.self.inside.slots) (sym c.deref.ensures.value) c.self.invariant.0.there

pub key_ranked-requires-clause-by_realm : goal.key_ranked-requires-clause-by_realm
key_ranked-requires-clause-by_realm g c = subst (λ keys. AreByRealm (placed_at c.self.inside.slots keys)) (sym c.deref.ensures.value) c.self.invariant.0.by_realm

pub key_ranked-requires-clause-rising : goal.key_ranked-requires-clause-rising
unfolding of
key_ranked-requires-clause-rising g c =
    let slots = c.self.inside.slots in
    let keys = c.self.inside.order.items in
    let rank = g.R.Rank.rank c.args.ranks.now in
    let rising : are_rising (map rank (items_in (placed_at slots keys) c.args.realm)) ≡ true = rw (← c.self.view_is) at c.requires in
    ap (λ ks. are_rising (map rank (items_at slots (own_keys slots ks c.args.realm)))) c.deref.ensures.value ∙ ap (λ items. are_rising (map rank items)) (items-own slots keys c.args.realm) ∙ rising

pub returns-clause-none : goal.returns-clause-none
unfolding of
returns-clause-none g c =
    let slots = c.self.inside.slots in
    let keys = c.self.inside.order.items in
    let test = has (g.R.Rank.rank c.args.ranks.now) c.args.rank in
    let same : items_at slots (own_keys slots c.deref.result.now c.args.realm) ≡ items_in (placed_at slots keys) c.args.realm = ap (λ ks. items_at slots (own_keys slots ks c.args.realm)) c.deref.ensures.value ∙ items-own slots keys c.args.realm in
    rw (← c.self.view_is) (
      (λ none. ap (find test) (sym same) ∙ c.key_ranked.ensures.none none),
      λ none. by slots test (own_keys slots c.deref.result.now c.args.realm) c.key_ranked.result c.key_ranked.ensures.some (ap (find test) same ∙ none),
    ) where
      by : {T : Type 0} (slots : Slab (Entry T)) (test : T → Bool) (own : List ℕ) (found : Option ℕ) → IfSome found (IsFirstAt slots test own) → find test (items_at slots own) ≡ None → found ≡ None
      by slots test own None first none = refl
      by slots test own (Some key) first none = absurd (found-first test (items_at slots own) first.at first.first none)

pub returns-clause-some : goal.returns-clause-some
unfolding places of
returns-clause-some g c =
    let slots = c.self.inside.slots in
    let keys = c.self.inside.order.items in
    let test = has (g.R.Rank.rank c.args.ranks.now) c.args.rank in
    let same : items_at slots (own_keys slots c.deref.result.now c.args.realm) ≡ items_in (placed_at slots keys) c.args.realm = ap (λ ks. items_at slots (own_keys slots ks c.args.realm)) c.deref.ensures.value ∙ items-own slots keys c.args.realm in
    IfSome_then c.key_ranked.result c.key_ranked.ensures.some (λ key first.
    let at : slice_get (own_keys slots keys c.args.realm) first.at ≡ Some key = ap (λ ks. slice_get (own_keys slots ks c.args.realm) first.at) (sym c.deref.ensures.value) ∙ first.here in
    rw (← c.self.view_is) (record {
      at = first.at;
      there = (standing-own slots keys c.args.realm first.at key c.self.invariant.0.there c.self.invariant.0.apart at).0;
      first = subst (λ items. IsFirst test items first.at) same first.first;
    }))
