use Rattle.std.proofs.Common.{◌≡◌, ◌⊎◌, ◌∙◌, ◌+◌, ◌≤◌, None, ap, arith, insert, length, refl, subst, sym, ◌≢◌, ◌∷◌, ℕ, List, [], Some}
use Rattle.std.proofs.lemmas.Grind.{common_steps}
use Rattle.tip_table.specs.declared.table.Entry.{Entry}
use Rattle.tip_table.specs.Entries.{AreByRealm, AreThere, IsOrder, count_below, placed_at, Item, items_in, standing_in}
use Rattle.tip_table.specs.Kept.{of, places}
use Rattle.tip_table.specs.Links.{lent, Settles}
use Rattle.tip_table.specs.declared.links.Unlisted.TheVariants.{Any}
use Rattle.tip_table.proofs.Keeping.{counted-added, known-added, known-counted, may_settle, settled-counted, settled-known, IsSame, order-kept, settled-same}
use Rattle.tip_table.proofs.Shelving.{order-added, one, place-apart, placed-added}
use Rattle.std.specs.Prelude.{◌-◌, ◌++◌, suc}
use Rattle.slab.specs.Slab.{Slab, Updates, get, slab_len}
use Rattle.tip_table.specs.declared.link.Linked.{Ghosts}
use Rattle.tip_table.specs.declared.links.Unlisted.{Unlisted}
use Rattle.tip_table.proofs.EntryLemmas.{added_in, items_in-added, length-added, others-added, standing_in-added}
use Rattle.tip_table.proofs.table.Table.add.Goals as goal

module _ {T : Type 0} (link : Ghosts T) where
  -- what was lent is listed: they stand in the order of before
  settled-order : {old mid : Slab (Entry T)} {keys : List ℕ} (before links : List ℕ) (unlisted rest : Unlisted) → Settles link unlisted old before rest mid links → IsOrder old keys → IsOrder mid keys
  settled-order {old} {mid} {keys} before links unlisted rest settles order = order-kept link old mid keys (settled-same link old mid keys before links unlisted rest settles) order

  -- ONE MORE
  record IsAdded (old mid new : Slab (Entry T)) (keys after : List ℕ) (entry : Entry T) : Type 0 where
    added : items_in (placed_at new after) entry.realm ≡ items_in (placed_at old keys) entry.realm ++ entry.item ∷ []
    others : (other : ℕ) → other ≢ entry.realm → items_in (placed_at new after) other ≡ items_in (placed_at old keys) other
    places : (place : ℕ) (there : Item) → standing_in (placed_at old keys) place ≡ Some there → standing_in (placed_at new after) place ≡ Some there
    count : length (placed_at new after) ≡ suc (length (placed_at old keys))
    room : mid.capacity - slab_len mid ≡ old.capacity - slab_len old

  is_added : {old mid new : Slab (Entry T)} {keys : List ℕ} {entry : Entry T} {key end : ℕ} {seen after : List ℕ} (before links : List ℕ) (unlisted rest : Unlisted) → Settles link unlisted old before rest mid links → IsOrder old keys → get mid key ≡ None → Updates mid new key (Some entry) → seen ≡ keys → end ≡ count_below (entry.realm + 1) (placed_at mid seen) → after ≡ insert keys end key → IsAdded old mid new keys after entry
  is_added {old} {mid} {new} {keys} {entry} {key} {end} {seen} {after} before links unlisted rest settles order vacant updates is_seen count items =
      let same : IsSame link old mid keys = settled-same link old mid keys before links unlisted rest settles in
      let kept = order-kept link old mid keys same order in
      let last : end ≡ count_below (entry.realm + 1) (placed_at mid keys) = count ∙ ap (λ ks. count_below (entry.realm + 1) (placed_at mid ks)) is_seen in
      let more = one mid new keys kept key entry vacant updates end last in
      let placed : placed_at new after ≡ added_in more (placed_at old keys) = ap (placed_at new) items ∙ placed-added mid new keys kept key entry vacant updates end last ∙ ap (added_in more) same.placed in
      record {
        added = ap (λ es. items_in es entry.realm) placed ∙ items_in-added more (placed_at old keys) order.by_realm;
        others = λ other differs. ap (λ es. items_in es other) placed ∙ others-added more (placed_at old keys) other differs;
        places = λ place there stood.
            let apart = place-apart mid new keys kept key entry vacant updates end last place there (ap (λ es. standing_in es place) same.placed ∙ stood) in
            ap (λ es. standing_in es place) placed ∙ standing_in-added more (placed_at old keys) place there order.by_realm apart stood;
        count = ap length placed ∙ length-added more (placed_at old keys);
        room = same.room;
      }

pub settle-self-inside-requires : goal.settle-self-inside-requires
settle-self-inside-requires g c =
    let inside = c.self.inside in
    may_settle g.T.Linked inside.slots inside.order.items inside.links.items _ inside.unlisted c.self.invariant.1 c.self.invariant.3

pub through-end-requires-clause-there : goal.through-end-requires-clause-there
through-end-requires-clause-there g c = subst (AreThere c.settle-self-inside.new.slots) (sym c.deref.ensures.value) (settled-order g.T.Linked c.self.inside.links.items c.settle-self-inside.new.links.items c.self.inside.unlisted c.settle-self-inside.result c.settle-self-inside.ensures.settled c.self.invariant.0).there

pub through-end-requires-clause-by_realm : goal.through-end-requires-clause-by_realm
through-end-requires-clause-by_realm g c = subst (λ ks. AreByRealm (placed_at c.settle-self-inside.new.slots ks)) (sym c.deref.ensures.value) (settled-order g.T.Linked c.self.inside.links.items c.settle-self-inside.new.links.items c.self.inside.unlisted c.settle-self-inside.result c.settle-self-inside.ensures.settled c.self.invariant.0).by_realm

pub invariant_of-self : goal.invariant_of-self
invariant_of-self g c =
    let link = g.T.Linked in
    let old = c.self.inside in
    let keys = old.order.items in
    let mid = c.settle-self-inside.new in
    let rest = c.settle-self-inside.result in
    let settles = c.settle-self-inside.ensures.settled in
    let order : IsOrder mid.slots keys = settled-order link old.links.items mid.links.items old.unlisted rest settles c.self.invariant.0 in
    let new = c.insert_reserved-key.new.self in
    let key = c.insert_reserved-key.result in
    let entry : Entry g.row.T.Denot = record { realm = c.args.realm; made = old.made; listed = None; item = c.args.item } in
    let end = c.through-end.result in
    let last : end ≡ count_below (c.args.realm + 1) (placed_at mid.slots keys) = c.through-end.ensures.count ∙ ap (λ ks. count_below (c.args.realm + 1) (placed_at mid.slots ks)) c.deref.ensures.value in
    let items : c.insert.new.self.items ≡ insert keys end key = grind (arith, common_steps) in
    let within : end ≤ length keys = subst (λ ks. end ≤ length ks) c.deref.ensures.value c.through-end.ensures.within in
    let known = settled-known link old.slots mid.slots keys old.links.items mid.links.items old.unlisted rest settles c.self.invariant.1 in
    let counted = settled-counted link old.slots mid.slots keys old.links.items mid.links.items old.made old.unlisted rest settles c.self.invariant.2 in
    let after = known-added link mid.slots new keys mid.links.items order key entry c.insert_reserved-key.ensures.was_vacant c.insert_reserved-key.ensures.updates end last within refl rest counted known in
    let more = counted-added link mid.slots new keys mid.links.items order key entry c.insert_reserved-key.ensures.was_vacant c.insert_reserved-key.ensures.updates end last within refl rest counted in
    let counts : (c.count.result.0 ≡ old.made + 1) × (c.count.result.1 ≡ lent key rest) ⊎ (c.count.result.1 ≡ Any) = subst (λ unlisted. (c.count.result.0 ≡ old.made + 1) × (c.count.result.1 ≡ unlisted) ⊎ (c.count.result.1 ≡ Any)) c.lent.ensures c.count.ensures in
    let both = known-counted link new (insert keys end key) mid.links.items (lent key rest) c.count.result.1 c.count.result.0 (old.made + 1) counts after more in
    rw items (order-added mid.slots new keys order key entry c.insert_reserved-key.ensures.was_vacant c.insert_reserved-key.ensures.updates end last, both.0, both.1, (let space = c.self.invariant.3 in grind (arith, common_steps)))

pub returns-clause-added : goal.returns-clause-added
unfolding of
returns-clause-added g c =
    let items : c.insert.new.self.items ≡ insert c.self.inside.order.items c.through-end.result c.insert_reserved-key.result = grind (arith, common_steps) in
    let all = is_added g.T.Linked c.self.inside.links.items c.settle-self-inside.new.links.items c.self.inside.unlisted c.settle-self-inside.result c.settle-self-inside.ensures.settled c.self.invariant.0 c.insert_reserved-key.ensures.was_vacant c.insert_reserved-key.ensures.updates c.deref.ensures.value c.through-end.ensures.count items in
    rw (← c.self.view_is) all.added

pub returns-clause-others : goal.returns-clause-others
unfolding of
returns-clause-others g c = λ other differs.
    let items : c.insert.new.self.items ≡ insert c.self.inside.order.items c.through-end.result c.insert_reserved-key.result = grind (arith, common_steps) in
    let all = is_added g.T.Linked c.self.inside.links.items c.settle-self-inside.new.links.items c.self.inside.unlisted c.settle-self-inside.result c.settle-self-inside.ensures.settled c.self.invariant.0 c.insert_reserved-key.ensures.was_vacant c.insert_reserved-key.ensures.updates c.deref.ensures.value c.through-end.ensures.count items in
    rw (← c.self.view_is) (all.others other differs)

pub returns-clause-places : goal.returns-clause-places
unfolding places
returns-clause-places g c = λ place there is.
    let items : c.insert.new.self.items ≡ insert c.self.inside.order.items c.through-end.result c.insert_reserved-key.result = grind (arith, common_steps) in
    let all = is_added g.T.Linked c.self.inside.links.items c.settle-self-inside.new.links.items c.self.inside.unlisted c.settle-self-inside.result c.settle-self-inside.ensures.settled c.self.invariant.0 c.insert_reserved-key.ensures.was_vacant c.insert_reserved-key.ensures.updates c.deref.ensures.value c.through-end.ensures.count items in
    all.places place there (rw (← c.self.view_is) at is)

pub returns-clause-room : goal.returns-clause-room
returns-clause-room g c =
    let items : c.insert.new.self.items ≡ insert c.self.inside.order.items c.through-end.result c.insert_reserved-key.result = grind (arith, common_steps) in
    let all = is_added g.T.Linked c.self.inside.links.items c.settle-self-inside.new.links.items c.self.inside.unlisted c.settle-self-inside.result c.settle-self-inside.ensures.settled c.self.invariant.0 c.insert_reserved-key.ensures.was_vacant c.insert_reserved-key.ensures.updates c.deref.ensures.value c.through-end.ensures.count items in
    let count = all.count in
    let room = all.room in
    rw (← c.self.view_is) (grind (arith, common_steps, count, room))

pub returns-clause-free : goal.returns-clause-free
returns-clause-free g c =
    let items : c.insert.new.self.items ≡ insert c.self.inside.order.items c.through-end.result c.insert_reserved-key.result = grind (arith, common_steps) in
    let all = is_added g.T.Linked c.self.inside.links.items c.settle-self-inside.new.links.items c.self.inside.unlisted c.settle-self-inside.result c.settle-self-inside.ensures.settled c.self.invariant.0 c.insert_reserved-key.ensures.was_vacant c.insert_reserved-key.ensures.updates c.deref.ensures.value c.through-end.ensures.count items in
    let room = all.room in
    rw (← c.self.view_is) (grind (arith, common_steps, room))
