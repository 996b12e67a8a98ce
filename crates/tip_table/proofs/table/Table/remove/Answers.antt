use Rattle.std.proofs.Common.{◌≡◌, ◌∙◌, ◌<◌, ap, arith, get_or, length, sym, subst, true, ℕ, List, None}
use Rattle.std.specs.Prelude.{IsSome, option_map, ◌-◌, remove, suc}
use Rattle.std.proofs.lemmas.Grind.{common_steps}
use Rattle.tip_table.specs.Entries.{IsOrder, is_among, placed_at, standing_in, items_in}
use Rattle.tip_table.specs.Kept.{of, places, taken_out}
use Rattle.tip_table.proofs.EntryLemmas.{item-standing, item_in, items_in-taken, length-taken, taken_in}
use Rattle.tip_table.proofs.Keeping.{IsSame, counted-removed, known-removed, may_leave, order-kept, struck-same}
use Rattle.tip_table.proofs.Shelving.{order-taken, placed-taken}
use Rattle.tip_table.proofs.SlotLemmas.{among-standing, get-standing, item-get}
use Rattle.slab.specs.Slab.{Slab, Updates, get, slab_len}
use Rattle.tip_table.specs.declared.table.Entry.{Entry}
use Rattle.tip_table.specs.declared.link.Linked.{Ghosts}
use Rattle.tip_table.specs.declared.links.Unlisted.{Unlisted}
use Rattle.tip_table.specs.Links.{IsStruck}
use Rattle.tip_table.proofs.table.Table.remove.Goals as goal

module _ {T : Type 0} (link : Ghosts T) where
  -- ONE LESS
  record IsTaken (old mid new : Slab (Entry T)) (keys after : List ℕ) (place : ℕ) : Type 0 where
    item : item_in (placed_at old keys) place ≡ option_map (λ entry. entry.item) (get mid place)
    left : (realm : ℕ) → items_in (placed_at new after) realm ≡ taken_out (standing_in (placed_at old keys) place) realm (items_in (placed_at old keys) realm)
    count : length (placed_at old keys) ≡ suc (length (placed_at new after))
    room : mid.capacity - slab_len mid ≡ old.capacity - slab_len old

  is_taken : {old mid new : Slab (Entry T)} {keys : List ℕ} {place i : ℕ} {seen after : List ℕ} (before links : List ℕ) (unlisted : Unlisted) → IsStruck place unlisted old before mid links → IsOrder old keys → IsSome (standing_in (placed_at old keys) place) → seen ≡ keys → i < length seen → get_or seen i 0 ≡ place → Updates mid new place None → after ≡ remove keys i → IsTaken old mid new keys after place
  is_taken {old} {mid} {new} {keys} {place} {i} {seen} {after} before links unlisted strikes order stands is_seen is_within is_found updates items =
      let same : IsSame link old mid keys = struck-same link old mid keys before links place unlisted strikes in
      let kept = order-kept link old mid keys same order in
      let within : i < length keys = subst (λ ks. i < length ks) is_seen is_within in
      let found : get_or keys i 0 ≡ place = ap (λ ks. get_or ks i 0) (sym is_seen) ∙ is_found in
      let standing : IsSome (standing_in (placed_at mid keys) place) = subst (λ es. IsSome (standing_in es place)) (sym same.placed) stands in
      let placed : placed_at new after ≡ taken_in (placed_at old keys) place = ap (placed_at new) items ∙ placed-taken mid new keys kept place i within found updates ∙ ap (λ es. taken_in es place) same.placed in
      record {
        item = ap (λ es. item_in es place) (sym same.placed) ∙ item-get mid keys place standing;
        left = λ realm. ap (λ es. items_in es realm) placed ∙ items_in-taken (placed_at old keys) place realm;
        count = length-taken (placed_at old keys) place stands ∙ ap (λ es. suc (length es)) (sym placed);
        room = same.room;
      }

pub index_of-index-requires-clause-among : goal.index_of-index-requires-clause-among
unfolding places
index_of-index-requires-clause-among g c = subst (λ ks. is_among ks c.args.place ≡ true) (sym c.deref.ensures.value) (among-standing c.self.inside.slots c.self.inside.order.items c.args.place (rw (← c.self.view_is) at c.requires))

pub leave-self-inside-requires : goal.leave-self-inside-requires
unfolding places
leave-self-inside-requires g c =
    let old = c.self.inside in
    may_leave g.T.Linked old.slots old.order.items old.links.items _ c.args.place old.unlisted c.self.invariant.1 (among-standing old.slots old.order.items c.args.place (rw (← c.self.view_is) at c.requires)) c.self.invariant.3

pub remove-requires : goal.remove-requires
unfolding places
remove-requires g c =
    let link = g.T.Linked in
    let old = c.self.inside in
    let keys = old.order.items in
    let mid = c.leave-self-inside.new in
    let same : IsSame link old.slots mid.slots keys = struck-same link old.slots mid.slots keys old.links.items mid.links.items c.args.place old.unlisted c.leave-self-inside.ensures.struck in
    get-standing mid.slots keys c.args.place (subst (λ es. IsSome (standing_in es c.args.place)) (sym same.placed) (rw (← c.self.view_is) at c.requires))

pub invariant_of-self : goal.invariant_of-self
invariant_of-self g c =
    let link = g.T.Linked in
    let old = c.self.inside in
    let keys = old.order.items in
    let mid = c.leave-self-inside.new in
    let struck = c.leave-self-inside.ensures.struck in
    let same : IsSame link old.slots mid.slots keys = struck-same link old.slots mid.slots keys old.links.items mid.links.items c.args.place old.unlisted struck in
    let order : IsOrder mid.slots keys = order-kept link old.slots mid.slots keys same c.self.invariant.0 in
    let new = c.remove.new.self in
    let i = c.index_of-index.result in
    let within : i < length keys = subst (λ ks. i < length ks) c.deref.ensures.value c.index_of-index.ensures.within in
    let found : get_or keys i 0 ≡ c.args.place = ap (λ ks. get_or ks i 0) (sym c.deref.ensures.value) ∙ c.index_of-index.ensures.found in
    let updates = c.remove.ensures.updates in
    let items = c.remove-key.ensures.items in
    rw (items, c.leave-self-inside.ensures.unlisted) (
      order-taken mid.slots new keys order c.args.place i within found updates,
      known-removed link old.slots mid.slots new keys old.links.items mid.links.items c.self.invariant.0.apart c.args.place i within found updates old.unlisted struck c.self.invariant.1,
      counted-removed link old.slots mid.slots new keys old.links.items mid.links.items c.self.invariant.0.apart c.args.place i within found updates old.made old.unlisted struck c.self.invariant.2,
      (let space = c.self.invariant.3 in grind (arith, common_steps)),
    )

pub returns-clause-taken : goal.returns-clause-taken
unfolding of places
returns-clause-taken g c =
    let all = is_taken g.T.Linked c.self.inside.links.items c.leave-self-inside.new.links.items c.self.inside.unlisted c.leave-self-inside.ensures.struck c.self.invariant.0 (rw (← c.self.view_is) at c.requires) c.deref.ensures.value c.index_of-index.ensures.within c.index_of-index.ensures.found c.remove.ensures.updates c.remove-key.ensures.items in
    rw (← c.self.view_is) (item-standing (placed_at c.self.inside.slots c.self.inside.order.items) c.args.place ∙ all.item ∙ ap (option_map (λ entry. entry.item)) c.remove.ensures.value)

pub returns-clause-left : goal.returns-clause-left
unfolding of places
returns-clause-left g c = λ realm.
    let all = is_taken g.T.Linked c.self.inside.links.items c.leave-self-inside.new.links.items c.self.inside.unlisted c.leave-self-inside.ensures.struck c.self.invariant.0 (rw (← c.self.view_is) at c.requires) c.deref.ensures.value c.index_of-index.ensures.within c.index_of-index.ensures.found c.remove.ensures.updates c.remove-key.ensures.items in
    rw (← c.self.view_is) (all.left realm)

pub returns-clause-free : goal.returns-clause-free
unfolding places
returns-clause-free g c =
    let all = is_taken g.T.Linked c.self.inside.links.items c.leave-self-inside.new.links.items c.self.inside.unlisted c.leave-self-inside.ensures.struck c.self.invariant.0 (rw (← c.self.view_is) at c.requires) c.deref.ensures.value c.index_of-index.ensures.within c.index_of-index.ensures.found c.remove.ensures.updates c.remove-key.ensures.items in
    let room = all.room in
    let space = c.self.invariant.3 in
    rw (← c.self.view_is) (grind (arith, common_steps, room, space))

pub returns-clause-room : goal.returns-clause-room
unfolding places
returns-clause-room g c =
    let all = is_taken g.T.Linked c.self.inside.links.items c.leave-self-inside.new.links.items c.self.inside.unlisted c.leave-self-inside.ensures.struck c.self.invariant.0 (rw (← c.self.view_is) at c.requires) c.deref.ensures.value c.index_of-index.ensures.within c.index_of-index.ensures.found c.remove.ensures.updates c.remove-key.ensures.items in
    let count = all.count in
    let room = all.room in
    let space = c.self.invariant.3 in
    rw (← c.self.view_is) (grind (arith, common_steps, count, room, space))
