use Rattle.std.proofs.Common.{◌≡◌, ◌∙◌, ◌≤◌, ◌-◌, ℕ, List, ap, length, min, refl, sym, subst, true, vec_capacity, vec_len}
use Rattle.std.specs.Prelude.{IsSome, option_map}
use Rattle.slab.specs.Slab.{slab_len, with_value}
use Rattle.tip_table.specs.Entries.{Placed, is_among, placed_at, standing_in, written_in}
use Rattle.tip_table.specs.Kept.{Kept, of, places, with_item_at}
use Rattle.tip_table.specs.Links.{AreCounted, IsKnown}
use Rattle.tip_table.proofs.EntryLemmas.{item-standing, item_in}
use Rattle.tip_table.proofs.Keeping.{IsSame, may_settle, order-kept, settled-counted, settled-known, settled-same, written-counted, written-known}
use Rattle.tip_table.proofs.Shelving.{order-set, placed-set}
use Rattle.tip_table.proofs.SlotLemmas.{among-standing, get-standing, item-get, len-written}
use Rattle.tip_table.proofs.table.Table.item_mut.Goals as goal

pub settle-unlisted-requires : goal.settle-unlisted-requires
settle-unlisted-requires g c =
    let inside = c.self.inside in
    may_settle g.T.Linked inside.slots inside.order.items inside.links.items _ inside.unlisted c.self.invariant.1 c.self.invariant.3

pub index_mut-entry-requires : goal.index_mut-entry-requires
unfolding places
index_mut-entry-requires g c =
    let old = c.self.inside in
    let keys = old.order.items in
    let new = c.settle-unlisted.new in
    let same : IsSame g.T.Linked old.slots new.slots keys = settled-same g.T.Linked old.slots new.slots keys old.links.items new.links.items old.unlisted c.settle-unlisted.result c.settle-unlisted.ensures.settled in
    get-standing new.slots keys c.args.place (subst (λ es. IsSome (standing_in es c.args.place)) (sym same.placed) (rw (← c.self.view_is) at c.requires))

pub invariant_of-self-lent : goal.invariant_of-self-lent
unfolding places
invariant_of-self-lent g c = λ w.
    let link = g.T.Linked in
    let old = c.self.inside in
    let keys = old.order.items in
    let new = c.settle-unlisted.new in
    let rest = c.settle-unlisted.result in
    let settles = c.settle-unlisted.ensures.settled in
    let same : IsSame link old.slots new.slots keys = settled-same link old.slots new.slots keys old.links.items new.links.items old.unlisted rest settles in
    let entry = c.index_mut-entry.result.now in
    let is = c.index_mut-entry.ensures.value in
    let among : is_among keys c.args.place ≡ true = among-standing old.slots keys c.args.place (rw (← c.self.view_is) at c.requires) in
    let after = with_value new.slots c.args.place (record entry { item = w }) in (
      order-set new.slots keys (order-kept link old.slots new.slots keys same c.self.invariant.0) c.args.place entry is w,
      subst (IsKnown link after keys new.links.items) (sym c.lent-self-inside.ensures) (written-known link new.slots keys c.args.place entry is w new.links.items rest among (settled-known link old.slots new.slots keys old.links.items new.links.items old.unlisted rest settles c.self.invariant.1)),
      subst (AreCounted after keys old.made) (sym c.lent-self-inside.ensures) (written-counted link new.slots keys c.args.place entry is w old.made rest (settled-counted link old.slots new.slots keys old.links.items new.links.items old.made old.unlisted rest settles c.self.invariant.2)),
      subst (λ n. length keys ≤ n) (sym c.settle-unlisted.ensures.room) c.self.invariant.3,
    )

pub returns : goal.returns
unfolding of places with_item_at
returns g c =
    let link = g.T.Linked in
    let old = c.self.inside in
    let keys = old.order.items in
    let new = c.settle-unlisted.new in
    let same : IsSame link old.slots new.slots keys = settled-same link old.slots new.slots keys old.links.items new.links.items old.unlisted c.settle-unlisted.result c.settle-unlisted.ensures.settled in
    let order = order-kept link old.slots new.slots keys same c.self.invariant.0 in
    let entry = c.index_mut-entry.result.now in
    let is = c.index_mut-entry.ensures.value in
    let there = rw (← c.self.view_is) at c.requires in
    let standing : IsSome (standing_in (placed_at new.slots keys) c.args.place) = subst (λ es. IsSome (standing_in es c.args.place)) (sym same.placed) there in
    let rest = vec_capacity old.order - vec_len old.order in
    let room : new.slots.capacity - slab_len new.slots ≡ old.slots.capacity - slab_len old.slots = same.room in
    let make : List (Placed g.row.T.Denot) → ℕ → ℕ → Kept g.row.T.Denot = λ es n m. record { entries = es; free = min n (min rest (m - length keys)) } in (
      (
        refl,
        λ w. rw (← c.self.view_is) (
            ap (λ n. make (placed_at (with_value new.slots c.args.place (record entry { item = w })) keys) (new.slots.capacity - n) (vec_capacity new.links)) (len-written new.slots c.args.place (record entry { item = w }) (get-standing new.slots keys c.args.place standing)) ∙
            ap (λ es. make es (new.slots.capacity - slab_len new.slots) (vec_capacity new.links)) (placed-set new.slots keys order c.args.place entry is w ∙ ap (λ es. written_in es c.args.place w) same.placed) ∙
            ap (λ n. make (written_in (placed_at old.slots keys) c.args.place w) n (vec_capacity new.links)) room ∙
            ap (λ m. make (written_in (placed_at old.slots keys) c.args.place w) (old.slots.capacity - slab_len old.slots) m) c.settle-unlisted.ensures.room),
      ),
      record { writes_back = tt; value = rw (← c.self.view_is) (item-standing (placed_at old.slots keys) c.args.place ∙ ap (λ es. item_in es c.args.place) (sym same.placed) ∙ item-get new.slots keys c.args.place standing ∙ ap (option_map (λ e. e.item)) is) },
    )
