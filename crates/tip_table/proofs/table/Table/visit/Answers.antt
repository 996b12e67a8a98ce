use Rattle.std.proofs.Common.{◌≡◌, ◌∙◌, ◌+◌, ◌-◌, ap, length, min, sym, subst, vec_capacity, vec_len}
use Rattle.slab.specs.Slab.{slab_len}
use Rattle.tip_table.specs.Entries.{IsVisited, items_at, own_keys, placed_at, visited_at}
use Rattle.tip_table.specs.Kept.{of, places}
use Rattle.tip_table.specs.Visits.{MayVisit, notes_of}
use Rattle.tip_table.proofs.EntryLemmas.{visited_all}
use Rattle.tip_table.proofs.OwnLemmas.{items-own}
use Rattle.tip_table.proofs.Shelving.{order-seen, placed-seen}
use Rattle.tip_table.proofs.Sparing.{seen-counted, seen-known}
use Rattle.tip_table.proofs.Visiting.{capacity-visited, len-visited}
use Rattle.tip_table.proofs.table.Table.visit.Goals as goal

pub visit-requires-clause-may : goal.visit-requires-clause-may
unfolding of
visit-requires-clause-may g c =
    let slots = c.self.inside.slots in
    let keys = c.self.inside.order.items in
    subst (MayVisit (g.V.Visit.may c.args.visitor.now) (g.V.Visit.noted c.args.visitor.now) c.args.notes.now) (ap (λ ks. items_at slots (own_keys slots ks c.args.realm)) (sym c.deref.ensures.value)) (subst (MayVisit (g.V.Visit.may c.args.visitor.now) (g.V.Visit.noted c.args.visitor.now) c.args.notes.now) (sym (items-own slots keys c.args.realm)) (rw (← c.self.view_is) at c.requires))

pub invariant_of-self : goal.invariant_of-self
invariant_of-self g c =
    let slots = c.self.inside.slots in
    let keys = c.self.inside.order.items in
    let left = g.V.Visit.left c.args.visitor.now in
    let new : c.visit.new.slots ≡ visited_at left slots (own_keys slots keys c.args.realm) = c.visit.ensures.visited ∙ ap (λ ks. visited_at left slots (own_keys slots ks c.args.realm)) c.deref.ensures.value in (
      order-seen left slots c.visit.new.slots keys c.self.invariant.0 c.args.realm new,
      seen-known g.T.Linked left c.visit.ensures.links c.visit.ensures.fits slots c.visit.new.slots keys c.args.realm c.self.invariant.0.apart new c.self.inside.links.items c.self.inside.unlisted c.self.invariant.1,
      seen-counted g.T.Linked left c.visit.ensures.links c.visit.ensures.fits slots c.visit.new.slots keys c.args.realm c.self.invariant.0.apart new c.self.inside.made c.self.inside.unlisted c.self.invariant.2,
      c.self.invariant.3,
    )

pub returns-clause-items : goal.returns-clause-items
unfolding of
returns-clause-items g c =
    let slots = c.self.inside.slots in
    let keys = c.self.inside.order.items in
    let left = g.V.Visit.left c.args.visitor.now in
    let new : c.visit.new.slots ≡ visited_at left slots (own_keys slots keys c.args.realm) = c.visit.ensures.visited ∙ ap (λ ks. visited_at left slots (own_keys slots ks c.args.realm)) c.deref.ensures.value in
    let visited : IsVisited left c.args.realm (placed_at slots keys) (placed_at c.visit.new.slots keys) = visited_all left c.args.realm (placed_at slots keys) (placed_at c.visit.new.slots keys) (placed-seen left slots c.visit.new.slots keys c.self.invariant.0 c.args.realm new) in
    rw (← c.self.view_is) visited.items

pub returns-clause-notes : goal.returns-clause-notes
unfolding of
returns-clause-notes g c =
    let slots = c.self.inside.slots in
    let keys = c.self.inside.order.items in
    rw (← c.self.view_is) (c.visit.ensures.notes ∙ ap (λ ks. notes_of (g.V.Visit.noted c.args.visitor.now) c.args.notes.now (items_at slots (own_keys slots ks c.args.realm))) c.deref.ensures.value ∙ ap (notes_of (g.V.Visit.noted c.args.visitor.now) c.args.notes.now) (items-own slots keys c.args.realm))

pub returns-clause-others : goal.returns-clause-others
unfolding of
returns-clause-others g c =
    let slots = c.self.inside.slots in
    let keys = c.self.inside.order.items in
    let left = g.V.Visit.left c.args.visitor.now in
    let new : c.visit.new.slots ≡ visited_at left slots (own_keys slots keys c.args.realm) = c.visit.ensures.visited ∙ ap (λ ks. visited_at left slots (own_keys slots ks c.args.realm)) c.deref.ensures.value in
    let visited : IsVisited left c.args.realm (placed_at slots keys) (placed_at c.visit.new.slots keys) = visited_all left c.args.realm (placed_at slots keys) (placed_at c.visit.new.slots keys) (placed-seen left slots c.visit.new.slots keys c.self.invariant.0 c.args.realm new) in
    rw (← c.self.view_is) visited.others

pub returns-clause-places : goal.returns-clause-places
unfolding places
returns-clause-places g c =
    let slots = c.self.inside.slots in
    let keys = c.self.inside.order.items in
    let left = g.V.Visit.left c.args.visitor.now in
    let new : c.visit.new.slots ≡ visited_at left slots (own_keys slots keys c.args.realm) = c.visit.ensures.visited ∙ ap (λ ks. visited_at left slots (own_keys slots ks c.args.realm)) c.deref.ensures.value in
    let visited : IsVisited left c.args.realm (placed_at slots keys) (placed_at c.visit.new.slots keys) = visited_all left c.args.realm (placed_at slots keys) (placed_at c.visit.new.slots keys) (placed-seen left slots c.visit.new.slots keys c.self.invariant.0 c.args.realm new) in
    rw (← c.self.view_is) visited.standing

pub returns-clause-free : goal.returns-clause-free
returns-clause-free g c =
    let slots = c.self.inside.slots in
    let keys = c.self.inside.order.items in
    let left = g.V.Visit.left c.args.visitor.now in
    let new : c.visit.new.slots ≡ visited_at left slots (own_keys slots keys c.args.realm) = c.visit.ensures.visited ∙ ap (λ ks. visited_at left slots (own_keys slots ks c.args.realm)) c.deref.ensures.value in
    let room : c.visit.new.slots.capacity - slab_len c.visit.new.slots ≡ slots.capacity - slab_len slots = ap (λ s. s.capacity - slab_len s) new ∙ ap (λ n. n - slab_len (visited_at left slots (own_keys slots keys c.args.realm))) (capacity-visited left slots (own_keys slots keys c.args.realm)) ∙ ap (λ n. slots.capacity - n) (len-visited left slots (own_keys slots keys c.args.realm)) in
    rw (← c.self.view_is) (ap (λ n. min n (min (vec_capacity c.self.inside.order - vec_len c.self.inside.order) (vec_capacity c.self.inside.links - length keys))) room)

pub returns-clause-room : goal.returns-clause-room
returns-clause-room g c =
    let slots = c.self.inside.slots in
    let keys = c.self.inside.order.items in
    let left = g.V.Visit.left c.args.visitor.now in
    let new : c.visit.new.slots ≡ visited_at left slots (own_keys slots keys c.args.realm) = c.visit.ensures.visited ∙ ap (λ ks. visited_at left slots (own_keys slots ks c.args.realm)) c.deref.ensures.value in
    let visited : IsVisited left c.args.realm (placed_at slots keys) (placed_at c.visit.new.slots keys) = visited_all left c.args.realm (placed_at slots keys) (placed_at c.visit.new.slots keys) (placed-seen left slots c.visit.new.slots keys c.self.invariant.0 c.args.realm new) in
    let room : c.visit.new.slots.capacity - slab_len c.visit.new.slots ≡ slots.capacity - slab_len slots = ap (λ s. s.capacity - slab_len s) new ∙ ap (λ n. n - slab_len (visited_at left slots (own_keys slots keys c.args.realm))) (capacity-visited left slots (own_keys slots keys c.args.realm)) ∙ ap (λ n. slots.capacity - n) (len-visited left slots (own_keys slots keys c.args.realm)) in
    let free = min (vec_capacity c.self.inside.order - vec_len c.self.inside.order) (vec_capacity c.self.inside.links - length keys) in
    rw (← c.self.view_is) (ap (λ n. n + min (c.visit.new.slots.capacity - slab_len c.visit.new.slots) free) visited.count ∙ ap (λ n. length (placed_at slots keys) + min n free) room)
