use Rattle.std.proofs.Common.{◌≤◌, length, subst, sym}
use Rattle.tip_table.proofs.Keeping.{may_settle, order-kept, settled-counted, settled-known, settled-same}
use Rattle.tip_table.proofs.table.Table.relink.Goals as goal

pub settle-self-inside-requires : goal.settle-self-inside-requires
settle-self-inside-requires g c =
    let inside = c.self.inside in
    may_settle g.T.Linked inside.slots inside.order.items inside.links.items _ inside.unlisted c.self.invariant.1 c.self.invariant.3

pub invariant_of-self : goal.invariant_of-self
invariant_of-self g c =
    let link = g.T.Linked in
    let old = c.self.inside in
    let keys = old.order.items in
    let new = c.settle-self-inside.new in
    let settles = c.settle-self-inside.ensures.settled in (
      order-kept link old.slots new.slots keys (settled-same link old.slots new.slots keys old.links.items new.links.items old.unlisted c.settle-self-inside.result settles) c.self.invariant.0,
      (settled-known link old.slots new.slots keys old.links.items new.links.items old.unlisted c.settle-self-inside.result settles c.self.invariant.1).0,
      settled-counted link old.slots new.slots keys old.links.items new.links.items old.made old.unlisted c.settle-self-inside.result settles c.self.invariant.2,
      subst (λ n. length old.order.items ≤ n) (sym c.settle-self-inside.ensures.room) c.self.invariant.3,
    )
