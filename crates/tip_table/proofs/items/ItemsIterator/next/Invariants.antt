use Rattle.std.proofs.Common.{◌≡◌, length}
use Rattle.tip_table.specs.Entries.{items_at}
use Rattle.tip_table.proofs.items.ItemsIterator.next.Given as goal

-- what is left of the items is what was left
abbrev pub invariant-loop-self : goal.invariant-loop-self
invariant-loop-self g l = items_at l.self-inside.slots.now l.self-inside.keys.now ≡ l.fn.self

abbrev pub decreases-loop-self : goal.decreases-loop-self
decreases-loop-self g l = length l.self-inside.keys.now
