use Rattle.std.proofs.Common.{◌-◌, ◌≤◌, length}
use Rattle.tip_table.specs.Entries.{count_below, placed_at}
use Rattle.tip_table.proofs.order.below.Given as goal

-- those below the bound end between the two
abbrev pub invariant-loop-low : goal.invariant-loop-low
invariant-loop-low g l = let count = count_below l.bound (placed_at l.slots l.keys) in record {
  low : l.low ≤ count;
  high : count ≤ l.high;
  within : l.high ≤ length l.keys;
}

abbrev pub decreases-loop-low : goal.decreases-loop-low
decreases-loop-low g l = l.high - l.low
