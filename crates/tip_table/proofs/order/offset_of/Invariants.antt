use Rattle.std.proofs.Common.{◌≡◌, ◌≤◌, ◌<◌, ◌==◌, ℕ, false, get_or, length}
use Rattle.tip_table.proofs.order.offset_of.Given as goal

-- it is none of those at the end
abbrev pub invariant-loop-end : goal.invariant-loop-end
invariant-loop-end l = record {
  within : l.end ≤ length l.keys;
  none : (k : ℕ) → l.end ≤ k → k < length l.keys → (get_or l.keys k 0 == l.key) ≡ false;
}

abbrev pub decreases-loop-end : goal.decreases-loop-end
decreases-loop-end l = l.end
