use Rattle.std.proofs.Common.{◌≡◌, length}
use Rattle.std.specs.Prelude.{◌↔◌}
use Rattle.tip_recovery.specs.Adopting.{stored_of}
use Rattle.tip_kept.proofs.realm_rows.are_same.Given as goal

-- those that are left are the same exactly where all are
abbrev pub invariant-loop-before : goal.invariant-loop-before
invariant-loop-before g l = (l.before ≡ stored_of l.after) ↔ (l.fn.kept ≡ stored_of l.fn.rows)

abbrev pub decreases-loop-before : goal.decreases-loop-before
decreases-loop-before g l = length l.before
