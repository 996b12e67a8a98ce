use Rattle.std.proofs.Common.{◌≡◌, length}
use Rattle.tip_recovery.specs.Renewing.{are_again}
use Rattle.tip_recovery.proofs.recovery.are_again.Given as goal

-- those that are left are alike exactly where all are
abbrev pub invariant-loop-before : goal.invariant-loop-before
invariant-loop-before g l = are_again l.before l.after ≡ are_again l.fn.earlier l.fn.rows

abbrev pub decreases-loop-before : goal.decreases-loop-before
decreases-loop-before g l = length l.before
