use Rattle.std.proofs.Common.{length}
use Rattle.tip_rows.proofs.branches.+are_branches.Given as goal

abbrev pub decreases-are_branches : goal.decreases-are_branches
decreases-are_branches l = length l.branches.now
