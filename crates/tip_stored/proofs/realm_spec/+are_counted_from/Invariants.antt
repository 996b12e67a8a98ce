use Rattle.std.proofs.Common.{length}
use Rattle.tip_stored.proofs.realm_spec.+are_counted_from.Given as goal

abbrev pub decreases-are_counted_from : goal.decreases-are_counted_from
decreases-are_counted_from l = length l.branches.now
