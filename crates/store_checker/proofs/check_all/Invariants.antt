use Rattle.std.proofs.Common.{length}
use Rattle.store_checker.proofs.check_all.Given as goal

abbrev pub decreases-loop-store : goal.decreases-loop-store
decreases-loop-store g l = length l.stores
