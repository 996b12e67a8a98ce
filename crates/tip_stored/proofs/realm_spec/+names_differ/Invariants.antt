use Rattle.std.proofs.Common.{length}
use Rattle.tip_stored.proofs.realm_spec.+names_differ.Given as goal

abbrev pub decreases-names_differ : goal.decreases-names_differ
decreases-names_differ l = length l.specs.now
