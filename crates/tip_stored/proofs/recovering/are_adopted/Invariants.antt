use Rattle.std.proofs.Common.{◌≡◌, drop}
use Rattle.tip_stored.specs.Recovering.{all_adopted}
use Rattle.tip_stored.proofs.recovering.are_adopted.Given as goal

abbrev pub invariant-loop-recovery : goal.invariant-loop-recovery
invariant-loop-recovery g l = all_adopted (drop l.recovery-index l.realms) ≡ all_adopted l.realms
