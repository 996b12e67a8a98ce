use Rattle.std.proofs.Common.{◌≡◌, drop}
use Rattle.tip_recovery.specs.Adopting.{are_adopted}
use Rattle.tip_recovery.proofs.recovery.are_adopted.Given as goal

abbrev pub invariant-loop-row : goal.invariant-loop-row
invariant-loop-row g l = are_adopted (drop l.row-index l.rows) ≡ are_adopted l.rows
