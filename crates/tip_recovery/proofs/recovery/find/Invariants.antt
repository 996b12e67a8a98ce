use Rattle.tip_recovery.specs.Adopting.{is_named}
use Rattle.tip_recovery.proofs.Looking.{Skips}
use Rattle.tip_recovery.proofs.recovery.find.Given as goal

abbrev pub invariant-loop-place : goal.invariant-loop-place
invariant-loop-place g l = Skips (is_named l.id) l.place l.rows
