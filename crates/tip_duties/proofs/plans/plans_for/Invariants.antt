use Rattle.std.proofs.Common.{◌≡◌}
use Rattle.tip_duties.specs.Plans.{repeated}
use Rattle.tip_duties.proofs.plans.plans_for.Given as goal

abbrev pub invariant-loop-time : goal.invariant-loop-time
invariant-loop-time l = l.plans.items ≡ repeated l._time l.branches
