-- A host that is opened is at rest.
use Rattle.tip_run.proofs.Resting.{opened_rests}
use Rattle.tip_run.proofs.running.Running.open.Goals as goal

pub invariant_of-result : goal.invariant_of-result
invariant_of-result g c = opened_rests c.args.recovering c.in_ok-host.host c.in_ok-host.ensures.opened
