-- Each example was computed.
use Rattle.tip_machine.proofs.HonestRuns.{honest}
use Rattle.tip_machine.proofs.examples.runs_are_honest.Goals as goal

pub returns : goal.returns
returns c = honest
