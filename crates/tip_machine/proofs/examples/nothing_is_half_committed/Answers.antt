-- Each example was computed.
use Rattle.tip_machine.proofs.Agreed.{agreed}
use Rattle.tip_machine.proofs.examples.nothing_is_half_committed.Goals as goal

pub returns : goal.returns
returns c = agreed
