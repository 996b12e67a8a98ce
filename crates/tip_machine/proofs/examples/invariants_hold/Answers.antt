-- Each example was computed.
use Rattle.tip_machine.proofs.Sound.{sound}
use Rattle.tip_machine.proofs.examples.invariants_hold.Goals as goal

pub returns : goal.returns
returns c = sound
