-- Each example was computed.
use Rattle.tip_machine.proofs.Shown.{shown}
use Rattle.tip_machine.proofs.examples.each_shows_what_it_says.Goals as goal

pub returns : goal.returns
returns c = shown
