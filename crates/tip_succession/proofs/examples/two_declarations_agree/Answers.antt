use Rattle.tip_succession.proofs.Computed.{agreed}
use Rattle.tip_succession.proofs.examples.two_declarations_agree.Goals as goal

pub returns : goal.returns
returns c = agreed
