use Rattle.tip_agreement.proofs.Asked.{run_is_agreed}
use Rattle.tip_agreement.proofs.laws.a_run_is_agreed.Goals as goal

pub returns : goal.returns
returns c = run_is_agreed
