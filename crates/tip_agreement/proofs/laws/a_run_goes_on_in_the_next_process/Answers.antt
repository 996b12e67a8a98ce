use Rattle.tip_agreement.proofs.Declared.{goes_over}
use Rattle.tip_agreement.proofs.laws.a_run_goes_on_in_the_next_process.Goals as goal

pub returns : goal.returns
returns c = goes_over
