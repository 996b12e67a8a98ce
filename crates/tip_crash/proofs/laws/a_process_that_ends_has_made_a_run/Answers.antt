use Rattle.tip_crash.proofs.Ended.{has_ended}
use Rattle.tip_crash.proofs.laws.a_process_that_ends_has_made_a_run.Goals as goal

pub returns : goal.returns
returns c = has_ended
