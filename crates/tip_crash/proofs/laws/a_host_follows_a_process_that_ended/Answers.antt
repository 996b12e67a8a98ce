use Rattle.tip_crash.proofs.Followed.{follows}
use Rattle.tip_crash.proofs.laws.a_host_follows_a_process_that_ended.Goals as goal

pub returns : goal.returns
returns g c = follows g.S.RowLog.keeping
