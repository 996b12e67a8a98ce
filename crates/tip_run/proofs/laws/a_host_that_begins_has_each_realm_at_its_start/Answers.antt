use Rattle.tip_run.proofs.Begun.{has_started}
use Rattle.tip_run.proofs.laws.a_host_that_begins_has_each_realm_at_its_start.Goals as goal

pub returns : goal.returns
returns g c = has_started g.S.RowLog.keeping
