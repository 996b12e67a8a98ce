use Rattle.tip_crash.proofs.Followed.{begins_anew, goes_on}
use Rattle.tip_crash.proofs.laws.a_host_that_follows_goes_on_with_the_run.Goals as goal

pub returns-clause-same : goal.returns-clause-same
returns-clause-same g c = λ start moves new place starts run begins. goes_on g.S.RowLog.keeping start moves starts run new place begins

pub returns-clause-anew : goal.returns-clause-anew
returns-clause-anew g c = λ start moves new place spec starts run may begins. begins_anew g.S.RowLog.keeping start moves starts run new place spec may begins
