use Rattle.std.proofs.Common.{subst, sym}
use Rattle.tip_core.specs.Hosted.{HaveNames}
use Rattle.tip_stored.proofs.recovering.Recovering.begin.Goals as goal

pub returns-clause-names : goal.returns-clause-names
returns-clause-names g c = subst HaveNames (sym c.new.ensures.core) c.take_up_all.ensures.names
