use Rattle.std.proofs.Common.{subst}
use Rattle.tip_stored.specs.Recovering.{HaveBegun, Recovering}
use Rattle.tip_stored.proofs.recovering.Recovering.realms.Goals as goal

pub returns-clause-begun : goal.returns-clause-begun
returns-clause-begun g c = subst (λ (r : Recovering g.row.S.Denot). HaveBegun r.core r.realms) c.self.view_is c.self.invariant
