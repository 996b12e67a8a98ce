use Rattle.tip_stored.proofs.TakingUp.{still_begun}
use Rattle.tip_stored.proofs.recovering.Recovering.adopt.Goals as goal

pub invariant_of-self : goal.invariant_of-self
invariant_of-self g c = still_begun c.adopt_at.result c.self.inside.core c.args.realm c.args.id.now c.args.boxes c.self.inside.realms.items c.adopt_at.new.realms.items c.self.invariant c.adopt_at.ensures.ok c.adopt_at.ensures.same
