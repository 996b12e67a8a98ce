use Rattle.tip_recovery.proofs.Looking.{adopted_whole}
use Rattle.tip_recovery.proofs.recovery.Recovery.adopt.Goals as goal

pub invariant_of-self : goal.invariant_of-self
invariant_of-self g c = adopted_whole c.adopt_in.result c.self.inside.realm c.args.id.now c.args.boxes c.self.inside.rows.items c.adopt_in.new.rows.items c.self.invariant c.adopt_in.ensures.ok c.adopt_in.ensures.same
