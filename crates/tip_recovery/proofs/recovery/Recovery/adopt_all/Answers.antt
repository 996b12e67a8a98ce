use Rattle.tip_recovery.proofs.Looking.{still_whole}
use Rattle.tip_recovery.proofs.recovery.Recovery.adopt_all.Goals as goal

pub invariant_of-self : goal.invariant_of-self
invariant_of-self g c = still_whole c.self.inside.realm c.self.inside.rows.items c.adopt_each.new.rows.items c.self.invariant (c.adopt_each.ensures.own c.self.inside.realm) c.adopt_each.ensures.stored
