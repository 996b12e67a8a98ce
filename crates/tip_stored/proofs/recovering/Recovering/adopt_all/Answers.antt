use Rattle.tip_stored.proofs.recovering.Recovering.adopt_all.Goals as goal

pub invariant_of-self : goal.invariant_of-self
invariant_of-self g c = c.adopt_each.ensures.begun c.self.inside.core c.self.invariant
