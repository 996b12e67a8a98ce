use Rattle.std.proofs.Common.{◌∷◌}
use Rattle.tip_txn.proofs.txn.Txn.decide.Goals as goal

pub returns : goal.returns
returns g c = rw (← c.self.view_is) (c.decide.ensures (c.self.inside.local ∷ c.self.inside.others.items) c.self.invariant)
