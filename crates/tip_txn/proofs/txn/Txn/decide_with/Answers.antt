use Rattle.std.proofs.Common.{◌∷◌, refl}
use Rattle.tip_txn.specs.Parts.{answered, changed_at}
use Rattle.tip_txn.proofs.txn.Txn.decide_with.Goals as goal

pub returns : goal.returns
returns g c =
    let parts = c.self.inside.local ∷ c.self.inside.others.items in
    rw (← c.self.view_is) (c.decide.ensures (changed_at 0 (answered c.args.local) parts) (c.moved.ensures parts 0 refl c.self.invariant))
