use Rattle.std.proofs.Common.{◌∷◌, ◌++◌, [], ap}
use Rattle.tip_txn.proofs.TallyLemmas.{count_of-behind, tally-same}
use Rattle.tip_txn.proofs.txn.Txn.enlist.Goals as goal

pub invariant_of-self : goal.invariant_of-self
invariant_of-self g c =
    let parts = c.self.inside.local ∷ c.self.inside.others.items in
    let more = c.with-self-inside.ensures c.unanswered.result parts (ap (λ p. p.answer) c.unanswered.ensures) c.self.invariant in
    rw c.push_reserved.ensures.items (tally-same c.with-self-inside.result (c.unanswered.result ∷ parts) (parts ++ c.unanswered.result ∷ []) (λ said. count_of-behind said c.unanswered.result parts) more)
