use Rattle.std.proofs.Common.{◌∷◌, refl, sym}
use Rattle.tip_txn.specs.Parts.{answered, changed_at}
use Rattle.tip_txn.proofs.TallyLemmas.{taken, tally-same}
use Rattle.tip_txn.proofs.tally.Tally.moved.Goals as goal

pub with-requires : goal.with-requires
with-requires c = (c.requires.others, c.without-others.ensures c.requires.one c.requires.others c.requires.has_it c.requires.is, c.requires.few)

pub returns : goal.returns
returns c = λ parts part h is.
    let t = taken parts part c.args.before h in
    let rest = c.without-others.ensures t.one t.others t.has_it (tally-same c.args.self parts (t.one ∷ t.others) (λ other. sym (t.counts other)) is) in
    tally-same c.with.result (answered c.args.answer t.one ∷ t.others) (changed_at part (answered c.args.answer) parts) (t.changed (answered c.args.answer)) (c.with.ensures (answered c.args.answer t.one) t.others refl rest)
