use Rattle.std.proofs.Common.{◌<◌, ◌∷◌, ◌-◌, length, List, ap, arith, vec_capacity, vec_len}
use Rattle.tip_txn.specs.Parts.{answered, answers_of}
use Rattle.tip_txn.specs.Transactions.{Transaction}
use Rattle.tip_txn.specs.declared.part.Participant.{Participant}
use Rattle.tip_txn.proofs.PartLemmas.{changed_at-behind}
use Rattle.tip_txn.proofs.TallyLemmas.{tally-with}
use Rattle.tip_txn.proofs.txn.Txn.answer.Goals as goal

pub moved-self-inside-requires : goal.moved-self-inside-requires
moved-self-inside-requires g c =
    let all = c.self.inside.local ∷ c.self.inside.others.items in
    let said : answers_of all c.args.part c.answer_of.result = rw (← c.self.view_is) at c.answer_of.ensures in
    tally-with c.self.inside.tally all c.args.part c.answer_of.result said (grind (arith, c.self.ranges)) c.self.invariant

pub invariant_of-self-in_default : goal.invariant_of-self-in_default
invariant_of-self-in_default g c =
    let t = c.self.inside in
    let all = t.local ∷ t.others.items in
    let there : c.args.part < length all = rw (← c.self.view_is) at c.requires in
    let said : answers_of all c.args.part c.answer_of.result = rw (← c.self.view_is) at c.answer_of.ensures in
    let parts = changed_at-behind t.local t.others.items c.place.result (answered c.args.answer) c.index_mut.result.now (omega arith) (omega arith) c.index_mut.ensures.value in
    rw (parts, c.place.ensures) (c.moved-self-inside.ensures all c.args.part said c.self.invariant)

pub returns-in_default : goal.returns-in_default
returns-in_default g c =
    let t = c.self.inside in
    let there : c.args.part < length (t.local ∷ t.others.items) = rw (← c.self.view_is) at c.requires in
    let parts = changed_at-behind t.local t.others.items c.place.result (answered c.args.answer) c.index_mut.result.now (omega arith) (omega arith) c.index_mut.ensures.value in
    rw (← c.self.view_is, ← c.place.ensures) (ap (λ (ps : List Participant). let seen : Transaction = record { phase = t.phase; parts = ps; spare = vec_capacity t.others - vec_len t.others } in seen) parts)
