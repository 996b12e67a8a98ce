use Rattle.std.proofs.Common.{subst}
use Rattle.tip_machine.specs.Changes.{alter}
use Rattle.tip_machine.specs.Transactions.{noting}
use Rattle.tip_txn.specs.Parts.{answered}
use Rattle.tip_rules.specs.Works.{Does, work_of}
use Rattle.tip_rules.proofs.Coming.{vote_next}
use Rattle.tip_rules.proofs.returning.Work+Connection+Transaction+Making.take_vote.Goals as goal

pub proceed-requires-clause-next : goal.proceed-requires-clause-next
proceed-requires-clause-next g c =
    vote_next c.args.self.now c.take_back.new.self c.note.new.self c.args.key c.args.party c.answer_of-answer.result c.answer_of-answer.ensures c.requires.next c.take_back.ensures.does
    (subst (λ part. Does c.take_back.new.self c.note.new.self (alter c.args.key (noting part (answered c.answer_of-answer.result)) (work_of c.take_back.new.self))) c.local.ensures c.note.ensures.does)
