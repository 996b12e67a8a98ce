use Rattle.tip_txn.proofs.TallyLemmas.{decides-abort, decides-wait, decides-commit, decides-read_only}
use Rattle.tip_txn.proofs.tally.Tally.decide.Goals as goal

pub returns-then-self-gt0-2 : goal.returns-then-self-gt0-2
returns-then-self-gt0-2 c = λ parts is. decides-abort c.args.self parts is c.if-self-gt0-2.either

pub returns-then-self-gt0-3 : goal.returns-then-self-gt0-3
returns-then-self-gt0-3 c = λ parts is. decides-wait c.args.self parts is c.if-self-gt0-2.false c.if-self-gt0-3.true

pub returns-then-self-gt0-4 : goal.returns-then-self-gt0-4
returns-then-self-gt0-4 c = λ parts is. decides-commit c.args.self parts is c.if-self-gt0-2.false c.if-self-gt0-3.false c.if-self-gt0-4.true

pub returns-else-self-gt0-4 : goal.returns-else-self-gt0-4
returns-else-self-gt0-4 c = λ parts is. decides-read_only c.args.self parts is c.if-self-gt0-2.false c.if-self-gt0-3.false c.if-self-gt0-4.false
