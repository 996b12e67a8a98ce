-- Each was computed.
use Rattle.tip_succession.proofs.Computed.{follows, run, start}
use Rattle.tip_succession.proofs.examples.the_second_may_follow.Goals as goal

pub returns-clause-start : goal.returns-clause-start
returns-clause-start c = start

pub returns-clause-run : goal.returns-clause-run
returns-clause-run c = run

pub returns-clause-follows : goal.returns-clause-follows
returns-clause-follows c = follows
