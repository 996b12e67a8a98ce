use Rattle.tip_honest.proofs.Hosting.{all_lost, all_renewed, all_stepped}
use Rattle.tip_honest.proofs.laws.a_host_stays_honest.Goals as goal

pub returns-clause-event : goal.returns-clause-event
returns-clause-event c = λ old new place event outcome state all. all_stepped old new place all event outcome state

pub returns-clause-loss : goal.returns-clause-loss
returns-clause-loss c = λ old new place all. all_lost old new place all

pub returns-clause-renewal : goal.returns-clause-renewal
returns-clause-renewal c = λ old new place state start all. all_renewed old new place all state start
