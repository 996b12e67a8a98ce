use Rattle.tip_agreement.proofs.Kept.{reached_sound}
use Rattle.tip_agreement.proofs.Restarts.{may_begin}
use Rattle.tip_agreement.proofs.laws.what_a_run_leaves_may_begin_a_run.Goals as goal
use Rattle.tip_machine.specs.Moves.{led_to}

pub returns : goal.returns
returns c = λ start moves head boxes starts run starting later adopted. may_begin (led_to start moves) head boxes (reached_sound start moves starts run) starting later adopted
