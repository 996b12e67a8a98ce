use Rattle.tip_agreement.proofs.Kept.{reached_sound, run_sound}
use Rattle.tip_agreement.proofs.laws.a_run_keeps_the_invariants.Goals as goal

pub returns-clause-kept : goal.returns-clause-kept
returns-clause-kept c = run_sound

pub returns-clause-reached : goal.returns-clause-reached
returns-clause-reached c = reached_sound
