use Rattle.tip_agreement.proofs.Restarts.{start_sound}
use Rattle.tip_agreement.proofs.laws.a_start_has_the_invariants.Goals as goal

pub returns : goal.returns
returns c = start_sound
