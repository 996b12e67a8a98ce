use Rattle.tip_agreement.proofs.Kept.{moved_sound}
use Rattle.tip_agreement.proofs.laws.each_move_keeps_the_invariants.Goals as goal

pub returns : goal.returns
returns c = moved_sound
