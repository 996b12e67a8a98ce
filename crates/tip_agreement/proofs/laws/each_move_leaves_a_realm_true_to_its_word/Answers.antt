use Rattle.tip_agreement.proofs.Agreeing.{moved_true}
use Rattle.tip_agreement.proofs.laws.each_move_leaves_a_realm_true_to_its_word.Goals as goal

pub returns : goal.returns
returns c = moved_true
