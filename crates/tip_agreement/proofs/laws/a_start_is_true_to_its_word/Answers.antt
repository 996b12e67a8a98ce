use Rattle.tip_agreement.proofs.Agreeing.{start_true}
use Rattle.tip_agreement.proofs.laws.a_start_is_true_to_its_word.Goals as goal

pub returns : goal.returns
returns c = start_true
