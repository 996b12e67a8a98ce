use Rattle.tip_succession.proofs.Following.{all_agree}
use Rattle.tip_succession.proofs.laws.no_transaction_is_half_committed_however_the_realm_is_declared.Goals as goal

pub returns : goal.returns
returns c = all_agree
