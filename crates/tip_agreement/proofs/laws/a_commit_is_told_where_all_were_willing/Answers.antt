use Rattle.tip_agreement.proofs.Asked.{run_asked}
use Rattle.tip_agreement.proofs.laws.a_commit_is_told_where_all_were_willing.Goals as goal

pub returns : goal.returns
returns c = run_asked
