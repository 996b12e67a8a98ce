use Rattle.tip_agreement.proofs.Backed.{commits_are_backed}
use Rattle.tip_agreement.proofs.laws.a_commit_is_told_once_its_row_was_stored.Goals as goal

pub returns : goal.returns
returns c = commits_are_backed
