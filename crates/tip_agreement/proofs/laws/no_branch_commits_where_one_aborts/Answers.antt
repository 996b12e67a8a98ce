use Rattle.tip_agreement.proofs.Agreeing.{run_agrees}
use Rattle.tip_agreement.proofs.laws.no_branch_commits_where_one_aborts.Goals as goal

pub returns : goal.returns
returns c = run_agrees
