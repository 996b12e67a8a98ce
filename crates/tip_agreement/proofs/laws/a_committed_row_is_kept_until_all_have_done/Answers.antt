use Rattle.tip_agreement.proofs.Keptness.{run_kept}
use Rattle.tip_agreement.proofs.laws.a_committed_row_is_kept_until_all_have_done.Goals as goal

pub returns : goal.returns
returns c = run_kept
