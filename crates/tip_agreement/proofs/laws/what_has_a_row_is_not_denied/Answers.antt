use Rattle.tip_agreement.proofs.Denying.{run_undenied}
use Rattle.tip_agreement.proofs.laws.what_has_a_row_is_not_denied.Goals as goal

pub returns : goal.returns
returns c = run_undenied
