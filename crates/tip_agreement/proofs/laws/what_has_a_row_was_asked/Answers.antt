use Rattle.tip_agreement.proofs.Asked.{row_was_asked}
use Rattle.tip_agreement.proofs.laws.what_has_a_row_was_asked.Goals as goal

pub returns : goal.returns
returns c = row_was_asked
