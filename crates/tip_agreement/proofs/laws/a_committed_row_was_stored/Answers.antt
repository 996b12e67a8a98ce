use Rattle.tip_agreement.proofs.Backing.{committed_was_stored, row_was_stored}
use Rattle.tip_agreement.proofs.laws.a_committed_row_was_stored.Goals as goal

pub returns-clause-row : goal.returns-clause-row
returns-clause-row c = row_was_stored

pub returns-clause-phase : goal.returns-clause-phase
returns-clause-phase c = committed_was_stored
