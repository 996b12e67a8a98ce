use Rattle.tip_table.proofs.Standing.{of-written, write}
use Rattle.tip_table.proofs.laws.what_stands_is_changed.Goals as goal

pub returns-clause-written : goal.returns-clause-written
returns-clause-written g c = of-written

pub returns-clause-changed : goal.returns-clause-changed
returns-clause-changed g c = write
