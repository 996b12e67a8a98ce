use Rattle.tip_machine.proofs.Naming.{told_apart}
use Rattle.tip_machine.proofs.laws.an_identifier_is_of_one_realm_and_transaction.Goals as goal

pub returns : goal.returns
returns c = told_apart
