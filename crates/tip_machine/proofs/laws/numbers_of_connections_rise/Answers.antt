use Rattle.tip_machine.proofs.Identifiers.{none_numbered, still_rising}
use Rattle.tip_machine.proofs.laws.numbers_of_connections_rise.Goals as goal

pub returns-clause-none : goal.returns-clause-none
returns-clause-none c = none_numbered

pub returns-clause-stays : goal.returns-clause-stays
returns-clause-stays c = still_rising
