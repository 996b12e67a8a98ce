use Rattle.tip_agreement.proofs.Naming.{one_tells}
use Rattle.tip_agreement.proofs.laws.one_realm_tells_of_an_identifier.Goals as goal

pub returns : goal.returns
returns c = one_tells
