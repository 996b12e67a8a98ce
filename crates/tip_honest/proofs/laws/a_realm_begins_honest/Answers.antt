use Rattle.tip_honest.proofs.Boxes.{begins_honest}
use Rattle.tip_honest.proofs.laws.a_realm_begins_honest.Goals as goal

pub returns : goal.returns
returns c = begins_honest
