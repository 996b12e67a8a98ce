use Rattle.tip_shared.proofs.Closings.{some_host}
use Rattle.tip_shared.proofs.shared.Shared.close.Goals as goal

pub returns-clause-closed : goal.returns-clause-closed
returns-clause-closed g c = some_host _ c.into_inner.result c.close_host.result c.close_host.ensures.closed
