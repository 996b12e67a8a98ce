use Rattle.tip_rules.proofs.Coming.{may_dispatched}
use Rattle.tip_rules.proofs.returning.Work+Connection+Transaction+Making.take_committed.Goals as goal

pub proceed-requires-else-waits-clause-none : goal.proceed-requires-else-waits-clause-none
proceed-requires-else-waits-clause-none g c = may_dispatched c.take_back.new.self c.dispatch.new.self c.args.key c.dispatch.ensures.does
