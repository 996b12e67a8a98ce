use Rattle.std.proofs.Common.{ap, subst}
use Rattle.tip_rules.specs.Needs.{IsReady, begins_on}
use Rattle.tip_rules.proofs.Happening.{able_line}
use Rattle.tip_rules.proofs.step.Work+Connection+Transaction+Making.happen.Goals as goal

pub line-requires-clause-able : goal.line-requires-clause-able
line-requires-clause-able g c = able_line c.args.self.now c.in-Line.seat c.in-Line.heard (subst (λ event. IsReady event c.args.self.now) c.in-Line.is c.requires)

pub ask_pull-requires-clause-able : goal.ask_pull-requires-clause-able
ask_pull-requires-clause-able g c = c.requires.able c.in-AskPull.seat.number (ap begins_on c.in-AskPull.is)
