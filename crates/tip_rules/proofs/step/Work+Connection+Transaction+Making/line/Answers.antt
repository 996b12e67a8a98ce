use Rattle.std.proofs.Common.{sym}
use Rattle.tip_conn.specs.declared.state.Side.TheVariants.{Primary, Secondary}
use Rattle.tip_rules.proofs.Happening.{line_heard}
use Rattle.tip_rules.proofs.step.Work+Connection+Transaction+Making.line.Goals as goal

pub returns-in-Secondary : goal.returns-in-Secondary
returns-in-Secondary g c = line_heard c.args.self.now c.hear.new.self c.args.seat c.args.heard c.args.self.now.outcome c.connection-connection.result.now c.in-Some.ensures.same c.connection-connection.ensures Secondary (sym c.if-not-may_take.ensures) c.in-Secondary.is c.hear.ensures

pub returns-in-Primary : goal.returns-in-Primary
returns-in-Primary g c = line_heard c.args.self.now c.hear_as_primary.new.self c.args.seat c.args.heard c.args.self.now.outcome c.connection-connection.result.now c.in-Some.ensures.same c.connection-connection.ensures Primary (sym c.if-not-may_take.ensures) c.in-Primary.is c.hear_as_primary.ensures
