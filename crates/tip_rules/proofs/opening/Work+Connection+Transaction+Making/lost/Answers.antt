use Rattle.tip_rules.proofs.Openings.{lost_there}
use Rattle.tip_rules.proofs.opening.Work+Connection+Transaction+Making.lost.Goals as goal

pub returns-in-Some : goal.returns-in-Some
returns-in-Some g c = lost_there c.args.self.now c.fail.new.self c.args.seat c.in-Some.place c.in-Some.ensures.some c.in-Some.ensures.same c.fail.ensures
