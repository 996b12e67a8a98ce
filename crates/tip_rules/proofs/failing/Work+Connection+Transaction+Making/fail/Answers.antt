use Rattle.tip_rules.proofs.Losing.{idle_gone}
use Rattle.tip_rules.proofs.failing.Work+Connection+Transaction+Making.fail.Goals as goal

pub miss-requires-clause-none : goal.miss-requires-clause-none
miss-requires-clause-none g c = idle_gone c.args.self.now c.remove-role.new.self c.args.number c.remove-role.result c.remove-role.ensures.role c.remove-role.ensures.gone c.requires.none
