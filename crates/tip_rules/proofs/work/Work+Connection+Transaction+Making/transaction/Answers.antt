use Rattle.tip_rules.proofs.Works.{found_key}
use Rattle.tip_rules.proofs.work.Work+Connection+Transaction+Making.transaction.Goals as goal

pub returns-clause-none : goal.returns-clause-none
returns-clause-none g c = found_key c.args.self.now c.args.key c.find.result c.find.ensures.none
