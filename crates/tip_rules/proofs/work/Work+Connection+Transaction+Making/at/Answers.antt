use Rattle.tip_rules.proofs.Works.{standing_key}
use Rattle.tip_rules.proofs.work.Work+Connection+Transaction+Making.at.Goals as goal

pub returns-clause-found : goal.returns-clause-found
returns-clause-found g c = standing_key c.args.self.now c.args.key c.args.place c.item.result.now c.requires c.item.ensures
