use Rattle.tip_rules.proofs.Works.{ended, standing_key}
use Rattle.tip_rules.proofs.work.Work+Connection+Transaction+Making.end.Goals as goal

pub returns-clause-taken : goal.returns-clause-taken
returns-clause-taken g c = standing_key c.args.self.now c.args.key c.args.place c.remove.result c.requires c.remove.ensures.taken

pub returns-clause-left : goal.returns-clause-left
returns-clause-left g c = ended c.args.self.now c.args.key c.args.place c.remove.new.self c.requires c.remove.ensures.left c.remove.ensures.room
