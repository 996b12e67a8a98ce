use Rattle.tip_machine.proofs.Rising.{numbers_rise}
use Rattle.tip_rules.specs.Works.{work_of}
use Rattle.tip_rules.proofs.connections.Work+Connection+Transaction+Making.connection_at.Goals as goal

pub place_of-requires : goal.place_of-requires
place_of-requires g c = numbers_rise (work_of c.args.self.now).state c.requires
