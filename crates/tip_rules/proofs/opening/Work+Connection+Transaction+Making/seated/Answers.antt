use Rattle.tip_machine.proofs.Rising.{numbers_rise}
use Rattle.tip_rules.specs.Works.{work_of}
use Rattle.tip_rules.proofs.opening.Work+Connection+Transaction+Making.seated.Goals as goal

pub seat_place-requires : goal.seat_place-requires
seat_place-requires g c = numbers_rise (work_of c.args.self.now).state c.requires.numbered
