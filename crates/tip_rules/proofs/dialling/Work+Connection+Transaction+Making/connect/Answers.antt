use Rattle.std.proofs.Common.{subst}
use Rattle.tip_rules.proofs.Dials.{connected}
use Rattle.tip_rules.specs.Works.{Does, joining, work_of}
use Rattle.tip_rules.proofs.dialling.Work+Connection+Transaction+Making.connect.Goals as goal

pub returns : goal.returns
returns g c =
    connected c.args.self.now c.next_seat-seat.new.self c.join.new.self c.show.new.self c.tell.new.self c.args.ours c.args.theirs c.args.address c.args.purpose c.args.boxes c.next_seat-seat.result c.next_seat-seat.ensures.seat c.next_seat-seat.ensures.does
    (subst (λ x. Does c.next_seat-seat.new.self c.join.new.self (joining x (work_of c.next_seat-seat.new.self))) c.dialled.ensures c.join.ensures.does) c.show.ensures.does c.tell.ensures.does
