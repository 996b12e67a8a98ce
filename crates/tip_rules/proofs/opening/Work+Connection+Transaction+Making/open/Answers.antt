use Rattle.std.proofs.Common.{ap, subst, sym, ◌∙◌}
use Rattle.tip_machine.specs.States.{has_place}
use Rattle.tip_rules.proofs.Openings.{opened_all}
use Rattle.tip_rules.specs.Works.{Does, joining, work_of}
use Rattle.tip_rules.proofs.opening.Work+Connection+Transaction+Making.open.Goals as goal

pub returns : goal.returns
returns g c =
    opened_all c.args.self.now c.next_seat-seat.new.self c.join.new.self c.show.new.self c.args.boxes c.next_seat-seat.result (ap (λ n. has_place n (work_of c.args.self.now).state) (sym c.len.ensures) ∙ sym c.if-not-has_place.ensures) c.next_seat-seat.ensures.seat c.next_seat-seat.ensures.does
    (subst (λ x. Does c.next_seat-seat.new.self c.join.new.self (joining x (work_of c.next_seat-seat.new.self))) c.accepted.ensures c.join.ensures.does) c.show.ensures.does
