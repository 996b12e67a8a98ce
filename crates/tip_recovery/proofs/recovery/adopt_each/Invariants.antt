use Rattle.tip_recovery.specs.Adopting.{are_for, with_boxes}
use Rattle.tip_recovery.proofs.Giving.{Giving}
use Rattle.tip_recovery.proofs.recovery.adopt_each.Given as goal

-- each row that was reached has its boxes
abbrev pub invariant-loop-lot : goal.invariant-loop-lot
invariant-loop-lot g l = Giving with_boxes are_for l.fn.boxes.items l.fn.rows.items l.rows.items l.yielded l.lot-iterator.rest.items l.place
