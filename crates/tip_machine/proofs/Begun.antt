-- A realm that has stored nothing starts.
use Rattle.std.proofs.Common.{◌≡◌, true, [], refl}
use Rattle.tip_machine.specs.Moves.{fresh}
use Rattle.tip_machine.specs.Starting.{IsStart, is_starting}
use Rattle.tip_machine.specs.declared.head.Head.{Head}

pub fresh_starts : (head : Head) → is_starting head ≡ true → IsStart (fresh head)
fresh_starts head starting = record {
  head = starting;
  rows = record { rising = refl; spelled = refl; earlier = refl };
  boxes = λ key. [];
  adopted = refl;
  state = refl;
  known_once = refl;
  errands = refl;
}
