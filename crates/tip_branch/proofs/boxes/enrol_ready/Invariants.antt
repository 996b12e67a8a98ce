use Rattle.std.proofs.Common.{◌≡◌, length, take}
use Rattle.tip_branch.specs.Members.{ready_members}
use Rattle.tip_branch.proofs.boxes.enrol_ready.Given as goal

abbrev pub invariant-loop-i : goal.invariant-loop-i
invariant-loop-i l = record {
  enrolled : l.roll ≡ take l.i (ready_members l.numbers l.known);
  counted : length l.roll ≡ l.i;
}
