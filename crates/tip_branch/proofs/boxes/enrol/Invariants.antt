use Rattle.std.proofs.Common.{◌≡◌, map, length, take}
use Rattle.tip_branch.specs.Members.{new_members}
use Rattle.tip_branch.proofs.boxes.enrol.Given as goal

abbrev pub invariant-loop-i : goal.invariant-loop-i
invariant-loop-i g l = record {
  enrolled : l.roll ≡ take l.i (new_members l.numbers (map (λ b. (goal.Branch-dyn g (b.vtable, b.value)).standing b.value) l.boxes));
  counted : length l.roll ≡ l.i;
}
