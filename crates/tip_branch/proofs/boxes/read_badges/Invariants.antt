use Rattle.std.proofs.Common.{◌≡◌, map, take}
use Rattle.tip_branch.specs.Lots.{badges_of}
use Rattle.tip_branch.proofs.boxes.read_badges.Given as goal

abbrev pub invariant-loop-branch : goal.invariant-loop-branch
invariant-loop-branch g l = l.known.items ≡ badges_of (map (λ b. (goal.Branch-dyn g (b.vtable, b.value)).standing b.value) (take l.branch-index l.boxes))
