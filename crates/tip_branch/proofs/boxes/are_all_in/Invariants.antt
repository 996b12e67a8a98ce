use Rattle.std.proofs.Common.{◌≡◌, take}
use Rattle.std.specs.List.{All}
use Rattle.tip_branch.proofs.boxes.are_all_in.Given as goal

abbrev pub invariant-loop-branch : goal.invariant-loop-branch
invariant-loop-branch g l = All (λ b. ((goal.Branch-dyn g (b.vtable, b.value)).standing b.value).phase ≡ l.phase) (take l.branch-index l.boxes)
