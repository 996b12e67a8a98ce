use Rattle.std.proofs.Common.{◌≡◌, map, take, drop}
use Rattle.tip_branch.specs.Standings.{let_go}
use Rattle.tip_branch.proofs.boxes.release_all.Given as goal

abbrev pub invariant-loop-branch : goal.invariant-loop-branch
invariant-loop-branch g l = record {
  done : map (λ b. (goal.Branch-dyn g (b.vtable, b.value)).standing b.value) (take l.branch-index l.boxes) ≡ map let_go (map (λ b. (goal.Branch-dyn g (b.vtable, b.value)).standing b.value) (take l.branch-index l.initial.boxes));
  left : drop l.branch-index l.boxes ≡ drop l.branch-index l.initial.boxes;
}
