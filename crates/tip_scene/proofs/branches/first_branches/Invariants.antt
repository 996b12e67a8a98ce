use Rattle.std.proofs.Common.{◌≡◌}
use Rattle.tip_scene.specs.Acts.{first_branches}
use Rattle.tip_scene.proofs.branches.first_branches.Given as goal

-- the first branches, so far
abbrev pub invariant-loop-before : goal.invariant-loop-before
invariant-loop-before l = l.items.items ≡ first_branches l.before
