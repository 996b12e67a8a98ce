use Rattle.std.proofs.Common.{◌≡◌}
use Rattle.tip_settings.specs.Branches.{first_labels}
use Rattle.tip_settings.proofs.branches.first_labels.Given as goal

-- the first labels, so far
abbrev pub invariant-loop-before : goal.invariant-loop-before
invariant-loop-before l = l.labels.items ≡ first_labels l.before
