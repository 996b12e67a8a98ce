use Rattle.std.proofs.Common.{◌≡◌, take}
use Rattle.std.specs.Prelude.{filter}
use Rattle.tip_outlook.specs.Wanting.{has_promised}
use Rattle.tip_outlook.proofs.rows.kept.Given as goal

abbrev pub invariant-loop-branch : goal.invariant-loop-branch
invariant-loop-branch l = l.kept.items ≡ filter (has_promised l.members) (take l.branch-index l.branches)
