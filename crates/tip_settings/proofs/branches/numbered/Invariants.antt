use Rattle.std.proofs.Common.{◌≡◌, ◌+◌, take}
use Rattle.tip_settings.specs.Branches.{numbered}
use Rattle.tip_settings.proofs.branches.numbered.Given as goal

-- the labels so far are numbered
abbrev pub invariant-loop-label : goal.invariant-loop-label
invariant-loop-label l = (l.number ≡ 1 + l.label-index) × (l.branches.items ≡ numbered 1 (take l.label-index l.labels))
