use Rattle.std.proofs.Common.{◌≡◌, ◌++◌, map, take, drop}
use Rattle.tip_rows.specs.Memory.{raised_known}
use Rattle.tip_rows.proofs.memory.raise_each.Given as goal

abbrev pub invariant-loop-k : goal.invariant-loop-k
invariant-loop-k g l = l.k-items ≡ map raised_known (take l.k-index l.initial.k-items) ++ drop l.k-index l.initial.k-items
