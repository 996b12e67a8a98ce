use Rattle.std.proofs.Common.{◌≡◌, ◌++◌, map, take, drop}
use Rattle.tip_rows.specs.Memory.{raised_named}
use Rattle.tip_rows.proofs.memory.raise_of.Given as goal

abbrev pub invariant-loop-k : goal.invariant-loop-k
invariant-loop-k g l = l.k-items ≡ map (raised_named l.realm) (take l.k-index l.initial.k-items) ++ drop l.k-index l.initial.k-items
