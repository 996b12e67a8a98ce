use Rattle.std.proofs.Common.{◌≡◌, ◌++◌, map, take, drop}
use Rattle.tip_rows.specs.Memory.{refusing_named}
use Rattle.tip_rows.proofs.memory.set_due.Given as goal

abbrev pub invariant-loop-k : goal.invariant-loop-k
invariant-loop-k g l = l.k-items ≡ map (refusing_named l.realm l.is_refusing) (take l.k-index l.initial.k-items) ++ drop l.k-index l.initial.k-items
