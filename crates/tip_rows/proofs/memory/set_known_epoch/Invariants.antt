use Rattle.std.proofs.Common.{◌≡◌, ◌++◌, map, take, drop}
use Rattle.tip_rows.specs.Memory.{epoch_named}
use Rattle.tip_rows.proofs.memory.set_known_epoch.Given as goal

abbrev pub invariant-loop-k : goal.invariant-loop-k
invariant-loop-k g l = l.k-items ≡ map (epoch_named l.realm l.epoch) (take l.k-index l.initial.k-items) ++ drop l.k-index l.initial.k-items
