use Rattle.std.proofs.Common.{take}
use Rattle.tip_line.specs.Octets.{IsWithin}
use Rattle.tip_line.proofs.buffer.stop_of.Given as goal

abbrev pub invariant-loop-at : goal.invariant-loop-at
invariant-loop-at l = IsWithin (take l.at l.octets)
