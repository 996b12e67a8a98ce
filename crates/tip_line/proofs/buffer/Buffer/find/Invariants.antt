use Rattle.std.proofs.Common.{◌≡◌, ◌-◌, ◌≤◌, length, [], vec_len}
use Rattle.tip_line.specs.Buffered.{pending, IsReading}
use Rattle.tip_line.specs.Reading.{Leaves}
use Rattle.tip_line.proofs.buffer.Buffer.find.Given as goal

abbrev pub invariant-passing : goal.invariant-passing
invariant-passing g l = record {
  reading : IsReading l.self;
  octets : l.self.octets ≡ l.initial.self.octets;
  fewer : length (pending l.self) ≤ length (pending l.initial.self);
  passed : Leaves (pending l.initial.self) [] (pending l.self);
}

abbrev pub decreases-passing : goal.decreases-passing
decreases-passing g l = vec_len l.self.octets - l.self.start
