use Rattle.std.proofs.Common.{length}
use Rattle.line_reader.proofs.take_lines.Given as goal

abbrev pub decreases-loop-line : goal.decreases-loop-line
decreases-loop-line g l = length l.lines
