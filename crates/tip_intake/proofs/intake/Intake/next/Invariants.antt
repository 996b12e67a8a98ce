use Rattle.tip_intake.proofs.Reading.{IsBehind}
use Rattle.tip_intake.proofs.intake.Intake.next.Given as goal

-- what was read so far gives what the lines give
abbrev pub invariant-reading : goal.invariant-reading
invariant-reading g l = IsBehind l.fn.self l.self.lines l.self.reads_left (g.R.Read.remaining l.fn.reader) (g.R.Read.remaining l.reader)

abbrev pub decreases-reading : goal.decreases-reading
decreases-reading g l = l.self.reads_left
