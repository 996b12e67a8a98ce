use Rattle.tip_session.specs.Desks.{lines_in}
use Rattle.tip_session.specs.Ends.{Handed}
use Rattle.tip_session.proofs.Listening.{IsBehind}
use Rattle.tip_session.proofs.reading.read_lines.Given as goal

-- what was handed in so far, and what the lines still say
abbrev pub invariant-loop : goal.invariant-loop
invariant-loop g l = record {
  lines : IsBehind l.turns l.counter l.intake.reads_left (lines_in (g.D.Desk.seen l.fn.desk).steps) (lines_in (g.D.Desk.seen l.desk).steps) l.intake.lines (g.I.Read.remaining l.fn.reader) (g.I.Read.remaining l.reader);
  handed : Handed (g.D.Desk.seen l.fn.desk) (g.D.Desk.seen l.desk);
}
