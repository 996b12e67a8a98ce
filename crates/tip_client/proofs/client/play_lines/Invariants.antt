use Rattle.tip_client.proofs.Playing.{IsAt}
use Rattle.tip_client.proofs.client.play_lines.Given as goal

-- so many commands were said and answered
abbrev pub invariant-loop-command : goal.invariant-loop-command
invariant-loop-command g l = IsAt l.commands l.command-index l.responses.items l.intake.lines (g.R.Read.remaining l.fn.reader) (g.R.Read.remaining l.reader) (g.W.Write.contents l.fn.writer) (g.W.Write.contents l.writer)
