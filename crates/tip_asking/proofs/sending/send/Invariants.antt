use Rattle.tip_asking.proofs.Sent.{IsSending}
use Rattle.tip_asking.proofs.sending.send.Given as goal

abbrev pub invariant-loop : goal.invariant-loop
invariant-loop g l =
    IsSending l.commands.lines l.responses.lines (g.I.Read.remaining l.fn.input) (g.I.Read.remaining l.input) (g.R.Read.remaining l.fn.reader) (g.R.Read.remaining l.reader) (g.W.Write.contents l.fn.writer) (g.W.Write.contents l.writer)
    (g.O.Write.contents l.fn.output) (g.O.Write.contents l.output)
