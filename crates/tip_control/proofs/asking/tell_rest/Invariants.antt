use Rattle.tip_control.proofs.Told.{IsTelling}
use Rattle.tip_control.proofs.asking.tell_rest.Given as goal

abbrev pub invariant-loop : goal.invariant-loop
invariant-loop g l =
    IsTelling (g.R.Read.remaining l.fn.reader) (g.R.Read.remaining l.reader) (g.O.Write.contents l.fn.output) (g.O.Write.contents l.output)
