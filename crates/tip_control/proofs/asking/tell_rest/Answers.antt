use Rattle.std.proofs.Common.{Bool, IfSome, subst}
use Rattle.tip_control.specs.Asking.{Hears}
use Rattle.tip_control.proofs.Told.{ended}
use Rattle.tip_control.proofs.asking.tell_rest.Goals as goal

pub returns-then-not-branch : goal.returns-then-not-branch
returns-then-not-branch g c =
    let later = g.R.Read.remaining c.hear.new.reader in
    let line = c.hear.new.line.items in
    let hears = subst (λ (more : Bool). IfSome (g.R.Read.remaining c.loop.reader) (Hears more line later)) c.if-not-branch.true c.in_ok-hear.ensures in
    ended (g.R.Read.remaining c.args.reader.now) (g.R.Read.remaining c.loop.reader) later (g.O.Write.contents c.args.output.now) (g.O.Write.contents c.loop.output) line c.loop.invariant hears
