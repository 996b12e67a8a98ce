use Rattle.std.specs.Prelude.{take}
use Rattle.tip_host.specs.Speaking.{Speaks}
use Rattle.tip_host.proofs.spoken.Spoken.to.Given as goal

-- those are noted to which something of the first lines goes
abbrev pub invariant-loop-one : goal.invariant-loop-one
invariant-loop-one l = Speaks (take l.one-index l.sent) l.spoken
