use Rattle.std.proofs.Common.{◌≡◌, ◌+◌, ◌++◌, drop}
use Rattle.tip_duties.specs.Duties.{calls_from}
use Rattle.tip_duties.proofs.duties.add_reconnects.Given as goal

-- so many were added, and the rest are yet to be
abbrev pub invariant-loop-address : goal.invariant-loop-address
invariant-loop-address l = l.dials.items ++ calls_from (l.number + 1) l.id (drop l.address-index l.subordinates)
    ≡ l.initial.dials.items ++ calls_from 1 l.id l.subordinates
