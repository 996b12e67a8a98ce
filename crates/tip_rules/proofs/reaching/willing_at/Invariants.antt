use Rattle.std.proofs.Common.{◌≡◌, ◌+◌}
use Rattle.std.specs.Prelude.{drop, slice_get}
use Rattle.tip_machine.specs.Transactions.{willing_from}
use Rattle.tip_rules.proofs.reaching.willing_at.Given as goal

abbrev pub invariant-loop-index : goal.invariant-loop-index
invariant-loop-index l = slice_get (willing_from (l.index + 1) (drop l.index l.others)) l.before ≡ slice_get (willing_from 1 l.others) l.place
