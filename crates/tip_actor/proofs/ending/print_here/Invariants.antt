use Rattle.std.proofs.Common.{◌≡◌, ◌++◌, map, string_bytes}
use Rattle.tip_machine.specs.Types.{seen}
use Rattle.tip_actor.proofs.Leaving.{left_here}
use Rattle.tip_actor.proofs.ending.print_here.Given as goal

-- what was printed, and then the text of what is left, is what all print
abbrev pub invariant-loop-transaction : goal.invariant-loop-transaction
invariant-loop-transaction g l = string_bytes l.printed ++ left_here l.fn.name (map seen l.transaction-iterator) ≡ string_bytes l.fn.printed ++ left_here l.fn.name (map seen l.initial.transaction-iterator)
