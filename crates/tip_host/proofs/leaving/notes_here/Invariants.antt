use Rattle.std.proofs.Common.{◌≡◌, ◌++◌, map}
use Rattle.std.specs.List.{flat_map}
use Rattle.tip_machine.specs.Outputs.{drops_of}
use Rattle.tip_machine.specs.Types.{seen}
use Rattle.tip_host.proofs.Dropping.{here}
use Rattle.tip_host.proofs.leaving.notes_here.Given as goal

-- what was noted, and then what is left of them, is what all let go
abbrev pub invariant-loop-transaction : goal.invariant-loop-transaction
invariant-loop-transaction g l = flat_map drops_of l.notes.items ++ here (map seen l.transaction-iterator) ≡ here (map seen l.initial.transaction-iterator)
