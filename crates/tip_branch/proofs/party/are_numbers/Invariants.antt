use Rattle.std.proofs.Common.{◌≡◌, drop}
use Rattle.tip_branch.specs.Members.{rise_above}
use Rattle.tip_branch.proofs.party.are_numbers.Given as goal

abbrev pub invariant-loop-number : goal.invariant-loop-number
invariant-loop-number l = rise_above 0 l.numbers ≡ rise_above l.last (drop l.number-index l.numbers)
