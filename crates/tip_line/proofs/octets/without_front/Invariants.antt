use Rattle.std.proofs.Common.{◌≡◌, length}
use Rattle.tip_line.specs.Octets.{without_front}
use Rattle.tip_line.proofs.octets.without_front.Given as goal

abbrev pub invariant-loop-text : goal.invariant-loop-text
invariant-loop-text l = without_front l.text ≡ without_front l.line

abbrev pub decreases-loop-text : goal.decreases-loop-text
decreases-loop-text l = length l.text
