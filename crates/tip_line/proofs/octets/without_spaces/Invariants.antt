use Rattle.std.proofs.Common.{◌≡◌, length, reverse}
use Rattle.tip_line.specs.Octets.{without_front, text_of}
use Rattle.tip_line.proofs.octets.without_spaces.Given as goal

abbrev pub invariant-loop-text : goal.invariant-loop-text
invariant-loop-text l = reverse (without_front (reverse l.text)) ≡ text_of l.line

abbrev pub decreases-loop-text : goal.decreases-loop-text
decreases-loop-text l = length l.text
