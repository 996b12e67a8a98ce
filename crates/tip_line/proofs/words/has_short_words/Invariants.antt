use Rattle.std.proofs.Common.{◌≡◌, length}
use Rattle.tip_line.specs.Texts.{has_short_words}
use Rattle.tip_line.proofs.words.has_short_words.Given as goal

abbrev pub invariant-loop-word : goal.invariant-loop-word
invariant-loop-word l = has_short_words l.rest ≡ has_short_words l.text

abbrev pub decreases-loop-word : goal.decreases-loop-word
decreases-loop-word l = length l.rest
