use Rattle.std.proofs.Common.{◌≡◌, [], length}
use Rattle.tip_rows.specs.Reading.{subordinates_onto}
use Rattle.tip_rows.proofs.reading.subordinates_of.Given as goal

abbrev pub invariant-loop-word : goal.invariant-loop-word
invariant-loop-word g l = subordinates_onto l.items.items l.words ≡ subordinates_onto [] l.initial.words

abbrev pub decreases-loop-word : goal.decreases-loop-word
decreases-loop-word g l = length l.words
