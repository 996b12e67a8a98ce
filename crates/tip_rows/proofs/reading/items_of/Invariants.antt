use Rattle.std.proofs.Common.{◌≡◌, [], eqb, length}
use Rattle.std.specs.List.{slice_split}
use Rattle.tip_rows.specs.Reading.{branches_onto}
use Rattle.tip_rows.proofs.reading.items_of.Given as goal

abbrev pub invariant-loop-part : goal.invariant-loop-part
invariant-loop-part g l = branches_onto l.version l.items.items l.parts ≡ branches_onto l.version [] (slice_split (λ octet. eqb octet 44) l.fn.word)

abbrev pub decreases-loop-part : goal.decreases-loop-part
decreases-loop-part g l = length l.parts
