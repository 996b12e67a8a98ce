use Rattle.std.proofs.Common.{length}
use Rattle.tip_line.specs.Fields.{fields_of}
use Rattle.tip_scene.proofs.Labelling.{AreRead}
use Rattle.tip_scene.proofs.branches.labelled_branches.Given as goal

abbrev pub invariant-loop-label : goal.invariant-loop-label
invariant-loop-label l = AreRead (fields_of 32 l.fn.labels) l.fields l.items.items l.number

abbrev pub decreases-loop-label : goal.decreases-loop-label
decreases-loop-label l = length l.fields
