-- What is answered at a control port (ours): lines, without their ends.
use Rattle.std.specs.Prelude.{ℕ, Bool, true, false, List, [], ◌∷◌, ◌++◌, codes}
use Rattle.std.specs.Fmt.{decimal}
use Rattle.std.specs.List.{flat_map}
use Rattle.tip_line.specs.Refusal as refusals
use Rattle.tip_line.specs.Response as responses
use Rattle.tip_control.specs.declared.answer.Answer.{Answer}
use Rattle.tip_control.specs.declared.answer.Answer.TheVariants.{Calls, Epoch, Said, Refused}
use Rattle.tip_control.specs.declared.doubts.InDoubt.{InDoubt}
use Rattle.tip_control.specs.declared.doubts.Owed.{Owed}
use Rattle.tip_control.specs.declared.status.Part.{Part}
use Rattle.tip_control.specs.declared.status.Status.{Status}

abbrev pub part : Part → List ℕ
part of = decimal of.taken ++ codes " of " ++ decimal of.limit

abbrev pub status : Status → List ℕ
status told = codes "epoch " ++ (decimal told.epoch ++ (codes " connections " ++ (part told.connections ++ (codes " transactions " ++ (part told.transactions ++ (codes " in-doubt " ++ (decimal told.in_doubt ++ (codes " committed " ++ (decimal told.committed ++ (codes " entries " ++ part told.entries))))))))))

abbrev pub answered : Answer → List ℕ
answered (Calls count) = codes "calls " ++ decimal count
answered (Epoch epoch) = codes "epoch " ++ decimal epoch
answered (Said response) = responses.printed response
answered (Refused refusal) = codes "refused " ++ refusals.printed refusal

-- labels behind the first, with a comma before each
abbrev pub others : List (ℕ × List ℕ) → List ℕ
others branches = flat_map (λ branch. codes "," ++ branch.1) branches

abbrev pub labels : List (ℕ × List ℕ) → List ℕ
labels [] = codes "-"
labels (branch ∷ rest) = branch.1 ++ others rest

abbrev pub presence : Bool → List ℕ
presence true = codes "connected"
presence false = codes "alone"

abbrev pub in_doubt : InDoubt → List ℕ
in_doubt doubt = codes "in-doubt " ++ (doubt.id.now ++ (codes " superior " ++ (doubt.address.now ++ (codes " " ++ (doubt.superior.now ++ (codes " branches " ++ (labels doubt.branches.now ++ (codes " " ++ presence doubt.is_connected))))))))

abbrev pub owed : Owed → List ℕ
owed due = codes "owed " ++ due.id.now ++ codes " " ++ due.address.now ++ codes " " ++ due.subordinate.now
