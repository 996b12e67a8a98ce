-- What a store leaves, by the clause on stops.
use Rattle.tip_crash.proofs.Ended.{others_left, own_left, stops_at}
use Rattle.tip_crash.proofs.laws.a_step_leaves_the_rows_of_before_or_with_its_change.Goals as goal

pub returns-clause-own : goal.returns-clause-own
returns-clause-own g c = λ old new name world event outcome log left keeps true_to shown alone leaves part. own_left name world event log left (stops_at (alone left) (keeps.stop log shown true_to left leaves)) part

pub returns-clause-others : goal.returns-clause-others
returns-clause-others g c = λ old new name world event outcome log left keeps true_to shown alone leaves. others_left name _ log left (stops_at (alone left) (keeps.stop log shown true_to left leaves))
