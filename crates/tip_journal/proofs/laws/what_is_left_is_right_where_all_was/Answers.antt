use Rattle.tip_journal.proofs.StillAudited.{audited-still}
use Rattle.tip_journal.proofs.laws.what_is_left_is_right_where_all_was.Goals as goal

pub returns : goal.returns
returns g c = audited-still
