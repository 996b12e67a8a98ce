use Rattle.tip_history.proofs.Following.{script_follows}
use Rattle.tip_history.proofs.laws.what_a_script_leaves_may_be_played_on.Goals as goal

pub returns : goal.returns
returns c = script_follows
