use Rattle.tip_host.proofs.Behind.{whole_run}
use Rattle.tip_host.proofs.laws.what_was_never_let_go_is_kept.Goals as goal

pub returns : goal.returns
returns c = whole_run
