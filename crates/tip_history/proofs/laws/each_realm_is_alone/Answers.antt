use Rattle.tip_history.proofs.Apart.{each_alone}
use Rattle.tip_history.proofs.laws.each_realm_is_alone.Goals as goal

pub returns : goal.returns
returns c = each_alone
