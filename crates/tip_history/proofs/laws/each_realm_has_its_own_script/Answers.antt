use Rattle.tip_history.proofs.Scripts.{script_apart}
use Rattle.tip_history.proofs.laws.each_realm_has_its_own_script.Goals as goal

pub returns : goal.returns
returns c = script_apart
