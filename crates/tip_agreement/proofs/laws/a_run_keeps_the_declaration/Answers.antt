use Rattle.tip_agreement.proofs.Declared.{declared_led}
use Rattle.tip_agreement.proofs.laws.a_run_keeps_the_declaration.Goals as goal

pub returns : goal.returns
returns c = declared_led
