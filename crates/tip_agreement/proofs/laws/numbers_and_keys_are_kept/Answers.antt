use Rattle.tip_machine.proofs.Identifiers.{still_rising}
use Rattle.tip_agreement.proofs.Keys.{keys_kept}
use Rattle.tip_agreement.proofs.laws.numbers_and_keys_are_kept.Goals as goal

pub returns : goal.returns
returns c = λ state event outcome numbered keyed. (still_rising state event outcome numbered, keys_kept state event outcome numbered keyed)
