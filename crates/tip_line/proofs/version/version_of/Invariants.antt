use Rattle.tip_line.proofs.NumberLemmas.{HasRead}
use Rattle.tip_line.proofs.version.version_of.Given as goal

abbrev pub invariant-loop-digit : goal.invariant-loop-digit
invariant-loop-digit l = HasRead l.word l.digit-index l.version
