-- Each twin was computed.
use Rattle.tip_succession.proofs.Computed.{asked, backed, kept}
use Rattle.tip_succession.proofs.examples.false_twins_are_refused.Goals as goal

pub returns-clause-backed : goal.returns-clause-backed
returns-clause-backed c = backed

pub returns-clause-asked : goal.returns-clause-asked
returns-clause-asked c = asked

pub returns-clause-kept : goal.returns-clause-kept
returns-clause-kept c = kept
