-- Each twin was computed.
use Rattle.tip_machine.proofs.FalseTwins.{one, backed, kept_to_branches, kept_to_subordinates, kept_to_who_asks, asked_of_branches, asked_of_parts, asked_without_a_no, asked_without_a_loss}
use Rattle.tip_machine.proofs.examples.false_twins_are_refused.Goals as goal

pub returns-clause-one : goal.returns-clause-one
returns-clause-one c = one

pub returns-clause-backed : goal.returns-clause-backed
returns-clause-backed c = backed

pub returns-clause-kept_to_branches : goal.returns-clause-kept_to_branches
returns-clause-kept_to_branches c = kept_to_branches

pub returns-clause-kept_to_subordinates : goal.returns-clause-kept_to_subordinates
returns-clause-kept_to_subordinates c = kept_to_subordinates

pub returns-clause-kept_to_who_asks : goal.returns-clause-kept_to_who_asks
returns-clause-kept_to_who_asks c = kept_to_who_asks

pub returns-clause-asked_of_branches : goal.returns-clause-asked_of_branches
returns-clause-asked_of_branches c = asked_of_branches

pub returns-clause-asked_of_parts : goal.returns-clause-asked_of_parts
returns-clause-asked_of_parts c = asked_of_parts

pub returns-clause-asked_without_a_no : goal.returns-clause-asked_without_a_no
returns-clause-asked_without_a_no c = asked_without_a_no

pub returns-clause-asked_without_a_loss : goal.returns-clause-asked_without_a_loss
returns-clause-asked_without_a_loss c = asked_without_a_loss
