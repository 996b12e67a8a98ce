use Rattle.tip_run.proofs.Given.{given_all, given_for}
use Rattle.tip_run.proofs.laws.boxes_are_given_one_for_each_branch.Goals as goal

pub returns-clause-one : goal.returns-clause-one
returns-clause-one c = given_for

pub returns-clause-all : goal.returns-clause-all
returns-clause-all c = given_all
