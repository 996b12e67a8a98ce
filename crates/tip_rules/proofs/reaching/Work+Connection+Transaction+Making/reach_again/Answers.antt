use Rattle.std.proofs.Common.{sym, ◌∙◌}
use Rattle.tip_rules.proofs.Aims.{reaches_not, reaches_part}
use Rattle.tip_rules.proofs.reaching.Work+Connection+Transaction+Making.reach_again.Goals as goal

pub returns-in-Some : goal.returns-in-Some
returns-in-Some g c = λ connection found.
    reaches_part c.args.self.now c.reach_part.new.self c.args.aim.key c.args.aim.subordinate connection c.args.role c.in-Some.part (sym c.in-Some.is ∙ c.owed_part.ensures connection found) c.requires.word (c.reach_part.ensures connection found)

pub returns-in-None : goal.returns-in-None
returns-in-None g c = λ connection found.
    reaches_not c.args.self.now c.close_as.new.self c.args.aim.key c.args.aim.subordinate connection c.args.role (sym c.in-None.is ∙ c.owed_part.ensures connection found) (c.close_as.ensures connection found)
