use Rattle.std.proofs.Common.{sym, ◌∙◌}
use Rattle.tip_rules.proofs.Aims.{reaches_word, reaches_wordless}
use Rattle.tip_rules.proofs.reaching.Work+Connection+Transaction+Making.reach_part.Goals as goal

pub returns-in-Some : goal.returns-in-Some
returns-in-Some g c = λ connection found.
    reaches_word c.args.self.now c.send_as.new.self c.take_word.new.self c.take_word.ensures.left c.args.number c.args.part c.args.key connection c.args.role found c.in-Some.id (sym c.in-Some.is ∙ c.take_word.ensures.taken) c.send_as.ensures

pub returns-in-None : goal.returns-in-None
returns-in-None g c = λ connection found.
    reaches_wordless c.args.self.now c.close_as.new.self c.take_word.new.self c.take_word.ensures.left c.args.number c.args.part c.args.key connection c.args.role (sym c.in-None.is ∙ c.take_word.ensures.taken) (c.close_as.ensures connection found)
