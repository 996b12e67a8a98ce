use Rattle.std.proofs.Common.{sym, ◌∙◌}
use Rattle.tip_rules.proofs.Purposes.{asks_wordless}
use Rattle.tip_rules.proofs.pursuing.Work+Connection+Transaction+Making.ask_superior.Goals as goal

pub returns-in-None : goal.returns-in-None
returns-in-None g c = λ connection t found there.
    asks_wordless c.args.self.now c.close_as.new.self c.take_word.new.self c.take_word.ensures.left c.args.number c.args.key connection t c.args.role found there c.requires.word (sym c.in-None.is ∙ c.take_word.ensures.taken) (c.close_as.ensures connection found)
