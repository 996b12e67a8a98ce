use Rattle.tip_txn.specs.declared.answer.Phase.TheVariants.{Asking}
use Rattle.tip_rules.specs.Works.{work_of}
use Rattle.tip_rules.proofs.Outcomes.{may_asked}
use Rattle.tip_rules.proofs.Works.{may_entered, may_idle}
use Rattle.tip_rules.proofs.outcome.Work+Connection+Transaction+Making.ask.Goals as goal

pub proceed-requires-clause-none : goal.proceed-requires-clause-none
proceed-requires-clause-none g c =
    may_asked c.enter.new.self c.ask_party.new.self c.args.key (may_entered c.args.self.now c.enter.new.self c.args.key Asking (may_idle c.args.key (work_of c.args.self.now) c.requires.none) c.enter.ensures.does) c.ask_party.ensures.does
