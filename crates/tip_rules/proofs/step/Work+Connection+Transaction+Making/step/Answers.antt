use Rattle.std.proofs.Common.{sym}
use Rattle.tip_rules.proofs.Happening.{ready}
use Rattle.tip_rules.proofs.step.Work+Connection+Transaction+Making.step.Goals as goal

pub happen-requires : goal.happen-requires
happen-requires g c = ready c.args.self.now c.take_entry.new.self c.args.event c.requires.here c.requires.counts c.requires.silent c.requires.needs (sym c.if-not-is_open.ensures) c.take_entry.ensures.does c.take_entry.ensures.rest
