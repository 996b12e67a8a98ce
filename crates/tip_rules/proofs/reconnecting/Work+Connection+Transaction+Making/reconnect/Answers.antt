use Rattle.std.proofs.Common.{ap, sym, ◌∙◌}
use Rattle.tip_machine.specs.Transactions.{is_prepared}
use Rattle.tip_machine.specs.Types.{seen}
use Rattle.tip_rules.proofs.Superiors.{reconnects_doubt, reconnects_other}
use Rattle.tip_rules.proofs.reconnecting.Work+Connection+Transaction+Making.reconnect.Goals as goal

pub returns-then-is_prepared : goal.returns-then-is_prepared
returns-then-is_prepared g c = λ connection found.
    reconnects_doubt c.args.self.now c.take_over.new.self c.args.number connection found c.args.subordinate.now _ (seen c.at.result.now) c.in-Some.ensures.same c.at.ensures.found (ap is_prepared (sym c.phase.ensures) ∙ sym c.is_prepared.ensures ∙ c.if-is_prepared.true) c.take_over.ensures

pub returns-else-is_prepared : goal.returns-else-is_prepared
returns-else-is_prepared g c = λ connection found.
    reconnects_other c.args.self.now c.reply-else-is_prepared.new.self c.args.number connection found c.args.subordinate.now _ (seen c.at.result.now) c.in-Some.ensures.same c.at.ensures.found (ap is_prepared (sym c.phase.ensures) ∙ sym c.is_prepared.ensures ∙ c.if-is_prepared.false) c.reply-else-is_prepared.ensures
