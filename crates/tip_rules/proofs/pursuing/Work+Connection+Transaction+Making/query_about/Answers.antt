use Rattle.std.proofs.Common.{sym, ◌∙◌}
use Rattle.tip_rules.proofs.Purposes.{asks_about, asks_elsewhere, asks_undoubted}
use Rattle.tip_rules.proofs.pursuing.Work+Connection+Transaction+Making.query_about.Goals as goal

pub returns-then-not-is_in_doubt : goal.returns-then-not-is_in_doubt
returns-then-not-is_in_doubt g c = λ connection found.
    asks_undoubted c.args.self.now c.close_as.new.self c.args.number c.args.key connection c.args.role found c.close_as.ensures (sym c.if-not-is_in_doubt.ensures)

pub returns-then-is_decided_on : goal.returns-then-is_decided_on
returns-then-is_decided_on g c = λ connection found.
    asks_about c.args.self.now c.ask_superior.new.self c.args.number c.args.key connection c.args.role found (sym c.if-not-is_in_doubt.ensures) (sym (c.is_decided_on.ensures connection found) ∙ c.if-is_decided_on.true) c.ask_superior.ensures

pub returns-else-is_decided_on : goal.returns-else-is_decided_on
returns-else-is_decided_on g c = λ connection found.
    asks_elsewhere c.args.self.now c.close_as-else-is_decided_on.new.self c.args.number c.args.key connection c.args.role found c.close_as-else-is_decided_on.ensures (sym c.if-not-is_in_doubt.ensures) (sym (c.is_decided_on.ensures connection found) ∙ c.if-is_decided_on.false)
