use Rattle.std.proofs.Common.{sym, ◌∙◌}
use Rattle.tip_rules.proofs.Requests.{push_free}
use Rattle.tip_rules.proofs.requesting.Work+Connection+Transaction+Making.ask_push.Goals as goal

pub returns-then-is_free : goal.returns-then-is_free
returns-then-is_free g c = push_free c.args.self.now c.push_out.new.self c.args.seat c.args.id.now c.connection.result.now c.in-Some.ensures.same c.connection.ensures (sym c.is_free.ensures ∙ c.if-is_free.true) c.push_out.ensures
