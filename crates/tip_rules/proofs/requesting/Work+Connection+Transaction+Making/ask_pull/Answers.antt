use Rattle.std.proofs.Common.{sym, ◌∙◌}
use Rattle.tip_rules.proofs.Requests.{pull_free}
use Rattle.tip_rules.proofs.requesting.Work+Connection+Transaction+Making.ask_pull.Goals as goal

pub returns-then-is_free : goal.returns-then-is_free
returns-then-is_free g c = pull_free c.args.self.now c.pull_in.new.self c.args.seat c.args.superior c.connection.result.now c.in-Some.ensures.same c.connection.ensures (sym c.is_free.ensures ∙ c.if-is_free.true) c.pull_in.ensures
