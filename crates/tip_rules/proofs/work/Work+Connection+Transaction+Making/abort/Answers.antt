use Rattle.tip_rules.proofs.Proceeding.{aborted}
use Rattle.tip_rules.proofs.work.Work+Connection+Transaction+Making.abort.Goals as goal

pub returns : goal.returns
returns g c = aborted c.args.self.now c.enter.new.self c.react.new.self c.dispatch.new.self c.release.new.self c.args.key c.enter.ensures.does c.react.ensures.does c.dispatch.ensures.does c.release.ensures
