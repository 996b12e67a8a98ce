use Rattle.std.proofs.Common.{◌≡◌, ◌++◌, OnOk, subst}
use Rattle.tip_shared.specs.Sessions.{steps_in}
use Rattle.tip_shared.proofs.Stepping.{came_back}
use Rattle.tip_shared.proofs.entering.bring_back.Goals as goal

pub returns-clause-took : goal.returns-clause-took
returns-clause-took g c = subst (λ l. OnOk c.come_back.result (steps_in c.come_back.new.pass.noted ≡ steps_in c.args.pass.now.noted ++ l)) (came_back c.args.work.sent c.done.result.event c.done.ensures.came) c.come_back.ensures.took
