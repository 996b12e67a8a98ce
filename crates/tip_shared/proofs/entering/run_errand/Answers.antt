use Rattle.std.proofs.Common.{None}
use Rattle.std.specs.Prelude.{option_map}
use Rattle.tip_shared.specs.Sessions.{name_of, steps_in}
use Rattle.tip_shared.proofs.Errands.{came_alone, came_next}
use Rattle.tip_shared.proofs.entering.run_errand.Goals as goal

pub returns-in-Err-clause-only : goal.returns-in-Err-clause-only
returns-in-Err-clause-only g c = came_alone (option_map (λ out. name_of out.sent) c.args.work) (steps_in c.args.pass.now.noted) (steps_in c.bring_back.new.pass.noted) None (came_next c.in-Some.work c.loop.next None (λ out. name_of out.sent) (option_map (λ out. name_of out.sent) c.args.work) (steps_in c.args.pass.now.noted) (steps_in c.loop.pass.noted) (steps_in c.bring_back.new.pass.noted) c.in-Some.is c.loop.invariant c.in_ok-work.ensures.took)

pub loop-preserved : goal.loop-preserved
loop-preserved g c = came_next c.in-Some.work c.loop.next c.in-Ok.more (λ out. name_of out.sent) (option_map (λ out. name_of out.sent) c.args.work) (steps_in c.args.pass.now.noted) (steps_in c.loop.pass.noted) (steps_in c.bring_back.new.pass.noted) c.in-Some.is c.loop.invariant c.in_ok-work.ensures.took
