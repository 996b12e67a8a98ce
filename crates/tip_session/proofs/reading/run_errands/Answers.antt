use Rattle.std.proofs.Common.{◌∙◌, ap, subst}
use Rattle.tip_session.specs.Desks.{name_in}
use Rattle.tip_session.proofs.Ending.{Ran, ran_nothing, ran_on, ran_ends, ran_fails, ran_endless}
use Rattle.tip_session.proofs.reading.run_errands.Goals as goal

pub loop-init : goal.loop-init
loop-init g c = ran_nothing (g.D.Desk.seen c.args.desk.now) (name_in g.D.Desk.name c.args.work) c.requires.out

pub returns-in_default : goal.returns-in_default
returns-in_default g c = ran_ends (g.D.Desk.seen c.args.desk.now) (g.D.Desk.seen c.loop.desk) (subst (λ n. Ran (g.D.Desk.seen c.args.desk.now) (g.D.Desk.seen c.loop.desk) (name_in g.D.Desk.name n)) c.in_default.is c.loop.invariant)

pub done-requires-clause-out : goal.done-requires-clause-out
done-requires-clause-out g c = c.loop.invariant.owed ∙ ap (name_in g.D.Desk.name) c.in-Some.is

pub done-requires-clause-there : goal.done-requires-clause-there
done-requires-clause-there g c = ap (λ h. h.gone) c.loop.invariant.given ∙ c.requires.there

pub returns-in-Err : goal.returns-in-Err
returns-in-Err g c = ran_fails (g.D.Desk.seen c.args.desk.now) (g.D.Desk.seen c.loop.desk) (g.D.Desk.seen c.done.new.self) (name_in g.D.Desk.name c.loop.next) c.in-Err.fault c.loop.invariant c.in-Err.ensures

pub loop-preserved : goal.loop-preserved
loop-preserved g c = ran_on (g.D.Desk.seen c.args.desk.now) (g.D.Desk.seen c.loop.desk) (g.D.Desk.seen c.done.new.self) (g.D.Desk.name c.in-Some.work) (name_in g.D.Desk.name c.loop.next) (name_in g.D.Desk.name c.in-Ok.more) c.loop.invariant c.in-Ok.ensures

pub returns : goal.returns
returns g c = ran_endless (g.D.Desk.seen c.args.desk.now) (g.D.Desk.seen c.loop.desk) (g.D.Desk.seen c.stop.new.self) (name_in g.D.Desk.name c.loop.next) c.loop.invariant c.stop.ensures
