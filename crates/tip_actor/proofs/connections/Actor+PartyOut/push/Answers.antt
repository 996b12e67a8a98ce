-- However far it has come.
use Rattle.std.proofs.Common.{◌∙◌, refl, sym}
use Rattle.tip_machine.specs.declared.event.Event.TheVariants as event
use Rattle.tip_actor.specs.Acting.{pushes}
use Rattle.tip_actor.proofs.Connecting.{halts_on, is_seated}
use Rattle.tip_actor.proofs.connections.Actor+PartyOut.push.Goals as goal

pub returns-in_err-happen-clause-halts : goal.returns-in_err-happen-clause-halts
returns-in_err-happen-clause-halts g c = λ acting is. halts_on g.S.RowLog.keeping c.args.stored_core.now.store c.happen.new.stored_core.store c.args.self.now.name (pushes c.args.id) (λ seat. event.AskPush seat c.args.id) c.in-Some.seat c.args.connection acting (is_seated c.in-Some.seat c.args.connection acting (sym c.in-Some.is ∙ c.seat.ensures acting.readings is.own.readings)) (λ index reading. record { name = refl; stored = λ s. s }) (c.happen.ensures.halts acting is)

pub returns-clause-halts : goal.returns-clause-halts
returns-clause-halts g c = λ acting is. halts_on g.S.RowLog.keeping c.args.stored_core.now.store c.happen.new.stored_core.store c.args.self.now.name (pushes c.args.id) (λ seat. event.AskPush seat c.args.id) c.in-Some.seat c.args.connection acting (is_seated c.in-Some.seat c.args.connection acting (sym c.in-Some.is ∙ c.seat.ensures acting.readings is.own.readings)) (λ index reading. record { name = refl; stored = λ s. s }) (c.happen.ensures.halts acting is)
