-- However far it has come.
use Rattle.std.proofs.Common.{◌∙◌, suc, sym}
use Rattle.std.specs.Prelude.{is_none}
use Rattle.tip_machine.specs.declared.event.Event.TheVariants as event
use Rattle.tip_actor.specs.Acting.{answer_in, loses}
use Rattle.tip_actor.proofs.Connecting.{forgets_alike, halts_on, is_seated}
use Rattle.tip_actor.proofs.connections.Actor+PartyOut.lose_connection.Goals as goal

pub returns-in_err-is_refused-clause-halts : goal.returns-in_err-is_refused-clause-halts
returns-in_err-is_refused-clause-halts g c = λ acting is. halts_on g.S.RowLog.keeping c.args.stored_core.now.store c.happen.new.stored_core.store c.args.self.now.name loses event.Lost c.in-Some.seat c.args.connection acting (is_seated c.in-Some.seat c.args.connection acting (sym c.in-Some.is ∙ c.seat.ensures acting.readings is.own.readings)) (λ index reading. forgets_alike g.S.RowLog.keeping c.happen.new.stored_core.store (is_none (answer_in acting (event.Lost reading.seat)).refusal) (suc index) _) (c.happen.ensures.halts acting is)

pub returns-then-not-is_refused-clause-halts : goal.returns-then-not-is_refused-clause-halts
returns-then-not-is_refused-clause-halts g c = λ acting is. halts_on g.S.RowLog.keeping c.args.stored_core.now.store c.happen.new.stored_core.store c.args.self.now.name loses event.Lost c.in-Some.seat c.args.connection acting (is_seated c.in-Some.seat c.args.connection acting (sym c.in-Some.is ∙ c.seat.ensures acting.readings is.own.readings)) (λ index reading. forgets_alike g.S.RowLog.keeping c.happen.new.stored_core.store (is_none (answer_in acting (event.Lost reading.seat)).refusal) (suc index) _) (c.happen.ensures.halts acting is)

pub returns-else-not-is_refused-clause-halts : goal.returns-else-not-is_refused-clause-halts
returns-else-not-is_refused-clause-halts g c = λ acting is. halts_on g.S.RowLog.keeping c.args.stored_core.now.store c.happen.new.stored_core.store c.args.self.now.name loses event.Lost c.in-Some.seat c.args.connection acting (is_seated c.in-Some.seat c.args.connection acting (sym c.in-Some.is ∙ c.seat.ensures acting.readings is.own.readings)) (λ index reading. forgets_alike g.S.RowLog.keeping c.happen.new.stored_core.store (is_none (answer_in acting (event.Lost reading.seat)).refusal) (suc index) _) (c.happen.ensures.halts acting is)
