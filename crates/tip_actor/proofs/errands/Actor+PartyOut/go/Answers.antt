-- The oldest errand is done.
use Rattle.std.proofs.Common.{◌∙◌, refl, sym, string_bytes}
use Rattle.tip_actor.proofs.Doing.{has_gone, has_gone_so_far}
use Rattle.tip_actor.proofs.errands.Actor+PartyOut.go.Goals as goal

pub returns-clause-tells : goal.returns-clause-tells
returns-clause-tells g c = λ acting is. has_gone g.S.RowLog.keeping c.args.stored_core.now c.happen.new.stored_core c.args.place c.args.self.now _ c.happen.new.self (string_bytes c.args.printed.now) (string_bytes c.happen.new.printed) acting c.in-Some.party c.pop_front.new.self.items c.in-Some-foretold.event is c.in-Some.ensures.items refl refl refl refl (sym c.in-Some-foretold.is ∙ c.foretold.ensures) c.in_ok-happen.ensures.acts

pub returns-in_err-happen-clause-halts : goal.returns-in_err-happen-clause-halts
returns-in_err-happen-clause-halts g c = λ acting is. has_gone_so_far g.S.RowLog.keeping c.args.stored_core.now c.happen.new.stored_core.store c.args.place c.args.self.now _ acting c.in-Some.party c.pop_front.new.self.items c.in-Some-foretold.event is c.in-Some.ensures.items refl refl refl refl (sym c.in-Some-foretold.is ∙ c.foretold.ensures) c.happen.ensures.halts

pub returns-clause-halts : goal.returns-clause-halts
returns-clause-halts g c = λ acting is. has_gone_so_far g.S.RowLog.keeping c.args.stored_core.now c.happen.new.stored_core.store c.args.place c.args.self.now _ acting c.in-Some.party c.pop_front.new.self.items c.in-Some-foretold.event is c.in-Some.ensures.items refl refl refl refl (sym c.in-Some-foretold.is ∙ c.foretold.ensures) c.happen.ensures.halts
