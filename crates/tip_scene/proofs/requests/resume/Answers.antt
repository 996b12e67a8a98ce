-- However far it has come.
use Rattle.std.proofs.Common.{◌∙◌, Some, sym}
use Rattle.tip_line.specs.Words.{is_word}
use Rattle.tip_machine.specs.declared.event.Event.TheVariants.{Resume}
use Rattle.tip_actor.specs.Acting.{happens}
use Rattle.tip_scene.proofs.Halting.{halts_worded}
use Rattle.tip_scene.proofs.requests.resume.Goals as goal

pub returns-in_err-happen-in-Some-clause-halts : goal.returns-in_err-happen-in-Some-clause-halts
returns-in_err-happen-in-Some-clause-halts g c = λ acting realm is. halts_worded g.S.RowLog.keeping c.args.stored_core.now.store c.happen.new.stored_core.store c.args.actor.now.name acting (is_word c.args.id.now) c.args.id.now c.in-Some.id (λ id. Some (happens (Resume id) acting)) (sym c.in-Some.is ∙ c.in_ok-id.ensures) (c.happen.ensures.halts acting is)

pub returns-in_ok-happen-in-Some-clause-halts : goal.returns-in_ok-happen-in-Some-clause-halts
returns-in_ok-happen-in-Some-clause-halts g c = λ acting realm is. halts_worded g.S.RowLog.keeping c.args.stored_core.now.store c.happen.new.stored_core.store c.args.actor.now.name acting (is_word c.args.id.now) c.args.id.now c.in-Some.id (λ id. Some (happens (Resume id) acting)) (sym c.in-Some.is ∙ c.in_ok-id.ensures) (c.happen.ensures.halts acting is)
