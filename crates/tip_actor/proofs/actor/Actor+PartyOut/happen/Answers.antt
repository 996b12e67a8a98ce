-- The event has happened, and what it shows is printed.
use Rattle.std.proofs.Common.{◌++◌, ◌∙◌, Some, ap, refl, string_bytes}
use Rattle.tip_actor.specs.Acting.{happens}
use Rattle.tip_actor.specs.Halting.{around}
use Rattle.tip_actor.proofs.Doing.{has_begun, has_happened}
use Rattle.tip_actor.proofs.Halting.{not_begun}
use Rattle.tip_machine.specs.Outputs.{brought}
use Rattle.tip_transcript.specs.Printing.{shown_text}
use Rattle.tip_actor.proofs.actor.Actor+PartyOut.happen.Goals as goal

pub returns-clause-acts : goal.returns-clause-acts
returns-clause-acts g c = λ acting is.
    let calls = c.deref.ensures ∙ c.in_ok-print_brought.ensures ∙ ap (λ b. b ++ shown_text c.as_str.result.now (brought c.args.event)) c.new-calls.ensures.bytes ∙ ap (λ n. shown_text n (brought c.args.event)) c.as_str.ensures.same in
    has_happened g.S.RowLog.keeping c.args.stored_core.now c.step.new.stored_core c.args.place c.args.self.now c.learn.new.self c.args.event c.in_ok-happened.happened (string_bytes c.args.printed.now) (string_bytes c.print.new.printed) acting is
    (λ served. c.in_ok-happened.ensures.serves acting.world.state served) (c.in_ok-print.ensures c.args.event calls)
    c.in_ok-learn.ensures.name c.in_ok-learn.ensures.due c.in_ok-learn.ensures.readings c.in_ok-learn.ensures.errands

-- However it ends

pub returns-in_err-happened-clause-halts : goal.returns-in_err-happened-clause-halts
returns-in_err-happened-clause-halts g c = λ acting is. not_begun g.S.RowLog.keeping c.args.stored_core.now c.step.new.stored_core.store c.args.place c.args.self.now acting (around (Some (happens c.args.event acting)) acting) refl is c.in_err-happened.ensures.stays

pub returns-in_err-print-clause-halts : goal.returns-in_err-print-clause-halts
returns-in_err-print-clause-halts g c = λ acting is. has_begun g.S.RowLog.keeping c.args.stored_core.now c.step.new.stored_core c.args.place c.args.self.now c.args.event c.in_ok-happened.happened acting is (λ served. c.in_ok-happened.ensures.serves acting.world.state served)

pub returns-in_err-learn-clause-halts : goal.returns-in_err-learn-clause-halts
returns-in_err-learn-clause-halts g c = λ acting is. has_begun g.S.RowLog.keeping c.args.stored_core.now c.step.new.stored_core c.args.place c.args.self.now c.args.event c.in_ok-happened.happened acting is (λ served. c.in_ok-happened.ensures.serves acting.world.state served)

pub returns-clause-halts : goal.returns-clause-halts
returns-clause-halts g c = λ acting is. has_begun g.S.RowLog.keeping c.args.stored_core.now c.step.new.stored_core c.args.place c.args.self.now c.args.event c.in_ok-happened.happened acting is (λ served. c.in_ok-happened.ensures.serves acting.world.state served)
