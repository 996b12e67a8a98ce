use Rattle.std.proofs.Common.{◌≡◌, ℕ, List, Option, Ok, Some, None, subst}
use Rattle.tip_line.specs.declared.command.Command.{Command}
use Rattle.tip_asking.specs.Asking.{told}
use Rattle.tip_asking.specs.Sending.{Comes}
use Rattle.tip_asking.proofs.Fronts.{all_said, on_err, one_there}
use Rattle.tip_asking.proofs.Sent.{begins, one_sent, sent, stopped_first, stopped_reading, stopped_saying}
use Rattle.tip_asking.proofs.sending.send.Goals as goal

-- what has come, as a command or the end of the input
module _ (waiting left : List ℕ) (before after : Option (List ℕ)) (found : Option Command) (so : Comes waiting left before after (Ok found)) where
  as_command : (command : Command) → found ≡ Some command → Comes waiting left before after (Ok (Some command))
  as_command command is = subst (λ (o : Option Command). Comes waiting left before after (Ok o)) is so

  as_end : found ≡ None → Comes waiting left before after (Ok None)
  as_end is = subst (λ (o : Option Command). Comes waiting left before after (Ok o)) is so

pub returns-in_err-commands-clause-stopped : goal.returns-in_err-commands-clause-stopped
returns-in_err-commands-clause-stopped g c = on_err c.from_residual.result _ (stopped_first _ _)

pub returns-in_err-responses-clause-stopped : goal.returns-in_err-responses-clause-stopped
returns-in_err-responses-clause-stopped g c = on_err c.from_residual-in_err-responses.result _ (stopped_first _ _)

pub loop-init : goal.loop-init
loop-init g c = begins c.in_ok-commands.commands.lines c.in_ok-responses.responses.lines _ _ _ _ c.in_ok-commands.ensures.empty c.in_ok-responses.ensures.empty

pub returns-in_err-command-clause-stopped : goal.returns-in_err-command-clause-stopped
returns-in_err-command-clause-stopped g c =
    on_err c.from_residual-in_err-command.result _ (stopped_reading c.loop.commands.lines c.loop.responses.lines _ _ _ _ _ _ _ _ c.loop.invariant c.next_command.ensures.read _ c.next_command.ensures.consumed)

pub returns-in_default-clause-sent : goal.returns-in_default-clause-sent
returns-in_default-clause-sent g c =
    let end = as_end _ _ _ _ c.in_ok-command.field-0 c.in_ok-command.ensures c.in_default.is in
    sent c.loop.commands.lines c.loop.responses.lines _ _ _ _ _ _ _ _ c.loop.invariant end.read _ end.consumed end.comes.0 end.comes.1

pub returns-in_err-response-clause-stopped : goal.returns-in_err-response-clause-stopped
returns-in_err-response-clause-stopped g c =
    let next = as_command _ _ _ _ c.in_ok-command.field-0 c.in_ok-command.ensures c.in-Some.command c.in-Some.is in
    on_err c.from_residual-in_err-response.result _
    (stopped_saying c.loop.commands.lines c.loop.responses.lines _ _ _ _ _ _ _ _ c.loop.invariant next.read c.next_command.new.commands.lines next.comes.0 _ c.in-Some.command next.consumed next.comes.1 next.comes.2 _ c.in_err-response.ensures.stopped)

pub returns-in_err-tell-clause-stopped : goal.returns-in_err-tell-clause-stopped
returns-in_err-tell-clause-stopped g c =
    let next = as_command _ _ _ _ c.in_ok-command.field-0 c.in_ok-command.ensures c.in-Some.command c.in-Some.is in
    on_err c.from_residual-in_err-tell.result _
    (stopped_saying c.loop.commands.lines c.loop.responses.lines _ _ _ _ _ _ _ _ c.loop.invariant next.read c.next_command.new.commands.lines next.comes.0 _ c.in-Some.command next.consumed next.comes.1 next.comes.2 _ (all_said _ _ _ c.in_ok-response.ensures.said))

pub loop-preserved : goal.loop-preserved
loop-preserved g c =
    let next = as_command _ _ _ _ c.in_ok-command.field-0 c.in_ok-command.ensures c.in-Some.command c.in-Some.is in
    one_sent c.loop.commands.lines c.loop.responses.lines _ _ _ _ _ _ _ _ c.loop.invariant next.read c.next_command.new.commands.lines next.comes.0 _ c.in-Some.command next.consumed next.comes.1 next.comes.2 _ _ _ _ c.in_ok-response.response
    c.in_ok-response.ensures.answered (one_there told c.in_ok-response.response _ _ c.in_ok-tell.ensures.ok)
