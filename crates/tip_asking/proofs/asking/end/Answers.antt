use Rattle.std.proofs.Common.{[], ◌∷◌, ap}
use Rattle.std.proofs.lemmas.Result.{IfOk-weaker}
use Rattle.tip_line.specs.declared.command.Command.TheVariants as command
use Rattle.tip_asking.specs.Asking.{ending}
use Rattle.tip_asking.proofs.Answered.{ended_not, ended_so}
use Rattle.tip_asking.proofs.Fronts.{front_later, front_one, on_err, on_err_more}
use Rattle.tip_asking.proofs.asking.end.Goals as goal

pub returns-in_err-judged-clause-stopped : goal.returns-in_err-judged-clause-stopped
returns-in_err-judged-clause-stopped g c =
    on_err c.from_residual-in_err-judged.result _
    (front_one (command.Reconnect c.in_ok-copy.field-0) (command.Reconnect c.args.id.now) (ap (λ id. command.Reconnect id) c.in_ok-copy.ensures) (ending c.args.decision ∷ []) _ _ c.in_err-judged.ensures.stopped)

pub returns-in-Yes-clause-answered : goal.returns-in-Yes-clause-answered
returns-in-Yes-clause-answered g c =
    IfOk-weaker c.judged-in-Yes.result _ _
    (λ verdict so. ended_so _ _ _ _ _ _ _ _ _ _ _ _ (command.Reconnect c.in_ok-copy.field-0) c.ending.result c.args.id.now c.args.decision (ap (λ id. command.Reconnect id) c.in_ok-copy.ensures) c.ending.ensures
    c.in_ok-judged.field-0 c.in-Yes.is c.in_ok-judged.ensures.answered verdict so)
    c.judged-in-Yes.ensures.answered

pub returns-in-Yes-clause-stopped : goal.returns-in-Yes-clause-stopped
returns-in-Yes-clause-stopped g c =
    on_err_more c.judged-in-Yes.result _ _
    (λ front. front_later (command.Reconnect c.in_ok-copy.field-0) (command.Reconnect c.args.id.now) (ap (λ id. command.Reconnect id) c.in_ok-copy.ensures) (ending c.args.decision ∷ []) _ _ _ c.in_ok-judged.ensures.answered.2.written
    (front_one c.ending.result (ending c.args.decision) c.ending.ensures [] _ _ front))
    c.judged-in-Yes.ensures.stopped
