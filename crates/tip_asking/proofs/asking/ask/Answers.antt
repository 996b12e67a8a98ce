use Rattle.std.proofs.Common.{[], ◌∷◌, ap}
use Rattle.std.proofs.lemmas.Result.{IfOk-weaker}
use Rattle.tip_line.specs.declared.command.Command.TheVariants as command
use Rattle.tip_client.specs.Dialogues.{lines_of}
use Rattle.tip_asking.specs.Asking.{commands_of, ending, told}
use Rattle.tip_asking.proofs.Answered.{answered_end, answered_presence, answered_transaction}
use Rattle.tip_asking.proofs.Dialogues.{identify_behind, identify_first, identify_said}
use Rattle.tip_asking.proofs.Fronts.{front_one, nothing_said, on_err, on_err_more, one_there}
use Rattle.tip_asking.proofs.asking.ask.Goals as goal

pub returns-in_err-identify-clause-stopped : goal.returns-in_err-identify-clause-stopped
returns-in_err-identify-clause-stopped g c = on_err c.from_residual-in_err-identify.result _ (nothing_said (lines_of (commands_of c.args.asked)) _)

pub returns-in_err-identified-clause-stopped : goal.returns-in_err-identified-clause-stopped
returns-in_err-identified-clause-stopped g c = on_err c.from_residual-in_err-identified.result _ (identify_first c.args.asked c.in_ok-identify.identify c.in_ok-identify.ensures _ _ c.in_err-identified.ensures.stopped)

pub returns-in_default : goal.returns-in_default
returns-in_default g c = record {
  answered = tt;
  stopped = identify_said c.args.asked c.in_ok-identify.identify c.in_ok-identify.ensures _ _ c.in_ok-identified.ensures.said;
}

pub returns-in-Presence-clause-answered : goal.returns-in-Presence-clause-answered
returns-in-Presence-clause-answered g c =
    answered_presence _ _ _ _ _ _ c.args.asked _ _ c.in_ok-identify.identify c.in_ok-identified.identified c.in-Identified.version c.in-Presence.is c.in_ok-identify.ensures c.in-Identified.is c.in_ok-intake.ensures.empty
    c.in_ok-identified.ensures.answered (one_there told c.in_ok-identified.identified _ _ c.in_ok-tell-in-Presence.ensures.ok)

pub returns-in_err-copy-in-Transaction-clause-stopped : goal.returns-in_err-copy-in-Transaction-clause-stopped
returns-in_err-copy-in-Transaction-clause-stopped g c =
    on_err c.from_residual-in_err-copy-in-Transaction.result _ (identify_said c.args.asked c.in_ok-identify.identify c.in_ok-identify.ensures _ _ c.in_ok-identified.ensures.said)

pub returns-in-Transaction-clause-answered : goal.returns-in-Transaction-clause-answered
returns-in-Transaction-clause-answered g c =
    IfOk-weaker c.judged.result _ _
    (λ verdict so. answered_transaction _ _ _ _ _ _ _ _ _ c.in_ok-identify.identify c.in_ok-identified.identified c.in-Identified.version c.in_ok-identify.ensures c.in-Identified.is c.in_ok-intake.ensures.empty c.in_ok-identified.ensures.answered
    c.args.asked _ _ (command.Query c.in_ok-copy-in-Transaction.field-0) verdict c.in-Transaction.id c.in-Transaction.is (ap (λ id. command.Query id) c.in_ok-copy-in-Transaction.ensures) so)
    c.judged.ensures.answered

pub returns-in-Transaction-clause-stopped : goal.returns-in-Transaction-clause-stopped
returns-in-Transaction-clause-stopped g c =
    on_err_more c.judged.result _ _
    (λ front. identify_behind c.args.asked c.in_ok-identify.identify c.in_ok-identify.ensures (command.Query c.in-Transaction.id.now ∷ []) _ _ _ (ap commands_of c.in-Transaction.is) c.in_ok-identified.ensures.said
    (front_one (command.Query c.in_ok-copy-in-Transaction.field-0) (command.Query c.in-Transaction.id.now) (ap (λ id. command.Query id) c.in_ok-copy-in-Transaction.ensures) [] _ _ front))
    c.judged.ensures.stopped

pub returns-clause-answered : goal.returns-clause-answered
returns-clause-answered g c =
    IfOk-weaker c.end.result _ _
    (λ verdict so. answered_end _ _ _ _ _ _ _ _ _ c.in_ok-identify.identify c.in_ok-identified.identified c.in-Identified.version c.in_ok-identify.ensures c.in-Identified.is c.in_ok-intake.ensures.empty c.in_ok-identified.ensures.answered
    c.args.asked _ _ verdict c.in-End.id c.in-End.decision c.in-End.is so)
    c.end.ensures.answered

pub returns-clause-stopped : goal.returns-clause-stopped
returns-clause-stopped g c =
    on_err_more c.end.result _ _
    (identify_behind c.args.asked c.in_ok-identify.identify c.in_ok-identify.ensures (command.Reconnect c.in-End.id.now ∷ ending c.in-End.decision ∷ []) _ _ _ (ap commands_of c.in-End.is) c.in_ok-identified.ensures.said)
    c.end.ensures.stopped
