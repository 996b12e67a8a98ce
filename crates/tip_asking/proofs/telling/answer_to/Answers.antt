use Rattle.std.proofs.Common.{Ok, subst}
use Rattle.tip_client.specs.Dialogues.{line_of}
use Rattle.tip_client.specs.Hearing.{Hears}
use Rattle.tip_asking.proofs.Fronts.{all_said, on_err}
use Rattle.tip_asking.proofs.Parts.{answers}
use Rattle.tip_asking.proofs.telling.answer_to.Goals as goal

pub returns-in_err-response-clause-stopped : goal.returns-in_err-response-clause-stopped
returns-in_err-response-clause-stopped g c = on_err c.from_residual-in_err-response.result _ (all_said (line_of c.args.command) _ _ c.in_ok-say.ensures.ok)

pub returns-clause-answered : goal.returns-clause-answered
returns-clause-answered g c =
    let heard = subst (λ name. Hears name c.args.intake.now.lines c.response_to.new.intake.lines (g.R.Read.remaining c.args.reader.now) (g.R.Read.remaining c.response_to.new.reader) (Ok c.in_ok-response.response)) c.name.ensures c.in_ok-response.ensures in
    answers c.args.intake.now.lines c.response_to.new.intake.lines _ _ _ _ c.args.command c.in_ok-response.response c.in_ok-say.ensures.ok heard
