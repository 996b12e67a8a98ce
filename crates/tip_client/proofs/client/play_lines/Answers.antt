-- Commands are said and answered, one after another.
use Rattle.std.proofs.Common.{Err, Ok, subst}
use Rattle.std.proofs.lemmas.Result.{err_from_is_err_and}
use Rattle.tip_client.specs.Hearing.{Hears}
use Rattle.tip_client.proofs.Playing.{answered_next, completes, stops_first, stops_hearing, stops_keeping, stops_saying}
use Rattle.tip_client.proofs.client.play_lines.Goals as goal

pub returns-in_err-intake-clause-err : goal.returns-in_err-intake-clause-err
returns-in_err-intake-clause-err g c =
    let e = err_from_is_err_and c.from_residual.result c.from_residual.ensures.1 in
    rw (e.1, e.2) (stops_first c.args.commands.now (g.R.Read.remaining c.args.reader.now) (g.W.Write.contents c.args.writer.now))

pub returns-in_err-responses-clause-err : goal.returns-in_err-responses-clause-err
returns-in_err-responses-clause-err g c =
    let e = err_from_is_err_and c.from_residual-in_err-responses.result c.from_residual-in_err-responses.ensures.1 in
    rw (e.1, e.2) (stops_first c.args.commands.now (g.R.Read.remaining c.args.reader.now) (g.W.Write.contents c.args.writer.now))

pub returns-in_err-say-clause-err : goal.returns-in_err-say-clause-err
returns-in_err-say-clause-err g c =
    let e = err_from_is_err_and c.from_residual-in_err-say.result c.from_residual-in_err-say.ensures.1 in
    rw (e.1, e.2) (stops_saying c.args.commands.now c.loop-command.command-index c.loop-command.responses.items c.loop-command.intake.lines (g.R.Read.remaining c.args.reader.now) (g.R.Read.remaining c.loop-command.reader) (g.W.Write.contents c.args.writer.now) (g.W.Write.contents c.loop-command.writer) (g.W.Write.contents c.say.new.writer)
    c.command-item.result c.in_err-say.field-0.0 c.loop-command.invariant c.loop-command-test.true c.command-item.is c.in_err-say.ensures.err c.in_err-say.ensures.fault)

pub returns-in_err-response-clause-err : goal.returns-in_err-response-clause-err
returns-in_err-response-clause-err g c =
    let e = err_from_is_err_and c.from_residual-in_err-response.result c.from_residual-in_err-response.ensures.1 in
    let left = g.R.Read.remaining c.loop-command.reader in
    let left' = g.R.Read.remaining c.response_to.new.reader in
    let hears = subst (λ name. Hears name c.loop-command.intake.lines c.response_to.new.intake.lines left left' (Err c.in_err-response.field-0.0)) c.name.ensures c.in_err-response.ensures in
    rw (e.1, e.2) (stops_hearing c.args.commands.now c.loop-command.command-index c.loop-command.responses.items c.loop-command.intake.lines c.response_to.new.intake.lines (g.R.Read.remaining c.args.reader.now) left left' (g.W.Write.contents c.args.writer.now) (g.W.Write.contents c.loop-command.writer) (g.W.Write.contents c.say.new.writer)
    c.command-item.result c.in_err-response.field-0.0 c.loop-command.invariant c.loop-command-test.true c.command-item.is c.in_ok-say.ensures.ok hears)

pub returns-in_err-push-clause-err : goal.returns-in_err-push-clause-err
returns-in_err-push-clause-err g c =
    let e = err_from_is_err_and c.from_residual-in_err-push.result c.from_residual-in_err-push.ensures.1 in
    let left = g.R.Read.remaining c.loop-command.reader in
    let left' = g.R.Read.remaining c.response_to.new.reader in
    let hears = subst (λ name. Hears name c.loop-command.intake.lines c.response_to.new.intake.lines left left' (Ok c.in_ok-response.response)) c.name.ensures c.in_ok-response.ensures in
    rw (e.1, e.2) (stops_keeping c.args.commands.now c.loop-command.command-index c.loop-command.responses.items c.loop-command.intake.lines c.response_to.new.intake.lines (g.R.Read.remaining c.args.reader.now) left left' (g.W.Write.contents c.args.writer.now) (g.W.Write.contents c.loop-command.writer) (g.W.Write.contents c.say.new.writer)
    c.command-item.result c.in_ok-response.response c.loop-command.invariant c.loop-command-test.true c.command-item.is c.in_ok-say.ensures.ok hears)

pub loop-command-preserved : goal.loop-command-preserved
loop-command-preserved g c =
    let left = g.R.Read.remaining c.loop-command.reader in
    let left' = g.R.Read.remaining c.response_to.new.reader in
    let hears = subst (λ name. Hears name c.loop-command.intake.lines c.response_to.new.intake.lines left left' (Ok c.in_ok-response.response)) c.name.ensures c.in_ok-response.ensures in
    answered_next c.args.commands.now c.loop-command.command-index c.loop-command.responses.items c.push.new.self.items c.loop-command.intake.lines c.response_to.new.intake.lines (g.R.Read.remaining c.args.reader.now) left left' (g.W.Write.contents c.args.writer.now) (g.W.Write.contents c.loop-command.writer) (g.W.Write.contents c.say.new.writer)
    c.command-item.result c.in_ok-response.response c.loop-command.invariant c.loop-command-test.true c.command-item.is c.in_ok-say.ensures.ok hears c.in_ok-push.ensures.items

pub returns-clause-ok : goal.returns-clause-ok
returns-clause-ok g c =
    completes c.args.commands.now c.loop-command.command-index c.loop-command.responses.items c.loop-command.intake.lines (g.R.Read.remaining c.args.reader.now) (g.R.Read.remaining c.loop-command.reader) (g.W.Write.contents c.args.writer.now) (g.W.Write.contents c.loop-command.writer)
    c.loop-command.invariant c.loop-command.auto.command-index-end c.loop-command-test.false
