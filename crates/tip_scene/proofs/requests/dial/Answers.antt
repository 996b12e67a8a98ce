-- The connection is opened.
use Rattle.std.proofs.Common.{◌∙◌, None, Some, ap, string_bytes, sym}
use Rattle.std.specs.Prelude.{◌&&◌, if◌then◌else◌}
use Rattle.tip_actor.specs.Acting.{boxes_of, happens}
use Rattle.tip_line.specs.Words.{is_address}
use Rattle.tip_machine.specs.declared.event.Event.TheVariants.{Dial}
use Rattle.tip_script.specs.Moves.{purpose_of}
use Rattle.tip_scene.specs.Scenes.{is_purpose}
use Rattle.tip_scene.proofs.Dialling.{dialled}
use Rattle.tip_scene.proofs.Halting.{halts_worded}
use Rattle.tip_scene.proofs.requests.dial.Goals as goal

pub returns-in_ok-happen-in-Some-clause-tells : goal.returns-in_ok-happen-in-Some-clause-tells
returns-in_ok-happen-in-Some-clause-tells g c = λ acting realm plans is boxes.
    let words = is_address c.args.address.now && is_purpose (purpose_of c.args.aim) in
    let said = sym c.in-Some.is ∙ c.in_ok-event.ensures ∙ ap (λ b. if words then Some (Dial c.args.address.now (purpose_of c.args.aim) b) else None) boxes in
    dialled g.S.RowLog.keeping c.args.stored_core.now c.happen.new.stored_core c.args.place c.args.actor.now c.happen.new.self (string_bytes c.args.printed.now) (string_bytes c.happen.new.printed) acting words (Dial c.args.address.now (purpose_of c.args.aim) (boxes_of plans)) c.in-Some.event said (c.in_ok-happen-in-Some.ensures.acts acting is)

pub returns-in_err-happen-in-Some-clause-halts : goal.returns-in_err-happen-in-Some-clause-halts
returns-in_err-happen-in-Some-clause-halts g c = λ acting realm plans is boxes.
    let words = is_address c.args.address.now && is_purpose (purpose_of c.args.aim) in
    let said = sym c.in-Some.is ∙ c.in_ok-event.ensures ∙ ap (λ b. if words then Some (Dial c.args.address.now (purpose_of c.args.aim) b) else None) boxes in
    halts_worded g.S.RowLog.keeping c.args.stored_core.now.store c.happen.new.stored_core.store c.args.actor.now.name acting words (Dial c.args.address.now (purpose_of c.args.aim) (boxes_of plans)) c.in-Some.event (λ event. Some (happens event acting)) said (c.happen.ensures.halts acting is)

pub returns-in_ok-happen-in-Some-clause-halts : goal.returns-in_ok-happen-in-Some-clause-halts
returns-in_ok-happen-in-Some-clause-halts g c = λ acting realm plans is boxes.
    let words = is_address c.args.address.now && is_purpose (purpose_of c.args.aim) in
    let said = sym c.in-Some.is ∙ c.in_ok-event.ensures ∙ ap (λ b. if words then Some (Dial c.args.address.now (purpose_of c.args.aim) b) else None) boxes in
    halts_worded g.S.RowLog.keeping c.args.stored_core.now.store c.happen.new.stored_core.store c.args.actor.now.name acting words (Dial c.args.address.now (purpose_of c.args.aim) (boxes_of plans)) c.in-Some.event (λ event. Some (happens event acting)) said (c.happen.ensures.halts acting is)
