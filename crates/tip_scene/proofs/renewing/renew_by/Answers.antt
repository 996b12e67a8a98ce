-- The realm has started again, or the store was to refuse that.
use Rattle.std.proofs.Common.{◌≡◌, ◌==◌, ◌∙◌, ◌++◌, ℕ, List, Some, false, refl, ap, arith, string_bytes, subst, sym}
use Rattle.std.proofs.lemmas.Bool.{false≢true}
use Rattle.std.proofs.lemmas.Bool.Decides.{nat_tests}
use Rattle.tip_stored.specs.Renewing.{SpendsFor}
use Rattle.tip_line.specs.declared.refusal.Refusal.TheVariants.{Refused}
use Rattle.tip_rows.specs.Logs.{last_epoch}
use Rattle.std.specs.List.{flat_map}
use Rattle.tip_actor.proofs.Leaving.{left_here}
use Rattle.tip_transcript.specs.Printing.{refusal_text, start_text}
use Rattle.tip_actor.specs.Faults.{of_renew_fault}
use Rattle.tip_scene.proofs.Begun.{row_text}
use Rattle.tip_scene.proofs.Blaming.{err_same, not_renewed}
use Rattle.tip_actor.proofs.Halting.{all_stood, not_begun}
use Rattle.tip_actor.specs.Acting.{renewed}
use Rattle.tip_actor.specs.Halting.{around}
use Rattle.tip_scene.proofs.Renewed.{halts_renewed, not_due, refuses_so, renews_so, said_anew}
use Rattle.tip_scene.proofs.renewing.renew_by.Goals as goal

pub returns-in-Ok-clause-done : goal.returns-in-Ok-clause-done
returns-in-Ok-clause-done g c = λ truth acting acts willing epoch.
    let stored_core = c.args.stored_core.now in
    let name = acting.world.state.head.name in
    let there = acts.served.state_is in
    let rises = c.in-Ok.ensures.store acting.world.state there in
    let spends = rises.due acts.stored.log acts.stored.stood in
    let fits = c.ranges.epoch.fits in
    let not_last : (acting.world.state.head.epoch == last_epoch) ≡ false = grind (arith, nat_tests, epoch, fits) in
    let due : acting.due ≡ false = sym acts.served.due_is ∙ not_due (g.S.RowLog.keeping.is_due stored_core.store name) spends.1 in
    let own = c.as_str-name.result.now in
    let text = left_here own acting.world.state.transactions ++ (start_text own c.args.epoch ++ flat_map (row_text own) c.rows.result.now) in
    let opening = c.in_ok-print_opening.ensures acting.world.state there ∙ ap (λ (t : List ℕ). t ++ text) c.new-opening.ensures.bytes in
    let said = said_anew acting c.as_str-name.result.now c.args.epoch c.rows.result.now (c.as_str-name.ensures.same ∙ acts.own.name) due epoch (c.rows.ensures.same ∙ willing) in
    renews_so g.S.RowLog.keeping stored_core c.renew.new.self c.args.place c.args.actor.now _ acting acts rises.rows spends.0 c.args.recovery willing (c.in-Ok.ensures.renewed acting.world.state there) spends.1 not_last c.renew.ensures.others c.in-Ok.ensures.names
    refl c.clear.ensures.items refl refl (string_bytes c.args.printed.now) (string_bytes c.push_str.new.self)
    (c.in_ok-push_str-in-Ok.ensures.bytes ∙ ap (λ t. string_bytes c.args.printed.now ++ t) (c.deref.ensures ∙ opening ∙ said))

pub returns-in-Err-NotRaised-default-clause-done : goal.returns-in-Err-NotRaised-default-clause-done
returns-in-Err-NotRaised-default-clause-done g c = λ truth acting acts willing epoch.
    let stored_core = c.args.stored_core.now in
    let name = acting.world.state.head.name in
    let rises = c.in-Err-NotRaised-default.ensures.store acting.world.state acts.served.state_is in
    let spent = subst (λ fault. SpendsFor fault name (g.S.RowLog.keeping.is_due stored_core.store) (g.S.RowLog.keeping.is_due c.renew.new.self.store)) c.in-Err-NotRaised-default.field-0-0-is (rises.due acts.stored.log acts.stored.stood) in
    refuses_so g.S.RowLog.keeping stored_core c.renew.new.self c.args.place c.args.actor.now _ acting acts rises.rows spent c.in-Err-NotRaised-default.ensures.same c.if-actor.true
    refl refl refl refl (string_bytes c.args.printed.now) (string_bytes c.print_refusal.new.printed) (c.in_ok-print_refusal-in-Err-NotRaised-default.ensures ∙ ap (λ n. string_bytes c.args.printed.now ++ refusal_text n Refused) c.as_str.ensures.same)

pub returns-clause-blames : goal.returns-clause-blames
returns-clause-blames g c = λ acting acts runs willing truth is.
    let kept = g.S.RowLog.keeping in
    not_renewed kept c.args.stored_core.now.store c.renew.new.self.store acting c.args.recovery c.in-Err.fault willing (λ stopped. false≢true (sym runs ∙ c.in-Err.ensures.stopping.0 stopped))
    (c.in-Err.ensures.store acting.world.state acts.served.state_is).counts (λ log stood now. c.in-Err.ensures.reason log acting.world.state stood acts.served.state_is now) (ap of_renew_fault (sym c.in-Err.fault-is) ∙ sym c.from.ensures ∙ err_same is)

-- However far it has come

pub returns-in_err-push_str-in-Ok-clause-halts : goal.returns-in_err-push_str-in-Ok-clause-halts
returns-in_err-push_str-in-Ok-clause-halts g c = λ acting acts epoch.
    let stored_core = c.args.stored_core.now in
    let rises = c.in-Ok.ensures.store acting.world.state acts.served.state_is in
    let spends = rises.due acts.stored.log acts.stored.stood in
    let fits = c.ranges.epoch.fits in
    let not_last : (acting.world.state.head.epoch == last_epoch) ≡ false = grind (arith, nat_tests, epoch, fits) in
    let due : acting.due ≡ false = sym acts.served.due_is ∙ not_due (g.S.RowLog.keeping.is_due stored_core.store acting.world.state.head.name) spends.1 in
    halts_renewed g.S.RowLog.keeping stored_core c.renew.new.self c.args.place c.args.actor.now c.args.actor.now acting acts rises.rows spends.0 due not_last c.renew.ensures.others

pub returns-in-Ok-clause-halts : goal.returns-in-Ok-clause-halts
returns-in-Ok-clause-halts g c = λ acting acts epoch.
    let stored_core = c.args.stored_core.now in
    let rises = c.in-Ok.ensures.store acting.world.state acts.served.state_is in
    let spends = rises.due acts.stored.log acts.stored.stood in
    let fits = c.ranges.epoch.fits in
    let not_last : (acting.world.state.head.epoch == last_epoch) ≡ false = grind (arith, nat_tests, epoch, fits) in
    let due : acting.due ≡ false = sym acts.served.due_is ∙ not_due (g.S.RowLog.keeping.is_due stored_core.store acting.world.state.head.name) spends.1 in
    halts_renewed g.S.RowLog.keeping stored_core c.renew.new.self c.args.place c.args.actor.now c.args.actor.now acting acts rises.rows spends.0 due not_last c.renew.ensures.others

pub returns-in_err-print_refusal-in-Err-NotRaised-default-clause-halts : goal.returns-in_err-print_refusal-in-Err-NotRaised-default-clause-halts
returns-in_err-print_refusal-in-Err-NotRaised-default-clause-halts g c = λ acting acts epoch.
    let stored_core = c.args.stored_core.now in
    let rises = c.in-Err-NotRaised-default.ensures.store acting.world.state acts.served.state_is in
    not_begun g.S.RowLog.keeping stored_core c.renew.new.self.store c.args.place c.args.actor.now acting (around (Some (renewed acting.due acting)) acting) refl acts (all_stood g.S.RowLog.keeping stored_core.store c.renew.new.self.store rises.rows)

pub returns-in-Err-NotRaised-default-clause-halts : goal.returns-in-Err-NotRaised-default-clause-halts
returns-in-Err-NotRaised-default-clause-halts g c = λ acting acts epoch.
    let stored_core = c.args.stored_core.now in
    let rises = c.in-Err-NotRaised-default.ensures.store acting.world.state acts.served.state_is in
    not_begun g.S.RowLog.keeping stored_core c.renew.new.self.store c.args.place c.args.actor.now acting (around (Some (renewed acting.due acting)) acting) refl acts (all_stood g.S.RowLog.keeping stored_core.store c.renew.new.self.store rises.rows)

pub returns-clause-halts : goal.returns-clause-halts
returns-clause-halts g c = λ acting acts epoch.
    let stored_core = c.args.stored_core.now in
    let rises = c.in-Err.ensures.store acting.world.state acts.served.state_is in
    not_begun g.S.RowLog.keeping stored_core c.renew.new.self.store c.args.place c.args.actor.now acting (around (Some (renewed acting.due acting)) acting) refl acts (all_stood g.S.RowLog.keeping stored_core.store c.renew.new.self.store rises.rows)
