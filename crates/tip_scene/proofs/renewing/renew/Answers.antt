-- A realm in its last epoch, and one that starts again by what is stored of it.
use Rattle.std.proofs.Common.{◌≡◌, ◌<◌, ◌∙◌, ◌++◌, Err, List, Some, true, ap, arith, refl, sym, length, map, rules, string_bytes, subst}
use Rattle.std.specs.Prelude.{option_map, slice_get}
use Rattle.std.proofs.lemmas.Bool.{false≢true}
use Rattle.std.proofs.lemmas.Result.{err_from_is_err_and, on_ok_weaker}
use Rattle.tip_actor.specs.Acting.{renews, willing_boxes}
use Rattle.tip_actor.specs.Standing.{IsActing, IsDone}
use Rattle.tip_line.specs.declared.refusal.Refusal.TheVariants.{EpochEnd}
use Rattle.tip_machine.specs.States.{State}
use Rattle.tip_recovery.specs.Adopting.{Unfinished, are_for_all}
use Rattle.tip_rows.specs.Logs.{Log}
use Rattle.tip_transcript.specs.Printing.{refusal_text}
use Rattle.tip_scene.specs.Boxes.{boxes_for, row_count}
use Rattle.tip_scene.proofs.Blaming.{counts_all, err_same, fits_all, not_read, renews_since}
use Rattle.tip_actor.proofs.Halting.{all_stood, not_begun}
use Rattle.tip_actor.specs.Halting.{around}
use Rattle.tip_scene.proofs.Renewed.{acts_still, at_its_end, for_each, has_willing, leaves_still, not_last, read_rows, renews_all, renews_so_far, was_last}
use Rattle.tip_scene.proofs.renewing.renew.Goals as goal

pub returns-in_default-clause-acts : goal.returns-in_default-clause-acts
returns-in_default-clause-acts g c = λ truth acting acts.
    let there = c.heads.ensures c.args.place ∙ ap (option_map (λ (state : State). state.head)) acts.served.state_is in
    at_its_end g.S.RowLog.keeping c.args.stored_core.now c.args.place c.args.actor.now acting acts (string_bytes c.args.printed.now) (string_bytes c.print_refusal.new.printed)
    (was_last acting.world.state.head (slice_get c.heads.result.now c.args.place) c.next_epoch.result there c.next_epoch.ensures c.in_default.is)
    (c.in_ok-print_refusal.ensures ∙ ap (λ n. string_bytes c.args.printed.now ++ refusal_text n EpochEnd) c.as_str.ensures.same)

pub returns-clause-truth : goal.returns-clause-truth
returns-clause-truth g c = λ truth. c.doubts.ensures.store.truth (c.renew_by.ensures.truth truth)

pub returns-clause-acts : goal.returns-clause-acts
returns-clause-acts g c = λ truth.
    let stored_core = c.args.stored_core.now in
    let mid = c.doubts.new.self in
    let goes = c.doubts.ensures.store in
    let stood : (log : Log) → g.S.RowLog.keeping.stands stored_core.store log → g.S.RowLog.keeping.stands mid.store log = λ log was. (let way = goes.rows log was in subst (g.S.RowLog.keeping.stands mid.store) way.1 way.2) in
    let fits : c.adopt_all.result ≡ true = search rules in
    let mid_true = c.renew_by.ensures.truth truth in
    for_each (IsActing g.S.RowLog.keeping stored_core c.args.place c.args.actor.now) (λ acting. IsDone g.S.RowLog.keeping stored_core c.renew_by.new.stored_core c.args.place c.args.actor.now c.renew_by.new.actor (string_bytes c.args.printed.now) (string_bytes c.renew_by.new.printed) (renews acting)) c.renew_by.result (λ acting acts.
    let there = c.heads.ensures c.args.place ∙ ap (option_map (λ (state : State). state.head)) acts.served.state_is in
    let next = not_last acting.world.state.head (slice_get c.heads.result.now c.args.place) c.next_epoch.result there c.next_epoch.ensures c.in-Some.epoch c.in-Some.is in
    let due : (name : List _) → g.S.RowLog.keeping.is_due mid.store name ≡ g.S.RowLog.keeping.is_due stored_core.store name = goes.due acts.stored.log acts.stored.stood in
    let read = read_rows acts.stored.log acting.world.state.head.name acting.world.state.head.epoch acting.world.rows c.in_ok-recovery.recovery acts.stored.part (c.in_ok-recovery.ensures.read acts.stored.log acting.world.state acts.stored.stood acts.served.state_is mid_true) in
    let lots = c.in_ok-lots.ensures.dealt ∙ ap (map (λ (row : Unfinished). willing_boxes row.row)) c.rows.ensures.same in
    let willing = has_willing acting acting.world.state.head.name c.in_ok-recovery.recovery.rows c.adopt_all.new.self.rows c.in_ok-lots.lots.items acts.named read lots (c.adopt_all.ensures.adopted fits) in
    on_ok_weaker c.renew_by.result (λ done. renews_all g.S.RowLog.keeping stored_core c.args.place c.args.actor.now acting acts mid c.renew_by.new.stored_core c.renew_by.new.actor (string_bytes c.args.printed.now) (string_bytes c.renew_by.new.printed) next.1 (leaves_still g.S.RowLog.keeping stored_core mid c.doubts.ensures.core stood due c.args.place c.args.actor.now.name) done)
    (c.renew_by.ensures.done truth acting (acts_still g.S.RowLog.keeping stored_core mid c.doubts.ensures.core stood due c.args.place c.args.actor.now acting acts) willing next.0))

pub returns-in_err-recovery-clause-blames : goal.returns-in_err-recovery-clause-blames
returns-in_err-recovery-clause-blames g c = λ acting acts enough runs truth.
    let e = err_from_is_err_and c.from_residual-in_err-recovery.result c.from_residual-in_err-recovery.ensures.1 in
    let kept = g.S.RowLog.keeping in
    let log = acts.stored.log in
    rw (e.1, e.2) (λ is. not_read kept c.args.stored_core.now.store c.doubts.new.self.store acting c.in_err-recovery.field-0.0 c.in_err-recovery.ensures.store.counts (λ log stood now. c.in_err-recovery.ensures.reason log acting.world.state stood acts.served.state_is now) (err_same is) truth (acts.stored.log, acts.stored.stood))

pub returns-in_err-lots-clause-blames : goal.returns-in_err-lots-clause-blames
returns-in_err-lots-clause-blames g c = λ acting acts enough runs truth.
    let e = err_from_is_err_and c.from_residual-in_err-lots.result c.from_residual-in_err-lots.ensures.1 in
    let read = read_rows acts.stored.log acting.world.state.head.name acting.world.state.head.epoch acting.world.rows c.in_ok-recovery.recovery acts.stored.part (c.in_ok-recovery.ensures.read acts.stored.log acting.world.state acts.stored.stood acts.served.state_is truth) in
    rw (e.1, e.2) (λ is.
    let few : length c.args.pool.now.items < boxes_for acting.world.rows = subst (λ n. length c.args.pool.now.items < n) (ap row_count c.rows.ensures.same ∙ counts_all acting.world.state.head.name c.in_ok-recovery.recovery.rows acting.world.rows read) (c.in_err-lots.ensures.few (ap Err (err_same is))) in
    absurd (omega (arith, enough, few)))

pub returns-then-not-adopt_all-clause-blames : goal.returns-then-not-adopt_all-clause-blames
returns-then-not-adopt_all-clause-blames g c = λ acting acts enough runs truth is.
    let read = read_rows acts.stored.log acting.world.state.head.name acting.world.state.head.epoch acting.world.rows c.in_ok-recovery.recovery acts.stored.part (c.in_ok-recovery.ensures.read acts.stored.log acting.world.state acts.stored.stood acts.served.state_is truth) in
    let lots = c.in_ok-lots.ensures.dealt ∙ ap (map (λ (row : Unfinished). willing_boxes row.row)) c.rows.ensures.same in
    let fits : c.adopt_all.result ≡ true = c.adopt_all.ensures.fits ∙ ap (λ boxes. are_for_all boxes c.in_ok-recovery.recovery.rows) lots ∙ fits_all acting.world.state.head.name c.in_ok-recovery.recovery.rows acting.world.rows read in
    absurd (false≢true (sym c.if-not-adopt_all.true ∙ fits))

pub returns-clause-blames : goal.returns-clause-blames
returns-clause-blames g c = λ acting acts enough runs truth is.
    let kept = g.S.RowLog.keeping in
    let stored_core = c.args.stored_core.now in
    let mid = c.doubts.new.self in
    let goes = c.doubts.ensures.store in
    let stood : (log : Log) → kept.stands stored_core.store log → kept.stands mid.store log = λ log was. (let way = goes.rows log was in subst (kept.stands mid.store) way.1 way.2) in
    let fits : c.adopt_all.result ≡ true = search rules in
    let mid_true = c.renew_by.ensures.truth truth in
    let due : (name : List _) → kept.is_due mid.store name ≡ kept.is_due stored_core.store name = goes.due acts.stored.log acts.stored.stood in
    let read = read_rows acts.stored.log acting.world.state.head.name acting.world.state.head.epoch acting.world.rows c.in_ok-recovery.recovery acts.stored.part (c.in_ok-recovery.ensures.read acts.stored.log acting.world.state acts.stored.stood acts.served.state_is mid_true) in
    let lots = c.in_ok-lots.ensures.dealt ∙ ap (map (λ (row : Unfinished). willing_boxes row.row)) c.rows.ensures.same in
    let willing = has_willing acting acting.world.state.head.name c.in_ok-recovery.recovery.rows c.adopt_all.new.self.rows c.in_ok-lots.lots.items acts.named read lots (c.adopt_all.ensures.adopted fits) in
    renews_since kept stored_core.store mid.store c.renew_by.new.stored_core.store acting c.in_ok-recovery.ensures.store.counts stood
    (c.renew_by.ensures.blames acting (acts_still kept stored_core mid c.doubts.ensures.core stood due c.args.place c.args.actor.now acting acts) (c.doubts.ensures.stopped ∙ runs) willing truth is)

-- However far it has come

pub returns-in_err-recovery-clause-halts : goal.returns-in_err-recovery-clause-halts
returns-in_err-recovery-clause-halts g c = λ acting acts.
    let stored_core = c.args.stored_core.now in
    let mid = c.doubts.new.self in
    not_begun g.S.RowLog.keeping stored_core mid.store c.args.place c.args.actor.now acting (around (Some (renews acting)) acting) refl acts (all_stood g.S.RowLog.keeping stored_core.store mid.store (λ log was. (let way = c.doubts.ensures.store.rows log was in subst (g.S.RowLog.keeping.stands mid.store) way.1 way.2)))

pub returns-in_err-lots-clause-halts : goal.returns-in_err-lots-clause-halts
returns-in_err-lots-clause-halts g c = λ acting acts.
    let stored_core = c.args.stored_core.now in
    let mid = c.doubts.new.self in
    not_begun g.S.RowLog.keeping stored_core mid.store c.args.place c.args.actor.now acting (around (Some (renews acting)) acting) refl acts (all_stood g.S.RowLog.keeping stored_core.store mid.store (λ log was. (let way = c.doubts.ensures.store.rows log was in subst (g.S.RowLog.keeping.stands mid.store) way.1 way.2)))

pub returns-then-not-adopt_all-clause-halts : goal.returns-then-not-adopt_all-clause-halts
returns-then-not-adopt_all-clause-halts g c = λ acting acts.
    let stored_core = c.args.stored_core.now in
    let mid = c.doubts.new.self in
    not_begun g.S.RowLog.keeping stored_core mid.store c.args.place c.args.actor.now acting (around (Some (renews acting)) acting) refl acts (all_stood g.S.RowLog.keeping stored_core.store mid.store (λ log was. (let way = c.doubts.ensures.store.rows log was in subst (g.S.RowLog.keeping.stands mid.store) way.1 way.2)))

pub returns-clause-halts : goal.returns-clause-halts
returns-clause-halts g c = λ acting acts.
    let stored_core = c.args.stored_core.now in
    let mid = c.doubts.new.self in
    let goes = c.doubts.ensures.store in
    let stood : (log : Log) → g.S.RowLog.keeping.stands stored_core.store log → g.S.RowLog.keeping.stands mid.store log = λ log was. (let way = goes.rows log was in subst (g.S.RowLog.keeping.stands mid.store) way.1 way.2) in
    let there = c.heads.ensures c.args.place ∙ ap (option_map (λ (state : State). state.head)) acts.served.state_is in
    let next = not_last acting.world.state.head (slice_get c.heads.result.now c.args.place) c.next_epoch.result there c.next_epoch.ensures c.in-Some.epoch c.in-Some.is in
    let due : (name : List _) → g.S.RowLog.keeping.is_due mid.store name ≡ g.S.RowLog.keeping.is_due stored_core.store name = goes.due acts.stored.log acts.stored.stood in
    renews_so_far g.S.RowLog.keeping stored_core c.args.place c.args.actor.now acting acts mid c.renew_by.new.stored_core.store next.1 (all_stood g.S.RowLog.keeping stored_core.store mid.store stood)
    (c.renew_by.ensures.halts acting (acts_still g.S.RowLog.keeping stored_core mid c.doubts.ensures.core stood due c.args.place c.args.actor.now acting acts) next.0)
