-- Not where an epoch is the last one; else all start again.
use Rattle.std.proofs.Common.{◌≡◌, ◌<◌, ◌∙◌, None, ap, arith, false, length, string_bytes, subst, sym}
use Rattle.std.specs.List.{list_any}
use Rattle.tip_actor.specs.Acting.{is_at_end}
use Rattle.tip_actor.specs.Faults.{of_load_fault}
use Rattle.tip_scene.specs.Acts.{Playing}
use Rattle.tip_scene.specs.Boxes.{box_count}
use Rattle.tip_scene.specs.Standing.{IsScene}
use Rattle.tip_scene.proofs.Again.{any_at_end, new_again, starts_again, stays_put, wait_again}
use Rattle.tip_scene.specs.Leaving.{OthersStay}
use Rattle.tip_stored.specs.Loading.{names_of}
use Rattle.tip_scene.proofs.Halting.{not_at_work, not_loaded, not_started}
use Rattle.tip_scene.proofs.Leaving.{rest_again, start_leaves}
use Rattle.tip_scene.proofs.Blaming.{act_known, act_memory, act_store, boxes_again, specs_again, start_blamed, start_spares}
use Rattle.tip_scene.proofs.restarting.restart.Goals as goal

pub returns-then-is_any_at_end-clause-moves : goal.returns-then-is_any_at_end-clause-moves
returns-then-is_any_at_end-clause-moves g c = λ scene is truth. stays_put scene (string_bytes c.args.printed.now) (sym (any_at_end g.S.RowLog.keeping c.args.playing.stored_core c.args.playing.actors.items scene c.heads.result.now is c.heads.ensures) ∙ sym c.is_any_at_end.ensures ∙ c.if-is_any_at_end.true)

pub returns-in-Ok-rise_again-clause-truth : goal.returns-in-Ok-rise_again-clause-truth
returns-in-Ok-rise_again-clause-truth g c = λ truth. c.in-Ok-restart.ensures.ok.truth (subst g.S.RowLog.keeping.is_true c.in-Ok-rise_again.ensures.store truth)

pub returns-in-Ok-rise_again-clause-moves : goal.returns-in-Ok-rise_again-clause-moves
returns-in-Ok-rise_again-clause-moves g c = λ scene is truth.
    let stored_core = c.args.playing.stored_core in
    let actors = c.args.playing.actors.items in
    let none : list_any is_at_end scene ≡ false = sym (any_at_end g.S.RowLog.keeping stored_core actors scene c.heads.result.now is c.heads.ensures) ∙ sym c.is_any_at_end.ensures ∙ c.if-is_any_at_end.false in
    let waiting = wait_again g.S.RowLog.keeping stored_core actors scene c.in-Ok.specs.items c.in-Ok-restart.recovering is c.in-Ok.ensures.specs c.in-Ok-restart.ensures (subst g.S.RowLog.keeping.is_true c.in-Ok-rise_again.ensures.store truth) in
    let again = new_again g.S.RowLog.keeping stored_core actors scene is in
    starts_again g.S.RowLog.keeping c.in-Ok-rise_again.playing.stored_core c.in-Ok-rise_again.playing.actors.items scene (string_bytes c.args.printed.now) (string_bytes c.leave.new.printed) (string_bytes c.rise_again.new.printed) none
    (c.in-Ok.ensures.text scene (subst (λ l. IsScene g.S.RowLog.keeping stored_core l scene) (sym c.deref.ensures.value) is)) (c.in-Ok-rise_again.ensures.text _ again waiting) (c.in-Ok-rise_again.ensures.scene _ again waiting)

pub returns-in-Err-rise_again-clause-blames : goal.returns-in-Err-rise_again-clause-blames
returns-in-Err-rise_again-clause-blames g c = λ scene is enough same truth.
    let waiting = wait_again g.S.RowLog.keeping c.args.playing.stored_core c.args.playing.actors.items scene c.in-Ok.specs.items c.in-Ok-restart.recovering is c.in-Ok.ensures.specs c.in-Ok-restart.ensures (subst g.S.RowLog.keeping.is_true c.in-Err-rise_again.ensures.back truth) in
    let few : length c.args.pool.now.items < box_count None scene = subst (λ n. length c.args.pool.now.items < n) (boxes_again scene) (c.in-Err-rise_again.ensures.few _ waiting (act_store c.in-Err-rise_again.fault (sym c.from.ensures ∙ same))) in
    absurd (omega (arith, enough, few))

pub returns-in-Err-restart-clause-blames : goal.returns-in-Err-restart-clause-blames
returns-in-Err-restart-clause-blames g c = λ scene is enough same truth.
    start_blamed g.S.RowLog.keeping c.args.playing.stored_core.store c.in-Err-restart.store (Playing scene) c.in-Ok.specs.items (specs_again g.S.RowLog.keeping c.args.playing.stored_core c.args.playing.actors.items scene c.in-Ok.specs.items is c.in-Ok.ensures.specs) c.in-Err-restart.fault c.in-Err-restart.ensures.err.counts c.in-Err-restart.ensures.reason
    (ap of_load_fault (sym c.in-Err-restart.fault-is) ∙ sym c.from-in-Err-restart.ensures ∙ act_store c.from-in-Err-restart.result (sym c.from-in-Err-restart-2.ensures ∙ same))

pub returns-in-Ok-rise_again-clause-leaves : goal.returns-in-Ok-rise_again-clause-leaves
returns-in-Ok-rise_again-clause-leaves g c = λ scene is truth.
    let kept = g.S.RowLog.keeping in
    let stored_core = c.args.playing.stored_core in
    let actors = c.args.playing.actors.items in
    let risen = subst kept.is_true c.in-Ok-rise_again.ensures.store truth in
    let waiting = wait_again kept stored_core actors scene c.in-Ok.specs.items c.in-Ok-restart.recovering is c.in-Ok.ensures.specs c.in-Ok-restart.ensures risen in
    rest_again kept c.args.playing c.in-Ok-rise_again.playing scene is (c.in-Ok-rise_again.ensures.scene _ (new_again kept stored_core actors scene is) waiting)
    (λ names. subst (OthersStay kept 1 names stored_core.store) (sym c.in-Ok-rise_again.ensures.store) (start_leaves kept c.in-Ok.specs.items stored_core.store c.in-Ok-restart.recovering names c.in-Ok-restart.ensures risen))

-- Nothing was asked of the store

pub returns-then-is_any_at_end-clause-stays : goal.returns-then-is_any_at_end-clause-stays
returns-then-is_any_at_end-clause-stays g c = λ is. c.shut.ensures

pub returns-in-Err-rise_again-clause-stays : goal.returns-in-Err-rise_again-clause-stays
returns-in-Err-rise_again-clause-stays g c = λ is. absurd (act_known c.in-Err-rise_again.fault (sym c.from.ensures ∙ is))

pub returns-in-Err-restart-clause-stays : goal.returns-in-Err-restart-clause-stays
returns-in-Err-restart-clause-stays g c = λ is. absurd (act_known c.from-in-Err-restart.result (sym c.from-in-Err-restart-2.ensures ∙ is))

-- They have not started again

pub returns-then-is_any_at_end-clause-halts : goal.returns-then-is_any_at_end-clause-halts
returns-then-is_any_at_end-clause-halts g c = not_started g.S.RowLog.keeping c.args.playing.stored_core.store c.shut.result c.shut.ensures

pub returns-in-Err-clause-halts : goal.returns-in-Err-clause-halts
returns-in-Err-clause-halts g c = not_started g.S.RowLog.keeping c.args.playing.stored_core.store c.shut-in-Err.result c.shut-in-Err.ensures

pub returns-in-Err-rise_again-clause-halts : goal.returns-in-Err-rise_again-clause-halts
returns-in-Err-rise_again-clause-halts g c = not_at_work g.S.RowLog.keeping (names_of c.in-Ok.specs.items) false c.args.playing.stored_core.store c.in-Ok-restart.recovering.store c.in-Err-rise_again.store c.in-Ok-restart.ensures.ok c.in-Err-rise_again.ensures.back

pub returns-in-Err-restart-clause-halts : goal.returns-in-Err-restart-clause-halts
returns-in-Err-restart-clause-halts g c = not_loaded g.S.RowLog.keeping (names_of c.in-Ok.specs.items) _ c.args.playing.stored_core.store c.in-Err-restart.store c.in-Err-restart.ensures.err

-- Memory has ended, and nothing was refused

pub returns-in-Err-clause-spares : goal.returns-in-Err-clause-spares
returns-in-Err-clause-spares g c = λ short. ap g.S.RowLog.keeping.faults c.shut-in-Err.ensures

pub returns-in-Err-rise_again-clause-spares : goal.returns-in-Err-rise_again-clause-spares
returns-in-Err-rise_again-clause-spares g c = λ short. ap g.S.RowLog.keeping.faults c.in-Err-rise_again.ensures.back ∙ c.in-Ok-restart.ensures.ok.counts

pub returns-in-Err-restart-clause-spares : goal.returns-in-Err-restart-clause-spares
returns-in-Err-restart-clause-spares g c = λ short. start_spares g.S.RowLog.keeping c.args.playing.stored_core.store c.in-Err-restart.store c.in-Err-restart.fault c.in-Err-restart.ensures.err.counts
    (ap of_load_fault (sym c.in-Err-restart.fault-is) ∙ sym c.from-in-Err-restart.ensures ∙ act_memory c.from-in-Err-restart.result (sym c.from-in-Err-restart-2.ensures ∙ short))
