-- A realm that is to start again, and one that is not there.
use Rattle.std.proofs.Common.{◌≡◌, ◌∙◌, Err, Some, ap, arith, inl, refl, string_bytes, subst, sym, true}
use Rattle.std.proofs.lemmas.Result.{on_ok_weaker}
use Rattle.tip_actor.proofs.Lists.{none_at, partner, some_at}
use Rattle.tip_script.specs.Scripts.{Renew}
use Rattle.tip_transcript.specs.Printing.{nowhere_text}
use Rattle.std.specs.Prelude.{Ok, OnOk}
use Rattle.std.specs.Str.{bytes_eq}
use Rattle.std.specs.Vec.{with_item}
use Rattle.tip_actor.specs.Acting.{renews}
use Rattle.tip_scene.specs.Acts.{Playing}
use Rattle.tip_scene.specs.Leaving.{LeavesRest}
use Rattle.tip_scene.proofs.Halting.{halts_doing, halts_taking, none_of_it}
use Rattle.tip_scene.proofs.Leaving.{judged_on, rest_done, rest_stays}
use Rattle.tip_scene.specs.Scenes.{moved_in}
use Rattle.tip_scene.specs.Stages.{APlaying, Serves}
use Rattle.tip_scene.proofs.Blaming.{act_known, act_store, blamed_at_fault, blamed_for, blamed_not, blamed_spares, err_same, judged_counts, judged_not, judged_refused, judged_spares, renew_blamed, serves_judged, serves_not, serves_when}
use Rattle.tip_scene.proofs.Places.{passes_at}
use Rattle.tip_scene.proofs.Scening.{has_moved, moved_elsewhere}
use Rattle.tip_scene.proofs.Wanting.{enough_for_one}
use Rattle.tip_scene.specs.Standing.{has_name}
use Rattle.tip_scene.proofs.playing.Playing+StoredCore+S+Actor.renew.Goals as goal

pub returns-in_default-clause-serves : goal.returns-in_default-clause-serves
returns-in_default-clause-serves g c = λ scene is truth.
    moved_elsewhere g.S.RowLog.keeping c.args.self.now scene (Renew c.args.name.now) c.args.name.now c.place_of-place.result (string_bytes c.args.printed.now) (string_bytes c.print_nowhere.new.printed) (Ok tt) is
    (c.place_of-place.ensures scene is) (none_at c.args.self.now.actors.items c.place_of-place.result c.in_default.ensures.item.3) (nowhere_text c.args.name.now, refl, c.in_ok-print_nowhere.ensures)

pub returns-clause-truth : goal.returns-clause-truth
returns-clause-truth g c = λ truth. c.renew.ensures.truth (c.settle-end.ensures.truth truth)

pub returns-clause-serves : goal.returns-clause-serves
returns-clause-serves g c = λ scene is truth.
    let actors = c.args.self.now.actors.items in
    let place = c.place_of-place.result in
    let actor = c.in-Some.actor.now in
    let playing : APlaying g.row.S.Denot = record { stored_core = c.settle-end.new.stored_core; actors = with_item c.args.self.now.actors place c.settle-end.new.actor; by_name = c.args.self.now.by_name } in
    let moved = moved_in (Renew c.args.name.now) (Some c.args.name.now) scene in
    subst (Serves g.S.RowLog.keeping (string_bytes c.args.printed.now) (string_bytes c.settle-end.new.printed) moved playing) (sym c.judge.ensures)
    (serves_judged g.S.RowLog.keeping _ _ moved playing _ _ c.settle-end.result (serves_when g.S.RowLog.keeping _ _ moved playing c.settle-end.result c.settle-end.ensures.understood c.settle-end.ensures.acts (λ settles.
    has_moved g.S.RowLog.keeping c.args.self.now.stored_core c.renew.new.stored_core c.settle-end.new.stored_core actors scene (Renew c.args.name.now) c.args.name.now place actor c.renew.new.actor c.settle-end.new.actor (string_bytes c.args.printed.now) (string_bytes c.renew.new.printed) (string_bytes c.settle-end.new.printed) is
    (c.place_of-place.ensures scene is) (some_at actors place actor c.in-Some.ensures.item.3.0 c.in-Some.ensures.item.3.1)
    (c.in-Ok.ensures.acts (c.settle-end.ensures.truth truth))
    settles)))

pub returns-in-Err-clause-serves : goal.returns-in-Err-clause-serves
returns-in-Err-clause-serves g c = λ scene is truth.
    let playing : APlaying g.row.S.Denot = record { stored_core = c.renew.new.stored_core; actors = with_item c.args.self.now.actors c.place_of-place.result c.renew.new.actor; by_name = c.args.self.now.by_name } in
    serves_not g.S.RowLog.keeping (string_bytes c.args.printed.now) (string_bytes c.renew.new.printed) (moved_in (Renew c.args.name.now) (Some c.args.name.now) scene) playing c.blamed.result (λ bad. act_known c.in-Err.fault (sym c.from.ensures ∙ blamed_not _ _ c.from.result (sym c.blamed.ensures ∙ bad)))

pub returns-in-Err-clause-blames : goal.returns-in-Err-clause-blames
returns-in-Err-clause-blames g c = λ may scene is enough truth bad.
    let kept = g.S.RowLog.keeping in
    let actors = c.args.self.now.actors.items in
    let place = c.place_of-place.result in
    let actor = c.in-Some.actor.now in
    let here = some_at actors place actor c.in-Some.ensures.item.3.0 c.in-Some.ensures.item.3.1 in
    let mate = partner actors scene place actor is.count here in
    let acts = is.each place actor mate.0 here mate.1 in
    let named = subst (λ n. bytes_eq n c.args.name.now ≡ true) acts.own.name (passes_at (has_name c.args.name.now) actors place actor (c.place_of-place.ensures scene is) here) in
    let one = enough_for_one c.args.name.now scene place mate.0 mate.1 named in
    let old = c.args.self.now.stored_core.store in
    let new = c.renew.new.stored_core.store in
    blamed_at_fault kept old new (Playing scene) c.from.result
    (blamed_for kept old new _ _ _ (c.may_refuse-may.ensures ∙ may) c.faults-before.ensures c.faults-after.ensures c.from.result (sym c.blamed.ensures ∙ err_same bad))
    (λ store. renew_blamed kept old new scene place mate.0 mate.1
    (c.in-Err.ensures.blames mate.0 acts (omega (arith, enough, one)) c.requires.running truth (ap Err (act_store c.in-Err.fault (sym c.from.ensures ∙ store)))))

pub returns-in-Err-clause-spared : goal.returns-in-Err-clause-spared
returns-in-Err-clause-spared g c = λ may short. blamed_spares g.S.RowLog.keeping c.args.self.now.stored_core.store c.renew.new.stored_core.store _ _ _ (c.may_refuse-may.ensures ∙ may) c.faults-before.ensures c.faults-after.ensures c.from.result (sym c.blamed.ensures ∙ err_same short)

pub returns-clause-spared : goal.returns-clause-spared
returns-clause-spared g c = λ may short. judged_spares g.S.RowLog.keeping c.args.self.now.stored_core.store c.settle-end.new.stored_core.store _ _ _ c.settle-end.result (c.may_refuse-may.ensures ∙ may) c.faults-before.ensures c.faults.ensures (sym c.judge.ensures ∙ short)

pub returns-clause-counts : goal.returns-clause-counts
returns-clause-counts g c = λ may. judged_counts g.S.RowLog.keeping c.args.self.now.stored_core.store c.settle-end.new.stored_core.store _ _ _ c.settle-end.result c.judge.result (c.may_refuse-may.ensures ∙ may) c.faults-before.ensures c.faults.ensures c.judge.ensures

pub returns-clause-blames : goal.returns-clause-blames
returns-clause-blames g c = λ may scene is enough truth bad. inl (judged_refused g.S.RowLog.keeping c.args.self.now.stored_core.store c.settle-end.new.stored_core.store _ _ _ c.settle-end.result (c.may_refuse-may.ensures ∙ may) c.faults-before.ensures c.faults.ensures (sym c.judge.ensures ∙ bad))

pub returns-in_default-clause-leaves : goal.returns-in_default-clause-leaves
returns-in_default-clause-leaves g c = λ scene is truth. rest_stays g.S.RowLog.keeping c.args.self.now

pub returns-clause-leaves : goal.returns-clause-leaves
returns-clause-leaves g c = λ scene is truth.
    let kept = g.S.RowLog.keeping in
    let actors = c.args.self.now.actors.items in
    let place = c.place_of-place.result in
    let actor = c.in-Some.actor.now in
    let playing : APlaying g.row.S.Denot = record { stored_core = c.settle-end.new.stored_core; actors = with_item c.args.self.now.actors place c.settle-end.new.actor; by_name = c.args.self.now.by_name } in
    subst (λ r. OnOk r (LeavesRest kept c.args.self.now playing)) (sym c.judge.ensures) (judged_on kept _ _ _ c.settle-end.result (on_ok_weaker c.settle-end.result (λ settles.
    rest_done kept c.args.self.now playing c.renew.new.stored_core scene place actor c.renew.new.actor c.settle-end.new.actor (string_bytes c.args.printed.now) (string_bytes c.renew.new.printed) (string_bytes c.settle-end.new.printed) (λ acting. Some (renews acting)) is
    (some_at actors place actor c.in-Some.ensures.item.3.0 c.in-Some.ensures.item.3.1) refl
    (c.in-Ok.ensures.acts (c.settle-end.ensures.truth truth)) settles) c.settle-end.ensures.acts))

-- The line stands here

pub returns-in-Err-clause-understood : goal.returns-in-Err-clause-understood
returns-in-Err-clause-understood g c = λ is. act_known c.in-Err.fault (sym c.from.ensures ∙ blamed_not _ _ c.from.result (sym c.blamed.ensures ∙ err_same is))

pub returns-clause-understood : goal.returns-clause-understood
returns-clause-understood g c = λ is. c.settle-end.ensures.understood (judged_not _ _ c.settle-end.result (sym c.judge.ensures ∙ is))

-- However far it has come

pub returns-in_err-print_nowhere-clause-halts : goal.returns-in_err-print_nowhere-clause-halts
returns-in_err-print_nowhere-clause-halts g c = λ scene is truth. none_of_it g.S.RowLog.keeping c.args.self.now.stored_core c.args.self.now.stored_core.store c.args.self.now.actors.items scene (Renew c.args.name.now) c.args.name.now is (λ name epoch rows stored. stored)

pub returns-in_default-clause-halts : goal.returns-in_default-clause-halts
returns-in_default-clause-halts g c = λ scene is truth. none_of_it g.S.RowLog.keeping c.args.self.now.stored_core c.args.self.now.stored_core.store c.args.self.now.actors.items scene (Renew c.args.name.now) c.args.name.now is (λ name epoch rows stored. stored)

pub returns-in-Err-clause-halts : goal.returns-in-Err-clause-halts
returns-in-Err-clause-halts g c = λ scene is truth.
    let actors = c.args.self.now.actors.items in
    let place = c.place_of-place.result in
    let actor = c.in-Some.actor.now in
    halts_doing g.S.RowLog.keeping c.args.self.now.stored_core c.renew.new.stored_core.store actors scene (Renew c.args.name.now) c.args.name.now place actor is (c.place_of-place.ensures scene is) (some_at actors place actor c.in-Some.ensures.item.3.0 c.in-Some.ensures.item.3.1) c.renew.ensures.halts

pub returns-clause-halts : goal.returns-clause-halts
returns-clause-halts g c = λ scene is truth.
    let actors = c.args.self.now.actors.items in
    let place = c.place_of-place.result in
    let actor = c.in-Some.actor.now in
    halts_taking g.S.RowLog.keeping c.args.self.now.stored_core c.settle-end.new.stored_core.store actors scene (Renew c.args.name.now) c.args.name.now place actor is (c.place_of-place.ensures scene is) (some_at actors place actor c.in-Some.ensures.item.3.0 c.in-Some.ensures.item.3.1) c.renew.new.stored_core c.renew.new.actor (string_bytes c.args.printed.now) (string_bytes c.renew.new.printed)
    (c.in-Ok.ensures.acts (c.settle-end.ensures.truth truth))
    c.settle-end.ensures.halts
