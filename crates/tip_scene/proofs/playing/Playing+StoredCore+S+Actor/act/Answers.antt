-- There are boxes for all realms, or for the one that the line names.
use Rattle.std.proofs.Common.{◌∙◌, Err, ap, length, option_map, subst, sym}
use Rattle.tip_script.specs.Moves.{move_by}
use Rattle.tip_scene.specs.Acts.{Playing}
use Rattle.tip_scene.specs.Blaming.{IsAtFault}
use Rattle.tip_scene.proofs.Halting.{halts_restarting}
use Rattle.tip_scene.proofs.Leaving.{scene_stored}
use Rattle.tip_scene.proofs.Wanting.{enough_for_all}
use Rattle.tip_scene.proofs.playing.Playing+StoredCore+S+Actor.act.Goals as goal

pub returns-in_default-clause-blames : goal.returns-in_default-clause-blames
returns-in_default-clause-blames g c = λ may scene is enough.
    let all = sym c.realm.ensures ∙ ap (option_map (λ realm. realm.now)) c.in_default.is in
    c.restart.ensures.blames scene is (enough_for_all (move_by c.args.instruction) scene (length c.args.pool.now.items) all enough)

pub returns-in-Err-clause-blames : goal.returns-in-Err-clause-blames
returns-in-Err-clause-blames g c = λ may scene is enough bad truth.
    let kept = g.S.RowLog.keeping in
    subst (IsAtFault kept c.args.self.stored_core.store (Playing scene)) (sym c.shut.ensures) (c.in-Err.ensures.blames may scene is enough (subst kept.is_true c.shut.ensures truth) (ap Err bad))

pub returns-in_default-clause-halts : goal.returns-in_default-clause-halts
returns-in_default-clause-halts g c = λ scene is may boxes.
    let all = sym c.realm.ensures ∙ ap (option_map (λ realm. realm.now)) c.in_default.is in
    halts_restarting g.S.RowLog.keeping scene (move_by c.args.instruction) c.args.self.stored_core.store c.restart.result all (scene_stored g.S.RowLog.keeping c.args.self.stored_core c.args.self.actors.items scene is) c.restart.ensures.halts

-- Memory has ended, and nothing was refused

pub returns-in-Err-clause-spares : goal.returns-in-Err-clause-spares
returns-in-Err-clause-spares g c = λ may short. ap g.S.RowLog.keeping.faults c.shut.ensures ∙ c.in-Err.ensures.spared may (ap Err short)
