-- The realms start over what the store has.
use Rattle.std.proofs.Common.{◌∙◌, None, ap, false, length, map, subst, sym}
use Rattle.std.proofs.lemmas.Result.{IfOk-weaker}
use Rattle.tip_actor.specs.Faults.{of_load_fault}
use Rattle.tip_scene.specs.Acts.{Declaring, scene_of}
use Rattle.tip_scene.specs.Boxes.{box_count}
use Rattle.tip_scene.specs.Rising.{AreNew}
use Rattle.tip_scene.specs.Stages.{spec_of}
use Rattle.tip_scene.proofs.Blaming.{risen_blamed, risen_so, risen_spares, risen_trusts, start_blamed, start_spares}
use Rattle.tip_scene.specs.Leaving.{OthersStay}
use Rattle.tip_stored.specs.Loading.{names_of}
use Rattle.tip_scene.proofs.Halting.{not_loaded, not_risen}
use Rattle.tip_scene.proofs.Leaving.{start_leaves}
use Rattle.tip_scene.proofs.Starting.{all_wait}
use Rattle.tip_scene.proofs.Wanting.{if_ok}
use Rattle.tip_scene.proofs.declared.Declared+S+Core.start.Goals as goal

pub returns-in-Ok-load-clause-truth : goal.returns-in-Ok-load-clause-truth
returns-in-Ok-load-clause-truth g c = risen_trusts g.S.RowLog.keeping (λ playing. playing.stored_core.store) c.in-Ok-load.recovering.store c.args.self.store c.rise.result c.rise.ensures.store c.rise.ensures.back c.in-Ok-load.ensures.ok.truth

pub returns-in-Ok-load-clause-text : goal.returns-in-Ok-load-clause-text
returns-in-Ok-load-clause-text g c = λ basis declarations is.
    risen_so g.S.RowLog.keeping (λ playing. playing.stored_core.store) c.in-Ok-load.recovering.store _ c.rise.result c.rise.ensures.store (λ truth.
    c.rise.ensures.text (scene_of basis declarations) (subst (λ l. AreNew c.in-Ok.actors.items (scene_of basis l)) is.declared (c.in-Ok.ensures.0 basis))
    (all_wait g.S.RowLog.keeping c.args.self.store c.in-Ok-load.recovering basis declarations c.in-Ok.specs.items is.founded is.covered (c.in-Ok.ensures.1 ∙ ap (map spec_of) is.declared) c.in-Ok-load.ensures truth))

pub returns-in-Ok-load-clause-scene : goal.returns-in-Ok-load-clause-scene
returns-in-Ok-load-clause-scene g c = λ basis declarations is.
    risen_so g.S.RowLog.keeping (λ playing. playing.stored_core.store) c.in-Ok-load.recovering.store _ c.rise.result c.rise.ensures.store (λ truth.
    c.rise.ensures.scene (scene_of basis declarations) (subst (λ l. AreNew c.in-Ok.actors.items (scene_of basis l)) is.declared (c.in-Ok.ensures.0 basis))
    (all_wait g.S.RowLog.keeping c.args.self.store c.in-Ok-load.recovering basis declarations c.in-Ok.specs.items is.founded is.covered (c.in-Ok.ensures.1 ∙ ap (map spec_of) is.declared) c.in-Ok-load.ensures truth))

pub returns-in-Ok-load-clause-blames : goal.returns-in-Ok-load-clause-blames
returns-in-Ok-load-clause-blames g c = λ basis declarations is enough.
    risen_blamed g.S.RowLog.keeping (λ playing. playing.stored_core.store) c.in-Ok-load.recovering.store _ (length c.args.pool.now.items) (box_count None (scene_of basis declarations)) c.rise.result enough c.rise.ensures.back (λ truth.
    c.rise.ensures.few (scene_of basis declarations)
    (all_wait g.S.RowLog.keeping c.args.self.store c.in-Ok-load.recovering basis declarations c.in-Ok.specs.items is.founded is.covered (c.in-Ok.ensures.1 ∙ ap (map spec_of) is.declared) c.in-Ok-load.ensures truth))

pub returns-in-Ok-load-clause-leaves : goal.returns-in-Ok-load-clause-leaves
returns-in-Ok-load-clause-leaves g c =
    IfOk-weaker c.rise.result _ _ (λ playing same truth names. subst (OthersStay g.S.RowLog.keeping 1 names c.args.self.store) (sym same)
    (start_leaves g.S.RowLog.keeping c.in-Ok.specs.items c.args.self.store c.in-Ok-load.recovering names c.in-Ok-load.ensures (subst g.S.RowLog.keeping.is_true same truth))) c.rise.ensures.store

pub returns-in-Err-clause-blames : goal.returns-in-Err-clause-blames
returns-in-Err-clause-blames g c = λ basis declarations is enough same truth.
    start_blamed g.S.RowLog.keeping c.args.self.store c.in-Err.store (Declaring declarations) c.in-Ok.specs.items (c.in-Ok.ensures.1 ∙ ap (map spec_of) is.declared) c.in-Err.fault c.in-Err.ensures.err.counts c.in-Err.ensures.reason
    (ap of_load_fault (sym c.in-Err.fault-is) ∙ sym c.from.ensures ∙ same)

pub returns-in-Ok-load-clause-left : goal.returns-in-Ok-load-clause-left
returns-in-Ok-load-clause-left g c = λ basis declarations is.
    risen_so g.S.RowLog.keeping (λ playing. playing.stored_core.store) c.in-Ok-load.recovering.store _ c.rise.result c.rise.ensures.store (λ truth.
    if_ok _ c.rise.result (c.rise.ensures.left (scene_of basis declarations)
    (all_wait g.S.RowLog.keeping c.args.self.store c.in-Ok-load.recovering basis declarations c.in-Ok.specs.items is.founded is.covered (c.in-Ok.ensures.1 ∙ ap (map spec_of) is.declared) c.in-Ok-load.ensures truth)))

-- They have not started

pub returns-in-Ok-load-clause-halts : goal.returns-in-Ok-load-clause-halts
returns-in-Ok-load-clause-halts g c = not_risen g.S.RowLog.keeping (names_of c.in-Ok.specs.items) false c.args.self.store c.in-Ok-load.recovering.store c.rise.result c.in-Ok-load.ensures.ok c.rise.ensures.back

pub returns-in-Err-clause-halts : goal.returns-in-Err-clause-halts
returns-in-Err-clause-halts g c = not_loaded g.S.RowLog.keeping (names_of c.in-Ok.specs.items) _ c.args.self.store c.in-Err.store c.in-Err.ensures.err

-- Memory has ended, and nothing was refused

pub returns-in-Ok-load-clause-spares : goal.returns-in-Ok-load-clause-spares
returns-in-Ok-load-clause-spares g c = risen_spares g.S.RowLog.keeping (λ playing. playing.stored_core.store) c.in-Ok-load.recovering.store c.args.self.store c.rise.result c.rise.ensures.back c.in-Ok-load.ensures.ok.counts

pub returns-in-Err-clause-spares : goal.returns-in-Err-clause-spares
returns-in-Err-clause-spares g c = λ short. start_spares g.S.RowLog.keeping c.args.self.store c.in-Err.store c.in-Err.fault c.in-Err.ensures.err.counts (ap of_load_fault (sym c.in-Err.fault-is) ∙ sym c.from.ensures ∙ short)
