-- A line that was done, and is judged.
use Rattle.std.proofs.Common.{◌∙◌, sym, string_bytes, subst}
use Rattle.tip_script.specs.Moves.{move_by}
use Rattle.std.specs.Prelude.{OnOk, Some}
use Rattle.tip_scene.specs.Leaving.{LeavesRest}
use Rattle.tip_scene.proofs.Leaving.{judged_on}
use Rattle.tip_scene.specs.Scenes.{moved_in}
use Rattle.tip_scene.specs.Stages.{Serves}
use Rattle.tip_scene.proofs.Blaming.{judged_counts, judged_not, judged_refused, judged_spares, serves_judged}
use Rattle.tip_scene.proofs.playing.Playing+StoredCore+S+Actor.act_judged.Goals as goal

pub returns-clause-serves : goal.returns-clause-serves
returns-clause-serves g c = λ scene is may boxes.
    subst (Serves g.S.RowLog.keeping (string_bytes c.args.printed.now) (string_bytes c.act_in-end.new.printed) (moved_in (move_by c.args.instruction) (Some c.args.realm.now) scene) c.act_in-end.new.self) (sym c.judge.ensures)
    (serves_judged g.S.RowLog.keeping _ _ _ c.act_in-end.new.self _ _ c.act_in-end.result (c.act_in-end.ensures.serves scene is may boxes))

pub returns-clause-counts : goal.returns-clause-counts
returns-clause-counts g c = λ may. judged_counts g.S.RowLog.keeping c.args.self.now.stored_core.store c.act_in-end.new.self.stored_core.store _ _ _ c.act_in-end.result c.judge.result (c.may_refuse.ensures ∙ may) c.faults-before.ensures c.faults.ensures c.judge.ensures

pub returns-clause-blames : goal.returns-clause-blames
returns-clause-blames g c = λ may bad. judged_refused g.S.RowLog.keeping c.args.self.now.stored_core.store c.act_in-end.new.self.stored_core.store _ _ _ c.act_in-end.result (c.may_refuse.ensures ∙ may) c.faults-before.ensures c.faults.ensures (sym c.judge.ensures ∙ bad)

pub returns-clause-leaves : goal.returns-clause-leaves
returns-clause-leaves g c = λ scene is may boxes truth.
    subst (λ r. OnOk r (LeavesRest g.S.RowLog.keeping c.args.self.now c.act_in-end.new.self)) (sym c.judge.ensures) (judged_on g.S.RowLog.keeping _ _ _ c.act_in-end.result (c.act_in-end.ensures.leaves scene is may boxes truth))

pub returns-clause-stays : goal.returns-clause-stays
returns-clause-stays g c = λ is. c.act_in-end.ensures.stays (judged_not _ _ c.act_in-end.result (sym c.judge.ensures ∙ is))

pub returns-clause-spared : goal.returns-clause-spared
returns-clause-spared g c = λ may short. judged_spares g.S.RowLog.keeping c.args.self.now.stored_core.store c.act_in-end.new.self.stored_core.store _ _ _ c.act_in-end.result (c.may_refuse.ensures ∙ may) c.faults-before.ensures c.faults.ensures (sym c.judge.ensures ∙ short)
