-- The boxes are adopted, and the realms are at work.
use Rattle.std.proofs.Common.{◌≡◌, ◌<◌, ◌+◌, ◌∙◌, Err, List, ap, length, map, rules, subst, sym, true}
use Rattle.std.proofs.lemmas.Bool.{false≢true}
use Rattle.tip_branch.specs.declared.branch.Badge.{Badge}
use Rattle.tip_stored.specs.Recovering.{adopted_each, all_adopted, are_for_each}
use Rattle.tip_scene.proofs.Adopted.{all_have_boxes}
use Rattle.tip_scene.specs.Rising.{AreRising}
use Rattle.tip_scene.specs.Boxes.{branch_count}
use Rattle.tip_scene.proofs.Again.{all_adopt, boxes_of_recovery}
use Rattle.tip_scene.proofs.Blaming.{waiting_fit}
use Rattle.tip_scene.proofs.rising.rise.Goals as goal

pub returns-in-Ok-begin-clause-text : goal.returns-in-Ok-begin-clause-text
returns-in-Ok-begin-clause-text g c = λ scene are waiting.
    let fits : c.adopt_all.result ≡ true = search rules in
    let lots = c.in-Ok.ensures.dealt ∙ ap (map boxes_of_recovery) c.realms.ensures.same in
    let adopted = c.adopt_all.ensures.adopted fits ∙ ap (λ (boxes : List (List (List Badge))). record c.args.recovering { realms = adopted_each boxes c.args.recovering.realms }) lots in
    c.in-Ok-begin.ensures.text scene are (subst (λ r. AreRising g.S.RowLog.keeping r scene) (sym adopted) (all_adopt g.S.RowLog.keeping c.args.recovering scene waiting))

pub returns-in-Ok-begin-clause-scene : goal.returns-in-Ok-begin-clause-scene
returns-in-Ok-begin-clause-scene g c = λ scene are waiting.
    let fits : c.adopt_all.result ≡ true = search rules in
    let lots = c.in-Ok.ensures.dealt ∙ ap (map boxes_of_recovery) c.realms.ensures.same in
    let adopted = c.adopt_all.ensures.adopted fits ∙ ap (λ (boxes : List (List (List Badge))). record c.args.recovering { realms = adopted_each boxes c.args.recovering.realms }) lots in
    c.in-Ok-begin.ensures.scene scene are (subst (λ r. AreRising g.S.RowLog.keeping r scene) (sym adopted) (all_adopt g.S.RowLog.keeping c.args.recovering scene waiting))

pub begin-requires : goal.begin-requires
begin-requires g c =
    let fits : c.adopt_all.result ≡ true = search rules in
    ap (λ r. all_adopted r.realms) (c.adopt_all.ensures.adopted fits) ∙ all_have_boxes (map (λ lots. lots.items) c.in-Ok.lots.items) c.args.recovering.realms (sym c.adopt_all.ensures.fits ∙ fits)

pub returns-in-Err-clause-few : goal.returns-in-Err-clause-few
returns-in-Err-clause-few g c = λ scene waiting is.
    let fit = waiting_fit g.S.RowLog.keeping c.args.recovering scene c.realms.ensures.begun waiting in
    subst (λ n. length c.args.pool.now.items < n) (ap branch_count c.realms.ensures.same ∙ fit.0) (c.in-Err.ensures.few (ap Err is))

pub returns-then-not-adopt_all-clause-few : goal.returns-then-not-adopt_all-clause-few
returns-then-not-adopt_all-clause-few g c = λ scene waiting is.
    let fit = waiting_fit g.S.RowLog.keeping c.args.recovering scene c.realms.ensures.begun waiting in
    let lots = c.in-Ok.ensures.dealt ∙ ap (map boxes_of_recovery) c.realms.ensures.same in
    let fits : c.adopt_all.result ≡ true = c.adopt_all.ensures.fits ∙ ap (λ boxes. are_for_each boxes c.args.recovering.realms) lots ∙ fit.1 in
    absurd (false≢true (sym c.if-not-adopt_all.true ∙ fits))

pub returns-in-Ok-begin-clause-left : goal.returns-in-Ok-begin-clause-left
returns-in-Ok-begin-clause-left g c = λ scene waiting.
    let fit = waiting_fit g.S.RowLog.keeping c.args.recovering scene c.realms.ensures.begun waiting in
    sym (ap (λ n. length c.dealt_to_all.new.pool.items + n) (ap branch_count c.realms.ensures.same ∙ fit.0)) ∙ c.in-Ok.ensures.left
