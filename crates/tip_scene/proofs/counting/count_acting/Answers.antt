-- What was read left the store as it was.
use Rattle.std.proofs.Common.{◌≡◌, ◌∙◌, ◌≤◌, Some, ap, arith, map, option_map, refl, subst, sym}
use Rattle.std.specs.Prelude.{slice_get}
use Rattle.std.proofs.lemmas.Option.{slice_get-get_or}
use Rattle.std.proofs.lemmas.List.{length-map}
use Rattle.std.proofs.lemmas.Result.{err_from_is_err_and}
use Rattle.tip_actor.specs.Standing.{Actor}
use Rattle.tip_scene.proofs.Again.{mapped_at}
use Rattle.tip_scene.proofs.Blaming.{unread_in}
use Rattle.tip_scene.proofs.Wanting.{counts_all, counts_one}
use Rattle.tip_scene.proofs.counting.count_acting.Goals as goal

pub loop-actor-init : goal.loop-actor-init
loop-actor-init g c = record { stands = λ log stood. stood; due = λ r. refl; counts = refl; truth = λ is. is; wanted = λ scene named has truth. omega arith }

pub returns-in_err-count-clause-stands : goal.returns-in_err-count-clause-stands
returns-in_err-count-clause-stands g c = λ log stood. c.count_more.ensures.stands log (c.loop-actor.invariant.stands log stood)

pub returns-in_err-count-clause-due : goal.returns-in_err-count-clause-due
returns-in_err-count-clause-due g c = λ r. c.count_more.ensures.due r ∙ c.loop-actor.invariant.due r

pub returns-in_err-count-clause-truth : goal.returns-in_err-count-clause-truth
returns-in_err-count-clause-truth g c = λ is. c.loop-actor.invariant.truth (c.count_more.ensures.truth is)

pub returns-in_err-count-clause-unread : goal.returns-in_err-count-clause-unread
returns-in_err-count-clause-unread g c =
    let e = err_from_is_err_and c.from_residual.result c.from_residual.ensures.1 in
    let all = c.args.actors.now in
    let at = c.loop-actor.actor-index in
    let one = c.actor-item.result in
    let here : slice_get all at ≡ Some one = slice_get-get_or all at one c.loop-actor-test.true ∙ ap Some (sym c.actor-item.is) in
    rw (e.1, e.2) (λ is. unread_in g.S.RowLog.keeping c.args.store.now c.loop-actor.store c.count_more.new.store (map (λ (x : Actor). x.name) all) at one.name (mapped_at (λ (x : Actor). x.name) all at one here) c.loop-actor.invariant.counts c.loop-actor.invariant.stands (c.in_err-count.ensures.unread is))

pub loop-actor-preserved : goal.loop-actor-preserved
loop-actor-preserved g c = record {
  stands = λ log stood. c.count_more.ensures.stands log (c.loop-actor.invariant.stands log stood);
  due = λ r. c.count_more.ensures.due r ∙ c.loop-actor.invariant.due r;
  counts = c.in_ok-count.ensures.counts ∙ c.loop-actor.invariant.counts;
  truth = λ is. c.loop-actor.invariant.truth (c.count_more.ensures.truth is);
  wanted = λ scene named has truth.
      let all = c.args.actors.now in
      let at = c.loop-actor.actor-index in
      let one = c.actor-item.result in
      let here : slice_get all at ≡ Some one = slice_get-get_or all at one c.loop-actor-test.true ∙ ap Some (sym c.actor-item.is) in
      counts_one g.S.RowLog.keeping (option_map (λ name. name.now) c.args.only) (map (λ (x : Actor). x.name) all) c.args.store.now scene named has at one.name c.loop-actor.count c.in_ok-count.count (mapped_at (λ (x : Actor). x.name) all at one here) (c.loop-actor.invariant.wanted scene named has (c.count_more.ensures.truth truth))
      (λ log epoch rows stood part. c.in_ok-count.ensures.wanted log epoch rows (c.loop-actor.invariant.stands log stood) part truth);
}

pub returns-clause-stands : goal.returns-clause-stands
returns-clause-stands g c = c.loop-actor.invariant.stands

pub returns-clause-due : goal.returns-clause-due
returns-clause-due g c = c.loop-actor.invariant.due

pub returns-clause-truth : goal.returns-clause-truth
returns-clause-truth g c = c.loop-actor.invariant.truth

pub returns-clause-wanted : goal.returns-clause-wanted
returns-clause-wanted g c = λ scene named has truth.
    let all = c.args.actors.now in
    let names = map (λ (x : Actor). x.name) all in
    counts_all g.S.RowLog.keeping (option_map (λ name. name.now) c.args.only) names c.args.store.now scene named has c.loop-actor.actor-index c.loop-actor.count (subst (λ n. n ≤ c.loop-actor.actor-index) (sym (length-map all (λ (x : Actor). x.name))) c.loop-actor-test.false) (c.loop-actor.invariant.wanted scene named has truth)

pub returns-in_err-count-clause-spared : goal.returns-in_err-count-clause-spared
returns-in_err-count-clause-spared g c =
    let e = err_from_is_err_and c.from_residual.result c.from_residual.ensures.1 in
    rw (e.1, e.2) (λ is. c.in_err-count.ensures.spared is ∙ c.loop-actor.invariant.counts)
