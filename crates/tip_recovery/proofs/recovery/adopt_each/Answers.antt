use Rattle.std.proofs.Common.{◌≡◌, ◌∙◌, true, List, ap, arith, length, rules, subst, sym}
use Rattle.tip_branch.specs.declared.branch.Badge.{Badge}
use Rattle.tip_recovery.specs.Adopting.{AreOf, Unfinished, are_for, given, stored_of, with_boxes}
use Rattle.tip_recovery.proofs.Giving.{adopted_all_of, fails, goes_on, length-given, stays, stored-adopted_all, within}
use Rattle.tip_recovery.proofs.recovery.adopt_each.Goals as goal

pub index_mut-requires : goal.index_mut-requires
index_mut-requires g c = omega (arith, within with_boxes are_for c.args.boxes.items c.args.rows.now.items c.loop-lot.rows.items c.loop-lot.yielded c.loop-lot.lot-iterator.rest.items c.next.new.self.rest.items c.loop-lot.place c.in-Some.lot c.requires c.loop-lot.invariant c.in-Some.ensures.steps.0, c.loop-lot.rows.ok)

pub returns-then-not-adopt_each-clause-fits : goal.returns-then-not-adopt_each-clause-fits
returns-then-not-adopt_each-clause-fits g c = sym (fails with_boxes are_for c.args.boxes.items c.args.rows.now.items c.loop-lot.rows.items c.loop-lot.yielded c.loop-lot.lot-iterator.rest.items c.next.new.self.rest.items c.loop-lot.place c.in-Some.lot c.requires c.loop-lot.invariant c.in-Some.ensures.steps.0 c.index_mut.result.now c.index_mut.ensures.value (search rules))

pub returns-then-not-adopt_each-clause-own : goal.returns-then-not-adopt_each-clause-own
returns-then-not-adopt_each-clause-own g c = λ realm own.
    let stayed = stays with_boxes are_for c.args.boxes.items c.args.rows.now.items c.loop-lot.rows.items c.loop-lot.yielded c.loop-lot.lot-iterator.rest.items c.next.new.self.rest.items c.loop-lot.place c.in-Some.lot c.requires c.loop-lot.invariant c.in-Some.ensures.steps.0 c.index_mut.result.now c.index_mut.ensures.value c.adopt_each.new.self (search rules) in
    subst (AreOf realm) (sym stayed) (adopted_all_of realm c.loop-lot.yielded c.args.rows.now.items own)

pub returns-then-not-adopt_each-clause-stored : goal.returns-then-not-adopt_each-clause-stored
returns-then-not-adopt_each-clause-stored g c =
    let stayed = stays with_boxes are_for c.args.boxes.items c.args.rows.now.items c.loop-lot.rows.items c.loop-lot.yielded c.loop-lot.lot-iterator.rest.items c.next.new.self.rest.items c.loop-lot.place c.in-Some.lot c.requires c.loop-lot.invariant c.in-Some.ensures.steps.0 c.index_mut.result.now c.index_mut.ensures.value c.adopt_each.new.self (search rules) in
    ap stored_of stayed ∙ stored-adopted_all c.loop-lot.yielded c.args.rows.now.items

counted : (boxes : List (List Badge)) (old now : List Unfinished) → now ≡ given with_boxes boxes old → length now ≡ length old
counted boxes old now is = ap length is ∙ length-given with_boxes are_for boxes old

pub returns-then-not-adopt_each-clause-count : goal.returns-then-not-adopt_each-clause-count
returns-then-not-adopt_each-clause-count g c =
    let stayed = stays with_boxes are_for c.args.boxes.items c.args.rows.now.items c.loop-lot.rows.items c.loop-lot.yielded c.loop-lot.lot-iterator.rest.items c.next.new.self.rest.items c.loop-lot.place c.in-Some.lot c.requires c.loop-lot.invariant c.in-Some.ensures.steps.0 c.index_mut.result.now c.index_mut.ensures.value c.adopt_each.new.self (search rules) in
    counted c.loop-lot.yielded c.args.rows.now.items _ stayed

pub loop-lot-preserved : goal.loop-lot-preserved
loop-lot-preserved g c =
    let fits : are_for c.in-Some.lot c.index_mut.result.now ≡ true = search rules in
    let same : c.adopt_each.new.self ≡ with_boxes c.in-Some.lot c.index_mut.result.now = search rules in
    rw same (goes_on with_boxes are_for c.args.boxes.items c.args.rows.now.items c.loop-lot.rows.items c.loop-lot.yielded c.loop-lot.lot-iterator.rest.items c.next.new.self.rest.items c.loop-lot.place c.in-Some.lot c.requires c.loop-lot.invariant c.in-Some.ensures.steps.0 c.index_mut.result.now c.index_mut.ensures.value fits)

pub returns-clause-own : goal.returns-clause-own
returns-clause-own g c = λ realm own. subst (AreOf realm) (sym c.loop-lot.invariant.now_is) (adopted_all_of realm c.loop-lot.yielded c.args.rows.now.items own)

pub returns-clause-stored : goal.returns-clause-stored
returns-clause-stored g c = ap stored_of c.loop-lot.invariant.now_is ∙ stored-adopted_all c.loop-lot.yielded c.args.rows.now.items

pub returns-clause-count : goal.returns-clause-count
returns-clause-count g c = counted c.loop-lot.yielded c.args.rows.now.items c.loop-lot.rows.items c.loop-lot.invariant.now_is
