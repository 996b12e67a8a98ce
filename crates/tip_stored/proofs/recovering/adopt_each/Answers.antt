use Rattle.std.proofs.Common.{◌≡◌, ◌∙◌, arith, rules, subst, sym, true}
use Rattle.std.proofs.lemmas.Grind.{common_steps}
use Rattle.std.proofs.lemmas.List.{nil_from_length}
use Rattle.tip_recovery.specs.Adopting.{Recovery, adopted_all, are_for_all}
use Rattle.tip_recovery.proofs.Giving.{Giving, ends, fails, fit-map, given-map, goes_on, within}
use Rattle.tip_stored.proofs.TakingUp.{fits_it, still_begun_with, with_its}
use Rattle.tip_stored.proofs.recovering.adopt_each.Goals as goal

pub index_mut-requires : goal.index_mut-requires
index_mut-requires g c = omega (arith, within with_its fits_it c.args.boxes.items c.args.realms.now.items c.loop-lots.realms.items c.loop-lots.yielded c.loop-lots.lots-iterator.rest.items c.next.new.self.rest.items c.loop-lots.place c.in-Some.lots c.requires c.loop-lots.invariant.giving c.in-Some.ensures.steps.0, c.loop-lots.realms.ok)

pub returns-then-not-adopt_all-clause-fits : goal.returns-then-not-adopt_all-clause-fits
returns-then-not-adopt_all-clause-fits g c = sym (fails with_its fits_it c.args.boxes.items c.args.realms.now.items c.loop-lots.realms.items c.loop-lots.yielded c.loop-lots.lots-iterator.rest.items c.next.new.self.rest.items c.loop-lots.place c.in-Some.lots c.requires c.loop-lots.invariant.giving c.in-Some.ensures.steps.0 c.index_mut.result.now c.index_mut.ensures.value (search rules)) ∙ fit-map (λ lots (recovery : Recovery). are_for_all lots recovery.rows) (λ lots. lots.items) c.args.boxes.items c.args.realms.now.items

pub returns-then-not-adopt_all-clause-begun : goal.returns-then-not-adopt_all-clause-begun
returns-then-not-adopt_all-clause-begun g c = λ core begun. still_begun_with c.adopt_all.new.self c.index_mut.result.now (record { realm = c.adopt_all.ensures.realm; epoch = c.adopt_all.ensures.epoch; count = c.adopt_all.ensures.count }) core c.loop-lots.place c.loop-lots.realms.items (within with_its fits_it c.args.boxes.items c.args.realms.now.items c.loop-lots.realms.items c.loop-lots.yielded c.loop-lots.lots-iterator.rest.items c.next.new.self.rest.items c.loop-lots.place c.in-Some.lots c.requires c.loop-lots.invariant.giving c.in-Some.ensures.steps.0) c.index_mut.ensures.value (c.loop-lots.invariant.begun core begun)

pub loop-lots-preserved : goal.loop-lots-preserved
loop-lots-preserved g c =
    let fits : fits_it c.in-Some.lots c.index_mut.result.now ≡ true = search rules in
    let same : c.adopt_all.new.self ≡ with_its c.in-Some.lots c.index_mut.result.now = search rules in
    record {
      giving = rw same (goes_on with_its fits_it c.args.boxes.items c.args.realms.now.items c.loop-lots.realms.items c.loop-lots.yielded c.loop-lots.lots-iterator.rest.items c.next.new.self.rest.items c.loop-lots.place c.in-Some.lots c.requires c.loop-lots.invariant.giving c.in-Some.ensures.steps.0 c.index_mut.result.now c.index_mut.ensures.value fits);
      begun = λ core begun. still_begun_with c.adopt_all.new.self c.index_mut.result.now (record { realm = c.adopt_all.ensures.realm; epoch = c.adopt_all.ensures.epoch; count = c.adopt_all.ensures.count }) core c.loop-lots.place c.loop-lots.realms.items (within with_its fits_it c.args.boxes.items c.args.realms.now.items c.loop-lots.realms.items c.loop-lots.yielded c.loop-lots.lots-iterator.rest.items c.next.new.self.rest.items c.loop-lots.place c.in-Some.lots c.requires c.loop-lots.invariant.giving c.in-Some.ensures.steps.0) c.index_mut.ensures.value (c.loop-lots.invariant.begun core begun);
    }

pub returns-clause-fits : goal.returns-clause-fits
returns-clause-fits g c = sym (ends with_its fits_it c.args.boxes.items c.args.realms.now.items c.loop-lots.realms.items c.loop-lots.yielded c.loop-lots.place c.requires (subst (λ left. Giving with_its fits_it c.args.boxes.items c.args.realms.now.items c.loop-lots.realms.items c.loop-lots.yielded left c.loop-lots.place) (nil_from_length c.loop-lots.lots-iterator.rest.items (grind (arith, common_steps))) c.loop-lots.invariant.giving)).1 ∙ fit-map (λ lots (recovery : Recovery). are_for_all lots recovery.rows) (λ lots. lots.items) c.args.boxes.items c.args.realms.now.items

pub returns-clause-adopted : goal.returns-clause-adopted
returns-clause-adopted g c = λ all. (ends with_its fits_it c.args.boxes.items c.args.realms.now.items c.loop-lots.realms.items c.loop-lots.yielded c.loop-lots.place c.requires (subst (λ left. Giving with_its fits_it c.args.boxes.items c.args.realms.now.items c.loop-lots.realms.items c.loop-lots.yielded left c.loop-lots.place) (nil_from_length c.loop-lots.lots-iterator.rest.items (grind (arith, common_steps))) c.loop-lots.invariant.giving)).0 ∙ given-map (λ lots (recovery : Recovery). record recovery { rows = adopted_all lots recovery.rows }) (λ lots. lots.items) c.args.boxes.items c.args.realms.now.items
