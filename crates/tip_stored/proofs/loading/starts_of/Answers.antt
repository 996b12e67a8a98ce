use Rattle.std.proofs.Common.{◌≡◌, ◌++◌, ◌∷◌, ◌∙◌, ◌<◌, List, [], get_or, ap, arith, length, sym, subst, true}
use Rattle.std.proofs.lemmas.Grind.{common_steps}
use Rattle.tip_recovery.specs.Adopting.{Recovery}
use Rattle.tip_stored.specs.Loading.{AreTheirs, names_differ, start_of, starts_of}
use Rattle.tip_stored.specs.declared.realm_spec.RealmSpec.{RealmSpec}
use Rattle.tip_stored.proofs.Opening.{has_its, is_new, its_epoch, start_more}
use Rattle.tip_stored.proofs.loading.starts_of.Goals as goal

pub bounds-realms-place : goal.bounds-realms-place
bounds-realms-place g c =
    let whole : c.loop-spec.yielded ++ c.in-Some.spec ∷ c.next.new.self.rest.items ≡ c.args.specs.items = ap (λ (specs : List RealmSpec). c.loop-spec.yielded ++ specs) (sym c.in-Some.ensures.steps.0) ∙ c.loop-spec.invariant.whole in
    omega (arith, c.loop-spec.invariant.counted, has_its c.loop-spec.yielded c.next.new.self.rest.items c.in-Some.spec c.args.realms.now (subst (λ (specs : List RealmSpec). AreTheirs specs c.args.realms.now) (sym whole) c.requires.own))

pub add_start-requires-clause-named : goal.add_start-requires-clause-named
add_start-requires-clause-named g c =
    let whole : c.loop-spec.yielded ++ c.in-Some.spec ∷ c.next.new.self.rest.items ≡ c.args.specs.items = ap (λ (specs : List RealmSpec). c.loop-spec.yielded ++ specs) (sym c.in-Some.ensures.steps.0) ∙ c.loop-spec.invariant.whole in
    rw (c.into_start.ensures, c.loop-spec.invariant.made) (is_new c.loop-spec.yielded c.next.new.self.rest.items c.in-Some.spec c.args.realms.now (subst (λ (specs : List RealmSpec). names_differ specs ≡ true) (sym whole) c.requires.differ))

pub add_start-requires-clause-epoch : goal.add_start-requires-clause-epoch
add_start-requires-clause-epoch g c =
    let whole : c.loop-spec.yielded ++ c.in-Some.spec ∷ c.next.new.self.rest.items ≡ c.args.specs.items = ap (λ (specs : List RealmSpec). c.loop-spec.yielded ++ specs) (sym c.in-Some.ensures.steps.0) ∙ c.loop-spec.invariant.whole in
    let same : c.index-realms-place.result ≡ get_or c.args.realms.now (length c.loop-spec.yielded) c.index-realms-place.result = c.index-realms-place.is ∙ ap (λ n. get_or c.args.realms.now n c.index-realms-place.result) c.loop-spec.invariant.counted in
    let its : 0 < (get_or c.args.realms.now (length c.loop-spec.yielded) c.index-realms-place.result).epoch = its_epoch c.loop-spec.yielded c.next.new.self.rest.items c.in-Some.spec c.args.realms.now c.index-realms-place.result (subst (λ (specs : List RealmSpec). AreTheirs specs c.args.realms.now) (sym whole) c.requires.own) in
    rw (c.into_start.ensures, c.epoch.ensures, same) its

pub loop-spec-preserved : goal.loop-spec-preserved
loop-spec-preserved g c =
    let whole : c.loop-spec.yielded ++ c.in-Some.spec ∷ c.next.new.self.rest.items ≡ c.args.specs.items = ap (λ (specs : List RealmSpec). c.loop-spec.yielded ++ specs) (sym c.in-Some.ensures.steps.0) ∙ c.loop-spec.invariant.whole in
    let same : c.index-realms-place.result ≡ get_or c.args.realms.now (length c.loop-spec.yielded) c.index-realms-place.result = c.index-realms-place.is ∙ ap (λ n. get_or c.args.realms.now n c.index-realms-place.result) c.loop-spec.invariant.counted in
    let more = start_more c.loop-spec.yielded c.next.new.self.rest.items c.in-Some.spec c.args.realms.now c.index-realms-place.result (subst (λ (specs : List RealmSpec). AreTheirs specs c.args.realms.now) (sym whole) c.requires.own) in
    let start : c.into_start.result ≡ start_of c.in-Some.spec (get_or c.args.realms.now (length c.loop-spec.yielded) c.index-realms-place.result).epoch = c.into_start.ensures ∙ ap (start_of c.in-Some.spec) (c.epoch.ensures ∙ ap (λ (r : Recovery). r.epoch) same) in
    record {
      whole = grind (arith, common_steps);
      counted = grind (arith, common_steps);
      made = c.in_ok-add_start.ensures ∙ ap (λ starts. starts ++ c.into_start.result ∷ []) c.loop-spec.invariant.made ∙ ap (λ s. starts_of c.loop-spec.yielded c.args.realms.now ++ s ∷ []) start ∙ sym more;
    }
