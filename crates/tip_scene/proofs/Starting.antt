-- Realms that start over what a store has of them.
use Rattle.std.proofs.Common.{◌≡◌, ℕ, zero, suc, List, [], ◌∷◌, true, Some, None, map, refl, sym, ap, subst, ◌∙◌}
use Rattle.std.specs.Prelude.{Ok, false, slice_get}
use Rattle.std.proofs.lemmas.Option.{none-some, same_Some}
use Rattle.tip_stored.specs.Loading.{Loads}
use Rattle.tip_stored.specs.Recovering.{Recovering}
use Rattle.tip_stored.specs.declared.realm_spec.RealmSpec.{RealmSpec}
use Rattle.tip_rows.specs.Logs.{Keeping}
use Rattle.tip_actor.specs.Acting.{Acting}
use Rattle.tip_scene.proofs.Adopted.{both}
use Rattle.tip_scene.proofs.Loaded.{beyond, loaded_at, waits}
use Rattle.tip_scene.specs.Acts.{Basis, acting_of, are_covered, scene_of}
use Rattle.tip_scene.specs.Rising.{AreWaiting, IsWaiting}
use Rattle.tip_scene.specs.Stages.{IsBasis, spec_of}
use Rattle.tip_scene.specs.declared.declared.Declaration.{Declaration}

pub declaration_at : (basis : Basis) (declarations : List Declaration) (place : ℕ) (acting : Acting) → slice_get (scene_of basis declarations) place ≡ Some acting → (declaration : Declaration) × (slice_get (map spec_of declarations) place ≡ Some (spec_of declaration)) × (acting ≡ acting_of basis declaration)
declaration_at basis [] place acting here = absurd (none-some acting here)
declaration_at basis (d ∷ declarations) zero acting here = (d, refl, sym (same_Some (acting_of basis d) acting here))
declaration_at basis (d ∷ declarations) (suc place) acting here = declaration_at basis declarations place acting here

none_declared : (basis : Basis) (declarations : List Declaration) (place : ℕ) → slice_get (scene_of basis declarations) place ≡ None → slice_get (map spec_of declarations) place ≡ None
none_declared basis [] place none = refl
none_declared basis (d ∷ declarations) zero none = absurd (none-some (acting_of basis d) (sym none))
none_declared basis (d ∷ declarations) (suc place) none = none_declared basis declarations place none

pub named_covered : (basis : Basis) (declarations : List Declaration) (place : ℕ) (declaration : Declaration) → slice_get (map spec_of declarations) place ≡ Some (spec_of declaration) → are_covered basis declarations ≡ true → basis.covers declaration.name ≡ true
named_covered basis [] place declaration here all = absurd (none-some (spec_of declaration) here)
named_covered basis (d ∷ declarations) zero declaration here all = subst (λ (s : RealmSpec). basis.covers s.name ≡ true) (same_Some (spec_of d) (spec_of declaration) here) (both (basis.covers d.name) (are_covered basis declarations) all).0
named_covered basis (d ∷ declarations) (suc place) declaration here all = named_covered basis declarations place declaration here (both (basis.covers d.name) (are_covered basis declarations) all).1

pub all_wait : {S : Type 0} (kept : Keeping S) (store : S) (recovering : Recovering S) (basis : Basis) (declarations : List Declaration) (specs : List RealmSpec) → IsBasis kept basis store → are_covered basis declarations ≡ true → specs ≡ map spec_of declarations →
    Loads kept specs store (Ok recovering) → kept.is_true recovering.store → AreWaiting kept recovering (scene_of basis declarations)
all_wait kept store recovering basis declarations specs on covered specs_are loads truth = record {
  each = λ place acting here.
      let is = declaration_at basis declarations place acting here in
      let before = basis.before is.0.name in
      let covers = named_covered basis declarations place is.0 is.1 covered in
      let spec = ap (λ l. slice_get l place) specs_are ∙ is.1 in
      let loaded_ = loaded_at kept specs store recovering loads truth place (spec_of is.0) on.log before.epoch before.rows spec on.stood (on.before is.0.name covers) in
      subst (IsWaiting kept recovering place) (sym is.2)
      (waits kept store recovering place (spec_of is.0) before.epoch before.rows is.0.name false [] loaded_ refl (on.none_due is.0.name covers));
  beyond = λ place none. beyond kept specs store recovering loads place (ap (λ l. slice_get l place) specs_are ∙ none_declared basis declarations place none);
}
