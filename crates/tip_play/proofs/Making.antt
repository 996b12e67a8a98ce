-- What is seen of boxes that one function alone makes: all of them hold branches of one type.
use Rattle.std.proofs.Common.{◌≡◌, ◌<◌, ◌≤◌, ◌+◌, ◌⊎◌, ◌∙◌, ◌++◌, ◌∷◌, [], ℕ, Global, List, ap, get_or, inl, inr, length, length-append, map, refl, sym, take}
use Rattle.std.specs.Prelude.{Err, Ok, OnOk, Result, false, is_err}
use Rattle.std.proofs.lemmas.List.{length-map, map-append, take_all, take_more}
use Rattle.std.proofs.lemmas.List.Elements.{All-cons, All-nil}
use Rattle.std.specs.declared.dyn_box.DynBox.{DynBox}
use Rattle.tip_actor.specs.Acting.{boxes_of}
use Rattle.tip_branch.specs.Lots.{AreIn, badges_of}
use Rattle.tip_branch.specs.Members.{untold}
use Rattle.tip_branch.specs.declared.branch.Phase.TheVariants.{Active, Ended}
use Rattle.tip_branch.specs.declared.branch.Plan.{Plan}
use Rattle.tip_branch.specs.declared.branch.Plan.TheVariants.{Open}
use Rattle.tip_branch.specs.declared.branch.Standing.{Standing}
use Rattle.tip_script.specs.Scripts.{plan_of, plans_of}

-- boxes have one table of methods, or one of others that there are not
module _ {X : Type 0} where
  read_at : (F : Unit {0} ⊎ X → Type 0) → (F (inl tt) → Standing) → (table : Unit {0} ⊎ X) → F table → Standing
  read_at F read (inl u) value = read value
  read_at F read (inr other) value = untold Ended (record { plan = Open; mark = 0 })

  -- what a box stands for, where this is read of the branch in it
  pub read_of : {F : Unit {0} ⊎ X → Type 0} → (F (inl tt) → Standing) → DynBox (Unit {0} ⊎ X) Global F → Standing
  read_of {F} read box = read_at F read box.vtable box.value

  read_alike : {F : Unit {0} ⊎ X → Type 0} (seen : DynBox (Unit {0} ⊎ X) Global F → Standing) (read : F (inl tt) → Standing) → (X → ⊥) → ((box : DynBox (Unit {0} ⊎ X) Global F) (value : F (inl tt)) → seen (record box { vtable = inl tt; value = value }) ≡ read value) →
      (box : DynBox (Unit {0} ⊎ X) Global F) (table : Unit {0} ⊎ X) (value : F table) → seen (record box { vtable = table; value = value }) ≡ read_at F read table value
  unfolding read_at
  read_alike seen read none same box (inl u) value = same box value
  read_alike seen read none same box (inr other) value = absurd (none other)

  -- it is what is seen of each
  pub all_alike : {F : Unit {0} ⊎ X → Type 0} (seen : DynBox (Unit {0} ⊎ X) Global F → Standing) (read : F (inl tt) → Standing) → (X → ⊥) → ((box : DynBox (Unit {0} ⊎ X) Global F) (value : F (inl tt)) → seen (record box { vtable = inl tt; value = value }) ≡ read value) →
      (boxes : List (DynBox (Unit {0} ⊎ X) Global F)) → map seen boxes ≡ map (read_of read) boxes
  unfolding read_of read_at
  all_alike seen read none same [] = refl
  all_alike seen read none same (box ∷ boxes) = ap (λ s. s ∷ map seen boxes) (read_alike seen read none same box box.vtable box.value) ∙ ap (λ l. read_of read box ∷ l) (all_alike seen read none same boxes)

  -- one box more
  pub one_alike : {F : Unit {0} ⊎ X → Type 0} (seen : DynBox (Unit {0} ⊎ X) Global F → Standing) (read : F (inl tt) → Standing) → (X → ⊥) → ((box : DynBox (Unit {0} ⊎ X) Global F) (value : F (inl tt)) → seen (record box { vtable = inl tt; value = value }) ≡ read value) →
      (old new : List (DynBox (Unit {0} ⊎ X) Global F)) (one : Standing) → map seen new ≡ map seen old ++ one ∷ [] → map (read_of read) new ≡ map (read_of read) old ++ one ∷ []
  one_alike seen read none same old new one more = sym (all_alike seen read none same new) ∙ more ∙ ap (λ l. l ++ one ∷ []) (all_alike seen read none same old)

-- neither of two tables is there
pub no_other : ⊥ ⊎ ⊥ → ⊥
no_other (inl e) = e
no_other (inr e) = e

-- what was pushed, where it was
pub when_ok : {P E : Type 0} (result : Result (Unit {0}) E) → is_err result ≡ false → OnOk result P → P
when_ok (Ok done) fine pushed = pushed
when_ok (Err why) fine pushed = absurd (cc)

-- Branches that were told nothing

abbrev pub fresh_of : Plan → Standing
fresh_of plan = untold Active (record { plan = plan; mark = 0 })

pub fresh_active : (plans : List Plan) → AreIn Active (map fresh_of plans)
fresh_active [] = All-nil (λ (s : Standing). s.phase ≡ Active)
fresh_active (plan ∷ plans) = All-cons (λ (s : Standing). s.phase ≡ Active) (fresh_of plan) (map fresh_of plans) refl (fresh_active plans)

pub fresh_known : (plans : List Plan) → badges_of (map fresh_of plans) ≡ boxes_of plans
fresh_known [] = refl
fresh_known (plan ∷ plans) = ap (λ l. record { plan = plan; mark = 0 } ∷ l) (fresh_known plans)

-- each letter's branch in its order
pub one_made : (kinds : List ℕ) (place : ℕ) (old new : List Standing) → place < length kinds → old ≡ map fresh_of (plans_of (take place kinds)) → new ≡ old ++ fresh_of (plan_of (get_or kinds place 0)) ∷ [] → new ≡ map fresh_of (plans_of (take (place + 1) kinds))
one_made kinds place old new few so more =
    let taken = take_more kinds place 0 few in
    more ∙ ap (λ l. l ++ fresh_of (plan_of (get_or kinds place 0)) ∷ []) so
    ∙ sym (ap (λ l. map fresh_of (plans_of l)) taken ∙ ap (map fresh_of) (map-append plan_of (take place kinds) (get_or kinds place 0 ∷ [])) ∙ map-append fresh_of (plans_of (take place kinds)) (plan_of (get_or kinds place 0) ∷ []))

pub all_made : (kinds : List ℕ) (count : ℕ) (made : List Standing) → length kinds ≤ count → made ≡ map fresh_of (plans_of (take count kinds)) → made ≡ map fresh_of (plans_of kinds)
all_made kinds count made past so = so ∙ ap (λ l. map fresh_of (plans_of l)) (take_all count kinds past)

-- one more was made
pub one_longer : {X Y : Type 0} (f : X → Y) (old new : List X) (y : Y) → map f new ≡ map f old ++ y ∷ [] → length new ≡ length old + 1
one_longer f old new y is = sym (length-map new f) ∙ ap length is ∙ length-append (map f old) (y ∷ []) ∙ ap (λ n. n + 1) (length-map old f)
