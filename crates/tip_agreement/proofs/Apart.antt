-- Lists of which no two items are the same, and what holds of each item.
use Rattle.std.proofs.Common.{◌≡◌, Bool, true, false, List, [], ◌∷◌, ◌++◌, Some, cond, refl, subst}
use Rattle.std.specs.Prelude.{◌&&◌, not, find, map, filter}
use Rattle.std.specs.List.{list_all, list_any}
use Rattle.std.proofs.lemmas.Bool.{and_from, and_parts, both_ways, not-true, or_from, or_parts}
use Rattle.std.proofs.lemmas.Option.{none-some, same_Some}
use Rattle.tip_table.specs.Lists.{changed, without}
use Rattle.tip_machine.specs.Invariants.Links.{are_distinct}

module _ {T : Type 0} where
  -- each item

  pub all_more : (p q : T → Bool) (xs : List T) → ((x : T) → p x ≡ true → q x ≡ true) → list_all p xs ≡ true → list_all q xs ≡ true
  all_more p q [] more all = refl
  all_more p q (x ∷ xs) more all = let parts = and_parts (p x) (list_all p xs) all in and_from _ _ (more x parts.0) (all_more p q xs more parts.1)

  pub all_found : (p q : T → Bool) (xs : List T) (x : T) → list_all p xs ≡ true → find q xs ≡ Some x → p x ≡ true
  all_found p q [] x all is = absurd (none-some x is)
  all_found p q (y ∷ ys) x all is = let parts = and_parts (p y) (list_all p ys) all in step (q y) parts.0 (all_found p q ys x parts.1) is where
    step : (b : Bool) → p y ≡ true → (find q ys ≡ Some x → p x ≡ true) → cond b (Some y) (find q ys) ≡ Some x → p x ≡ true
    step true first later is = subst (λ z. p z ≡ true) (same_Some y x is) first
    step false first later is = later is

  -- what is none of them is not found
  pub none_of_all : (p q : T → Bool) (xs : List T) → ((x : T) → p x ≡ true → q x ≡ false) → list_all p xs ≡ true → list_any q xs ≡ false
  none_of_all p q [] fails all = refl
  none_of_all p q (x ∷ xs) fails all = let parts = and_parts (p x) (list_all p xs) all in or_from _ _ (fails x parts.0) (none_of_all p q xs fails parts.1)

  pub all_of_none : (p q : T → Bool) (xs : List T) → ((x : T) → q x ≡ false → p x ≡ true) → list_any q xs ≡ false → list_all p xs ≡ true
  all_of_none p q [] holds none = refl
  all_of_none p q (x ∷ xs) holds none = let parts = or_parts (q x) (list_any q xs) none in and_from _ _ (holds x parts.0) (all_of_none p q xs holds parts.1)

  pub all_both : (p q : T → Bool) (xs : List T) → list_all p xs ≡ true → list_all q xs ≡ true → list_all (λ x. p x && q x) xs ≡ true
  all_both p q [] these those = refl
  all_both p q (x ∷ xs) these those =
      let this = and_parts (p x) (list_all p xs) these in
      let that = and_parts (q x) (list_all q xs) those in
      and_from _ _ (and_from _ _ this.0 that.0) (all_both p q xs this.1 that.1)

  pub all_added : (p : T → Bool) (xs : List T) (x : T) → list_all p xs ≡ true → p x ≡ true → list_all p (xs ++ x ∷ []) ≡ true
  all_added p [] x all holds = and_from _ _ holds refl
  all_added p (y ∷ ys) x all holds = let parts = and_parts (p y) (list_all p ys) all in and_from _ _ parts.0 (all_added p ys x parts.1 holds)

  pub all_changed : (p : T → Bool) (test : T → Bool) (f : T → T) (xs : List T) → ((x : T) → find test xs ≡ Some x → p x ≡ true → p (f x) ≡ true) → list_all p xs ≡ true → list_all p (changed test f xs) ≡ true
  all_changed p test f [] holds all = refl
  all_changed p test f (x ∷ xs) holds all = let parts = and_parts (p x) (list_all p xs) all in step (test x) holds parts.0 parts.1 (λ later. all_changed p test f xs later parts.1) where
    step : (b : Bool) → ((y : T) → cond b (Some x) (find test xs) ≡ Some y → p y ≡ true → p (f y) ≡ true) → p x ≡ true → list_all p xs ≡ true → (((y : T) → find test xs ≡ Some y → p y ≡ true → p (f y) ≡ true) → list_all p (changed test f xs) ≡ true) → list_all p (cond b (f x ∷ xs) (x ∷ changed test f xs)) ≡ true
    step true holds first rest later = and_from _ _ (holds x refl first) rest
    step false holds first rest later = and_from _ _ first (later holds)

  pub all_without : (p : T → Bool) (test : T → Bool) (xs : List T) → list_all p xs ≡ true → list_all p (without test xs) ≡ true
  all_without p test [] all = refl
  all_without p test (x ∷ xs) all = let parts = and_parts (p x) (list_all p xs) all in step (test x) parts.0 parts.1 (all_without p test xs parts.1) where
    step : (b : Bool) → p x ≡ true → list_all p xs ≡ true → list_all p (without test xs) ≡ true → list_all p (cond b xs (x ∷ without test xs)) ≡ true
    step true first rest later = rest
    step false first rest later = and_from _ _ first later

  pub all_mapped : (p : T → Bool) (f : T → T) (xs : List T) → ((x : T) → p x ≡ true → p (f x) ≡ true) → list_all p xs ≡ true → list_all p (map f xs) ≡ true
  all_mapped p f [] holds all = refl
  all_mapped p f (x ∷ xs) holds all = let parts = and_parts (p x) (list_all p xs) all in and_from _ _ (holds x parts.0) (all_mapped p f xs holds parts.1)

  -- of those that pass, no two are the same: of two that are found apart, neither is the other
  module _ (test : T → Bool) (same : T → T → Bool) where
    none_kept : (p q : T → Bool) (xs : List T) (x : T) → find q xs ≡ Some x → test x ≡ true → list_any p (filter test xs) ≡ false → p x ≡ false
    none_kept p q [] x is passes none = absurd (none-some x is)
    none_kept p q (y ∷ ys) x is passes none = step (q y) (test y) refl is none (none_kept p q ys x) where
      step : (b c : Bool) → test y ≡ c → cond b (Some y) (find q ys) ≡ Some x → list_any p (cond c (y ∷ filter test ys) (filter test ys)) ≡ false → (find q ys ≡ Some x → test x ≡ true → list_any p (filter test ys) ≡ false → p x ≡ false) → p x ≡ false
      step true true holds is none later = subst (λ z. p z ≡ false) (same_Some y x is) (or_parts (p y) (list_any p (filter test ys)) none).0
      step true false fails is none later = absurd (both_ways (test x) (subst (λ z. test z ≡ false) (same_Some y x is) fails) passes)
      step false true holds is none later = later is passes (or_parts (p y) (list_any p (filter test ys)) none).1
      step false false fails is none later = later is passes none

    pub kept_apart : ((x y : T) → same x y ≡ true → same y x ≡ true) → (p q : T → Bool) (xs : List T) (x y : T) → ((z : T) → p z ≡ true → q z ≡ true → ⊥) → find p xs ≡ Some x → find q xs ≡ Some y → test x ≡ true → test y ≡ true → are_distinct same (filter test xs) ≡ true → same x y ≡ false
    kept_apart turns p q [] x y apart first second here there distinct = absurd (none-some x first)
    kept_apart turns p q (z ∷ zs) x y apart first second here there distinct = step (p z) (q z) (test z) refl refl refl first second distinct (kept_apart turns p q zs x y apart) where
      turned : (b : Bool) → same x y ≡ b → same y x ≡ false → b ≡ false
      turned true is not = absurd (both_ways (same y x) not (turns x y is))
      turned false is not = refl

      step : (b c d : Bool) → p z ≡ b → q z ≡ c → test z ≡ d → cond b (Some z) (find p zs) ≡ Some x → cond c (Some z) (find q zs) ≡ Some y → are_distinct same (cond d (z ∷ filter test zs) (filter test zs)) ≡ true → (find p zs ≡ Some x → find q zs ≡ Some y → test x ≡ true → test y ≡ true → are_distinct same (filter test zs) ≡ true → same x y ≡ false) → same x y ≡ false
      step true true d passes also is first second distinct later = absurd (apart z passes also)
      step true false true passes fails is first second distinct later =
          let at = same_Some z x first in
          subst (λ w. same w y ≡ false) at (none_kept (same z) q zs y second there (not-true _ (and_parts _ _ distinct).0))
      step true false false passes fails is first second distinct later = absurd (both_ways (test x) (subst (λ w. test w ≡ false) (same_Some z x first) is) here)
      step false true true fails passes is first second distinct later =
          let at = same_Some z y second in
          turned (same x y) refl (subst (λ w. same w x ≡ false) at (none_kept (same z) p zs x first here (not-true _ (and_parts _ _ distinct).0)))
      step false true false fails passes is first second distinct later = absurd (both_ways (test y) (subst (λ w. test w ≡ false) (same_Some z y second) is) there)
      step false false true fails also is first second distinct later = later first second here there (and_parts _ _ distinct).1
      step false false false fails also is first second distinct later = later first second here there distinct
