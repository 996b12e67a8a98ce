-- What is found in a list of which an item is changed or taken out, where at most one passes.
use Rattle.std.proofs.Common.{◌≡◌, Bool, true, false, List, [], ◌∷◌, ◌++◌, Option, Some, None, cond, refl, ap, subst, sym}
use Rattle.std.specs.Prelude.{◌||◌, not, find, map}
use Rattle.std.specs.List.{list_all, list_any}
use Rattle.std.proofs.lemmas.Bool.{and_from, and_parts, both_ways, not-true, not_from_false, or_from, or_parts}
use Rattle.std.proofs.lemmas.Option.{none-some, same_Some}
use Rattle.tip_table.specs.Lists.{changed, without}
use Rattle.tip_machine.specs.Invariants.Links.{are_distinct}
use Rattle.tip_machine.proofs.Lists.{none-found}

module _ {T : Type 0} (p : T → Bool) where
  -- at most one passes
  abbrev pub Once : List T → Type 0
  Once [] = Unit {0}
  Once (x ∷ xs) = (p x ≡ true → list_any p xs ≡ false) × Once xs

  pub none_there : (xs : List T) → list_any p xs ≡ false → find p xs ≡ None
  none_there [] none = refl
  none_there (x ∷ xs) none = let parts = or_parts (p x) (list_any p xs) none in rw parts.0 (none_there xs parts.1)

  -- what becomes of the one that was found
  abbrev pub turned : (T → T) → Option T → Option T
  turned f None = None
  turned f (Some x) = cond (p (f x)) (Some (f x)) None

  pub find_mapped : (f : T → T) (xs : List T) → Once xs → ((x : T) → p x ≡ false → p (f x) ≡ false) → find p (map f xs) ≡ turned f (find p xs)
  find_mapped f [] once fails = refl
  find_mapped f (x ∷ xs) once fails = step (p x) refl once.0 (find_mapped f xs once.1 fails) where
    none_mapped : (ys : List T) → list_any p ys ≡ false → find p (map f ys) ≡ None
    none_mapped [] none = refl
    none_mapped (y ∷ ys) none = let parts = or_parts (p y) (list_any p ys) none in rw (fails y parts.0) (none_mapped ys parts.1)

    step : (b : Bool) → p x ≡ b → (b ≡ true → list_any p xs ≡ false) → find p (map f xs) ≡ turned f (find p xs) → cond (p (f x)) (Some (f x)) (find p (map f xs)) ≡ turned f (cond b (Some x) (find p xs))
    step true is none rest = ap (cond (p (f x)) (Some (f x))) (none_mapped xs (none refl))
    step false is none rest = rw (fails x is) rest

  -- the one that passes is changed
  pub find_at : (test : T → Bool) (f : T → T) (xs : List T) (x : T) → Once xs → find test xs ≡ Some x → p x ≡ true → find p (changed test f xs) ≡ cond (p (f x)) (Some (f x)) None
  find_at test f [] x once is passes = absurd (none-some x is)
  find_at test f (y ∷ ys) x once is passes = step (test y) (p y) refl once.0 is (find_at test f ys x once.1) where
    step : (b c : Bool) → p y ≡ c → (c ≡ true → list_any p ys ≡ false) → cond b (Some y) (find test ys) ≡ Some x → (find test ys ≡ Some x → p x ≡ true → find p (changed test f ys) ≡ cond (p (f x)) (Some (f x)) None) → find p (cond b (f y ∷ ys) (y ∷ changed test f ys)) ≡ cond (p (f x)) (Some (f x)) None
    step true true here none is later = let same = same_Some y x is in subst (λ z. cond (p (f z)) (Some (f z)) (find p ys) ≡ cond (p (f x)) (Some (f x)) None) (sym same) (ap (cond (p (f x)) (Some (f x))) (none_there ys (none refl)))
    step true false here none is later = absurd (both_ways (p x) (subst (λ z. p z ≡ false) (same_Some y x is) here) passes)
    step false true here none is later = absurd (both_ways (p x) (none-found p test ys x is (none refl)) passes)
    step false false here none is later = rw here (later is passes)

  -- one that didn't pass comes to pass, the only one
  pub find_new : (test : T → Bool) (f : T → T) (xs : List T) (x : T) → list_any p xs ≡ false → find test xs ≡ Some x → p (f x) ≡ true → find p (changed test f xs) ≡ Some (f x)
  find_new test f [] x none is passes = absurd (none-some x is)
  find_new test f (y ∷ ys) x none is passes = let parts = or_parts (p y) (list_any p ys) none in step (test y) parts.0 is (λ later. find_new test f ys x parts.1 later passes) where
    step : (b : Bool) → p y ≡ false → cond b (Some y) (find test ys) ≡ Some x → (find test ys ≡ Some x → find p (changed test f ys) ≡ Some (f x)) → find p (cond b (f y ∷ ys) (y ∷ changed test f ys)) ≡ Some (f x)
    step true fails is later = let same = same_Some y x is in subst (λ z. cond (p (f z)) (Some (f z)) (find p ys) ≡ Some (f x)) (sym same) (rw passes refl)
    step false fails is later = rw fails (later is)

  -- one that fails before and after is changed
  pub find_apart : (test : T → Bool) (f : T → T) (xs : List T) (x : T) → find test xs ≡ Some x → p x ≡ false → p (f x) ≡ false → find p (changed test f xs) ≡ find p xs
  find_apart test f [] x is before after = refl
  find_apart test f (y ∷ ys) x is before after = step (test y) is (λ later. find_apart test f ys x later before after) where
    step : (b : Bool) → cond b (Some y) (find test ys) ≡ Some x → (find test ys ≡ Some x → find p (changed test f ys) ≡ find p ys) → find p (cond b (f y ∷ ys) (y ∷ changed test f ys)) ≡ cond (p y) (Some y) (find p ys)
    step true is later = let same = same_Some y x is in subst (λ z. cond (p (f z)) (Some (f z)) (find p ys) ≡ cond (p z) (Some z) (find p ys)) (sym same) (rw (before, after) refl)
    step false is later = ap (cond (p y) (Some y)) (later is)

  pub any_apart : (test : T → Bool) (f : T → T) (xs : List T) (x : T) → find test xs ≡ Some x → p x ≡ false → p (f x) ≡ false → list_any p (changed test f xs) ≡ list_any p xs
  any_apart test f [] x is before after = refl
  any_apart test f (y ∷ ys) x is before after = step (test y) is (λ later. any_apart test f ys x later before after) where
    step : (b : Bool) → cond b (Some y) (find test ys) ≡ Some x → (find test ys ≡ Some x → list_any p (changed test f ys) ≡ list_any p ys) → list_any p (cond b (f y ∷ ys) (y ∷ changed test f ys)) ≡ p y || list_any p ys
    step true is later = let same = same_Some y x is in subst (λ z. p (f z) || list_any p ys ≡ p z || list_any p ys) (sym same) (rw (before, after) refl)
    step false is later = ap (λ b. p y || b) (later is)

  -- it is taken out
  pub find_gone : (test : T → Bool) (xs : List T) (x : T) → Once xs → find test xs ≡ Some x → p x ≡ true → find p (without test xs) ≡ None
  find_gone test [] x once is passes = absurd (none-some x is)
  find_gone test (y ∷ ys) x once is passes = step (test y) (p y) refl once.0 is (find_gone test ys x once.1) where
    step : (b c : Bool) → p y ≡ c → (c ≡ true → list_any p ys ≡ false) → cond b (Some y) (find test ys) ≡ Some x → (find test ys ≡ Some x → p x ≡ true → find p (without test ys) ≡ None) → find p (cond b ys (y ∷ without test ys)) ≡ None
    step true true here none is later = none_there ys (none refl)
    step true false here none is later = absurd (both_ways (p x) (subst (λ z. p z ≡ false) (same_Some y x is) here) passes)
    step false true here none is later = absurd (both_ways (p x) (none-found p test ys x is (none refl)) passes)
    step false false here none is later = rw here (later is passes)

  pub find_left : (test : T → Bool) (xs : List T) (x : T) → find test xs ≡ Some x → p x ≡ false → find p (without test xs) ≡ find p xs
  find_left test [] x is fails = refl
  find_left test (y ∷ ys) x is fails = step (test y) is (λ later. find_left test ys x later fails) where
    step : (b : Bool) → cond b (Some y) (find test ys) ≡ Some x → (find test ys ≡ Some x → find p (without test ys) ≡ find p ys) → find p (cond b ys (y ∷ without test ys)) ≡ cond (p y) (Some y) (find p ys)
    step true is later = let same = same_Some y x is in subst (λ z. find p ys ≡ cond (p z) (Some z) (find p ys)) (sym same) (rw fails refl)
    step false is later = ap (cond (p y) (Some y)) (later is)

  pub any_left : (test : T → Bool) (xs : List T) (x : T) → find test xs ≡ Some x → p x ≡ false → list_any p (without test xs) ≡ list_any p xs
  any_left test [] x is fails = refl
  any_left test (y ∷ ys) x is fails = step (test y) is (λ later. any_left test ys x later fails) where
    step : (b : Bool) → cond b (Some y) (find test ys) ≡ Some x → (find test ys ≡ Some x → list_any p (without test ys) ≡ list_any p ys) → list_any p (cond b ys (y ∷ without test ys)) ≡ p y || list_any p ys
    step true is later = let same = same_Some y x is in subst (λ z. list_any p ys ≡ p z || list_any p ys) (sym same) (rw fails refl)
    step false is later = ap (λ b. p y || b) (later is)

  -- each stays as it is, or fails before and after
  pub find_beside : (f : T → T) (xs : List T) → ((x : T) → cond (p x) (Some x) None ≡ cond (p (f x)) (Some (f x)) None) → find p (map f xs) ≡ find p xs
  find_beside f [] same = refl
  find_beside f (x ∷ xs) same = step (p x) (p (f x)) (same x) (find_beside f xs same) where
    step : (b c : Bool) → cond b (Some x) None ≡ cond c (Some (f x)) None → find p (map f xs) ≡ find p xs → cond c (Some (f x)) (find p (map f xs)) ≡ cond b (Some x) (find p xs)
    step true true is rest = sym is
    step true false is rest = absurd (none-some x (sym is))
    step false true is rest = absurd (none-some (f x) is)
    step false false is rest = rest

  pub any_beside : (f : T → T) (xs : List T) → ((x : T) → p (f x) ≡ p x) → list_any p (map f xs) ≡ list_any p xs
  any_beside f [] same = refl
  any_beside f (x ∷ xs) same = λ i. same x i || any_beside f xs same i

-- Lists of which no two items are the same

module _ {T : Type 0} (same : T → T → Bool) where
  pub once_of : (p : T → Bool) (xs : List T) → ((x y : T) → p x ≡ true → p y ≡ true → same x y ≡ true) → are_distinct same xs ≡ true → Once p xs
  once_of p [] alike apart = tt
  once_of p (x ∷ xs) alike apart = let parts = and_parts (not (list_any (same x) xs)) (are_distinct same xs) apart in ((λ here. none xs (λ y. alike x y here) (not-true _ parts.0)), once_of p xs alike parts.1) where
    fails : (b c : Bool) → (b ≡ true → c ≡ true) → c ≡ false → b ≡ false
    fails true c goes never = absurd (both_ways c never (goes refl))
    fails false c goes never = refl

    none : (ys : List T) → ((y : T) → p y ≡ true → same x y ≡ true) → list_any (same x) ys ≡ false → list_any p ys ≡ false
    none [] goes never = refl
    none (y ∷ ys) goes never = let parts = or_parts (same x y) (list_any (same x) ys) never in or_from _ _ (fails (p y) (same x y) (goes y) parts.0) (none ys goes parts.1)

  any_turned : (p q : T → Bool) (f : T → T) (xs : List T) → ((x : T) → p x ≡ false → q (f x) ≡ false) → list_any p xs ≡ false → list_any q (map f xs) ≡ false
  any_turned p q f [] fails none = refl
  any_turned p q f (x ∷ xs) fails none = let parts = or_parts (p x) (list_any p xs) none in or_from _ _ (fails x parts.0) (any_turned p q f xs fails parts.1)

  pub apart_mapped : (f : T → T) (xs : List T) → ((x y : T) → same x y ≡ false → same (f x) (f y) ≡ false) → are_distinct same xs ≡ true → are_distinct same (map f xs) ≡ true
  apart_mapped f [] fails apart = refl
  apart_mapped f (x ∷ xs) fails apart = let parts = and_parts (not (list_any (same x) xs)) (are_distinct same xs) apart in and_from _ _ (not_from_false _ (any_turned (same x) (same (f x)) f xs (fails x) (not-true _ parts.0))) (apart_mapped f xs fails parts.1)

  any_without : (p test : T → Bool) (xs : List T) → list_any p xs ≡ false → list_any p (without test xs) ≡ false
  any_without p test [] none = refl
  any_without p test (x ∷ xs) none = let parts = or_parts (p x) (list_any p xs) none in step (test x) parts.0 parts.1 (any_without p test xs parts.1) where
    step : (b : Bool) → p x ≡ false → list_any p xs ≡ false → list_any p (without test xs) ≡ false → list_any p (cond b xs (x ∷ without test xs)) ≡ false
    step true first rest later = rest
    step false first rest later = or_from _ _ first later

  pub apart_less : (test : T → Bool) (xs : List T) → are_distinct same xs ≡ true → are_distinct same (without test xs) ≡ true
  apart_less test [] apart = refl
  apart_less test (x ∷ xs) apart = let parts = and_parts (not (list_any (same x) xs)) (are_distinct same xs) apart in step (test x) (any_without (same x) test xs (not-true _ parts.0)) parts.1 (apart_less test xs parts.1) where
    step : (b : Bool) → list_any (same x) (without test xs) ≡ false → are_distinct same xs ≡ true → are_distinct same (without test xs) ≡ true → are_distinct same (cond b xs (x ∷ without test xs)) ≡ true
    step true none rest later = rest
    step false none rest later = and_from _ _ (not_from_false _ none) later

  -- the one that is found changes, and is the same as none
  any_set : (p test : T → Bool) (f : T → T) (xs : List T) (x : T) → find test xs ≡ Some x → p (f x) ≡ false → list_any p xs ≡ false → list_any p (changed test f xs) ≡ false
  any_set p test f [] x is fails none = refl
  any_set p test f (y ∷ ys) x is fails none = let parts = or_parts (p y) (list_any p ys) none in step (test y) is parts.0 parts.1 (λ later. any_set p test f ys x later fails parts.1) where
    step : (b : Bool) → cond b (Some y) (find test ys) ≡ Some x → p y ≡ false → list_any p ys ≡ false → (find test ys ≡ Some x → list_any p (changed test f ys) ≡ false) → list_any p (cond b (f y ∷ ys) (y ∷ changed test f ys)) ≡ false
    step true is first rest later = or_from _ _ (subst (λ z. p (f z) ≡ false) (sym (same_Some y x is)) fails) rest
    step false is first rest later = or_from _ _ first (later is)

  -- what is the same as the new item was the same as the old one, or none is the same as the new one
  pub apart_set : (test : T → Bool) (f : T → T) (xs : List T) (x : T) → find test xs ≡ Some x → list_all (λ y. not (same y (f x)) || same y x) xs ≡ true → list_all (λ y. not (same (f x) y) || same x y) xs ≡ true → are_distinct same xs ≡ true → are_distinct same (changed test f xs) ≡ true
  apart_set test f [] x is before after apart = refl
  apart_set test f (y ∷ ys) x is before after apart =
      let parts = and_parts (not (list_any (same y) ys)) (are_distinct same ys) apart in
      let first = and_parts (not (same y (f x)) || same y x) _ before in
      let last = and_parts (not (same (f x) y) || same x y) _ after in
      step (test y) is first.0 (not-true _ parts.0) parts.1 last.1 (λ later. apart_set test f ys x later first.1 last.1 parts.1) where
        other : (a b : Bool) → not a || b ≡ true → b ≡ false → a ≡ false
        other true b is never = absurd (both_ways b never is)
        other false b is never = refl

        none : (zs : List T) → list_all (λ z. not (same (f x) z) || same x z) zs ≡ true → list_any (same x) zs ≡ false → list_any (same (f x)) zs ≡ false
        none [] all never = refl
        none (z ∷ zs) all never = let a = and_parts (not (same (f x) z) || same x z) _ all in let b = or_parts (same x z) (list_any (same x) zs) never in or_from _ _ (other (same (f x) z) (same x z) a.0 b.0) (none zs a.1 b.1)

        step : (b : Bool) → cond b (Some y) (find test ys) ≡ Some x → not (same y (f x)) || same y x ≡ true → list_any (same y) ys ≡ false → are_distinct same ys ≡ true → list_all (λ z. not (same (f x) z) || same x z) ys ≡ true → (find test ys ≡ Some x → are_distinct same (changed test f ys) ≡ true) → are_distinct same (cond b (f y ∷ ys) (y ∷ changed test f ys)) ≡ true
        step true is first never rest all later = let at = same_Some y x is in and_from _ _ (not_from_false _ (subst (λ z. list_any (same (f z)) ys ≡ false) (sym at) (none ys all (subst (λ z. list_any (same z) ys ≡ false) at never)))) rest
        step false is first never rest all later = and_from _ _ (not_from_false _ (any_set (same y) test f ys x is (other (same y (f x)) (same y x) first (none-found (same y) test ys x is never)) never)) (later is)

  pub apart_more : (xs : List T) (x : T) → list_any (λ y. same y x) xs ≡ false → are_distinct same xs ≡ true → are_distinct same (xs ++ x ∷ []) ≡ true
  apart_more [] x none apart = refl
  apart_more (y ∷ ys) x none apart =
      let parts = and_parts (not (list_any (same y) ys)) (are_distinct same ys) apart in
      let first = or_parts (same y x) _ none in
      and_from _ _ (not_from_false _ (none_more ys (not-true _ parts.0) first.0)) (apart_more ys x first.1 parts.1) where
        none_more : (zs : List T) → list_any (same y) zs ≡ false → same y x ≡ false → list_any (same y) (zs ++ x ∷ []) ≡ false
        none_more [] never differs = or_from _ _ differs refl
        none_more (z ∷ zs) never differs = let p = or_parts (same y z) (list_any (same y) zs) never in or_from _ _ p.0 (none_more zs p.1 differs)
