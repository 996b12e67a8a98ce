-- Lists of which an item is changed, taken out or added: what a test finds there.
use Rattle.std.proofs.Common.{◌≡◌, Bool, true, false, List, [], ◌∷◌, ◌++◌, Some, None, cond, refl, ap, subst}
use Rattle.std.specs.Prelude.{◌||◌, find, is_some, map}
use Rattle.std.specs.List.{list_any, All}
use Rattle.std.proofs.lemmas.Bool.{or_from, or_parts}
use Rattle.std.proofs.lemmas.List.Elements.{All-cons, All-head, All-tail}
use Rattle.std.proofs.lemmas.Option.{same_Some, none-some}
use Rattle.tip_table.specs.Lists.{changed, without}

module _ {T : Type 0} (p : T → Bool) where
  -- Where what is changed, taken out or added fails the test, it finds what it found

  pub find-changed : (q : T → Bool) (f : T → T) (xs : List T) → ((x : T) → q x ≡ true → (p x ≡ false) × (p (f x) ≡ false)) → find p (changed q f xs) ≡ find p xs
  find-changed q f [] fail = refl
  find-changed q f (x ∷ xs) fail = step (q x) (fail x) (find-changed q f xs fail) where
    step : (b : Bool) → (b ≡ true → (p x ≡ false) × (p (f x) ≡ false)) → find p (changed q f xs) ≡ find p xs → find p (cond b (f x ∷ xs) (x ∷ changed q f xs)) ≡ find p (x ∷ xs)
    step true both rest = rw ((both refl).0, (both refl).1) refl
    step false both rest = ap (cond (p x) (Some x)) rest

  pub find-without : (q : T → Bool) (xs : List T) → ((x : T) → q x ≡ true → p x ≡ false) → find p (without q xs) ≡ find p xs
  find-without q [] fail = refl
  find-without q (x ∷ xs) fail = step (q x) (fail x) (find-without q xs fail) where
    step : (b : Bool) → (b ≡ true → p x ≡ false) → find p (without q xs) ≡ find p xs → find p (cond b xs (x ∷ without q xs)) ≡ find p (x ∷ xs)
    step true fails rest = rw (fails refl) refl
    step false fails rest = ap (cond (p x) (Some x)) rest

  pub find-added : (xs : List T) (x : T) → p x ≡ false → find p (xs ++ x ∷ []) ≡ find p xs
  find-added [] x fails = ap (λ b. cond b (Some x) None) fails
  find-added (y ∷ ys) x fails = ap (cond (p y) (Some y)) (find-added ys x fails)

  pub find_any : (xs : List T) → is_some (find p xs) ≡ list_any p xs
  find_any [] = refl
  find_any (x ∷ xs) = step (p x) (find_any xs) where
    step : (b : Bool) → is_some (find p xs) ≡ list_any p xs → is_some (cond b (Some x) (find p xs)) ≡ b || list_any p xs
    step true rest = refl
    step false rest = rest

  -- Where none passes, none passes afterwards

  pub none-changed : (q : T → Bool) (f : T → T) (xs : List T) → ((x : T) → q x ≡ true → p x ≡ false → p (f x) ≡ false) → list_any p xs ≡ false → list_any p (changed q f xs) ≡ false
  none-changed q f [] fails none = refl
  none-changed q f (x ∷ xs) fails none = let parts = or_parts (p x) (list_any p xs) none in step (q x) (fails x) parts.0 parts.1 (none-changed q f xs fails parts.1) where
    step : (b : Bool) → (b ≡ true → p x ≡ false → p (f x) ≡ false) → p x ≡ false → list_any p xs ≡ false → list_any p (changed q f xs) ≡ false → list_any p (cond b (f x ∷ xs) (x ∷ changed q f xs)) ≡ false
    step true fails first rest later = or_from (p (f x)) (list_any p xs) (fails refl first) rest
    step false fails first rest later = or_from (p x) (list_any p (changed q f xs)) first later

  pub none-without : (q : T → Bool) (xs : List T) → list_any p xs ≡ false → list_any p (without q xs) ≡ false
  none-without q [] none = refl
  none-without q (x ∷ xs) none = let parts = or_parts (p x) (list_any p xs) none in step (q x) parts.0 parts.1 (none-without q xs parts.1) where
    step : (b : Bool) → p x ≡ false → list_any p xs ≡ false → list_any p (without q xs) ≡ false → list_any p (cond b xs (x ∷ without q xs)) ≡ false
    step true first rest later = rest
    step false first rest later = or_from (p x) (list_any p (without q xs)) first later

  pub none-map : (f : T → T) (xs : List T) → ((x : T) → p x ≡ false → p (f x) ≡ false) → list_any p xs ≡ false → list_any p (map f xs) ≡ false
  none-map f [] fails none = refl
  none-map f (x ∷ xs) fails none = let parts = or_parts (p x) (list_any p xs) none in or_from (p (f x)) (list_any p (map f xs)) (fails x parts.0) (none-map f xs fails parts.1)

  pub none-added : (xs : List T) (x : T) → list_any p xs ≡ false → p x ≡ false → list_any p (xs ++ x ∷ []) ≡ false
  none-added [] x none fails = or_from (p x) false fails refl
  none-added (y ∷ ys) x none fails = let parts = or_parts (p y) (list_any p ys) none in or_from (p y) (list_any p (ys ++ x ∷ [])) parts.0 (none-added ys x parts.1 fails)

  -- what is found is one of them
  pub none-found : (q : T → Bool) (xs : List T) (x : T) → find q xs ≡ Some x → list_any p xs ≡ false → p x ≡ false
  none-found q [] x is none = absurd (none-some x is)
  none-found q (y ∷ ys) x is none = let parts = or_parts (p y) (list_any p ys) none in step (q y) parts.0 (λ later. none-found q ys x later parts.1) is where
    step : (b : Bool) → p y ≡ false → (find q ys ≡ Some x → p x ≡ false) → cond b (Some y) (find q ys) ≡ Some x → p x ≡ false
    step true first later is = subst (λ z. p z ≡ false) (same_Some y x is) first
    step false first later is = later is

-- What holds of all

module _ {T : Type 0} (P : T → Type 0) (q : T → Bool) where
  pub all-changed : (f : T → T) (xs : List T) → ((x : T) → find q xs ≡ Some x → P x → P (f x)) → All P xs → All P (changed q f xs)
  all-changed f [] keeps all = all
  all-changed f (x ∷ xs) keeps all = step (q x) keeps (λ keeps. all-changed f xs keeps (All-tail P x xs all)) where
    step : (b : Bool) → ((y : T) → cond b (Some x) (find q xs) ≡ Some y → P y → P (f y)) → (((y : T) → find q xs ≡ Some y → P y → P (f y)) → All P (changed q f xs)) → All P (cond b (f x ∷ xs) (x ∷ changed q f xs))
    step true keeps later = All-cons P (f x) xs (keeps x refl (All-head P x xs all)) (All-tail P x xs all)
    step false keeps later = All-cons P x (changed q f xs) (All-head P x xs all) (later keeps)

  pub all-without : (xs : List T) → All P xs → All P (without q xs)
  all-without [] all = all
  all-without (x ∷ xs) all = step (q x) (all-without xs (All-tail P x xs all)) where
    step : (b : Bool) → All P (without q xs) → All P (cond b xs (x ∷ without q xs))
    step true later = All-tail P x xs all
    step false later = All-cons P x (without q xs) (All-head P x xs all) later

  -- what is found is one of them
  pub all-found : (xs : List T) (x : T) → find q xs ≡ Some x → All P xs → P x
  all-found [] x is all = absurd (none-some x is)
  all-found (y ∷ ys) x is all = step (q y) is (λ later. all-found ys x later (All-tail P y ys all)) where
    step : (b : Bool) → cond b (Some y) (find q ys) ≡ Some x → (find q ys ≡ Some x → P x) → P x
    step true is later = subst P (same_Some y x is) (All-head P y ys all)
    step false is later = later is
