-- Elements of lists, and of lists of lists, by their places.
use Rattle.std.proofs.Common.{◌≡◌, ℕ, zero, suc, ◌+◌, ◌<◌, List, [], ◌∷◌, ◌++◌, length, get_or, take, drop, Option, Some, None, refl, sym, ap, ◌∙◌, subst, arith}
use Rattle.std.specs.Prelude.{slice_get, slice_set, map, All, IsSomeAnd}
use Rattle.std.specs.Option.{option_map}
use Rattle.std.proofs.lemmas.List.{take_more, take-append-drop, drop_more, map-append}
use Rattle.std.proofs.lemmas.List.Elements.{All-head, All-tail}
use Rattle.std.proofs.lemmas.Option.{slice_get_within, slice_get-get_or, slice_get-map, get_or_from_slice_get}
use Rattle.tip_journal.specs.Journals.{at}

pub All-at : {A : Type 0} (P : A → Type 0) (xs : List A) (k : ℕ) (x : A) → All P xs → slice_get xs k ≡ Some x → P x
All-at P xs k x all is = subst P (get_or_from_slice_get xs k x x is) (all k x (slice_get_within xs k x is))

pub All-from_at : {A : Type 0} (P : A → Type 0) (xs : List A) → ((k : ℕ) (x : A) → slice_get xs k ≡ Some x → P x) → All P xs
All-from_at P xs each k d within = each k (get_or xs k d) (slice_get-get_or xs k d within)

pub All-middle : {A : Type 0} (P : A → Type 0) (xs : List A) (x : A) (ys : List A) → All P (xs ++ x ∷ ys) → P x
All-middle P [] x ys all = All-head P x ys all
All-middle P (z ∷ xs) x ys all = All-middle P xs x ys (All-tail P z (xs ++ x ∷ ys) all)

pub IsSomeAnd-weaker : {A : Type 0} (P Q : A → Type 0) (o : Option A) → ((x : A) → P x → Q x) → IsSomeAnd o P → IsSomeAnd o Q
IsSomeAnd-weaker P Q None gives is = is
IsSomeAnd-weaker P Q (Some x) gives is = gives x is

-- what is there
pub some-of : {A : Type 0} (P : A → Type 0) (o : Option A) → IsSomeAnd o P → (x : A) × (o ≡ Some x) × P x
some-of P None is = absurd is
some-of P (Some x) is = (x, refl, is)

-- the parts of a place in a list of lists
pub at-parts : {A : Type 0} (lists : List (List A)) (realm place : ℕ) (x : A) → at lists realm place ≡ Some x → (list : List A) × (slice_get lists realm ≡ Some list) × (slice_get list place ≡ Some x)
at-parts [] realm place x is = absurd (cc)
at-parts (list ∷ lists) zero place x is = (list, refl, is)
at-parts (list ∷ lists) (suc realm) place x is = at-parts lists realm place x is

pub at-join : {A : Type 0} (lists : List (List A)) (realm place : ℕ) (list : List A) (x : A) → slice_get lists realm ≡ Some list → slice_get list place ≡ Some x → at lists realm place ≡ Some x
at-join lists realm place list x here there = rw here there

pub at-map : {A B : Type 0} (f : A → B) (lists : List (List A)) (realm place : ℕ) → at (map (map f) lists) realm place ≡ option_map f (at lists realm place)
at-map f [] realm place = refl
at-map f (list ∷ lists) zero place = slice_get-map f list place
at-map f (list ∷ lists) (suc realm) place = at-map f lists realm place

pub All-at_all : {A : Type 0} (P : A → Type 0) (lists : List (List A)) (realm place : ℕ) (x : A) → All (All P) lists → at lists realm place ≡ Some x → P x
All-at_all P lists realm place x all is = let parts = at-parts lists realm place x is in All-at P parts.0 place x (All-at (All P) lists realm parts.0 all parts.1) parts.2

pub All-from_at_all : {A : Type 0} (P : A → Type 0) (lists : List (List A)) → ((realm place : ℕ) (x : A) → at lists realm place ≡ Some x → P x) → All (All P) lists
All-from_at_all P lists each = All-from_at (All P) lists (λ realm list here. All-from_at P list (λ place x there. each realm place x (rw here there)))

pub map_more : {A B : Type 0} (f : A → B) (xs : List A) (i : ℕ) (x : A) → i < length xs → x ≡ get_or xs i x → map f (take (i + 1) xs) ≡ map f (take i xs) ++ f x ∷ []
map_more f xs i x within is = ap (map f) (take_more xs i x within ∙ ap (λ y. take i xs ++ y ∷ []) (sym is)) ∙ map-append f (take i xs) (x ∷ [])

-- a list, cut round one of its elements
pub cut-at : {A : Type 0} (xs : List A) (i : ℕ) (x : A) → i < length xs → x ≡ get_or xs i x → xs ≡ take i xs ++ x ∷ drop (i + 1) xs
cut-at xs i x within is = sym (take-append-drop i xs) ∙ ap (λ ys. take i xs ++ ys) (drop_more xs i x within ∙ ap (λ y. y ∷ drop (i + 1) xs) (sym is))

-- one element more is changed, where those behind it are as they were
pub changed-more : {A B : Type 0} (f h : A → B) (now before : List A) (i : ℕ) (x y : A) → i < length now → map f (take i now) ≡ map h (take i before) → drop i now ≡ drop i before → x ≡ get_or now i x → f y ≡ h x → map f (take (i + 1) (slice_set now i y)) ≡ map h (take (i + 1) before)
changed-more f h [] before i x y within done left read is = absurd (omega arith)
changed-more f h (z ∷ now) [] zero x y within done left read is = absurd (cc)
changed-more f h (z ∷ now) (w ∷ before) zero x y within done left read is = let same : z ≡ w = cc in ap (λ v. v ∷ []) (is ∙ ap h (read ∙ same))
changed-more f h (z ∷ now) [] (suc i) x y within done left read is = absurd (cc)
changed-more f h (z ∷ now) (w ∷ before) (suc i) x y within done left read is =
    let first : f z ≡ h w = cc in
    let rest : map f (take i now) ≡ map h (take i before) = cc in
    let next : suc i + 1 ≡ suc (i + 1) = omega arith in
    rw next (λ j. first j ∷ changed-more f h now before i x y (omega arith) rest left read is j)
