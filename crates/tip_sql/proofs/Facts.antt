-- Places, lookups and rows that are taken out.
use Rattle.std.proofs.Common.{◌≡◌, inl, inr, ℤ, List, [], ◌∷◌, map, Bool, true, false, not, filter, find, Option, Some, None, refl, sym, ap, ◌∙◌}
use Rattle.std.specs.List.{list_any}
use Rattle.std.specs.declared.cmp.Ordering.{Ordering}
use Rattle.std.specs.declared.cmp.Ordering.TheVariants.{Less, Equal, Greater}
use Rattle.std.specs.Ordering.{is_eq, int_cmp}
use Rattle.std.specs.FinMap.{int_cmp-IsAntisymmetric}
use Rattle.std.proofs.lemmas.Bool.{and_parts, and_from, cases_Bool}
use Rattle.std.proofs.lemmas.Cmp.{int_cmp_total}
use Rattle.std.specs.Cmp.{eq_by_cmp_equiv}
use Rattle.sqlite.specs.Order.{Row}
use Rattle.sqlite.specs.Tree.{has_rowid, without_rowid}
use Rattle.sqlite.specs.Edit.{without_all}
use Rattle.sqlite_rules.specs.Lists.{Has}
use Rattle.sqlite_rules.proofs.TableLemmas.{without_all_has}
use Rattle.sqlite_rules.proofs.ListLemmas.{has_filtered, has_kept, has_found}
use Rattle.tip_rows.proofs.MemoryLemmas.{same_text, bytes_eq-self}
use Rattle.tip_sql.specs.Places.{Place, same_place}

pub not_true : (b : Bool) → not b ≡ true → b ≡ false
not_true true e = cc
not_true false e = refl

is_equal : (o : Ordering) → is_eq o ≡ true → o ≡ Equal
is_equal Less e = cc
is_equal Equal e = refl
is_equal Greater e = cc

pub same_int : (m n : ℤ) → is_eq (int_cmp m n) ≡ true → m ≡ n
same_int m n e = int_cmp-IsAntisymmetric m n (is_equal _ e)

pub int_same : (m : ℤ) → is_eq (int_cmp m m) ≡ true
int_same m = (eq_by_cmp_equiv int_cmp_total).refl m

pub is_place : (p q : Place) → same_place p q ≡ true → p ≡ q
is_place p q e =
    let a = and_parts _ _ e in
    let b = and_parts _ _ a.1 in
    let c = and_parts _ _ b.1 in
    let e0 = same_text p.0 q.0 a.0 in
    let e1 = same_int p.1 q.1 b.0 in
    let e2 = same_int p.2 q.2 c.0 in
    let e3 = same_int p.3 q.3 c.1 in
    λ i. (e0 i, e1 i, e2 i, e3 i)

pub place_same : (p : Place) → same_place p p ≡ true
place_same p = and_from _ _ (bytes_eq-self p.0) (and_from _ _ (int_same p.1) (and_from _ _ (int_same p.2) (int_same p.3)))

-- ---- lists

pub has_mapped : {X Y : Type 0} (f : X → Y) (xs : List X) (y : Y) → Has (map f xs) y → (x : X) × Has xs x × (y ≡ f x)
has_mapped f [] y h = absurd h
has_mapped f (x ∷ xs) y (inl same) = (x, inl refl, same)
has_mapped f (x ∷ xs) y (inr later) = let m = has_mapped f xs y later in (m.0, inr m.1, m.2)

pub mapped_has : {X Y : Type 0} (f : X → Y) (xs : List X) (x : X) → Has xs x → Has (map f xs) (f x)
mapped_has f [] x h = absurd h
mapped_has f (y ∷ xs) x (inl same) = inl (ap f same)
mapped_has f (y ∷ xs) x (inr later) = inr (mapped_has f xs x later)

-- two tests that agree on the elements filter alike, and two functions map alike
pub same_filter : {X : Type 0} (p q : X → Bool) (xs : List X) → ((x : X) → Has xs x → p x ≡ q x) → filter p xs ≡ filter q xs
same_filter p q [] same = refl
same_filter p q (x ∷ xs) same =
    let rest = same_filter p q xs (λ y has. same y (inr has)) in
    let here : p x ≡ q x = same x (inl refl) in
    elim (cases_Bool (q x)) [
      | inl is_so ↦ let is_so_p : p x ≡ true = here ∙ is_so in rw (is_so, is_so_p) (ap (λ l. x ∷ l) rest)
      | inr not_so ↦ let not_so_p : p x ≡ false = here ∙ not_so in rw (not_so, not_so_p) rest
    ]

pub same_map : {X Y : Type 0} (f g : X → Y) (xs : List X) → ((x : X) → Has xs x → f x ≡ g x) → map f xs ≡ map g xs
same_map f g [] same = refl
same_map f g (x ∷ xs) same =
    let here = same x (inl refl) in
    let rest = same_map f g xs (λ y has. same y (inr has)) in
    λ i. here i ∷ rest i

-- whether some element passes, by membership
pub any_has : {X : Type 0} (p : X → Bool) (xs : List X) → list_any p xs ≡ true → (x : X) × Has xs x × (p x ≡ true)
any_has p [] e = cc
any_has p (x ∷ xs) e = elim (cases_Bool (p x)) [
  | inl is_so ↦ (x, inl refl, is_so)
  | inr not_so ↦ let m = any_has p xs (rw not_so at e) in (m.0, inr m.1, m.2)
]

pub has_any : {X : Type 0} (p : X → Bool) (xs : List X) (x : X) → Has xs x → p x ≡ true → list_any p xs ≡ true
has_any p [] x h e = absurd h
has_any p (y ∷ xs) x (inl same) e = let first : p y ≡ true = ap p (sym same) ∙ e in rw first refl
has_any p (y ∷ xs) x (inr later) e = elim (cases_Bool (p y)) [
  | inl is_so ↦ rw is_so refl
  | inr not_so ↦ rw not_so (has_any p xs x later e)
]

pub same_any : {X : Type 0} (p : X → Bool) (xs ys : List X) → ((x : X) → Has xs x → p x ≡ true → Has ys x) → ((y : X) → Has ys y → p y ≡ true → Has xs y) → list_any p ys ≡ list_any p xs
same_any p xs ys to back = elim (cases_Bool (list_any p xs)) [
  | inl is_so ↦ let m = any_has p xs is_so in has_any p ys m.0 (to m.0 m.1 m.2) m.2 ∙ sym is_so
  | inr not_so ↦ elim (cases_Bool (list_any p ys)) [
    | inl is_so ↦ let m = any_has p ys is_so in absurd (let clash : true ≡ false = sym (has_any p xs m.0 (back m.0 m.1 m.2) m.2) ∙ not_so in cc)
    | inr both ↦ both ∙ sym not_so
  ]
]

-- ---- lookups

module _ {X : Type 0} (p : X → Bool) where
  pub find_only : (xs : List X) (x : X) → Has xs x → p x ≡ true → ((y : X) → Has xs y → p y ≡ true → y ≡ x) → find p xs ≡ Some x
  find_only [] x h is only = absurd h
  find_only (y ∷ xs) x h is only = elim (cases_Bool (p y)) [
    | inl is_so ↦ rw is_so (ap Some (only y (inl refl) is_so))
    | inr not_so ↦ rw not_so (find_only xs x (elim h [ inl same ↦ absurd (let clash : p y ≡ true = ap p (sym same) ∙ is in cc) | inr later ↦ later ]) is (λ z has. only z (inr has)))
  ]

  pub find_none : (xs : List X) → ((y : X) → Has xs y → p y ≡ false) → find p xs ≡ None
  find_none [] none = refl
  find_none (y ∷ xs) none = rw (none y (inl refl)) (find_none xs (λ z has. none z (inr has)))

  pub find_missed : (xs : List X) (y : X) → find p xs ≡ None → Has xs y → p y ≡ false
  find_missed [] y none has = absurd has
  find_missed (x ∷ xs) y none has = elim (cases_Bool (p x)) [
    | inl is_so ↦ absurd (let e = rw is_so at none in cc)
    | inr not_so ↦ elim has [ inl same ↦ ap p same ∙ not_so | inr later ↦ find_missed xs y (rw not_so at none) later ]
  ]

-- ---- rows that are taken out

pub left_stays : (ids : List ℤ) (rows : List Row) (y : Row) → Has rows y → ((id : ℤ) → Has ids id → has_rowid id y ≡ false) → Has (without_all rows ids) y
left_stays [] rows y has out = has
left_stays (id ∷ ids) rows y has out =
    left_stays ids (without_rowid id rows) y (has_kept (λ r. not (has_rowid id r)) rows y has (ap not (out id (inl refl)))) (λ other h. out other (inr h))

pub taken_goes : (ids : List ℤ) (rows : List Row) (y : Row) (id : ℤ) → Has ids id → Has (without_all rows ids) y → has_rowid id y ≡ false
taken_goes (first ∷ ids) rows y id (inl same) has =
    let kept = (has_filtered (λ r. not (has_rowid first r)) rows y (without_all_has ids (without_rowid first rows) y has)).1 in
    ap (λ n. has_rowid n y) same ∙ not_true _ kept
taken_goes (first ∷ ids) rows y id (inr later) has = taken_goes ids (without_rowid first rows) y id later has
taken_goes [] rows y id h has = absurd h

-- what a test finds, where it passes at most one element, and the elements that pass it are the same
pub find_same : {X : Type 0} (p : X → Bool) (old new : List X) → ((a b : X) → Has new a → Has new b → p a ≡ true → p b ≡ true → a ≡ b)
    → ((x : X) → Has old x → p x ≡ true → Has new x) → ((x : X) → Has new x → p x ≡ true → Has old x) → find p new ≡ find p old
find_same p old new one to back = go (find p old) refl
  where
    go : (o : Option _) → find p old ≡ o → find p new ≡ find p old
    go None e = find_none p new (λ y has. elim (cases_Bool (p y)) [ inl is_so ↦ find_missed p old y e (back y has is_so) | inr not_so ↦ not_so ]) ∙ sym e
    go (Some x) e =
        let f = has_found p old x e in
        find_only p new x (to x f.0 f.1) f.1 (λ y has is. one y x has (to x f.0 f.1) is f.1) ∙ sym e
