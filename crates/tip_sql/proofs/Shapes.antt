-- What a database that obeys its schema says of its rows, once no two have one rowid.
use Rattle.std.proofs.Common.{◌≡◌, ◌⊎◌, inl, inr, ℕ, ℤ, List, [], ◌∷◌, map, Bool, true, false, ◌&&◌, not, refl, sym, ap, subst, subst₂, filter, ◌++◌, Option, Some, None, ◌∙◌}
use Rattle.std.proofs.lemmas.List.{map-append}
use Rattle.std.proofs.lemmas.Cmp.{int_cmp_total}
use Rattle.tip_sql.proofs.Risings.{rising_push, all_before, last_push}
use Rattle.std.specs.List.Sorted.{IsPermutation}
use Rattle.std.proofs.lemmas.List.Sorted.{IsPermutation-sym, IsPermutation-map}
use Rattle.std.proofs.lemmas.Map.Keys.{IsDistinct-IsPermutation}
use Rattle.sqlite.specs.Order.{value_cmp}
use Rattle.sqlite.specs.Ops.{binary, is_true}
use Rattle.sqlite.specs.Collation.TheVariants.{Binary}
use Rattle.sqlite_sql.specs.declared.ops.BinaryOp.TheVariants as by
use Rattle.sqlite_sql.specs.declared.ops.CompareOp.TheVariants.{Ne}
use Rattle.sqlite_value.specs.Keys.{first_key}
use Rattle.sqlite_value.proofs.OrderLemmas.{value_cmp-Int}
use Rattle.sqlite_rules.proofs.ListLemmas.{has_kept}
use Rattle.tip_sql.proofs.Queries.{map_map, has_moved}
use Rattle.std.specs.List.{AllByRecursion, list_all, list_any, IsDistinct}
use Rattle.std.specs.Ordering.{is_eq, is_ne, is_lt, int_cmp}
use Rattle.std.specs.declared.cmp.Ordering.{Ordering}
use Rattle.std.specs.declared.cmp.Ordering.TheVariants.{Less, Equal, Greater}
use Rattle.std.specs.Str.{bytes_eq}
use Rattle.std.proofs.lemmas.Bool.{cases_Bool, and_parts}
use Rattle.sqlite.specs.Order.{Row, column}
use Rattle.sqlite.specs.Edit.{id_in}
use Rattle.sqlite.specs.Tree.{Trees, rowid}
use Rattle.sqlite.specs.Ops.{is_null}
use Rattle.sqlite.specs.declared.types.Value.{Value}
use Rattle.sqlite.specs.declared.types.Value.TheVariants.{Null, Int, Real, Text, Blob}
use Rattle.sqlite_schema.specs.Rules.{passes, Obeys, agree, differ, is_of}
use Rattle.sqlite_schema.specs.declared.schema.Constraint.TheVariants.{Datatype, NotNull, Unique}
use Rattle.sqlite_schema.specs.declared.schema.Kind.TheVariants as kind
use Rattle.sqlite_rules.specs.Lists.{Has}
use Rattle.tip_rows.proofs.MemoryLemmas.{bytes_eq-self}
use Rattle.tip_sql.specs.Reading.{rises, last_of, may_follow}
use Rattle.tip_sql.specs.Tables.{log_schema, realm_table, txn_table, binary_order, realm_row, txn_row}
use Rattle.tip_sql.specs.Places.{Place, same_place, all_rows, id_shown, number_at, name_in, place_in, IsRealmRow, IsTxnRow, AreRealms, AreRows}
use Rattle.tip_sql.proofs.Facts.{same_int, int_same, place_same, mapped_has}
use Rattle.tip_sql.proofs.Tests.{truth_back, and_all, text_eq, int_eq}

-- the rowid is a number
abbrev pub has_id : Row → Type 0
has_id r = (id : ℤ) × (column r 0 ≡ Int id)

every : {X : Type 0} (P : X → Type 0) (xs : List X) (x : X) → AllByRecursion P xs → Has xs x → P x
every P [] x all has = absurd has
every P (y ∷ xs) x all (inl same) = subst P (sym same) all.0
every P (y ∷ xs) x all (inr later) = every P xs x all.1 later

-- a value of its type that is not NULL
text_typed : (v : Value) → is_of kind.Text v ≡ true → is_null v ≡ false → (t : List ℕ) × (v ≡ Text t)
text_typed Null e n = absurd (let clash : true ≡ false = n in cc)
text_typed (Int i) e n = absurd (let clash : false ≡ true = e in cc)
text_typed (Real x) e n = absurd (let clash : false ≡ true = e in cc)
text_typed (Text t) e n = (t, refl)
text_typed (Blob b) e n = absurd (let clash : false ≡ true = e in cc)

int_typed : (v : Value) → is_of kind.Integer v ≡ true → is_null v ≡ false → (i : ℤ) × (v ≡ Int i)
int_typed Null e n = absurd (let clash : true ≡ false = n in cc)
int_typed (Int i) e n = (i, refl)
int_typed (Real x) e n = absurd (let clash : false ≡ true = e in cc)
int_typed (Text t) e n = absurd (let clash : false ≡ true = e in cc)
int_typed (Blob b) e n = absurd (let clash : false ≡ true = e in cc)

not_null : (b : Bool) → not b ≡ true → b ≡ false
not_null true e = absurd (let clash : false ≡ true = e in cc)
not_null false e = refl

present : (b rest : Bool) → (not b && rest) ≡ true → (b ≡ false) × (rest ≡ true)
present b rest e = let p = and_parts _ _ e in (not_null b p.0, p.1)

realm_shape : (r : Row) → has_id r → passes Datatype log_schema (λ t. []) realm_table r ≡ true → passes NotNull log_schema (λ t. []) realm_table r ≡ true → IsRealmRow r
realm_shape [] id typed there = absurd (let clash : false ≡ true = there in cc)
realm_shape (v ∷ []) id typed there = absurd (let clash : false ≡ true = there in cc)
realm_shape (v ∷ a ∷ []) id typed there = absurd (let first = present (is_null a) _ there in let clash : false ≡ true = first.1 in cc)
realm_shape (v ∷ a ∷ b ∷ []) id typed there =
    let t = and_parts _ _ (and_parts _ _ typed).0 in
    let u = and_parts _ _ t.1 in
    let p = present (is_null a) _ there in
    let q = present (is_null b) _ p.1 in
    let name = text_typed a t.0 p.0 in
    let epoch = int_typed b u.0 q.0 in
    record { id = id.0; name = name.0; epoch = epoch.0; is = λ i. id.1 i ∷ name.1 i ∷ epoch.1 i ∷ [] }
realm_shape (v ∷ a ∷ b ∷ c ∷ more) id typed there =
    let t = and_parts _ _ (and_parts _ _ typed).0 in
    let u = and_parts _ _ t.1 in
    absurd (let clash : false ≡ true = u.1 in cc)

txn_shape : (r : Row) → has_id r → passes Datatype log_schema (λ t. []) txn_table r ≡ true → passes NotNull log_schema (λ t. []) txn_table r ≡ true → IsTxnRow r
txn_shape [] id typed there = absurd (let clash : false ≡ true = there in cc)
txn_shape (v ∷ []) id typed there = absurd (let clash : false ≡ true = there in cc)
txn_shape (v ∷ a ∷ []) id typed there = absurd (let p = present (is_null a) _ there in let clash : false ≡ true = p.1 in cc)
txn_shape (v ∷ a ∷ b ∷ []) id typed there = absurd (let p = present (is_null a) _ there in let q = present (is_null b) _ p.1 in let clash : false ≡ true = q.1 in cc)
txn_shape (v ∷ a ∷ b ∷ c ∷ []) id typed there = absurd (let p = present (is_null a) _ there in let q = present (is_null b) _ p.1 in let s = present (is_null c) _ q.1 in let clash : false ≡ true = s.1 in cc)
txn_shape (v ∷ a ∷ b ∷ c ∷ d ∷ []) id typed there =
    absurd (let p = present (is_null a) _ there in let q = present (is_null b) _ p.1 in let s = present (is_null c) _ q.1 in let w = present (is_null d) _ s.1 in let clash : false ≡ true = w.1 in cc)
txn_shape (v ∷ a ∷ b ∷ c ∷ d ∷ e ∷ []) id typed there =
    let t = and_parts _ _ (and_parts _ _ typed).0 in
    let t2 = and_parts _ _ t.1 in
    let t3 = and_parts _ _ t2.1 in
    let t4 = and_parts _ _ t3.1 in
    let t5 = and_parts _ _ t4.1 in
    let p = present (is_null a) _ there in
    let p2 = present (is_null b) _ p.1 in
    let p3 = present (is_null c) _ p2.1 in
    let p4 = present (is_null d) _ p3.1 in
    let p5 = present (is_null e) _ p4.1 in
    let realm = text_typed a t.0 p.0 in
    let epoch = int_typed b t2.0 p2.0 in
    let conn = int_typed c t3.0 p3.0 in
    let num = int_typed d t4.0 p4.0 in
    let text = text_typed e t5.0 p5.0 in
    record { id = id.0; place = (realm.0, epoch.0, conn.0, num.0); text = text.0; is = λ i. id.1 i ∷ realm.1 i ∷ epoch.1 i ∷ conn.1 i ∷ num.1 i ∷ text.1 i ∷ [] }
txn_shape (v ∷ a ∷ b ∷ c ∷ d ∷ e ∷ f ∷ more) id typed there =
    absurd (too_long (is_of kind.Text a) (is_of kind.Integer b) (is_of kind.Integer c) (is_of kind.Integer d) (is_of kind.Text e) typed)
  where
    too_long : (p q r s t : Bool) → ((p && (q && (r && (s && (t && false))))) && true) ≡ true → ⊥
    too_long true true true true true h = let clash : false ≡ true = h in cc
    too_long true true true true false h = let clash : false ≡ true = h in cc
    too_long true true true false t h = let clash : false ≡ true = h in cc
    too_long true true false s t h = let clash : false ≡ true = h in cc
    too_long true false r s t h = let clash : false ≡ true = h in cc
    too_long false q r s t h = let clash : false ≡ true = h in cc

-- ---- no two at one place

none_any : {X : Type 0} (p : X → Bool) (xs : List X) (x : X) → list_any p xs ≡ false → Has xs x → p x ≡ false
none_any p [] x e has = absurd has
none_any p (y ∷ xs) x e (inl same) = elim (cases_Bool (p y)) [
  | inl is ↦ absurd (let clash : true ≡ false = rw is at e in cc)
  | inr off ↦ ap p same ∙ off
]
none_any p (y ∷ xs) x e (inr later) = elim (cases_Bool (p y)) [
  | inl is ↦ absurd (let clash : true ≡ false = rw is at e in cc)
  | inr off ↦ none_any p xs x (rw off at e) later
]

int_ne : (m n : ℤ) → is_true (binary (by.Compare Ne Binary) (Int m) (Int n)) ≡ is_ne (int_cmp m n)
unfolding binary
int_ne m n = truth_back (is_ne (value_cmp (Int m) (Int n))) ∙ ap is_ne (value_cmp-Int m n)

not_apart : (o : Ordering) → is_ne o ≡ false → is_eq o ≡ true
not_apart Less e = absurd (let clash : true ≡ false = e in cc)
not_apart Equal e = refl
not_apart Greater e = absurd (let clash : true ≡ false = e in cc)

same_id : (m n : ℤ) → differ (Int m) (Int n) ≡ false → m ≡ n
same_id m n e = same_int m n (not_apart _ (sym (int_ne m n) ∙ e))

names_agree : (id other : ℤ) (name realm : List ℕ) (e f : ℤ) → agree binary_order (1 ∷ []) (realm_row id name e) (1 ∷ []) (realm_row other realm f) ≡ bytes_eq name realm
unfolding first_key
names_agree id other name realm e f = rw (text_eq name realm, and_all) refl

places_agree : (id other : ℤ) (q p : Place) (s t : List ℕ) → agree binary_order (1 ∷ 2 ∷ 3 ∷ 4 ∷ []) (txn_row id q.0 q.1 q.2 q.3 s) (1 ∷ 2 ∷ 3 ∷ 4 ∷ []) (txn_row other p.0 p.1 p.2 p.3 t) ≡ same_place q p
unfolding first_key
places_agree id other q p s t = rw (text_eq q.0 p.0, int_eq q.1 p.1, int_eq q.2 p.2, int_eq q.3 p.3, and_all) refl

-- the rowids of a tree are numbers, no two the same
pub record AreIds (rows : List Row) : Type 0 where
  pub numbers : (r : Row) → Has rows r → has_id r
  pub apart : (a b : Row) → Has rows a → Has rows b → rowid a ≡ rowid b → a ≡ b

module _ (db : Trees) (obeys : Obeys log_schema db) where
  pub are_realms : AreIds (db 0) → AreRealms (db 0)
  are_realms ids = record {
    shaped = shape;
    apart = ids.apart;
    named = λ a b ha hb same.
        let ia = shape a ha in
        let ib = shape b hb in
        let free = not_null _ (and_parts _ _ (every _ (db 0) b (obeys.rules Unique).0 hb)).0 in
        let off = none_any _ (db 0) a free ha in
        let name : bytes_eq ia.name ib.name ≡ true = ap (λ n. bytes_eq n ib.name) (sym (ap name_in ia.is) ∙ same ∙ ap name_in ib.is) ∙ bytes_eq-self ib.name in
        let agrees : agree binary_order (1 ∷ []) a (1 ∷ []) b ≡ true =
        subst₂ (λ x y. agree binary_order (1 ∷ []) x (1 ∷ []) y ≡ true) (sym ia.is) (sym ib.is) (names_agree ia.id ib.id ia.name ib.name ia.epoch ib.epoch ∙ name) in
        let differs : differ (rowid a) (rowid b) ≡ false = and_false _ _ agrees off in
        let same_ids = same_id ia.id ib.id (subst₂ (λ x y. differ (rowid x) (rowid y) ≡ false) ia.is ib.is differs) in
        ids.apart a b ha hb (ap rowid ia.is ∙ ap Int same_ids ∙ sym (ap rowid ib.is));
  }
    where
      shape : (r : Row) → Has (db 0) r → IsRealmRow r
      shape r has = realm_shape r (ids.numbers r has) (every _ (db 0) r (obeys.rules Datatype).0 has) (every _ (db 0) r (obeys.rules NotNull).0 has)

      and_false : (a b : Bool) → a ≡ true → (a && b) ≡ false → b ≡ false
      and_false a b is off = rw is at off

  pub are_rows : AreIds (db 2) → AreRows (db 2)
  are_rows ids = record {
    shaped = shape;
    apart = ids.apart;
    keyed = λ a b ha hb same.
        let ia = shape a ha in
        let ib = shape b hb in
        let other = λ (x : Row). agree binary_order (1 ∷ 2 ∷ 3 ∷ 4 ∷ []) x (1 ∷ 2 ∷ 3 ∷ 4 ∷ []) b && differ (rowid x) (rowid b) in
        let unique : (not (list_any other (db 2)) && true) ≡ true = every _ (db 2) b (obeys.rules Unique).1.0 hb in
        let free = not_null (list_any other (db 2)) (and_parts (not (list_any other (db 2))) true unique).0 in
        let off = none_any other (db 2) a free ha in
        let place : same_place ia.place ib.place ≡ true = ap (λ p. same_place p ib.place) (sym (ap place_in ia.is) ∙ same ∙ ap place_in ib.is) ∙ place_same ib.place in
        let agrees : agree binary_order (1 ∷ 2 ∷ 3 ∷ 4 ∷ []) a (1 ∷ 2 ∷ 3 ∷ 4 ∷ []) b ≡ true =
        subst₂ (λ x y. agree binary_order (1 ∷ 2 ∷ 3 ∷ 4 ∷ []) x (1 ∷ 2 ∷ 3 ∷ 4 ∷ []) y ≡ true) (sym ia.is) (sym ib.is) (places_agree ia.id ib.id ia.place ib.place ia.text ib.text ∙ place) in
        let differs : differ (rowid a) (rowid b) ≡ false = and_false _ _ agrees off in
        let same_ids = same_id ia.id ib.id (subst₂ (λ x y. differ (rowid x) (rowid y) ≡ false) ia.is ib.is differs) in
        ids.apart a b ha hb (ap rowid ia.is ∙ ap Int same_ids ∙ sym (ap rowid ib.is));
  }
    where
      shape : (r : Row) → Has (db 2) r → IsTxnRow r
      shape r has = txn_shape r (ids.numbers r has) (every _ (db 2) r (obeys.rules Datatype).1.0 has) (every _ (db 2) r (obeys.rules NotNull).1.0 has)

      and_false : (a b : Bool) → a ≡ true → (a && b) ≡ false → b ≡ false
      and_false a b is off = rw is at off

-- ---- rowids that rise

abbrev id_of : Row → ℤ
id_of r = id_in (column r 0)

rise_distinct : (ids : List ℤ) → rises (λ m n. is_lt (int_cmp m n)) ids ≡ true → IsDistinct (λ m n. is_eq (int_cmp m n)) ids
unfolding IsDistinct
rise_distinct [] e = tt
rise_distinct (n ∷ ids) e = let p = and_parts _ _ e in (each n ids p.0, rise_distinct ids p.1)
  where
    less : (o : Ordering) → is_lt o ≡ true → is_eq o ≡ false
    less Less h = refl
    less Equal h = absurd (let clash : false ≡ true = h in cc)
    less Greater h = refl

    each : (n : ℤ) (ids : List ℤ) → list_all (λ m. is_lt (int_cmp n m)) ids ≡ true → AllByRecursion (λ m. is_eq (int_cmp n m) ≡ false) ids
    each n [] e = tt
    each n (m ∷ ids) e = let p = and_parts _ _ e in (less _ p.0, each n ids p.1)

eq_flips : (m n : ℤ) → is_eq (int_cmp m n) ≡ is_eq (int_cmp n m)
eq_flips m n = elim (cases_Bool (is_eq (int_cmp m n))) [
  | inl same ↦ let e : m ≡ n = same_int m n same in ap (λ k. is_eq (int_cmp k n)) e ∙ sym (ap (λ k. is_eq (int_cmp n k)) e)
  | inr off ↦ elim (cases_Bool (is_eq (int_cmp n m))) [
    | inl same ↦ let e : n ≡ m = same_int n m same in ap (λ k. is_eq (int_cmp k n)) (sym e) ∙ ap (λ k. is_eq (int_cmp n k)) e
    | inr both ↦ off ∙ sym both
  ]
]

one_of_id : {X : Type 0} (h : X → ℤ) (xs : List X) → IsDistinct (λ m n. is_eq (int_cmp m n)) (map h xs) → (a b : X) → Has xs a → Has xs b → h a ≡ h b → a ≡ b
unfolding IsDistinct
one_of_id h [] d a b ha hb e = absurd ha
one_of_id h (x ∷ xs) d a b (inl isa) (inl isb) e = isa ∙ sym isb
one_of_id h (x ∷ xs) d a b (inl isa) (inr hb) e = absurd (let clash : true ≡ false = sym (int_same (h b)) ∙ ap (λ n. is_eq (int_cmp n (h b))) (sym e ∙ ap h isa) ∙ every _ (map h xs) (h b) d.0 (mapped_has h xs b hb) in cc)
one_of_id h (x ∷ xs) d a b (inr ha) (inl isb) e = absurd (let clash : true ≡ false = sym (int_same (h a)) ∙ ap (λ n. is_eq (int_cmp n (h a))) (e ∙ ap h isb) ∙ every _ (map h xs) (h a) d.0 (mapped_has h xs a ha) in cc)
one_of_id h (x ∷ xs) d a b (inr ha) (inr hb) e = one_of_id h xs d.1 a b ha hb e

pub are_ids : (tree rows : List Row) → IsPermutation (map id_shown (filter all_rows tree)) rows → ((r : Row) → Has rows r → has_id r) → rises (λ m n. is_lt (int_cmp m n)) (map id_of rows) ≡ true → AreIds tree
are_ids tree rows shown numbers rising = record {
  numbers = λ r has. let it = numbers (id_shown r) (has_moved _ _ (id_shown r) shown (mapped_has id_shown (filter all_rows tree) r (kept r has))) in it;
  apart = λ a b ha hb same. one_of_id (λ r. id_of (id_shown r)) (filter all_rows tree) distinct a b (kept a ha) (kept b hb) (ap id_in same);
}
  where
    kept : (r : Row) → Has tree r → Has (filter all_rows tree) r
    kept r has = has_kept all_rows tree r has refl

    distinct : IsDistinct (λ m n. is_eq (int_cmp m n)) (map (λ r. id_of (id_shown r)) (filter all_rows tree))
    distinct = subst (IsDistinct (λ m n. is_eq (int_cmp m n))) (map_map id_shown id_of (filter all_rows tree))
        (IsDistinct-IsPermutation (λ m n. is_eq (int_cmp m n)) eq_flips (map id_of rows) (map id_of (map id_shown (filter all_rows tree))) (IsPermutation-map id_of rows (map id_shown (filter all_rows tree)) (IsPermutation-sym _ _ shown))
        (rise_distinct (map id_of rows) rising))

-- ---- rowids that are read one by one

has_either : {X : Type 0} (xs : List X) (y x : X) → Has (xs ++ y ∷ []) x → Has xs x ⊎ (x ≡ y)
has_either [] y x (inl same) = inr same
has_either [] y x (inr never) = absurd never
has_either (z ∷ xs) y x (inl same) = inl (inl same)
has_either (z ∷ xs) y x (inr later) = elim (has_either xs y x later) [ inl has ↦ inl (inr has) | inr same ↦ inr same ]

lt_trans : (a b c : ℤ) → is_lt (int_cmp a b) ≡ true → is_lt (int_cmp b c) ≡ true → is_lt (int_cmp a c) ≡ true
lt_trans a b c h k = rw (int_cmp_total.trans a b c (less _ h) (less _ k)) refl
  where
    less : (o : Ordering) → is_lt o ≡ true → o ≡ Less
    less Less h = refl
    less Equal h = absurd (let clash : false ≡ true = h in cc)
    less Greater h = absurd (let clash : false ≡ true = h in cc)

pub record ReadIds (rows : List Row) (last : Option ℤ) : Type 0 where
  pub numbers : (r : Row) → Has rows r → has_id r
  pub rising : rises (λ m n. is_lt (int_cmp m n)) (map number_at rows) ≡ true
  pub last_is : last ≡ last_of (map number_at rows)

pub no_ids : ReadIds [] None
no_ids = record { numbers = λ r has. absurd has; rising = refl; last_is = refl }

pub more_ids : (rows : List Row) (last : Option ℤ) (row : Row) (id : ℤ) → ReadIds rows last → column row 0 ≡ Int id → may_follow (λ m n. is_lt (int_cmp m n)) last id ≡ true → ReadIds (rows ++ row ∷ []) (Some id)
more_ids rows last row id read is follows =
    let lt = λ (m : ℤ) (n : ℤ). is_lt (int_cmp m n) in
    let number : number_at row ≡ id = ap id_in is in
    let ids = map number_at rows in
    let more : map number_at (rows ++ row ∷ []) ≡ ids ++ id ∷ [] = map-append number_at rows (row ∷ []) ∙ ap (λ n. ids ++ n ∷ []) number in
    let before = ap (λ o. may_follow lt o id) (sym read.last_is) ∙ follows in record {
      numbers = λ r has. elim (has_either rows row r has) [ inl old ↦ read.numbers r old | inr same ↦ subst has_id (sym same) (id, is) ];
      rising = ap (rises lt) more ∙ rising_push lt ids id read.rising (all_before lt lt_trans ids id read.rising before);
      last_is = sym (ap last_of more ∙ last_push ids id);
    }
