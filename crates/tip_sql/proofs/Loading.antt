-- What the rows that a query shows say of the log.
use Rattle.std.proofs.Common.{◌≡◌, ◌≢◌, ◌⊎◌, inl, inr, ◌≤◌, ℕ, ℤ, pos, negsuc, List, [], ◌∷◌, map, filter, find, Bool, true, false, ◌&&◌, not, Option, Some, None, option_map, refl, sym, ap, subst, ◌∙◌, arith}
use Rattle.std.specs.Prelude.{option_and_then, unwrap_or, is_some, nat_lt, nat_le}
use Rattle.std.specs.List.{list_any}
use Rattle.std.specs.List.Sorted.{IsPermutation}
use Rattle.std.specs.Str.{bytes_eq}
use Rattle.std.proofs.lemmas.List.Sorted.{IsPermutation-sym}
use Rattle.std.proofs.lemmas.Bool.{cases_Bool, and_parts, and_from}
use Rattle.std.proofs.lemmas.Bool.Decides.{nat_tests}
use Rattle.sqlite.specs.Order.{Row as SqlRow, column}
use Rattle.sqlite.specs.declared.types.Value.TheVariants.{Int}
use Rattle.sqlite_rules.specs.Lists.{Has}
use Rattle.sqlite_rules.proofs.ListLemmas.{has_filtered, has_kept, has_found}
use Rattle.tip_rows.specs.Keys.{Key, is_same}
use Rattle.tip_rows.specs.Logs.{last_epoch, row_at}
use Rattle.tip_rows.specs.declared.row.Row.{Row}
use Rattle.tip_rows.proofs.MemoryLemmas.{same_text, bytes_eq-self}
use Rattle.tip_rows.proofs.OrderLemmas.{same_key}
use Rattle.tip_sql.specs.Places.{Place, place_in, is_named, is_at, same_place, text_at, text_in, epoch_at, has_key, is_key_number, is_stray, IsRealmRow, IsTxnRow, AreRealms, AreRows, epoch_shown, row_shown}
use Rattle.tip_sql.specs.Places as places
use Rattle.tip_sql.specs.Reading.{number_in, key_of, entry_of, entry_in, epoch_in}
use Rattle.tip_sql.specs.Standing.{place_of, row_of, is_no_row}
use Rattle.tip_sql.proofs.Facts.{find_only, find_none, find_missed, has_mapped, mapped_has, is_place, place_same, any_has, has_any}
use Rattle.tip_sql.proofs.Queries.{has_moved}
use Rattle.tip_sql.proofs.RealmFacts.{one_name}

-- ---- what is shown, and where it is from

module _ (tree rows : List SqlRow) (test : SqlRow → Bool) (f : SqlRow → SqlRow) (shown : IsPermutation (map f (filter test tree)) rows) where
  pub there : (r : SqlRow) → Has tree r → test r ≡ true → Has rows (f r)
  there r has is = has_moved _ _ (f r) shown (mapped_has f (filter test tree) r (has_kept test tree r has is))

  pub from : (x : SqlRow) → Has rows x → (r : SqlRow) × Has tree r × (test r ≡ true) × (x ≡ f r)
  from x has =
      let m = has_mapped f (filter test tree) x (has_moved _ _ x (IsPermutation-sym _ _ shown) has) in
      let k = has_filtered test tree m.0 m.1 in
      (m.0, k.0, k.1, m.2)

-- ---- the epoch

epoch_column : (r : SqlRow) → IsRealmRow r → column r 2 ≡ Int (places.epoch_in r)
epoch_column r it = subst (λ x. column x 2 ≡ Int (places.epoch_in x)) (sym it.is) refl

module _ (tree rows : List SqlRow) (realm : List ℕ) (realms : AreRealms tree) (shown : IsPermutation (map epoch_shown (filter (is_named realm) tree)) rows) where
  -- the first row that is shown has the epoch, and there is none where the realm is not known
  abbrev IsFirst : List SqlRow → Type 0
  IsFirst [] = epoch_at tree realm ≡ None
  IsFirst (x ∷ more) = (z : ℤ) × (epoch_at tree realm ≡ Some z) × (column x 0 ≡ Int z)

  first : (xs : List SqlRow) → rows ≡ xs → IsFirst xs
  first [] is = go (find (is_named realm) tree) refl
    where
      go : (o : Option SqlRow) → find (is_named realm) tree ≡ o → epoch_at tree realm ≡ None
      go None e = ap (option_map places.epoch_in) e
      go (Some r) e = let f = has_found (is_named realm) tree r e in absurd (subst (λ l. Has l (epoch_shown r)) is (there tree rows (is_named realm) epoch_shown shown r f.0 f.1))
  first (x ∷ more) is =
      let m = from tree rows (is_named realm) epoch_shown shown x (subst (λ l. Has l x) (sym is) (inl refl)) in
      let found = find_only (is_named realm) tree m.0 m.1 m.2 (λ y has named. one_name tree realms realm y m.0 has m.1 named m.2) in
      (places.epoch_in m.0, ap (option_map places.epoch_in) found, ap (λ v. column v 0) m.3 ∙ epoch_column m.0 (realms.shaped m.0 m.1))

  pub epoch_read : (n : ℕ) → epoch_in rows ≡ Some n → (unwrap_or (epoch_at tree realm) (pos 0) ≡ pos n) × ((z : ℤ) → epoch_at tree realm ≡ Some z → (z ≡ pos n) × (n ≤ last_epoch))
  epoch_read n reads = go rows refl
    where
      number : (z : ℤ) → number_in (Int z) ≡ Some n → (z ≡ pos n) × (n ≤ last_epoch)
      number (pos m) e = elim (cases_Bool (nat_le m last_epoch)) [
        | inl low ↦ let e2 : ◌≡◌ {A = Option ℕ} (Some m) (Some n) = rw low at e in let same : m ≡ n = cc in (ap pos same, (let le : m ≤ last_epoch = grind (arith, nat_tests) in subst (λ k. k ≤ last_epoch) same le))
        | inr high ↦ absurd (let e2 : ◌≡◌ {A = Option ℕ} None (Some n) = rw high at e in cc)
      ]
      number (negsuc m) e = absurd (let clash : ◌≡◌ {A = Option ℕ} None (Some n) = e in cc)

      go : (xs : List SqlRow) → rows ≡ xs → (unwrap_or (epoch_at tree realm) (pos 0) ≡ pos n) × ((z : ℤ) → epoch_at tree realm ≡ Some z → (z ≡ pos n) × (n ≤ last_epoch))
      go [] is =
          let none : epoch_at tree realm ≡ None = first [] is in
          let zero : ◌≡◌ {A = Option ℕ} (Some 0) (Some n) = sym (ap epoch_in is) ∙ reads in
          let same : 0 ≡ n = cc in
          (ap (λ o. unwrap_or o (pos 0)) none ∙ ap pos same, λ z some. absurd (let clash : ◌≡◌ {A = Option ℤ} None (Some z) = sym none ∙ some in cc))
      go (x ∷ more) is =
          let it = first (x ∷ more) is in
          let number_is : number_in (Int it.0) ≡ Some n = ap number_in (sym it.2) ∙ sym (ap epoch_in is) ∙ reads in
          let known = number it.0 number_is in
          (ap (λ o. unwrap_or o (pos 0)) it.1 ∙ known.0, λ z some. (let same : z ≡ it.0 = cc (sym some ∙ it.1) in same ∙ known.0, known.1))

  pub epoch_bad : epoch_in rows ≡ None → (z : ℤ) × (epoch_at tree realm ≡ Some z) × ((n : ℕ) → n ≤ last_epoch → z ≢ pos n)
  epoch_bad reads = go rows refl
    where
      go : (xs : List SqlRow) → rows ≡ xs → (z : ℤ) × (epoch_at tree realm ≡ Some z) × ((n : ℕ) → n ≤ last_epoch → z ≢ pos n)
      go [] is = absurd (let clash : ◌≡◌ {A = Option ℕ} (Some 0) None = sym (ap epoch_in is) ∙ reads in cc)
      go (x ∷ more) is =
          let it = first (x ∷ more) is in
          let none : number_in (Int it.0) ≡ None = ap number_in (sym it.2) ∙ sym (ap epoch_in is) ∙ reads in (
            it.0,
            it.1,
            λ n low same.
                let at : number_in (Int (pos n)) ≡ None = ap (λ z. number_in (Int z)) (sym same) ∙ none in
                let is_low : nat_le n last_epoch ≡ true = grind (arith, nat_tests) in
                let some : ◌≡◌ {A = Option ℕ} (Some n) None = rw is_low at at in cc,
          )

  pub ends_read : epoch_in rows ≡ Some last_epoch → epoch_at tree realm ≡ Some (pos last_epoch)
  ends_read reads = go rows refl
    where
      go : (xs : List SqlRow) → rows ≡ xs → epoch_at tree realm ≡ Some (pos last_epoch)
      go [] is =
          let both : ◌≡◌ {A = Option ℕ} (Some 0) (Some last_epoch) = sym (ap epoch_in is) ∙ reads in
          let clash : 0 ≡ last_epoch = cc in absurd (omega (arith, clash))
      go (x ∷ more) is = let it = first (x ∷ more) is in it.1 ∙ ap Some ((epoch_read last_epoch reads).1 it.0 it.1).0

  pub ends_shown : epoch_at tree realm ≡ Some (pos last_epoch) → epoch_in rows ≡ Some last_epoch
  ends_shown ends = go rows refl
    where
      go : (xs : List SqlRow) → rows ≡ xs → epoch_in rows ≡ Some last_epoch
      go [] is = absurd (let clash : ◌≡◌ {A = Option ℤ} None (Some (pos last_epoch)) = sym (first [] is) ∙ ends in cc)
      go (x ∷ more) is =
          let it = first (x ∷ more) is in
          let both : ◌≡◌ {A = Option ℤ} (Some it.0) (Some (pos last_epoch)) = sym it.1 ∙ ends in
          let same : it.0 ≡ pos last_epoch = cc in
          ap epoch_in is ∙ ap number_in (it.2 ∙ ap Int same)

-- ---- the rows

number_key : (z : ℤ) → is_key_number z ≡ true → (n : ℕ) × (z ≡ pos n) × (number_in (Int z) ≡ Some n) × (nat_lt 0 n ≡ true)
number_key (pos n) key =
    let parts = and_parts _ _ key in
    (n, refl, rw parts.1 refl, parts.0)
number_key (negsuc n) key = absurd (let clash : false ≡ true = key in cc)

no_number_key : (z : ℤ) (n : ℕ) → number_in (Int z) ≡ Some n → (z ≡ pos n) × (nat_le n last_epoch ≡ true)
no_number_key (pos m) n e = elim (cases_Bool (nat_le m last_epoch)) [
  | inl low ↦ let e2 : ◌≡◌ {A = Option ℕ} (Some m) (Some n) = rw low at e in let same : m ≡ n = cc in (ap pos same, ap (λ k. nat_le k last_epoch) (sym same) ∙ low)
  | inr high ↦ absurd (let e2 : ◌≡◌ {A = Option ℕ} None (Some n) = rw high at e in cc)
]
no_number_key (negsuc m) n e = absurd (let clash : ◌≡◌ {A = Option ℕ} None (Some n) = e in cc)

-- what a row is read as says each of its parts
parts_read : (a b c : Option ℕ) (r : Option Row) (y : Key × Row) → entry_of (key_of a b c) r ≡ Some y
    → (a ≡ Some y.0.epoch) × (b ≡ Some y.0.connection) × (c ≡ Some y.0.number) × (r ≡ Some y.1) × ((nat_lt 0 y.0.epoch && (nat_lt 0 y.0.connection && nat_lt 0 y.0.number)) ≡ true)
parts_read None b c r y e = absurd (let clash : ◌≡◌ {A = Option (Key × Row)} None (Some y) = e in cc)
parts_read (Some a) None c r y e = absurd (let clash : ◌≡◌ {A = Option (Key × Row)} None (Some y) = e in cc)
parts_read (Some a) (Some b) None r y e = absurd (let clash : ◌≡◌ {A = Option (Key × Row)} None (Some y) = e in cc)
parts_read (Some a) (Some b) (Some c) None y e = elim (cases_Bool (nat_lt 0 a && (nat_lt 0 b && nat_lt 0 c))) [
  | inl key ↦ absurd (let clash : ◌≡◌ {A = Option (Key × Row)} None (Some y) = rw key at e in cc)
  | inr none ↦ absurd (let clash : ◌≡◌ {A = Option (Key × Row)} None (Some y) = rw none at e in cc)
]
parts_read (Some a) (Some b) (Some c) (Some row) y e = elim (cases_Bool (nat_lt 0 a && (nat_lt 0 b && nat_lt 0 c))) [
  | inl key ↦
      let made : Key = record { epoch = a; connection = b; number = c } in
      let is : ◌≡◌ {A = Option (Key × Row)} (Some (made, row)) (Some y) = rw key at e in
      let same : ◌≡◌ {A = Key × Row} (made, row) y = cc in (
        ap (λ (x : Key × Row). Some x.0.epoch) same,
        ap (λ (x : Key × Row). Some x.0.connection) same,
        ap (λ (x : Key × Row). Some x.0.number) same,
        ap (λ (x : Key × Row). Some x.1) same,
        subst (λ (x : Key × Row). (nat_lt 0 x.0.epoch && (nat_lt 0 x.0.connection && nat_lt 0 x.0.number)) ≡ true) same key,
      )
  | inr none ↦ absurd (let clash : ◌≡◌ {A = Option (Key × Row)} None (Some y) = rw none at e in cc)
]

key_at : (z : ℤ) (n : ℕ) → number_in (Int z) ≡ Some n → nat_lt 0 n ≡ true → is_key_number z ≡ true
key_at z n e low = let it = no_number_key z n e in ap is_key_number it.0 ∙ and_from _ _ low it.1

entry_shows : (realm : List ℕ) (r : SqlRow) → IsTxnRow r → is_named realm r ≡ true → (y : Key × Row) → entry_in (row_shown r) ≡ Some y → (place_in r ≡ place_of realm y.0) × (row_of (text_in r) ≡ Some y.1) × (has_key (place_in r) ≡ true)
entry_shows realm r it named y e =
    let p = it.place in
    let e2 : entry_of (key_of (number_in (Int p.1)) (number_in (Int p.2)) (number_in (Int p.3))) (row_of it.text) ≡ Some y = subst (λ x. entry_in (row_shown x) ≡ Some y) it.is e in
    let parts = parts_read _ _ _ _ y e2 in
    let positive = and_parts _ _ parts.4 in
    let others = and_parts _ _ positive.1 in
    let name : p.0 ≡ realm = same_text p.0 realm (subst (λ x. is_named realm x ≡ true) it.is named) in
    let a = (no_number_key p.1 y.0.epoch parts.0).0 in
    let b = (no_number_key p.2 y.0.connection parts.1).0 in
    let c = (no_number_key p.3 y.0.number parts.2).0 in
    let place : place_in r ≡ p = ap place_in it.is in (
      place ∙ (λ i. (name i, a i, b i, c i)),
      ap (λ x. row_of (text_in x)) it.is ∙ parts.3,
      ap has_key place ∙ and_from _ _ (key_at p.1 _ parts.0 positive.0) (and_from _ _ (key_at p.2 _ parts.1 others.0) (key_at p.3 _ parts.2 others.1)),
    )

no_entry : (k : Key) (r : Option Row) → entry_of (Some k) r ≡ None → r ≡ None
no_entry k None e = refl
no_entry k (Some row) e = absurd (let clash : ◌≡◌ {A = Option (Key × Row)} (Some (k, row)) None = e in cc)

-- what is read as nothing has no key, or no row
entry_fails : (realm : List ℕ) (r : SqlRow) → IsTxnRow r → is_named realm r ≡ true → entry_in (row_shown r) ≡ None
    → (has_key (place_in r) ≡ false) ⊎ ((key : Key) × (place_in r ≡ place_of realm key) × (row_of (text_in r) ≡ None))
entry_fails realm r it named e = elim (cases_Bool (has_key (place_in r))) [
  | inl key ↦
      let p = it.place in
      let e2 : entry_of (key_of (number_in (Int p.1)) (number_in (Int p.2)) (number_in (Int p.3))) (row_of it.text) ≡ None = subst (λ x. entry_in (row_shown x) ≡ None) it.is e in
      let place : place_in r ≡ p = ap place_in it.is in
      let fits = and_parts _ _ (ap has_key (sym place) ∙ key) in
      let more = and_parts _ _ fits.1 in
      let a = number_key p.1 fits.0 in
      let b = number_key p.2 more.0 in
      let c = number_key p.3 more.1 in
      let name : p.0 ≡ realm = same_text p.0 realm (subst (λ x. is_named realm x ≡ true) it.is named) in
      let made : Key = record { epoch = a.0; connection = b.0; number = c.0 } in
      let is_made : key_of (number_in (Int p.1)) (number_in (Int p.2)) (number_in (Int p.3)) ≡ Some made = rw (a.2, b.2, c.2, a.3, b.3, c.3) refl in
      inr (made, place ∙ (λ i. (name i, a.1 i, b.1 i, c.1 i)), ap (λ x. row_of (text_in x)) it.is ∙ no_entry made (row_of it.text) (ap (λ k. entry_of k (row_of it.text)) (sym is_made) ∙ e2))
  | inr none ↦ inl none
]

abbrev nat_in : ℤ → ℕ
nat_in (pos n) = n
nat_in (negsuc n) = 0

same_entry_key : (realm : List ℕ) (a b : Key) → place_of realm a ≡ place_of realm b → a ≡ b
same_entry_key realm a b e = λ i. record { epoch = nat_in (e i).1; connection = nat_in (e i).2; number = nat_in (e i).3 }

key_self : (a : Key) → is_same a a ≡ true
key_self a = grind (arith, nat_tests)

find_as : {X Y : Type 0} (p : X → Bool) (f : X → Y) (v : Y) (xs : List X) (x : X) → Has xs x → p x ≡ true → ((y : X) → Has xs y → p y ≡ true → f y ≡ v) → option_map f (find p xs) ≡ Some v
find_as p f v [] x h is only = absurd h
find_as p f v (y ∷ xs) x h is only = elim (cases_Bool (p y)) [
  | inl is_so ↦ rw is_so (ap Some (only y (inl refl) is_so))
  | inr not_so ↦ rw not_so (find_as p f v xs x (elim h [ inl same ↦ absurd (let clash : true ≡ false = sym (ap p (sym same) ∙ is) ∙ not_so in cc) | inr later ↦ later ]) is (λ z has. only z (inr has)))
]

module _ (tree rows : List SqlRow) (realm : List ℕ) (are : AreRows tree) (shown : IsPermutation (map row_shown (filter (is_named realm) tree)) rows) where
  bad_row : (x : SqlRow) → Has rows x → entry_in x ≡ None → (list_any (is_stray realm) tree ≡ true) ⊎ ((key : Key) × (is_no_row (text_at tree (place_of realm key)) ≡ true))
  bad_row x has none =
      let m = from tree rows (is_named realm) row_shown shown x has in
      elim (entry_fails realm m.0 (are.shaped m.0 m.1) m.2 (ap entry_in (sym m.3) ∙ none)) [
        | inl stray ↦ inl (has_any (is_stray realm) tree m.0 m.1 (and_from _ _ m.2 (ap not stray)))
        | inr bad ↦
            let at : is_at (place_of realm bad.0) m.0 ≡ true = ap (λ p. same_place p (place_of realm bad.0)) bad.1 ∙ place_same (place_of realm bad.0) in
            let found = find_only (is_at (place_of realm bad.0)) tree m.0 m.1 at (λ y hy is. are.keyed y m.0 hy m.1 (is_place _ _ is ∙ sym bad.1)) in
            inr (bad.0, ap (λ o. is_no_row (option_map text_in o)) found ∙ ap (λ o. not (is_some o)) bad.2)
      ]

  pub spoiled : (epochs : Option ℤ) → (x : SqlRow) → Has rows x → entry_in x ≡ None
      → ((z : ℤ) × (epochs ≡ Some z) × ((n : ℕ) → n ≤ last_epoch → z ≢ pos n)) ⊎ ((list_any (is_stray realm) tree ≡ true) ⊎ ((key : Key) × (is_no_row (text_at tree (place_of realm key)) ≡ true)))
  spoiled epochs x has none = inr (bad_row x has none)

  module _ (entries : List (Key × Row)) (read : map Some entries ≡ map entry_in rows) where
    -- each entry is read from a row
    source : (y : Key × Row) → Has entries y → (r : SqlRow) × Has tree r × (is_named realm r ≡ true) × (entry_in (row_shown r) ≡ Some y)
    source y has =
        let m = has_mapped entry_in rows (Some y) (subst (λ l. Has l (Some y)) read (mapped_has Some entries y has)) in
        let r = from tree rows (is_named realm) row_shown shown m.0 m.1 in
        (r.0, r.1, r.2, ap entry_in (sym r.3) ∙ sym m.2)

    -- and each row of the realm is read
    taken : (r : SqlRow) → Has tree r → is_named realm r ≡ true → (y : Key × Row) × Has entries y × (entry_in (row_shown r) ≡ Some y)
    taken r has named =
        let m = has_mapped Some entries (entry_in (row_shown r)) (subst (λ l. Has l (entry_in (row_shown r))) (sym read) (mapped_has entry_in rows (row_shown r) (there tree rows (is_named realm) row_shown shown r has named))) in
        (m.0, m.1, m.2)

    pub same_rows : (key : Key) → row_at key entries ≡ option_and_then row_of (text_at tree (place_of realm key))
    same_rows key = go (find (is_at (place_of realm key)) tree) refl
      where
        go : (o : Option SqlRow) → find (is_at (place_of realm key)) tree ≡ o → row_at key entries ≡ option_and_then row_of (text_at tree (place_of realm key))
        go None e =
            let none = find_none (λ (y : Key × Row). is_same y.0 key) entries (λ y has. elim (cases_Bool (is_same y.0 key)) [
              | inl same ↦
                  let s = source y has in
                  let shows = entry_shows realm s.0 (are.shaped s.0 s.1) s.2 y s.3 in
                  let at : is_at (place_of realm key) s.0 ≡ true = ap (λ p. same_place p (place_of realm key)) (shows.0 ∙ ap (place_of realm) (same_key y.0 key same)) ∙ place_same (place_of realm key) in
                  absurd (let clash : true ≡ false = sym at ∙ find_missed (is_at (place_of realm key)) tree s.0 e s.1 in cc)
              | inr other ↦ other
            ]) in
            ap (option_map (λ (y : Key × Row). y.1)) none ∙ sym (ap (λ o. option_and_then row_of (option_map text_in o)) e)
        go (Some r) e =
            let f = has_found (is_at (place_of realm key)) tree r e in
            let place : place_in r ≡ place_of realm key = is_place _ _ f.1 in
            let named : is_named realm r ≡ true = ap (λ (p : Place). bytes_eq p.0 realm) place ∙ bytes_eq-self realm in
            let t = taken r f.0 named in
            let shows = entry_shows realm r (are.shaped r f.0) named t.0 t.2 in
            let key_is : t.0.0 ≡ key = same_entry_key realm t.0.0 key (sym shows.0 ∙ place) in
            find_as (λ (y : Key × Row). is_same y.0 key) (λ (y : Key × Row). y.1) t.0.1 entries t.0 t.1 (ap (λ k. is_same k key) key_is ∙ key_self key) (λ z has same.
            let s = source z has in
            let again = entry_shows realm s.0 (are.shaped s.0 s.1) s.2 z s.3 in
            let r_is : s.0 ≡ r = are.keyed s.0 r s.1 f.0 (again.0 ∙ ap (place_of realm) (same_key z.0 key same) ∙ sym place) in
            let both : ◌≡◌ {A = Option Row} (Some z.1) (Some t.0.1) = sym again.1 ∙ ap (λ x. row_of (text_in x)) r_is ∙ shows.1 in
            cc)
            ∙ sym (ap (λ o. option_and_then row_of (option_map text_in o)) e ∙ shows.1)

    pub no_strays : list_any (is_stray realm) tree ≡ true → ⊥
    no_strays some =
        let m = any_has (is_stray realm) tree some in
        let parts = and_parts _ _ m.2 in
        let t = taken m.0 m.1 parts.0 in
        let shows = entry_shows realm m.0 (are.shaped m.0 m.1) parts.0 t.0 t.2 in
        let clash : false ≡ true = sym (ap not shows.2) ∙ parts.1 in cc

    pub all_readable : (key : Key) → is_no_row (text_at tree (place_of realm key)) ≡ true → ⊥
    all_readable key bad = go (find (is_at (place_of realm key)) tree) refl
      where
        go : (o : Option SqlRow) → find (is_at (place_of realm key)) tree ≡ o → ⊥
        go None e = let clash : false ≡ true = sym (ap (λ o. is_no_row (option_map text_in o)) e) ∙ bad in cc
        go (Some r) e =
            let f = has_found (is_at (place_of realm key)) tree r e in
            let place : place_in r ≡ place_of realm key = is_place _ _ f.1 in
            let named : is_named realm r ≡ true = ap (λ (p : Place). bytes_eq p.0 realm) place ∙ bytes_eq-self realm in
            let t = taken r f.0 named in
            let shows = entry_shows realm r (are.shaped r f.0) named t.0 t.2 in
            let is_bad : not (is_some (row_of (text_in r))) ≡ true = sym (ap (λ o. is_no_row (option_map text_in o)) e) ∙ bad in
            let clash : false ≡ true = sym (ap (λ o. not (is_some o)) shows.1) ∙ is_bad in cc
