-- What the names that a query shows say of the log.
use Rattle.std.proofs.Common.{◌≡◌, inl, inr, ℕ, ℤ, pos, List, [], ◌∷◌, map, filter, find, true, false, Option, Some, None, option_map, refl, sym, ap, subst, ◌∙◌}
use Rattle.std.specs.Prelude.{is_some, IsSome}
use Rattle.std.specs.List.{list_any}
use Rattle.std.specs.List.Sorted.{IsPermutation}
use Rattle.std.specs.Str.{bytes_eq}
use Rattle.std.specs.Ordering.{is_eq, int_cmp}
use Rattle.std.proofs.lemmas.Bool.{cases_Bool}
use Rattle.sqlite.specs.Order.{Row as SqlRow}
use Rattle.sqlite.specs.declared.types.Value.TheVariants.{Text}
use Rattle.sqlite_rules.specs.Lists.{Has}
use Rattle.sqlite_rules.proofs.ListLemmas.{has_found}
use Rattle.tip_line.specs.Words.{is_realm}
use Rattle.tip_rows.specs.Logs.{last_epoch}
use Rattle.tip_rows.proofs.MemoryLemmas.{same_text, bytes_eq-self}
use Rattle.tip_sql.specs.Places.{is_named, is_last, all_rows, epoch_at, epoch_in, name_in, IsRealmRow, AreRealms, name_shown}
use Rattle.tip_sql.specs.Reading.{realm_in}
use Rattle.tip_sql.specs.Reading as reading
use Rattle.tip_sql.proofs.Facts.{find_only, find_missed, has_mapped, mapped_has, any_has, has_any, same_int}
use Rattle.tip_sql.proofs.RealmFacts.{one_name}
use Rattle.tip_sql.proofs.Loading.{there, from}

found_named : (tree : List SqlRow) → AreRealms tree → (r : SqlRow) → Has tree r → find (is_named (name_in r)) tree ≡ Some r
found_named tree realms r has = find_only (is_named (name_in r)) tree r has (bytes_eq-self (name_in r)) (λ y hy is. one_name tree realms (name_in r) y r hy has is (bytes_eq-self (name_in r)))

epoch_named : (tree : List SqlRow) → AreRealms tree → (r : SqlRow) → Has tree r → epoch_at tree (name_in r) ≡ Some (epoch_in r)
epoch_named tree realms r has = ap (option_map epoch_in) (found_named tree realms r has)

is_some_is : {A : Type 0} (o : Option A) (x : A) → o ≡ Some x → IsSome o
is_some_is o x e = ap is_some e

-- ---- names

read_name : (r : SqlRow) → IsRealmRow r → realm_in (name_shown r) ≡ reading.name_in (Text (name_in r))
read_name r it = subst (λ x. realm_in (name_shown x) ≡ reading.name_in (Text (name_in x))) (sym it.is) refl

name_some : (t n : List ℕ) → reading.name_in (Text t) ≡ Some n → (t ≡ n) × (is_realm t ≡ true)
name_some t n e = elim (cases_Bool (is_realm t)) [
  | inl is ↦ let some : ◌≡◌ {A = Option (List ℕ)} (Some t) (Some n) = rw is at e in let same : t ≡ n = cc in (same, is)
  | inr off ↦ absurd (let clash : ◌≡◌ {A = Option (List ℕ)} None (Some n) = rw off at e in cc)
]

name_none : (t : List ℕ) → reading.name_in (Text t) ≡ None → is_realm t ≡ false
name_none t e = elim (cases_Bool (is_realm t)) [
  | inl is ↦ absurd (let clash : ◌≡◌ {A = Option (List ℕ)} (Some t) None = rw is at e in cc)
  | inr off ↦ off
]

module _ (tree rows : List SqlRow) (realms : AreRealms tree) (shown : IsPermutation (map name_shown (filter all_rows tree)) rows) where
  pub bad_name : (x : SqlRow) → Has rows x → realm_in x ≡ None → (name : List ℕ) × IsSome (epoch_at tree name) × (is_realm name ≡ false)
  bad_name x has none =
      let m = from tree rows all_rows name_shown shown x has in
      (name_in m.0, is_some_is _ _ (epoch_named tree realms m.0 m.1), name_none (name_in m.0) (sym (read_name m.0 (realms.shaped m.0 m.1)) ∙ ap realm_in (sym m.3) ∙ none))

  module _ (names : List (List ℕ)) (read : map Some names ≡ map realm_in rows) where
    taken : (r : SqlRow) → Has tree r → Has names (name_in r) × (is_realm (name_in r) ≡ true)
    taken r has =
        let m = has_mapped Some names (realm_in (name_shown r)) (subst (λ l. Has l (realm_in (name_shown r))) (sym read) (mapped_has realm_in rows (name_shown r) (there tree rows all_rows name_shown shown r has refl))) in
        let is = name_some (name_in r) m.0 (sym (read_name r (realms.shaped r has)) ∙ m.2) in
        (subst (Has names) (sym is.0) m.1, is.1)

    source : (n : List ℕ) → Has names n → (r : SqlRow) × Has tree r × (name_in r ≡ n)
    source n has =
        let m = has_mapped realm_in rows (Some n) (subst (λ l. Has l (Some n)) read (mapped_has Some names n has)) in
        let r = from tree rows all_rows name_shown shown m.0 m.1 in
        (r.0, r.1, (name_some (name_in r.0) n (sym (read_name r.0 (realms.shaped r.0 r.1)) ∙ ap realm_in (sym r.3) ∙ sym m.2)).0)

    pub known_names : (name : List ℕ) → is_some (epoch_at tree name) ≡ list_any (λ other. bytes_eq other name) names
    known_names name = go (find (is_named name) tree) refl
      where
        go : (o : Option SqlRow) → find (is_named name) tree ≡ o → is_some (epoch_at tree name) ≡ list_any (λ other. bytes_eq other name) names
        go None e = ap (λ o. is_some (option_map epoch_in o)) e ∙ sym (elim (cases_Bool (list_any (λ other. bytes_eq other name) names)) [
          | inl some ↦
              let m = any_has (λ other. bytes_eq other name) names some in
              let s = source m.0 m.1 in
              absurd (let clash : true ≡ false = sym (ap (λ n. bytes_eq n name) s.2 ∙ m.2) ∙ find_missed (is_named name) tree s.0 e s.1 in cc)
          | inr none ↦ none
        ])
        go (Some r) e =
            let f = has_found (is_named name) tree r e in
            ap (λ o. is_some (option_map epoch_in o)) e ∙ sym (has_any (λ other. bytes_eq other name) names (name_in r) (taken r f.0).0 f.1)

    pub no_bad_name : (name : List ℕ) → IsSome (epoch_at tree name) → is_realm name ≡ false → ⊥
    no_bad_name name some bad = go (find (is_named name) tree) refl
      where
        go : (o : Option SqlRow) → find (is_named name) tree ≡ o → ⊥
        go None e = let clash : false ≡ true = subst (λ o. IsSome (option_map epoch_in o)) e some in cc
        go (Some r) e =
            let f = has_found (is_named name) tree r e in
            let same : name_in r ≡ name = same_text (name_in r) name f.1 in
            let clash : true ≡ false = sym (ap is_realm (sym same) ∙ (taken r f.0).1) ∙ bad in cc

-- ---- epochs at their end

last_is : (r : SqlRow) → is_last r ≡ true → epoch_in r ≡ pos last_epoch
last_is r e = same_int (epoch_in r) (pos last_epoch) e

module _ (tree rows : List SqlRow) (realms : AreRealms tree) (shown : IsPermutation (map name_shown (filter is_last tree)) rows) where
  pub one_ends : (x : SqlRow) (more : List SqlRow) → rows ≡ x ∷ more → (realm : List ℕ) × (epoch_at tree realm ≡ Some (pos last_epoch))
  one_ends x more is =
      let m = from tree rows is_last name_shown shown x (subst (λ l. Has l x) (sym is) (inl refl)) in
      (name_in m.0, epoch_named tree realms m.0 m.1 ∙ ap Some (last_is m.0 m.2))

  pub none_ends : rows ≡ [] → (realm : List ℕ) → ¬ (epoch_at tree realm ≡ Some (pos last_epoch))
  none_ends is realm ends = go (find (is_named realm) tree) refl
    where
      go : (o : Option SqlRow) → find (is_named realm) tree ≡ o → ⊥
      go None e = let clash : ◌≡◌ {A = Option ℤ} None (Some (pos last_epoch)) = sym (ap (option_map epoch_in) e) ∙ ends in cc
      go (Some r) e =
          let f = has_found (is_named realm) tree r e in
          let both : ◌≡◌ {A = Option ℤ} (Some (epoch_in r)) (Some (pos last_epoch)) = sym (ap (option_map epoch_in) e) ∙ ends in
          let same : epoch_in r ≡ pos last_epoch = cc in
          let last : is_last r ≡ true = ap (λ z. is_eq (int_cmp z (pos last_epoch))) same in
          subst (λ l. Has l (name_shown r)) is (there tree rows is_last name_shown shown r f.0 last)
