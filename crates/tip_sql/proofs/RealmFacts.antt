-- Known realms after a change.
use Rattle.std.proofs.Common.{◌≡◌, inl, inr, ℕ, ℤ, pos, negsuc, List, Bool, true, false, ◌&&◌, find, Option, Some, None, option_map, if◌then◌else◌, refl, sym, ap, subst, ◌∙◌, arith}
use Rattle.std.specs.Str.{bytes_eq}
use Rattle.std.specs.Ordering.{is_ge, is_lt, int_cmp}
use Rattle.std.specs.Prelude.{nat_lt}
use Rattle.std.proofs.lemmas.Bool.{cases_Bool}
use Rattle.std.proofs.lemmas.Bool.Decides.{nat_tests}
use Rattle.sqlite.specs.Order.{Row}
use Rattle.sqlite.specs.Tree.{rowid}
use Rattle.sqlite_rules.specs.Lists.{Has}
use Rattle.sqlite_rules.proofs.ListLemmas.{has_found}
use Rattle.tip_rows.specs.Logs.{known, raised}
use Rattle.tip_rows.proofs.MemoryLemmas.{same_text, bytes_eq-self, bytes_eq-sym}
use Rattle.tip_sql.specs.Tables.{realm_row}
use Rattle.tip_sql.specs.Places.{name_in, epoch_in, is_named, epoch_at, IsRealmRow, AreRealms}
use Rattle.tip_sql.proofs.Effects.{Adds, Knows, can_rise, one_can_rise, risen, Raises}
use Rattle.tip_sql.proofs.Facts.{find_only, find_none, find_missed, find_same}

-- ---- one more

added_realms : (old new : List Row) (realm : List ℕ) → AreRealms old → ((r : Row) → Has old r → is_named realm r ≡ false) → Adds old new realm → AreRealms new
added_realms old new realm realms none adds = record {
  shaped = λ r has. elim (adds.others r has) [ inl same ↦ record { id = adds.id; name = realm; epoch = pos 0; is = same } | inr kept ↦ realms.shaped r kept ];
  apart = λ a b ha hb same. elim (adds.others a ha) [
    | inl isa ↦ elim (adds.others b hb) [ inl isb ↦ isa ∙ sym isb | inr kept ↦ absurd (adds.apart b kept (ap rowid (sym isa) ∙ same)) ]
    | inr kept ↦ elim (adds.others b hb) [ inl isb ↦ absurd (adds.apart a kept (ap rowid (sym isb) ∙ sym same)) | inr keptb ↦ realms.apart a b kept keptb same ]
  ];
  named = λ a b ha hb same. elim (adds.others a ha) [
    | inl isa ↦ elim (adds.others b hb) [ inl isb ↦ isa ∙ sym isb | inr kept ↦ absurd (off b kept (sym same ∙ ap name_in isa)) ]
    | inr kept ↦ elim (adds.others b hb) [ inl isb ↦ absurd (off a kept (same ∙ ap name_in isb)) | inr keptb ↦ realms.named a b kept keptb same ]
  ];
}
  where
    off : (r : Row) → Has old r → name_in r ≡ realm → ⊥
    off r has is = let e : true ≡ false = sym (ap (λ x. bytes_eq x realm) is ∙ bytes_eq-self realm) ∙ none r has in cc

pub known_realms : (old new : List Row) (realm : List ℕ) → AreRealms old → Knows old new realm → AreRealms new
known_realms old new realm realms (inl there) = subst AreRealms (sym there.3) realms
known_realms old new realm realms (inr added) = added_realms old new realm realms added.0 added.1

-- the rows of one name are one
pub one_name : (rows : List Row) → AreRealms rows → (n : List ℕ) (a b : Row) → Has rows a → Has rows b → is_named n a ≡ true → is_named n b ≡ true → a ≡ b
one_name rows realms n a b ha hb ea eb = realms.named a b ha hb (same_text _ _ ea ∙ sym (same_text _ _ eb))

known_some : (o : Option ℤ) (e : ℤ) → o ≡ Some e → known o ≡ o
known_some o e is = rw is refl

pub epoch_known : (old new : List Row) (realm : List ℕ) → AreRealms old → Knows old new realm → (n : List ℕ) → epoch_at new n ≡ (if bytes_eq realm n then known (epoch_at old n) else epoch_at old n)
epoch_known old new realm realms (inl there) n = elim (cases_Bool (bytes_eq realm n)) [
  | inl same ↦
      let name : realm ≡ n = same_text realm n same in
      let found = find_only (is_named n) old there.0 there.1 (ap (λ x. is_named x there.0) (sym name) ∙ there.2)
      (λ y has is. one_name old realms n y there.0 has there.1 is (ap (λ x. is_named x there.0) (sym name) ∙ there.2)) in
      rw same (ap (λ l. epoch_at l n) there.3 ∙ sym (known_some (epoch_at old n) (epoch_in there.0) (ap (option_map epoch_in) found)))
  | inr other ↦ rw other (ap (λ l. epoch_at l n) there.3)
]
epoch_known old new realm realms (inr added) n = elim (cases_Bool (bytes_eq realm n)) [
  | inl same ↦
      let name : realm ≡ n = same_text realm n same in
      let row = realm_row added.1.id realm (pos 0) in
      let here : is_named n row ≡ true = same in
      let after = added_realms old new realm realms added.0 added.1 in
      let found = find_only (is_named n) new row added.1.here here (λ y has is. one_name new after n y row has added.1.here is here) in
      let none = find_none (is_named n) old (λ y has. ap (λ x. is_named x y) (sym name) ∙ added.0 y has) in
      rw same (ap (option_map epoch_in) found ∙ sym (ap (λ o. known (option_map epoch_in o)) none))
  | inr other ↦
      let after = added_realms old new realm realms added.0 added.1 in
      rw other (ap (option_map epoch_in) (find_same (is_named n) old new (one_name new after n)
      (λ r has _. added.1.kept r has)
      (λ r has at. elim (added.1.others r has) [ inl is ↦ absurd (let e : true ≡ false = sym at ∙ ap (is_named n) is ∙ other in cc) | inr kept ↦ kept ])))
]

-- ---- risen

risen_id : (r : Row) → IsRealmRow r → rowid (risen r) ≡ rowid r
risen_id r it = subst (λ x. rowid (risen x) ≡ rowid x) (sym it.is) refl

-- what becomes of a row
abbrev lift : (Row → Bool) → Row → Row
lift up r = if up r then risen r else r

-- what a rise leaves is as it was
lift_keeps : {V : Type 0} (f : Row → V) (up : Row → Bool) (r : Row) → f (risen r) ≡ f r → f (lift up r) ≡ f r
lift_keeps f up r same = elim (cases_Bool (up r)) [ inl rose ↦ rw rose same | inr stays ↦ rw stays refl ]

lifted : (up : Row → Bool) (old new : List Row) → Raises up old new → (y : Row) → Has new y → (r : Row) × Has old r × (y ≡ lift up r)
lifted up old new raises y has =
    let m = raises.from y has in
    (m.0, m.1, elim m.2 [ inl rose ↦ let is = rose.0 in rw is rose.1 | inr stays ↦ let is = stays.0 in rw is stays.1 ])

has_lifted : (up : Row → Bool) (old new : List Row) → Raises up old new → (r : Row) → Has old r → Has new (lift up r)
has_lifted up old new raises r has = elim (cases_Bool (up r)) [ inl rose ↦ rw rose (raises.raised r has rose) | inr stays ↦ rw stays (raises.kept r has stays) ]

pub raised_realms : (up : Row → Bool) (old new : List Row) → AreRealms old → Raises up old new → AreRealms new
raised_realms up old new realms raises = record {
  shaped = λ y has. let m = lifted up old new raises y has in subst IsRealmRow (sym m.2) (shape m.0 (realms.shaped m.0 m.1));
  apart = λ a b ha hb same.
      let m = lifted up old new raises a ha in
      let n = lifted up old new raises b hb in
      let one : m.0 ≡ n.0 = realms.apart m.0 n.0 m.1 n.1 (sym (lift_keeps rowid up m.0 (risen_id m.0 (realms.shaped m.0 m.1))) ∙ ap rowid (sym m.2) ∙ same ∙ ap rowid n.2 ∙ lift_keeps rowid up n.0 (risen_id n.0 (realms.shaped n.0 n.1))) in
      m.2 ∙ ap (lift up) one ∙ sym n.2;
  named = λ a b ha hb same.
      let m = lifted up old new raises a ha in
      let n = lifted up old new raises b hb in
      let one : m.0 ≡ n.0 = realms.named m.0 n.0 m.1 n.1 (sym (lift_keeps name_in up m.0 refl) ∙ ap name_in (sym m.2) ∙ same ∙ ap name_in n.2 ∙ lift_keeps name_in up n.0 refl) in
      m.2 ∙ ap (lift up) one ∙ sym n.2;
}
  where
    shape : (r : Row) → IsRealmRow r → IsRealmRow (lift up r)
    shape r it = elim (cases_Bool (up r)) [ inl rose ↦ rw rose (record { id = _; name = _; epoch = _; is = refl }) | inr stays ↦ rw stays it ]

-- the epoch of a realm is that of its row, risen where it is to rise
pub epoch_lifted : (up : Row → Bool) (old new : List Row) → AreRealms old → Raises up old new → (n : List ℕ) → epoch_at new n ≡ option_map (λ r. epoch_in (lift up r)) (find (is_named n) old)
epoch_lifted up old new realms raises n = go (find (is_named n) old) refl
  where
    go : (o : Option Row) → find (is_named n) old ≡ o → epoch_at new n ≡ option_map (λ r. epoch_in (lift up r)) (find (is_named n) old)
    go None e =
        let none = find_none (is_named n) new (λ y has.
        let m = lifted up old new raises y has in
        ap (is_named n) m.2 ∙ ap (λ x. bytes_eq x n) (lift_keeps name_in up m.0 refl) ∙ find_missed (is_named n) old m.0 e m.1) in
        ap (option_map epoch_in) none ∙ sym (ap (option_map (λ (r : Row). epoch_in (lift up r))) e)
    go (Some r) e =
        let f = has_found (is_named n) old r e in
        let after = raised_realms up old new realms raises in
        let here : is_named n (lift up r) ≡ true = ap (λ x. bytes_eq x n) (lift_keeps name_in up r refl) ∙ f.1 in
        let has : Has new (lift up r) = has_lifted up old new raises r f.0 in
        let found = find_only (is_named n) new (lift up r) has here (λ y hy is. one_name new after n y (lift up r) hy has is here) in
        ap (option_map epoch_in) found ∙ sym (ap (option_map (λ (r : Row). epoch_in (lift up r))) e)

lt_is : (n : ℕ) → is_lt (int_cmp (pos n) (pos 4294967295)) ≡ nat_lt n 4294967295
lt_is n = grind (arith, nat_tests)

ge_is : (n : ℕ) → is_ge (int_cmp (pos n) (pos 0)) ≡ true
ge_is n = grind (arith, nat_tests)

raised_is : (r : Row) → IsRealmRow r → epoch_in (if can_rise r then risen r else r) ≡ raised (epoch_in r)
raised_is r it = subst (λ x. epoch_in (if can_rise x then risen x else x) ≡ raised (epoch_in x)) (sym it.is) (number it.epoch)
  where
    number : (z : ℤ) → epoch_in (if can_rise (realm_row it.id it.name z) then risen (realm_row it.id it.name z) else realm_row it.id it.name z) ≡ raised z
    number (pos n) = elim (cases_Bool (nat_lt n 4294967295)) [
      | inl under ↦ rw (ge_is n, lt_is n, under) refl
      | inr over ↦ rw (ge_is n, lt_is n, over) refl
    ]
    number (negsuc n) = refl

-- at a row that is there, one function after another
mapped_alike : {A B : Type 0} (f g : A → B) (o : Option A) → ((x : A) → o ≡ Some x → f x ≡ g x) → option_map f o ≡ option_map g o
mapped_alike f g None same = refl
mapped_alike f g (Some x) same = ap Some (same x refl)

map_twice : {A B C : Type 0} (f : A → B) (g : B → C) (o : Option A) → option_map g (option_map f o) ≡ option_map (λ x. g (f x)) o
map_twice f g None = refl
map_twice f g (Some x) = refl

pub all_epochs : (old new : List Row) → AreRealms old → Raises can_rise old new → (n : List ℕ) → epoch_at new n ≡ option_map raised (epoch_at old n)
all_epochs old new realms raises n =
    epoch_lifted can_rise old new realms raises n
    ∙ mapped_alike (λ r. epoch_in (lift can_rise r)) (λ r. raised (epoch_in r)) (find (is_named n) old) (λ r found. raised_is r (realms.shaped r (has_found (is_named n) old r found).0))
    ∙ sym (map_twice epoch_in raised (find (is_named n) old))

pub one_epoch : (realm : List ℕ) (old new : List Row) → AreRealms old → Raises (one_can_rise realm) old new → (n : List ℕ)
    → epoch_at new n ≡ (if bytes_eq realm n then option_map raised (epoch_at old n) else epoch_at old n)
one_epoch realm old new realms raises n = elim (cases_Bool (bytes_eq realm n)) [
  | inl same ↦ rw same (epoch_lifted (one_can_rise realm) old new realms raises n
      ∙ mapped_alike (λ r. epoch_in (lift (one_can_rise realm) r)) (λ r. raised (epoch_in r)) (find (is_named n) old) (λ r found.
      let f = has_found (is_named n) old r found in
      let named : is_named realm r ≡ true = ap (λ x. is_named x r) (same_text realm n same) ∙ f.1 in
      ap (λ b. epoch_in (if b && can_rise r then risen r else r)) named ∙ raised_is r (realms.shaped r f.0))
      ∙ sym (map_twice epoch_in raised (find (is_named n) old)))
  | inr other ↦ rw other (epoch_lifted (one_can_rise realm) old new realms raises n
      ∙ mapped_alike (λ r. epoch_in (lift (one_can_rise realm) r)) epoch_in (find (is_named n) old) (λ r found.
      let f = has_found (is_named n) old r found in
      let off : is_named realm r ≡ false = ap (λ x. bytes_eq x realm) (same_text _ n f.1) ∙ bytes_eq-sym n realm ∙ other in
      ap (λ b. epoch_in (if b && can_rise r then risen r else r)) off))
]
