-- Rows of transactions after a change.
use Rattle.std.proofs.Common.{◌≡◌, inl, inr, ℕ, List, Bool, true, false, find, Option, Some, None, option_map, if◌then◌else◌, refl, sym, ap, ◌∙◌}
use Rattle.std.proofs.lemmas.Bool.{cases_Bool}
use Rattle.sqlite.specs.Order.{Row}
use Rattle.sqlite.specs.Tree.{rowid}
use Rattle.sqlite_rules.specs.Lists.{Has}
use Rattle.sqlite_rules.proofs.ListLemmas.{has_found}
use Rattle.tip_sql.specs.Tables.{txn_row}
use Rattle.tip_sql.specs.Places.{Place, place_in, same_place, is_at, text_in, text_at, AreRows}
use Rattle.tip_sql.proofs.Effects.{Sets, Clears}
use Rattle.tip_sql.proofs.Facts.{find_only, find_none, find_missed, is_place, place_same}

pub set_rows : (old new : List Row) (q : Place) (text : List ℕ) → AreRows old → Sets old new q text → AreRows new
set_rows old new q text rows sets = record {
  shaped = λ r has. elim (sets.others r has) [ inl same ↦ record { id = sets.id; place = q; text = text; is = same } | inr kept ↦ rows.shaped r kept.0 ];
  apart = λ a b ha hb same. elim (sets.others a ha) [
    | inl isa ↦ elim (sets.others b hb) [ inl isb ↦ isa ∙ sym isb | inr kept ↦ absurd (sets.apart b kept.0 kept.1 (ap rowid (sym isa) ∙ same)) ]
    | inr kept ↦ elim (sets.others b hb) [ inl isb ↦ absurd (sets.apart a kept.0 kept.1 (ap rowid (sym isb) ∙ sym same)) | inr keptb ↦ rows.apart a b kept.0 keptb.0 same ]
  ];
  keyed = λ a b ha hb same. elim (sets.others a ha) [
    | inl isa ↦ elim (sets.others b hb) [ inl isb ↦ isa ∙ sym isb | inr kept ↦ absurd (off q b kept.1 (sym same ∙ ap place_in isa)) ]
    | inr kept ↦ elim (sets.others b hb) [ inl isb ↦ absurd (off q a kept.1 (same ∙ ap place_in isb)) | inr keptb ↦ rows.keyed a b kept.0 keptb.0 same ]
  ];
}
  where
    off : (q : Place) (r : Row) → is_at q r ≡ false → place_in r ≡ q → ⊥
    off q r away is = let e : true ≡ false = sym (ap (λ x. same_place x q) is ∙ place_same q) ∙ away in cc

pub cleared_rows : (old new : List Row) (q : Place) → AreRows old → Clears old new q → AreRows new
cleared_rows old new q rows clears = record {
  shaped = λ r has. rows.shaped r (clears.others r has).0;
  apart = λ a b ha hb. rows.apart a b (clears.others a ha).0 (clears.others b hb).0;
  keyed = λ a b ha hb. rows.keyed a b (clears.others a ha).0 (clears.others b hb).0;
}

-- what a test finds, where the rows that pass it are the same
same_find : (old new : List Row) (p : Row → Bool) → AreRows new → ((a b : Row) → p a ≡ true → p b ≡ true → place_in a ≡ place_in b)
    → ((r : Row) → Has old r → p r ≡ true → Has new r) → ((r : Row) → Has new r → p r ≡ true → Has old r) → find p new ≡ find p old
same_find old new p rows one to back = go (find p old) refl
  where
    go : (o : Option Row) → find p old ≡ o → find p new ≡ find p old
    go None e = find_none p new (λ y has. elim (cases_Bool (p y)) [ inl is_so ↦ find_missed p old y e (back y has is_so) | inr not_so ↦ not_so ]) ∙ sym e
    go (Some r) e =
        let f = has_found p old r e in
        find_only p new r (to r f.0 f.1) f.1 (λ y has is. rows.keyed y r has (to r f.0 f.1) (one y r is f.1)) ∙ sym e

one_place : (q : Place) (a b : Row) → is_at q a ≡ true → is_at q b ≡ true → place_in a ≡ place_in b
one_place q a b ea eb = is_place (place_in a) q ea ∙ sym (is_place (place_in b) q eb)

-- a row at one place is at no other
elsewhere : (q p : Place) (r : Row) → same_place q p ≡ false → is_at p r ≡ true → is_at q r ≡ false
elsewhere q p r other at_p = elim (cases_Bool (is_at q r)) [
  | inl at_q ↦ absurd (let e : true ≡ false = sym (ap (λ x. same_place x p) (sym (is_place _ _ at_q)) ∙ at_p) ∙ other in cc)
  | inr off ↦ off
]

pub text_set : (old new : List Row) (q : Place) (text : List ℕ) → AreRows old → Sets old new q text → (p : Place)
    → text_at new p ≡ (if same_place q p then Some text else text_at old p)
text_set old new q text rows sets p = elim (cases_Bool (same_place q p)) [
  | inl same ↦ rw same (ap (option_map text_in) (find_only (is_at p) new row sets.here same (λ y has at_p. after.keyed y row has sets.here (is_place _ _ at_p ∙ sym (is_place q p same)))))
  | inr other ↦ rw other (ap (option_map text_in) (same_find old new (is_at p) after (one_place p)
      (λ r has at_p. sets.kept r has (elsewhere q p r other at_p))
      (λ r has at_p. elim (sets.others r has) [ inl is ↦ absurd (let e : true ≡ false = sym at_p ∙ ap (is_at p) is ∙ other in cc) | inr kept ↦ kept.0 ])))
]
  where
    row : Row
    row = txn_row sets.id q.0 q.1 q.2 q.3 text

    after : AreRows new
    after = set_rows old new q text rows sets

pub text_cleared : (old new : List Row) (q : Place) → AreRows old → Clears old new q → (p : Place)
    → text_at new p ≡ (if same_place q p then None else text_at old p)
text_cleared old new q rows clears p = elim (cases_Bool (same_place q p)) [
  | inl same ↦ rw same (ap (option_map text_in) (find_none (is_at p) new (λ y has. ap (λ x. same_place (place_in y) x) (sym (is_place q p same)) ∙ (clears.others y has).1)))
  | inr other ↦ rw other (ap (option_map text_in) (same_find old new (is_at p) (cleared_rows old new q rows clears) (one_place p)
      (λ r has at_p. clears.kept r has (elsewhere q p r other at_p)) (λ r has at_p. (clears.others r has).0)))
]
