-- The log that a database stands for, after a change of its rows.
use Rattle.std.proofs.Common.{◌≡◌, inl, inr, ℕ, ℤ, pos, List, Bool, true, false, ◌&&◌, ◌==◌, not, if◌then◌else◌, Option, Some, None, refl, sym, ap, ◌∙◌, arith}
use Rattle.std.specs.Prelude.{option_and_then, is_some}
use Rattle.std.specs.List.{list_any}
use Rattle.std.specs.Str.{bytes_eq}
use Rattle.std.specs.Ordering.{is_eq, int_cmp}
use Rattle.std.proofs.lemmas.Bool.{cases_Bool, and_parts}
use Rattle.std.proofs.lemmas.Bool.Decides.{nat_tests}
use Rattle.sqlite.specs.Order.{Row as SqlRow}
use Rattle.sqlite.specs.Tree.{Trees}
use Rattle.tip_rows.specs.Keys.{Key}
use Rattle.tip_rows.specs.Logs.{is_here, with_row, without_row, with_known, with_all_raised, with_raised}
use Rattle.tip_rows.specs.declared.row.Row.{Row}
use Rattle.tip_sql.specs.Tables.{txn_row}
use Rattle.tip_sql.specs.Places.{Place, place_in, same_place, is_at, text_at, epoch_at, has_key, is_stray, AreRealms, AreRows}
use Rattle.tip_sql.specs.Standing.{place_of, row_of, is_no_row, log_of}
use Rattle.tip_sql.proofs.Effects.{Sets, Clears, Knows, Raises, can_rise, one_can_rise}
use Rattle.tip_sql.proofs.Facts.{is_place, same_any}
use Rattle.tip_sql.proofs.RowFacts.{text_set, text_cleared}
use Rattle.tip_sql.proofs.RealmFacts.{epoch_known, all_epochs, one_epoch}

and_assoc : (a b c : Bool) → a && (b && c) ≡ (a && b) && c
and_assoc true b c = refl
and_assoc false b c = refl

int_as_nat : (m n : ℕ) → is_eq (int_cmp (pos m) (pos n)) ≡ (m == n)
int_as_nat m n = grind (arith, nat_tests)

pub here_is : (realm r : List ℕ) (key k : Key) → same_place (place_of realm key) (place_of r k) ≡ is_here realm key r k
here_is realm r key k =
    rw (int_as_nat key.epoch k.epoch, int_as_nat key.connection k.connection, int_as_nat key.number k.number)
    (ap (λ b. bytes_eq realm r && b) (and_assoc (key.epoch == k.epoch) (key.connection == k.connection) (key.number == k.number)))

-- a row where a key stands is no stray
stray_off : (q : Place) (r : List ℕ) (x : SqlRow) → has_key q ≡ true → is_stray r x ≡ true → is_at q x ≡ false
stray_off q r x key stray = elim (cases_Bool (is_at q x)) [
  | inl at ↦
      let has : has_key (place_in x) ≡ true = ap has_key (is_place (place_in x) q at) ∙ key in
      let none = (and_parts _ _ stray).1 in
      absurd (let clash : false ≡ true = sym (ap not has) ∙ none in cc)
  | inr off ↦ off
]

here_stray : (id : ℤ) (q : Place) (text r : List ℕ) → has_key q ≡ true → is_stray r (txn_row id q.0 q.1 q.2 q.3 text) ≡ true → ⊥
here_stray id q text r key stray = let none = (and_parts _ _ stray).1 in let clash : false ≡ true = sym (ap not key) ∙ none in cc

module _ (db next : Trees) (realm : List ℕ) (key : Key) (fits : has_key (place_of realm key) ≡ true) (rows : AreRows (db 2)) (realms : next 0 ≡ db 0) where
  abbrev q : Place
  q = place_of realm key

  pub log_set : (text : List ℕ) (row : Row) → row_of text ≡ Some row → Sets (db 2) (next 2) q text → log_of next ≡ with_row realm key row (log_of db)
  log_set text row is sets =
      let at = λ (r : List ℕ) (k : Key). (let e : text_at (next 2) (place_of r k) ≡ (if is_here realm key r k then Some text else text_at (db 2) (place_of r k)) =
      text_set (db 2) (next 2) q text rows sets (place_of r k) ∙ ap (λ b. if b then Some text else text_at (db 2) (place_of r k)) (here_is realm r key k) in e) in
      let row_is = λ (r : List ℕ) (k : Key). (let e : option_and_then row_of (text_at (next 2) (place_of r k)) ≡ (if is_here realm key r k then Some row else option_and_then row_of (text_at (db 2) (place_of r k))) =
      ap (option_and_then row_of) (at r k) ∙ elim (cases_Bool (is_here realm key r k)) [ inl here ↦ rw here is | inr off ↦ rw off refl ] in e) in
      let bad_is = λ (r : List ℕ) (k : Key). (let e : is_no_row (text_at (next 2) (place_of r k)) ≡ (if is_here realm key r k then false else is_no_row (text_at (db 2) (place_of r k))) =
      ap is_no_row (at r k) ∙ elim (cases_Bool (is_here realm key r k)) [ inl here ↦ rw here (ap (λ o. not (is_some o)) is) | inr off ↦ rw off refl ] in e) in
      let strays = λ (r : List ℕ). (let e : list_any (is_stray r) (next 2) ≡ list_any (is_stray r) (db 2) =
      same_any (is_stray r) (db 2) (next 2) (λ x has stray. sets.kept x has (stray_off q r x fits stray))
      (λ x has stray. elim (sets.others x has) [ inl same ↦ absurd (here_stray sets.id q text r fits (sym (ap (is_stray r) same) ∙ stray)) | inr kept ↦ kept.0 ]) in e) in
      let epochs = ap epoch_at realms in
      λ i. record { epochs = epochs i; rows = λ r k. row_is r k i; unreadable = λ r k. bad_is r k i; strays = λ r. strays r i }

  pub log_cleared : Clears (db 2) (next 2) q → log_of next ≡ without_row realm key (log_of db)
  log_cleared clears =
      let at = λ (r : List ℕ) (k : Key). (let e : text_at (next 2) (place_of r k) ≡ (if is_here realm key r k then None else text_at (db 2) (place_of r k)) =
      text_cleared (db 2) (next 2) q rows clears (place_of r k) ∙ ap (λ b. if b then None else text_at (db 2) (place_of r k)) (here_is realm r key k) in e) in
      let row_is = λ (r : List ℕ) (k : Key). (let e : option_and_then row_of (text_at (next 2) (place_of r k)) ≡ (if is_here realm key r k then None else option_and_then row_of (text_at (db 2) (place_of r k))) =
      ap (option_and_then row_of) (at r k) ∙ elim (cases_Bool (is_here realm key r k)) [ inl here ↦ rw here refl | inr off ↦ rw off refl ] in e) in
      let bad_is = λ (r : List ℕ) (k : Key). (let e : is_no_row (text_at (next 2) (place_of r k)) ≡ (if is_here realm key r k then false else is_no_row (text_at (db 2) (place_of r k))) =
      ap is_no_row (at r k) ∙ elim (cases_Bool (is_here realm key r k)) [ inl here ↦ rw here refl | inr off ↦ rw off refl ] in e) in
      let strays = λ (r : List ℕ). (let e : list_any (is_stray r) (next 2) ≡ list_any (is_stray r) (db 2) =
      same_any (is_stray r) (db 2) (next 2) (λ x has stray. clears.kept x has (stray_off q r x fits stray)) (λ x has stray. (clears.others x has).0) in e) in
      let epochs = ap epoch_at realms in
      λ i. record { epochs = epochs i; rows = λ r k. row_is r k i; unreadable = λ r k. bad_is r k i; strays = λ r. strays r i }

-- the rows stay, and the epochs are these
epochs_are : (db next : Trees) (epochs : List ℕ → Option ℤ) → next 2 ≡ db 2 → ((n : List ℕ) → epoch_at (next 0) n ≡ epochs n) → log_of next ≡ record (log_of db) { epochs = epochs }
epochs_are db next epochs rows each =
    λ i. record {
      epochs = λ n. each n i;
      rows = λ r k. option_and_then row_of (text_at (rows i) (place_of r k));
      unreadable = λ r k. is_no_row (text_at (rows i) (place_of r k));
      strays = λ r. list_any (is_stray r) (rows i);
    }

module _ (db next : Trees) (realms : AreRealms (db 0)) (rows : next 2 ≡ db 2) where
  pub log_known : (realm : List ℕ) → Knows (db 0) (next 0) realm → log_of next ≡ with_known realm (log_of db)
  log_known realm knows = epochs_are db next _ rows (epoch_known (db 0) (next 0) realm realms knows)

  pub log_raised_all : Raises can_rise (db 0) (next 0) → log_of next ≡ with_all_raised (log_of db)
  log_raised_all raises = epochs_are db next _ rows (all_epochs (db 0) (next 0) realms raises)

  pub log_raised : (realm : List ℕ) → Raises (one_can_rise realm) (db 0) (next 0) → log_of next ≡ with_raised realm (log_of db)
  log_raised realm raises = epochs_are db next _ rows (one_epoch realm (db 0) (next 0) realms raises)
