-- Where a row stands among rows that rise, and what is put and taken out there.
use Rattle.std.proofs.Common.{◌≡◌, ◌∙◌, ◌<◌, ◌≤◌, ℕ, zero, suc, Bool, true, false, cond, List, [], ◌∷◌, length, get_or, arith, refl, ap, sym, inl, inr}
use Rattle.std.specs.Prelude.{insert, remove, slice_set}
use Rattle.std.specs.List.{list_all}
use Rattle.std.proofs.lemmas.Bool.{and_parts, cases_Bool}
use Rattle.tip_machine.specs.Moves.{row_put}
use Rattle.tip_machine.proofs.Storing.{before_apart}
use Rattle.tip_rows.specs.Keys.{Key, comes_before, is_same}
use Rattle.tip_rows.specs.Logs.{is_rising}
use Rattle.tip_rows.specs.declared.row.Row.{Row}
use Rattle.tip_table.specs.Lists.{without}
use Rattle.tip_kept.specs.Keeping.{count_before, is_at}
use Rattle.std.proofs.lemmas.Bool.Decides.{nat_tests}

-- Keys

apart_turned : (a b : Key) → comes_before a b ≡ true → is_same b a ≡ false
apart_turned a b before = grind (arith, nat_tests)

not_back : (a b : Key) → comes_before a b ≡ true → comes_before b a ≡ false
not_back a b before = grind (arith, nat_tests)

follows : (a b : Key) → comes_before a b ≡ false → is_same b a ≡ false → comes_before b a ≡ true
follows a b not apart = grind (arith, nat_tests)

through : (a b c : Key) → comes_before a b ≡ true → comes_before b c ≡ true → comes_before a c ≡ true
through a b c first second = grind (arith, nat_tests)

-- WHERE IT STANDS

-- the rows before a key are at the front
pub parted : (key : Key) (rows : List (Key × Row)) → is_rising rows ≡ true → (i j : ℕ) (d : Key × Row) → i ≤ j → j < length rows → comes_before (get_or rows j d).0 key ≡ true → comes_before (get_or rows i d).0 key ≡ true
parted key [] rising i j d le within before = absurd (omega (arith, within))
parted key (stored ∷ rows) rising zero zero d le within before = before
parted key (stored ∷ rows) rising zero (suc j) d le within before =
    let parts = and_parts (list_all (λ (s : Key × Row). comes_before stored.0 s.0) rows) (is_rising rows) rising in
    through stored.0 (get_or rows j d).0 key (at_each rows j d parts.0 (omega (arith, within))) before where
      at_each : (ss : List (Key × Row)) (k : ℕ) (d : Key × Row) → list_all (λ (s : Key × Row). comes_before stored.0 s.0) ss ≡ true → k < length ss → comes_before stored.0 (get_or ss k d).0 ≡ true
      at_each [] k d all less = absurd (omega (arith, less))
      at_each (s ∷ ss) zero d all less = (and_parts (comes_before stored.0 s.0) (list_all (λ (s : Key × Row). comes_before stored.0 s.0) ss) all).0
      at_each (s ∷ ss) (suc k) d all less = at_each ss k d (and_parts (comes_before stored.0 s.0) (list_all (λ (s : Key × Row). comes_before stored.0 s.0) ss) all).1 (omega (arith, less))
parted key (stored ∷ rows) rising (suc i) zero d le within before = absurd (omega (arith, le))
parted key (stored ∷ rows) rising (suc i) (suc j) d le within before = parted key rows (and_parts (list_all (λ (s : Key × Row). comes_before stored.0 s.0) rows) (is_rising rows) rising).1 i j d (omega (arith, le)) (omega (arith, within)) before

-- so a place between those that come before and those that don't is their count
pub counted : (key : Key) (rows : List (Key × Row)) (i : ℕ) (d : Key × Row) → i ≤ length rows → ((k : ℕ) → k < i → comes_before (get_or rows k d).0 key ≡ true) → ((k : ℕ) → i ≤ k → k < length rows → comes_before (get_or rows k d).0 key ≡ false) → i ≡ count_before key rows
counted key [] i d within front back = omega (arith, within)
counted key (stored ∷ rows) zero d within front back =
    let first : comes_before stored.0 key ≡ false = back 0 (omega arith) (omega arith) in
    sym (ap (λ b. cond b (suc (count_before key rows)) 0) first)
counted key (stored ∷ rows) (suc i) d within front back =
    let first : comes_before stored.0 key ≡ true = front 0 (omega arith) in
    let more : i ≡ count_before key rows = counted key rows i d (omega (arith, within)) (λ k less. front (suc k) (omega (arith, less))) (λ k from less. back (suc k) (omega (arith, from)) (omega (arith, less))) in
    ap suc more ∙ sym (ap (λ b. cond b (suc (count_before key rows)) 0) first)

-- WHAT IS PUT THERE

-- in place of its own row
pub put_over : (key : Key) (row : Row) (rows : List (Key × Row)) → is_at key rows (count_before key rows) ≡ true → slice_set rows (count_before key rows) (key, row) ≡ row_put key row rows
put_over key row [] at = absurd (cc)
put_over key row (stored ∷ rows) at = elim (cases_Bool (comes_before stored.0 key)) [
  | inl before ↦
      let apart : is_same key stored.0 ≡ false = apart_turned stored.0 key before in
      let back : comes_before key stored.0 ≡ false = not_back stored.0 key before in
      simp (before, apart, back) (ap (λ l. stored ∷ l) (put_over key row rows (simp before at at)))
  | inr not ↦ (let same : is_same key stored.0 ≡ true = simp not at at in simp (not, same) refl)
]

-- where it had none
pub put_new : (key : Key) (row : Row) (rows : List (Key × Row)) → is_at key rows (count_before key rows) ≡ false → insert rows (count_before key rows) (key, row) ≡ row_put key row rows
put_new key row [] at = refl
put_new key row (stored ∷ rows) at = elim (cases_Bool (comes_before stored.0 key)) [
  | inl before ↦
      let apart : is_same key stored.0 ≡ false = apart_turned stored.0 key before in
      let back : comes_before key stored.0 ≡ false = not_back stored.0 key before in
      simp (before, apart, back) (ap (λ l. stored ∷ l) (put_new key row rows (simp before at at)))
  | inr not ↦ (
      let apart : is_same key stored.0 ≡ false = simp not at at in
      let before : comes_before key stored.0 ≡ true = follows stored.0 key not apart in
      simp (not, apart, before) refl)
]

-- WHAT IS TAKEN OUT

pub taken_out : (key : Key) (rows : List (Key × Row)) → is_at key rows (count_before key rows) ≡ true → remove rows (count_before key rows) ≡ without (λ (other : Key × Row). is_same key other.0) rows
taken_out key [] at = absurd (cc)
taken_out key (stored ∷ rows) at = elim (cases_Bool (comes_before stored.0 key)) [
  | inl before ↦
      let apart : is_same key stored.0 ≡ false = apart_turned stored.0 key before in
      simp (before, apart) (ap (λ l. stored ∷ l) (taken_out key rows (simp before at at)))
  | inr not ↦ (let same : is_same key stored.0 ≡ true = simp not at at in simp (not, same) refl)
]

-- no row behind another that comes behind the key is its own
none_behind : (key first : Key) (rows : List (Key × Row)) → comes_before key first ≡ true → list_all (λ (s : Key × Row). comes_before first s.0) rows ≡ true → without (λ (other : Key × Row). is_same key other.0) rows ≡ rows
none_behind key first [] leads all = refl
none_behind key first (stored ∷ rows) leads all =
    let parts = and_parts (comes_before first stored.0) (list_all (λ (s : Key × Row). comes_before first s.0) rows) all in
    let apart : is_same key stored.0 ≡ false = before_apart key stored.0 (through key first stored.0 leads parts.0) in
    simp apart (ap (λ l. stored ∷ l) (none_behind key first rows leads parts.1))

pub none_taken : (key : Key) (rows : List (Key × Row)) → is_rising rows ≡ true → is_at key rows (count_before key rows) ≡ false → without (λ (other : Key × Row). is_same key other.0) rows ≡ rows
none_taken key [] rising at = refl
none_taken key (stored ∷ rows) rising at =
    let parts = and_parts (list_all (λ (s : Key × Row). comes_before stored.0 s.0) rows) (is_rising rows) rising in
    elim (cases_Bool (comes_before stored.0 key)) [
      | inl before ↦
          let apart : is_same key stored.0 ≡ false = apart_turned stored.0 key before in
          simp apart (ap (λ l. stored ∷ l) (none_taken key rows parts.1 (simp before at at)))
      | inr not ↦ (
          let apart : is_same key stored.0 ≡ false = simp not at at in
          simp apart (ap (λ l. stored ∷ l) (none_behind key stored.0 rows (follows stored.0 key not apart) parts.0)))
    ]

-- a row that stands there is within
pub at_within : (key : Key) (rows : List (Key × Row)) (index : ℕ) → is_at key rows index ≡ true → index < length rows
at_within key [] index at = absurd (cc)
at_within key (stored ∷ rows) zero at = omega arith
at_within key (stored ∷ rows) (suc index) at = omega (arith, at_within key rows index at)

-- The index at hand, and whether the row stands there
pub index_so : (key : Key) (rows seen : List (Key × Row)) (index : ℕ) → seen ≡ rows → index ≡ count_before key seen → index ≡ count_before key rows
index_so key rows seen index same count = count ∙ ap (count_before key) same

pub at_so : (key : Key) (rows seen again : List (Key × Row)) (index : ℕ) (answer found : Bool) → seen ≡ rows → again ≡ rows → index ≡ count_before key seen → answer ≡ is_at key again index → answer ≡ found → is_at key rows (count_before key rows) ≡ found
at_so key rows seen again index answer found same same' count says is =
    sym ((λ i. is_at key (same' i) (index_so key rows seen index same count i))) ∙ sym says ∙ is
