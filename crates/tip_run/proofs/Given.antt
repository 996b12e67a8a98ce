-- Rows that have their boxes.
use Rattle.std.proofs.Common.{◌≡◌, ℕ, zero, suc, Bool, true, false, List, [], ◌∷◌, Option, Some, None, arith, refl, ap, length, map, sym, subst, ◌∙◌}
use Rattle.std.specs.Prelude.{◌==◌, ◌&&◌, not, find, is_none, unwrap_or, if◌then◌else◌, MatchOption}
use Rattle.std.specs.Cmp.{unsigned_Decides}
use Rattle.std.specs.List.{list_all}
use Rattle.std.specs.Option.{option_map_or}
use Rattle.std.proofs.lemmas.Bool.{and_from, and_parts}
use Rattle.std.proofs.lemmas.Bool.Decides.{nat_tests}
use Rattle.tip_branch.specs.declared.branch.Badge.{Badge}
use Rattle.tip_agreement.proofs.Keys.{key_self}
use Rattle.tip_machine.proofs.Storing.{before_apart}
use Rattle.tip_machine.specs.Moves as Moves
use Rattle.tip_machine.specs.Starting as Starting
use Rattle.tip_recovery.specs.Adopting.{Unfinished, adopted_all, adopting, are_adopted, are_for, are_for_all, fault_of, is_named, loaded, refusal_of, stored_of, unadopted, waits, with_boxes}
use Rattle.tip_recovery.proofs.Looking.{stored-unadopted}
use Rattle.tip_recovery.specs.declared.unfinished.AdoptFault.TheVariants.{NotInDoubt, WrongCount}
use Rattle.tip_rows.specs.Keys.{Key, comes_before, is_same}
use Rattle.tip_rows.specs.Logs.{is_rising}
use Rattle.tip_rows.specs.Rows.{branches_of}
use Rattle.tip_rows.specs.declared.row.Row.{Row}
use Rattle.tip_table.specs.Lists.{changed}
use Rattle.tip_run.specs.Giving.{AreGiven, IsGiven}

-- Boxes by key

-- those of the first row of a key
abbrev pub boxes_at : List Unfinished → Key → List Badge
boxes_at [] key = []
boxes_at (row ∷ rows) key = if is_same row.key key then unwrap_or row.boxes [] else boxes_at rows key

-- a row as it is stored, with one box for each of its branches
pub record HasBoxes (stored : Key × Row) (row : Unfinished) : Type 0 where
  pub key : row.key ≡ stored.0
  pub row_is : row.row ≡ stored.1
  pub fits : (length (unwrap_or row.boxes []) == length (branches_of stored.1)) ≡ true

abbrev pub HaveBoxes : List (Key × Row) → List Unfinished → Type 0
HaveBoxes [] [] = Unit {0}
HaveBoxes [] (row ∷ rows) = ⊥
HaveBoxes (stored ∷ all) [] = ⊥
HaveBoxes (stored ∷ all) (row ∷ rows) = HasBoxes stored row × HaveBoxes all rows

-- each finds its own
abbrev AreAt : (Key → List Badge) → List (Key × Row) → List Unfinished → Type 0
AreAt boxes [] [] = Unit {0}
AreAt boxes [] (row ∷ rows) = ⊥
AreAt boxes (stored ∷ all) [] = ⊥
AreAt boxes (stored ∷ all) (row ∷ rows) = (boxes stored.0 ≡ unwrap_or row.boxes []) × AreAt boxes all rows

loads_same : (boxes : Key → List Badge) (all : List (Key × Row)) (rows : List Unfinished) → HaveBoxes all rows → AreAt boxes all rows → Moves.loaded boxes all ≡ map loaded rows
loads_same boxes [] [] have at = refl
loads_same boxes [] (row ∷ rows) have at = absurd have
loads_same boxes (stored ∷ all) [] have at = absurd have
loads_same boxes (stored ∷ all) (row ∷ rows) have at =
    ap (λ b. record { key = stored.0; row = stored.1; boxes = b } ∷ Moves.loaded boxes all) at.0
    ∙ ap (λ k. record { key = k; row = stored.1; boxes = unwrap_or row.boxes [] } ∷ Moves.loaded boxes all) (sym have.0.key)
    ∙ ap (λ r. record { key = row.key; row = r; boxes = unwrap_or row.boxes [] } ∷ Moves.loaded boxes all) (sym have.0.row_is)
    ∙ ap (λ l. loaded row ∷ l) (loads_same boxes all rows have.1 at.1)

fits_each : (boxes : Key → List Badge) (all : List (Key × Row)) (rows : List Unfinished) → HaveBoxes all rows → AreAt boxes all rows → Starting.are_adopted boxes all ≡ true
fits_each boxes [] [] have at = refl
fits_each boxes [] (row ∷ rows) have at = absurd have
fits_each boxes (stored ∷ all) [] have at = absurd have
fits_each boxes (stored ∷ all) (row ∷ rows) have at = and_from (length (boxes stored.0) == length (branches_of stored.1)) (Starting.are_adopted boxes all) (ap (λ (b : List Badge). length b == length (branches_of stored.1)) at.0 ∙ have.0.fits) (fits_each boxes all rows have.1 at.1)

passed : (first : Unfinished) (behind : List Unfinished) (all : List (Key × Row)) (rows : List Unfinished) → list_all (λ (stored : Key × Row). comes_before first.key stored.0) all ≡ true → AreAt (boxes_at behind) all rows → AreAt (boxes_at (first ∷ behind)) all rows
passed first behind [] [] leads at = tt
passed first behind [] (row ∷ rows) leads at = absurd at
passed first behind (stored ∷ all) [] leads at = absurd at
passed first behind (stored ∷ all) (row ∷ rows) leads at =
    let parts = and_parts (comes_before first.key stored.0) (list_all (λ (s : Key × Row). comes_before first.key s.0) all) leads in
    (ap (λ b. if b then unwrap_or first.boxes [] else boxes_at behind stored.0) (before_apart first.key stored.0 parts.0) ∙ at.0, passed first behind all rows parts.1 at.1)

finds : (all : List (Key × Row)) (rows : List Unfinished) → HaveBoxes all rows → is_rising all ≡ true → AreAt (boxes_at rows) all rows
finds [] [] have rising = tt
finds [] (row ∷ rows) have rising = absurd have
finds (stored ∷ all) [] have rising = absurd have
finds (stored ∷ all) (row ∷ rows) have rising =
    let parts = and_parts (list_all (λ (s : Key × Row). comes_before stored.0 s.0) all) (is_rising all) rising in (
      ap (λ b. if b then unwrap_or row.boxes [] else boxes_at rows stored.0) (subst (λ k. is_same k stored.0 ≡ true) (sym have.0.key) (key_self stored.0)),
      passed row rows all rows (subst (λ k. list_all (λ (s : Key × Row). comes_before k s.0) all ≡ true) (sym have.0.key) parts.0) (finds all rows have.1 parts.1),
    )

-- rows that rise are loaded with their boxes, one for each branch
pub gives : (all : List (Key × Row)) (rows : List Unfinished) → HaveBoxes all rows → is_rising all ≡ true → (Starting.are_adopted (boxes_at rows) all ≡ true) × (Moves.loaded (boxes_at rows) all ≡ map loaded rows)
gives all rows have rising = let at = finds all rows have rising in (fits_each (boxes_at rows) all rows have at, loads_same (boxes_at rows) all rows have at)

-- Rows that were given boxes

same_count : (a b : ℕ) → a ≡ b → (a == b) ≡ true
same_count a b same = (unsigned_Decides a b).1 same

none_for : (count : ℕ) → not (not (count == 0) && true) ≡ true → (0 == count) ≡ true
none_for zero is = refl
none_for (suc count) is = grind (arith, nat_tests, is)

enough : (boxes : Option (List Badge)) (row : Row) → MatchOption boxes (Unit {0}) (λ b. length b ≡ length (branches_of row)) → not (not (length (branches_of row) == 0) && is_none boxes) ≡ true → (length (unwrap_or boxes []) == length (branches_of row)) ≡ true
enough (Some boxes) row fits adopted = same_count (length boxes) (length (branches_of row)) fits
enough None row fits adopted = none_for (length (branches_of row)) adopted

-- all have their boxes once no row waits
pub adopted_boxes : (read rows : List Unfinished) → AreGiven read rows → are_adopted rows ≡ true → HaveBoxes (stored_of rows) rows
adopted_boxes [] [] are adopted = tt
adopted_boxes [] (row ∷ rows) are adopted = absurd are
adopted_boxes (r ∷ read) [] are adopted = absurd are
adopted_boxes (r ∷ read) (row ∷ rows) are adopted =
    let parts = and_parts (not (waits row)) (are_adopted rows) adopted in
    (record { key = refl; row_is = refl; fits = enough row.boxes row.row are.0.fits parts.0 }, adopted_boxes read rows are.1 parts.1)

pub given_stored : (read rows : List Unfinished) → AreGiven read rows → stored_of rows ≡ stored_of read
given_stored [] [] are = refl
given_stored [] (row ∷ rows) are = absurd are
given_stored (r ∷ read) [] are = absurd are
given_stored (r ∷ read) (row ∷ rows) are = λ i. (are.0.key i, are.0.row i) ∷ given_stored read rows are.1 i

-- so have those that were loaded
pub given_boxes : (name : List ℕ) (all : List (Key × Row)) (rows : List Unfinished) → AreGiven (map (unadopted name) all) rows → are_adopted rows ≡ true → HaveBoxes all rows
given_boxes name all rows are adopted = subst (λ stored. HaveBoxes stored rows) (given_stored (map (unadopted name) all) rows are ∙ stored-unadopted name all) (adopted_boxes (map (unadopted name) all) rows are adopted)

-- What adoption gives

no_fault : (row : Unfinished) (boxes : List Badge) → fault_of boxes row ≡ None → length boxes ≡ length (branches_of row.row)
no_fault row boxes none = by (waits row) (length boxes == length (branches_of row.row)) refl none where
  by : (a b : Bool) → (length boxes == length (branches_of row.row)) ≡ b → (if not a then Some NotInDoubt else if b then None else Some WrongCount) ≡ None → length boxes ≡ length (branches_of row.row)
  by true true same is = (unsigned_Decides (length boxes) (length (branches_of row.row))).0 same
  by true false same is = absurd (cc)
  by false b same is = absurd (cc)

-- boxes that are adopted for the row of an identifier
pub given_for : (id : List ℕ) (boxes : List Badge) (read rows : List Unfinished) → AreGiven read rows → refusal_of id boxes rows ≡ None → AreGiven read (changed (is_named id) (adopting boxes) rows)
given_for id boxes [] [] are none = tt
given_for id boxes [] (row ∷ rows) are none = absurd are
given_for id boxes (r ∷ read) [] are none = absurd are
given_for id boxes (r ∷ read) (row ∷ rows) are none = by (is_named id row) none (λ behind. given_for id boxes read rows are.1 behind) where
  by : (here : Bool) → option_map_or (fault_of boxes) (if here then Some row else find (is_named id) rows) (Some NotInDoubt) ≡ None → (refusal_of id boxes rows ≡ None → AreGiven read (changed (is_named id) (adopting boxes) rows)) → AreGiven (r ∷ read) (if here then adopting boxes row ∷ rows else row ∷ changed (is_named id) (adopting boxes) rows)
  by true is later = (record { key = are.0.key; row = are.0.row; fits = no_fault row boxes is }, are.1)
  by false is later = (are.0, later is)

-- and for all rows at once
pub given_all : (lots : List (List Badge)) (read rows : List Unfinished) → AreGiven read rows → are_for_all lots rows ≡ true → AreGiven read (adopted_all lots rows)
given_all [] read rows are fit = are
given_all (boxes ∷ lots) [] [] are fit = tt
given_all (boxes ∷ lots) [] (row ∷ rows) are fit = absurd are
given_all (boxes ∷ lots) (r ∷ read) [] are fit = absurd are
given_all (boxes ∷ lots) (r ∷ read) (row ∷ rows) are fit =
    let parts = and_parts (are_for boxes row) (are_for_all lots rows) fit in
    let counts = and_parts (length boxes == length (branches_of row.row)) (is_none row.boxes) parts.0 in
    (one boxes ((unsigned_Decides (length boxes) (length (branches_of row.row))).0 counts.0), given_all lots read rows are.1 parts.1) where
      one : (these : List Badge) → length these ≡ length (branches_of row.row) → IsGiven r (with_boxes these row)
      one [] same = are.0
      one (box ∷ these) same = record { key = are.0.key; row = are.0.row; fits = same }
