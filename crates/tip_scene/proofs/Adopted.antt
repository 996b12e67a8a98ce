-- Boxes that fit are adopted: no row waits any more.
use Rattle.std.proofs.Common.{◌≡◌, ◌∷◌, [], List, Bool, true, false, arith, refl}
use Rattle.std.specs.Prelude.{◌&&◌, ◌==◌, length, not}
use Rattle.std.proofs.lemmas.Bool.Decides.{nat_tests}
use Rattle.tip_branch.specs.declared.branch.Badge.{Badge}
use Rattle.tip_stored.specs.Recovering.{adopted_each, all_adopted, are_for_each}
use Rattle.tip_recovery.specs.Adopting.{Recovery, Unfinished, adopted_all, are_adopted, are_for, are_for_all, waits, with_boxes}
use Rattle.tip_rows.specs.Rows.{branches_of}

pub both : (a b : Bool) → (a && b) ≡ true → (a ≡ true) × (b ≡ true)
both true true e = (refl, refl)
both true false e = absurd (cc)
both false b e = absurd (cc)

-- a row that has its boxes, or has no branches
has_boxes : (boxes : List Badge) (row : Unfinished) → are_for boxes row ≡ true → not (waits (with_boxes boxes row)) ≡ true
has_boxes [] row fits =
    let none : (0 == length (branches_of row.row)) ≡ true = (both _ _ fits).0 in
    let zero : (length (branches_of row.row) == 0) ≡ true = grind (arith, nat_tests, none) in
    rw zero refl
has_boxes (box ∷ boxes) row fits = nobody (length (branches_of row.row) == 0) where
  nobody : (b : Bool) → not (not b && false) ≡ true
  nobody true = refl
  nobody false = refl

have_boxes : (lots : List (List Badge)) (rows : List Unfinished) → are_for_all lots rows ≡ true → are_adopted (adopted_all lots rows) ≡ true
have_boxes [] [] fits = refl
have_boxes [] (row ∷ rows) fits = absurd (cc)
have_boxes (boxes ∷ lots) [] fits = absurd (cc)
have_boxes (boxes ∷ lots) (row ∷ rows) fits = let parts = both (are_for boxes row) (are_for_all lots rows) fits in rw (has_boxes boxes row parts.0, have_boxes lots rows parts.1) refl

pub all_have_boxes : (all : List (List (List Badge))) (realms : List Recovery) → are_for_each all realms ≡ true → all_adopted (adopted_each all realms) ≡ true
all_have_boxes [] [] fits = refl
all_have_boxes [] (recovery ∷ realms) fits = absurd (cc)
all_have_boxes (lots ∷ all) [] fits = absurd (cc)
all_have_boxes (lots ∷ all) (recovery ∷ realms) fits = let parts = both (are_for_all lots recovery.rows) (are_for_each all realms) fits in rw (have_boxes lots recovery.rows parts.0, all_have_boxes all realms parts.1) refl
