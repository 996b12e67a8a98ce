-- A row that is read again is the row that was read.
use Rattle.std.proofs.Common.{◌≡◌, ℕ, Bool, true, List, [], ◌∷◌, refl, arith}
use Rattle.std.specs.Prelude.{◌==◌, ◌&&◌, ◌↔◌}
use Rattle.std.specs.Cmp.Lexicographic.{pointwise}
use Rattle.std.specs.Str.{bytes_eq}
use Rattle.std.proofs.lemmas.Bool.{and_from, and_parts}
use Rattle.std.proofs.lemmas.Bool.Decides.{Decides-eqb, nat_tests}
use Rattle.tip_rows.proofs.MemoryLemmas.{bytes_eq-self, same_text}
use Rattle.tip_rows.proofs.OrderLemmas.{same_key}
use Rattle.tip_rows.specs.Keys.{Key, is_same}
use Rattle.tip_rows.specs.declared.row.Row.{Row}
use Rattle.tip_rows.specs.declared.row.Row.TheVariants.{Prepared, Committed}
use Rattle.tip_recovery.specs.Adopting.{Recovery, Unfinished, stored_of}
use Rattle.tip_recovery.specs.Renewing.{are_again, are_branches_again, are_subordinates_again, is_again, is_read_again, is_row_again}

module _ {A B : Type 0} (e : A → A → Bool) (f : B → B → Bool) where
  same_pairs : ((x y : A) → e x y ≡ true → x ≡ y) → ((x y : B) → f x y ≡ true → x ≡ y) → (xs ys : List (A × B)) → pointwise (λ x y. e x.0 y.0 && f x.1 y.1) xs ys ≡ true → xs ≡ ys
  same_pairs firsts seconds [] [] is = refl
  same_pairs firsts seconds [] (y ∷ ys) is = absurd (cc)
  same_pairs firsts seconds (x ∷ xs) [] is = absurd (cc)
  same_pairs firsts seconds (x ∷ xs) (y ∷ ys) is =
      let parts = and_parts (e x.0 y.0 && f x.1 y.1) (pointwise (λ x y. e x.0 y.0 && f x.1 y.1) xs ys) is in
      let one = and_parts (e x.0 y.0) (f x.1 y.1) parts.0 in
      λ i. (firsts x.0 y.0 one.0 i, seconds x.1 y.1 one.1 i) ∷ same_pairs firsts seconds xs ys parts.1 i

  pairs_again : ((x : A) → e x x ≡ true) → ((x : B) → f x x ≡ true) → (xs : List (A × B)) → pointwise (λ x y. e x.0 y.0 && f x.1 y.1) xs xs ≡ true
  pairs_again firsts seconds [] = refl
  pairs_again firsts seconds (x ∷ xs) = and_from (e x.0 x.0 && f x.1 x.1) (pointwise (λ x y. e x.0 y.0 && f x.1 y.1) xs xs) (and_from (e x.0 x.0) (f x.1 x.1) (firsts x.0) (seconds x.1)) (pairs_again firsts seconds xs)

same_branches : (xs ys : List (ℕ × List ℕ)) → are_branches_again xs ys ≡ true → xs ≡ ys
same_branches xs ys is = same_pairs (λ x y. x == y) bytes_eq (λ x y is. (Decides-eqb x y).0 is) same_text xs ys is

branches_again : (xs : List (ℕ × List ℕ)) → are_branches_again xs xs ≡ true
branches_again xs = pairs_again (λ x y. x == y) bytes_eq (λ x. (Decides-eqb x x).1 refl) bytes_eq-self xs

same_subordinates : (xs ys : List (List ℕ × List ℕ)) → are_subordinates_again xs ys ≡ true → xs ≡ ys
same_subordinates xs ys is = same_pairs bytes_eq bytes_eq same_text same_text xs ys is

subordinates_again : (xs : List (List ℕ × List ℕ)) → are_subordinates_again xs xs ≡ true
subordinates_again xs = pairs_again bytes_eq bytes_eq bytes_eq-self bytes_eq-self xs

same_row : (row other : Row) → is_row_again row other ≡ true → row ≡ other
same_row (Prepared address superior branches subordinates) (Prepared address' superior' branches' subordinates') is =
    let parts = and_parts (bytes_eq address address' && bytes_eq superior superior') (are_branches_again branches branches' && are_subordinates_again subordinates subordinates') is in
    let above = and_parts (bytes_eq address address') (bytes_eq superior superior') parts.0 in
    let below = and_parts (are_branches_again branches branches') (are_subordinates_again subordinates subordinates') parts.1 in
    λ i. Prepared (same_text address address' above.0 i) (same_text superior superior' above.1 i) (same_branches branches branches' below.0 i) (same_subordinates subordinates subordinates' below.1 i)
same_row (Committed branches subordinates) (Committed branches' subordinates') is =
    let below = and_parts (are_branches_again branches branches') (are_subordinates_again subordinates subordinates') is in
    λ i. Committed (same_branches branches branches' below.0 i) (same_subordinates subordinates subordinates' below.1 i)
same_row (Prepared address superior branches subordinates) (Committed branches' subordinates') is = absurd (cc)
same_row (Committed branches subordinates) (Prepared address superior branches' subordinates') is = absurd (cc)

row_again : (row : Row) → is_row_again row row ≡ true
row_again (Prepared address superior branches subordinates) =
    and_from (bytes_eq address address && bytes_eq superior superior) (are_branches_again branches branches && are_subordinates_again subordinates subordinates)
    (and_from (bytes_eq address address) (bytes_eq superior superior) (bytes_eq-self address) (bytes_eq-self superior))
    (and_from (are_branches_again branches branches) (are_subordinates_again subordinates subordinates) (branches_again branches) (subordinates_again subordinates))
row_again (Committed branches subordinates) = and_from (are_branches_again branches branches) (are_subordinates_again subordinates subordinates) (branches_again branches) (subordinates_again subordinates)

key_again : (key : Key) → is_same key key ≡ true
key_again key = grind (arith, nat_tests)

-- A row is a stored one exactly where key and row are the same, word for word.
pub is_stored : (key key' : Key) (row row' : Row) → ((is_same key key' && is_row_again row row') ≡ true) ↔ ((key ≡ key') × (row ≡ row'))
is_stored key key' row row' = (
  λ is. let parts = and_parts (is_same key key') (is_row_again row row') is in (same_key key key' parts.0, same_row row row' parts.1),
  λ both. rw (both.0, both.1) (and_from (is_same key' key') (is_row_again row' row') (key_again key') (row_again row')),
)

-- Rows that are read again are stored as they were.
again_stored : (earlier rows : List Unfinished) → are_again earlier rows ≡ true → stored_of earlier ≡ stored_of rows
again_stored [] [] again = refl
again_stored [] (row ∷ rows) again = absurd (cc)
again_stored (e ∷ earlier) [] again = absurd (cc)
again_stored (e ∷ earlier) (row ∷ rows) again =
    let parts = and_parts (is_again e row) (are_again earlier rows) again in
    let own = (is_stored e.key row.key e.row row.row).0 parts.0 in
    λ i. (own.0 i, own.1 i) ∷ again_stored earlier rows parts.1 i

-- Of a realm that is read again

module _ (earlier recovery : Recovery) (again : is_read_again earlier recovery ≡ true) where
  parts : ((bytes_eq earlier.realm recovery.realm && (earlier.epoch == recovery.epoch)) ≡ true) × (are_again earlier.rows recovery.rows ≡ true)
  parts = and_parts (bytes_eq earlier.realm recovery.realm && (earlier.epoch == recovery.epoch)) (are_again earlier.rows recovery.rows) again

  pub again_realm : earlier.realm ≡ recovery.realm
  again_realm = same_text earlier.realm recovery.realm (and_parts (bytes_eq earlier.realm recovery.realm) (earlier.epoch == recovery.epoch) parts.0).0

  pub again_epoch : earlier.epoch ≡ recovery.epoch
  again_epoch = (Decides-eqb earlier.epoch recovery.epoch).0 (and_parts (bytes_eq earlier.realm recovery.realm) (earlier.epoch == recovery.epoch) parts.0).1

  pub again_rows : stored_of earlier.rows ≡ stored_of recovery.rows
  again_rows = again_stored earlier.rows recovery.rows parts.1
