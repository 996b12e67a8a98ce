-- The rows of the realm at a place.
use Rattle.std.proofs.Common.{◌≡◌, ◌≢◌, ◌==◌, ◌∙◌, ◌<◌, ◌++◌, ℕ, zero, suc, Bool, true, false, List, [], ◌∷◌, length, arith, refl, ap, sym}
use Rattle.std.specs.Prelude.{◌↔◌, IsTrue, nat_lt, slice_set}
use Rattle.std.proofs.lemmas.Bool.Decides.{nat_tests}
use Rattle.std.proofs.lemmas.List.{length-map}
use Rattle.tip_recovery.specs.Adopting.{Unfinished, stored_of}
use Rattle.tip_rows.specs.Keys.{Key}
use Rattle.tip_rows.specs.declared.row.Row.{Row}
use Rattle.tip_kept.specs.Keeping.{RealmRows, room_at, rows_at}

pub pushed_own : (kept : List RealmRows) (own : RealmRows) → rows_at (kept ++ own ∷ []) (length kept) ≡ own.rows
pushed_own [] own = refl
pushed_own (k ∷ kept) own = pushed_own kept own

pub pushed_others : (kept : List RealmRows) (own : RealmRows) (place : ℕ) → place ≢ length kept → rows_at (kept ++ own ∷ []) place ≡ rows_at kept place
pushed_others [] own zero differ = absurd (differ refl)
pushed_others [] own (suc place) differ = refl
pushed_others (k ∷ kept) own zero differ = refl
pushed_others (k ∷ kept) own (suc place) differ = pushed_others kept own place (λ same. differ (ap suc same))

pub set_own : (kept : List RealmRows) (own : RealmRows) (place : ℕ) → place < length kept → rows_at (slice_set kept place own) place ≡ own.rows
set_own [] own place within = absurd (omega (arith, within))
set_own (k ∷ kept) own zero within = refl
set_own (k ∷ kept) own (suc place) within = set_own kept own place (omega (arith, within))

pub set_room : (kept : List RealmRows) (own : RealmRows) (place : ℕ) → place < length kept → room_at (slice_set kept place own) place ≡ own.free
set_room [] own place within = absurd (omega (arith, within))
set_room (k ∷ kept) own zero within = refl
set_room (k ∷ kept) own (suc place) within = set_room kept own place (omega (arith, within))

pub set_others : (kept : List RealmRows) (own : RealmRows) (place other : ℕ) → other ≢ place → rows_at (slice_set kept place own) other ≡ rows_at kept other
set_others [] own place other differ = refl
set_others (k ∷ kept) own zero zero differ = absurd (differ refl)
set_others (k ∷ kept) own zero (suc other) differ = refl
set_others (k ∷ kept) own (suc place) zero differ = refl
set_others (k ∷ kept) own (suc place) (suc other) differ = set_others kept own place other (λ same. differ (ap suc same))

-- where one has room it is there
pub room_within : (kept : List RealmRows) (place : ℕ) → 0 < room_at kept place → place < length kept
room_within [] place room = absurd (omega (arith, room))
room_within (k ∷ kept) zero room = omega arith
room_within (k ∷ kept) (suc place) room = omega (arith, room_within kept place room)

-- where no realm is, no row is kept
pub none_at : (kept : List RealmRows) (place : ℕ) → false ≡ nat_lt place (length kept) → rows_at kept place ≡ []
none_at [] place past = refl
none_at (k ∷ kept) zero past = absurd (let within : nat_lt 0 (length (k ∷ kept)) ≡ true = grind (arith, nat_tests) in cc)
none_at (k ∷ kept) (suc place) past = none_at kept place (let behind : nat_lt place (length kept) ≡ false = grind (arith, nat_tests, past) in sym behind)

-- no rows are those of nobody
pub are_none : (rows : List Unfinished) (answer : Bool) (kept : List (Key × Row)) → answer ≡ (length rows == 0) → kept ≡ [] → IsTrue answer ↔ (kept ≡ stored_of rows)
are_none [] answer kept says none = (λ yes. none, λ same. says)
are_none (row ∷ rows) answer kept says none = (
  λ yes. absurd (let some : (length (row ∷ rows) == 0) ≡ false = grind (arith, nat_tests) in let wrong : false ≡ true = sym some ∙ sym says ∙ yes in cc),
  λ same. absurd (let wrong : length (row ∷ rows) ≡ 0 = sym (ap length (sym none ∙ same) ∙ ap suc (length-map rows (λ unfinished. (unfinished.key, unfinished.row)))) in omega (arith, wrong)),
)
