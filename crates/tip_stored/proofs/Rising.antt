-- Rows rise where each comes before the next.
use Rattle.std.proofs.Common.{◌≡◌, ◌∙◌, ℕ, zero, suc, ◌+◌, ◌<◌, Bool, true, false, List, [], ◌∷◌, length, get_or, refl, ap, arith, sym, subst}
use Rattle.std.specs.Prelude.{◌&&◌}
use Rattle.std.specs.List.{IsAllAdjacentAnswer, list_all}
use Rattle.tip_machine.proofs.Storing.{before_apart, rising_put}
use Rattle.tip_machine.specs.Moves.{row_put}
use Rattle.tip_rows.specs.Keys.{Key, comes_before}
use Rattle.tip_rows.specs.Logs.{is_rising}
use Rattle.tip_rows.specs.declared.row.Row.{Row}

abbrev pub precedes : Key × Row → Key × Row → Bool
precedes row next = comes_before row.0 next.0

-- one that comes before the first is put before it
put_first : (row next : Key × Row) (rows : List (Key × Row)) → precedes row next ≡ true → row_put row.0 row.1 (next ∷ rows) ≡ row ∷ next ∷ rows
put_first row next rows before = rw (before_apart row.0 next.0 before, before) refl

rises_on : (rows : List (Key × Row)) → ((k : ℕ) (d : Key × Row) → suc k < length rows → true ≡ precedes (get_or rows k d) (get_or rows (suc k) d)) → is_rising rows ≡ true
rises_on [] each = refl
rises_on (row ∷ []) each = refl
rises_on (row ∷ next ∷ rows) each =
    let first : precedes row next ≡ true = sym (each 0 row (omega arith)) in
    let rest : is_rising (next ∷ rows) ≡ true = rises_on (next ∷ rows) (λ k d less. each (suc k) d (omega arith)) in
    subst (λ (l : List (Key × Row)). is_rising l ≡ true) (put_first row next rows first) (rising_put row.0 row.1 (next ∷ rows) rest)

falls_at : (k : ℕ) (rows : List (Key × Row)) → suc k < length rows → ((d : Key × Row) → false ≡ precedes (get_or rows k d) (get_or rows (suc k) d)) → is_rising rows ≡ false
falls_at k [] less falls = absurd (omega arith)
falls_at k (row ∷ []) less falls = absurd (omega arith)
falls_at zero (row ∷ next ∷ rows) less falls = rw (sym (falls row)) refl
falls_at (suc k) (row ∷ next ∷ rows) less falls = ap (λ b. list_all (precedes row) (next ∷ rows) && b) (falls_at k (next ∷ rows) (omega arith) falls) ∙ never (list_all (precedes row) (next ∷ rows)) where
  never : (b : Bool) → (b && false) ≡ false
  never true = refl
  never false = refl

pub rise_so : (rows : List (Key × Row)) (result : Bool) → IsAllAdjacentAnswer (λ row next b. b ≡ precedes row next) rows result → result ≡ is_rising rows
rise_so rows true each = sym (rises_on rows (λ k d less. let more : k + 1 ≡ suc k = omega arith in subst (λ n. true ≡ precedes (get_or rows k d) (get_or rows n d)) more (each k d (omega arith))))
rise_so rows false falls = sym (falls_at falls.0 rows (omega (arith, falls.1)) (λ d. let more : falls.0 + 1 ≡ suc falls.0 = omega arith in subst (λ n. false ≡ precedes (get_or rows falls.0 d) (get_or rows n d)) more (falls.2 d)))
