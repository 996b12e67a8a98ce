-- A realm that starts again while others run: its rows are read once more, and must be what they were.
use Rattle.std.specs.Prelude.{ℕ, ◌==◌, ◌&&◌, Bool, false, List}
use Rattle.std.specs.Cmp.Lexicographic.{pointwise}
use Rattle.std.specs.Str.{bytes_eq}
use Rattle.tip_rows.specs.Keys.{is_same}
use Rattle.tip_rows.specs.declared.row.Row.{Row}
use Rattle.tip_rows.specs.declared.row.Row.TheVariants.{Prepared, Committed}
use Rattle.tip_recovery.specs.Adopting.{Recovery, Unfinished, fit}

-- are these the same branches, numbers and labels?
abbrev pub are_branches_again : List (ℕ × List ℕ) → List (ℕ × List ℕ) → Bool
are_branches_again earlier branches = pointwise (λ x y. (x.0 == y.0) && bytes_eq x.1 y.1) earlier branches

-- are these the same subordinates, addresses and identifiers?
abbrev pub are_subordinates_again : List (List ℕ × List ℕ) → List (List ℕ × List ℕ) → Bool
are_subordinates_again earlier subordinates = pointwise (λ x y. bytes_eq x.0 y.0 && bytes_eq x.1 y.1) earlier subordinates

-- is it the same row, word for word?
abbrev pub is_row_again : Row → Row → Bool
is_row_again (Prepared address superior branches subordinates) (Prepared address' superior' branches' subordinates') = (bytes_eq address address' && bytes_eq superior superior') && (are_branches_again branches branches' && are_subordinates_again subordinates subordinates')
is_row_again (Committed branches subordinates) (Committed branches' subordinates') = are_branches_again branches branches' && are_subordinates_again subordinates subordinates'
is_row_again (Prepared address superior branches subordinates) (Committed branches' subordinates') = false
is_row_again (Committed branches subordinates) (Prepared address superior branches' subordinates') = false

-- is it the same transaction's, with the same row?
abbrev pub is_again : Unfinished → Unfinished → Bool
is_again earlier unfinished = is_same earlier.key unfinished.key && is_row_again earlier.row unfinished.row

abbrev pub are_again : List Unfinished → List Unfinished → Bool
are_again earlier rows = fit is_again earlier rows

-- the same realm in the same epoch, with the same rows
abbrev pub is_read_again : Recovery → Recovery → Bool
is_read_again earlier recovery = bytes_eq earlier.realm recovery.realm && (earlier.epoch == recovery.epoch) && are_again earlier.rows recovery.rows
