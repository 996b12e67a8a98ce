-- Rows are phases (ours, for RFC 2371, section 10): what is stored of the open transactions.
use Rattle.std.specs.Prelude.{ℕ, ◌&&◌, Bool, true, false, List, [], ◌∷◌, Option, Some, is_none, is_some}
use Rattle.std.specs.List.{list_all}
use Rattle.std.specs.Str.{bytes_eq}
use Rattle.tip_rows.specs.Keys.{Key}
use Rattle.tip_rows.specs.Logs.{is_rising, row_at}
use Rattle.tip_rows.specs.declared.row.Row.{Row}
use Rattle.tip_rows.specs.declared.row.Row.TheVariants as row
use Rattle.tip_txn.specs.declared.answer.Phase.{Phase}
use Rattle.tip_txn.specs.declared.answer.Phase.TheVariants.{Prepared, Committed}
use Rattle.tip_machine.specs.Types.{Transaction}
use Rattle.tip_machine.specs.States.{State, transaction_of}
use Rattle.tip_machine.specs.Transactions.{comes_from, pairs}

abbrev pub are_same_pairs : List (List ℕ × List ℕ) → List (List ℕ × List ℕ) → Bool
are_same_pairs [] [] = true
are_same_pairs [] (pair ∷ pairs) = false
are_same_pairs (pair ∷ pairs) [] = false
are_same_pairs (this ∷ these) (that ∷ those) = bytes_eq this.0 that.0 && bytes_eq this.1 that.1 && are_same_pairs these those

-- the row of a transaction says its phase, where it comes from, and who promised
abbrev pub is_stored_as : Phase → Transaction → Option Row → Bool
is_stored_as Prepared transaction (Some (row.Prepared address superior branches subordinates)) = comes_from (Some address) superior transaction.origin && are_same_pairs subordinates (pairs transaction)
is_stored_as Prepared transaction other = false
is_stored_as Committed transaction (Some (row.Committed branches subordinates)) = are_same_pairs subordinates (pairs transaction)
is_stored_as Committed transaction other = false
is_stored_as phase transaction other = is_none other

-- rows stand by rising key; each transaction in doubt, or committed, has its row, no other has one, and no row is of none
abbrev pub are_stored : State → List (Key × Row) → Bool
are_stored state rows =
    is_rising rows
    && list_all (λ transaction. is_stored_as transaction.phase transaction (row_at transaction.key rows)) state.transactions
    && list_all (λ stored. is_some (transaction_of stored.0 state)) rows
