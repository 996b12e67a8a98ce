-- Transactions are counted and looked for as they are held, and said as they are seen.
use Rattle.std.proofs.Common.{◌≡◌, Bool, ℕ, List, [], ◌∷◌, Some, drop, refl, arith}
use Rattle.std.specs.Prelude.{filter, length, map}
use Rattle.std.specs.Prelude.{◌&&◌}
use Rattle.std.specs.List.{list_any}
use Rattle.std.proofs.lemmas.Bool.{and_parts}
use Rattle.tip_rows.specs.Keys.{Key}
use Rattle.tip_txn.specs.declared.answer.Phase.{Phase}
use Rattle.tip_outlook.specs.Searches.{AimsAt, HeldTransaction, is_keyed}
use Rattle.tip_outlook.proofs.Aims.{keyed}
use Rattle.tip_machine.specs.Connections.{link_of}
use Rattle.tip_machine.specs.Transactions.{is_committed}
use Rattle.tip_machine.specs.Types.{Transaction, seen}
use Rattle.tip_core.specs.Usages.{is_held_at, owes}
use Rattle.tip_txn.specs.Parts.{is_due}

pub held_at : (reached : Phase → Bool) (held : List HeldTransaction) → length (filter (λ transaction. reached transaction.phase) (map seen held)) ≡ length (filter (is_held_at reached) held)
held_at reached [] = refl
held_at reached (t ∷ held) = grind (arith, held_at reached held)

pub any_at : (test : Transaction → Bool) (held : List HeldTransaction) → list_any test (map seen held) ≡ list_any (λ transaction. test (seen transaction)) held
any_at test [] = refl
any_at test (t ∷ held) = grind (arith, any_at test held)

-- what owes something for a key has that key
pub owing : (key : Key) (address id : List ℕ) → AimsAt (λ transaction. owes key address id (seen transaction)) (Some (link_of key))
owing key address id transaction fits is =
    let due = list_any (is_due address id) (drop 1 transaction.txn.parts) in
    let first = and_parts (is_keyed key transaction && is_committed (seen transaction).phase) due is in
    keyed key transaction fits (and_parts (is_keyed key transaction) (is_committed (seen transaction).phase) first.0).0
