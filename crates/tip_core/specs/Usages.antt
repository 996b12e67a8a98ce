-- How much of its limits a realm takes up, and how far its transactions have come (the counts are ours).
use Rattle.std.specs.Prelude.{ℕ, Bool, false, ◌&&◌, List, Option, Some, None, drop, filter, length}
use Rattle.std.specs.List.{list_any}
use Rattle.tip_rows.specs.Keys.{Key}
use Rattle.tip_txn.specs.declared.answer.Phase.{Phase}
use Rattle.tip_outlook.specs.Searches.{HeldTransaction}
use Rattle.tip_machine.specs.Connections.{is_superior_of}
use Rattle.tip_machine.specs.States.{State}
use Rattle.tip_machine.specs.Transactions.{has_key, is_committed, is_prepared}
use Rattle.tip_machine.specs.Types.{Transaction, seen}
use Rattle.tip_txn.specs.Parts.{is_due}
use Rattle.tip_core.specs.declared.usage.Usage.{Usage}

-- has this transaction come so far?
abbrev pub is_held_at : (Phase → Bool) → HeldTransaction → Bool
is_held_at reached transaction = reached (seen transaction).phase

-- how a realm stands
abbrev pub usage_of : State → Usage
usage_of state = record {
  epoch = state.head.epoch;
  connections = length state.connections;
  transactions = length state.transactions;
  in_doubt = length (filter (λ transaction. is_prepared transaction.phase) state.transactions);
  committed = length (filter (λ transaction. is_committed transaction.phase) state.transactions);
  entries = state.head.entries;
}

-- is the superior of a transaction on a connection? not in a realm that is not there
abbrev pub is_with_superior : Key → Option State → Bool
is_with_superior key None = false
is_with_superior key (Some state) = list_any (is_superior_of key) state.connections

-- is this the transaction of that key, committed, and does it owe the commit to that subordinate (RFC 2371, section 13, COMMIT)?
abbrev pub owes : Key → List ℕ → List ℕ → Transaction → Bool
owes key address id transaction = has_key key transaction && is_committed transaction.phase && list_any (is_due address id) (drop 1 transaction.parts)

-- is the commit of a transaction still owed to a subordinate? not in a realm that is not there
abbrev pub is_owed : Key → List ℕ → List ℕ → Option State → Bool
is_owed key address id None = false
is_owed key address id (Some state) = list_any (owes key address id) state.transactions
