-- The room that a new transaction needs.
use Rattle.std.specs.Prelude.{ℕ, length}
use Rattle.tip_rows.specs.Keys.{Key}
use Rattle.tip_txn.specs.Transactions.{fresh}
use Rattle.tip_machine.specs.Answers.{identifier}
use Rattle.tip_machine.specs.declared.head.Head.{Head}
use Rattle.tip_rules.specs.declared.transaction_room.TransactionRoom as declared

abbrev pub TransactionRoom : Type 0
TransactionRoom = declared.TransactionRoom ℕ

-- room for the transaction of a key: its names, its branches, and a box for each
abbrev pub room_for : Head → Key → TransactionRoom
room_for head key = record { name = head.name; id = identifier head.name key; branches = head.branches; party = length head.branches; txn = fresh }
