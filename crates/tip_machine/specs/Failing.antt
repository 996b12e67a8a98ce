-- Connections that fail or are closed (RFC 2371, section 15).
use Rattle.std.specs.Prelude.{ℕ, Option, Some, None, is_some, if◌then◌else◌}
use Rattle.tip_rows.specs.Keys.{Key}
use Rattle.tip_table.specs.Lists.{without}
use Rattle.tip_txn.specs.Parts.{answer_at, answered}
use Rattle.tip_txn.specs.declared.answer.Ballot.TheVariants.{Lost}
use Rattle.tip_txn.specs.declared.answer.Phase.{Phase}
use Rattle.tip_txn.specs.declared.answer.Phase.TheVariants.{Active, Asking, Prepared, Committed, Aborted}
use Rattle.tip_machine.specs.Types.{Connection, Transaction}
use Rattle.tip_machine.specs.Connections.{has_number}
use Rattle.tip_machine.specs.Transactions.{noting}
use Rattle.tip_machine.specs.States.{Work}
use Rattle.tip_machine.specs.Changes.{alter, on_key, tell}
use Rattle.tip_machine.specs.Proceeding.{abort}
use Rattle.tip_machine.specs.declared.answer.Item.TheVariants.{Say, Close}
use Rattle.tip_machine.specs.declared.answer.Said.TheVariants as said
use Rattle.tip_machine.specs.declared.connection.Role.{Role}
use Rattle.tip_machine.specs.declared.connection.Role.TheVariants.{Superior, Subordinate}

-- the connection is there no more, and its boxes are handed back (section 15)
unfoldable pub gone : Connection → Work → Work
gone connection work = record {
  state = record work.state { connections = without (has_number connection.number) work.state.connections };
  answer = record work.answer { unused = Some connection.boxes };
}

-- its superior is lost: before its promise a transaction is aborted; in doubt, it waits to be reached again (section 15)
abbrev pub superior_lost : Phase → Key → Work → Work
superior_lost Active key work = abort key work
superior_lost Asking key work = abort key work
superior_lost Prepared key work = work
superior_lost Committed key work = work
superior_lost Aborted key work = abort key work

-- a part is lost: before its answer that is a no; one that is to commit will be reached again (section 15)
abbrev pub lost_unanswered : ℕ → Transaction → Work → Work
lost_unanswered part transaction work = if is_some (answer_at transaction.parts part) then work else abort transaction.key (alter transaction.key (noting part (answered Lost)) work)

-- the same in each phase (section 15)
abbrev pub part_lost : Phase → ℕ → Transaction → Work → Work
part_lost Active part transaction work = lost_unanswered part transaction work
part_lost Asking part transaction work = lost_unanswered part transaction work
part_lost Prepared part transaction work = work
part_lost Committed part transaction work = work
part_lost Aborted part transaction work = abort transaction.key work

-- what the failure means for the transaction that the connection was on (section 15)
abbrev pub missed : Option Role → Work → Work
missed None work = work
missed (Some (Superior key)) work = on_key key (λ transaction. superior_lost transaction.phase key) work
missed (Some (Subordinate key part)) work = on_key key (λ transaction. part_lost transaction.phase part transaction) work

-- a connection fails, and its transaction goes on without it (section 15)
unfoldable pub fail : Connection → Work → Work
fail connection work = missed connection.role (gone connection work)

-- we close a connection (section 15)
unfoldable pub closed : Connection → Work → Work
closed connection work = fail connection (tell connection.number Close work)

-- a line that is malformed, or not valid in this state: ERROR, and the connection is closed (section 13, ERROR)
unfoldable pub wrong : Connection → Work → Work
wrong connection work = closed connection (tell connection.number (Say said.Error) work)
