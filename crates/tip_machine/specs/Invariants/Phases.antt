-- What a transaction is in each phase (ours, for RFC 2371, section 13): one table for its superior, one for each of its
-- parts, and one for its local party. What is in no row of a table is never so.
use Rattle.std.specs.Prelude.{ℕ, ◌+◌, ◌&&◌, ◌||◌, not, Bool, true, false, List, [], ◌∷◌, Option, Some, None, find, is_some}
use Rattle.std.specs.List.{list_any}
use Rattle.std.specs.Str.{bytes_eq}
use Rattle.tip_conn.specs.declared.state.State.TheVariants as state
use Rattle.tip_branch.specs.declared.member.Errand.TheVariants as errand
use Rattle.tip_line.specs.declared.command.CommandName.TheVariants as command
use Rattle.tip_txn.specs.Parts.{is_yes}
use Rattle.tip_txn.specs.declared.answer.Ballot.{Ballot}
use Rattle.tip_txn.specs.declared.answer.Ballot.TheVariants.{Yes, ReadOnly}
use Rattle.tip_txn.specs.declared.answer.Decision.{Decision}
use Rattle.tip_txn.specs.declared.answer.Decision.TheVariants as decision
use Rattle.tip_txn.specs.declared.answer.Phase.{Phase}
use Rattle.tip_txn.specs.declared.answer.Phase.TheVariants.{Active, Asking, Prepared, Committed, Aborted}
use Rattle.tip_txn.specs.declared.part.Participant.{Participant}
use Rattle.tip_machine.specs.Types.{Connection, PartyPlace, Transaction}
use Rattle.tip_machine.specs.Connections.{is_on, is_part_of, is_superior_of}
use Rattle.tip_machine.specs.Invariants.Links.{Link, link}
use Rattle.tip_machine.specs.Invariants.Links.Link.{Gone, Owes, Awaits}
use Rattle.tip_machine.specs.Invariants.Parties.{are_unasked, has_left, has_promised, is_its_own}
use Rattle.tip_machine.specs.States.{State}
use Rattle.tip_machine.specs.Transactions.{decision_of, is_spent}
use Rattle.tip_machine.specs.declared.connection.Awaited.TheVariants as awaited
use Rattle.tip_machine.specs.declared.transaction.Origin.{Origin}
use Rattle.tip_machine.specs.declared.transaction.Origin.TheVariants as origin
use Rattle.tip_machine.specs.declared.transaction.PartyPlace.TheVariants.{Here, Out, Spent}

-- THE TABLE OF THE SUPERIOR: by the phase and by where the transaction comes from, what its superior's connection is
abbrev pub is_superior : Phase → Origin → Link → Bool
is_superior Active origin.Root (Owes state.Begun None) = true
is_superior Active (origin.Subordinate address superior) (Awaits state.Idle (Some awaited.Pull)) = true
is_superior Active (origin.Subordinate address superior) (Owes state.Enlisted None) = true
is_superior Asking origin.Root (Owes state.Begun (Some command.Commit)) = true
is_superior Asking (origin.Subordinate (Some address) superior) (Owes state.Enlisted (Some command.Prepare)) = true
is_superior Asking (origin.Subordinate address superior) (Owes state.Enlisted (Some command.Commit)) = true
is_superior Prepared (origin.Subordinate (Some address) superior) (Owes state.Prepared None) = true
is_superior Prepared (origin.Subordinate (Some address) superior) Gone = true
is_superior Committed from Gone = true
is_superior Aborted origin.Root (Owes state.Begun None) = true
is_superior Aborted (origin.Subordinate address superior) (Awaits state.Idle (Some awaited.Pull)) = true
is_superior Aborted (origin.Subordinate address superior) (Owes state.Enlisted None) = true
is_superior Aborted from Gone = true
is_superior phase from link = false

-- THE TABLE OF A PART: by the phase and by what the part's connection is, its answer
abbrev pub is_part : Phase → Link → Option Ballot → Bool
is_part Active (Awaits state.Idle (Some awaited.Push)) None = true
is_part Active (Awaits state.Enlisted None) None = true
is_part Active Gone (Some ReadOnly) = true
is_part Asking (Awaits state.Idle (Some awaited.Push)) None = true
is_part Asking (Awaits state.Enlisted (Some awaited.Prepare)) None = true
is_part Asking (Awaits state.Prepared None) (Some Yes) = true
is_part Asking Gone (Some Yes) = true
is_part Asking Gone (Some ReadOnly) = true
is_part Prepared (Awaits state.Prepared None) (Some Yes) = true
is_part Prepared Gone (Some Yes) = true
is_part Prepared Gone (Some ReadOnly) = true
is_part Committed (Awaits state.Prepared (Some awaited.Commit)) (Some Yes) = true
is_part Committed (Awaits state.Idle (Some awaited.Reconnect)) (Some Yes) = true
is_part Committed Gone (Some Yes) = true
is_part Committed Gone (Some ReadOnly) = true
is_part Aborted (Awaits state.Idle (Some awaited.Push)) None = true
is_part Aborted (Awaits state.Enlisted (Some awaited.Prepare)) None = true
is_part Aborted (Awaits state.Enlisted (Some awaited.Abort)) None = true
is_part Aborted (Awaits state.Prepared (Some awaited.Abort)) (Some Yes) = true
is_part Aborted Gone answer = true
is_part phase link answer = false

-- who has acknowledged had said yes, its transaction is committed, and it has no connection any more
abbrev pub may_have_acknowledged : Phase → Link → Option Ballot → Bool
may_have_acknowledged Committed Gone (Some Yes) = true
may_have_acknowledged phase link answer = false

-- THE TABLE OF THE LOCAL PARTY: by the phase and by where the party is, the answer of the local part
abbrev pub is_party : Phase → PartyPlace → Option Ballot → Bool
is_party Active (Here party) None = are_unasked party
is_party Asking (Out errand.Vote) None = true
is_party Asking (Here party) (Some Yes) = has_promised party
is_party Asking (Here party) (Some ReadOnly) = has_left party
is_party Prepared (Here party) (Some Yes) = has_promised party
is_party Prepared (Here party) (Some ReadOnly) = has_left party
is_party Prepared Spent (Some Yes) = true
is_party Committed (Here party) (Some Yes) = has_promised party
is_party Committed (Out errand.Commit) (Some Yes) = true
is_party Committed Spent (Some Yes) = true
is_party Committed Spent (Some ReadOnly) = true
is_party Aborted (Out errand.Vote) answer = true
is_party Aborted (Out errand.Abort) answer = true
is_party Aborted Spent answer = true
is_party phase place answer = false

-- what the answers have come to
abbrev pub has_come_to : Phase → Decision → Bool
has_come_to Active decision.Wait = true
has_come_to Asking decision.Wait = true
has_come_to Prepared decision.Commit = true
has_come_to Committed decision.Commit = true
has_come_to Aborted decision = true
has_come_to phase decision = false

-- Superiors

abbrev pub superior_of : Transaction → State → Option Connection
superior_of transaction state = find (is_superior_of transaction.key) state.connections

abbrev pub is_same_address : Option (List ℕ) → Option (List ℕ) → Bool
is_same_address None None = true
is_same_address (Some this) (Some that) = bytes_eq this that
is_same_address this that = false

-- an active transaction comes from where its superior is: a promise is made only to one that can be reached again (section 13, PREPARE)
abbrev pub has_its_address : Phase → Origin → Option Connection → Bool
has_its_address Active (origin.Subordinate address superior) (Some connection) = is_same_address address connection.peer
has_its_address phase from connection = true

-- Parts

abbrev pub has_pair : Participant → Bool
has_pair part = is_some part.address && is_some part.id

-- a part that can be asked, or has said yes, is known by its address and its identifier; one that is pushed says its identifier later
abbrev pub is_named : Link → Participant → Bool
is_named (Awaits state.Idle (Some awaited.Push)) part = is_some part.address
is_named Gone part = not (is_yes part.answer) || has_pair part
is_named link part = has_pair part

abbrev pub is_part_in : Phase → Link → Participant → Bool
is_part_in phase link part =
    is_part phase link part.answer && (not part.acknowledged || may_have_acknowledged phase link part.answer) && is_named link part

abbrev pub are_parts_from : ℕ → List Participant → State → Transaction → Bool
are_parts_from place [] state transaction = true
are_parts_from place (part ∷ parts) state transaction =
    is_part_in transaction.phase (link (find (is_part_of transaction.key place) state.connections)) part && are_parts_from (place + 1) parts state transaction

-- the local part is the first
abbrev pub are_parts : List Participant → State → Transaction → Bool
are_parts [] state transaction = false
are_parts (local ∷ parts) state transaction = is_party transaction.phase transaction.place local.answer && are_parts_from 1 parts state transaction

-- Transactions

-- an aborted transaction is over once its party is spent and no connection is on it
abbrev pub is_over : Phase → State → Transaction → Bool
is_over Aborted state transaction = is_spent transaction.place && not (list_any (is_on transaction.key) state.connections)
is_over phase state transaction = false

-- each of its parties is as its phase says
abbrev pub is_transaction : State → Transaction → Bool
is_transaction state transaction =
    let phase = transaction.phase in
    let superior = superior_of transaction state in
    is_superior phase transaction.origin (link superior)
    && has_its_address phase transaction.origin superior
    && is_its_own state transaction transaction.place
    && are_parts transaction.parts state transaction
    && has_come_to phase (decision_of transaction)
    && not (is_over phase state transaction)
