-- The responses that we receive as the primary of a connection (RFC 2371, section 13).
use Rattle.std.specs.Prelude.{ℕ, ◌&&◌, nat_le, not, Bool, false, List, Option, Some, None, if◌then◌else◌}
use Rattle.std.specs.List.{list_any}
use Rattle.tip_line.specs.declared.command.CommandName.{CommandName}
use Rattle.tip_line.specs.declared.command.CommandName.TheVariants as command
use Rattle.tip_line.specs.declared.response.Response.{Response}
use Rattle.tip_line.specs.declared.response.Response.TheVariants.{Identified, NeedTls, Pushed, AlreadyPushed, NotPushed, Pulled, NotPulled, Prepared, ReadOnly, Committed, Aborted, QueriedExists, QueriedNotFound, Reconnected, NotReconnected, Error}
use Rattle.tip_line.specs.declared.response.ResponseName.{ResponseName}
use Rattle.tip_line.specs.declared.response.ResponseName.TheVariants as response
use Rattle.tip_rows.specs.Keys.{Key}
use Rattle.tip_txn.specs.Parts.{acknowledged, answered, is_text, named}
use Rattle.tip_txn.specs.declared.answer.Ballot.TheVariants as answer
use Rattle.tip_txn.specs.declared.part.Participant.{Participant}
use Rattle.tip_machine.specs.Types.{Connection, Transaction}
use Rattle.tip_machine.specs.Connections.{is_part_of, is_superior_of, advanced, taking}
use Rattle.tip_machine.specs.Transactions.{is_committed, is_decided_at, is_prepared, noting, subordinate_of}
use Rattle.tip_machine.specs.States.{Attempt, State, Work, identified_by}
use Rattle.tip_machine.specs.Changes.{alter, attempt_on_key, change, send}
use Rattle.tip_machine.specs.Proceeding.{abort, proceed}
use Rattle.tip_machine.specs.Failing.{closed, wrong}
use Rattle.tip_machine.specs.declared.answer.Asked.TheVariants as asked
use Rattle.tip_machine.specs.declared.connection.Awaited.{Awaited}
use Rattle.tip_machine.specs.declared.connection.Awaited.TheVariants.{Identify, Push, Pull, Prepare, Commit, Abort, Query, Reconnect}
use Rattle.tip_machine.specs.declared.connection.Purpose.{Purpose}
use Rattle.tip_machine.specs.declared.connection.Purpose.TheVariants as purpose
use Rattle.tip_machine.specs.declared.connection.Role.{Role}
use Rattle.tip_machine.specs.declared.connection.Role.TheVariants.{Superior, Subordinate}
use Rattle.tip_machine.specs.declared.event.Change.TheVariants.{Remove}
use Rattle.tip_machine.specs.declared.transaction.Origin.{Origin}
use Rattle.tip_machine.specs.declared.transaction.Origin.TheVariants as origin

-- What a response says of a part

-- something is noted of the part whose connection it is, and its transaction goes on (section 13)
abbrev pub note_as : Option Role → (Participant → Participant) → Work → Attempt
note_as None note work = Attempt.Done work
note_as (Some (Superior key)) note work = Attempt.Done work
note_as (Some (Subordinate key part)) note work = proceed key (alter key (noting part note) work)

-- the transaction goes on whose part's connection it is (section 13)
abbrev pub proceed_as : Option Role → Work → Attempt
proceed_as None work = Attempt.Done work
proceed_as (Some (Superior key)) work = Attempt.Done work
proceed_as (Some (Subordinate key part)) work = proceed key work

-- the transaction that the connection is on is aborted (section 13)
abbrev pub abort_as : Option Role → Work → Work
abort_as None work = work
abort_as (Some (Superior key)) work = abort key work
abort_as (Some (Subordinate key part)) work = abort key work

-- Once a connection that we opened is identified

-- is a transaction in doubt, with nobody to tell it the outcome? (section 10)
abbrev pub is_in_doubt : State → Transaction → Bool
is_in_doubt state transaction = is_prepared transaction.phase && not (list_any (is_superior_of transaction.key) state.connections)

-- we ask the superior of a transaction in doubt whether its own still exists, if it is there (section 13, QUERY)
abbrev pub ask_superior : Origin → Key → Connection → Work → Work
ask_superior origin.Root key connection work = closed connection work
ask_superior (origin.Subordinate address superior) key connection work = send connection.number (Query key) (asked.Query superior) work

-- we ask for a transaction in doubt, if its superior is there; else we hang up (ours)
abbrev pub query_for : Option Transaction → Connection → Work → Work
query_for None connection work = closed connection work
query_for (Some transaction) connection work =
    if is_in_doubt work.state transaction && is_decided_at connection.peer transaction.origin
    then ask_superior transaction.origin transaction.key connection work
    else closed connection work

-- a subordinate that is to commit, has not said that it has, is at this address, and has no connection (section 10)
abbrev pub is_owed_commit : Option (List ℕ) → Key → State → ℕ × Participant → Bool
is_owed_commit None key state s = false
is_owed_commit (Some peer) key state s = not s.1.acknowledged && is_text peer s.1.address && not (list_any (is_part_of key s.0) state.connections)

-- RECONNECT is said with the identifier that the subordinate gave (section 13)
abbrev pub reach_by : Option (List ℕ) → ℕ → Key → Connection → Work → Work
reach_by None part key connection work = closed connection work
reach_by (Some id) part key connection work = change connection.number (taking (Subordinate key part)) (send connection.number Reconnect (asked.Reconnect id) work)

-- a subordinate is reached that is owed a COMMIT; else we hang up (ours)
abbrev pub reach : Option (ℕ × Participant) → Key → Connection → Work → Work
reach None key connection work = closed connection work
reach (Some s) key connection work = if is_owed_commit connection.peer key work.state s then reach_by s.1.id s.0 key connection work else closed connection work

-- we reach again a subordinate of a committed transaction, if it is there (section 13, RECONNECT)
abbrev pub reconnect_for : Option Transaction → ℕ → Connection → Work → Work
reconnect_for None place connection work = closed connection work
reconnect_for (Some transaction) place connection work =
    if is_committed transaction.phase
    then reach (subordinate_of place transaction) transaction.key connection work
    else closed connection work

-- what a connection was opened for (ours)
abbrev pub pursue : Purpose → Connection → Work → Work
pursue purpose.Plain connection work = work
pursue (purpose.Query id) connection work = query_for (identified_by id work.state) connection work
pursue (purpose.Reconnect id place) connection work = reconnect_for (identified_by id work.state) place connection work

-- IDENTIFIED: the version is 3 or one above, of which we speak 3 (section 13)
abbrev pub greeted : ℕ → Purpose → Connection → Work → Work
greeted version purpose connection work = if nat_le 3 version then pursue purpose connection (change connection.number (advanced command.Identify response.Identified) work) else wrong connection work

-- QUERIEDNOTFOUND: the superior has forgotten, so it has aborted; the row goes before anybody is told (section 13, QUERY)
abbrev pub presume_abort : Connection → Transaction → Work → Attempt
presume_abort connection transaction work =
    if is_in_doubt work.state transaction
    then Attempt.Asks (Remove transaction.key) (abort transaction.key work) (closed connection work)
    else Attempt.Done work

-- Any response

-- a connection goes on by the connection table (section 13)
abbrev pub go_on : CommandName → ResponseName → Connection → Work → Work
go_on command response connection work = change connection.number (advanced command response) work

-- a response to the command that awaits one: each line of this table first goes on by the connection table (section 13)
abbrev pub responded : Awaited → Response → Connection → Work → Attempt
responded (Identify purpose) (Identified version) c work = Attempt.Done (greeted version purpose c work)
responded Push (Pushed id) c work = note_as c.role (named id) (go_on command.Push response.Pushed c work)
responded Push (AlreadyPushed id) c work = note_as c.role (answered answer.ReadOnly) (go_on command.Push response.AlreadyPushed c work)
responded Push NotPushed c work = note_as c.role (answered answer.ReadOnly) (go_on command.Push response.NotPushed c work)
responded Pull Pulled c work = Attempt.Done (go_on command.Pull response.Pulled c work)
responded Pull NotPulled c work = Attempt.Done (abort_as c.role (go_on command.Pull response.NotPulled c work))
responded Prepare Prepared c work = note_as c.role (answered answer.Yes) (go_on command.Prepare response.Prepared c work)
responded Prepare Aborted c work = note_as c.role (answered answer.No) (go_on command.Prepare response.Aborted c work)
responded Prepare ReadOnly c work = note_as c.role (answered answer.ReadOnly) (go_on command.Prepare response.ReadOnly c work)
responded Commit Committed c work = note_as c.role acknowledged (go_on command.Commit response.Committed c work)
responded Abort Aborted c work = proceed_as c.role (go_on command.Abort response.Aborted c work)
responded (Query key) QueriedExists c work = Attempt.Done (go_on command.Query response.QueriedExists c work)
responded (Query key) QueriedNotFound c work = attempt_on_key key (presume_abort c) (go_on command.Query response.QueriedNotFound c work)
responded Reconnect Reconnected c work = proceed_as c.role (go_on command.Reconnect response.Reconnected c work)
responded Reconnect NotReconnected c work = note_as c.role acknowledged (go_on command.Reconnect response.NotReconnected c work)
responded awaited NeedTls c work = Attempt.Done (closed c work)
responded awaited Error c work = Attempt.Done (closed c work)
responded awaited other c work = Attempt.Done (wrong c work)

-- a response comes from the secondary; where none is awaited, none is taken (`line`) (section 12)
abbrev pub answered_by : Option Awaited → Response → Connection → Work → Attempt
answered_by None response connection work = Attempt.Done work
answered_by (Some awaited) response connection work = responded awaited response connection work
