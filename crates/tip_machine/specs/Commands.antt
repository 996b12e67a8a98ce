-- The commands that we receive as the secondary of a connection (RFC 2371, section 13).
use Rattle.std.specs.Prelude.{ℕ, ◌+◌, ◌&&◌, nat_le, Bool, false, not, List, [], ◌∷◌, ◌++◌, take, drop, length, Option, Some, None, find, if◌then◌else◌}
use Rattle.std.specs.Option.{option_and_then, option_map_or}
use Rattle.tip_conn.specs.Table.{admit_of}
use Rattle.tip_conn.specs.declared.state.Admit.{Admit}
use Rattle.tip_conn.specs.declared.state.Admit.TheVariants.{Serve, Wrong}
use Rattle.tip_line.specs.Command.{name_of}
use Rattle.tip_line.specs.declared.command.Command.{Command}
use Rattle.tip_line.specs.declared.command.Command.TheVariants.{Identify, Begin, Push, Pull, Prepare, Commit, Abort, Query, Reconnect, Multiplex, Tls, Error}
use Rattle.tip_line.specs.declared.command.CommandName.{CommandName}
use Rattle.tip_line.specs.declared.command.CommandName.TheVariants as command
use Rattle.tip_rows.specs.Keys.{Key}
use Rattle.tip_txn.specs.Parts.{enlisted, is_enlisted}
use Rattle.tip_txn.specs.Transactions.{exists_in}
use Rattle.tip_txn.specs.declared.answer.Phase.{Phase}
use Rattle.tip_txn.specs.declared.answer.Phase.TheVariants as phase
use Rattle.tip_machine.specs.Types.{Connection, Transaction}
use Rattle.tip_machine.specs.Connections.{identified, is_superior_of, owing, taking}
use Rattle.tip_machine.specs.Transactions.{begun, enlisting, is_active, is_known, is_prepared, next_key, row_committed}
use Rattle.tip_machine.specs.States.{Attempt, Work, has_room, identified_by, transaction_of}
use Rattle.tip_machine.specs.Changes.{alter, attempt_on, change, reply, tell}
use Rattle.tip_machine.specs.Proceeding.{abort, ask, commit}
use Rattle.tip_machine.specs.Failing.{closed, wrong}
use Rattle.tip_machine.specs.declared.answer.Item.TheVariants.{Say}
use Rattle.tip_machine.specs.declared.answer.Said.TheVariants as said
use Rattle.tip_machine.specs.declared.connection.Role.{Role}
use Rattle.tip_machine.specs.declared.connection.Role.TheVariants.{Superior, Subordinate}
use Rattle.tip_machine.specs.declared.event.Change.TheVariants.{Put, Remove}
use Rattle.tip_machine.specs.declared.transaction.Origin.{Origin}
use Rattle.tip_machine.specs.declared.transaction.Origin.TheVariants as origin

-- New transactions

-- a connection on which a transaction was made, with some of its boxes: its other end is the superior (ours)
abbrev pub making : ℕ → Key → Connection → Connection
making boxes key connection = record (taking (Superior key) connection) { boxes = drop boxes connection.boxes; made = connection.made + 1 }

-- a transaction is made on a connection, of the first boxes (ours)
unfoldable pub make : Origin → Connection → Work → Work
make origin connection work =
    let key = next_key work.state.head connection in
    let boxes = length work.state.head.branches in
    let work = change connection.number (making boxes key) work in
    record work { state = record work.state { transactions = work.state.transactions ++ begun work.state.head key origin (take boxes connection.boxes) ∷ [] } }

-- Commands of an idle connection

-- IDENTIFY: version 3 is spoken where it lies within what the primary offers (section 13)
unfoldable pub identify : ℕ → ℕ → Option (List ℕ) → Connection → Work → Work
identify lowest highest peer connection work =
    if nat_le lowest 3 && nat_le 3 highest
    then change connection.number (identified peer) (tell connection.number (Say said.Identified) work)
    else wrong connection work

-- BEGIN: a transaction of our own (section 13)
unfoldable pub begin : Connection → Work → Work
begin connection work =
    if has_room connection work.state
    then reply connection.number command.Begin (said.Begun (next_key work.state.head connection)) (make origin.Root connection work)
    else reply connection.number command.Begin said.NotBegun work

-- PUSH of a transaction that is not known: it becomes a part of the primary's, where there is room (section 13)
abbrev pub push_new : List ℕ → Connection → Work → Work
push_new superior connection work =
    if has_room connection work.state
    then reply connection.number command.Push (said.Pushed (next_key work.state.head connection)) (make (origin.Subordinate connection.peer superior) connection work)
    else reply connection.number command.Push said.NotPushed work

-- PUSH: the part that is there already, or a new one (section 13)
unfoldable pub push : List ℕ → Connection → Work → Work
push superior connection work =
    option_map_or (λ transaction. reply connection.number command.Push (said.AlreadyPushed transaction.key) work)
    (find (is_known connection.peer superior) work.state.transactions)
    (push_new superior connection work)

-- PULL: the primary becomes a subordinate of an active transaction, if it gave an address and is no part of it yet (section 13)
abbrev pub pull_into : Option Transaction → Option (List ℕ) → List ℕ → ℕ → Work → Work
pull_into (Some transaction) (Some address) subordinate number work =
    if is_active transaction.phase && not (is_enlisted transaction.parts address (Some subordinate))
    then
    change number (taking (Subordinate transaction.key (length transaction.parts)))
    (alter transaction.key (enlisting (enlisted address (Some subordinate)))
    (reply number command.Pull said.Pulled work))
    else reply number command.Pull said.NotPulled work
pull_into found peer subordinate number work = reply number command.Pull said.NotPulled work

-- PULL of the transaction of this identifier (section 13)
unfoldable pub pull : List ℕ → List ℕ → Connection → Work → Work
pull superior subordinate connection work = pull_into (identified_by superior work.state) connection.peer subordinate connection.number work

-- QUERY: does a transaction of this identifier exist here? One that is aborted does not (section 13)
abbrev pub exists : Transaction → Bool
exists transaction = exists_in transaction.phase

-- QUERY for the transaction of this identifier (section 13)
unfoldable pub query : List ℕ → Connection → Work → Work
query superior connection work =
    let said = if option_map_or exists (identified_by superior work.state) false then said.QueriedExists else said.QueriedNotFound in
    reply connection.number command.Query said work

-- RECONNECT: the superior of a transaction in doubt is here again; an earlier connection of it is closed (section 13)
abbrev pub take_over : Key → ℕ → Option Connection → Work → Work
take_over key number None work = change number (taking (Superior key)) (reply number command.Reconnect said.Reconnected work)
take_over key number (Some earlier) work = closed earlier (change number (taking (Superior key)) (reply number command.Reconnect said.Reconnected work))

-- RECONNECT to a transaction, if it is in doubt (section 13)
abbrev pub reconnect_to : Option Transaction → ℕ → Work → Work
reconnect_to None number work = reply number command.Reconnect said.NotReconnected work
reconnect_to (Some transaction) number work =
    if is_prepared transaction.phase
    then take_over transaction.key number (find (is_superior_of transaction.key) work.state.connections) work
    else reply number command.Reconnect said.NotReconnected work

-- RECONNECT to the transaction of this identifier (section 13)
unfoldable pub reconnect : List ℕ → Connection → Work → Work
reconnect subordinate connection work = reconnect_to (identified_by subordinate work.state) connection.number work

-- Commands of a superior, by the phase of its transaction. In other phases it can't ask: the table of the superior's connection
-- (`is_superior`) has no such row

abbrev pub never_asked : Work → Attempt
never_asked work = Attempt.Done work

-- PREPARE: one that nobody could reach again after a failure is not promised to (section 13)
abbrev pub prepare : Phase → Option (List ℕ) → Connection → Transaction → Work → Attempt
prepare phase.Active (Some address) connection transaction work = ask transaction work
prepare phase.Active None connection transaction work = Attempt.Done (abort transaction.key work)
prepare phase.Aborted peer connection transaction work = Attempt.Done (abort transaction.key work)
prepare other peer connection transaction work = never_asked work

-- COMMIT: asks, or ends the doubt; where the store refuses, we stay in doubt and hang up (section 13)
abbrev pub decide_commit : Phase → Connection → Transaction → Work → Attempt
decide_commit phase.Active connection transaction work = ask transaction work
decide_commit phase.Prepared connection transaction work = Attempt.Asks (Put transaction.key (row_committed transaction)) (commit transaction.key work) (closed connection work)
decide_commit phase.Aborted connection transaction work = Attempt.Done (abort transaction.key work)
decide_commit other connection transaction work = never_asked work

-- ABORT: aborts; in doubt, not before the row is gone (section 13)
abbrev pub decide_abort : Phase → Connection → Transaction → Work → Attempt
decide_abort phase.Active connection transaction work = Attempt.Done (abort transaction.key work)
decide_abort phase.Prepared connection transaction work = Attempt.Asks (Remove transaction.key) (abort transaction.key work) (closed connection work)
decide_abort phase.Aborted connection transaction work = Attempt.Done (abort transaction.key work)
decide_abort other connection transaction work = never_asked work

-- the transaction whose superior is on the connection
abbrev pub superior_role : Option Role → Option Key
superior_role None = None
superior_role (Some (Superior key)) = Some key
superior_role (Some (Subordinate key part)) = None

-- the superior's command is owed a response, and its transaction's rule says what comes of it (section 13)
abbrev pub obey : CommandName → (Transaction → Work → Attempt) → Connection → Work → Attempt
obey command rule connection work =
    let work = change connection.number (owing command) work in
    attempt_on (option_and_then (λ key. transaction_of key work.state) (superior_role connection.role)) rule work

-- Any command

-- a command that is valid (section 13)
abbrev pub serve : Command → Connection → Work → Attempt
serve (Identify lowest highest peer secondary) connection work = Attempt.Done (identify lowest highest peer connection work)
serve Begin connection work = Attempt.Done (begin connection work)
serve (Push superior) connection work = Attempt.Done (push superior connection work)
serve (Pull superior subordinate) connection work = Attempt.Done (pull superior subordinate connection work)
serve Prepare connection work = obey command.Prepare (λ transaction. prepare transaction.phase connection.peer connection transaction) connection work
serve Commit connection work = obey command.Commit (λ transaction. decide_commit transaction.phase connection transaction) connection work
serve Abort connection work = obey command.Abort (λ transaction. decide_abort transaction.phase connection transaction) connection work
serve (Query superior) connection work = Attempt.Done (query superior connection work)
serve (Reconnect subordinate) connection work = Attempt.Done (reconnect subordinate connection work)
serve (Multiplex protocol) connection work = Attempt.Done (reply connection.number command.Multiplex said.CantMultiplex work)
serve Tls connection work = Attempt.Done (reply connection.number command.Tls said.CantTls work)
serve Error connection work = Attempt.Done (closed connection work)

-- a command that the connection table admits, or does not (section 13)
abbrev pub serve_if : Admit → Command → Connection → Work → Attempt
serve_if Serve command connection work = serve command connection work
serve_if Wrong command connection work = Attempt.Done (wrong connection work)

-- a command comes from the primary (section 13)
unfoldable pub commanded : Command → Connection → Work → Attempt
commanded command connection work = serve_if (admit_of connection.state connection.side (name_of command)) command connection work
