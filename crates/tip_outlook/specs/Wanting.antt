-- What an event comes to for its transaction, by reading alone (RFC 2371, sections 10 and 13): how the transaction will be once
-- the event is noted, and the change of its row that it wants then.
use Rattle.std.specs.Prelude.{ℕ, ◌==◌, ◌&&◌, Bool, true, false, not, List, Option, Some, None, find, drop, filter, if◌then◌else◌}
use Rattle.std.specs.List.{flat_map, list_all, list_any}
use Rattle.std.specs.Option.{option_and_then, option_map_or}
use Rattle.tip_branch.specs.Notes.{PartyNotes}
use Rattle.tip_branch.specs.Members.{is_ready}
use Rattle.tip_branch.specs.declared.member.Errand.TheVariants as errand
use Rattle.tip_branch.specs.declared.member.Member.{Member}
use Rattle.tip_conn.specs.Table.{admit_of}
use Rattle.tip_conn.specs.declared.state.Admit.{Admit}
use Rattle.tip_conn.specs.declared.state.Admit.TheVariants.{Serve, Wrong}
use Rattle.tip_conn.specs.declared.state.Side.{Side}
use Rattle.tip_conn.specs.declared.state.Side.TheVariants.{Primary, Secondary}
use Rattle.tip_line.specs.Command.{name_of}
use Rattle.tip_line.specs.declared.command.Command.{Command as ACommand}
use Rattle.tip_line.specs.declared.command.Command.TheVariants as commands
use Rattle.tip_line.specs.declared.command.CommandName.{CommandName}
use Rattle.tip_line.specs.declared.command.CommandName.TheVariants as command
use Rattle.tip_line.specs.declared.response.Response.{Response}
use Rattle.tip_line.specs.declared.response.ResponseName.TheVariants as names
use Rattle.tip_rows.specs.Keys.{Key}
use Rattle.tip_rows.specs.declared.row.Row.{Row}
use Rattle.tip_rows.specs.declared.row.Row.TheVariants as row
use Rattle.tip_table.specs.Lists.{changed}
use Rattle.tip_txn.specs.Parts.{answered, is_settled, is_yes}
use Rattle.tip_txn.specs.declared.answer.Decision.{Decision}
use Rattle.tip_txn.specs.declared.answer.Decision.TheVariants as decision
use Rattle.tip_txn.specs.declared.answer.Phase.{Phase}
use Rattle.tip_txn.specs.declared.answer.Phase.TheVariants.{Active, Asking, Prepared, Committed, Aborted}
use Rattle.tip_txn.specs.declared.part.Participant.{Participant}
use Rattle.tip_machine.specs.Commands.{superior_role}
use Rattle.tip_machine.specs.Connections.{advanced, has_number, is_superior_of, may_take}
use Rattle.tip_machine.specs.Proceeding.{owed_to_superior}
use Rattle.tip_machine.specs.Requests.{owner}
use Rattle.tip_machine.specs.Responses.{is_in_doubt}
use Rattle.tip_machine.specs.States.{State, identified_by, seated, transaction_of}
use Rattle.tip_machine.specs.Transactions.{decision_of, has_ready, is_committed, is_spent, members_at, noting, pair_of, party_answer, standing_at}
use Rattle.tip_machine.specs.Types.{Connection, Event, PartyPlace, Transaction}
use Rattle.tip_machine.specs.declared.event.Change.{Change}
use Rattle.tip_machine.specs.declared.event.Change.TheVariants.{Put, Remove}
use Rattle.tip_machine.specs.declared.event.Event.TheVariants.{Line, Resume, Settled, Voted}
use Rattle.tip_machine.specs.declared.event.Heard.{Heard}
use Rattle.tip_machine.specs.declared.event.Heard.TheVariants.{Command, Response as AResponse}
use Rattle.tip_machine.specs.declared.transaction.Origin.{Origin}
use Rattle.tip_machine.specs.declared.transaction.Origin.TheVariants as origin
use Rattle.tip_machine.specs.declared.transaction.PartyPlace.TheVariants.{Here, Out, Spent}
use Rattle.tip_outlook.specs.Noting.{awaits_of, exists_of, note_of, noted, part_of}
use Rattle.tip_outlook.specs.declared.noting.Awaits.{Awaits}
use Rattle.tip_outlook.specs.declared.noting.Awaits.TheVariants as awaits
use Rattle.tip_outlook.specs.declared.noting.Note.{Note}

-- what of a transaction says which change it wants
pub record Outlook : Type 0 where
  pub key : Key
  pub origin : Origin
  pub branches : List (ℕ × List ℕ)
  pub phase : Phase
  -- what its answers decide
  pub decision : Decision
  -- the branches of its party, where it is here
  pub members : List Member
  pub spent : Bool
  pub others : List Participant

abbrev pub outlook : Transaction → Outlook
outlook t = record {
  key = t.key;
  origin = t.origin;
  branches = t.branches;
  phase = t.phase;
  decision = decision_of t;
  members = members_at t.place;
  spent = is_spent t.place;
  others = drop 1 t.parts;
}

-- The row

-- has a branch of this number promised to commit?
abbrev pub has_promised : List Member → ℕ × List ℕ → Bool
has_promised members branch = list_any (λ member. is_ready member && (member.number == branch.0)) members

abbrev pub promised_of : Outlook → List (ℕ × List ℕ)
promised_of o = filter (has_promised o.members) o.branches

abbrev pub pair_at : Participant → List (List ℕ × List ℕ)
pair_at part = pair_of part.address part.id

-- the subordinates that said yes, of those that gave an identifier
abbrev pub pairs_of : List Participant → List (List ℕ × List ℕ)
pairs_of others = flat_map pair_at (filter (λ part. is_yes part.answer) others)

abbrev pub in_doubt_of : List ℕ → List ℕ → Outlook → Row
in_doubt_of address superior o = row.Prepared address superior (promised_of o) (pairs_of o.others)

abbrev pub committed_of : Outlook → Row
committed_of o = row.Committed (promised_of o) (pairs_of o.others)

-- The change

-- all agree: the row of what the superior asked for
abbrev pub agreed_change : Option CommandName → Origin → Outlook → Option Change
agreed_change (Some command.Prepare) (origin.Subordinate (Some address) superior) o = Some (Put o.key (in_doubt_of address superior o))
agreed_change (Some command.Commit) origin o = Some (Put o.key (committed_of o))
agreed_change other origin o = None

abbrev pub concluded : Decision → Option CommandName → Outlook → Option Change
concluded decision.Wait owed o = None
concluded decision.Commit owed o = agreed_change owed o.origin o
concluded decision.Abort owed o = None
concluded decision.ReadOnly owed o = None

-- has all been told that was to be told?
abbrev pub is_over : Outlook → Bool
is_over o = o.spent && list_all is_settled o.others

abbrev pub finished : Outlook → Option Change
finished o = if is_over o then Some (Remove o.key) else None

-- what a transaction wants, by its phase, where this is owed to its superior
abbrev pub wished_in : Phase → Option CommandName → Outlook → Option Change
wished_in Active owed o = concluded o.decision owed o
wished_in Asking owed o = concluded o.decision owed o
wished_in Prepared owed o = None
wished_in Committed owed o = finished o
wished_in Aborted owed o = None

abbrev pub wished : Option CommandName → Outlook → Option Change
wished owed o = wished_in o.phase owed o

-- WHAT AN EVENT COMES TO for a transaction
pub data Course : Type 0 where
  -- nothing follows that hangs on a row
  Stays : Course
  -- it is so then, with this owed to its superior, and goes on by its phase
  GoesOn : (o : Outlook) → (owed : Option CommandName) → Course
  -- its doubt ends, or it is forgotten, if this is stored
  Asks : (change : Change) → Course

-- the change that is wanted
abbrev pub change_of : Course → Option Change
change_of Course.Stays = None
change_of (Course.GoesOn o owed) = wished owed o
change_of (Course.Asks change) = Some change

-- this change, if there is one
abbrev pub asking_for : Option Change → Course
asking_for None = Course.Stays
asking_for (Some change) = Course.Asks change

-- Commands

-- once all parties are asked, the local one is away
abbrev pub away : PartyPlace → PartyPlace
away (Here party) = Out errand.Vote
away (Out errand) = Out errand
away Spent = Spent

abbrev pub asked : Transaction → Transaction
asked t = record t { phase = Asking; place = away t.place }

-- what will be owed to the superior of a transaction, once this command came on the connection of a number
abbrev pub owed_then : CommandName → ℕ → Key → State → Option CommandName
owed_then command number key state = option_and_then (λ connection. if has_number number connection then Some command else connection.owed) (find (is_superior_of key) state.connections)

-- who said no address could not be reached again, and is not promised to
abbrev pub prepare_wanted : Phase → Option (List ℕ) → Option CommandName → Transaction → Course
prepare_wanted Active (Some address) owed t = Course.GoesOn (outlook (asked t)) owed
prepare_wanted other peer owed t = Course.Stays

abbrev pub commit_wanted : Phase → Option CommandName → Transaction → Course
commit_wanted Active owed t = Course.GoesOn (outlook (asked t)) owed
commit_wanted Prepared owed t = Course.Asks (Put t.key (committed_of (outlook t)))
commit_wanted other owed t = Course.Stays

abbrev pub abort_wanted : Phase → Transaction → Course
abort_wanted Prepared t = Course.Asks (Remove t.key)
abort_wanted other t = Course.Stays

-- what the superior's PREPARE, COMMIT or ABORT wants for its transaction
abbrev pub prepare_for : Option (List ℕ) → ℕ → State → Transaction → Course
prepare_for peer number state t = prepare_wanted t.phase peer (owed_then command.Prepare number t.key state) t

abbrev pub commit_for : ℕ → State → Transaction → Course
commit_for number state t = commit_wanted t.phase (owed_then command.Commit number t.key state) t

abbrev pub abort_for : Transaction → Course
abort_for t = abort_wanted t.phase t

-- of the transaction whose superior is on the connection
abbrev pub of_superior : (Transaction → Course) → Connection → State → Course
of_superior wants connection state = option_map_or (λ key. option_map_or wants (transaction_of key state) Course.Stays) (superior_role connection.role) Course.Stays

-- what a command wants that is valid
abbrev pub command_wanted : ACommand → Connection → State → Course
command_wanted commands.Prepare connection state = of_superior (prepare_for connection.peer connection.number state) connection state
command_wanted commands.Commit connection state = of_superior (commit_for connection.number state) connection state
command_wanted commands.Abort connection state = of_superior abort_for connection state
command_wanted other connection state = Course.Stays

abbrev pub is_admitted : Admit → Bool
is_admitted Serve = true
is_admitted Wrong = false

-- what a command wants that may be taken
abbrev pub admitted_wanted : ACommand → Connection → State → Course
admitted_wanted command connection state = if is_admitted (admit_of connection.state connection.side (name_of command)) then command_wanted command connection state else Course.Stays

-- Responses

-- what a transaction wants once this is noted of a part of it
abbrev pub wanted_noting : Note → ℕ → State → Transaction → Course
wanted_noting note part state t = Course.GoesOn (outlook (noting part (noted note) t)) (owed_to_superior t.key state)

-- the same of the transaction of this part
abbrev pub wanted_of_part : Note → Option (Key × ℕ) → State → Course
wanted_of_part note None state = Course.Stays
wanted_of_part note (Some place) state = option_map_or (wanted_noting note place.1 state) (transaction_of place.0 state) Course.Stays

-- of the part whose connection it is, if the response is one to what the part was asked
abbrev pub answer_wanted : Option Note → Connection → State → Course
answer_wanted None connection state = Course.Stays
answer_wanted (Some note) connection state = wanted_of_part note (part_of connection.role) state

-- the realm, once a connection has gone on after QUERIEDNOTFOUND
abbrev pub forgotten : Connection → State → State
forgotten connection state = record state { connections = changed (has_number connection.number) (advanced command.Query names.QueriedNotFound) state.connections }

-- what is in doubt then is presumed to be aborted
abbrev pub presume_wanted : State → Transaction → Course
presume_wanted after t = if is_in_doubt after t then Course.Asks (Remove t.key) else Course.Stays

-- what a response to QUERY wants for the transaction of a key
abbrev pub query_wanted : Option Bool → Key → Connection → State → Course
query_wanted None key connection state = Course.Stays
query_wanted (Some true) key connection state = Course.Stays
query_wanted (Some false) key connection state = option_map_or (presume_wanted (forgotten connection state)) (transaction_of key state) Course.Stays

-- what a response wants, by what is awaited
abbrev pub said_wanted : Awaits → Response → Connection → State → Course
said_wanted awaits.Nothing response connection state = Course.Stays
said_wanted (awaits.OfPart name) response connection state = answer_wanted (note_of connection.awaited response) connection state
said_wanted awaits.Identified response connection state = Course.Stays
said_wanted awaits.ToAsk response connection state = Course.Stays
said_wanted awaits.ToReach response connection state = Course.Stays
said_wanted awaits.Pulled response connection state = Course.Stays
said_wanted (awaits.Queried key) response connection state = query_wanted (exists_of response) key connection state

-- Lines

-- what a line wants that may be taken: we hear commands as the secondary, and responses as the primary
abbrev pub taken_wanted : Side → Heard → Connection → State → Course
taken_wanted Secondary (Command command) connection state = admitted_wanted command connection state
taken_wanted Primary (AResponse response) connection state = said_wanted (awaits_of connection.awaited) response connection state
taken_wanted side heard connection state = Course.Stays

-- what a line wants that comes on a connection
abbrev pub line_wanted : Heard → Connection → State → Course
line_wanted heard connection state = if may_take connection then taken_wanted connection.side heard connection state else Course.Stays

-- Parties that come back

abbrev pub vote_wanted : PartyPlace → PartyNotes → Transaction → State → Course
vote_wanted (Out errand.Vote) party t state = Course.GoesOn (outlook (noting 0 (answered (party_answer party)) (standing_at (Here party) t))) (owed_to_superior t.key state)
vote_wanted place party t state = Course.Stays

abbrev pub back_at : PartyNotes → PartyPlace
back_at party = if has_ready party then Here party else Spent

abbrev pub settled_wanted : PartyPlace → PartyNotes → Transaction → State → Course
settled_wanted (Out errand.Commit) party t state = Course.GoesOn (outlook (standing_at (back_at party) t)) (owed_to_superior t.key state)
settled_wanted (Out errand.Abort) party t state = Course.GoesOn (outlook (standing_at (Here party) t)) (owed_to_superior t.key state)
settled_wanted place party t state = Course.Stays

-- What is tried again

abbrev pub resumed_at : PartyPlace → Transaction → Course
resumed_at Spent t = asking_for (finished (outlook t))
resumed_at place t = Course.Stays

abbrev pub resume_wanted : Transaction → Course
resume_wanted t = if is_committed t.phase then resumed_at t.place t else Course.Stays

-- what an event comes to that has its entry: a law says that its rule asks for the change that this wants
abbrev pub foreseen : Event → State → Course
foreseen (Line seat heard) state = option_map_or (λ connection. line_wanted heard connection state) (seated seat state) Course.Stays
foreseen (Voted party) state = option_map_or (λ t. vote_wanted t.place party t state) (owner party state) Course.Stays
foreseen (Settled party) state = option_map_or (λ t. settled_wanted t.place party t state) (owner party state) Course.Stays
foreseen (Resume id) state = option_map_or resume_wanted (identified_by id state) Course.Stays
foreseen other state = Course.Stays
