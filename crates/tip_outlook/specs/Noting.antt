-- What a response says of the part on whose connection it came (RFC 2371, section 13).
use Rattle.std.specs.Prelude.{ℕ, Bool, true, false, Option, Some, None, if◌then◌else◌}
use Rattle.tip_line.specs.Response.{name_of}
use Rattle.tip_line.specs.declared.command.CommandName.{CommandName}
use Rattle.tip_line.specs.declared.command.CommandName.TheVariants as command
use Rattle.tip_line.specs.declared.response.Response.{Response}
use Rattle.tip_line.specs.declared.response.Response.TheVariants.{Aborted, AlreadyPushed, Committed, Error, Identified, NeedTls, NotPulled, NotPushed, NotReconnected, Prepared, Pulled, Pushed, QueriedExists, QueriedNotFound, ReadOnly, Reconnected}
use Rattle.tip_line.specs.declared.response.ResponseName.TheVariants as names
use Rattle.tip_rows.specs.Keys.{Key}
use Rattle.tip_txn.specs.Parts.{acknowledged, answered, named}
use Rattle.tip_txn.specs.declared.answer.Ballot.TheVariants as answer
use Rattle.tip_txn.specs.declared.part.Participant.{Participant}
use Rattle.tip_machine.specs.Failing.{closed, wrong}
use Rattle.tip_machine.specs.Changes.{attempt_on_key}
use Rattle.tip_machine.specs.Responses.{abort_as, go_on, greeted, note_as, presume_abort, proceed_as}
use Rattle.tip_machine.specs.States.{Attempt, Work}
use Rattle.tip_machine.specs.Types.{Connection}
use Rattle.tip_machine.specs.declared.connection.Awaited.{Awaited}
use Rattle.tip_machine.specs.declared.connection.Awaited.TheVariants as awaited
use Rattle.tip_machine.specs.declared.connection.Purpose.{Purpose}
use Rattle.tip_machine.specs.declared.connection.Purpose.TheVariants as purpose
use Rattle.tip_machine.specs.declared.connection.Role.{Role}
use Rattle.tip_machine.specs.declared.connection.Role.TheVariants.{Subordinate, Superior}
use Rattle.tip_outlook.specs.declared.noting.Awaits.{Awaits}
use Rattle.tip_outlook.specs.declared.noting.Awaits.TheVariants as awaits
use Rattle.tip_outlook.specs.declared.noting.Note.{Note}
use Rattle.tip_outlook.specs.declared.noting.Saying.{Saying}
use Rattle.tip_outlook.specs.declared.noting.Saying.TheVariants as saying
use Rattle.tip_outlook.specs.declared.noting.Note.TheVariants as note

-- the part, once this is noted of it
abbrev pub noted : Note → Participant → Participant
noted note.Nothing part = part
noted (note.Answered said) part = answered said part
noted note.Acknowledged part = acknowledged part
noted (note.Named id) part = named id part

-- the part whose connection it is
abbrev pub part_of : Option Role → Option (Key × ℕ)
part_of None = None
part_of (Some (Superior key)) = None
part_of (Some (Subordinate key part)) = Some (key, part)

-- what is awaited, by the rule of its responses
abbrev pub awaits_of : Option Awaited → Awaits
awaits_of None = awaits.Nothing
awaits_of (Some (awaited.Identify purpose.Plain)) = awaits.Identified
awaits_of (Some (awaited.Identify (purpose.Query id))) = awaits.ToAsk
awaits_of (Some (awaited.Identify (purpose.Reconnect id place))) = awaits.ToReach
awaits_of (Some awaited.Push) = awaits.OfPart command.Push
awaits_of (Some awaited.Pull) = awaits.Pulled
awaits_of (Some awaited.Prepare) = awaits.OfPart command.Prepare
awaits_of (Some awaited.Commit) = awaits.OfPart command.Commit
awaits_of (Some awaited.Abort) = awaits.OfPart command.Abort
awaits_of (Some (awaited.Query key)) = awaits.Queried key
awaits_of (Some awaited.Reconnect) = awaits.OfPart command.Reconnect

-- what a response says of the part, but for an identifier, where it is one to what was asked
abbrev pub saying_of : Option Awaited → Response → Option Saying
saying_of (Some awaited.Push) (Pushed id) = Some saying.Named
saying_of (Some awaited.Push) (AlreadyPushed id) = Some (saying.Answered answer.ReadOnly)
saying_of (Some awaited.Push) NotPushed = Some (saying.Answered answer.ReadOnly)
saying_of (Some awaited.Prepare) Prepared = Some (saying.Answered answer.Yes)
saying_of (Some awaited.Prepare) Aborted = Some (saying.Answered answer.No)
saying_of (Some awaited.Prepare) ReadOnly = Some (saying.Answered answer.ReadOnly)
saying_of (Some awaited.Commit) Committed = Some saying.Acknowledged
saying_of (Some awaited.Abort) Aborted = Some saying.Nothing
saying_of (Some awaited.Reconnect) Reconnected = Some saying.Nothing
saying_of (Some awaited.Reconnect) NotReconnected = Some saying.Acknowledged
saying_of other response = None

-- with the identifier that the response has
abbrev pub said_in : Option Saying → Response → Option Note
said_in None response = None
said_in (Some saying.Nothing) response = Some note.Nothing
said_in (Some (saying.Answered said)) response = Some (note.Answered said)
said_in (Some saying.Acknowledged) response = Some note.Acknowledged
said_in (Some saying.Named) (Pushed id) = Some (note.Named id)
said_in (Some saying.Named) other = None

abbrev pub note_of : Option Awaited → Response → Option Note
note_of awaited response = said_in (saying_of awaited response) response

-- is it one to PULL, and says it that the transaction was pulled?
abbrev pub pulled_of : Response → Option Bool
pulled_of Pulled = Some true
pulled_of NotPulled = Some false
pulled_of other = None

-- is it one to QUERY, and says it that the transaction exists?
abbrev pub exists_of : Response → Option Bool
exists_of QueriedExists = Some true
exists_of QueriedNotFound = Some false
exists_of other = None

-- the version that IDENTIFIED says
abbrev pub version_of : Response → Option ℕ
version_of (Identified version) = Some version
version_of other = None

-- does it end the connection without a word?
abbrev pub ends : Response → Bool
ends NeedTls = true
ends Error = true
ends other = false

-- the part is noted, and its transaction goes on
abbrev pub noting_as : Note → Option Role → Work → Attempt
noting_as note.Nothing role work = proceed_as role work
noting_as (note.Answered said) role work = note_as role (answered said) work
noting_as note.Acknowledged role work = note_as role acknowledged work
noting_as (note.Named id) role work = note_as role (named id) work

-- a response that is none to what was asked
abbrev pub no_response : Response → Connection → Work → Attempt
no_response response connection work = Attempt.Done (if ends response then closed connection work else wrong connection work)

-- what comes of a response to a command that a part was asked
abbrev pub responding : Option Note → CommandName → Response → Connection → Work → Attempt
responding (Some note) command response connection work = noting_as note connection.role (go_on command (name_of response) connection work)
responding None command response connection work = no_response response connection work

-- to PULL
abbrev pub pulling : Option Bool → Response → Connection → Work → Attempt
pulling (Some true) response connection work = Attempt.Done (go_on command.Pull names.Pulled connection work)
pulling (Some false) response connection work = Attempt.Done (abort_as connection.role (go_on command.Pull names.NotPulled connection work))
pulling None response connection work = no_response response connection work

-- to QUERY for the transaction of a key
abbrev pub querying : Option Bool → Key → Response → Connection → Work → Attempt
querying (Some true) key response connection work = Attempt.Done (go_on command.Query names.QueriedExists connection work)
querying (Some false) key response connection work = attempt_on_key key (presume_abort connection) (go_on command.Query names.QueriedNotFound connection work)
querying None key response connection work = no_response response connection work

-- to IDENTIFY
abbrev pub identifying : Option ℕ → Purpose → Response → Connection → Work → Attempt
identifying (Some version) purpose response connection work = Attempt.Done (greeted version purpose connection work)
identifying None purpose response connection work = no_response response connection work
