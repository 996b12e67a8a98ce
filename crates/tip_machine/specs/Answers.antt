-- What a realm says.
use Rattle.std.specs.Prelude.{ℕ, List, [], Option, Some, None}
use Rattle.tip_line.specs.Ids.{id_of}
use Rattle.tip_line.specs.Response.{name_of}
use Rattle.tip_line.specs.declared.command.Command.{Command}
use Rattle.tip_line.specs.declared.command.Command.TheVariants as command
use Rattle.tip_line.specs.declared.response.Response.{Response}
use Rattle.tip_line.specs.declared.response.Response.TheVariants as response
use Rattle.tip_line.specs.declared.response.ResponseName.{ResponseName}
use Rattle.tip_rows.specs.Keys.{Key}
use Rattle.tip_machine.specs.Types.{Answer}
use Rattle.tip_machine.specs.declared.answer.Said.{Said}
use Rattle.tip_machine.specs.declared.answer.Said.TheVariants as said
use Rattle.tip_machine.specs.declared.answer.Asked.{Asked}
use Rattle.tip_machine.specs.declared.answer.Asked.TheVariants as asked
use Rattle.tip_machine.specs.declared.answer.Item.{Item}
use Rattle.tip_machine.specs.declared.answer.Item.TheVariants.{Say, Ask, Close}

-- the identifier of a realm's transaction (section 5; the form is ours)
abbrev pub identifier : List ℕ → Key → List ℕ
identifier realm key = id_of realm key.epoch key.connection key.number

-- the response that is sent (RFC 2371, section 13); the only version that we speak is 3
abbrev pub response_of : List ℕ → Said → Response
response_of realm said.Identified = response.Identified 3
response_of realm (said.Begun key) = response.Begun (identifier realm key)
response_of realm said.NotBegun = response.NotBegun
response_of realm (said.Pushed key) = response.Pushed (identifier realm key)
response_of realm (said.AlreadyPushed key) = response.AlreadyPushed (identifier realm key)
response_of realm said.NotPushed = response.NotPushed
response_of realm said.Pulled = response.Pulled
response_of realm said.NotPulled = response.NotPulled
response_of realm said.Prepared = response.Prepared
response_of realm said.ReadOnly = response.ReadOnly
response_of realm said.Committed = response.Committed
response_of realm said.Aborted = response.Aborted
response_of realm said.QueriedExists = response.QueriedExists
response_of realm said.QueriedNotFound = response.QueriedNotFound
response_of realm said.Reconnected = response.Reconnected
response_of realm said.NotReconnected = response.NotReconnected
response_of realm said.CantMultiplex = response.CantMultiplex
response_of realm said.CantTls = response.CantTls
response_of realm said.Error = response.Error

-- its name, which is the same in every realm
abbrev pub response_name : Said → ResponseName
response_name said = name_of (response_of [] said)

-- the command that is sent (section 13)
abbrev pub command_of : List ℕ → Asked → Command
command_of realm (asked.Identify ours theirs) = command.Identify 3 3 (Some ours) theirs
command_of realm (asked.Push key) = command.Push (identifier realm key)
command_of realm (asked.Pull superior key) = command.Pull superior (identifier realm key)
command_of realm (asked.Prepare key) = command.Prepare
command_of realm (asked.Commit key) = command.Commit
command_of realm (asked.Abort key) = command.Abort
command_of realm (asked.Query superior) = command.Query superior
command_of realm (asked.Reconnect subordinate) = command.Reconnect subordinate

-- the transaction of ours that a response, or a command, names
abbrev pub key_said : Said → Option Key
key_said (said.Begun key) = Some key
key_said (said.Pushed key) = Some key
key_said (said.AlreadyPushed key) = Some key
key_said other = None

abbrev pub key_asked : Asked → Option Key
key_asked (asked.Push key) = Some key
key_asked (asked.Pull superior key) = Some key
key_asked (asked.Prepare key) = Some key
key_asked (asked.Commit key) = Some key
key_asked (asked.Abort key) = Some key
key_asked other = None

abbrev pub key_in : Item → Option Key
key_in (Say said) = key_said said
key_in (Ask asked) = key_asked asked
key_in Close = None

-- an answer with nothing in it
abbrev pub silence : Answer
silence = record { refusal = None; opened = None; sent = []; work = None; spent = None; unused = None; entry = None }
