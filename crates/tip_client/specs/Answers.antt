-- What may answer a command (RFC 2371, sections 9 and 13).
use Rattle.std.specs.Prelude.{◌≡◌, ◌||◌, Bool, true, false, List, [], ◌∷◌, is_some}
use Rattle.std.specs.List.{list_any}
use Rattle.tip_conn.specs.Table.{next_of}
use Rattle.tip_conn.specs.declared.state.State.{State}
use Rattle.tip_conn.specs.declared.state.State.TheVariants as state
use Rattle.tip_line.specs.Command as commands
use Rattle.tip_line.specs.Reading.{Item, Text, Bad}
use Rattle.tip_line.specs.Response as responses
use Rattle.tip_line.specs.declared.command.Command.{Command}
use Rattle.tip_line.specs.declared.command.Command.TheVariants as command
use Rattle.tip_line.specs.declared.command.CommandName.{CommandName}
use Rattle.tip_line.specs.declared.command.CommandName.TheVariants as command_name
use Rattle.tip_line.specs.declared.response.Response.{Response}
use Rattle.tip_line.specs.declared.response.ResponseName.{ResponseName}
use Rattle.tip_line.specs.declared.response.ResponseName.TheVariants as response_name

-- each command but ERROR has a response
abbrev pub has_response : Command → Bool
has_response command.Error = false
has_response other = true

abbrev pub states : List State
states = state.Initial ∷ state.Idle ∷ state.Begun ∷ state.Enlisted ∷ state.Prepared ∷ state.Error ∷ []

-- does the connection table have this response for the command, in some state? ERROR is among them
abbrev pub is_in_table : CommandName → ResponseName → Bool
is_in_table command response = list_any (λ state. is_some (next_of command state response)) states

-- IDENTIFY may be answered NEEDTLS, where the table does not go on (section 13)
abbrev pub needs_tls : CommandName → ResponseName → Bool
needs_tls command_name.Identify response_name.NeedTls = true
needs_tls command response = false

abbrev pub may_answer : CommandName → ResponseName → Bool
may_answer command response = is_in_table command response || needs_tls command response

-- what a stream gives is a response, and one that the command may have
abbrev pub IsAnswer : CommandName → Item → Response → Type 0
IsAnswer command (Text text) response = responses.IsResponse text response × (may_answer command (responses.name_of response) ≡ true)
IsAnswer command (Bad cause) response = ⊥

-- it is none
abbrev pub IsNoAnswer : CommandName → Item → Type 0
IsNoAnswer command item = (response : Response) → ¬ IsAnswer command item response

-- The first items of a stream answer the first commands, each item the command at its place.
abbrev pub AreAnswers : List Command → List Item → List Response → Type 0
AreAnswers said items [] = Unit {0}
AreAnswers (command ∷ said) (item ∷ items) (response ∷ heard) = IsAnswer (commands.name_of command) item response × AreAnswers said items heard
AreAnswers said items (response ∷ heard) = ⊥
