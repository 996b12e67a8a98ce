-- The connection table (RFC 2371, sections 4, 9 and 13).
--
-- A row says that a command is valid in a state, and that where it is answered so, the connection goes to the next state and
-- its sides turn so. The sides turn round where a PULL is answered PULLED; a connection that becomes idle has its original
-- sides again. The command ERROR is valid in each state and has no response; each other one may be answered ERROR.
use Rattle.std.specs.Prelude.{◌≡◌, ◌↔◌, Bool, true, false, ◌&&◌, if◌then◌else◌, List, [], ◌∷◌, Option, Some, None, option_map}
use Rattle.std.specs.List.{All, find, list_any}
use Rattle.std.specs.Str.{bytes_eq}
use Rattle.tip_line.specs.Command as commands
use Rattle.tip_line.specs.Response as responses
use Rattle.tip_line.specs.declared.command.CommandName.{CommandName}
use Rattle.tip_line.specs.declared.command.CommandName.TheVariants as command
use Rattle.tip_line.specs.declared.response.ResponseName.{ResponseName}
use Rattle.tip_line.specs.declared.response.ResponseName.TheVariants as response
use Rattle.tip_conn.specs.declared.state.State.{State}
use Rattle.tip_conn.specs.declared.state.State.TheVariants as state
use Rattle.tip_conn.specs.declared.state.Turn.{Turn}
use Rattle.tip_conn.specs.declared.state.Turn.TheVariants.{Keep, Reverse, Original}
use Rattle.tip_conn.specs.declared.state.Side.{Side}
use Rattle.tip_conn.specs.declared.state.Side.TheVariants.{Primary, Secondary}
use Rattle.tip_conn.specs.declared.state.Admit.{Admit}
use Rattle.tip_conn.specs.declared.state.Admit.TheVariants.{Serve, Wrong}

pub record Row : Type 0 where
  pub command : CommandName
  pub valid : State
  pub response : Option ResponseName
  pub next : State
  pub turn : Turn

abbrev row : CommandName → State → ResponseName → State → Turn → Row
row command valid response next turn = record { command = command; valid = valid; response = Some response; next = next; turn = turn }

-- the command ERROR
abbrev error : State → Row
error valid = record { command = command.Error; valid = valid; response = None; next = state.Error; turn = Keep }

abbrev pub rows : List Row
rows =
    row command.Identify state.Initial response.Identified state.Idle Original ∷
    row command.Identify state.Initial response.Error state.Error Keep ∷
    row command.Begin state.Idle response.Begun state.Begun Keep ∷
    row command.Begin state.Idle response.NotBegun state.Idle Original ∷
    row command.Begin state.Idle response.Error state.Error Keep ∷
    row command.Push state.Idle response.Pushed state.Enlisted Keep ∷
    row command.Push state.Idle response.AlreadyPushed state.Idle Original ∷
    row command.Push state.Idle response.NotPushed state.Idle Original ∷
    row command.Push state.Idle response.Error state.Error Keep ∷
    row command.Pull state.Idle response.Pulled state.Enlisted Reverse ∷
    row command.Pull state.Idle response.NotPulled state.Idle Original ∷
    row command.Pull state.Idle response.Error state.Error Keep ∷
    row command.Prepare state.Enlisted response.Prepared state.Prepared Keep ∷
    row command.Prepare state.Enlisted response.Aborted state.Idle Original ∷
    row command.Prepare state.Enlisted response.ReadOnly state.Idle Original ∷
    row command.Prepare state.Enlisted response.Error state.Error Keep ∷
    row command.Commit state.Begun response.Committed state.Idle Original ∷
    row command.Commit state.Begun response.Aborted state.Idle Original ∷
    row command.Commit state.Begun response.Error state.Error Keep ∷
    row command.Commit state.Enlisted response.Committed state.Idle Original ∷
    row command.Commit state.Enlisted response.Aborted state.Idle Original ∷
    row command.Commit state.Enlisted response.Error state.Error Keep ∷
    row command.Commit state.Prepared response.Committed state.Idle Original ∷
    row command.Commit state.Prepared response.Error state.Error Keep ∷
    row command.Abort state.Begun response.Aborted state.Idle Original ∷
    row command.Abort state.Begun response.Error state.Error Keep ∷
    row command.Abort state.Enlisted response.Aborted state.Idle Original ∷
    row command.Abort state.Enlisted response.Error state.Error Keep ∷
    row command.Abort state.Prepared response.Aborted state.Idle Original ∷
    row command.Abort state.Prepared response.Error state.Error Keep ∷
    row command.Query state.Idle response.QueriedExists state.Idle Original ∷
    row command.Query state.Idle response.QueriedNotFound state.Idle Original ∷
    row command.Query state.Idle response.Error state.Error Keep ∷
    row command.Reconnect state.Idle response.Reconnected state.Prepared Keep ∷
    row command.Reconnect state.Idle response.NotReconnected state.Idle Original ∷
    row command.Reconnect state.Idle response.Error state.Error Keep ∷
    row command.Multiplex state.Idle response.CantMultiplex state.Idle Original ∷
    row command.Multiplex state.Idle response.Error state.Error Keep ∷
    row command.Tls state.Initial response.CantTls state.Initial Keep ∷
    row command.Tls state.Initial response.Error state.Error Keep ∷
    error state.Initial ∷
    error state.Idle ∷
    error state.Begun ∷
    error state.Enlisted ∷
    error state.Prepared ∷
    error state.Error ∷
    []

abbrev is_same : State → State → Bool
is_same state.Initial state.Initial = true
is_same state.Idle state.Idle = true
is_same state.Begun state.Begun = true
is_same state.Enlisted state.Enlisted = true
is_same state.Prepared state.Prepared = true
is_same state.Error state.Error = true
is_same this that = false

-- a row of this command in this state; commands and responses are told apart by their spelling
abbrev pub is_row_of : CommandName → State → Row → Bool
is_row_of command state row = bytes_eq (commands.spelled row.command) (commands.spelled command) && is_same row.valid state

abbrev pub is_answer : Option ResponseName → ResponseName → Bool
is_answer None response = false
is_answer (Some said) response = bytes_eq (responses.spelled said) (responses.spelled response)

-- is the command valid in the state?
unfoldable pub is_valid : CommandName → State → Bool
is_valid command state = list_any (is_row_of command state) rows

-- the next state and the turn, where the command may be answered so in the state
unfoldable pub next_of : CommandName → State → ResponseName → Option (State × Turn)
next_of command state response = option_map (λ row. (row.next, row.turn)) (find (λ row. is_row_of command state row && is_answer row.response response) rows)

-- a command is served where it reaches the secondary in a state that it is valid in
abbrev pub admit_of : State → Side → CommandName → Admit
admit_of state Primary command = Wrong
admit_of state Secondary command = if is_valid command state then Serve else Wrong

-- two rows agree in command, state and response
abbrev pub IsAlike : Row → Row → Type 0
IsAlike row other = (row.command ≡ other.command) × (row.valid ≡ other.valid) × (row.response ≡ other.response)

-- no two rows do
abbrev pub IsFunction : List Row → Type 0
IsFunction [] = Unit {0}
IsFunction (row ∷ others) = All (λ other. ¬ IsAlike row other) others × IsFunction others

-- the turn is Original exactly where the next state is Idle
abbrev pub IsOriginalWhereIdle : List Row → Type 0
IsOriginalWhereIdle table = All (λ row. (row.turn ≡ Original) ↔ (row.next ≡ state.Idle)) table

-- the turn is Reverse exactly where the response is PULLED
abbrev pub IsReversedByPulled : List Row → Type 0
IsReversedByPulled table = All (λ row. (row.turn ≡ Reverse) ↔ (row.response ≡ Some response.Pulled)) table
