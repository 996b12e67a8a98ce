-- A run, move by move (ours): what agreement is read off.
use Rattle.std.specs.Prelude.{◌&&◌, Bool, true, false, List, [], ◌∷◌, ◌++◌, Option, Some, None, if◌then◌else◌}
use Rattle.std.specs.List.{flat_map, list_any}
use Rattle.tip_line.specs.declared.response.Response.{Response}
use Rattle.tip_machine.specs.Moves.{Move, World, moved}
use Rattle.tip_machine.specs.Outputs.{Output}
use Rattle.tip_machine.specs.States.{State, seated}
use Rattle.tip_machine.specs.Types.{Connection}
use Rattle.tip_machine.specs.declared.event.Event.TheVariants.{Line}
use Rattle.tip_machine.specs.declared.event.Heard.TheVariants as heard

-- one move of a run: the world that it met, what it showed, and the world that it left
pub record Moment : Type 0 where
  pub world : World
  pub move : Move
  pub shown : List Output
  pub after : World

-- a run from a world, move by move
abbrev pub traced : World → List Move → List Moment
traced world [] = []
traced world (move ∷ moves) =
    let went = moved move world in
    record { world = world; move = move; shown = went.shown; after = went.world } ∷ traced went.world moves

-- all that was shown, in order
abbrev pub shown_in : List Moment → List Output
shown_in moments = flat_map (λ moment. moment.shown) moments

-- a test of each moment and of those before it
abbrev pub at_each_behind : List Moment → (List Moment → Moment → Bool) → List Moment → Bool
at_each_behind before test [] = true
at_each_behind before test (moment ∷ later) = test before moment && at_each_behind (before ++ moment ∷ []) test later

abbrev pub at_each : (List Moment → Moment → Bool) → List Moment → Bool
at_each test moments = at_each_behind [] test moments

-- a response that came, and the connection on which it came, as it was
pub record Came : Type 0 where
  pub connection : Connection
  pub response : Response

abbrev pub came_on : Option Connection → Response → Option Came
came_on None response = None
came_on (Some connection) response = Some (record { connection = connection; response = response })

abbrev pub came_in : Move → State → Option Came
came_in (Move.Step (Line seat (heard.Response response)) outcome) state = came_on (seated seat state) response
came_in other state = None

abbrev pub is_refusal : Output → Bool
is_refusal (Output.Refused why) = true
is_refusal other = false

-- the response that was heard: one that was refused was not
abbrev pub heard_in : Moment → Option Came
heard_in moment = if list_any is_refusal moment.shown then None else came_in moment.move moment.world.state
