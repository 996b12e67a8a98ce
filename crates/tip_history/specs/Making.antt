-- WHICH MOVES A REALM OF A SCRIPT MAKES (ours): for each line that concerns it those that the line asks for, and then lines of its
-- connections. Chosen are only what becomes of changes, and which lines are taken.
use Rattle.std.specs.Prelude.{◌≡◌, ◌==◌, ℕ, Bool, true, false, List, [], ◌∷◌, ◌++◌, filter}
use Rattle.std.specs.List.{list_all}
use Rattle.std.specs.Option.{option_map_or}
use Rattle.std.specs.Str.{bytes_eq}
use Rattle.tip_branch.specs.Notes.{PartyNotes}
use Rattle.tip_machine.specs.Moves as Machine
use Rattle.tip_machine.specs.Moves.{World, led_to}
use Rattle.tip_machine.specs.Types.{Event}
use Rattle.tip_machine.specs.declared.event.Event.TheVariants as event
use Rattle.tip_machine.specs.declared.event.Outcome.{Outcome}
use Rattle.tip_machine.specs.declared.event.Seat.{Seat}
use Rattle.tip_actor.specs.Acting.{boxes_in, boxes_of}
use Rattle.tip_actor.specs.Promises.{answers_of}
use Rattle.tip_rows.specs.Keys.{Key}
use Rattle.tip_rows.specs.Logs.{last_epoch}
use Rattle.tip_rows.specs.declared.row.Row.{Row}
use Rattle.tip_script.specs.Scripts as Script
use Rattle.tip_script.specs.Scripts.{realm_of}

-- a line concerns the realm that it names, and a restart concerns all
abbrev pub concerns : List ℕ → Script.Move → Bool
concerns name move = option_map_or (bytes_eq name) (realm_of move) true

abbrev pub own : List ℕ → List Script.Move → List Script.Move
own name moves = filter (concerns name) moves

-- One line

-- this event, whatever becomes of its change
abbrev pub IsEvent : Event → List Machine.Move → Type 0
IsEvent event moves = (outcome : Outcome) × (moves ≡ Machine.Move.Step event outcome ∷ [])

-- the connection of a number, in this start of the realm
abbrev pub seat_in : World → ℕ → Seat
seat_in world connection = record { epoch = world.state.head.epoch; number = connection }

-- the oldest party comes back, if one is out, as its branches have promised
abbrev pub IsReturn : List PartyNotes → List Machine.Move → Type 0
IsReturn [] moves = moves ≡ []
IsReturn (party ∷ errands) moves = (outcome : Outcome) × (moves ≡ Machine.Move.Go 0 (answers_of party) outcome ∷ [])

-- it is lost, if one is out
abbrev pub IsLoss : List PartyNotes → List Machine.Move → Type 0
IsLoss [] moves = moves ≡ []
IsLoss (party ∷ errands) moves = moves ≡ Machine.Move.Lose 0 ∷ []

-- the realm starts again, if an epoch follows, and the branches of its rows have their boxes again
abbrev pub IsRenewal : (is_last : Bool) → List (Key × Row) → List Machine.Move → Type 0
IsRenewal true rows moves = moves ≡ []
IsRenewal false rows moves = (outcome : Outcome) × (moves ≡ Machine.Move.Renew (boxes_in rows) outcome ∷ [])

-- what a line asks of its realm's machine, which is so; octets alone ask nothing
abbrev pub IsAsked : World → Script.Move → List Machine.Move → Type 0
IsAsked world (Script.Declare name address branches limits) moves = moves ≡ []
IsAsked world (Script.Label realm labels) moves = moves ≡ []
IsAsked world (Script.Open realm plans) moves = IsEvent (event.Open (boxes_of plans)) moves
IsAsked world (Script.Dial realm address plans purpose) moves = IsEvent (event.Dial address purpose (boxes_of plans)) moves
IsAsked world (Script.Feed realm connection octets) moves = moves ≡ []
IsAsked world (Script.Lose realm connection) moves = IsEvent (event.Lost (seat_in world connection)) moves
IsAsked world (Script.Push realm connection id) moves = IsEvent (event.AskPush (seat_in world connection) id) moves
IsAsked world (Script.Pull realm connection superior) moves = IsEvent (event.AskPull (seat_in world connection) superior) moves
IsAsked world (Script.Go realm) moves = IsReturn world.errands moves
IsAsked world (Script.Drop realm) moves = IsLoss world.errands moves
IsAsked world (Script.Resume realm id) moves = IsEvent (event.Resume id) moves
IsAsked world (Script.Refuse realm) moves = moves ≡ []
IsAsked world (Script.Renew realm) moves = IsRenewal (world.state.head.epoch == last_epoch) world.rows moves
IsAsked world Script.Restart moves = moves ≡ Machine.Move.Restart (boxes_in world.rows) ∷ []

-- a line that came on a connection is taken
abbrev pub is_line : Machine.Move → Bool
is_line (Machine.Move.Step (event.Line seat heard) outcome) = true
is_line other = false

-- ONE LINE: what it asks for, and then lines that may be taken
pub record IsMade (world : World) (line : Script.Move) (moves : List Machine.Move) : Type 0 where
  pub asked : List Machine.Move
  pub taken : List Machine.Move
  pub is : IsAsked world line asked
  pub lines : list_all is_line taken ≡ true
  pub all : moves ≡ asked ++ taken

-- ALL OF THEM, one after another
abbrev pub AreMade : World → List Script.Move → List Machine.Move → Type 0
AreMade world [] moves = moves ≡ []
AreMade world (line ∷ lines) moves = (first : List Machine.Move) × (rest : List Machine.Move) × IsMade world line first × AreMade (led_to world first) lines rest × (moves ≡ first ++ rest)
