-- What follows a run: the next process starts the realm from what was left of it (ours).
use Rattle.std.specs.Prelude.{◌≡◌, ℕ, ◌+◌, true, List, [], ◌∷◌, ◌++◌}
use Rattle.tip_branch.specs.declared.branch.Badge.{Badge}
use Rattle.tip_rows.specs.Keys.{Key}
use Rattle.tip_machine.specs.Honest.{is_run}
use Rattle.tip_machine.specs.Moves.{Move, World, led_to, loaded}
use Rattle.tip_machine.specs.Recovery.{restarted}
use Rattle.tip_machine.specs.declared.head.Head.{Head}

-- a realm's declaration: its name, its address, its limits and its branches
abbrev pub declaration_of : Head → Head
declaration_of head = record head { epoch = 0; given = 0; entries = 0 }

-- the realm of this declaration at its start in an epoch
abbrev pub at_start : Head → ℕ → Head
at_start head epoch = record head { epoch = epoch; given = 0; entries = 0 }

-- the realm as a start makes it, so declared, from the rows that were left
abbrev pub started_over : Head → (Key → List Badge) → World → World
started_over head boxes world = record { state = restarted head (loaded boxes world.rows); rows = world.rows; errands = [] }

-- THE RUN GOES ON in the next process, by a restart: it is honest, and leads to the realm as that process starts it, declared as before
pub record GoesOver (start : World) (moves : List Move) (boxes : Key → List Badge) : Type 0 where
  pub run : is_run start (moves ++ Move.Restart boxes ∷ []) ≡ true
  pub led : led_to start (moves ++ Move.Restart boxes ∷ []) ≡ started_over (at_start start.state.head ((led_to start moves).state.head.epoch + 1)) boxes (led_to start moves)
