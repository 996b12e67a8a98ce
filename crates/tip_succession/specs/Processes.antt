-- PROCESSES THAT FOLLOW ONE ANOTHER (ours): each starts the realm from what the one before it left, and declares it in its own way.
use Rattle.std.specs.Prelude.{◌≡◌, ◌<◌, Bool, true, List, [], ◌∷◌, ◌++◌, flat_map, if◌then◌else◌}
use Rattle.tip_branch.specs.declared.branch.Badge.{Badge}
use Rattle.tip_rows.specs.Keys.{Key}
use Rattle.tip_machine.specs.Agreement.Traces.{Moment, shown_in, traced}
use Rattle.tip_machine.specs.Honest.{is_run}
use Rattle.tip_machine.specs.Moves.{Move, World, drops_here, led_to}
use Rattle.tip_machine.specs.Outputs.{Output, drops_of}
use Rattle.tip_machine.specs.Starting.{are_adopted, is_starting}
use Rattle.tip_machine.specs.declared.head.Head.{Head}
use Rattle.tip_agreement.specs.Successors.{started_over}

pub record Process : Type 0 where
  pub head : Head
  pub boxes : Key → List Badge
  pub moves : List Move
  -- the one before it has ended in peace: it let go what it had
  pub in_peace : Bool

-- where it begins
abbrev pub begun_by : Process → World → World
begun_by process world = started_over process.head process.boxes world

-- ONE MAY FOLLOW: the realm has its name, a later epoch, and whatever address, limits and branches; each row has its boxes
pub record MayFollow (world : World) (process : Process) : Type 0 where
  pub starting : is_starting process.head ≡ true
  pub named : process.head.name ≡ world.state.head.name
  pub later : world.state.head.epoch < process.head.epoch
  pub adopted : are_adopted process.boxes world.rows ≡ true

-- each by an honest run
abbrev pub Follow : World → List Process → Type 0
Follow world [] = Unit {0}
Follow world (next ∷ more) = MayFollow world next × (is_run (begun_by next world) next.moves ≡ true) × Follow (led_to (begun_by next world) next.moves) more

-- what a process lets go that ends in peace: the active branches of its parties that are out, and of those that are here
abbrev pub let_go : World → List Output
let_go world = flat_map drops_of world.errands ++ drops_here world.state

-- WHAT THEY SHOW, one behind the other
abbrev pub shown_by : World → List Process → List Output
shown_by world [] = []
shown_by world (next ∷ more) = (if next.in_peace then let_go world else []) ++ (shown_in (traced (begun_by next world) next.moves) ++ shown_by (led_to (begun_by next world) next.moves) more)

-- THEIR MOMENTS, one behind the other
abbrev pub moments_by : World → List Process → List Moment
moments_by world [] = []
moments_by world (next ∷ more) = traced (begun_by next world) next.moves ++ moments_by (led_to (begun_by next world) next.moves) more
