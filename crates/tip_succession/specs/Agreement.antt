-- AGREEMENT over processes that follow one another (ours, for RFC 2371, sections 10, 13 and 15): the four sentences on the
-- transaction of an identifier, over all that the processes do, one behind the other.
use Rattle.std.specs.Prelude.{◌≡◌, ℕ, ◌||◌, not, Bool, true, false, List, [], ◌∷◌, ◌++◌, filter, is_some}
use Rattle.tip_machine.specs.Agreement.{is_backed, is_kept, is_made_in, row_in, tells_commit, were_willing}
use Rattle.tip_machine.specs.Agreement.Traces.{Moment, at_each, shown_in, traced}
use Rattle.tip_machine.specs.Agreement.Verdicts.{is_unanimous, told}
use Rattle.tip_machine.specs.Moves.{Move, World, led_to}
use Rattle.tip_succession.specs.Processes.{Process, moments_by, shown_by}

module _ (realm : List ℕ) (id : List ℕ) where
  -- in the start in which it was made, whose moments these are: all were willing, of the branches that the realm had then
  abbrev pub have_asked : List Moment → Bool
  have_asked [] = false
  have_asked (first ∷ more) = were_willing realm id (first ∷ more) first.world.state.head.branches

  abbrev pub was_asked : List Moment → Bool
  was_asked moments = have_asked (filter (is_made_in realm id) moments)

  -- ASKED: of a transaction made by one of these processes a commit is told only where each branch that the realm then had had voted
  -- yes or read-only, and each part had answered, none with no and none lost
  abbrev pub is_asked_then : World → List Moment → Moment → Bool
  is_asked_then start before moment = not (tells_commit realm id moment) || is_some (row_in realm id start.rows) || was_asked (before ++ moment ∷ [])

abbrev pub all_moments : World → List Move → List Process → List Moment
all_moments start moves processes = traced start moves ++ moments_by (led_to start moves) processes

-- ALL FOUR, of the transaction of an identifier: a process made these moves from this start, and the others followed it
pub record IsAgreedByAll (start : World) (moves : List Move) (processes : List Process) (id : List ℕ) : Type 0 where
  pub one : is_unanimous (told start.state.head.name id (shown_in (traced start moves) ++ shown_by (led_to start moves) processes)) ≡ true
  pub backed : at_each (is_backed start.state.head.name id start) (all_moments start moves processes) ≡ true
  pub kept : at_each (is_kept start.state.head.name id start) (all_moments start moves processes) ≡ true
  pub asked : at_each (is_asked_then start.state.head.name id start) (all_moments start moves processes) ≡ true
