-- A PROCESS THAT ENDS anywhere (ours): what it leaves of a realm's rows, what was told by then, and the run that it has made.
use Rattle.std.specs.Prelude.{◌≡◌, ◌⊎◌, ℕ, true, List, [], ◌∷◌, ◌++◌}
use Rattle.tip_rows.specs.Keys.{Key}
use Rattle.tip_rows.specs.declared.row.Row.{Row}
use Rattle.tip_machine.specs.Agreement.{IsAgreed}
use Rattle.tip_machine.specs.Agreement.Traces.{shown_in, traced}
use Rattle.tip_machine.specs.Agreement.Verdicts.{is_unanimous, told}
use Rattle.tip_machine.specs.Honest.{brings_no_party, is_run}
use Rattle.tip_machine.specs.Moves.{Move, World, led_to, picked, rows_after}
use Rattle.tip_machine.specs.Outputs.{brought}
use Rattle.tip_machine.specs.Returns.{Back, can_answer, event_of}
use Rattle.tip_machine.specs.Steps.{wants}
use Rattle.tip_machine.specs.Types.{Event}
use Rattle.tip_machine.specs.declared.event.Outcome.{Outcome}
use Rattle.tip_machine.specs.declared.event.Outcome.TheVariants.{Stored}

-- what was under way: an event of a caller, or a party that comes back, from the errand at a place
pub data Under : Type 0 where
  Happens : Event → Under
  Returns : ℕ → Back → Under

-- the event of it, and the realm as the event meets it: a party that comes back is not out any more
abbrev pub IsUnder : World → Under → Event → Type 0
IsUnder world (Happens event) met = (met ≡ event) × (brings_no_party event ≡ true)
IsUnder world (Returns place back) met = (party : _) × (errands : _) × (picked place world.errands ≡ party ∷ errands) × (met ≡ event_of party back) × (can_answer party.errand back party.members ≡ true)

abbrev pub move_of : Under → Outcome → Move
move_of (Happens event) outcome = Move.Step event outcome
move_of (Returns place back) outcome = Move.Go place back outcome

-- WHAT IS LEFT of the realm's rows: those of before, or those with the change that the event wants
abbrev pub IsLeft : World → Event → List (Key × Row) → Type 0
IsLeft world event rows = (rows ≡ world.rows) ⊎ (rows ≡ rows_after (wants world.state event) Stored world.rows)

-- THE RUN THAT A PROCESS HAS MADE which ended while an event was under way: the event happened, and its change was stored or
-- refused as the rows say that are left. What was told by then, its answer not being given out, is among what the run shows; and
-- whatever comes behind it, a start with boxes for these rows before all, no transaction is half committed.
pub record HasEnded (start : World) (moves : List Move) (under : Under) (event : Event) (rows : List (Key × Row)) : Type 0 where
  pub outcome : Outcome
  pub run : is_run start (moves ++ move_of under outcome ∷ []) ≡ true
  pub left : (led_to start (moves ++ move_of under outcome ∷ [])).rows ≡ rows
  pub epoch : (led_to start (moves ++ move_of under outcome ∷ [])).state.head.epoch ≡ (led_to start moves).state.head.epoch
  pub told_one : (id : List ℕ) → is_unanimous (told start.state.head.name id (shown_in (traced start moves) ++ brought event)) ≡ true
  pub agreed : (later : List Move) → is_run (led_to start (moves ++ move_of under outcome ∷ [])) later ≡ true → (id : List ℕ) → IsAgreed start (traced start ((moves ++ move_of under outcome ∷ []) ++ later)) id
