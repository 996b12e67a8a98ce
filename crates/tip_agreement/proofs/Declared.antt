-- A realm keeps its declaration over a run, and the run goes on in the next process.
use Rattle.std.proofs.Common.{◌≡◌, ◌+◌, true, List, [], ◌∷◌, refl, ap, ◌∙◌, inl, inr}
use Rattle.tip_branch.specs.Notes.{PartyNotes}
use Rattle.tip_branch.specs.declared.branch.Badge.{Badge}
use Rattle.tip_rows.specs.Keys.{Key}
use Rattle.tip_machine.specs.Honest.{can_start, is_run}
use Rattle.tip_machine.specs.Moves.{Move, World, gone_for, led_to, loaded, lost_from, moved, picked, renewed, stepped}
use Rattle.tip_machine.specs.Recovery.{restarted}
use Rattle.tip_machine.specs.Returns.{Back, event_of}
use Rattle.tip_machine.specs.States.{State}
use Rattle.tip_machine.specs.Steps.{frozen, is_open, step}
use Rattle.tip_machine.specs.Types.{Event}
use Rattle.tip_machine.specs.declared.event.Outcome.{Outcome}
use Rattle.tip_machine.specs.declared.event.Outcome.TheVariants.{NoChange, Refused, Stored}
use Rattle.tip_machine.specs.declared.head.Head.{Head}
use Rattle.tip_machine.proofs.Stepping.{step-went}
use Rattle.tip_machine.proofs.Walks.{either}
use Rattle.tip_agreement.specs.Successors.{GoesOver, at_start, declaration_of}
use Rattle.tip_agreement.proofs.Runs.{led_on, run_on, run_one}

-- The declaration

abbrev Keeps : World → World → Type 0
Keeps old new = declaration_of new.state.head ≡ declaration_of old.state.head

declared_stepped : (state : State) (event : Event) (outcome : Outcome) → declaration_of (step state event outcome).state.head ≡ declaration_of state.head
declared_stepped state event outcome = either (λ w. declaration_of w.state.head ≡ declaration_of state.head) (is_open state) _ (frozen event state) (elim (step-went state event outcome) [ inl goes ↦ ap declaration_of goes.head | inr opens ↦ ap declaration_of opens.head ]) refl

declared_gone : (back : Back) (outcome : Outcome) (errands : List PartyNotes) (world : World) → Keeps world (gone_for errands back outcome world).world
unfolding stepped
declared_gone back outcome [] world = refl
declared_gone back outcome (party ∷ errands) world = declared_stepped world.state (event_of party back) outcome

declared_lost : (errands : List PartyNotes) (world : World) → Keeps world (lost_from errands world).world
declared_lost [] world = refl
declared_lost (party ∷ errands) world = refl

declared_renewed : (boxes : Key → List Badge) (outcome : Outcome) (world : World) → Keeps world (renewed boxes outcome world).world
declared_renewed boxes Stored world = refl
declared_renewed boxes Refused world = refl
declared_renewed boxes NoChange world = refl

pub declared_moved : (move : Move) (world : World) → Keeps world (moved move world).world
unfolding stepped
declared_moved (Move.Step event outcome) world = declared_stepped world.state event outcome
declared_moved (Move.Go place back outcome) world = declared_gone back outcome (picked place world.errands) world
declared_moved (Move.Lose place) world = declared_lost (picked place world.errands) world
declared_moved (Move.Restart boxes) world = refl
declared_moved (Move.Renew boxes outcome) world = declared_renewed boxes outcome world

pub declared_led : (world : World) (moves : List Move) → Keeps world (led_to world moves)
declared_led world [] = refl
declared_led world (move ∷ moves) = declared_led (moved move world).world moves ∙ declared_moved move world

-- so it keeps its name
pub name_moved : (move : Move) (world : World) → (moved move world).world.state.head.name ≡ world.state.head.name
name_moved move world = ap (λ (h : Head). h.name) (declared_moved move world)

pub name_led : (world : World) (moves : List Move) → (led_to world moves).state.head.name ≡ world.state.head.name
name_led world moves = ap (λ (h : Head). h.name) (declared_led world moves)

-- The next process

pub goes_over : (start : World) (moves : List Move) (boxes : Key → List Badge) → is_run start moves ≡ true → can_start boxes (led_to start moves) ≡ true → GoesOver start moves boxes
goes_over start moves boxes run can =
    let world = led_to start moves in
    record {
      run = run_on start moves (Move.Restart boxes ∷ []) run (run_one world (Move.Restart boxes) can);
      led = led_on start moves (Move.Restart boxes ∷ []) ∙ ap (λ (h : Head). record { state = restarted (at_start h (world.state.head.epoch + 1)) (loaded boxes world.rows); rows = world.rows; errands = [] }) (declared_led start moves);
    }
