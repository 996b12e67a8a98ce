-- A host that begins goes on with the run that was left.
use Rattle.std.proofs.Common.{◌≡◌, ◌+◌, ◌<◌, ◌++◌, ◌∷◌, ℕ, true, List, [], arith, sym, subst, ◌∙◌}
use Rattle.std.specs.Prelude.{nat_lt}
use Rattle.std.proofs.lemmas.Bool.{and_from}
use Rattle.std.proofs.lemmas.Bool.Decides.{nat_tests}
use Rattle.tip_agreement.proofs.Asked.{run_is_agreed}
use Rattle.tip_agreement.proofs.Declared.{goes_over, name_led}
use Rattle.tip_agreement.proofs.Kept.{reached_sound}
use Rattle.tip_agreement.proofs.Restarts.{may_begin}
use Rattle.tip_agreement.proofs.Runs.{run_on}
use Rattle.tip_host.specs.Hosts.{Host}
use Rattle.tip_machine.specs.Heads.{starting}
use Rattle.tip_machine.specs.Honest.{can_start, is_run}
use Rattle.tip_machine.specs.Moves.{Move, World, led_to}
use Rattle.tip_machine.specs.Starting.{IsStart, are_adopted, is_starting}
use Rattle.tip_rows.specs.Logs.{Keeping, last_epoch}
use Rattle.tip_run.proofs.Begun.{has_started}
use Rattle.tip_run.specs.Starts.{HasStarted, first_of}
use Rattle.tip_stored.specs.Loading.{spec_of, start_of}
use Rattle.tip_stored.specs.declared.realm_spec.RealmSpec.{RealmSpec}
use Rattle.tip_machine.specs.Types.{Event}
use Rattle.tip_rows.specs.Keys.{Key}
use Rattle.tip_rows.specs.declared.row.Row.{Row}
use Rattle.tip_crash.proofs.Ended.{has_ended}
use Rattle.tip_crash.specs.Crashes.{HasEnded, IsLeft, IsUnder, Under, move_of}
use Rattle.tip_crash.specs.Followed.{BeginsBehind, BeginsOver, HasGoneOn, MayBegin}

module _ {S : Type 0} (kept : Keeping S) (start : World) (moves : List Move) (starts : IsStart start) (run : is_run start moves ≡ true) (new : Host S) (place : ℕ) where
  abbrev pub world : World
  world = led_to start moves

  started : (spec : RealmSpec) → BeginsBehind kept start moves spec new place → HasStarted kept spec world.state.head.epoch world.rows new place
  started spec begins = has_started kept begins.specs begins.store new begins.log place spec world.state.head.epoch world.rows begins.begun begins.true_to begins.stood begins.declared begins.part

  pub goes_on : BeginsBehind kept start moves (spec_of start.state.head) new place → HasGoneOn start moves new place
  goes_on begins =
      let epoch = world.state.head.epoch in
      let is = started (spec_of start.state.head) begins in
      let below : epoch < last_epoch = is.rises in
      let can : can_start is.boxes world ≡ true = and_from (nat_lt epoch last_epoch) (are_adopted is.boxes world.rows) (grind (arith, nat_tests, below)) is.adopted in
      let over = goes_over start moves is.boxes run can in
      record {
        boxes = is.boxes;
        over = over;
        world = first_of (spec_of start.state.head) epoch is.boxes world.rows;
        led = over.led;
        state = is.state;
        rows = is.rows_are;
        out = is.out;
        journal = is.journal;
        honest = is.honest;
        from = is.from;
        agreed = λ later next id. run_is_agreed start ((moves ++ Move.Restart is.boxes ∷ []) ++ later) id starts (run_on start (moves ++ Move.Restart is.boxes ∷ []) later over.run (subst (λ w. is_run w later ≡ true) (sym over.led) next));
      }

  pub begins_anew : (spec : RealmSpec) → is_starting (starting (start_of spec (world.state.head.epoch + 1))) ≡ true → BeginsBehind kept start moves spec new place → MayBegin kept start moves spec new place
  begins_anew spec may begins =
      let is = started spec begins in
      (is, may_begin world (starting (start_of spec (world.state.head.epoch + 1))) is.boxes (reached_sound start moves starts run) may (omega arith) is.adopted, λ name next in_peace. record { starting = may; named = name ∙ sym (name_led start moves); later = omega arith; adopted = is.adopted })

-- behind a process that ended while an event was under way
pub follows : {S : Type 0} (kept : Keeping S) (start : World) (moves : List Move) (under : Under) (event : Event) (rows : List (Key × Row)) (spec : RealmSpec) (new : Host S) (place : ℕ) → IsStart start → is_run start moves ≡ true → IsUnder (led_to start moves) under event → IsLeft (led_to start moves) event rows → BeginsOver kept (led_to start moves).state.head.epoch rows spec new place → (ended : HasEnded start moves under event rows) × BeginsBehind kept start (moves ++ move_of under ended.outcome ∷ []) spec new place
follows kept start moves under event rows spec new place starts run is left begins =
    let ended = has_ended start moves under event rows starts run is left in
    (ended, subst (λ e. BeginsOver kept e (led_to start (moves ++ move_of under ended.outcome ∷ [])).rows spec new place) (sym ended.epoch) (subst (λ r. BeginsOver kept (led_to start moves).state.head.epoch r spec new place) (sym ended.left) begins))
