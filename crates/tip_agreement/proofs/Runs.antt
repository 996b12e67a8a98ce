-- Runs one after another.
use Rattle.std.proofs.Common.{◌≡◌, ◌++◌, ◌∷◌, true, List, [], append_assoc, append-nil, refl, ap, sym, ◌∙◌}
use Rattle.std.proofs.lemmas.Bool.{and_from, and_parts}
use Rattle.std.proofs.lemmas.List.Concat.{flat_map-cons}
use Rattle.tip_machine.specs.Agreement.Traces.{Moment, shown_in, traced}
use Rattle.tip_machine.specs.Honest.{is_honest, is_run}
use Rattle.tip_machine.specs.Moves.{Move, World, led_to, moved}
use Rattle.tip_machine.specs.Outputs.{Output}

-- what a run shows
abbrev pub shows : World → List Move → List Output
shows world moves = shown_in (traced world moves)

shows_cons : (world : World) (move : Move) (moves : List Move) → shows world (move ∷ moves) ≡ (moved move world).shown ++ shows (moved move world).world moves
shows_cons world move moves = flat_map-cons (λ (moment : Moment). moment.shown) (record { world = world; move = move; shown = (moved move world).shown; after = (moved move world).world }) (traced (moved move world).world moves)

pub shows_one : (world : World) (move : Move) → shows world (move ∷ []) ≡ (moved move world).shown
shows_one world move = shows_cons world move [] ∙ append-nil (moved move world).shown

pub shows_on : (world : World) (first second : List Move) → shows world (first ++ second) ≡ shows world first ++ shows (led_to world first) second
shows_on world [] second = refl
shows_on world (move ∷ first) second =
    shows_cons world move (first ++ second)
    ∙ ap (λ l. (moved move world).shown ++ l) (shows_on (moved move world).world first second)
    ∙ sym (append_assoc (moved move world).shown (shows (moved move world).world first) (shows (led_to (moved move world).world first) second))
    ∙ ap (λ l. l ++ shows (led_to (moved move world).world first) second) (sym (shows_cons world move first))

pub led_on : (world : World) (first second : List Move) → led_to world (first ++ second) ≡ led_to (led_to world first) second
led_on world [] second = refl
led_on world (move ∷ first) second = led_on (moved move world).world first second

pub run_on : (world : World) (first second : List Move) → is_run world first ≡ true → is_run (led_to world first) second ≡ true → is_run world (first ++ second) ≡ true
run_on world [] second run next = next
run_on world (move ∷ first) second run next =
    let parts = and_parts (is_honest move world) (is_run (moved move world).world first) run in
    and_from (is_honest move world) (is_run (moved move world).world (first ++ second)) parts.0 (run_on (moved move world).world first second parts.1 next)

pub run_one : (world : World) (move : Move) → is_honest move world ≡ true → is_run world (move ∷ []) ≡ true
run_one world move honest = and_from (is_honest move world) true honest refl
