-- THE INVARIANTS ARE KEPT by each move of an honest run, and so by the whole run.
use Rattle.std.proofs.Common.{◌≡◌, true, List, [], ◌∷◌}
use Rattle.std.proofs.lemmas.Bool.{and_parts}
use Rattle.tip_branch.specs.Notes.{PartyNotes}
use Rattle.tip_machine.specs.Honest.{brings_no_party, is_honest, is_run}
use Rattle.tip_machine.specs.Invariants.{IsSound}
use Rattle.tip_machine.specs.Invariants.Parties.{are_out}
use Rattle.tip_machine.specs.Moves.{Move, World, gone_for, led_to, moved, picked}
use Rattle.tip_machine.specs.Returns.{Back}
use Rattle.tip_machine.specs.Starting.{IsStart}
use Rattle.tip_machine.specs.declared.event.Outcome.{Outcome}
use Rattle.tip_agreement.proofs.Errands.{lost_sound, first_due}
use Rattle.tip_agreement.proofs.Picking.{picked_out}
use Rattle.tip_agreement.proofs.Lasting.{back_sound, event_sound}
use Rattle.tip_agreement.proofs.Restarts.{renewing_sound, restarting_sound, start_sound}

gone_sound : (back : Back) (outcome : Outcome) (world : World) (errands : List PartyNotes) → IsSound world → are_out world.state errands ≡ true → IsSound (gone_for errands back outcome world).world
gone_sound back outcome world [] sound out = sound
gone_sound back outcome world (party ∷ errands) sound out = back_sound world party errands back outcome sound out (first_due world.state party errands out)

pub moved_sound : (move : Move) (world : World) → IsSound world → is_honest move world ≡ true → IsSound (moved move world).world
moved_sound (Move.Step event outcome) world sound honest = event_sound world event outcome sound (and_parts (brings_no_party event) _ honest).0
moved_sound (Move.Go place back outcome) world sound honest = gone_sound back outcome world (picked place world.errands) sound (picked_out place world.state world.errands sound.out)
moved_sound (Move.Lose place) world sound honest = lost_sound place world sound
moved_sound (Move.Restart boxes) world sound honest = restarting_sound boxes world sound honest
moved_sound (Move.Renew boxes outcome) world sound honest = renewing_sound boxes outcome world sound honest

pub run_sound : (world : World) (moves : List Move) → IsSound world → is_run world moves ≡ true → IsSound (led_to world moves)
run_sound world [] sound honest = sound
run_sound world (move ∷ moves) sound honest =
    let parts = and_parts (is_honest move world) (is_run (moved move world).world moves) honest in
    run_sound (moved move world).world moves (moved_sound move world sound parts.0) parts.1

pub reached_sound : (world : World) (moves : List Move) → IsStart world → is_run world moves ≡ true → IsSound (led_to world moves)
reached_sound world moves start honest = run_sound world moves (start_sound world start) honest
