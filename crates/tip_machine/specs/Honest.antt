-- HONEST RUNS (ours): what is chosen from outside, and what the machine computes. Chosen are the other managers' lines, boxes
-- and what their branches answer, what becomes of a change, and which errand is lost. All else follows.
use Rattle.std.specs.Prelude.{◌&&◌, nat_lt, Bool, true, false, List, [], ◌∷◌}
use Rattle.tip_branch.specs.Notes.{PartyNotes}
use Rattle.tip_branch.specs.declared.branch.Badge.{Badge}
use Rattle.tip_rows.specs.Keys.{Key}
use Rattle.tip_rows.specs.Logs.{last_epoch}
use Rattle.tip_machine.specs.Types.{Event}
use Rattle.tip_machine.specs.Moves.{Move, World, moved, picked}
use Rattle.tip_machine.specs.Returns.{Back, can_answer, event_of}
use Rattle.tip_machine.specs.Starting.{are_adopted}
use Rattle.tip_machine.specs.Steps.{fits, wants}
use Rattle.tip_machine.specs.declared.event.Event.TheVariants.{Voted, Settled}
use Rattle.tip_machine.specs.declared.event.Outcome.{Outcome}
use Rattle.tip_machine.specs.declared.event.Outcome.TheVariants.{NoChange, Stored, Refused}

-- a party comes back from an errand of its realm alone, and not with an event of its own
abbrev pub brings_no_party : Event → Bool
brings_no_party (Voted party) = false
brings_no_party (Settled party) = false
brings_no_party other = true

-- the realm can start again
abbrev pub can_start : (Key → List Badge) → World → Bool
can_start boxes world = nat_lt world.state.head.epoch last_epoch && are_adopted boxes world.rows

-- the first errand comes back as its branches can answer
abbrev pub can_go : List PartyNotes → Back → Outcome → World → Bool
can_go [] back outcome world = true
can_go (party ∷ errands) back outcome world =
    can_answer party.errand back party.members && fits (wants world.state (event_of party back)) outcome

-- A MOVE IS HONEST in the world that it meets. A renewal that is refused for another reason than by the store is no move
abbrev pub is_honest : Move → World → Bool
is_honest (Move.Step event outcome) world = brings_no_party event && fits (wants world.state event) outcome
is_honest (Move.Go place back outcome) world = can_go (picked place world.errands) back outcome world
is_honest (Move.Lose place) world = true
is_honest (Move.Restart boxes) world = can_start boxes world
is_honest (Move.Renew boxes NoChange) world = false
is_honest (Move.Renew boxes Stored) world = can_start boxes world
is_honest (Move.Renew boxes Refused) world = can_start boxes world

-- A RUN IS HONEST: each of its moves is
abbrev pub is_run : World → List Move → Bool
is_run world [] = true
is_run world (move ∷ moves) = is_honest move world && is_run (moved move world).world moves
