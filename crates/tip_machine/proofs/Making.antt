-- Keys that were given stay so over whole runs, so that none is made twice.
use Rattle.std.proofs.Common.{◌≡◌, true, List, [], ◌∷◌, arith}
use Rattle.tip_branch.specs.Notes.{PartyNotes}
use Rattle.tip_branch.specs.declared.branch.Badge.{Badge}
use Rattle.tip_rows.specs.Keys.{Key}
use Rattle.tip_machine.specs.Given.{was_given}
use Rattle.tip_machine.specs.Moves.{Move, World, gone_for, led_to, lost_from, moved, picked, renewed, restarted_from, stepped}
use Rattle.tip_machine.specs.Returns.{Back}
use Rattle.tip_machine.specs.Types.{Event}
use Rattle.tip_machine.specs.declared.event.Outcome.{Outcome}
use Rattle.tip_machine.specs.declared.event.Outcome.TheVariants.{NoChange, Stored, Refused}
use Rattle.tip_machine.proofs.Identifiers.{given_later, given_stays}

module _ (key : Key) where
  stepped-given : (event : Event) (outcome : Outcome) (world : World) → was_given world.state key ≡ true → was_given (stepped event outcome world).world.state key ≡ true
  unfolding stepped
  stepped-given event outcome world given = given_stays world.state event outcome key given

  started-given : (boxes : Key → List Badge) (world : World) → was_given world.state key ≡ true → was_given (restarted_from boxes world) key ≡ true
  started-given boxes world given = given_later world.state (restarted_from boxes world) key (omega arith) given

  gone-given : (errands : List PartyNotes) (back : Back) (outcome : Outcome) (world : World) → was_given world.state key ≡ true → was_given (gone_for errands back outcome world).world.state key ≡ true
  gone-given [] back outcome world given = given
  gone-given (party ∷ errands) back outcome world given = stepped-given _ outcome (record world { errands = errands }) given

  lost-given : (errands : List PartyNotes) (world : World) → was_given world.state key ≡ true → was_given (lost_from errands world).world.state key ≡ true
  lost-given [] world given = given
  lost-given (party ∷ errands) world given = given

  renewed-given : (boxes : Key → List Badge) (outcome : Outcome) (world : World) → was_given world.state key ≡ true → was_given (renewed boxes outcome world).world.state key ≡ true
  renewed-given boxes Stored world given = started-given boxes world given
  renewed-given boxes Refused world given = given
  renewed-given boxes NoChange world given = given

  moved-given : (move : Move) (world : World) → was_given world.state key ≡ true → was_given (moved move world).world.state key ≡ true
  moved-given (Move.Step event outcome) world given = stepped-given event outcome world given
  moved-given (Move.Go place back outcome) world given = gone-given (picked place world.errands) back outcome world given
  moved-given (Move.Lose place) world given = lost-given (picked place world.errands) world given
  moved-given (Move.Restart boxes) world given = started-given boxes world given
  moved-given (Move.Renew boxes outcome) world given = renewed-given boxes outcome world given

  pub led_given : (moves : List Move) (world : World) → was_given world.state key ≡ true → was_given (led_to world moves).state key ≡ true
  led_given [] world given = given
  led_given (move ∷ moves) world given = led_given moves (moved move world).world (moved-given move world given)
