-- Turns as far as they matter (ours).
use Rattle.std.specs.Prelude.{◌≡◌, List}
use Rattle.tip_machine.specs.Order.{concerned}
use Rattle.tip_machine.specs.States.{State}
use Rattle.tip_machine.specs.Types.{Event}
use Rattle.tip_outlook.specs.Turns.{notes_of}
use Rattle.tip_outlook.specs.declared.turns.Turn.{Turn}

-- these are the turns of the connections on the transactions that the event concerns
abbrev pub AreKnown : State → Event → List Turn → Type 0
AreKnown state event turns = turns ≡ notes_of (concerned state event) state.connections
