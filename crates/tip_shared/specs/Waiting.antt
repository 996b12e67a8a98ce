-- When a line of a connection waits at a host that threads share (ours, for RFC 2371, section 12).
use Rattle.std.specs.Prelude.{◌≡◌, ℕ, Bool, true, false, List, Option, nat_le}
use Rattle.tip_core.specs.Hosted.{may_take_in}
use Rattle.tip_host.specs.Entries.{Noted}
use Rattle.tip_host.specs.Hosts.{Reply}
use Rattle.tip_host.specs.Seats.{within}
use Rattle.tip_host.specs.Served.{AnswersAt}
use Rattle.tip_host.specs.declared.seat.Seat.{Seat}
use Rattle.tip_machine.specs.States.{State}
use Rattle.tip_machine.specs.declared.event.Event.TheVariants.{Line}
use Rattle.tip_machine.specs.declared.event.Heard.{Heard}
use Rattle.tip_rules.specs.declared.standing.Standing.{Standing}
use Rattle.tip_rules.specs.declared.standing.Standing.TheVariants.{Gone, Takes, Free, Waits}

-- It waits where a response is owed on it, or none is awaited; and where as many lines wait to go out on it as may. On a
-- connection that is gone none waits.
abbrev pub must_wait : Standing → (waiting : ℕ) → Bool
must_wait Gone waiting = false
must_wait Takes waiting = nat_le 64 waiting
must_wait Free waiting = true
must_wait Waits waiting = true

-- A LINE IS TAKEN IN ITS TURN: where its realm stood, a line might be taken on the connection, and it is answered as its realm does there
abbrev pub IsTakenInTurn : Seat → List Noted → List Noted → Heard → Reply → Type 0
IsTakenInTurn seat before after heard reply = (stood : Option State) × (may_take_in (within seat) stood ≡ true) × AnswersAt stood before after seat.realm (Line (within seat) heard) reply
