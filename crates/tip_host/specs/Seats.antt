-- Connections of a host (ours).
use Rattle.std.specs.Prelude.{ℕ, Bool, false, ◌==◌, Option, Some, None}
use Rattle.tip_machine.specs.States.{State}
use Rattle.tip_machine.specs.Types.{Event}
use Rattle.tip_machine.specs.declared.event.Event.TheVariants as event
use Rattle.tip_machine.specs.declared.event.Seat as realms
use Rattle.tip_host.specs.declared.seat.Seat.{Seat}

-- the seat that a realm's connection has at its host
abbrev pub seat_at : ℕ → realms.Seat → Seat
seat_at realm seat = record { realm = realm; epoch = seat.epoch; number = seat.number }

-- and as its realm knows it
abbrev pub within : Seat → realms.Seat
within seat = record { epoch = seat.epoch; number = seat.number }

-- the connection that an event is one of, if it is
abbrev pub seat_of : Event → Option realms.Seat
seat_of (event.Line seat heard) = Some seat
seat_of (event.Lost seat) = Some seat
seat_of (event.AskPush seat id) = Some seat
seat_of (event.AskPull seat superior) = Some seat
seat_of other = None

-- a seat of the realm's present start
abbrev pub is_now : Seat → Option State → Bool
is_now seat None = false
is_now seat (Some state) = state.head.epoch == seat.epoch
