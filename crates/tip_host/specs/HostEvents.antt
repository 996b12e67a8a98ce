-- Events that a caller makes at a host (ours).
use Rattle.std.specs.Prelude.{ℕ}
use Rattle.tip_machine.specs.Types.{Event}

-- of the realm at a place
pub record HostEvent : Type 0 where
  pub realm : ℕ
  pub event : Event
