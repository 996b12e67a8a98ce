-- How a connection stands between two events (ours, for RFC 2371, section 12).
use Rattle.std.specs.Prelude.{Option, Some, None, if◌then◌else◌}
use Rattle.tip_machine.specs.Connections.{is_free, may_take}
use Rattle.tip_machine.specs.Types.{Connection}
use Rattle.tip_rules.specs.declared.standing.Standing.{Standing}
use Rattle.tip_rules.specs.declared.standing.Standing.TheVariants.{Gone, Takes, Free, Waits}

-- a line that comes is taken at once; or it waits, and where nothing is under way on a connection of ours we may ask on it
abbrev pub standing_of : Connection → Standing
standing_of connection = if may_take connection then Takes else if is_free connection then Free else Waits

-- the connection of a seat, if it is there
abbrev pub standing_on : Option Connection → Standing
standing_on None = Gone
standing_on (Some connection) = standing_of connection
