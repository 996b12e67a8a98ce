-- The exit status of the server (ours).
use Rattle.std.specs.Prelude.{ℕ}
use Rattle.tip_duties.specs.declared.fault.ServeFault.{ServeFault}
use Rattle.tip_duties.specs.declared.fault.ServeFault.TheVariants as fault

-- 2 for a fault of the configuration, 1 for the others
abbrev pub status_of : ServeFault → ℕ
status_of fault.Config = 2
status_of other = 1
