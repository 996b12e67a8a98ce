-- The refusal that each fault of a public call is.
use Rattle.tip_line.specs.declared.refusal.Refusal.{Refusal}
use Rattle.tip_line.specs.declared.refusal.Refusal.TheVariants as refusal
use Rattle.tip_shared.specs.declared.closing.CloseFault.{CloseFault}
use Rattle.tip_shared.specs.declared.closing.CloseFault.TheVariants as close_fault
use Rattle.tip_host.specs.Refusals.{refusal_of_closing}

abbrev pub refusal_of : CloseFault → Refusal
refusal_of close_fault.PassMismatch = refusal.PassMismatch
refusal_of close_fault.Memory = refusal.Memory
refusal_of (close_fault.Host fault) = refusal_of_closing fault
