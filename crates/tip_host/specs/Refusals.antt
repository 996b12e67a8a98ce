-- The refusal that each fault of a public call is.
use Rattle.tip_line.specs.declared.refusal.Refusal.{Refusal}
use Rattle.tip_line.specs.declared.refusal.Refusal.TheVariants as refusal
use Rattle.tip_host.specs.declared.host.OpenFault.{OpenFault}
use Rattle.tip_host.specs.declared.host.OpenFault.TheVariants as open_fault
use Rattle.tip_host.specs.declared.host.HostFault.{HostFault}
use Rattle.tip_host.specs.declared.host.HostFault.TheVariants as host_fault
use Rattle.tip_host.specs.declared.closing.CloseFault.{CloseFault}
use Rattle.tip_host.specs.declared.closing.CloseFault.TheVariants as close_fault
use Rattle.tip_stored.specs.Refusals.{refusal_of_renewal}

abbrev pub refusal_of_opening : OpenFault → Refusal
refusal_of_opening open_fault.Unadopted = refusal.Unadopted
refusal_of_opening open_fault.Memory = refusal.Memory

abbrev pub refusal_of_step : HostFault → Refusal
refusal_of_step host_fault.Stopped = refusal.Stopped
refusal_of_step host_fault.PassMismatch = refusal.PassMismatch
refusal_of_step host_fault.NotOut = refusal.Stranger
refusal_of_step host_fault.Memory = refusal.Memory

abbrev pub refusal_of_closing : CloseFault → Refusal
refusal_of_closing (close_fault.Read fault) = refusal_of_renewal fault
refusal_of_closing close_fault.NotStored = refusal.Store
