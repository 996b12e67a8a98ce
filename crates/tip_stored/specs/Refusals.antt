-- The refusal that each fault of a public call is.
use Rattle.tip_line.specs.declared.refusal.Refusal.{Refusal}
use Rattle.tip_line.specs.declared.refusal.Refusal.TheVariants as refusal
use Rattle.tip_stored.specs.declared.stored_core.StepFault.{StepFault}
use Rattle.tip_stored.specs.declared.stored_core.StepFault.TheVariants as step_fault
use Rattle.tip_stored.specs.declared.loading.LoadFault.{LoadFault}
use Rattle.tip_stored.specs.declared.loading.LoadFault.TheVariants as load_fault
use Rattle.tip_stored.specs.declared.renewing.RenewFault.{RenewFault}
use Rattle.tip_stored.specs.declared.renewing.RenewFault.TheVariants as renew_fault

abbrev pub refusal_of_step : StepFault → Refusal
refusal_of_step step_fault.Stopped = refusal.Stopped
refusal_of_step step_fault.Memory = refusal.Memory

abbrev pub refusal_of_load : LoadFault → Refusal
refusal_of_load load_fault.Refused = refusal.Refused
refusal_of_load load_fault.EpochEnd = refusal.EpochEnd
refusal_of_load load_fault.BadRow = refusal.BadRow
refusal_of_load load_fault.Memory = refusal.Memory
refusal_of_load load_fault.BadRealm = refusal.BadRealm

abbrev pub refusal_of_renewal : RenewFault → Refusal
refusal_of_renewal renew_fault.Stopped = refusal.Stopped
refusal_of_renewal renew_fault.NoRealm = refusal.NoRealm
refusal_of_renewal renew_fault.NotRead = refusal.Refused
refusal_of_renewal renew_fault.BadRow = refusal.BadRow
refusal_of_renewal renew_fault.EpochEnd = refusal.EpochEnd
refusal_of_renewal renew_fault.NotInDoubt = refusal.NotInDoubt
refusal_of_renewal renew_fault.Unadopted = refusal.Unadopted
refusal_of_renewal renew_fault.NotRaised = refusal.Refused
refusal_of_renewal renew_fault.Memory = refusal.Memory
