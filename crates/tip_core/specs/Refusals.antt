-- The refusal that each fault of a public call is.
use Rattle.tip_line.specs.declared.refusal.Refusal.{Refusal}
use Rattle.tip_line.specs.declared.refusal.Refusal.TheVariants as refusal
use Rattle.tip_core.specs.declared.starts.StartFault.{StartFault}
use Rattle.tip_core.specs.declared.starts.StartFault.TheVariants as start_fault

abbrev pub refusal_of : StartFault → Refusal
refusal_of start_fault.SameName = refusal.BadRealm
refusal_of start_fault.NoEpoch = refusal.BadRealm
refusal_of start_fault.Memory = refusal.Memory
