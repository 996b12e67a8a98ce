-- The refusal that each fault of a public call is.
use Rattle.tip_line.specs.declared.refusal.Refusal.{Refusal}
use Rattle.tip_line.specs.declared.refusal.Refusal.TheVariants as refusal
use Rattle.tip_run.specs.declared.halt.RunFault.{RunFault}
use Rattle.tip_run.specs.declared.halt.RunFault.TheVariants as run_fault
use Rattle.tip_stored.specs.Refusals.{refusal_of_load, refusal_of_renewal}

abbrev pub refusal_of : RunFault → Refusal
refusal_of (run_fault.Load fault) = refusal_of_load fault
refusal_of (run_fault.Renew fault) = refusal_of_renewal fault
refusal_of run_fault.Boxes = refusal.WrongCount
refusal_of run_fault.Memory = refusal.Memory
