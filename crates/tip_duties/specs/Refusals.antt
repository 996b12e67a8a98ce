-- The refusal that each fault of a public call is.
use Rattle.tip_line.specs.declared.refusal.Refusal.{Refusal}
use Rattle.tip_line.specs.declared.refusal.Refusal.TheVariants as refusal
use Rattle.tip_duties.specs.declared.fault.ServeFault.{ServeFault}
use Rattle.tip_duties.specs.declared.fault.ServeFault.TheVariants as serve_fault

abbrev pub refusal_of : ServeFault → Refusal
refusal_of serve_fault.Config = refusal.Config
refusal_of serve_fault.Store = refusal.Store
refusal_of (serve_fault.Listen _) = refusal.Listen
refusal_of serve_fault.Read = refusal.ReadFault
refusal_of serve_fault.Write = refusal.WriteFault
refusal_of serve_fault.Memory = refusal.Memory
refusal_of serve_fault.Audit = refusal.PassMismatch
