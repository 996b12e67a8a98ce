-- The refusal that each fault of a public call is.
use Rattle.tip_line.specs.declared.refusal.Refusal.{Refusal}
use Rattle.tip_line.specs.declared.refusal.Refusal.TheVariants as refusal
use Rattle.tip_play.specs.declared.fault.PlayFault.{PlayFault}
use Rattle.tip_play.specs.declared.fault.PlayFault.TheVariants as play_fault

abbrev pub refusal_of : PlayFault → Refusal
refusal_of (play_fault.Script _) = refusal.Script
refusal_of play_fault.Read = refusal.ReadFault
refusal_of play_fault.Write = refusal.WriteFault
refusal_of play_fault.Memory = refusal.Memory
refusal_of play_fault.Store = refusal.Store
