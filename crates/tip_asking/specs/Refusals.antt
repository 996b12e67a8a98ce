-- The refusal that each fault of a public call is.
use Rattle.tip_line.specs.declared.refusal.Refusal.{Refusal}
use Rattle.tip_line.specs.declared.refusal.Refusal.TheVariants as refusal
use Rattle.tip_asking.specs.declared.fault.AskFault.{AskFault}
use Rattle.tip_asking.specs.declared.fault.AskFault.TheVariants as ask_fault
use Rattle.tip_client.specs.Faults.{refusal_of}
use Rattle.tip_asking.specs.declared.fault.SendFault.{SendFault}
use Rattle.tip_asking.specs.declared.fault.SendFault.TheVariants as send_fault

abbrev pub refusal_of_question : AskFault → Refusal
refusal_of_question (ask_fault.Dialogue fault) = refusal_of fault
refusal_of_question (ask_fault.Answered _) = refusal.Unexpected
refusal_of_question ask_fault.Write = refusal.WriteFault
refusal_of_question ask_fault.Memory = refusal.Memory

abbrev pub refusal_of_sending : SendFault → Refusal
refusal_of_sending (send_fault.Ask fault) = refusal_of_question fault
refusal_of_sending send_fault.NoCommand = refusal.Unknown
refusal_of_sending send_fault.Input = refusal.ReadFault
refusal_of_sending send_fault.Memory = refusal.Memory
