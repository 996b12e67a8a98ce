-- Which refusal a fault is (ours).
use Rattle.tip_line.specs.declared.refusal.Refusal.{Refusal}
use Rattle.tip_line.specs.declared.refusal.Refusal.TheVariants as refusal
use Rattle.tip_control.specs.declared.fault.AskFault.{AskFault}
use Rattle.tip_control.specs.declared.fault.AskFault.TheVariants as ask
use Rattle.tip_control.specs.declared.fault.RequestFault.{RequestFault}
use Rattle.tip_control.specs.declared.fault.RequestFault.TheVariants as request

abbrev pub refusal_of_request : RequestFault → Refusal
refusal_of_request request.Unknown = refusal.Unknown
refusal_of_request request.Missing = refusal.Missing
refusal_of_request request.NotWord = refusal.NotWord
refusal_of_request request.Memory = refusal.Memory

abbrev pub refusal_of_question : AskFault → Refusal
refusal_of_question ask.Closed = refusal.Closed
refusal_of_question ask.Read = refusal.ReadFault
refusal_of_question ask.Write = refusal.WriteFault
refusal_of_question ask.Memory = refusal.Memory
