-- The refusal that each fault is.
use Rattle.tip_line.specs.declared.refusal.Refusal.{Refusal}
use Rattle.tip_line.specs.declared.refusal.Refusal.TheVariants as refusal
use Rattle.tip_client.specs.declared.fault.ClientFault.{ClientFault}
use Rattle.tip_client.specs.declared.fault.ClientFault.TheVariants.{Unexpected, Closed, Read, Write, Memory}

abbrev pub refusal_of : ClientFault → Refusal
refusal_of Unexpected = refusal.Unexpected
refusal_of Closed = refusal.Closed
refusal_of Read = refusal.ReadFault
refusal_of Write = refusal.WriteFault
refusal_of Memory = refusal.Memory
