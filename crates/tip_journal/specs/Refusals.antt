-- The refusal that each fault of a public call is.
use Rattle.tip_line.specs.declared.refusal.Refusal.{Refusal}
use Rattle.tip_line.specs.declared.refusal.Refusal.TheVariants as refusal
use Rattle.tip_journal.specs.declared.auditing.AuditFault.{AuditFault}
use Rattle.tip_journal.specs.declared.auditing.AuditFault.TheVariants as audit_fault
use Rattle.tip_journal.specs.declared.retiring.RetireFault.{RetireFault}
use Rattle.tip_journal.specs.declared.retiring.RetireFault.TheVariants as retire_fault

abbrev pub refusal_of_audit : AuditFault → Refusal
refusal_of_audit audit_fault.PassMismatch = refusal.PassMismatch
refusal_of_audit audit_fault.Memory = refusal.Memory

abbrev pub refusal_of_retirement : RetireFault → Refusal
refusal_of_retirement retire_fault.NotEnded = refusal.Busy
refusal_of_retirement retire_fault.PassMismatch = refusal.PassMismatch
refusal_of_retirement retire_fault.Memory = refusal.Memory
