-- The refusal that each fault of a public call is.
use Rattle.tip_line.specs.declared.refusal.Refusal.{Refusal}
use Rattle.tip_line.specs.declared.refusal.Refusal.TheVariants as refusal
use Rattle.tip_sql.specs.declared.opening.OverFault.{OverFault}
use Rattle.tip_sql.specs.declared.opening.OverFault.TheVariants as over_fault

abbrev pub refusal_of : OverFault → Refusal
refusal_of over_fault.Refused = refusal.Refused
refusal_of over_fault.BadSchema = refusal.BadSchema
