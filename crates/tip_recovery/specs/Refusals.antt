-- The refusal that each fault of a public call is.
use Rattle.tip_line.specs.declared.refusal.Refusal.{Refusal}
use Rattle.tip_line.specs.declared.refusal.Refusal.TheVariants as refusal
use Rattle.tip_recovery.specs.declared.unfinished.AdoptFault.{AdoptFault}
use Rattle.tip_recovery.specs.declared.unfinished.AdoptFault.TheVariants as adopt_fault

abbrev pub refusal_of : AdoptFault → Refusal
refusal_of adopt_fault.NotInDoubt = refusal.NotInDoubt
refusal_of adopt_fault.WrongCount = refusal.WrongCount
