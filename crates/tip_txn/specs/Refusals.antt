-- The refusal that each fault of a public call is.
use Rattle.tip_line.specs.declared.refusal.Refusal.{Refusal}
use Rattle.tip_line.specs.declared.refusal.Refusal.TheVariants as refusal
use Rattle.tip_txn.specs.declared.txn.EnlistFault.{EnlistFault}
use Rattle.tip_txn.specs.declared.txn.EnlistFault.TheVariants as enlist_fault

abbrev pub refusal_of : EnlistFault → Refusal
refusal_of enlist_fault.NotActive = refusal.NotActive
refusal_of enlist_fault.Twice = refusal.Twice
