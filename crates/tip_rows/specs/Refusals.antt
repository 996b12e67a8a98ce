-- The refusal that each fault of a public call is.
use Rattle.tip_line.specs.declared.refusal.Refusal.{Refusal}
use Rattle.tip_line.specs.declared.refusal.Refusal.TheVariants as refusal
use Rattle.tip_rows.specs.declared.log.RaiseFault.{RaiseFault}
use Rattle.tip_rows.specs.declared.log.RaiseFault.TheVariants as raise_fault
use Rattle.tip_rows.specs.declared.log.LoadFault.{LoadFault}
use Rattle.tip_rows.specs.declared.log.LoadFault.TheVariants as load_fault
use Rattle.tip_rows.specs.declared.text.RowFault.{RowFault}
use Rattle.tip_rows.specs.declared.text.RowFault.TheVariants as row_fault
use Rattle.tip_rows.specs.declared.label.LabelFault.{LabelFault}
use Rattle.tip_rows.specs.declared.label.LabelFault.TheVariants as label_fault

abbrev pub refusal_of_raise : RaiseFault → Refusal
refusal_of_raise raise_fault.Refused = refusal.Refused
refusal_of_raise raise_fault.EpochEnd = refusal.EpochEnd

abbrev pub refusal_of_load : LoadFault → Refusal
refusal_of_load load_fault.Refused = refusal.Refused
refusal_of_load load_fault.BadRow = refusal.BadRow
refusal_of_load load_fault.Memory = refusal.Memory

abbrev pub refusal_of_row : RowFault → Refusal
refusal_of_row row_fault.BadRow = refusal.BadRow
refusal_of_row row_fault.Memory = refusal.Memory

abbrev pub refusal_of_label : LabelFault → Refusal
refusal_of_label label_fault.BadLabel = refusal.BadLabel
refusal_of_label label_fault.Memory = refusal.Memory
