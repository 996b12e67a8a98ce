-- Why a line of a script is not done.
use Rattle.tip_line.specs.declared.fault.WordFault.{WordFault}
use Rattle.tip_line.specs.declared.fault.WordFault.TheVariants as words
use Rattle.tip_rows.specs.declared.label.LabelFault.{LabelFault}
use Rattle.tip_rows.specs.declared.label.LabelFault.TheVariants as labels
use Rattle.tip_actor.specs.declared.fault.ActFault.{ActFault}
use Rattle.tip_actor.specs.declared.fault.ActFault.TheVariants as acts
use Rattle.tip_scene.specs.declared.fault.LineFault.{LineFault}
use Rattle.tip_scene.specs.declared.fault.LineFault.TheVariants as lines

-- why a line that is understood ends its script
abbrev pub of_act_fault : ActFault → LineFault
of_act_fault acts.Memory = lines.Memory
of_act_fault acts.Store = lines.Store

-- what is no label makes a bad line
abbrev pub of_label_fault : LabelFault → LineFault
of_label_fault labels.BadLabel = lines.NotUnderstood
of_label_fault labels.Memory = lines.Memory

-- a word that is none makes a bad line; want of memory stays what it is
abbrev pub line_fault_of : WordFault → LineFault
line_fault_of words.NotWord = lines.NotUnderstood
line_fault_of words.Memory = lines.Memory
