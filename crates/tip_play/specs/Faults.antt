-- How the process ends where a script is not played to its end.
use Rattle.std.specs.Prelude.{ℕ}
use Rattle.script_lines.specs.declared.line.LineFault.{LineFault}
use Rattle.script_lines.specs.declared.line.LineFault.TheVariants as line
use Rattle.tip_actor.specs.declared.fault.ActFault.{ActFault}
use Rattle.tip_actor.specs.declared.fault.ActFault.TheVariants as act
use Rattle.tip_play.specs.declared.fault.PlayFault.{PlayFault}
use Rattle.tip_play.specs.declared.fault.PlayFault.TheVariants.{Script, Read, Write, Memory, Store}

abbrev pub status_of : PlayFault → ℕ
status_of (Script line) = 2
status_of Read = 1
status_of Write = 1
status_of Memory = 1
status_of Store = 1

-- why no line was read
abbrev pub of_line : LineFault → PlayFault
of_line line.Read = Read
of_line line.Memory = Memory

-- why a line that is understood ended the script
abbrev pub of_act_fault : ActFault → PlayFault
of_act_fault act.Memory = Memory
of_act_fault act.Store = Store
