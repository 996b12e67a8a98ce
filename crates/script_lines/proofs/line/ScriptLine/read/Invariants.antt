use Rattle.std.proofs.Common.{◌≤◌, length}
use Rattle.script_lines.specs.Lines.{HasRead}
use Rattle.script_lines.proofs.line.ScriptLine.read.Given as goal

-- so much of the line was read, an octet for each turn at least
abbrev pub invariant-loop : goal.invariant-loop
invariant-loop g l = HasRead (g.R.Read.remaining l.fn.input) (g.R.Read.remaining l.input) l.self.octets.items × (l.counter ≤ length l.self.octets.items)
