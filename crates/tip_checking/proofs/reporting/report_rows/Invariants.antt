use Rattle.std.proofs.Common.{◌≡◌, take}
use Rattle.tip_checking.specs.Findings.{are_right_rows}
use Rattle.tip_checking.proofs.reporting.report_rows.Given as goal

abbrev pub invariant-loop-row : goal.invariant-loop-row
invariant-loop-row l = l.right ≡ are_right_rows l.realms (take l.row-index l.contents.rows.items)
