use Rattle.std.proofs.Common.{take}
use Rattle.tip_sql.proofs.Shapes.{ReadIds}
use Rattle.tip_sql.proofs.opening.are_ids.Given as goal

abbrev pub invariant-loop-row : goal.invariant-loop-row
invariant-loop-row l = ReadIds (take l.row-index l.rows) l.last
