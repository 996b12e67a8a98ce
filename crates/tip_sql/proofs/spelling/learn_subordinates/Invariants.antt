use Rattle.std.proofs.Common.{take}
use Rattle.tip_rows.specs.Rows.{AreSubordinates}
use Rattle.tip_sql.proofs.spelling.learn_subordinates.Given as goal

abbrev pub invariant-loop-address : goal.invariant-loop-address
invariant-loop-address l = AreSubordinates (take l.address-index l.subordinates)
