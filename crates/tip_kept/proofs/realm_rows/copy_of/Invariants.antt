use Rattle.std.proofs.Common.{◌≡◌, take}
use Rattle.tip_recovery.specs.Adopting.{stored_of}
use Rattle.tip_kept.proofs.realm_rows.copy_of.Given as goal

abbrev pub invariant-loop-row : goal.invariant-loop-row
invariant-loop-row g l = l.copies.items ≡ stored_of (take l.row-index l.rows)
