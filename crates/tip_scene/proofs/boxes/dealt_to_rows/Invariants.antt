use Rattle.std.proofs.Common.{◌≡◌, ◌+◌, drop, length, map, take}
use Rattle.tip_actor.specs.Acting.{willing_boxes}
use Rattle.tip_recovery.specs.Adopting.{Unfinished}
use Rattle.tip_scene.specs.Boxes.{AreWilling, row_count}
use Rattle.tip_scene.proofs.boxes.dealt_to_rows.Given as goal

-- so many rows have theirs, and the others are left
abbrev pub invariant-loop-row : goal.invariant-loop-row
invariant-loop-row g l = record {
  dealt : l.lots.items ≡ map (λ (row : Unfinished). willing_boxes row.row) (take l.row-index l.rows);
  left : length l.pool.items + row_count l.rows ≡ length l.fn.pool.items + row_count (drop l.row-index l.rows);
  willing : AreWilling (map (λ b. (goal.Branch-dyn g (b.vtable, b.value)).standing b.value) l.pool.items);
}
