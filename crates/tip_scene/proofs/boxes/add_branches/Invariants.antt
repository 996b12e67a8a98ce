use Rattle.std.proofs.Common.{◌≡◌, ◌+◌, drop}
use Rattle.tip_scene.specs.Boxes.{boxes_for}
use Rattle.tip_scene.proofs.boxes.add_branches.Given as goal

-- the branches of so many rows are added
abbrev pub invariant-loop-row : goal.invariant-loop-row
invariant-loop-row l = l.sum + boxes_for (drop l.row-index l.rows) ≡ l.fn.count + boxes_for l.rows
