use Rattle.std.proofs.Common.{◌≡◌, ◌+◌, drop, length, map, take}
use Rattle.tip_scene.specs.Boxes.{AreWilling, branch_count}
use Rattle.tip_scene.proofs.Again.{boxes_of_recovery}
use Rattle.tip_scene.proofs.boxes.dealt_to_all.Given as goal

-- so many realms have theirs, and the others are left
abbrev pub invariant-loop-recovery : goal.invariant-loop-recovery
invariant-loop-recovery g l = record {
  dealt : map (λ lots. lots.items) l.all.items ≡ map boxes_of_recovery (take l.recovery-index l.realms);
  left : length l.pool.items + branch_count l.realms ≡ length l.fn.pool.items + branch_count (drop l.recovery-index l.realms);
  willing : AreWilling (map (λ b. (goal.Branch-dyn g (b.vtable, b.value)).standing b.value) l.pool.items);
}
