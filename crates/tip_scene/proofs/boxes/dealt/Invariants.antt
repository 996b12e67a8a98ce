use Rattle.std.proofs.Common.{◌≡◌, ◌+◌, length, map}
use Rattle.tip_scene.specs.Boxes.{AreWilling}
use Rattle.tip_scene.proofs.boxes.dealt.Given as goal

-- so many were dealt, and the others are left
abbrev pub invariant-loop : goal.invariant-loop
invariant-loop g l = record {
  counted : length l.boxes.items ≡ l.counter;
  left : length l.pool.items + l.counter ≡ length l.fn.pool.items;
  willing : AreWilling (map (λ b. (goal.Branch-dyn g (b.vtable, b.value)).standing b.value) l.pool.items);
  dealt : AreWilling (map (λ b. (goal.Branch-dyn g (b.vtable, b.value)).standing b.value) l.boxes.items);
}
