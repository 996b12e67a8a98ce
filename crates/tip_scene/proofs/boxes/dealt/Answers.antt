-- One box more is dealt.
use Rattle.std.proofs.Common.{arith}
use Rattle.std.proofs.lemmas.Grind.{common_steps}
use Rattle.tip_scene.proofs.Dealing.{deals}
use Rattle.tip_scene.proofs.boxes.dealt.Goals as goal

pub loop-preserved : goal.loop-preserved
loop-preserved g c = record {
  counted = grind (arith, common_steps);
  left = grind (arith, common_steps);
  willing = (deals (λ b. (goal.Branch-dyn g (b.vtable, b.value)).standing b.value) c.loop.pool.items c.pop.new.self.items c.loop.boxes.items c.push.new.self.items c.in-Some.branch c.in-Some.ensures.items c.in_ok-push.ensures.items c.loop.invariant.willing c.loop.invariant.dealt).0;
  dealt = (deals (λ b. (goal.Branch-dyn g (b.vtable, b.value)).standing b.value) c.loop.pool.items c.pop.new.self.items c.loop.boxes.items c.push.new.self.items c.in-Some.branch c.in-Some.ensures.items c.in_ok-push.ensures.items c.loop.invariant.willing c.loop.invariant.dealt).1;
}
