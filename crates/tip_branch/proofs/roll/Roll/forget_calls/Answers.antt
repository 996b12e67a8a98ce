use Rattle.std.proofs.Common.{◌∙◌, ap, arith}
use Rattle.std.proofs.lemmas.Grind.{common_steps}
use Rattle.tip_branch.specs.Members.{forgetting}
use Rattle.tip_branch.proofs.Walks.{same_at}
use Rattle.tip_branch.proofs.Places.{mapped_more}
use Rattle.tip_branch.proofs.roll.Roll.forget_calls.Goals as goal

pub loop-i-preserved : goal.loop-i-preserved
loop-i-preserved c = record {
  done = rw (c.set.ensures) (mapped_more forgetting c.loop-i.self c.args.self.now c.loop-i.i c.forgetting.result c.get.result (omega arith) (omega arith) c.loop-i.invariant.done (c.forgetting.ensures ∙ ap forgetting (c.get.ensures ∙ same_at c.loop-i.self c.args.self.now c.loop-i.i c.get.result c.loop-i.invariant.left)));
  left = grind (arith, common_steps);
  counted = grind (arith, common_steps);
}
