use Rattle.std.proofs.Common.{◌<◌, length, ap, ◌∙◌, arith}
use Rattle.std.proofs.lemmas.Grind.{common_steps}
use Rattle.tip_branch.specs.Standings.{let_go}
use Rattle.tip_branch.proofs.Walks.{same_at}
use Rattle.tip_branch.proofs.Places.{seen_more}
use Rattle.tip_branch.proofs.boxes.release_all.Goals as goal

pub loop-branch-preserved : goal.loop-branch-preserved
loop-branch-preserved g c =
    let i = c.loop-branch.branch-index in
    let now = c.loop-branch.boxes in
    let before = c.args.boxes.now in
    let within : i < length now = omega arith in
    let within_before : i < length before = omega arith in
    let there = same_at now before i c.branch-item.result c.loop-branch.invariant.left in
    record {
      done = seen_more (λ b. (goal.Branch-dyn g (b.vtable, b.value)).standing b.value) let_go now before i c.release.new.branch c.branch-item.result within within_before c.loop-branch.invariant.done (c.release.ensures ∙ ap (λ b. let_go ((goal.Branch-dyn g (b.vtable, b.value)).standing b.value)) there);
      left = grind (arith, common_steps);
    }
