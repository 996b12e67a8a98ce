use Rattle.std.proofs.Common.{ap, sym, ◌∙◌, arith}
use Rattle.std.proofs.lemmas.Bool.{true≢false}
use Rattle.tip_rows.specs.Branches.{are_branches}
use Rattle.tip_scene.proofs.FirstBranches.{first_are_branches}
use Rattle.tip_scene.proofs.branches.first_branches.Goals as goal

pub unreachable-requires : goal.unreachable-requires
unreachable-requires c =
    let few = c.loop-before.auto.before-end in
    let most = c.requires in
    true≢false (sym (ap are_branches c.loop-before.invariant ∙ first_are_branches c.loop-before.before (omega (arith, few, most))) ∙ c.in-Err.ensures.bad.1)
