use Rattle.std.proofs.Common.{◌<◌, ◌∙◌, length, ap, sym, arith}
use Rattle.std.proofs.lemmas.Grind.{common_steps}
use Rattle.tip_journal.specs.Pass.{others}
use Rattle.tip_journal.proofs.Lists.{changed-more}
use Rattle.tip_journal.proofs.retiring.let_go.Goals as goal

pub loop-pass-preserved : goal.loop-pass-preserved
loop-pass-preserved g c =
    let now = c.loop-pass.passes in
    let index = c.loop-pass.pass-index in
    let within : index < length now = omega arith in
    record {
      done = changed-more (λ pass. pass.noted) (λ pass. others c.args.realm c.args.epoch pass.noted) now c.args.passes.now index c.pass-item.result c.let_go.new.self within c.loop-pass.invariant.done c.loop-pass.invariant.left c.pass-item.is (c.let_go.ensures ∙ ap (λ p. others c.args.realm c.args.epoch p.noted) (sym c.pass-item.is));
      left = grind (arith, common_steps);
    }
