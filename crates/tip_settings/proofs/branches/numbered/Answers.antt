use Rattle.std.proofs.Common.{length, take, ap, ◌∙◌}
use Rattle.std.proofs.lemmas.List.{take_all}
use Rattle.tip_settings.proofs.Numbering.{length_numbered}
use Rattle.tip_settings.proofs.branches.numbered.Goals as goal

pub returns-clause-each : goal.returns-clause-each
returns-clause-each c =
    ap length c.loop-label.invariant.1 ∙ length_numbered 1 (take c.loop-label.label-index c.args.labels.now)
    ∙ ap length (take_all c.loop-label.label-index c.args.labels.now c.loop-label-test.false)
