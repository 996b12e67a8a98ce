-- One label more.
use Rattle.std.proofs.Common.{◌≤◌, ◌∙◌, ◌++◌, ◌∷◌, [], ap, arith}
use Rattle.std.proofs.lemmas.Bool.Decides.{nat_tests}
use Rattle.tip_line.specs.Fields.{fields_of}
use Rattle.tip_scene.proofs.Labelling.{one_more_read}
use Rattle.tip_scene.proofs.branches.labelled_branches.Goals as goal

pub loop-label-preserved : goal.loop-label-preserved
loop-label-preserved c =
    let few : c.loop-label.number ≤ 8 = grind (arith, nat_tests) in
    one_more_read (fields_of 32 c.args.labels.now) c.loop-label.fields c.next.new.self c.loop-label.items.items c.loop-label.number c.in-Some.label.now c.loop-label.invariant c.in-Some.ensures c.push.new.self.items
    (c.in_ok-push.ensures.items ∙ ap (λ label. c.loop-label.items.items ++ (c.loop-label.number, label) ∷ []) c.in_ok-new.ensures.same) c.in_ok-new.ensures.label few
