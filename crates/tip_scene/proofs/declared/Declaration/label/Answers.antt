-- One label for each branch, or another number of them.
use Rattle.std.proofs.Common.{◌≡◌, false, length, rules, true}
use Rattle.std.specs.Prelude.{◌==◌}
use Rattle.tip_line.specs.Fields.{fields_of}
use Rattle.tip_scene.proofs.Labelling.{labels_fit, labels_misfit}
use Rattle.tip_scene.proofs.declared.Declaration.label.Goals as goal

pub returns-then-as_slice-clause-bad : goal.returns-then-as_slice-clause-bad
returns-then-as_slice-clause-bad c = λ fault.
    let differ : (length c.in_ok-branches.branches == length c.args.self.now.branches) ≡ false = search rules in
    labels_misfit (fields_of 32 c.args.labels.now) c.args.self.now c.in_ok-branches.branches c.if-self.false c.in_ok-branches.ensures.ok.0 c.in_ok-branches.ensures.ok.1 differ

pub returns-clause-ok : goal.returns-clause-ok
returns-clause-ok c =
    let same : (length c.in_ok-branches.branches == length c.args.self.now.branches) ≡ true = search rules in
    labels_fit (fields_of 32 c.args.labels.now) c.args.self.now c.in_ok-branches.branches c.if-self.false c.in_ok-branches.ensures.ok.0 c.in_ok-branches.ensures.ok.1 same
