use Rattle.std.proofs.Common.{◌≡◌, true, take}
use Rattle.std.specs.List.{list_all}
use Rattle.tip_rows.specs.Labels.{is_label}
use Rattle.tip_sql.proofs.spelling.learn_labels.Given as goal

abbrev pub invariant-loop-label : goal.invariant-loop-label
invariant-loop-label l = list_all (λ b. is_label b.1) (take l.label-index l.branches) ≡ true
