use Rattle.std.proofs.Common.{◌≡◌, drop}
use Rattle.tip_settings.proofs.Items.{behind}
use Rattle.tip_settings.specs.Branches.{label_in}
use Rattle.tip_settings.specs.Documents.{each_of}
use Rattle.toml.specs.View.{items_view}
use Rattle.tip_settings.proofs.branches.each_label.Given as goal

abbrev pub invariant-loop-item : goal.invariant-loop-item
invariant-loop-item l = each_of label_in (items_view l.items) ≡ behind l.labels.items (each_of label_in (items_view (drop l.item-index l.items)))
