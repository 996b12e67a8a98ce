use Rattle.std.proofs.Common.{◌+◌}
use Rattle.tip_settings.proofs.Items.{one_more, not_read, all_read, followed}
use Rattle.tip_settings.proofs.Refusing.{lacked_by}
use Rattle.tip_settings.specs.Branches.{label_in}
use Rattle.tip_settings.specs.Documents.{each_of}
use Rattle.tip_settings.specs.declared.fault.Wanted.TheVariants.{Labels}
use Rattle.toml.specs.View.{items_view, view}
use Rattle.tip_settings.proofs.branches.each_label.Goals as goal

pub returns-in_err-label_in : goal.returns-in_err-label_in
returns-in_err-label_in c =
    lacked_by (λ labels. labels.items) Labels c.from_residual.result c.in_err-label_in.field-0.0 (label_in (view c.item-item.result)) (each_of label_in (items_view c.args.items.now)) c.from_residual.ensures c.in_err-label_in.ensures
    (not_read label_in c.args.items.now c.loop-item.item-index c.item-item.result c.loop-item.labels.items c.loop-item-test.true c.item-item.is c.loop-item.invariant)

pub loop-item-preserved : goal.loop-item-preserved
loop-item-preserved c =
    followed label_in c.args.items.now (c.loop-item.item-index + 1) _ c.push.new.self.items c.in_ok-push.ensures.items
    (one_more label_in c.args.items.now c.loop-item.item-index c.item-item.result c.loop-item.labels.items c.in_ok-label_in.field-0 c.loop-item-test.true c.item-item.is c.loop-item.invariant c.in_ok-label_in.ensures)

pub returns : goal.returns
returns c = all_read label_in c.args.items.now c.loop-item.item-index c.loop-item.labels.items c.loop-item-test.false c.loop-item.invariant
