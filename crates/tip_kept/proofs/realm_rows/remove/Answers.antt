use Rattle.std.proofs.Common.{◌∙◌, ap, sym}
use Rattle.std.specs.Prelude.{remove}
use Rattle.tip_kept.proofs.Placing.{at_so, index_so, none_taken, taken_out}
use Rattle.tip_kept.proofs.realm_rows.remove.Goals as goal

pub returns-then-is_at : goal.returns-then-is_at
returns-then-is_at c =
    let rows = c.args.rows.now.items in
    c.remove.ensures.items
    ∙ ap (remove rows) (index_so c.args.key rows c.deref.result.now c.before-index.result c.deref.ensures.value c.before-index.ensures.count)
    ∙ taken_out c.args.key rows (at_so c.args.key rows c.deref.result.now c.deref-2.result.now c.before-index.result c.is_at.result _ c.deref.ensures.value c.deref-2.ensures.value c.before-index.ensures.count c.is_at.ensures c.if-is_at.true)

pub returns-else-is_at : goal.returns-else-is_at
returns-else-is_at c =
    let rows = c.args.rows.now.items in
    sym (none_taken c.args.key rows c.requires (at_so c.args.key rows c.deref.result.now c.deref-2.result.now c.before-index.result c.is_at.result _ c.deref.ensures.value c.deref-2.ensures.value c.before-index.ensures.count c.is_at.ensures c.if-is_at.false))
