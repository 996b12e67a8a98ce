use Rattle.std.proofs.Common.{◌≡◌, ◌∙◌, ap, slice_set}
use Rattle.std.specs.Prelude.{insert}
use Rattle.std.proofs.lemmas.Grind.{common_steps}
use Rattle.std.proofs.Common.{arith}
use Rattle.tip_kept.proofs.Placing.{at_so, index_so, put_new, put_over}
use Rattle.tip_kept.proofs.realm_rows.put.Goals as goal

pub returns-then-is_at : goal.returns-then-is_at
returns-then-is_at c =
    let rows = c.args.rows.now.items in
    let index = index_so c.args.key rows c.deref.result.now c.before-index.result c.deref.ensures.value c.before-index.ensures.count in
    ap (λ n. slice_set rows n (c.args.key, c.args.row)) index
    ∙ put_over c.args.key c.args.row rows (at_so c.args.key rows c.deref.result.now c.deref-2.result.now c.before-index.result c.is_at.result _ c.deref.ensures.value c.deref-2.ensures.value c.before-index.ensures.count c.is_at.ensures c.if-is_at.true)

pub returns-else-is_at : goal.returns-else-is_at
returns-else-is_at c =
    let rows = c.args.rows.now.items in
    let index = index_so c.args.key rows c.deref.result.now c.before-index.result c.deref.ensures.value c.before-index.ensures.count in
    let items : c.insert.new.self.items ≡ insert rows c.before-index.result (c.args.key, c.args.row) = grind (arith, common_steps) in
    items ∙ ap (λ n. insert rows n (c.args.key, c.args.row)) index
    ∙ put_new c.args.key c.args.row rows (at_so c.args.key rows c.deref.result.now c.deref-2.result.now c.before-index.result c.is_at.result _ c.deref.ensures.value c.deref-2.ensures.value c.before-index.ensures.count c.is_at.ensures c.if-is_at.false)
