use Rattle.std.proofs.Common.{◌≡◌, ◌∙◌, true, false, sym, insert, slice_set}
use Rattle.tip_rows.specs.Memory.{stands_at}
use Rattle.tip_rows.proofs.PlaceLemmas.{put_new, put_within}
use Rattle.tip_rows.proofs.memory.put_copy.Goals as goal

pub returns-then-stands_at-clause-ok : goal.returns-then-stands_at-clause-ok
returns-then-stands_at-clause-ok g c =
    let rows = c.args.rows.now.items in
    let index = c.place_of-index.result in
    let at : stands_at c.args.realm.now c.args.key rows index ≡ true = rw (← c.deref-2.ensures.value) (sym c.stands_at.ensures ∙ c.if-stands_at.true) in
    (λ i. slice_set rows index (c.replace.ensures i))
    ∙ (λ i. slice_set rows index (record c.index_mut.result.now { row = c.in_ok-row.ensures i }))
    ∙ put_within c.args.realm.now c.args.key c.args.row.now rows index c.index_mut.result.now (rw (← c.deref.ensures.value) c.place_of-index.ensures.between.0) at (sym c.index_mut.ensures.value)

pub returns-clause-ok : goal.returns-clause-ok
returns-clause-ok g c =
    let rows = c.args.rows.now.items in
    let index = c.place_of-index.result in
    let at : stands_at c.args.realm.now c.args.key rows index ≡ false = rw (← c.deref-2.ensures.value) (sym c.stands_at.ensures ∙ c.if-stands_at.false) in
    c.in_ok-insert.ensures.items
    ∙ (λ i. insert rows index (c.in_ok-of.ensures i))
    ∙ (λ i. insert rows index (record { realm = c.in_ok-copy.ensures i; key = c.args.key; row = c.in_ok-row.ensures i }))
    ∙ put_new (record { realm = c.args.realm.now; key = c.args.key; row = c.args.row.now }) rows index (rw (← c.deref.ensures.value) c.place_of-index.ensures.between) (rw (← c.deref.ensures.value) c.place_of-index.ensures.within) at
