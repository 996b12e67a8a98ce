use Rattle.std.proofs.Common.{◌≡◌, ◌∙◌, true, false, sym}
use Rattle.tip_rows.specs.Memory.{stands_at}
use Rattle.tip_rows.proofs.PlaceLemmas.{none_taken, taken_out}
use Rattle.tip_rows.proofs.memory.remove_from.Goals as goal

pub returns-then-stands_at : goal.returns-then-stands_at
returns-then-stands_at g c =
    let realm = c.args.realm.now in
    let rows = c.args.rows.now.items in
    let index = c.place_of-index.result in
    let at : stands_at realm c.args.key rows index ≡ true = rw (← c.deref-2.ensures.value) (sym c.stands_at.ensures ∙ c.if-stands_at.true) in
    c.remove.ensures.items ∙ taken_out realm c.args.key rows index c.requires (rw (← c.deref.ensures.value) c.place_of-index.ensures.between.0) at

pub returns-else-stands_at : goal.returns-else-stands_at
returns-else-stands_at g c =
    let realm = c.args.realm.now in
    let rows = c.args.rows.now.items in
    let index = c.place_of-index.result in
    let at : stands_at realm c.args.key rows index ≡ false = rw (← c.deref-2.ensures.value) (sym c.stands_at.ensures ∙ c.if-stands_at.false) in
    none_taken realm c.args.key rows index c.requires (rw (← c.deref.ensures.value) c.place_of-index.ensures.between) (rw (← c.deref.ensures.value) c.place_of-index.ensures.within) at
