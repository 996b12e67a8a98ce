use Rattle.std.proofs.Common.{◌≡◌, ◌∙◌, ap, sym}
use Rattle.std.specs.Ordering.{nat_cmp}
use Rattle.std.specs.declared.cmp.Ordering.TheVariants.{Less, Equal, Greater}
use Rattle.std.specs.Cmp.Lexicographic.{slice_cmp}
use Rattle.tip_rows.specs.Keys.{Key, comes_before}
use Rattle.tip_rows.proofs.PlaceLemmas.{names_less, names_equal, names_greater}
use Rattle.tip_rows.proofs.memory.is_before.Goals as goal

pub returns-in-Less : goal.returns-in-Less
returns-in-Less g c =
    let order : slice_cmp nat_cmp c.args.stored.now.realm c.args.realm.now ≡ Less = rw (← c.realm.ensures, ← c.as_str.ensures.same, ← c.as_str-2.ensures.same) (sym c.cmp.ensures ∙ c.in-Less.is) in
    sym (names_less c.args.realm.now c.args.key c.args.stored.now order)

pub returns-in-Equal : goal.returns-in-Equal
returns-in-Equal g c =
    let order : slice_cmp nat_cmp c.args.stored.now.realm c.args.realm.now ≡ Equal = rw (← c.realm.ensures, ← c.as_str.ensures.same, ← c.as_str-2.ensures.same) (sym c.cmp.ensures ∙ c.in-Equal.is) in
    c.comes_before.ensures ∙ ap (λ (key : Key). comes_before key c.args.key) c.key.ensures ∙ sym (names_equal c.args.realm.now c.args.key c.args.stored.now order)

pub returns-in-Greater : goal.returns-in-Greater
returns-in-Greater g c =
    let order : slice_cmp nat_cmp c.args.stored.now.realm c.args.realm.now ≡ Greater = rw (← c.realm.ensures, ← c.as_str.ensures.same, ← c.as_str-2.ensures.same) (sym c.cmp.ensures ∙ c.in-Greater.is) in
    sym (names_greater c.args.realm.now c.args.key c.args.stored.now order)
