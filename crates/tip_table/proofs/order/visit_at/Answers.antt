use Rattle.std.proofs.Common.{◌≡◌, ◌∷◌, ◌∙◌, ◌+◌, arith, suc, ap, drop, drop-cons, get_or, sym, subst}
use Rattle.std.specs.Prelude.{Some, None}
use Rattle.std.specs.Option.{option_copied_mut}
use Rattle.slab.specs.Slab.{get, with_value}
use Rattle.tip_table.specs.Entries.{AreApart, changed_at, item_before, items_at, visited_at}
use Rattle.tip_table.specs.Visits.{MayVisit, notes_of}
use Rattle.tip_table.proofs.Visiting.{left-on, visited-on}
use Rattle.tip_table.proofs.order.visit_at.Goals.{in-Some, in_default}
use Rattle.tip_table.proofs.order.visit_at.Goals as goal

pub loop-key-preserved : goal.loop-key-preserved
loop-key-preserved g c =
    let was = c.loop-key.invariant in
    let v = g.V.Visit in
    let visitor = c.args.visitor.now in
    let slots = c.loop-key.slots in
    let key = get_or c.args.keys.now c.loop-key.key-index 0 in
    let rest = drop (c.loop-key.key-index + 1) c.args.keys.now in
    let cons : drop c.loop-key.key-index c.args.keys.now ≡ key ∷ rest = drop-cons c.args.keys.now c.loop-key.key-index 0 c.loop-key-test.true ∙ ap (λ n. key ∷ drop n c.args.keys.now) (let same : suc c.loop-key.key-index ≡ c.loop-key.key-index + 1 = omega arith in same) in
    let apart : AreApart (key ∷ rest) = subst AreApart cons was.apart in
    let may : MayVisit (v.may visitor) (v.noted visitor) c.loop-key.notes (items_at slots (key ∷ rest)) = subst (λ ks. MayVisit (v.may visitor) (v.noted visitor) c.loop-key.notes (items_at slots ks)) cons was.may in
    let visited : visited_at (v.left visitor) slots (key ∷ rest) ≡ visited_at (v.left visitor) c.args.slots.now c.args.keys.now = ap (visited_at (v.left visitor) slots) (sym cons) ∙ was.visited in
    let notes : notes_of (v.noted visitor) c.loop-key.notes (items_at slots (key ∷ rest)) ≡ notes_of (v.noted visitor) c.args.notes.now (items_at c.args.slots.now c.args.keys.now) = ap (λ ks. notes_of (v.noted visitor) c.loop-key.notes (items_at slots ks)) (sym cons) ∙ was.notes in
    elim c.match-get_mut.branch [
      | in-Some w ↦
          let item = w.in-Some.entry.now.item in
          let there : get slots key ≡ Some w.in-Some.entry.now = sym c.get_mut.ensures.value ∙ ap option_copied_mut w.in-Some.is in
          let its : items_at slots (key ∷ rest) ≡ item ∷ items_at slots rest = ap (λ o. item_before o (items_at slots rest)) there in
          let changed : c.match-get_mut.slots ≡ changed_at (v.left visitor) slots key (get slots key) =
          w.slots-is ∙ ap (λ x. with_value slots key (record w.in-Some.entry.now { item = x })) w.visit.ensures.item ∙ sym (ap (changed_at (v.left visitor) slots key) there) in
          let items : items_at c.match-get_mut.slots rest ≡ items_at slots rest = left-on (v.left visitor) slots c.match-get_mut.slots key rest changed apart.0 in
          let noted : c.match-get_mut.notes ≡ v.noted visitor c.loop-key.notes item = w.notes-is ∙ w.visit.ensures.notes in
          let both : MayVisit (v.may visitor) (v.noted visitor) c.loop-key.notes (item ∷ items_at slots rest) = subst (MayVisit (v.may visitor) (v.noted visitor) c.loop-key.notes) its may in
          record {
            apart = apart.1;
            may = subst (MayVisit (v.may visitor) (v.noted visitor) c.match-get_mut.notes) (sym items) (subst (λ n. MayVisit (v.may visitor) (v.noted visitor) n (items_at slots rest)) (sym noted) both.1);
            visited = visited-on (v.left visitor) slots c.match-get_mut.slots key rest changed ∙ visited;
            notes = ap (notes_of (v.noted visitor) c.match-get_mut.notes) items ∙ ap (λ n. notes_of (v.noted visitor) n (items_at slots rest)) noted ∙ sym (ap (notes_of (v.noted visitor) c.loop-key.notes) its) ∙ notes;
          }
      | in_default w ↦
          let gone : get slots key ≡ None = sym c.get_mut.ensures.value ∙ ap option_copied_mut w.in_default.is in
          let its : items_at slots (key ∷ rest) ≡ items_at slots rest = ap (λ o. item_before o (items_at slots rest)) gone in
          let changed : c.match-get_mut.slots ≡ changed_at (v.left visitor) slots key (get slots key) = w.slots-is ∙ sym (ap (changed_at (v.left visitor) slots key) gone) in
          let items : items_at c.match-get_mut.slots rest ≡ items_at slots rest = left-on (v.left visitor) slots c.match-get_mut.slots key rest changed apart.0 in
          record {
            apart = apart.1;
            may = subst (MayVisit (v.may visitor) (v.noted visitor) c.match-get_mut.notes) (sym items) (subst (λ n. MayVisit (v.may visitor) (v.noted visitor) n (items_at slots rest)) (sym w.notes-is) (subst (MayVisit (v.may visitor) (v.noted visitor) c.loop-key.notes) its may));
            visited = visited-on (v.left visitor) slots c.match-get_mut.slots key rest changed ∙ visited;
            notes = ap (notes_of (v.noted visitor) c.match-get_mut.notes) items ∙ ap (λ n. notes_of (v.noted visitor) n (items_at slots rest)) w.notes-is ∙ sym (ap (notes_of (v.noted visitor) c.loop-key.notes) its) ∙ notes;
          }
    ]
