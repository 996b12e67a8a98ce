use Rattle.std.proofs.Common.{◌≡◌, ◌≢◌, ◌++◌, ◌∷◌, ◌∙◌, List, [], None, true, false, suc, ap, append_assoc, arith, inl, inr, length, refl, subst, sym}
use Rattle.std.specs.Prelude.{◌==◌}
use Rattle.std.proofs.lemmas.Bool.{cases_Bool}
use Rattle.std.proofs.lemmas.Bool.Decides.{nat_tests}
use Rattle.std.proofs.lemmas.Grind.{common_steps}
use Rattle.slab.specs.Slab.{Updates}
use Rattle.tip_table.specs.Entries.{AreApart, AreThere, Placed, items_in, placed_at, placed_before}
use Rattle.tip_table.specs.Kept.{of}
use Rattle.tip_table.proofs.SlotLemmas.{placed-apart, there-apart}
use Rattle.tip_table.proofs.table.part.Goals as goal

pub remove-entry-requires : goal.remove-entry-requires
remove-entry-requires g c = let there : AreThere c.loop-key.slots (c.in-Some.key ∷ c.next.new.self.rest.items) = subst (AreThere c.loop-key.slots) c.in-Some.ensures.steps.0 c.loop-key.invariant.there in there.0

pub add-requires : goal.add-requires
add-requires g c =
    let slots = c.loop-key.slots in
    let new = c.remove-entry.new.self in
    let key = c.in-Some.key in
    let entry = c.remove-entry.result in
    let after = c.next.new.self.rest.items in
    let was = c.loop-key.invariant in
    let comes : c.loop-key.key-iterator.rest.items ≡ key ∷ after = c.in-Some.ensures.steps.0 in
    let there : AreThere slots (key ∷ after) = subst (AreThere slots) comes was.there in
    let apart : AreApart (key ∷ after) = subst AreApart comes was.apart in
    let updates : Updates slots new key None = c.remove-entry.ensures.updates in
    let before : List (Placed g.row.T.Denot) = placed_at slots c.loop-key.key-iterator.rest.items in
    let rest : List (Placed g.row.T.Denot) = placed_at new after in
    let cons : before ≡ record { place = key; realm = entry.realm; item = entry.item } ∷ rest =
    ap (placed_at slots) comes ∙ ap (λ o. placed_before key o (placed_at slots after)) c.remove-entry.ensures.value ∙
    ap (λ es. record { place = key; realm = entry.realm; item = entry.item } ∷ es) (sym (placed-apart slots new key None updates after apart.0)) in
    let length_is : length before ≡ suc (length rest) = ap length cons in
    let room = was.room in
    omega (arith, room, length_is)

pub loop-key-preserved-then-entry-realm : goal.loop-key-preserved-then-entry-realm
loop-key-preserved-then-entry-realm g c =
    let slots = c.loop-key.slots in
    let new = c.remove-entry.new.self in
    let key = c.in-Some.key in
    let entry = c.remove-entry.result in
    let after = c.next.new.self.rest.items in
    let was = c.loop-key.invariant in
    let comes : c.loop-key.key-iterator.rest.items ≡ key ∷ after = c.in-Some.ensures.steps.0 in
    let there : AreThere slots (key ∷ after) = subst (AreThere slots) comes was.there in
    let apart : AreApart (key ∷ after) = subst AreApart comes was.apart in
    let updates : Updates slots new key None = c.remove-entry.ensures.updates in
    let before : List (Placed g.row.T.Denot) = placed_at slots c.loop-key.key-iterator.rest.items in
    let rest : List (Placed g.row.T.Denot) = placed_at new after in
    let cons : before ≡ record { place = key; realm = entry.realm; item = entry.item } ∷ rest =
    ap (placed_at slots) comes ∙ ap (λ o. placed_before key o (placed_at slots after)) c.remove-entry.ensures.value ∙
    ap (λ es. record { place = key; realm = entry.realm; item = entry.item } ∷ es) (sym (placed-apart slots new key None updates after apart.0)) in
    let length_is : length before ≡ suc (length rest) = ap length cons in
    let differs : (entry.realm == c.args.realm) ≡ false = grind (arith, nat_tests) in
    let items : items_in before c.args.realm ≡ items_in rest c.args.realm = ap (λ es. items_in es c.args.realm) cons ∙ simp differs refl in
    let items_count : length (items_in before c.args.realm) ≡ length (items_in rest c.args.realm) = ap length items in
    let room = was.room in
    let space = was.space in
    let count = was.count in
    record {
      there = there-apart slots new key None updates after apart.0 there.1;
      apart = apart.1;
      left = ap (λ xs. c.loop-key.left.items ++ xs) (sym items) ∙ was.left;
      own = c.add.ensures.others c.args.realm (let differ : c.args.realm ≢ entry.realm = grind (arith, nat_tests, differs) in differ) ∙ was.own;
      others = λ other differ. elim (cases_Bool (entry.realm == other)) [
        | inl its ↦
            let is : entry.realm ≡ other = grind (arith, nat_tests, its) in
            let more : of c.add.new.self other ≡ of c.loop-key.spare other ++ entry.item ∷ [] = subst (λ n. of c.add.new.self n ≡ of c.loop-key.spare n ++ entry.item ∷ []) is c.add.ensures.added in
            let fewer : items_in before other ≡ entry.item ∷ items_in rest other = ap (λ es. items_in es other) cons ∙ simp its refl in
            ap (λ xs. xs ++ items_in rest other) more ∙ append_assoc (of c.loop-key.spare other) (entry.item ∷ []) (items_in rest other) ∙ ap (λ xs. of c.loop-key.spare other ++ xs) (sym fewer) ∙ was.others other differ
        | inr apart_it ↦
            let same : items_in before other ≡ items_in rest other = ap (λ es. items_in es other) cons ∙ simp apart_it refl in
            ap (λ xs. xs ++ items_in rest other) (c.add.ensures.others other (let different : other ≢ entry.realm = grind (arith, nat_tests, apart_it) in different)) ∙ ap (λ xs. of c.loop-key.spare other ++ xs) (sym same) ∙ was.others other differ
      ];
      room = omega (arith, room, length_is, c.add.ensures.free);
      space = omega (arith, space, items_count);
      count = omega (arith, count, length_is, items_count, c.add.ensures.free);
    }

pub push_reserved-requires : goal.push_reserved-requires
push_reserved-requires g c =
    let slots = c.loop-key.slots in
    let new = c.remove-entry.new.self in
    let key = c.in-Some.key in
    let entry = c.remove-entry.result in
    let after = c.next.new.self.rest.items in
    let was = c.loop-key.invariant in
    let comes : c.loop-key.key-iterator.rest.items ≡ key ∷ after = c.in-Some.ensures.steps.0 in
    let there : AreThere slots (key ∷ after) = subst (AreThere slots) comes was.there in
    let apart : AreApart (key ∷ after) = subst AreApart comes was.apart in
    let updates : Updates slots new key None = c.remove-entry.ensures.updates in
    let before : List (Placed g.row.T.Denot) = placed_at slots c.loop-key.key-iterator.rest.items in
    let rest : List (Placed g.row.T.Denot) = placed_at new after in
    let cons : before ≡ record { place = key; realm = entry.realm; item = entry.item } ∷ rest =
    ap (placed_at slots) comes ∙ ap (λ o. placed_before key o (placed_at slots after)) c.remove-entry.ensures.value ∙
    ap (λ es. record { place = key; realm = entry.realm; item = entry.item } ∷ es) (sym (placed-apart slots new key None updates after apart.0)) in
    let length_is : length before ≡ suc (length rest) = ap length cons in
    let same : (entry.realm == c.args.realm) ≡ true = grind (arith, nat_tests) in
    let items : items_in before c.args.realm ≡ entry.item ∷ items_in rest c.args.realm = ap (λ es. items_in es c.args.realm) cons ∙ simp same refl in
    let items_count : length (items_in before c.args.realm) ≡ suc (length (items_in rest c.args.realm)) = ap length items in
    let space = was.space in
    omega (arith, space, items_count)

pub loop-key-preserved : goal.loop-key-preserved
loop-key-preserved g c =
    let slots = c.loop-key.slots in
    let new = c.remove-entry.new.self in
    let key = c.in-Some.key in
    let entry = c.remove-entry.result in
    let after = c.next.new.self.rest.items in
    let was = c.loop-key.invariant in
    let comes : c.loop-key.key-iterator.rest.items ≡ key ∷ after = c.in-Some.ensures.steps.0 in
    let there : AreThere slots (key ∷ after) = subst (AreThere slots) comes was.there in
    let apart : AreApart (key ∷ after) = subst AreApart comes was.apart in
    let updates : Updates slots new key None = c.remove-entry.ensures.updates in
    let before : List (Placed g.row.T.Denot) = placed_at slots c.loop-key.key-iterator.rest.items in
    let rest : List (Placed g.row.T.Denot) = placed_at new after in
    let cons : before ≡ record { place = key; realm = entry.realm; item = entry.item } ∷ rest =
    ap (placed_at slots) comes ∙ ap (λ o. placed_before key o (placed_at slots after)) c.remove-entry.ensures.value ∙
    ap (λ es. record { place = key; realm = entry.realm; item = entry.item } ∷ es) (sym (placed-apart slots new key None updates after apart.0)) in
    let length_is : length before ≡ suc (length rest) = ap length cons in
    let same : (entry.realm == c.args.realm) ≡ true = grind (arith, nat_tests) in
    let items : items_in before c.args.realm ≡ entry.item ∷ items_in rest c.args.realm = ap (λ es. items_in es c.args.realm) cons ∙ simp same refl in
    let items_count : length (items_in before c.args.realm) ≡ suc (length (items_in rest c.args.realm)) = ap length items in
    let room = was.room in
    let count = was.count in
    record {
      there = there-apart slots new key None updates after apart.0 there.1;
      apart = apart.1;
      left = ap (λ xs. xs ++ items_in rest c.args.realm) c.push_reserved.ensures.items ∙ append_assoc c.loop-key.left.items (entry.item ∷ []) (items_in rest c.args.realm) ∙ ap (λ xs. c.loop-key.left.items ++ xs) (sym items) ∙ was.left;
      own = was.own;
      others = λ other differ.
          let apart_it : (entry.realm == other) ≡ false = grind (arith, nat_tests) in
          let same_items : items_in before other ≡ items_in rest other = ap (λ es. items_in es other) cons ∙ simp apart_it refl in
          ap (λ xs. of c.loop-key.spare other ++ xs) (sym same_items) ∙ was.others other differ;
      room = omega (arith, room, length_is);
      space = grind (arith, common_steps, items_count);
      count = omega (arith, count, length_is, items_count);
    }
