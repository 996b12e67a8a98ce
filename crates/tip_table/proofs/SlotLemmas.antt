-- Entries in slots, by a list of keys: what a change of the slots or of the keys does to them.
use Rattle.std.proofs.Common.{◌≡◌, ◌<◌, ℕ, zero, suc, List, [], ◌∷◌, length, get_or, Option, Some, None, true, false, refl, ap, arith, ◌∙◌, sym, subst, inl, inr}
use Rattle.std.specs.Prelude.{◌+◌, option_map, ◌==◌, IsSome, insert, is_some, remove, cond}
use Rattle.std.proofs.lemmas.Bool.{cases_Bool}
use Rattle.std.proofs.lemmas.Bool.Decides.{nat_tests}
use Rattle.std.proofs.lemmas.List.Sums.{sum_by-set}
use Rattle.slab.specs.Slab.{Slab, Updates, get, slab_len, with_value}
use Rattle.slab.proofs.SlabLemmas.{ContainsKey-within}
use Rattle.tip_table.specs.declared.table.Entry.{Entry}
use Rattle.tip_table.specs.Entries.{AreApart, AreThere, Item, Placed, behind, is_among, placed_at, placed_before, standing_in, written_in}
use Rattle.tip_table.proofs.EntryLemmas.{item_in, taken_in}
use Rattle.tip_table.proofs.KeyLemmas.{differs, head_apart, later_apart, tail_apart}

before_it : (realm : ℕ) (o : Option Item) → IsSome (option_map (behind realm) o) → IsSome o
before_it realm None some = some
before_it realm (Some item) some = refl

module _ {T : Type 0} where
  -- a key without an entry is none of them
  pub fresh : (slots : Slab (Entry T)) (keys : List ℕ) (key : ℕ) → AreThere slots keys → get slots key ≡ None → is_among keys key ≡ false
  fresh slots [] key there none = refl
  fresh slots (k ∷ ks) key there none = elim (cases_Bool (k == key)) [
    | inl same ↦ absurd (let is : k ≡ key = grind (arith, nat_tests, same) in let some : IsSome (get slots key) = subst (λ n. IsSome (get slots n)) is there.0 in cc)
    | inr apart ↦ simp apart (fresh slots ks key there.1 none)
  ]

  -- another slot's change is none of theirs
  pub placed-apart : (old new : Slab (Entry T)) (key : ℕ) (slot : Option (Entry T)) → Updates old new key slot → (keys : List ℕ) → is_among keys key ≡ false → placed_at new keys ≡ placed_at old keys
  placed-apart old new key slot updates [] none = refl
  placed-apart old new key slot updates (k ∷ ks) none =
      rw (updates.others k (differs k key (head_apart k key ks none)), placed-apart old new key slot updates ks (tail_apart k key ks none)) refl

  pub there-apart : (old new : Slab (Entry T)) (key : ℕ) (slot : Option (Entry T)) → Updates old new key slot → (keys : List ℕ) → is_among keys key ≡ false → AreThere old keys → AreThere new keys
  there-apart old new key slot updates [] none there = tt
  there-apart old new key slot updates (k ∷ ks) none there =
      (rw (updates.others k (differs k key (head_apart k key ks none))) there.0, there-apart old new key slot updates ks (tail_apart k key ks none) there.1)

  -- WHAT STANDS AT A PLACE has a slot

  pub item-get : (slots : Slab (Entry T)) (keys : List ℕ) (key : ℕ) → IsSome (standing_in (placed_at slots keys) key) → item_in (placed_at slots keys) key ≡ option_map (λ entry. entry.item) (get slots key)
  item-get slots [] key some = absurd (cc)
  item-get slots (k ∷ ks) key some = step (get slots k) refl (item-get slots ks key) some where
    step : (o : Option (Entry T)) → get slots k ≡ o → (IsSome (standing_in (placed_at slots ks) key) → item_in (placed_at slots ks) key ≡ option_map (λ entry. entry.item) (get slots key)) → IsSome (standing_in (placed_before k o (placed_at slots ks)) key) → item_in (placed_before k o (placed_at slots ks)) key ≡ option_map (λ entry. entry.item) (get slots key)
    step None none rest some = rest some
    step (Some entry) is rest some = elim (cases_Bool (k == key)) [
      | inl same ↦ simp same (let here : k ≡ key = grind (arith, nat_tests, same) in sym (ap (λ n. option_map (λ (e : Entry T). e.item) (get slots n)) (sym here) ∙ ap (option_map (λ (e : Entry T). e.item)) is))
      | inr apart ↦ simp apart (rest (before_it entry.realm (standing_in (placed_at slots ks) key) (simp apart at some)))
    ]

  pub get-standing : (slots : Slab (Entry T)) (keys : List ℕ) (key : ℕ) → IsSome (standing_in (placed_at slots keys) key) → IsSome (get slots key)
  get-standing slots [] key some = absurd (cc)
  get-standing slots (k ∷ ks) key some = step (get slots k) refl (get-standing slots ks key) some where
    step : (o : Option (Entry T)) → get slots k ≡ o → (IsSome (standing_in (placed_at slots ks) key) → IsSome (get slots key)) → IsSome (standing_in (placed_before k o (placed_at slots ks)) key) → IsSome (get slots key)
    step None none rest some = rest some
    step (Some entry) is rest some = elim (cases_Bool (k == key)) [
      | inl same ↦ (let here : k ≡ key = grind (arith, nat_tests, same) in subst (λ n. IsSome (get slots n)) here (rw is refl))
      | inr apart ↦ rest (before_it entry.realm (standing_in (placed_at slots ks) key) (simp apart at some))
    ]

  pub among-standing : (slots : Slab (Entry T)) (keys : List ℕ) (key : ℕ) → IsSome (standing_in (placed_at slots keys) key) → is_among keys key ≡ true
  among-standing slots [] key some = absurd (cc)
  among-standing slots (k ∷ ks) key some = elim (cases_Bool (k == key)) [
    | inl same ↦ simp same refl
    | inr apart ↦ simp apart (step apart (get slots k) (among-standing slots ks key) some)
  ] where
    step : (k == key) ≡ false → (o : Option (Entry T)) → (IsSome (standing_in (placed_at slots ks) key) → is_among ks key ≡ true) → IsSome (standing_in (placed_before k o (placed_at slots ks)) key) → is_among ks key ≡ true
    step apart None rest some = rest some
    step apart (Some entry) rest some = rest (before_it entry.realm (standing_in (placed_at slots ks) key) (simp apart at some))

  pub length-placed : (slots : Slab (Entry T)) (keys : List ℕ) → AreThere slots keys → length (placed_at slots keys) ≡ length keys
  length-placed slots [] there = refl
  length-placed slots (k ∷ ks) there = step (get slots k) there.0 (length-placed slots ks there.1) where
    step : (o : Option (Entry T)) → IsSome o → length (placed_at slots ks) ≡ length ks → length (placed_before k o (placed_at slots ks)) ≡ suc (length ks)
    step None some rest = absurd (cc)
    step (Some entry) some rest = ap suc rest

  -- AN ENTRY WRITTEN

  pub placed-written : (old new : Slab (Entry T)) (key : ℕ) (entry : Entry T) (value : T) → get old key ≡ Some entry → Updates old new key (Some (record entry { item = value })) → (keys : List ℕ) → AreApart keys → placed_at new keys ≡ written_in (placed_at old keys) key value
  placed-written old new key entry value is updates [] apart = refl
  placed-written old new key entry value is updates (k ∷ ks) apart = elim (cases_Bool (k == key)) [
    | inl same ↦
        let here : k ≡ key = grind (arith, nat_tests, same) in
        let rest : placed_at new ks ≡ placed_at old ks = placed-apart old new key (Some (record entry { item = value })) updates ks (subst (λ n. is_among ks n ≡ false) here apart.0) in
        let was : get old k ≡ Some entry = ap (get old) here ∙ is in
        let now : get new k ≡ Some (record entry { item = value }) = ap (get new) here ∙ updates.changed in
        rw (was, now, rest, same) refl
    | inr other ↦ rw (updates.others k (differs k key other), placed-written old new key entry value is updates ks apart.1) (step other (get old k) (placed_at old ks))
  ] where
    step : (k == key) ≡ false → (o : Option (Entry T)) (others : List (Placed T)) → placed_before k o (written_in others key value) ≡ written_in (placed_before k o others) key value
    step other None others = refl
    step other (Some e) others = simp other refl

  -- a write takes and makes no room
  pub len-written : (slots : Slab (Entry T)) (key : ℕ) (entry : Entry T) → IsSome (get slots key) → slab_len (with_value slots key entry) ≡ slab_len slots
  len-written slots key entry some =
      let within = ContainsKey-within slots key some in
      let sums = sum_by-set (λ x. cond (is_some x) 1 0) slots.slots key (Some entry) None within in
      let was : is_some (get_or slots.slots key None) ≡ true = some_is (get slots key) some in
      (let cancel : slab_len (with_value slots key entry) + 1 ≡ slab_len slots + 1 = simp was at sums in omega (arith, cancel)) where
        some_is : (o : Option (Entry T)) → IsSome o → is_some o ≡ true
        some_is None some = absurd (cc)
        some_is (Some e) some = refl

  -- ONE MORE

  pub there-insert : (slots : Slab (Entry T)) (keys : List ℕ) (n key : ℕ) → AreThere slots keys → IsSome (get slots key) → AreThere slots (insert keys n key)
  there-insert slots [] zero key there some = (some, tt)
  there-insert slots [] (suc n) key there some = (some, tt)
  there-insert slots (k ∷ ks) zero key there some = (some, there)
  there-insert slots (k ∷ ks) (suc n) key there some = (there.0, there-insert slots ks n key there.1 some)

  pub placed-insert : (slots : Slab (Entry T)) (keys : List ℕ) (n key : ℕ) (entry : Entry T) → AreThere slots keys → get slots key ≡ Some entry → placed_at slots (insert keys n key) ≡ insert (placed_at slots keys) n (record { place = key; realm = entry.realm; item = entry.item })
  placed-insert slots [] zero key entry there is = rw is refl
  placed-insert slots [] (suc n) key entry there is = rw is refl
  placed-insert slots (k ∷ ks) zero key entry there is = rw is refl
  placed-insert slots (k ∷ ks) (suc n) key entry there is = rw (placed-insert slots ks n key entry there.1 is) (step (get slots k) there.0 (placed_at slots ks)) where
    step : (o : Option (Entry T)) → IsSome o → (others : List (Placed T)) → placed_before k o (insert others n (record { place = key; realm = entry.realm; item = entry.item })) ≡ insert (placed_before k o others) (suc n) (record { place = key; realm = entry.realm; item = entry.item })
    step None some others = absurd (cc)
    step (Some e) some others = refl

  -- ONE LESS

  pub placed-removed : (old new : Slab (Entry T)) (keys : List ℕ) (i d : ℕ) → AreThere old keys → AreApart keys → i < length keys → Updates old new (get_or keys i d) None → placed_at new (remove keys i) ≡ taken_in (placed_at old keys) (get_or keys i d)
  placed-removed old new [] i d there apart within updates = absurd (omega arith)
  placed-removed old new (k ∷ ks) zero d there apart within updates =
      let own : (k == k) ≡ true = grind (arith, nat_tests) in
      rw (placed-apart old new k None updates ks apart.0) (step (get old k) there.0 own) where
        step : (o : Option (Entry T)) → IsSome o → (k == k) ≡ true → placed_at old ks ≡ taken_in (placed_before k o (placed_at old ks)) k
        step None some own = absurd (cc)
        step (Some e) some own = simp own refl
  placed-removed old new (k ∷ ks) (suc i) d there apart within updates =
      let other : (k == get_or ks i d) ≡ false = later_apart k ks i d apart.0 (omega arith) in
      rw (updates.others k (differs k (get_or ks i d) other), placed-removed old new ks i d there.1 apart.1 (omega arith) updates) (step (get old k) other (placed_at old ks)) where
        step : (o : Option (Entry T)) → (k == get_or ks i d) ≡ false → (others : List (Placed T)) → placed_before k o (taken_in others (get_or ks i d)) ≡ taken_in (placed_before k o others) (get_or ks i d)
        step None other others = refl
        step (Some e) other others = simp other refl

  pub there-removed : (old new : Slab (Entry T)) (keys : List ℕ) (i d : ℕ) → AreThere old keys → AreApart keys → i < length keys → Updates old new (get_or keys i d) None → AreThere new (remove keys i)
  there-removed old new [] i d there apart within updates = absurd (omega arith)
  there-removed old new (k ∷ ks) zero d there apart within updates = there-apart old new k None updates ks apart.0 there.1
  there-removed old new (k ∷ ks) (suc i) d there apart within updates =
      let other : (k == get_or ks i d) ≡ false = later_apart k ks i d apart.0 (omega arith) in
      (rw (updates.others k (differs k (get_or ks i d) other)) there.0, there-removed old new ks i d there.1 apart.1 (omega arith) updates)
