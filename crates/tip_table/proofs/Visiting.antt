-- A visit of the items at some keys, one after another.
use Rattle.std.proofs.Common.{◌≡◌, ◌⊎◌, ℕ, List, [], ◌∷◌, Option, Some, None, Bool, true, false, cond, refl, ap, arith, ◌∙◌, sym, subst, inl, inr}
use Rattle.std.specs.Prelude.{option_map, ◌==◌, ◌||◌, IsSome, map}
use Rattle.std.proofs.lemmas.Bool.{cases_Bool}
use Rattle.std.proofs.lemmas.Bool.Decides.{nat_tests}
use Rattle.slab.specs.Slab.{Slab, get, slab_len, with_value}
use Rattle.slab.proofs.SlabLemmas.{Updates-with_value}
use Rattle.tip_table.specs.declared.table.Entry.{Entry}
use Rattle.tip_table.specs.Entries.{AreApart, AreThere, Placed, changed_at, is_among, items_at, own_keys, placed_at, placed_before, realm_in, visited_at}
use Rattle.tip_table.proofs.EntryLemmas.{visited_entry}
use Rattle.tip_table.proofs.KeyLemmas.{differs, head_apart, tail_apart}
use Rattle.tip_table.proofs.OwnLemmas.{among-own, apart-own}
use Rattle.tip_table.proofs.SlotLemmas.{len-written}

turned : (k key : ℕ) → (k == key) ≡ false → (key == k) ≡ false
turned k key apart = grind (arith, nat_tests, apart)

module _ {T : Type 0} (left : T → T) where
  abbrev pub left_entry : Entry T → Entry T
  left_entry entry = record entry { item = left entry.item }

  pub get-changed : (slots : Slab (Entry T)) (key other : ℕ) → get (changed_at left slots key (get slots key)) other ≡ cond (key == other) (option_map left_entry (get slots other)) (get slots other)
  get-changed slots key other = step (get slots key) refl where
    step : (o : Option (Entry T)) → get slots key ≡ o → get (changed_at left slots key o) other ≡ cond (key == other) (option_map left_entry (get slots other)) (get slots other)
    step None none = elim (cases_Bool (key == other)) [
      | inl same ↦
          let here : key ≡ other = grind (arith, nat_tests, same) in
          let gone : get slots other ≡ None = ap (get slots) (sym here) ∙ none in
          simp same (gone ∙ sym (ap (option_map left_entry) gone))
      | inr apart ↦ simp apart refl
    ]
    step (Some e) is =
        let updates = Updates-with_value slots key (left_entry e) (rw is refl) in
        elim (cases_Bool (key == other)) [
          | inl same ↦
              let here : key ≡ other = grind (arith, nat_tests, same) in
              simp same (ap (get (with_value slots key (left_entry e))) (sym here) ∙ updates.changed ∙ sym (ap (λ n. option_map left_entry (get slots n)) (sym here) ∙ ap (option_map left_entry) is))
          | inr apart ↦ simp apart (updates.others other (differs other key (turned key other apart)))
        ]

  pub get-visited : (slots : Slab (Entry T)) (keys : List ℕ) (other : ℕ) → AreApart keys → get (visited_at left slots keys) other ≡ cond (is_among keys other) (option_map left_entry (get slots other)) (get slots other)
  get-visited slots [] other apart = refl
  get-visited slots (k ∷ ks) other apart =
      get-visited (changed_at left slots k (get slots k)) ks other apart.1 ∙ rw (get-changed slots k other) (step (cases_Bool (k == other))) where
        step : ((k == other) ≡ true) ⊎ ((k == other) ≡ false) → cond (is_among ks other) (option_map left_entry (cond (k == other) (option_map left_entry (get slots other)) (get slots other))) (cond (k == other) (option_map left_entry (get slots other)) (get slots other)) ≡ cond ((k == other) || is_among ks other) (option_map left_entry (get slots other)) (get slots other)
        step (inl same) =
            let here : other ≡ k = grind (arith, nat_tests, same) in
            let none : is_among ks other ≡ false = subst (λ n. is_among ks n ≡ false) (sym here) apart.0 in
            simp (same, none) refl
        step (inr other) = simp other refl

  -- the items still to come are as they were
  pub items-changed : (slots : Slab (Entry T)) (key : ℕ) (keys : List ℕ) → is_among keys key ≡ false → items_at (changed_at left slots key (get slots key)) keys ≡ items_at slots keys
  items-changed slots key [] none = refl
  items-changed slots key (k ∷ ks) none =
      rw (get-changed slots key k, turned k key (head_apart k key ks none), items-changed slots key ks (tail_apart k key ks none)) refl

  more : (a b : Bool) → b ≡ true → (a || b) ≡ true
  more true b is = refl
  more false b is = is

  pub placed-visited : (slots : Slab (Entry T)) (keys : List ℕ) (realm : ℕ) → AreApart keys → (some : List ℕ) → ((key : ℕ) → is_among some key ≡ true → is_among keys key ≡ true) → placed_at (visited_at left slots (own_keys slots keys realm)) some ≡ map (visited_entry left realm) (placed_at slots some)
  placed-visited slots keys realm apart [] within = refl
  placed-visited slots keys realm apart (k ∷ ks) within =
      let own : (k == k) ≡ true = grind (arith, nat_tests) in
      let among : is_among keys k ≡ true = within k (simp own refl) in
      let now : get (visited_at left slots (own_keys slots keys realm)) k ≡ cond (realm_in (get slots k) == realm) (option_map left_entry (get slots k)) (get slots k) =
      get-visited slots (own_keys slots keys realm) k (apart-own slots keys realm apart) ∙ rw (among-own slots keys realm k, among) refl in
      rw (now, placed-visited slots keys realm apart ks (λ key is. within key (more (k == key) (is_among ks key) is))) (step (get slots k) (placed_at slots ks)) where
        step : (o : Option (Entry T)) (others : List (Placed T)) → placed_before k (cond (realm_in o == realm) (option_map left_entry o) o) (map (visited_entry left realm) others) ≡ map (visited_entry left realm) (placed_before k o others)
        step None others = elim (cases_Bool (0 == realm)) [
          | inl own ↦ simp own refl
          | inr other ↦ simp other refl
        ]
        step (Some e) others = elim (cases_Bool (e.realm == realm)) [
          | inl own ↦ simp own refl
          | inr other ↦ simp other refl
        ]

  pub there-visited : (slots : Slab (Entry T)) (own keys : List ℕ) → AreApart own → AreThere slots keys → AreThere (visited_at left slots own) keys
  there-visited slots own [] apart there = tt
  there-visited slots own (k ∷ ks) apart there =
      (rw (get-visited slots own k apart) (step (is_among own k) (get slots k) there.0), there-visited slots own ks apart there.1) where
        step : (b : Bool) (o : Option (Entry T)) → IsSome o → IsSome (cond b (option_map left_entry o) o)
        step b None some = absurd (cc)
        step true (Some e) some = refl
        step false (Some e) some = refl

  pub len-visited : (slots : Slab (Entry T)) (keys : List ℕ) → slab_len (visited_at left slots keys) ≡ slab_len slots
  len-visited slots [] = refl
  len-visited slots (k ∷ ks) = len-visited (changed_at left slots k (get slots k)) ks ∙ step (get slots k) refl where
    step : (o : Option (Entry T)) → get slots k ≡ o → slab_len (changed_at left slots k o) ≡ slab_len slots
    step None is = refl
    step (Some e) is = len-written slots k (record e { item = left e.item }) (rw is refl)

  pub capacity-visited : (slots : Slab (Entry T)) (keys : List ℕ) → (visited_at left slots keys).capacity ≡ slots.capacity
  capacity-visited slots [] = refl
  capacity-visited slots (k ∷ ks) = capacity-visited (changed_at left slots k (get slots k)) ks ∙ step (get slots k) where
    step : (o : Option (Entry T)) → (changed_at left slots k o).capacity ≡ slots.capacity
    step None = refl
    step (Some e) = refl

  -- ONE STEP: what a visit of those that are left makes is what it made with this one before them
  pub visited-on : (slots new : Slab (Entry T)) (key : ℕ) (keys : List ℕ) → new ≡ changed_at left slots key (get slots key) → visited_at left new keys ≡ visited_at left slots (key ∷ keys)
  visited-on slots new key keys is = ap (λ s. visited_at left s keys) is

  pub left-on : (slots new : Slab (Entry T)) (key : ℕ) (keys : List ℕ) → new ≡ changed_at left slots key (get slots key) → is_among keys key ≡ false → items_at new keys ≡ items_at slots keys
  left-on slots new key keys is none = ap (λ s. items_at s keys) is ∙ items-changed slots key keys none
