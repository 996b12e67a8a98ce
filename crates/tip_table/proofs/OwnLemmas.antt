-- The keys of one realm's entries: where they stand, and the items at them.
use Rattle.std.proofs.Common.{◌≡◌, ◌≤◌, ◌<◌, ◌-◌, ℕ, zero, suc, List, [], ◌∷◌, length, get_or, take, drop, Option, Some, None, Bool, true, false, cond, refl, ap, arith, ◌∙◌, sym, subst, inl, inr}
use Rattle.std.specs.Prelude.{◌+◌, option_map, ◌==◌, ◌&&◌, IsSome, count_by, filter, nat_lt, slice_get, slice_range}
use Rattle.std.specs.List.{find, position_from}
use Rattle.std.proofs.lemmas.Bool.{cases_Bool}
use Rattle.std.proofs.lemmas.Bool.Decides.{nat_tests}
use Rattle.std.proofs.lemmas.List.Recursion.{is_count_by}
use Rattle.slab.specs.Slab.{Slab, get}
use Rattle.tip_table.specs.declared.table.Entry.{Entry}
use Rattle.tip_table.specs.Entries.{AreApart, AreByRealm, AreFrom, AreThere, Placed, behind, count_below, is_among, item_before, items_at, items_in, own_keys, passes_in, placed_at, placed_before, realm_in, standing_in}
use Rattle.tip_table.specs.Lists.{IsFirst}
use Rattle.tip_table.proofs.EntryLemmas.{from_more, none_below}

module _ {T : Type 0} where
  pub count_below-within : (bound : ℕ) (entries : List (Placed T)) → count_below bound entries ≤ length entries
  count_below-within bound [] = omega arith
  count_below-within bound (x ∷ xs) = let rest = count_below-within bound xs in elim (cases_Bool (nat_lt x.realm bound)) [
    | inl below ↦ simp below (omega arith)
    | inr above ↦ simp above (omega arith)
  ]

  pub counts_rise : (realm : ℕ) (entries : List (Placed T)) → count_below realm entries ≤ count_below (realm + 1) entries
  counts_rise realm [] = omega arith
  counts_rise realm (x ∷ xs) = let rest = counts_rise realm xs in elim (cases_Bool (nat_lt x.realm realm)) [
    | inl below ↦ let next : nat_lt x.realm (realm + 1) ≡ true = grind (arith, nat_tests, below) in simp (below, next) (omega arith)
    | inr above ↦ elim (cases_Bool (nat_lt x.realm (realm + 1))) [
      | inl next ↦ simp (above, next) (omega arith)
      | inr later ↦ simp (above, later) rest
    ]
  ]

  module _ (slots : Slab (Entry T)) where
    -- those at the front are of realms below a bound, and no others
    pub splits : (keys : List ℕ) (bound i d : ℕ) → AreThere slots keys → AreByRealm (placed_at slots keys) → i < length keys → nat_lt (realm_in (get slots (get_or keys i d))) bound ≡ nat_lt i (count_below bound (placed_at slots keys))
    splits [] bound i d there by_realm within = absurd (omega arith)
    splits (k ∷ ks) bound zero d there by_realm within = step (get slots k) there.0 by_realm where
      step : (o : Option (Entry T)) → IsSome o → AreByRealm (placed_before k o (placed_at slots ks)) → nat_lt (realm_in o) bound ≡ nat_lt 0 (count_below bound (placed_before k o (placed_at slots ks)))
      step None some by_realm = absurd (cc)
      step (Some e) some by_realm = elim (cases_Bool (nat_lt e.realm bound)) [
        | inl below ↦ simp below (grind (arith, nat_tests))
        | inr above ↦
            let none : count_below bound (placed_at slots ks) ≡ 0 = none_below bound (placed_at slots ks) e.realm by_realm.0 (grind (arith, nat_tests, above)) in
            simp (above, none) (grind (arith, nat_tests))
      ]
    splits (k ∷ ks) bound (suc i) d there by_realm within = step (get slots k) there.0 by_realm (λ later. splits ks bound i d there.1 later (omega arith)) where
      step : (o : Option (Entry T)) → IsSome o → AreByRealm (placed_before k o (placed_at slots ks)) → (AreByRealm (placed_at slots ks) → nat_lt (realm_in (get slots (get_or ks i d))) bound ≡ nat_lt i (count_below bound (placed_at slots ks))) → nat_lt (realm_in (get slots (get_or ks i d))) bound ≡ nat_lt (suc i) (count_below bound (placed_before k o (placed_at slots ks)))
      step None some by_realm rest = absurd (cc)
      step (Some e) some by_realm rest = elim (cases_Bool (nat_lt e.realm bound)) [
        | inl below ↦ rest by_realm.1 ∙ simp below (grind (arith, nat_tests))
        | inr above ↦
            let none : count_below bound (placed_at slots ks) ≡ 0 = none_below bound (placed_at slots ks) e.realm by_realm.0 (grind (arith, nat_tests, above)) in
            rest by_realm.1 ∙ simp (above, none) (grind (arith, nat_tests))
      ]

    pub items-own : (keys : List ℕ) (realm : ℕ) → items_at slots (own_keys slots keys realm) ≡ items_in (placed_at slots keys) realm
    items-own [] realm = refl
    items-own (k ∷ ks) realm = step (get slots k) refl (items-own ks realm) where
      step : (o : Option (Entry T)) → get slots k ≡ o → items_at slots (own_keys slots ks realm) ≡ items_in (placed_at slots ks) realm → items_at slots (cond (realm_in o == realm) (k ∷ own_keys slots ks realm) (own_keys slots ks realm)) ≡ items_in (placed_before k o (placed_at slots ks)) realm
      step None is rest = elim (cases_Bool (0 == realm)) [
        | inl own ↦ simp own (ap (λ o. item_before o (items_at slots (own_keys slots ks realm))) is ∙ rest)
        | inr other ↦ simp other rest
      ]
      step (Some e) is rest = elim (cases_Bool (e.realm == realm)) [
        | inl own ↦ simp own (ap (λ o. item_before o (items_at slots (own_keys slots ks realm))) is ∙ ap (λ ys. e.item ∷ ys) rest)
        | inr other ↦ simp other rest
      ]

    pub there-own : (keys : List ℕ) (realm : ℕ) → AreThere slots keys → AreThere slots (own_keys slots keys realm)
    there-own [] realm there = tt
    there-own (k ∷ ks) realm there = elim (cases_Bool (realm_in (get slots k) == realm)) [
      | inl own ↦ simp own (there.0, there-own ks realm there.1)
      | inr other ↦ simp other (there-own ks realm there.1)
    ]

    pub among-own : (keys : List ℕ) (realm key : ℕ) → is_among (own_keys slots keys realm) key ≡ (is_among keys key && (realm_in (get slots key) == realm))
    among-own [] realm key = refl
    among-own (k ∷ ks) realm key = elim (cases_Bool (k == key)) [
      | inl same ↦
          let here : get slots k ≡ get slots key = (let is : k ≡ key = grind (arith, nat_tests, same) in ap (get slots) is) in
          elim (cases_Bool (realm_in (get slots key) == realm)) [
            | inl own ↦ rw here (simp (own, same) refl)
            | inr other ↦ rw here (simp (other, same) (among-own ks realm key ∙ simp other (never (is_among ks key))))
          ]
      | inr apart ↦ elim (cases_Bool (realm_in (get slots k) == realm)) [
        | inl own ↦ simp (own, apart) (among-own ks realm key)
        | inr other ↦ simp (other, apart) (among-own ks realm key)
      ]
    ] where
      never : (b : Bool) → (b && false) ≡ false
      never true = refl
      never false = refl

    pub apart-own : (keys : List ℕ) (realm : ℕ) → AreApart keys → AreApart (own_keys slots keys realm)
    apart-own [] realm apart = tt
    apart-own (k ∷ ks) realm apart = elim (cases_Bool (realm_in (get slots k) == realm)) [
      | inl own ↦ simp own (rw (among-own ks realm k, apart.0) refl, apart-own ks realm apart.1)
      | inr other ↦ simp other (apart-own ks realm apart.1)
    ]

    pub length-items : (keys : List ℕ) → AreThere slots keys → length (items_at slots keys) ≡ length keys
    length-items [] there = refl
    length-items (k ∷ ks) there = step (get slots k) there.0 (length-items ks there.1) where
      step : (o : Option (Entry T)) → IsSome o → length (items_at slots ks) ≡ length ks → length (item_before o (items_at slots ks)) ≡ suc (length ks)
      step None some rest = absurd (cc)
      step (Some e) some rest = ap suc rest

    -- they are at the front of those that are of no realm below
    pub none_own : (keys : List ℕ) (realm later : ℕ) → AreThere slots keys → AreFrom later (placed_at slots keys) → suc realm ≤ later → own_keys slots keys realm ≡ []
    none_own [] realm later there from_it below = refl
    none_own (k ∷ ks) realm later there from_it below = step (get slots k) there.0 from_it (λ rest. none_own ks realm later there.1 rest below) where
      step : (o : Option (Entry T)) → IsSome o → AreFrom later (placed_before k o (placed_at slots ks)) → (AreFrom later (placed_at slots ks) → own_keys slots ks realm ≡ []) → cond (realm_in o == realm) (k ∷ own_keys slots ks realm) (own_keys slots ks realm) ≡ []
      step None some from_it rest = absurd (cc)
      step (Some e) some from_it rest =
          let other : (e.realm == realm) ≡ false = grind (arith, nat_tests, from_it.0) in
          simp other (rest from_it.1)

    own_first : (keys : List ℕ) (realm : ℕ) → AreThere slots keys → AreByRealm (placed_at slots keys) → AreFrom realm (placed_at slots keys) → take (count_below (realm + 1) (placed_at slots keys)) keys ≡ own_keys slots keys realm
    own_first [] realm there by_realm from_it = refl
    own_first (k ∷ ks) realm there by_realm from_it = step (get slots k) there.0 by_realm from_it (own_first ks realm there.1) (λ later from_later less. none_own ks realm later there.1 from_later less) where
      step : (o : Option (Entry T)) → IsSome o → AreByRealm (placed_before k o (placed_at slots ks)) → AreFrom realm (placed_before k o (placed_at slots ks)) →
          (AreByRealm (placed_at slots ks) → AreFrom realm (placed_at slots ks) → take (count_below (realm + 1) (placed_at slots ks)) ks ≡ own_keys slots ks realm) →
          ((later : ℕ) → AreFrom later (placed_at slots ks) → suc realm ≤ later → own_keys slots ks realm ≡ []) →
          take (count_below (realm + 1) (placed_before k o (placed_at slots ks))) (k ∷ ks) ≡ cond (realm_in o == realm) (k ∷ own_keys slots ks realm) (own_keys slots ks realm)
      step None some by_realm from_it rest none_of = absurd (cc)
      step (Some e) some by_realm from_it rest none_of = elim (cases_Bool (e.realm == realm)) [
        | inl own ↦
            let next : nat_lt e.realm (realm + 1) ≡ true = grind (arith, nat_tests, own) in
            simp (own, next) (ap (λ ys. k ∷ ys) (rest by_realm.1 from_it.1))
        | inr other ↦
            let later : suc realm ≤ e.realm = grind (arith, nat_tests, other, from_it.0) in
            let above : nat_lt e.realm (realm + 1) ≡ false = grind (arith, nat_tests, later) in
            let none : count_below (realm + 1) (placed_at slots ks) ≡ 0 = none_below (realm + 1) (placed_at slots ks) e.realm by_realm.0 (omega arith) in
            simp (other, above, none) (sym (none_of e.realm by_realm.0 later))
      ]

    pub own-range : (keys : List ℕ) (realm : ℕ) → AreThere slots keys → AreByRealm (placed_at slots keys) → slice_range keys (count_below realm (placed_at slots keys)) (count_below (realm + 1) (placed_at slots keys)) ≡ own_keys slots keys realm
    own-range [] realm there by_realm = refl
    own-range (k ∷ ks) realm there by_realm = step (get slots k) refl there.0 by_realm (own-range ks realm there.1) (λ from_it. own_first (k ∷ ks) realm there by_realm from_it) where
      step : (o : Option (Entry T)) → get slots k ≡ o → IsSome o → AreByRealm (placed_before k o (placed_at slots ks)) →
          (AreByRealm (placed_at slots ks) → slice_range ks (count_below realm (placed_at slots ks)) (count_below (realm + 1) (placed_at slots ks)) ≡ own_keys slots ks realm) →
          (AreFrom realm (placed_before k (get slots k) (placed_at slots ks)) → take (count_below (realm + 1) (placed_before k (get slots k) (placed_at slots ks))) (k ∷ ks) ≡ cond (realm_in (get slots k) == realm) (k ∷ own_keys slots ks realm) (own_keys slots ks realm)) →
          slice_range (k ∷ ks) (count_below realm (placed_before k o (placed_at slots ks))) (count_below (realm + 1) (placed_before k o (placed_at slots ks))) ≡ cond (realm_in o == realm) (k ∷ own_keys slots ks realm) (own_keys slots ks realm)
      step None is some by_realm rest first = absurd (cc)
      step (Some e) is some by_realm rest first = elim (cases_Bool (nat_lt e.realm realm)) [
        | inl earlier ↦
            let other : (e.realm == realm) ≡ false = grind (arith, nat_tests, earlier) in
            let next : nat_lt e.realm (realm + 1) ≡ true = grind (arith, nat_tests, earlier) in
            let low = count_below realm (placed_at slots ks) in
            let high = count_below (realm + 1) (placed_at slots ks) in
            let same : suc high - suc low ≡ high - low = omega arith in
            simp (earlier, other, next) (ap (λ n. take n (drop low ks)) same ∙ rest by_realm.1)
        | inr not_earlier ↦
            let start : realm ≤ e.realm = grind (arith, nat_tests, not_earlier) in
            let none : count_below realm (placed_at slots ks) ≡ 0 = none_below realm (placed_at slots ks) e.realm by_realm.0 start in
            let all = first (rw is (start, from_more (placed_at slots ks) realm e.realm by_realm.0 start)) in
            let none_below_it : count_below realm (placed_before k (Some e) (placed_at slots ks)) ≡ 0 = simp (not_earlier, none) refl in
            let high = count_below (realm + 1) (placed_before k (Some e) (placed_at slots ks)) in
            let whole : high - 0 ≡ high = omega arith in
            rw none_below_it (ap (λ n. take n (k ∷ ks)) whole ∙ rw is at all)
      ]

    -- each stands where it stands among them
    pub standing-own : (keys : List ℕ) (realm i key : ℕ) → AreThere slots keys → AreApart keys → slice_get (own_keys slots keys realm) i ≡ Some key → (standing_in (placed_at slots keys) key ≡ Some (record { realm = realm; at = i })) × (is_among keys key ≡ true)
    standing-own [] realm i key there apart is = absurd (cc)
    standing-own (k ∷ ks) realm i key there apart is = step (get slots k) there.0 i is (λ j later. standing-own ks realm j key there.1 apart.1 later) where
      apart_from : is_among ks key ≡ true → (k == key) ≡ false
      apart_from among = elim (cases_Bool (k == key)) [
        | inl same ↦ absurd (let here : key ≡ k = grind (arith, nat_tests, same) in let wrong : is_among ks k ≡ true = subst (λ n. is_among ks n ≡ true) here among in let none = apart.0 in cc)
        | inr other ↦ other
      ]

      step : (o : Option (Entry T)) → IsSome o → (i : ℕ) → slice_get (cond (realm_in o == realm) (k ∷ own_keys slots ks realm) (own_keys slots ks realm)) i ≡ Some key →
          ((j : ℕ) → slice_get (own_keys slots ks realm) j ≡ Some key → (standing_in (placed_at slots ks) key ≡ Some (record { realm = realm; at = j })) × (is_among ks key ≡ true)) →
          (standing_in (placed_before k o (placed_at slots ks)) key ≡ Some (record { realm = realm; at = i })) × (is_among (k ∷ ks) key ≡ true)
      step None some i is rest = absurd (cc)
      step (Some e) some zero is rest = elim (cases_Bool (e.realm == realm)) [
        | inl same ↦
            let first : Some k ≡ Some key = simp same at is in
            let here : (k == key) ≡ true = grind (arith, nat_tests, first) in
            let its : e.realm ≡ realm = grind (arith, nat_tests, same) in
            (simp here (ap (λ r. Some (record { realm = r; at = 0 })) its), simp here refl)
        | inr other ↦
            let there_it = rest 0 (simp other at is) in
            let apart_it = apart_from there_it.1 in
            let turned : (realm == e.realm) ≡ false = grind (arith, nat_tests, other) in
            (simp apart_it (ap (option_map (behind e.realm)) there_it.0 ∙ simp turned refl), simp apart_it there_it.1)
      ]
      step (Some e) some (suc i) is rest = elim (cases_Bool (e.realm == realm)) [
        | inl same ↦
            let there_it = rest i (simp same at is) in
            let apart_it = apart_from there_it.1 in
            let turned : (realm == e.realm) ≡ true = grind (arith, nat_tests, same) in
            (simp apart_it (ap (option_map (behind e.realm)) there_it.0 ∙ simp turned refl), simp apart_it there_it.1)
        | inr other ↦
            let there_it = rest (suc i) (simp other at is) in
            let apart_it = apart_from there_it.1 in
            let turned : (realm == e.realm) ≡ false = grind (arith, nat_tests, other) in
            (simp apart_it (ap (option_map (behind e.realm)) there_it.0 ∙ simp turned refl), simp apart_it there_it.1)
      ]

    -- the first of them whose item passes is where the first item stands that passes
    module _ (test : T → Bool) where
      abbrev pub passes_at : ℕ → Bool
      passes_at key = passes_in test (get slots key)

      pub none-passing : (keys : List ℕ) (from : ℕ) → position_from passes_at from keys ≡ None → find test (items_at slots keys) ≡ None
      none-passing [] from none = refl
      none-passing (k ∷ ks) from none = step (get slots k) none (none-passing ks (from + 1)) where
        step : (o : Option (Entry T)) → cond (passes_in test o) (Some from) (position_from passes_at (from + 1) ks) ≡ None → (position_from passes_at (from + 1) ks ≡ None → find test (items_at slots ks) ≡ None) → find test (item_before o (items_at slots ks)) ≡ None
        step None none rest = rest none
        step (Some e) none rest = elim (cases_Bool (test e.item)) [
          | inl passes ↦ absurd (let wrong = (simp passes at none) in cc)
          | inr fails ↦ simp fails (rest (simp fails at none))
        ]

      pub first-passing : (keys : List ℕ) (i d : ℕ) → AreThere slots keys → i < length keys → passes_at (get_or keys i d) ≡ true → ((k : ℕ) → k < i → passes_at (get_or keys k d) ≡ false) → IsFirst test (items_at slots keys) i
      first-passing [] i d there within passes before = absurd (omega arith)
      first-passing (k ∷ ks) zero d there within passes before = step (get slots k) there.0 passes where
        step : (o : Option (Entry T)) → IsSome o → passes_in test o ≡ true → IsFirst test (item_before o (items_at slots ks)) 0
        step None some passes = absurd (cc)
        step (Some e) some passes = passes
      first-passing (k ∷ ks) (suc i) d there within passes before = step (get slots k) there.0 (before 0 (omega arith)) (first-passing ks i d there.1 (omega arith) passes (λ n less. before (suc n) (omega arith))) where
        step : (o : Option (Entry T)) → IsSome o → passes_in test o ≡ false → IsFirst test (items_at slots ks) i → IsFirst test (item_before o (items_at slots ks)) (suc i)
        step None some fails rest = absurd (cc)
        step (Some e) some fails rest = (fails, rest)

      counts : (o : Option (Entry T)) (items : List T) → length (filter test (item_before o items)) ≡ cond (passes_in test o) (1 + length (filter test items)) (length (filter test items))
      counts None items = refl
      counts (Some e) items = elim (cases_Bool (test e.item)) [
        | inl passes ↦ simp passes (omega arith)
        | inr fails ↦ simp fails refl
      ]

      pub counted : (keys : List ℕ) → count_by passes_at keys ≡ length (filter test (items_at slots keys))
      counted keys = sym (is_count_by (λ ys. length (filter test (items_at slots ys))) passes_at refl (λ k ks. counts (get slots k) (items_at slots ks)) keys)
