-- One search by halves: entries stand by realm, and those of one realm by rank.
use Rattle.std.proofs.Common.{◌≡◌, ◌<◌, ◌≤◌, ◌∙◌, ℕ, zero, suc, Bool, true, false, cond, List, [], ◌∷◌, Option, Some, None, length, get_or, map, refl, ap, arith, inl, inr, subst, sym}
use Rattle.std.specs.Prelude.{◌==◌, ◌&&◌, IsSome, nat_lt}
use Rattle.std.specs.List.{find, list_all}
use Rattle.std.proofs.lemmas.Bool.{and_parts, cases_Bool}
use Rattle.std.proofs.lemmas.Bool.Decides.{nat_tests}
use Rattle.slab.specs.Slab.{Slab, get}
use Rattle.tip_table.specs.declared.table.Entry.{Entry}
use Rattle.tip_table.specs.Entries.{AreByRealm, AreFrom, AreThere, IsFirstAt, comes_before, is_ranked, item_before, items_at, own_keys, placed_at, placed_before, realm_in}
use Rattle.tip_table.specs.Lists.{IsFirst, are_rising}
use Rattle.tip_table.proofs.OwnLemmas.{none_own}

module _ {T : Type 0} (rank : T → ℕ) (wanted : ℕ) where
  abbrev pub has : T → Bool
  has item = rank item == wanted

  -- none has it where all are above a number that is not below it
  none_above : (items : List T) (n : ℕ) → list_all (nat_lt n) (map rank items) ≡ true → wanted ≤ n → find has items ≡ None
  none_above [] n above least = refl
  none_above (x ∷ xs) n above least =
      let parts = and_parts (nat_lt n (rank x)) (list_all (nat_lt n) (map rank xs)) above in
      let first = parts.0 in
      let differs : has x ≡ false = grind (arith, nat_tests, first, least) in
      simp differs (none_above xs n parts.1 least)

module _ {T : Type 0} (slots : Slab (Entry T)) where
  -- What stands behind one

  by_tail : (key : ℕ) (keys : List ℕ) → AreThere slots (key ∷ keys) → AreByRealm (placed_at slots (key ∷ keys)) → AreByRealm (placed_at slots keys)
  by_tail key keys there by = step (get slots key) there.0 by where
    step : (o : Option (Entry T)) → IsSome o → AreByRealm (placed_before key o (placed_at slots keys)) → AreByRealm (placed_at slots keys)
    step None some by = absurd (cc)
    step (Some e) some by = by.1

  -- it is of the same realm or a later one
  from_at : (keys : List ℕ) (n j d : ℕ) (e : Entry T) → AreThere slots keys → AreFrom n (placed_at slots keys) → j < length keys → get slots (get_or keys j d) ≡ Some e → n ≤ e.realm
  from_at [] n j d e there from within is = absurd (omega (arith, within))
  from_at (key ∷ keys) n zero d e there from within is = step (get slots key) is from where
    step : (o : Option (Entry T)) → o ≡ Some e → AreFrom n (placed_before key o (placed_at slots keys)) → n ≤ e.realm
    step None same from = absurd (cc)
    step (Some f) same from = let own : f ≡ e = cc in subst (λ (x : Entry T). n ≤ x.realm) own from.0
  from_at (key ∷ keys) n (suc j) d e there from within is = step (get slots key) there.0 from (λ later. from_at keys n j d e there.1 later (omega (arith, within)) is) where
    step : (o : Option (Entry T)) → IsSome o → AreFrom n (placed_before key o (placed_at slots keys)) → (AreFrom n (placed_at slots keys) → n ≤ e.realm) → n ≤ e.realm
    step None some from behind = absurd (cc)
    step (Some f) some from behind = behind from.1

  module _ (rank : T → ℕ) (realm wanted : ℕ) where
    abbrev pub is_before : ℕ → Bool
    is_before key = comes_before rank realm wanted (get slots key)

    abbrev pub is_there : ℕ → Bool
    is_there key = is_ranked rank realm wanted (get slots key)

    abbrev ranks_of : List ℕ → List ℕ
    ranks_of keys = map rank (items_at slots (own_keys slots keys realm))

    -- those behind one of the realm have greater ranks
    own_above : (keys : List ℕ) (n j d : ℕ) (e : Entry T) → list_all (nat_lt n) (ranks_of keys) ≡ true → AreThere slots keys → j < length keys → get slots (get_or keys j d) ≡ Some e → e.realm ≡ realm → n < rank e.item
    own_above [] n j d e above there within is own = absurd (omega (arith, within))
    own_above (key ∷ keys) n zero d e above there within is own =
        let same : (e.realm == realm) ≡ true = grind (arith, nat_tests, own) in
        let first : list_all (nat_lt n) (rank e.item ∷ ranks_of keys) ≡ true = sym (ap (λ o. list_all (nat_lt n) (map rank (items_at slots (cond (realm_in o == realm) (key ∷ own_keys slots keys realm) (own_keys slots keys realm))))) is ∙ ap (λ b. list_all (nat_lt n) (map rank (items_at slots (cond b (key ∷ own_keys slots keys realm) (own_keys slots keys realm))))) same ∙ ap (λ o. list_all (nat_lt n) (map rank (item_before o (items_at slots (own_keys slots keys realm))))) is) ∙ above in
        let less = (and_parts (nat_lt n (rank e.item)) (list_all (nat_lt n) (ranks_of keys)) first).0 in
        grind (arith, nat_tests, less)
    own_above (key ∷ keys) n (suc j) d e above there within is own = own_above keys n j d e (step (get slots key) refl there.0 above) there.1 (omega (arith, within)) is own where
      step : (o : Option (Entry T)) → get slots key ≡ o → IsSome o → list_all (nat_lt n) (map rank (items_at slots (cond (realm_in o == realm) (key ∷ own_keys slots keys realm) (own_keys slots keys realm)))) ≡ true → list_all (nat_lt n) (ranks_of keys) ≡ true
      step None at some above = absurd (cc)
      step (Some f) at some above = elim (cases_Bool (f.realm == realm)) [
        | inl same ↦
            let all : list_all (nat_lt n) (rank f.item ∷ ranks_of keys) ≡ true = sym (ap (λ b. list_all (nat_lt n) (map rank (items_at slots (cond b (key ∷ own_keys slots keys realm) (own_keys slots keys realm))))) same ∙ ap (λ o. list_all (nat_lt n) (map rank (item_before o (items_at slots (own_keys slots keys realm))))) at) ∙ above in
            (and_parts (nat_lt n (rank f.item)) (list_all (nat_lt n) (ranks_of keys)) all).1
        | inr other ↦ sym (ap (λ b. list_all (nat_lt n) (map rank (items_at slots (cond b (key ∷ own_keys slots keys realm) (own_keys slots keys realm))))) other) ∙ above
      ]

    -- the ranks of those behind one rise too, and one of the realm is below them
    rising_tail : (key : ℕ) (keys : List ℕ) → AreThere slots (key ∷ keys) → are_rising (ranks_of (key ∷ keys)) ≡ true → are_rising (ranks_of keys) ≡ true
    rising_tail key keys there rising = step (get slots key) refl there.0 rising where
      step : (o : Option (Entry T)) → get slots key ≡ o → IsSome o → are_rising (map rank (items_at slots (cond (realm_in o == realm) (key ∷ own_keys slots keys realm) (own_keys slots keys realm)))) ≡ true → are_rising (ranks_of keys) ≡ true
      step None at some rising = absurd (cc)
      step (Some f) at some rising = elim (cases_Bool (f.realm == realm)) [
        | inl same ↦
            let all : are_rising (rank f.item ∷ ranks_of keys) ≡ true = sym (ap (λ b. are_rising (map rank (items_at slots (cond b (key ∷ own_keys slots keys realm) (own_keys slots keys realm))))) same ∙ ap (λ o. are_rising (map rank (item_before o (items_at slots (own_keys slots keys realm))))) at) ∙ rising in
            (and_parts (list_all (nat_lt (rank f.item)) (ranks_of keys)) (are_rising (ranks_of keys)) all).1
        | inr other ↦ sym (ap (λ b. are_rising (map rank (items_at slots (cond b (key ∷ own_keys slots keys realm) (own_keys slots keys realm))))) other) ∙ rising
      ]

    rising_head : (key : ℕ) (keys : List ℕ) (e : Entry T) → get slots key ≡ Some e → e.realm ≡ realm → are_rising (ranks_of (key ∷ keys)) ≡ true → list_all (nat_lt (rank e.item)) (ranks_of keys) ≡ true
    rising_head key keys e is own rising =
        let same : (e.realm == realm) ≡ true = grind (arith, nat_tests, own) in
        let all : are_rising (rank e.item ∷ ranks_of keys) ≡ true = sym (ap (λ o. are_rising (map rank (items_at slots (cond (realm_in o == realm) (key ∷ own_keys slots keys realm) (own_keys slots keys realm))))) is ∙ ap (λ b. are_rising (map rank (items_at slots (cond b (key ∷ own_keys slots keys realm) (own_keys slots keys realm))))) same ∙ ap (λ o. are_rising (map rank (item_before o (items_at slots (own_keys slots keys realm))))) is) ∙ rising in
        (and_parts (list_all (nat_lt (rank e.item)) (ranks_of keys)) (are_rising (ranks_of keys)) all).0

    -- THOSE BEFORE IT ARE AT THE FRONT

    before_one : (e f : Entry T) → e.realm ≤ f.realm → (e.realm ≡ realm → f.realm ≡ realm → rank e.item < rank f.item) → comes_before rank realm wanted (Some f) ≡ true → comes_before rank realm wanted (Some e) ≡ true
    before_one e f least rises before = elim (cases_Bool (nat_lt e.realm realm)) [
      | inl earlier ↦ simp earlier refl
      | inr not ↦ elim (cases_Bool (nat_lt f.realm realm)) [
        | inl earlier ↦ absurd (let x = least in grind (arith, nat_tests, not, earlier, x))
        | inr later ↦
            let both : (f.realm == realm && nat_lt (rank f.item) wanted) ≡ true = simp later at before in
            let parts = and_parts (f.realm == realm) (nat_lt (rank f.item) wanted) both in
            let own : f.realm ≡ realm = (let x = parts.0 in grind (arith, nat_tests, x)) in
            let same : e.realm ≡ realm = (let x = least in grind (arith, nat_tests, not, x, own)) in
            let more = rises same own in
            let below = parts.1 in
            let is : (e.realm == realm) ≡ true = grind (arith, nat_tests, same) in
            let less : nat_lt (rank e.item) wanted ≡ true = grind (arith, nat_tests, more, below) in
            simp (not, is, less) refl
      ]
    ]

    -- so does one that stands before it
    ranks_before : (e f : Entry T) → e.realm ≤ f.realm → (e.realm ≡ realm → f.realm ≡ realm → rank e.item < rank f.item) → is_ranked rank realm wanted (Some f) ≡ true → comes_before rank realm wanted (Some e) ≡ true
    ranks_before e f least rises is =
        let parts = and_parts (f.realm == realm) (rank f.item == wanted) is in
        let own : f.realm ≡ realm = (let x = parts.0 in grind (arith, nat_tests, x)) in
        let named : rank f.item ≡ wanted = (let x = parts.1 in grind (arith, nat_tests, x)) in
        elim (cases_Bool (nat_lt e.realm realm)) [
          | inl earlier ↦ simp earlier refl
          | inr not ↦
              let same : e.realm ≡ realm = (let x = least in grind (arith, nat_tests, not, x, own)) in
              let more = rises same own in
              let is_own : (e.realm == realm) ≡ true = grind (arith, nat_tests, same) in
              let less : nat_lt (rank e.item) wanted ≡ true = grind (arith, nat_tests, more, named) in
              simp (not, is_own, less) refl
        ]

    -- what of two entries says that the first comes before says so of all that stand before one
    all_before : (test : Option (Entry T) → Bool) → test None ≡ false → ((e f : Entry T) → e.realm ≤ f.realm → (e.realm ≡ realm → f.realm ≡ realm → rank e.item < rank f.item) → test (Some f) ≡ true → comes_before rank realm wanted (Some e) ≡ true) → (keys : List ℕ) → AreThere slots keys → AreByRealm (placed_at slots keys) → are_rising (ranks_of keys) ≡ true → (i j d : ℕ) → i < j → j < length keys → test (get slots (get_or keys j d)) ≡ true → is_before (get_or keys i d) ≡ true
    all_before test nobody both [] there by rising i j d less within is = absurd (omega (arith, within))
    all_before test nobody both (key ∷ keys) there by rising i zero d less within is = absurd (omega (arith, less))
    all_before test nobody both (key ∷ keys) there by rising zero (suc j) d less within is = step (get slots key) refl (get slots (get_or keys j d)) refl there.0 by is where
      step : (o : Option (Entry T)) → get slots key ≡ o → (p : Option (Entry T)) → get slots (get_or keys j d) ≡ p → IsSome o → AreByRealm (placed_before key o (placed_at slots keys)) → test p ≡ true → comes_before rank realm wanted o ≡ true
      step None at p there_j some by is = absurd (cc)
      step (Some e) at None there_j some by is = absurd (let clash : true ≡ false = sym is ∙ nobody in cc)
      step (Some e) at (Some f) there_j some by is =
          both e f (from_at keys e.realm j d f there.1 by.0 (omega (arith, within)) there_j)
          (λ same own. own_above keys (rank e.item) j d f (rising_head key keys e at same rising) there.1 (omega (arith, within)) there_j own) is
    all_before test nobody both (key ∷ keys) there by rising (suc i) (suc j) d less within is = all_before test nobody both keys there.1 (by_tail key keys there by) (rising_tail key keys there rising) i j d (omega (arith, less)) (omega (arith, within)) is

    pub parted : (keys : List ℕ) → AreThere slots keys → AreByRealm (placed_at slots keys) → are_rising (ranks_of keys) ≡ true → (i j d : ℕ) → i ≤ j → j < length keys → is_before (get_or keys j d) ≡ true → is_before (get_or keys i d) ≡ true
    parted keys there by rising i j d le within before = elim (cases_Bool (nat_lt i j)) [
      | inl sooner ↦ all_before (comes_before rank realm wanted) refl before_one keys there by rising i j d (grind (arith, nat_tests, sooner)) within before
      | inr not ↦ let same : j ≡ i = (let x = le in grind (arith, nat_tests, not, x)) in subst (λ k. is_before (get_or keys k d) ≡ true) same before
    ]

    -- all before one of this rank come before
    in_front : (keys : List ℕ) → AreThere slots keys → AreByRealm (placed_at slots keys) → are_rising (ranks_of keys) ≡ true → (i j d : ℕ) → i < j → j < length keys → is_there (get_or keys j d) ≡ true → is_before (get_or keys i d) ≡ true
    in_front = all_before (is_ranked rank realm wanted) refl ranks_before

    -- WHERE THEY END

    -- one that comes before it has another rank
    other_rank : (e : Entry T) → (e.realm == realm) ≡ true → comes_before rank realm wanted (Some e) ≡ true → has rank wanted e.item ≡ false
    other_rank e own before =
        let same : e.realm ≡ realm = grind (arith, nat_tests, own) in
        let not : nat_lt e.realm realm ≡ false = grind (arith, nat_tests, same) in
        let less : nat_lt (rank e.item) wanted ≡ true = simp (not, own) at before in
        grind (arith, nat_tests, less)

    -- it is there, and is the first
    found : (keys : List ℕ) (at d : ℕ) → ((k : ℕ) → k < at → is_before (get_or keys k d) ≡ true) → at < length keys → is_there (get_or keys at d) ≡ true → IsFirstAt slots (has rank wanted) (own_keys slots keys realm) (get_or keys at d)
    found [] at d front within is = absurd (omega (arith, within))
    found (key ∷ keys) zero d front within is = step (get slots key) refl is where
      step : (o : Option (Entry T)) → get slots key ≡ o → is_ranked rank realm wanted o ≡ true → IsFirstAt slots (has rank wanted) (cond (realm_in o == realm) (key ∷ own_keys slots keys realm) (own_keys slots keys realm)) key
      step None at is = absurd (cc)
      step (Some e) at is =
          let parts = and_parts (e.realm == realm) (rank e.item == wanted) is in
          let own = parts.0 in
          simp own (record { at = 0; here = refl; first = subst (λ o. IsFirst (has rank wanted) (item_before o (items_at slots (own_keys slots keys realm))) 0) (sym at) parts.1 })
    found (key ∷ keys) (suc at) d front within is = step (get slots key) refl (front 0 (omega arith)) (found keys at d (λ k before. front (suc k) (omega (arith, before))) (omega (arith, within)) is) where
      step : (o : Option (Entry T)) → get slots key ≡ o → comes_before rank realm wanted o ≡ true → IsFirstAt slots (has rank wanted) (own_keys slots keys realm) (get_or keys at d) → IsFirstAt slots (has rank wanted) (cond (realm_in o == realm) (key ∷ own_keys slots keys realm) (own_keys slots keys realm)) (get_or keys at d)
      step None is before rest = absurd (cc)
      step (Some e) is before rest = elim (cases_Bool (e.realm == realm)) [
        | inl own ↦ simp own (record { at = suc rest.at; here = rest.here; first = subst (λ o. IsFirst (has rank wanted) (item_before o (items_at slots (own_keys slots keys realm))) (suc rest.at)) (sym is) (other_rank e own before, rest.first) })
        | inr other ↦ simp other rest
      ]

    -- so is each that is there, as all before it come before
    pub first_there : (keys : List ℕ) → AreThere slots keys → AreByRealm (placed_at slots keys) → are_rising (ranks_of keys) ≡ true → (at key : ℕ) → at < length keys → key ≡ get_or keys at key → is_there key ≡ true → IsFirstAt slots (has rank wanted) (own_keys slots keys realm) key
    first_there keys there by rising at key within here is =
        let is_at : is_there (get_or keys at key) ≡ true = subst (λ k. is_there k ≡ true) here is in
        subst (IsFirstAt slots (has rank wanted) (own_keys slots keys realm)) (sym here) (found keys at key (λ k before. in_front keys there by rising k at key before within is_at) within is_at)

    -- or none is
    none_from : (key : ℕ) (keys : List ℕ) (e : Entry T) → get slots key ≡ Some e → has rank wanted e.item ≡ false → find (has rank wanted) (items_at slots (own_keys slots keys realm)) ≡ None → find (has rank wanted) (item_before (get slots key) (items_at slots (own_keys slots keys realm))) ≡ None
    none_from key keys e is differs rest = ap (λ o. find (has rank wanted) (item_before o (items_at slots (own_keys slots keys realm)))) is ∙ simp differs rest

    pub missing : (keys : List ℕ) (at d : ℕ) → AreThere slots keys → AreByRealm (placed_at slots keys) → are_rising (ranks_of keys) ≡ true → ((k : ℕ) → k < at → k < length keys → is_before (get_or keys k d) ≡ true) → (at < length keys → is_before (get_or keys at d) ≡ false) → (at < length keys → is_there (get_or keys at d) ≡ false) → find (has rank wanted) (items_at slots (own_keys slots keys realm)) ≡ None
    missing [] at d there by rising front here unlike = refl
    missing (key ∷ keys) zero d there by rising front here unlike = step (get slots key) refl there.0 by (here (omega arith)) (unlike (omega arith)) where
      step : (o : Option (Entry T)) → get slots key ≡ o → IsSome o → AreByRealm (placed_before key o (placed_at slots keys)) → comes_before rank realm wanted o ≡ false → is_ranked rank realm wanted o ≡ false → find (has rank wanted) (items_at slots (cond (realm_in o == realm) (key ∷ own_keys slots keys realm) (own_keys slots keys realm))) ≡ None
      step None is some by before not = absurd (cc)
      step (Some e) is some by before not = elim (cases_Bool (e.realm == realm)) [
        | inl own ↦
            let same : e.realm ≡ realm = grind (arith, nat_tests, own) in
            let later : nat_lt e.realm realm ≡ false = grind (arith, nat_tests, same) in
            let least : nat_lt (rank e.item) wanted ≡ false = simp (later, own) at before in
            let differs : has rank wanted e.item ≡ false = simp own at not in
            simp own (none_from key keys e is differs (none_above rank wanted (items_at slots (own_keys slots keys realm)) (rank e.item) (rising_head key keys e is same rising) (grind (arith, nat_tests, least))))
        | inr other ↦
            let earlier : nat_lt e.realm realm ≡ false = (let x = before in elim (cases_Bool (nat_lt e.realm realm)) [ inl sooner ↦ absurd (let y : true ≡ false = simp sooner at x in cc) | inr later ↦ later ]) in
            let less : realm < e.realm = grind (arith, nat_tests, other, earlier) in
            simp other (ap (λ l. find (has rank wanted) (items_at slots l)) (none_own slots keys realm e.realm there.1 by.0 less))
      ]
    missing (key ∷ keys) (suc at) d there by rising front here unlike = step (get slots key) refl there.0 (front 0 (omega arith) (omega arith)) (missing keys at d there.1 (by_tail key keys there by) (rising_tail key keys there rising) (λ k before within. front (suc k) (omega (arith, before)) (omega (arith, within))) (λ within. here (omega (arith, within))) (λ within. unlike (omega (arith, within)))) where
      step : (o : Option (Entry T)) → get slots key ≡ o → IsSome o → comes_before rank realm wanted o ≡ true → find (has rank wanted) (items_at slots (own_keys slots keys realm)) ≡ None → find (has rank wanted) (items_at slots (cond (realm_in o == realm) (key ∷ own_keys slots keys realm) (own_keys slots keys realm))) ≡ None
      step None is some before rest = absurd (cc)
      step (Some e) is some before rest = elim (cases_Bool (e.realm == realm)) [
        | inl own ↦ simp own (none_from key keys e is (other_rank e own before) rest)
        | inr other ↦ simp other rest
      ]
