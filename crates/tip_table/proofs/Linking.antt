-- Keys that stand by realm, by link, and as made.
use Rattle.std.proofs.Common.{◌≡◌, ◌⊎◌, ◌<◌, ◌≤◌, ◌-◌, ℕ, suc, List, [], ◌∷◌, length, get_or, take, drop, Option, Some, None, Bool, true, false, refl, arith, ◌∙◌, ap, sym, subst, inl, inr}
use Rattle.std.specs.List.{prefix_len}
use Rattle.std.specs.Prelude.{◌+◌, ◌==◌, ◌&&◌, ◌||◌, IsSome, filter, nat_le, nat_lt, unwrap_or}
use Rattle.std.proofs.lemmas.Bool.{and_parts, cases_Bool}
use Rattle.std.proofs.lemmas.Bool.Decides.{nat_tests}
use Rattle.std.proofs.lemmas.List.{get_or-drop, length-drop, take_rest}
use Rattle.std.proofs.lemmas.List.Sums.{prefix_len-le-length, prefix_len_passes, prefix_len_stops}
use Rattle.slab.specs.Slab.{Slab, get}
use Rattle.tip_table.specs.declared.table.Entry.{Entry}
use Rattle.tip_table.specs.Entries.{Pairwise, is_among, realm_in}
use Rattle.tip_table.specs.Links.{AreLinks, Stands, is_earlier, is_link, is_listed, is_up_to, listed_in, made_in}
use Rattle.tip_table.proofs.KeyLemmas.{among-get}
use Rattle.tip_table.proofs.Pairs.{filter-range, pair_at}

-- THREE NUMBERS, the first of which counts most
abbrev pub comes : ℕ → ℕ → ℕ → ℕ → ℕ → ℕ → Bool
comes r l m R L M = nat_lt r R || (r == R && (nat_lt l L || (l == L && nat_lt m M)))

abbrev pub Comes : ℕ → ℕ → ℕ → ℕ → ℕ → ℕ → Type 0
Comes r l m R L M = (r < R) ⊎ (r ≡ R) × (l < L) ⊎ (r ≡ R) × (l ≡ L) × (m < M)

pub comes-so : (r l m R L M : ℕ) → comes r l m R L M ≡ true → Comes r l m R L M
comes-so r l m R L M is = elim (cases_Bool (nat_lt r R)) [
  | inl less ↦ inl (grind (arith, nat_tests, less))
  | inr not ↦ (
      let both : (r == R && (nat_lt l L || (l == L && nat_lt m M))) ≡ true = simp not at is in
      let parts = and_parts (r == R) (nat_lt l L || (l == L && nat_lt m M)) both in
      let same : r ≡ R = (let x = parts.0 in grind (arith, nat_tests, x)) in
      elim (cases_Bool (nat_lt l L)) [
        | inl less ↦ inr (inl (same, grind (arith, nat_tests, less)))
        | inr later ↦ (
            let rest : (l == L && nat_lt m M) ≡ true = simp later at parts.1 in
            let two = and_parts (l == L) (nat_lt m M) rest in
            inr (inr (same, (let x = two.0 in grind (arith, nat_tests, x)), (let x = two.1 in grind (arith, nat_tests, x)))))
      ])
]

pub so-comes : (r l m R L M : ℕ) → Comes r l m R L M → comes r l m R L M ≡ true
so-comes r l m R L M (inl less) = let is : nat_lt r R ≡ true = grind (arith, nat_tests, less) in simp is refl
so-comes r l m R L M (inr (inl both)) =
    let same = both.0 in
    let less = both.1 in
    let not : nat_lt r R ≡ false = grind (arith, nat_tests, same) in
    let one : (r == R) ≡ true = grind (arith, nat_tests, same) in
    let two : nat_lt l L ≡ true = grind (arith, nat_tests, less) in
    simp (not, one, two) refl
so-comes r l m R L M (inr (inr all)) =
    let same = all.0 in
    let link = all.1 in
    let less = all.2 in
    let not : nat_lt r R ≡ false = grind (arith, nat_tests, same) in
    let one : (r == R) ≡ true = grind (arith, nat_tests, same) in
    let later : nat_lt l L ≡ false = grind (arith, nat_tests, link) in
    let two : (l == L) ≡ true = grind (arith, nat_tests, link) in
    let three : nat_lt m M ≡ true = grind (arith, nat_tests, less) in
    simp (not, one, later, two, three) refl

comes-on : (r l m s k n R L M : ℕ) → Comes r l m s k n → Comes s k n R L M → Comes r l m R L M
comes-on r l m s k n R L M (inl a) (inl b) = inl (omega (arith, a, b))
comes-on r l m s k n R L M (inl a) (inr (inl b)) = let x = b.0 in inl (omega (arith, a, x))
comes-on r l m s k n R L M (inl a) (inr (inr b)) = let x = b.0 in inl (omega (arith, a, x))
comes-on r l m s k n R L M (inr (inl a)) (inl b) = let x = a.0 in inl (omega (arith, x, b))
comes-on r l m s k n R L M (inr (inr a)) (inl b) = let x = a.0 in inl (omega (arith, x, b))
comes-on r l m s k n R L M (inr (inl a)) (inr (inl b)) = let x = a.1 in let y = b.1 in inr (inl (a.0 ∙ b.0, omega (arith, x, y)))
comes-on r l m s k n R L M (inr (inl a)) (inr (inr b)) = let x = a.1 in let y = b.1 in inr (inl (a.0 ∙ b.0, omega (arith, x, y)))
comes-on r l m s k n R L M (inr (inr a)) (inr (inl b)) = let x = a.1 in let y = b.1 in inr (inl (a.0 ∙ b.0, omega (arith, x, y)))
comes-on r l m s k n R L M (inr (inr a)) (inr (inr b)) = let x = a.2 in let y = b.2 in inr (inr (a.0 ∙ b.0, a.1 ∙ b.1, omega (arith, x, y)))

-- of two one comes first, or all three are the same
pub comes-either : (r l m R L M : ℕ) → comes r l m R L M ≡ false → Comes R L M r l m ⊎ (r ≡ R) × (l ≡ L) × (m ≡ M)
comes-either r l m R L M not = elim (cases_Bool (nat_lt R r)) [
  | inl less ↦ inl (inl (grind (arith, nat_tests, less)))
  | inr least ↦ elim (cases_Bool (r == R)) [
    | inr differ ↦ absurd (let less : nat_lt r R ≡ true = grind (arith, nat_tests, least, differ) in let is : true ≡ false = simp less at not in cc)
    | inl same ↦ (
        let at : r ≡ R = grind (arith, nat_tests, same) in
        let level : nat_lt r R ≡ false = grind (arith, nat_tests, at) in
        let rest : (nat_lt l L || (l == L && nat_lt m M)) ≡ false = simp (level, same) at not in
        elim (cases_Bool (nat_lt L l)) [
          | inl less ↦ inl (inr (inl (sym at, grind (arith, nat_tests, less))))
          | inr low ↦ elim (cases_Bool (l == L)) [
            | inr apart ↦ absurd (let less : nat_lt l L ≡ true = grind (arith, nat_tests, low, apart) in let is : true ≡ false = simp less at rest in cc)
            | inl one ↦ (
                let link : l ≡ L = grind (arith, nat_tests, one) in
                let flat : nat_lt l L ≡ false = grind (arith, nat_tests, link) in
                let last : nat_lt m M ≡ false = simp (flat, one) at rest in
                elim (cases_Bool (m == M)) [
                  | inl equal ↦ inr (at, link, grind (arith, nat_tests, equal))
                  | inr unlike ↦ inl (inr (inr (sym at, sym link, grind (arith, nat_tests, last, unlike))))
                ])
          ]
        ])
  ]
]

index_among : (ks : List ℕ) (key : ℕ) → is_among ks key ≡ true → (i : ℕ) × (i < length ks) × (get_or ks i 0 ≡ key)
index_among [] key is = absurd (cc)
index_among (k ∷ ks) key is = elim (cases_Bool (k == key)) [
  | inl same ↦ (0, omega arith, grind (arith, nat_tests, same))
  | inr apart ↦ (let rest = index_among ks key (simp apart at is) in let less = rest.1 in (suc rest.0, omega (arith, less), rest.2))
]

up_to-is : (r l m R L : ℕ) → (nat_lt r R || (r == R && nat_le l L)) ≡ comes r l m R (L + 1) 0
up_to-is r l m R L =
    let never : nat_lt m 0 ≡ false = grind (arith, nat_tests) in
    let next : nat_le l L ≡ nat_lt l (L + 1) = grind (arith, nat_tests) in
    rw (next, never) (same (nat_lt r R) (r == R) (nat_lt l (L + 1)) (l == L + 1)) where
      same : (a b c d : Bool) → (a || (b && c)) ≡ (a || (b && (c || (d && false))))
      same a b true d = refl
      same a b false true = refl
      same a b false false = refl

module _ {T : Type 0} (slots : Slab (Entry T)) where
  abbrev pub realm_of : ℕ → ℕ
  realm_of key = realm_in (get slots key)

  abbrev pub link_of : ℕ → ℕ
  link_of key = unwrap_or (listed_in (get slots key)) 0

  abbrev pub age_of : ℕ → ℕ
  age_of key = made_in (get slots key)

  pub stands-never : (key : ℕ) → Stands slots key key → ⊥
  stands-never key is = by (comes-so (realm_of key) (link_of key) (age_of key) (realm_of key) (link_of key) (age_of key) is) where
    by : Comes (realm_of key) (link_of key) (age_of key) (realm_of key) (link_of key) (age_of key) → ⊥
    by (inl less) = omega (arith, less)
    by (inr (inl both)) = let less = both.1 in omega (arith, less)
    by (inr (inr all)) = let less = all.2 in omega (arith, less)

  -- THOSE BEFORE ONE ARE AT THE FRONT
  pub earlier-parted : (realm link made : ℕ) (links : List ℕ) → Pairwise (Stands slots) links → (i j d : ℕ) → i ≤ j → j < length links → is_earlier realm link made (get slots (get_or links j d)) ≡ true → is_earlier realm link made (get slots (get_or links i d)) ≡ true
  earlier-parted realm link made links sorted i j d least within is = elim (cases_Bool (i == j)) [
    | inl same ↦ (let at : i ≡ j = grind (arith, nat_tests, same) in rw at is)
    | inr apart ↦ (
        let a = get_or links i d in
        let b = get_or links j d in
        let less : i < j = grind (arith, nat_tests, least, apart) in
        let one = comes-so (realm_of a) (link_of a) (age_of a) (realm_of b) (link_of b) (age_of b) (pair_at (Stands slots) links i j d sorted less within) in
        so-comes (realm_of a) (link_of a) (age_of a) realm link made (comes-on (realm_of a) (link_of a) (age_of a) (realm_of b) (link_of b) (age_of b) realm link made one (comes-so (realm_of b) (link_of b) (age_of b) realm link made is)))
  ]

  pub up_to-parted : (realm link : ℕ) (links : List ℕ) → Pairwise (Stands slots) links → (i j d : ℕ) → i ≤ j → j < length links → is_up_to realm link (get slots (get_or links j d)) ≡ true → is_up_to realm link (get slots (get_or links i d)) ≡ true
  up_to-parted realm link links sorted i j d least within is =
      let a = get_or links i d in
      let b = get_or links j d in
      up_to-is (realm_of a) (link_of a) (age_of a) realm link ∙ earlier-parted realm (link + 1) 0 links sorted i j d least within (sym (up_to-is (realm_of b) (link_of b) (age_of b) realm link) ∙ is)

  -- one that is before all of this realm and this link is up to them
  pub up_to-earlier : (realm link key : ℕ) → is_earlier realm link 0 (get slots key) ≡ true → is_up_to realm link (get slots key) ≡ true
  up_to-earlier realm link key is = up_to-is (realm_of key) (link_of key) (age_of key) realm link ∙ so-comes (realm_of key) (link_of key) (age_of key) realm (link + 1) 0 (wider (comes-so (realm_of key) (link_of key) (age_of key) realm link 0 is)) where
    wider : {r l m : ℕ} → Comes r l m realm link 0 → Comes r l m realm (link + 1) 0
    wider (inl less) = inl less
    wider (inr (inl both)) = let less = both.1 in inr (inl (both.0, omega (arith, less)))
    wider (inr (inr all)) = let less = all.2 in absurd (omega (arith, less))

  -- HOW MANY are up to a realm and a link, once so many are known to be and those behind them are walked
  module _ (realm link : ℕ) (links : List ℕ) (known : ℕ) where
    abbrev up : ℕ → Bool
    up key = is_up_to realm link (get slots key)

    pub up_to-walked : AreLinks slots links → known ≤ length links → ((i : ℕ) → i < known → up (get_or links i 0) ≡ true) → (len : ℕ) → len ≡ prefix_len up (take (length links - known) (drop known links)) →
        (known + len ≤ length links)
        × ((i : ℕ) → i < known + len → up (get_or links i 0) ≡ true)
        × ((i : ℕ) → known + len ≤ i → i < length links → up (get_or links i 0) ≡ false)
    up_to-walked are within front len walked = (
      omega (arith, fits, within, size),
      (λ i less. elim (cases_Bool (nat_lt i known)) [
        | inl early ↦ front i (grind (arith, nat_tests, early))
        | inr late ↦ (
            let least : known ≤ i = grind (arith, nat_tests, late) in
            let at : i - known < prefix_len up rest = rw (← is) (omega (arith, less, least)) in
            let same : known + (i - known) ≡ i = omega (arith, least) in
            let here : get_or rest (i - known) 0 ≡ get_or links i 0 = get_or-drop known links (i - known) 0 ∙ ap (λ n. get_or links n 0) same in
            rw (← here) (prefix_len_passes up rest (i - known) 0 at))
      ]),
      (λ i least less. elim (cases_Bool (up (get_or links i 0))) [
        | inr not ↦ not
        | inl listed ↦ absurd (
            let short : prefix_len up rest < length rest = rw (← is) (omega (arith, least, less, size)) in
            let stops : up (get_or rest len 0) ≡ false = rw is (prefix_len_stops up rest 0 short) in
            let here : get_or rest len 0 ≡ get_or links (known + len) 0 = get_or-drop known links len 0 in
            let wrong : true ≡ false = sym (up_to-parted realm link links are.sorted (known + len) i 0 least less listed) ∙ (rw (← here) stops) in
            cc)
      ]),
    ) where
      rest : List ℕ
      rest = drop known links

      is : len ≡ prefix_len up rest
      is = walked ∙ ap (prefix_len up) (take_rest links known)

      size : length rest ≡ length links - known
      size = length-drop known links

      fits : len ≤ length rest
      fits = rw is (prefix_len-le-length up rest)

  -- A RANGE of one realm and one link
  module _ (realm link : ℕ) where
    abbrev its : ℕ → Bool
    its key = is_listed realm link (get slots key)

    pub listed-link : (listed : Option ℕ) → is_link listed link ≡ true → unwrap_or listed 0 ≡ link
    listed-link None is = absurd (cc)
    listed-link (Some other) is = grind (arith, nat_tests, is)

    link-listed : (listed : Option ℕ) → IsSome listed → unwrap_or listed 0 ≡ link → is_link listed link ≡ true
    link-listed None some is = absurd (cc)
    link-listed (Some other) some is = grind (arith, nat_tests, is)

    unlisted-early : (key : ℕ) → is_earlier realm link 0 (get slots key) ≡ true → its key ≡ false
    unlisted-early key is = elim (cases_Bool (its key)) [
      | inr not ↦ not
      | inl listed ↦ absurd (
          let parts = and_parts (realm_of key == realm) (is_link (listed_in (get slots key)) link) listed in
          let own : realm_of key ≡ realm = (let x = parts.0 in grind (arith, nat_tests, x)) in
          let linked = listed-link (listed_in (get slots key)) parts.1 in
          by own linked (comes-so (realm_of key) (link_of key) (age_of key) realm link 0 is))
    ] where
      by : realm_of key ≡ realm → link_of key ≡ link → Comes (realm_of key) (link_of key) (age_of key) realm link 0 → ⊥
      by own linked (inl less) = omega (arith, own, less)
      by own linked (inr (inl both)) = let less = both.1 in omega (arith, linked, less)
      by own linked (inr (inr all)) = let less = all.2 in omega (arith, less)

    unlisted-late : (key : ℕ) → is_up_to realm link (get slots key) ≡ false → its key ≡ false
    unlisted-late key not = elim (cases_Bool (its key)) [
      | inr is ↦ is
      | inl listed ↦ absurd (
          let parts = and_parts (realm_of key == realm) (is_link (listed_in (get slots key)) link) listed in
          let own = parts.0 in
          let linked = listed-link (listed_in (get slots key)) parts.1 in
          let same : realm_of key ≡ realm = grind (arith, nat_tests, own) in
          let level : nat_lt (realm_of key) realm ≡ false = grind (arith, nat_tests, same) in
          let low : nat_le (link_of key) link ≡ true = grind (arith, nat_tests, linked) in
          let is : true ≡ false = simp (level, own, low) at not in
          cc)
    ]

    listed-between : (key : ℕ) → IsSome (listed_in (get slots key)) → is_earlier realm link 0 (get slots key) ≡ false → is_up_to realm link (get slots key) ≡ true → its key ≡ true
    listed-between key some not is = by (comes-either (realm_of key) (link_of key) (age_of key) realm link 0 not) (comes-so (realm_of key) (link_of key) (age_of key) realm (link + 1) 0 (sym (up_to-is (realm_of key) (link_of key) (age_of key) realm link) ∙ is)) where
      both : realm_of key ≡ realm → link_of key ≡ link → its key ≡ true
      both own linked = let one : (realm_of key == realm) ≡ true = grind (arith, nat_tests, own) in simp one (link-listed (listed_in (get slots key)) some linked)

      by : Comes realm link 0 (realm_of key) (link_of key) (age_of key) ⊎ (realm_of key ≡ realm) × (link_of key ≡ link) × (age_of key ≡ 0) → Comes (realm_of key) (link_of key) (age_of key) realm (link + 1) 0 → its key ≡ true
      by (inr all) up = both all.0 all.1
      by (inl (inl less)) (inl more) = absurd (omega (arith, less, more))
      by (inl (inl less)) (inr (inl more)) = let x = more.0 in absurd (omega (arith, less, x))
      by (inl (inl less)) (inr (inr more)) = let x = more.0 in absurd (omega (arith, less, x))
      by (inl (inr (inl later))) (inl more) = let x = later.0 in absurd (omega (arith, x, more))
      by (inl (inr (inl later))) (inr (inl more)) = let x = later.1 in let y = more.1 in absurd (omega (arith, x, y))
      by (inl (inr (inl later))) (inr (inr more)) = let y = more.2 in absurd (omega (arith, y))
      by (inl (inr (inr same))) (inl more) = let x = same.0 in absurd (omega (arith, x, more))
      by (inl (inr (inr same))) (inr (inl more)) = both (sym same.0) (sym same.1)
      by (inl (inr (inr same))) (inr (inr more)) = let y = more.2 in absurd (omega (arith, y))

    pub range-is : (links : List ℕ) (start end : ℕ) → AreLinks slots links → start ≤ length links → end ≤ length links → ((i : ℕ) → i < start → is_earlier realm link 0 (get slots (get_or links i 0)) ≡ true) → ((i : ℕ) → start ≤ i → i < length links → is_earlier realm link 0 (get slots (get_or links i 0)) ≡ false) → ((i : ℕ) → i < end → is_up_to realm link (get slots (get_or links i 0)) ≡ true) → ((i : ℕ) → end ≤ i → i < length links → is_up_to realm link (get slots (get_or links i 0)) ≡ false) → (start ≤ end) × (take (end - start) (drop start links) ≡ filter its links)
    range-is links start end are within ends before behind front back = (
      ordered,
      filter-range its links start end ordered ends (λ i less. unlisted-early (get_or links i 0) (before i less))
          (λ i least less. listed-between (get_or links i 0) (are.listed (get_or links i 0) (among-get links i 0 (omega (arith, less, ends)))) (behind i least (omega (arith, less, ends))) (front i less))
          (λ i least less. unlisted-late (get_or links i 0) (back i least less)),
    ) where
      ordered : start ≤ end
      ordered = elim (cases_Bool (nat_le start end)) [
        | inl is ↦ grind (arith, nat_tests, is)
        | inr not ↦ absurd (
            let less : end < start = grind (arith, nat_tests, not) in
            let early = up_to-earlier realm link (get_or links end 0) (before end less) in
            let late = back end (omega arith) (omega (arith, less, within)) in
            let is : true ≡ false = sym early ∙ late in
            cc)
      ]

  -- ONE THAT IS LISTED stands where its realm, link and age say
  pub stands_there : (links : List ℕ) (key at : ℕ) → Pairwise (Stands slots) links → is_among links key ≡ true → ((i : ℕ) → i < at → is_earlier (realm_of key) (link_of key) (age_of key) (get slots (get_or links i 0)) ≡ true) → ((i : ℕ) → at ≤ i → i < length links → is_earlier (realm_of key) (link_of key) (age_of key) (get slots (get_or links i 0)) ≡ false) → (at < length links) × (get_or links at 0 ≡ key)
  stands_there links key at sorted among before behind =
      let found = index_among links key among in
      let i = found.0 in
      let within = found.1 in
      let is = found.2 in
      elim (cases_Bool (nat_lt i at)) [
        | inl less ↦ absurd (stands-never key (subst (λ k. is_earlier (realm_of key) (link_of key) (age_of key) (get slots k) ≡ true) is (before i (grind (arith, nat_tests, less)))))
        | inr least ↦ elim (cases_Bool (i == at)) [
          | inl same ↦ (let here : i ≡ at = grind (arith, nat_tests, same) in (subst (λ n. n < length links) here within, subst (λ n. get_or links n 0 ≡ key) here is))
          | inr apart ↦ absurd (
              let less : at < i = grind (arith, nat_tests, least, apart) in
              let one : Stands slots (get_or links at 0) key = subst (λ k. Stands slots (get_or links at 0) k) is (pair_at (Stands slots) links at i 0 sorted less within) in
              let other = behind at (omega arith) (omega (arith, less, within)) in
              let wrong : true ≡ false = sym one ∙ other in
              cc)
        ]
      ]
