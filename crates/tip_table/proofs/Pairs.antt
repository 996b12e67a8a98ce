-- Lists of keys of which each stands so to each that is behind it.
use Rattle.std.proofs.Common.{◌≡◌, ◌<◌, ◌≤◌, ◌-◌, ℕ, zero, suc, List, [], ◌∷◌, length, get_or, take, drop, Bool, true, false, refl, ap, arith, ◌∙◌, sym, subst, inl, inr}
use Rattle.std.specs.Prelude.{◌==◌, ◌&&◌, ◌||◌, not, filter, insert, remove}
use Rattle.std.proofs.lemmas.Bool.{cases_Bool}
use Rattle.std.proofs.lemmas.Bool.Decides.{nat_tests}
use Rattle.tip_table.specs.Entries.{AreApart, Pairwise, is_among}
use Rattle.tip_table.proofs.KeyLemmas.{among-get, among-insert, later_apart}

-- MEMBERS

pub first_among : (k : ℕ) (ks : List ℕ) → is_among (k ∷ ks) k ≡ true
first_among k ks = let own : (k == k) ≡ true = grind (arith, nat_tests) in simp own refl

pub more_among : (k other : ℕ) (ks : List ℕ) → is_among ks other ≡ true → is_among (k ∷ ks) other ≡ true
more_among k other ks is = either (k == other) is where
  either : (b : Bool) → is_among ks other ≡ true → (b || is_among ks other) ≡ true
  either true is = refl
  either false is = is

-- what holds at each index holds of each
pub each_among : (P : ℕ → Type 0) (ks : List ℕ) → ((i : ℕ) → i < length ks → P (get_or ks i 0)) → (other : ℕ) → is_among ks other ≡ true → P other
each_among P [] each other is = absurd (cc)
each_among P (k ∷ ks) each other is = elim (cases_Bool (k == other)) [
  | inl same ↦ (let here : k ≡ other = grind (arith, nat_tests, same) in subst P here (each 0 (omega arith)))
  | inr apart ↦ each_among P ks (λ i within. each (suc i) (omega (arith, within))) other (simp apart at is)
]

pub among-removed : (ks : List ℕ) (i other : ℕ) → AreApart ks → i < length ks → is_among (remove ks i) other ≡ (is_among ks other && not (get_or ks i 0 == other))
among-removed [] i other apart within = absurd (omega (arith, within))
among-removed (k ∷ ks) zero other apart within = elim (cases_Bool (k == other)) [
  | inl same ↦ (let here : k ≡ other = grind (arith, nat_tests, same) in let none : is_among ks other ≡ false = subst (λ n. is_among ks n ≡ false) here apart.0 in simp (same, none) refl)
  | inr differ ↦ simp differ (all (is_among ks other))
] where
  all : (b : Bool) → b ≡ (b && true)
  all true = refl
  all false = refl
among-removed (k ∷ ks) (suc i) other apart within =
    let rest = among-removed ks i other apart.1 (omega (arith, within)) in
    elim (cases_Bool (k == other)) [
      | inl same ↦
          let here : k ≡ other = grind (arith, nat_tests, same) in
          let later : (get_or ks i 0 == other) ≡ false = (let x = later_apart k ks i 0 apart.0 (omega (arith, within)) in grind (arith, nat_tests, x, here)) in
          simp (same, later) refl
      | inr differ ↦ simp differ rest
    ]

pub among-filter : (q : ℕ → Bool) (ks : List ℕ) (other : ℕ) → is_among (filter q ks) other ≡ (is_among ks other && q other)
among-filter q [] other = refl
among-filter q (k ∷ ks) other = elim (cases_Bool (k == other)) [
  | inl same ↦
      let here : k ≡ other = grind (arith, nat_tests, same) in
      elim (cases_Bool (q k)) [
        | inl is ↦ (let too : q other ≡ true = subst (λ n. q n ≡ true) here is in simp (is, same, too) refl)
        | inr is ↦ (let too : q other ≡ false = subst (λ n. q n ≡ false) here is in simp (is, same, too) (among-filter q ks other ∙ simp too (never (is_among ks other))))
      ]
  | inr differ ↦ elim (cases_Bool (q k)) [
    | inl is ↦ simp (is, differ) (among-filter q ks other)
    | inr is ↦ simp (is, differ) (among-filter q ks other)
  ]
] where
  never : (b : Bool) → (b && false) ≡ false
  never true = refl
  never false = refl

pub apart-filter : (q : ℕ → Bool) (ks : List ℕ) → AreApart ks → AreApart (filter q ks)
apart-filter q [] apart = tt
apart-filter q (k ∷ ks) apart = elim (cases_Bool (q k)) [
  | inl is ↦ simp is (among-filter q ks k ∙ rw apart.0 refl, apart-filter q ks apart.1)
  | inr not ↦ simp not (apart-filter q ks apart.1)
]

-- PAIRS

module _ (R : ℕ → ℕ → Type 0) where
  pub pair_at : (ks : List ℕ) (i j d : ℕ) → Pairwise R ks → i < j → j < length ks → R (get_or ks i d) (get_or ks j d)
  pair_at [] i j d pairs less within = absurd (omega (arith, within))
  pair_at (k ∷ ks) i zero d pairs less within = absurd (omega (arith, less))
  pair_at (k ∷ ks) zero (suc j) d pairs less within = pairs.0 (get_or ks j d) (among-get ks j d (omega (arith, within)))
  pair_at (k ∷ ks) (suc i) (suc j) d pairs less within = pair_at ks i j d pairs.1 (omega (arith, less)) (omega (arith, within))

  pub pairs-insert : (ks : List ℕ) (n key : ℕ) → n ≤ length ks → ((i : ℕ) → i < n → R (get_or ks i 0) key) → ((i : ℕ) → n ≤ i → i < length ks → R key (get_or ks i 0)) → Pairwise R ks → Pairwise R (insert ks n key)
  pairs-insert [] zero key within before behind pairs = (λ other is. absurd (cc), tt)
  pairs-insert [] (suc n) key within before behind pairs = absurd (omega (arith, within))
  pairs-insert (k ∷ ks) zero key within before behind pairs = (λ other is. each_among (R key) (k ∷ ks) (λ i less. behind i (omega arith) less) other is, pairs)
  pairs-insert (k ∷ ks) (suc n) key within before behind pairs = (
    λ other is. elim (cases_Bool (key == other)) [
      | inl same ↦ (let here : key ≡ other = grind (arith, nat_tests, same) in subst (R k) here (before 0 (omega arith)))
      | inr differ ↦ pairs.0 other (let is_so : (key == other) || is_among ks other ≡ true = sym (among-insert ks n key other) ∙ is in simp differ at is_so)
    ],
    pairs-insert ks n key (omega (arith, within)) (λ i less. before (suc i) (omega (arith, less))) (λ i least less. behind (suc i) (omega (arith, least)) (omega (arith, less))) pairs.1,
  )

  pub pairs-removed : (ks : List ℕ) (i : ℕ) → Pairwise R ks → Pairwise R (remove ks i)
  pairs-removed [] zero pairs = tt
  pairs-removed [] (suc i) pairs = tt
  pairs-removed (k ∷ ks) zero pairs = pairs.1
  pairs-removed (k ∷ ks) (suc i) pairs = (λ other is. pairs.0 other (stays ks i other is), pairs-removed ks i pairs.1) where
    stays : (ks : List ℕ) (i other : ℕ) → is_among (remove ks i) other ≡ true → is_among ks other ≡ true
    stays [] zero other is = is
    stays [] (suc i) other is = is
    stays (k ∷ ks) zero other is = more_among k other ks is
    stays (k ∷ ks) (suc i) other is = elim (cases_Bool (k == other)) [
      | inl same ↦ simp same refl
      | inr differ ↦ simp differ (stays ks i other (simp differ at is))
    ]

  -- where none stands so to itself, none stands twice
  pub pairs-apart : (ks : List ℕ) → ((k : ℕ) → R k k → ⊥) → Pairwise R ks → AreApart ks
  pairs-apart [] never pairs = tt
  pairs-apart (k ∷ ks) never pairs = (elim (cases_Bool (is_among ks k)) [ inl is ↦ absurd (never k (pairs.0 k is)) | inr none ↦ none ], pairs-apart ks never pairs.1)

  -- those that stand so by another relation
  pub pairs-other : (S : ℕ → ℕ → Type 0) (ks : List ℕ) → ((a b : ℕ) → is_among ks a ≡ true → is_among ks b ≡ true → R a b → S a b) → Pairwise R ks → Pairwise S ks
  pairs-other S [] goes pairs = tt
  pairs-other S (k ∷ ks) goes pairs = (
    λ other is. goes k other (first_among k ks) (more_among k other ks is) (pairs.0 other is),
    pairs-other S ks (λ a b one two r. goes a b (more_among k a ks one) (more_among k b ks two) r) pairs.1,
  )

  pub pairs-filter : (q : ℕ → Bool) (S : ℕ → ℕ → Type 0) (ks : List ℕ) → ((a b : ℕ) → q a ≡ true → q b ≡ true → R a b → S a b) → Pairwise R ks → Pairwise S (filter q ks)
  pairs-filter q S [] goes pairs = tt
  pairs-filter q S (k ∷ ks) goes pairs = elim (cases_Bool (q k)) [
    | inl is ↦ simp is (λ other among. (let both = parts (is_among ks other) (q other) (sym (among-filter q ks other) ∙ among) in goes k other is both.1 (pairs.0 other both.0)), pairs-filter q S ks goes pairs.1)
    | inr not ↦ simp not (pairs-filter q S ks goes pairs.1)
  ] where
    parts : (a b : Bool) → (a && b) ≡ true → (a ≡ true) × (b ≡ true)
    parts true b is = (refl, is)
    parts false b is = absurd (cc)

-- ONE ORDER: lists that rise by the same and have the same members are one
module _ (f : ℕ → ℕ) where
  abbrev pub IsLess : ℕ → ℕ → Type 0
  IsLess a b = f a < f b

  pub same_list : (xs ys : List ℕ) → Pairwise IsLess xs → Pairwise IsLess ys → ((k : ℕ) → is_among xs k ≡ is_among ys k) → xs ≡ ys
  same_list [] [] left right same = refl
  same_list [] (y ∷ ys) left right same = absurd (let is = same y in let there = first_among y ys in cc)
  same_list (x ∷ xs) [] left right same = absurd (let is = same x in let there = first_among x xs in cc)
  same_list (x ∷ xs) (y ∷ ys) left right same = elim (cases_Bool (x == y)) [
    | inl is ↦ (let here : x ≡ y = grind (arith, nat_tests, is) in rw here (ap (λ zs. y ∷ zs) (same_list xs ys left.1 right.1 (rest here))))
    | inr apart ↦ absurd (
        let turned : (y == x) ≡ false = grind (arith, nat_tests, apart) in
        let later : is_among xs y ≡ true = simp apart at (same y ∙ first_among y ys) in
        let sooner : is_among ys x ≡ true = simp turned at (sym (same x) ∙ first_among x xs) in
        let one = left.0 y later in
        let two = right.0 x sooner in
        omega (arith, one, two))
  ] where
    none : (z : ℕ) (zs : List ℕ) → Pairwise IsLess (z ∷ zs) → is_among zs z ≡ false
    none z zs pairs = elim (cases_Bool (is_among zs z)) [ inl is ↦ absurd (let less = pairs.0 z is in omega (arith, less)) | inr not ↦ not ]

    rest : x ≡ y → (k : ℕ) → is_among xs k ≡ is_among ys k
    rest here k = elim (cases_Bool (x == k)) [
      | inl is ↦ (let at : x ≡ k = grind (arith, nat_tests, is) in subst (λ n. is_among xs n ≡ false) at (none x xs left) ∙ sym (subst (λ n. is_among ys n ≡ false) (sym here ∙ at) (none y ys right)))
      | inr apart ↦ (let other : (y == k) ≡ false = grind (arith, nat_tests, apart, here) in let all = same k in simp (apart, other) at all)
    ]

-- A RANGE: those that pass stand from one index to another
pub filter-range : (q : ℕ → Bool) (ks : List ℕ) (start end : ℕ) → start ≤ end → end ≤ length ks → ((i : ℕ) → i < start → q (get_or ks i 0) ≡ false) → ((i : ℕ) → start ≤ i → i < end → q (get_or ks i 0) ≡ true) → ((i : ℕ) → end ≤ i → i < length ks → q (get_or ks i 0) ≡ false) → take (end - start) (drop start ks) ≡ filter q ks
filter-range q [] zero zero least within before inside behind = refl
filter-range q [] start (suc end) least within before inside behind = absurd (omega (arith, within))
filter-range q [] (suc start) zero least within before inside behind = absurd (omega (arith, least))
filter-range q (k ∷ ks) zero zero least within before inside behind = simp (behind 0 (omega arith) (omega arith)) (filter-range q ks zero zero (omega arith) (omega arith) (λ i less. absurd (omega (arith, less))) (λ i least less. absurd (omega (arith, less))) (λ i least less. behind (suc i) (omega arith) (omega (arith, less))))
filter-range q (k ∷ ks) zero (suc end) least within before inside behind =
    let all : suc end - 0 ≡ suc end = omega arith in
    let rest : end - 0 ≡ end = omega arith in
    ap (λ n. take n (k ∷ ks)) all ∙ simp (inside 0 (omega arith) (omega arith)) (ap (λ l. k ∷ l) (ap (λ n. take n ks) (sym rest) ∙ filter-range q ks zero end (omega arith) (omega (arith, within)) (λ i less. absurd (omega (arith, less))) (λ i least less. inside (suc i) (omega arith) (omega (arith, less))) (λ i least less. behind (suc i) (omega (arith, least)) (omega (arith, less)))))
filter-range q (k ∷ ks) (suc start) zero least within before inside behind = absurd (omega (arith, least))
filter-range q (k ∷ ks) (suc start) (suc end) least within before inside behind =
    let same : suc end - suc start ≡ end - start = omega arith in
    simp (before 0 (omega arith)) (ap (λ n. take n (drop start ks)) same ∙ filter-range q ks start end (omega (arith, least)) (omega (arith, within)) (λ i less. before (suc i) (omega (arith, less))) (λ i least less. inside (suc i) (omega (arith, least)) (omega (arith, less))) (λ i least less. behind (suc i) (omega (arith, least)) (omega (arith, less))))

-- A COUNT: no more keys than those that they are among
module _ where
  one_less : (ks : List ℕ) (key : ℕ) → is_among ks key ≡ true → length (filter (λ k. not (k == key)) ks) < length ks
  one_less [] key is = absurd (cc)
  one_less (k ∷ ks) key is = elim (cases_Bool (k == key)) [
    | inl same ↦ simp same (let x = shorter ks in omega (arith, x))
    | inr apart ↦ simp apart (let x = one_less ks key (simp apart at is) in omega (arith, x))
  ] where
    shorter : (ks : List ℕ) → length (filter (λ k. not (k == key)) ks) ≤ length ks
    shorter [] = omega arith
    shorter (k ∷ ks) = let x = shorter ks in elim (cases_Bool (k == key)) [ inl same ↦ simp same (omega (arith, x)) | inr apart ↦ simp apart (omega (arith, x)) ]

  pub no_more : (xs ys : List ℕ) → AreApart xs → ((k : ℕ) → is_among xs k ≡ true → is_among ys k ≡ true) → length xs ≤ length ys
  no_more [] ys apart within = omega arith
  no_more (x ∷ xs) ys apart within =
      let rest = filter (λ k. not (k == x)) ys in
      let fewer = one_less ys x (within x (first_among x xs)) in
      let less = no_more xs rest apart.1 (λ k is. among-filter (λ k. not (k == x)) ys k ∙ both (is_among ys k) (k == x) (within k (more_among x k xs is)) (elim (cases_Bool (k == x)) [
        | inl same ↦ absurd (let here : k ≡ x = grind (arith, nat_tests, same) in let wrong : is_among xs x ≡ true = subst (λ n. is_among xs n ≡ true) here is in let right = apart.0 in cc)
        | inr differ ↦ differ
      ])) in
      omega (arith, fewer, less) where
        both : (a b : Bool) → a ≡ true → b ≡ false → (a && not b) ≡ true
        both true false one two = refl
        both a true one two = absurd (cc)
        both false b one two = absurd (cc)

pub ruleset pairs = (each_among, no_more)
