-- Those that are listed under a link, and those of a realm that have it.
use Rattle.std.proofs.Common.{◌≡◌, ℕ, zero, suc, List, [], ◌∷◌, Option, Some, None, Bool, true, false, refl, ap, arith, ◌∙◌, sym, subst, inl, inr, ◌≤◌, length}
use Rattle.std.specs.Prelude.{◌==◌, ◌&&◌, IfSome, IsSome, cond, filter, is_some, slice_get}
use Rattle.std.specs.List.{find}
use Rattle.std.proofs.lemmas.Bool.{and_parts, cases_Bool}
use Rattle.std.proofs.lemmas.Bool.Decides.{nat_tests}
use Rattle.slab.specs.Slab.{Slab, get}
use Rattle.tip_table.specs.declared.table.Entry.{Entry}
use Rattle.tip_table.specs.declared.link.Linked.{Ghosts}
use Rattle.tip_table.specs.declared.links.Unlisted.{Unlisted}
use Rattle.tip_table.specs.declared.links.Unlisted.TheVariants.{Nothing, One, Any}
use Rattle.tip_table.specs.Entries.{AreThere, IsFirstAt, Pairwise, is_among, item_before, items_at, own_keys, passes_in, realm_in}
use Rattle.tip_table.specs.Lists.{IsFirst}
use Rattle.tip_table.specs.Links.{IsRight, fits_in, AreEnough, IsIndex, IsKnown, IsOlder, IsWhole, Stands, is_link, is_listed, linked_in, listed_in}
use Rattle.tip_table.proofs.Linking.{Comes, age_of, comes-so, link_of, listed-link, realm_of}
use Rattle.tip_table.proofs.OwnLemmas.{among-own, length-items}
use Rattle.tip_table.proofs.Pairs.{IsLess, among-filter, first_among, more_among, pairs-filter, same_list}

filter-all : (ks : List ℕ) → ks ≡ filter (λ _. true) ks
filter-all [] = refl
filter-all (k ∷ ks) = ap (λ l. k ∷ l) (filter-all ks)

module _ {T : Type 0} (link : Ghosts T) (slots : Slab (Entry T)) (keys : List ℕ) (realm : ℕ) where
  abbrev own : List ℕ
  own = own_keys slots keys realm

  -- all of a realm are enough
  pub all_enough : (aim : Option ℕ) → AreEnough link slots own aim own
  all_enough aim = record { kept = λ _. true; are = filter-all own; all = λ key among its. refl; fits = λ key among out. absurd (cc) }

  own-filter : (ks : List ℕ) → own_keys slots ks realm ≡ filter (λ key. realm_in (get slots key) == realm) ks
  own-filter [] = refl
  own-filter (k ∷ ks) = ap (λ l. cond (realm_in (get slots k) == realm) (k ∷ l) l) (own-filter ks)

  -- what is whole has each item that has a link
  whole : (links : List ℕ) (unlisted : Unlisted) → IsKnown link slots keys links unlisted → IsWhole link slots unlisted → IsIndex slots keys links × ((key : ℕ) → is_among keys key ≡ true → IsRight link (get slots key))
  whole links Nothing known is = (known.0, λ key among. known.1 key among (λ wrong. absurd (cc)))
  whole links (One other) known is = (
    known.0,
    λ key among. elim (cases_Bool (other == key)) [
      | inl same ↦ (let here : other ≡ key = grind (arith, nat_tests, same) in subst (λ k. IsRight link (get slots k)) here is)
      | inr apart ↦ known.1 key among (λ wrong. (let here : other ≡ key = cc in let same : (other == key) ≡ true = grind (arith, nat_tests, here) in absurd (cc)))
    ],
  )
  whole links Any known is = absurd is

  module _ (aim : ℕ) (links : List ℕ) (index : IsIndex slots keys links) where
    abbrev its : ℕ → Bool
    its key = is_listed realm aim (get slots key)

    its-realm : (key : ℕ) → its key ≡ true → realm_of slots key ≡ realm
    its-realm key is = let parts = and_parts (realm_of slots key == realm) (is_link (listed_in (get slots key)) aim) is in let x = parts.0 in grind (arith, nat_tests, x)

    its-link : (key : ℕ) → its key ≡ true → link_of slots key ≡ aim
    its-link key is = listed-link slots realm aim (listed_in (get slots key)) (and_parts (realm_of slots key == realm) (is_link (listed_in (get slots key)) aim) is).1

    -- of one realm and one link, those that stand before others were made before them
    older : (a b : ℕ) → its a ≡ true → its b ≡ true → Stands slots a b → IsLess (age_of slots) a b
    older a b one two stands = by (comes-so (realm_of slots a) (link_of slots a) (age_of slots a) (realm_of slots b) (link_of slots b) (age_of slots b) stands) where
      same : realm_of slots a ≡ realm_of slots b
      same = its-realm a one ∙ sym (its-realm b two)

      linked : link_of slots a ≡ link_of slots b
      linked = its-link a one ∙ sym (its-link b two)

      by : Comes (realm_of slots a) (link_of slots a) (age_of slots a) (realm_of slots b) (link_of slots b) (age_of slots b) → IsLess (age_of slots) a b
      by (inl less) = let x = same in absurd (omega (arith, less, x))
      by (inr (inl both)) = let less = both.1 in let x = linked in absurd (omega (arith, less, x))
      by (inr (inr all)) = all.2

    rises : Pairwise (IsLess (age_of slots)) (filter its own)
    rises = subst (λ ks. Pairwise (IsLess (age_of slots)) (filter its ks)) (sym (own-filter keys))
        (pairs-filter (IsOlder slots) its (IsLess (age_of slots)) (filter (λ key. realm_in (get slots key) == realm) keys) (λ a b one two made. made (its-realm a one ∙ sym (its-realm b two)))
        (pairs-filter (IsOlder slots) (λ key. realm_in (get slots key) == realm) (IsOlder slots) keys (λ a b one two made. made) index.older))

    members : (key : ℕ) → is_among (filter its links) key ≡ is_among (filter its own) key
    members key = among-filter its links key ∙ ap (λ b. b && its key) (index.among key) ∙ both (is_among keys key) (listed_in (get slots key)) (realm_of slots key == realm) ∙ sym (among-filter its own key ∙ ap (λ b. b && its key) (among-own slots keys realm key)) where
      both : (a : Bool) (listed : Option ℕ) (r : Bool) → ((a && is_some listed) && (r && is_link listed aim)) ≡ ((a && r) && (r && is_link listed aim))
      both true (Some other) true = refl
      both true (Some other) false = refl
      both true None true = refl
      both true None false = refl
      both false listed true = refl
      both false listed false = refl

    pub listed_enough : ((key : ℕ) → is_among keys key ≡ true → IsRight link (get slots key)) → AreEnough link slots own (Some aim) (filter its links)
    listed_enough every = record {
      kept = its;
      are = same_list (age_of slots) (filter its links) (filter its own) (pairs-filter (Stands slots) its (IsLess (age_of slots)) links older index.are.sorted) rises members;
      all = λ key among is.
          let parts = and_parts (is_among keys key) (realm_of slots key == realm) (sym (among-own slots keys realm key) ∙ among) in
          let listed : listed_in (get slots key) ≡ Some aim = subst (λ o. IfSome o (λ its. listed_in (get slots key) ≡ Some its)) is (every key parts.0).0 in
          let own : (aim == aim) ≡ true = grind (arith, nat_tests) in
          rw (parts.1, listed) own;
      fits = λ key among out. (every key (and_parts (is_among keys key) (realm_of slots key == realm) (sym (among-own slots keys realm key) ∙ among)).0).1;
    }

  pub aimed_enough : (links : List ℕ) (unlisted : Unlisted) (aim : ℕ) → IsKnown link slots keys links unlisted → IsWhole link slots unlisted → AreEnough link slots own (Some aim) (filter (λ key. is_listed realm aim (get slots key)) links)
  aimed_enough links unlisted aim known is = let all = whole links unlisted known is in listed_enough aim links all.0 all.1

module _ {T : Type 0} (slots : Slab (Entry T)) where
  fewer-kept : (kept : ℕ → Bool) (ks : List ℕ) → length (filter kept ks) ≤ length ks
  fewer-kept kept [] = omega arith
  fewer-kept kept (k ∷ ks) = let rest = fewer-kept kept ks in elim (cases_Bool (kept k)) [
    | inl is ↦ simp is (omega (arith, rest))
    | inr out ↦ simp out (omega (arith, rest))
  ]

  there-kept : (kept : ℕ → Bool) (ks : List ℕ) → AreThere slots ks → AreThere slots (filter kept ks)
  there-kept kept [] there = tt
  there-kept kept (k ∷ ks) there = elim (cases_Bool (kept k)) [
    | inl is ↦ simp is (there.0, there-kept kept ks there.1)
    | inr out ↦ simp out (there-kept kept ks there.1)
  ]

  -- they are no more than all
  pub enough-fewer : (link : Ghosts T) (own some : List ℕ) (aim : Option ℕ) → AreEnough link slots own aim some → AreThere slots own → length (items_at slots some) ≤ length (items_at slots own)
  enough-fewer link own some aim enough there =
      let less = fewer-kept enough.kept own in
      let all = length-items slots own there in
      let few : length (items_at slots some) ≡ length (filter enough.kept own) = ap (λ ks. length (items_at slots ks)) enough.are ∙ length-items slots (filter enough.kept own) (there-kept enough.kept own there) in
      omega (arith, less, all, few)

-- AMONG THOSE THAT ARE ENOUGH all are that pass
module _ {T : Type 0} (link : Ghosts T) (slots : Slab (Entry T)) (aim : Option ℕ) (test : T → Bool) (aims : IfSome aim (λ one. (item : T) → link.fits item → test item ≡ true → link.link item ≡ Some one)) where
  abbrev passes : ℕ → Bool
  passes key = passes_in test (get slots key)

  abbrev Skips : (ℕ → Bool) → List ℕ → Type 0
  Skips kept keys = (key : ℕ) → is_among keys key ≡ true → kept key ≡ false → passes key ≡ false

  linked-passing : (one : ℕ) → ((item : T) → link.fits item → test item ≡ true → link.link item ≡ Some one) → (o : Option (Entry T)) → fits_in link o → passes_in test o ≡ true → linked_in link o ≡ Some one
  linked-passing one only None fits is = absurd (cc)
  linked-passing one only (Some entry) fits is = only entry.item fits is

  aimed-at : (key : ℕ) → fits_in link (get slots key) → passes key ≡ true → IfSome aim (λ one. linked_in link (get slots key) ≡ Some one)
  aimed-at key fits is = by aim aims where
    by : (o : Option ℕ) → IfSome o (λ one. (item : T) → link.fits item → test item ≡ true → link.link item ≡ Some one) → IfSome o (λ one. linked_in link (get slots key) ≡ Some one)
    by None only = tt
    by (Some one) only = linked-passing one only (get slots key) fits is

  skips : (own some : List ℕ) → (enough : AreEnough link slots own aim some) → Skips enough.kept own
  skips own some enough key among left = elim (cases_Bool (passes key)) [
    | inl is ↦ absurd (let kept = enough.all key among (aimed-at key (enough.fits key among left) is) in cc)
    | inr not ↦ not
  ]

  behind-skips : (kept : ℕ → Bool) (k : ℕ) (ks : List ℕ) → Skips kept (k ∷ ks) → Skips kept ks
  behind-skips kept k ks skips key among = skips key (more_among k key ks among)

  filter-skips : (kept : ℕ → Bool) (ks : List ℕ) → Skips kept ks → filter test (items_at slots (filter kept ks)) ≡ filter test (items_at slots ks)
  filter-skips kept [] skips = refl
  filter-skips kept (k ∷ ks) skips = elim (cases_Bool (kept k)) [
    | inl is ↦ simp is (step (get slots k) (filter-skips kept ks (behind-skips kept k ks skips)))
    | inr not ↦ simp not (filter-skips kept ks (behind-skips kept k ks skips) ∙ sym (skip (get slots k) (skips k (first_among k ks) not)))
  ] where
    step : (o : Option (Entry T)) → filter test (items_at slots (filter kept ks)) ≡ filter test (items_at slots ks) → filter test (item_before o (items_at slots (filter kept ks))) ≡ filter test (item_before o (items_at slots ks))
    step None rest = rest
    step (Some entry) rest = ap (λ l. cond (test entry.item) (entry.item ∷ l) l) rest

    skip : (o : Option (Entry T)) → passes_in test o ≡ false → filter test (item_before o (items_at slots ks)) ≡ filter test (items_at slots ks)
    skip None not = refl
    skip (Some entry) not = simp not refl

  first-skips : (kept : ℕ → Bool) (ks : List ℕ) → AreThere slots ks → Skips kept ks → (at key : ℕ) → slice_get (filter kept ks) at ≡ Some key → IsFirst test (items_at slots (filter kept ks)) at → IsFirstAt slots test ks key
  first-skips kept [] there skips at key here first = absurd (cc)
  first-skips kept (k ∷ ks) there skips at key here first = elim (cases_Bool (kept k)) [
    | inl is ↦ step (get slots k) refl there.0 at (simp is at here) (simp is at first) (λ later got rest. first-skips kept ks there.1 (behind-skips kept k ks skips) later key got rest)
    | inr not ↦ behind (get slots k) refl there.0 (skips k (first_among k ks) not) (first-skips kept ks there.1 (behind-skips kept k ks skips) at key (simp not at here) (simp not at first))
  ] where
    behind : (o : Option (Entry T)) → get slots k ≡ o → IsSome o → passes_in test o ≡ false → IsFirstAt slots test ks key → IsFirstAt slots test (k ∷ ks) key
    behind None is some not rest = absurd (cc)
    behind (Some entry) is some not rest = record { at = suc rest.at; here = rest.here; first = subst (λ (o : Option (Entry T)). IsFirst test (item_before o (items_at slots ks)) (suc rest.at)) (sym is) (not, rest.first) }

    step : (o : Option (Entry T)) → get slots k ≡ o → IsSome o → (at : ℕ) → slice_get (k ∷ filter kept ks) at ≡ Some key → IsFirst test (item_before o (items_at slots (filter kept ks))) at → ((later : ℕ) → slice_get (filter kept ks) later ≡ Some key → IsFirst test (items_at slots (filter kept ks)) later → IsFirstAt slots test ks key) → IsFirstAt slots test (k ∷ ks) key
    step None is some at here first rest = absurd (cc)
    step (Some entry) is some zero here first rest = record { at = 0; here = here; first = subst (λ (o : Option (Entry T)). IsFirst test (item_before o (items_at slots ks)) 0) (sym is) first }
    step (Some entry) is some (suc at) here first rest = behind (Some entry) is some first.0 (rest at here first.1)

  pub enough-filter : (own some : List ℕ) → AreEnough link slots own aim some → filter test (items_at slots some) ≡ filter test (items_at slots own)
  enough-filter own some enough = ap (λ ks. filter test (items_at slots ks)) enough.are ∙ filter-skips enough.kept own (skips own some enough)

  pub enough-first : (own some : List ℕ) → AreEnough link slots own aim some → AreThere slots own → (at key : ℕ) → slice_get some at ≡ Some key → IsFirst test (items_at slots some) at → IsFirstAt slots test own key
  enough-first own some enough there at key here first = first-skips enough.kept own there (skips own some enough) at key (subst (λ ks. slice_get ks at ≡ Some key) enough.are here) (subst (λ ks. IsFirst test (items_at slots ks) at) enough.are first)

  pub enough-there : (own some : List ℕ) → AreEnough link slots own aim some → AreThere slots own → AreThere slots some
  enough-there own some enough there = subst (AreThere slots) (sym enough.are) (there-kept slots enough.kept own there)

  pub enough-none : (own some : List ℕ) → AreEnough link slots own aim some → find test (items_at slots some) ≡ None → find test (items_at slots own) ≡ None
  enough-none own some enough none = by own (skips own some enough) (subst (λ ks. find test (items_at slots ks) ≡ None) enough.are none) where
    by : (ks : List ℕ) → Skips enough.kept ks → find test (items_at slots (filter enough.kept ks)) ≡ None → find test (items_at slots ks) ≡ None
    by [] skips none = refl
    by (k ∷ ks) skips none = elim (cases_Bool (enough.kept k)) [
      | inl is ↦ step (get slots k) (by ks (behind-skips enough.kept k ks skips)) (simp is at none)
      | inr not ↦ skip (get slots k) (skips k (first_among k ks) not) (by ks (behind-skips enough.kept k ks skips) (simp not at none))
    ] where
      step : (o : Option (Entry T)) → (find test (items_at slots (filter enough.kept ks)) ≡ None → find test (items_at slots ks) ≡ None) → find test (item_before o (items_at slots (filter enough.kept ks))) ≡ None → find test (item_before o (items_at slots ks)) ≡ None
      step None rest none = rest none
      step (Some entry) rest none = elim (cases_Bool (test entry.item)) [
        | inl passes ↦ absurd (let wrong : Some entry.item ≡ None = simp passes at none in cc)
        | inr not ↦ simp not (rest (simp not at none))
      ]

      skip : (o : Option (Entry T)) → passes_in test o ≡ false → find test (items_at slots ks) ≡ None → find test (item_before o (items_at slots ks)) ≡ None
      skip None not rest = rest
      skip (Some entry) not rest = simp not rest
