-- What is known of those that are listed, where slots and keys change.
use Rattle.std.proofs.Common.{◌≡◌, ◌≢◌, ◌⊎◌, ◌<◌, ◌≤◌, ℕ, List, [], ◌∷◌, length, get_or, Option, Some, None, Bool, true, false, refl, ap, arith, ◌∙◌, sym, subst, inl, inr}
use Rattle.std.specs.Prelude.{◌+◌, ◌-◌, ◌==◌, ◌&&◌, IfSome, IsSome, insert, is_some, nat_lt, not, option_map, remove}
use Rattle.std.proofs.lemmas.Bool.{and_parts, cases_Bool}
use Rattle.std.proofs.lemmas.Bool.Decides.{nat_tests}
use Rattle.slab.specs.Slab.{Slab, Updates, get, slab_len, with_value}
use Rattle.slab.proofs.SlabLemmas.{Updates-with_value}
use Rattle.tip_table.specs.declared.table.Entry.{Entry}
use Rattle.tip_table.specs.declared.link.Linked.{Ghosts}
use Rattle.tip_table.specs.declared.links.Unlisted.{Unlisted}
use Rattle.tip_table.specs.declared.links.Unlisted.TheVariants.{Nothing, One, Any}
use Rattle.tip_table.specs.Entries.{AreApart, AreThere, IsOrder, Pairwise, Placed, count_below, is_among, placed_at, placed_before, realm_in}
use Rattle.tip_table.specs.Links.{IsRight, fits_in, AreCounted, AreLinks, AreListed, IsIndex, IsKnown, IsOlder, IsRelisted, IsStruck, MayLeave, MayList, MaySettle, Settles, Stands, left, lent, linked_in, listed_in, made_in, relisted}
use Rattle.tip_table.proofs.KeyLemmas.{among-get, among-insert, differs}
use Rattle.tip_table.proofs.Linking.{stands-never}
use Rattle.tip_table.proofs.OwnLemmas.{splits}
use Rattle.tip_table.proofs.Pairs.{among-removed, no_more, pairs-apart, pairs-insert, pairs-other, pairs-removed}
use Rattle.tip_table.proofs.Relisting.{apart_by, turned}
use Rattle.tip_table.proofs.Shelving.{order-same}
use Rattle.tip_table.proofs.SlotLemmas.{fresh}

-- an entry of the same realm and age, and listed as it was
pub record IsAlike {T : Type 0} (old new : Option (Entry T)) : Type 0 where
  pub realm : realm_in new ≡ realm_in old
  pub made : made_in new ≡ made_in old
  pub listed : listed_in new ≡ listed_in old

pub alike : {T : Type 0} (old new : Option (Entry T)) → new ≡ old → IsAlike old new
alike old new same = record { realm = ap realm_in same; made = ap made_in same; listed = ap listed_in same }

module _ {T : Type 0} (old new : Slab (Entry T)) (keys links : List ℕ) (same : (key : ℕ) → is_among keys key ≡ true → IsAlike (get old key) (get new key)) where
  older-alike : (some : List ℕ) → ((key : ℕ) → is_among some key ≡ true → is_among keys key ≡ true) → Pairwise (IsOlder old) some → Pairwise (IsOlder new) some
  older-alike some within pairs = pairs-other (IsOlder old) (IsOlder new) some (λ a b one two made. by a b (same a (within a one)) (same b (within b two)) made) pairs where
    by : (a b : ℕ) → IsAlike (get old a) (get new a) → IsAlike (get old b) (get new b) → IsOlder old a b → IsOlder new a b
    by a b one two made = λ own. rw (one.made, two.made) (made (sym one.realm ∙ own ∙ two.realm))

  links-alike : (some : List ℕ) → ((key : ℕ) → is_among some key ≡ true → is_among keys key ≡ true) → AreLinks old some → AreLinks new some
  links-alike some within are = record {
    sorted = pairs-other (Stands old) (Stands new) some (λ a b one two stands. by a b (same a (within a one)) (same b (within b two)) stands) are.sorted;
    listed = λ key there. subst IsSome (sym (same key (within key there)).listed) (are.listed key there);
  } where
    by : (a b : ℕ) → IsAlike (get old a) (get new a) → IsAlike (get old b) (get new b) → Stands old a b → Stands new a b
    by a b one two stands = rw (one.realm, one.made, one.listed, two.realm, two.made, two.listed) stands

module _ {T : Type 0} where
  within_keys : (slots : Slab (Entry T)) (keys links : List ℕ) → IsIndex slots keys links → (key : ℕ) → is_among links key ≡ true → is_among keys key ≡ true
  within_keys slots keys links index key there = (and_parts (is_among keys key) (is_some (listed_in (get slots key))) (sym (index.among key) ∙ there)).0

  pub index-alike : (old new : Slab (Entry T)) (keys links : List ℕ) → ((key : ℕ) → is_among keys key ≡ true → IsAlike (get old key) (get new key)) → IsIndex old keys links → IsIndex new keys links
  index-alike old new keys links same index = record {
    older = older-alike old new keys links same keys (λ key there. there) index.older;
    are = links-alike old new keys links same links (within_keys old keys links index) index.are;
    among = λ key. index.among key ∙ elim (cases_Bool (is_among keys key)) [
      | inl there ↦ ap (λ l. is_among keys key && is_some l) (sym (same key there).listed)
      | inr apart ↦ rw apart refl
    ];
  }

  module _ (link : Ghosts T) where
    pub listed-alike : (old new : Slab (Entry T)) (keys : List ℕ) (but : Option ℕ) → ((key : ℕ) → is_among keys key ≡ true → IsAlike (get old key) (get new key)) → ((key : ℕ) → is_among keys key ≡ true → but ≢ Some key → IfSome (linked_in link (get new key)) (λ its. linked_in link (get old key) ≡ Some its)) → ((key : ℕ) → is_among keys key ≡ true → but ≢ Some key → fits_in link (get old key) → fits_in link (get new key)) → AreListed link old keys but → AreListed link new keys but
    listed-alike old new keys but same linked fits every key there differ = (by (linked_in link (get new key)) (linked key there differ), fits key there differ (every key there differ).1) where
      by : (o : Option ℕ) → IfSome o (λ its. linked_in link (get old key) ≡ Some its) → IfSome o (λ its. listed_in (get new key) ≡ Some its)
      by None is = tt
      by (Some its) is = (same key there).listed ∙ subst (λ o. IfSome o (λ its. listed_in (get old key) ≡ Some its)) is (every key there differ).0

    -- a link that is the same
    linked-same : (key : ℕ) (old new : Slab (Entry T)) → linked_in link (get new key) ≡ linked_in link (get old key) → IfSome (linked_in link (get new key)) (λ its. linked_in link (get old key) ≡ Some its)
    linked-same key old new same = by (linked_in link (get new key)) same where
      by : (o : Option ℕ) → o ≡ linked_in link (get old key) → IfSome o (λ its. linked_in link (get old key) ≡ Some its)
      by None is = tt
      by (Some its) is = sym is

    pub known-alike : (old new : Slab (Entry T)) (keys links : List ℕ) (unlisted : Unlisted) → ((key : ℕ) → is_among keys key ≡ true → IsAlike (get old key) (get new key)) → ((key : ℕ) → is_among keys key ≡ true → IfSome (linked_in link (get new key)) (λ its. linked_in link (get old key) ≡ Some its)) → ((key : ℕ) → is_among keys key ≡ true → fits_in link (get old key) → fits_in link (get new key)) → IsKnown link old keys links unlisted → IsKnown link new keys links unlisted
    known-alike old new keys links Nothing same linked fits known = (index-alike old new keys links same known.0, listed-alike old new keys None same (λ key there differ. linked key there) (λ key there differ. fits key there) known.1)
    known-alike old new keys links (One one) same linked fits known = (index-alike old new keys links same known.0, listed-alike old new keys (Some one) same (λ key there differ. linked key there) (λ key there differ. fits key there) known.1, known.2)
    known-alike old new keys links Any same linked fits known = tt

    pub counted-alike : (old new : Slab (Entry T)) (keys : List ℕ) (made : ℕ) (unlisted : Unlisted) → ((key : ℕ) → is_among keys key ≡ true → IsAlike (get old key) (get new key)) → AreCounted old keys made unlisted → AreCounted new keys made unlisted
    counted-alike old new keys made Nothing same counted = λ key there. rw (same key there).made (counted key there)
    counted-alike old new keys made (One one) same counted = λ key there. rw (same key there).made (counted key there)
    counted-alike old new keys made Any same counted = tt

    -- the same slots with other room
    pub known-room : (old new : Slab (Entry T)) (keys links : List ℕ) (unlisted : Unlisted) → new.slots ≡ old.slots → IsKnown link old keys links unlisted → IsKnown link new keys links unlisted
    known-room old new keys links unlisted same known = known-alike old new keys links unlisted (λ key there. alike (get old key) (get new key) (here key)) (λ key there. linked-same key old new (ap (linked_in link) (here key))) (λ key there. subst (fits_in link) (sym (here key))) known where
      here : (key : ℕ) → get new key ≡ get old key
      here key = rw same refl

    pub counted-room : (old new : Slab (Entry T)) (keys : List ℕ) (made : ℕ) (unlisted : Unlisted) → new.slots ≡ old.slots → AreCounted old keys made unlisted → AreCounted new keys made unlisted
    counted-room old new keys made unlisted same counted = counted-alike old new keys made unlisted (λ key there. alike (get old key) (get new key) (rw same refl)) counted

    -- ONE LISTED UNDER ANOTHER LINK
    pub may_list : (slots : Slab (Entry T)) (keys links : List ℕ) (room key : ℕ) → IsIndex slots keys links → is_among keys key ≡ true → length keys ≤ room → MayList slots links room key
    may_list slots keys links room key index there space = record {
      are = index.are;
      among = index.among key ∙ rw there refl;
      ages = λ other among differ own age. unlike keys index.older other (within_keys slots keys links index other among) there differ own age;
      space = λ missing.
          let fewer = no_more (key ∷ links) keys (missing, pairs-apart (Stands slots) links (stands-never slots) index.are.sorted) (λ k is. elim (cases_Bool (key == k)) [
            | inl same ↦ (let here : key ≡ k = grind (arith, nat_tests, same) in subst (λ n. is_among keys n ≡ true) here there)
            | inr apart ↦ within_keys slots keys links index k (simp apart at is)
          ]) in
          omega (arith, fewer, space);
    } where
      -- two of one realm are not as old
      unlike : (ks : List ℕ) → Pairwise (IsOlder slots) ks → (other : ℕ) → is_among ks other ≡ true → is_among ks key ≡ true → other ≢ key → realm_in (get slots other) ≡ realm_in (get slots key) → made_in (get slots other) ≢ made_in (get slots key)
      unlike [] pairs other one two differ own = absurd (cc)
      unlike (k ∷ ks) pairs other one two differ own = λ age. elim (cases_Bool (k == other)) [
        | inl first ↦ elim (cases_Bool (k == key)) [
          | inl second ↦ absurd (let a : k ≡ other = grind (arith, nat_tests, first) in let b : k ≡ key = grind (arith, nat_tests, second) in differ (sym a ∙ b))
          | inr later ↦ absurd (
              let here : k ≡ other = grind (arith, nat_tests, first) in
              let less = subst (λ n. IsOlder slots n key) here (pairs.0 key (simp later at two)) own in
              omega (arith, less, age))
        ]
        | inr behind ↦ elim (cases_Bool (k == key)) [
          | inl second ↦ absurd (
              let here : k ≡ key = grind (arith, nat_tests, second) in
              let less = subst (λ n. IsOlder slots n other) here (pairs.0 other (simp behind at one)) (sym own) in
              omega (arith, less, age))
          | inr later ↦ unlike ks pairs.1 other (simp behind at one) (simp later at two) differ own age
        ]
      ]

    module _ (key : ℕ) (under : Option ℕ) (old new : Slab (Entry T)) (before after : List ℕ) (is : IsRelisted key under old before new after) where
      -- what it has but for what it is listed under
      kept-of : {X : Type 0} (f : Option (Entry T) → X) → ((o : Option (Entry T)) → f (option_map (relisted under) o) ≡ f o) → (k : ℕ) → f (get new k) ≡ f (get old k)
      kept-of f keeps k = elim (cases_Bool (key == k)) [
        | inl same ↦ (let here : key ≡ k = grind (arith, nat_tests, same) in subst (λ n. f (get new n) ≡ f (get old n)) here (ap f is.changed ∙ keeps (get old key)))
        | inr apart ↦ ap f (is.others k (turned key k apart))
      ]

      pub relisted-realm : (k : ℕ) → realm_in (get new k) ≡ realm_in (get old k)
      relisted-realm = kept-of realm_in keeps where
        keeps : (o : Option (Entry T)) → realm_in (option_map (relisted under) o) ≡ realm_in o
        keeps None = refl
        keeps (Some entry) = refl

      relisted-made : (k : ℕ) → made_in (get new k) ≡ made_in (get old k)
      relisted-made = kept-of made_in keeps where
        keeps : (o : Option (Entry T)) → made_in (option_map (relisted under) o) ≡ made_in o
        keeps None = refl
        keeps (Some entry) = refl

      relisted-linked : (k : ℕ) → linked_in link (get new k) ≡ linked_in link (get old k)
      relisted-linked = kept-of (linked_in link) keeps where
        keeps : (o : Option (Entry T)) → linked_in link (option_map (relisted under) o) ≡ linked_in link o
        keeps None = refl
        keeps (Some entry) = refl

      there-relisted : (k : ℕ) → IsSome (get old k) → IsSome (get new k)
      there-relisted k some = elim (cases_Bool (key == k)) [
        | inl same ↦ (let here : key ≡ k = grind (arith, nat_tests, same) in subst (λ n. IsSome (get new n)) here (subst IsSome (sym is.changed) (by (get old key) (subst (λ n. IsSome (get old n)) (sym here) some))))
        | inr apart ↦ subst IsSome (sym (is.others k (turned key k apart))) some
      ] where
        by : (o : Option (Entry T)) → IsSome o → IsSome (option_map (relisted under) o)
        by None some = absurd (cc)
        by (Some entry) some = refl

      pub are_there-relisted : (keys : List ℕ) → AreThere old keys → AreThere new keys
      are_there-relisted [] there = tt
      are_there-relisted (k ∷ ks) there = (there-relisted k there.0, are_there-relisted ks there.1)

      pub index-relisted : (keys : List ℕ) → is_among keys key ≡ true → IsIndex old keys before → IsIndex new keys after
      index-relisted keys there index = record {
        older = pairs-other (IsOlder old) (IsOlder new) keys (λ a b one two made own. rw (relisted-made a, relisted-made b) (made (sym (relisted-realm a) ∙ own ∙ relisted-realm b))) index.older;
        are = is.are;
        among = λ k. is.among k ∙ elim (cases_Bool (key == k)) [
          | inl same ↦ (let here : key ≡ k = grind (arith, nat_tests, same) in simp same (subst (λ n. (is_some under && is_some (get old key)) ≡ (is_among keys n && is_some (listed_in (get new n)))) here (rw (there, is.changed) (by (get old key)))))
          | inr apart ↦ simp apart (index.among k ∙ ap (λ (o : Option (Entry T)). is_among keys k && is_some (listed_in o)) (sym (is.others k (turned key k apart))))
        ];
      } where
        by : (o : Option (Entry T)) → (is_some under && is_some o) ≡ is_some (listed_in (option_map (relisted under) o))
        by None = never (is_some under) where
          never : (b : Bool) → (b && false) ≡ false
          never true = refl
          never false = refl
        by (Some entry) = always (is_some under) where
          always : (b : Bool) → (b && true) ≡ b
          always true = refl
          always false = refl

      -- it is listed as it should
      pub listed-relisted : (keys : List ℕ) → under ≡ linked_in link (get old key) → fits_in link (get old key) → AreListed link old keys (Some key) → AreListed link new keys None
      listed-relisted keys right fits every k there differ = elim (cases_Bool (key == k)) [
        | inl same ↦ (let here : key ≡ k = grind (arith, nat_tests, same) in subst (λ n. IsRight link (get new n)) here (rw is.changed (by (get old key) right fits)))
        | inr apart ↦ subst (IsRight link) (sym (is.others k (turned key k apart))) (every k there (λ wrong. (let here : key ≡ k = cc in let same : (key == k) ≡ true = grind (arith, nat_tests, here) in absurd (cc))))
      ] where
        by : (o : Option (Entry T)) → under ≡ linked_in link o → fits_in link o → IsRight link (option_map (relisted under) o)
        by None right fits = (tt, tt)
        by (Some entry) right fits = (linked (link.link entry.item) right, fits) where
          linked : (o : Option ℕ) → under ≡ o → IfSome o (λ its. under ≡ Some its)
          linked None right = tt
          linked (Some its) right = right

      pub counted-relisted : (keys : List ℕ) (made : ℕ) → ((k : ℕ) → is_among keys k ≡ true → made_in (get old k) < made) → (k : ℕ) → is_among keys k ≡ true → made_in (get new k) < made
      counted-relisted keys made counted k there = rw (relisted-made k) (counted k there)

      placed-relisted : (keys : List ℕ) → placed_at new keys ≡ placed_at old keys
      placed-relisted [] = refl
      placed-relisted (k ∷ ks) = kept-of (λ o. placed_before k o (placed_at new ks)) (keeps (placed_at new ks)) k ∙ ap (placed_before k (get old k)) (placed-relisted ks) where
        keeps : (others : List (Placed T)) (o : Option (Entry T)) → placed_before k (option_map (relisted under) o) others ≡ placed_before k o others
        keeps others None = refl
        keeps others (Some entry) = refl

    -- WHAT WAS LENT IS LISTED
    pub may_settle : (slots : Slab (Entry T)) (keys links : List ℕ) (room : ℕ) (unlisted : Unlisted) → IsKnown link slots keys links unlisted → length keys ≤ room → MaySettle slots links room unlisted
    may_settle slots keys links room Nothing known space = tt
    may_settle slots keys links room (One key) known space = may_list slots keys links room key known.0 known.2 space
    may_settle slots keys links room Any known space = tt

    -- nothing that was lent is missing
    abbrev pub IsSettled : Unlisted → Type 0
    IsSettled Nothing = Unit {0}
    IsSettled (One key) = ⊥
    IsSettled Any = Unit {0}

    -- slots in which entries are listed otherwise, and nothing else is different
    pub record IsSame (old new : Slab (Entry T)) (keys : List ℕ) : Type 0 where
      pub placed : placed_at new keys ≡ placed_at old keys
      pub there : AreThere old keys → AreThere new keys
      pub room : new.capacity - slab_len new ≡ old.capacity - slab_len old

    same-relisted : (key : ℕ) (under : Option ℕ) (old new : Slab (Entry T)) (before after keys : List ℕ) → IsRelisted key under old before new after → IsSame old new keys
    same-relisted key under old new before after keys is = record {
      placed = placed-relisted key under old new before after is keys;
      there = are_there-relisted key under old new before after is keys;
      room = ap (λ n. n - slab_len new) is.capacity ∙ ap (λ n. old.capacity - n) is.count;
    }

    same-still : (old new : Slab (Entry T)) (keys : List ℕ) → new ≡ old → IsSame old new keys
    same-still old new keys is = subst (λ (s : Slab (Entry T)). IsSame old s keys) (sym is) (record { placed = refl; there = λ there. there; room = refl })

    pub order-kept : (old new : Slab (Entry T)) (keys : List ℕ) → IsSame old new keys → IsOrder old keys → IsOrder new keys
    order-kept old new keys same order = record { there = same.there order.there; apart = order.apart; by_realm = rw same.placed order.by_realm }

    pub settled-same : (old new : Slab (Entry T)) (keys before after : List ℕ) (unlisted rest : Unlisted) → Settles link unlisted old before rest new after → IsSame old new keys
    settled-same old new keys before after Nothing rest is = same-still old new keys is.1
    settled-same old new keys before after (One key) rest is = same-relisted key (linked_in link (get old key)) old new before after keys is.1
    settled-same old new keys before after Any rest is = same-still old new keys is.1

    pub settled-known : (old new : Slab (Entry T)) (keys before after : List ℕ) (unlisted rest : Unlisted) → Settles link unlisted old before rest new after → IsKnown link old keys before unlisted → IsKnown link new keys after rest × IsSettled rest
    settled-known old new keys before after Nothing rest is known = rw (is.0, is.1, is.2) (known, tt)
    settled-known old new keys before after (One key) rest is known = rw is.0 (
      (
        index-relisted key (linked_in link (get old key)) old new before after is.1 keys known.2 known.0,
        listed-relisted key (linked_in link (get old key)) old new before after is.1 keys refl is.2 known.1,
      ),
      tt,
    )
    settled-known old new keys before after Any rest is known = rw is.0 (tt, tt)

    pub settled-counted : (old new : Slab (Entry T)) (keys before after : List ℕ) (made : ℕ) (unlisted rest : Unlisted) → Settles link unlisted old before rest new after → AreCounted old keys made unlisted → AreCounted new keys made rest
    settled-counted old new keys before after made Nothing rest is counted = rw (is.0, is.1) counted
    settled-counted old new keys before after made (One key) rest is counted = rw is.0 (counted-relisted key (linked_in link (get old key)) old new before after is.1 keys made counted)
    settled-counted old new keys before after made Any rest is counted = rw is.0 tt

    -- MORE ROOM
    pub room-kept : (old new : Slab (Entry T)) (keys same links : List ℕ) (made room more : ℕ) (unlisted : Unlisted) → new.slots ≡ old.slots → same ≡ keys → room ≤ more → IsOrder old keys × IsKnown link old keys links unlisted × AreCounted old keys made unlisted × (length keys ≤ room) → IsOrder new same × IsKnown link new same links unlisted × AreCounted new same made unlisted × (length same ≤ more)
    room-kept old new keys same links made room more unlisted slots is least all = rw is (
      order-same old new slots keys all.0,
      known-room old new keys links unlisted slots all.1,
      counted-room old new keys made unlisted slots all.2,
      (let within = all.3 in omega (arith, within, least)),
    )

    -- ONE LENT TO BE WRITTEN
    lent-known : (slots : Slab (Entry T)) (keys links : List ℕ) (key : ℕ) (rest : Unlisted) → is_among keys key ≡ true → IsKnown link slots keys links rest × IsSettled rest → IsKnown link slots keys links (lent key rest)
    lent-known slots keys links key Nothing there known = (known.0.0, (λ other among differ. known.0.1 other among (λ wrong. absurd (cc))), there)
    lent-known slots keys links key (One other) there known = absurd known.1
    lent-known slots keys links key Any there known = tt

    lent-counted : (slots : Slab (Entry T)) (keys : List ℕ) (made key : ℕ) (rest : Unlisted) → AreCounted slots keys made rest → AreCounted slots keys made (lent key rest)
    lent-counted slots keys made key Nothing counted = counted
    lent-counted slots keys made key (One other) counted = counted
    lent-counted slots keys made key Any counted = tt

    module _ (slots : Slab (Entry T)) (keys : List ℕ) (key : ℕ) (entry : Entry T) (is : get slots key ≡ Some entry) (value : T) where
      written : Slab (Entry T)
      written = with_value slots key (record entry { item = value })

      updates : Updates slots written key (Some (record entry { item = value }))
      unfolding written
      updates = Updates-with_value slots key (record entry { item = value }) (rw is refl)

      written-alike : (k : ℕ) → IsAlike (get slots k) (get written k)
      written-alike k = elim (cases_Bool (key == k)) [
        | inl same ↦ (let here : key ≡ k = grind (arith, nat_tests, same) in subst (λ n. IsAlike (get slots n) (get written n)) here (record { realm = ap realm_in updates.changed ∙ ap realm_in (sym is); made = ap made_in updates.changed ∙ ap made_in (sym is); listed = ap listed_in updates.changed ∙ ap listed_in (sym is) }))
        | inr apart ↦ alike (get slots k) (get written k) (updates.others k (turned key k apart))
      ]

      of_one : (links : List ℕ) → IsKnown link slots keys links (One key) → IsKnown link written keys links (One key)
      of_one links known = (
        index-alike slots written keys links (λ k there. written-alike k) known.0,
        listed-alike slots written keys (Some key) (λ k there. written-alike k) (λ k there differ. linked-same k slots written (ap (linked_in link) (updates.others k (λ same. absurd (differ (ap Some (sym same))))))) (λ k there differ. subst (fits_in link) (sym (updates.others k (λ same. absurd (differ (ap Some (sym same))))))) known.1,
        known.2,
      )

      written-by : (links : List ℕ) (rest : Unlisted) → IsKnown link slots keys links (lent key rest) → IsKnown link written keys links (lent key rest)
      written-by links Nothing known = of_one links known
      written-by links (One other) known = of_one links known
      written-by links Any known = tt

      pub written-known : (links : List ℕ) (rest : Unlisted) → is_among keys key ≡ true → IsKnown link slots keys links rest × IsSettled rest → IsKnown link (with_value slots key (record entry { item = value })) keys links (lent key rest)
      unfolding written
      written-known links rest there known = written-by links rest (lent-known slots keys links key rest there known)

      pub written-counted : (made : ℕ) (rest : Unlisted) → AreCounted slots keys made rest → AreCounted (with_value slots key (record entry { item = value })) keys made (lent key rest)
      unfolding written
      written-counted made rest counted = counted-alike slots written keys made (lent key rest) (λ k there. written-alike k) (lent-counted slots keys made key rest counted)

    -- ONE MORE
    module _ (old new : Slab (Entry T)) (keys links : List ℕ) (order : IsOrder old keys) (key : ℕ) (entry : Entry T) (vacant : get old key ≡ None) (updates : Updates old new key (Some entry)) (end : ℕ) (last : end ≡ count_below (entry.realm + 1) (placed_at old keys)) (within : end ≤ length keys) (unlinked : entry.listed ≡ None) where
      none : is_among keys key ≡ false
      none = fresh old keys key order.there vacant

      still : (k : ℕ) → is_among keys k ≡ true → get new k ≡ get old k
      still k there = updates.others k (apart_by keys key k none there)

      still-alike : (k : ℕ) → is_among keys k ≡ true → IsAlike (get old k) (get new k)
      still-alike k there = alike (get old k) (get new k) (still k there)

      is_there : (i : ℕ) → i < length keys → get new (get_or keys i 0) ≡ get old (get_or keys i 0)
      is_there i less = still (get_or keys i 0) (among-get keys i 0 less)

      older-before : ((k : ℕ) → is_among keys k ≡ true → made_in (get old k) < entry.made) → (i : ℕ) → i < end → IsOlder new (get_or keys i 0) key
      older-before made i less = λ own. let within_it : i < length keys = omega (arith, less, within) in rw (is_there i within_it, updates.changed) (made (get_or keys i 0) (among-get keys i 0 within_it))

      -- those behind are of later realms
      older-behind : (i : ℕ) → end ≤ i → i < length keys → IsOlder new key (get_or keys i 0)
      older-behind i least less = λ own.
          let here : entry.realm ≡ realm_in (get old (get_or keys i 0)) = ap realm_in (sym updates.changed) ∙ own ∙ ap realm_in (is_there i less) in
          let late = splits old keys (entry.realm + 1) i 0 order.there order.by_realm less in
          let below : nat_lt i (count_below (entry.realm + 1) (placed_at old keys)) ≡ false = grind (arith, nat_tests, least, last) in
          absurd (let wrong = late ∙ below in grind (arith, nat_tests, wrong, here))

      index-added : ((k : ℕ) → is_among keys k ≡ true → made_in (get old k) < entry.made) → IsIndex old keys links → IsIndex new (insert keys end key) links
      index-added made index = record {
        older = pairs-insert (IsOlder new) keys end key within (older-before made) older-behind (older-alike old new keys links still-alike keys (λ k there. there) index.older);
        are = links-alike old new keys links still-alike links (within_keys old keys links index) index.are;
        among = λ k. elim (cases_Bool (key == k)) [
          | inl same ↦ (let here : key ≡ k = grind (arith, nat_tests, same) in subst (λ n. is_among links n ≡ (is_among (insert keys end key) n && is_some (listed_in (get new n)))) here (index.among key ∙ rw (none, updates.changed, unlinked) (sym (never (is_among (insert keys end key) key)))))
          | inr apart ↦ index.among k ∙ elim (cases_Bool (is_among keys k)) [
            | inl there ↦ rw (among-insert keys end key k, apart, there, still k there) refl
            | inr missing ↦ rw (among-insert keys end key k, apart, missing) refl
          ]
        ];
      } where
        never : (b : Bool) → (b && false) ≡ false
        never true = refl
        never false = refl

      there-added : is_among (insert keys end key) key ≡ true
      there-added = let own : (key == key) ≡ true = grind (arith, nat_tests) in among-insert keys end key key ∙ simp own refl

      listed-added : AreListed link old keys None → AreListed link new (insert keys end key) (Some key)
      listed-added every k there differ =
          let apart : (key == k) ≡ false = elim (cases_Bool (key == k)) [ inl same ↦ absurd (let here : key ≡ k = grind (arith, nat_tests, same) in differ (ap Some here)) | inr other ↦ other ] in
          let among : is_among keys k ≡ true = simp apart at (sym (among-insert keys end key k) ∙ there) in
          subst (IsRight link) (sym (still k among)) (every k among (λ wrong. absurd (cc)))

      pub known-added : (rest : Unlisted) → AreCounted old keys entry.made rest → IsKnown link old keys links rest × IsSettled rest → IsKnown link new (insert keys end key) links (lent key rest)
      known-added Nothing counted known = (index-added counted known.0.0, listed-added known.0.1, there-added)
      known-added (One other) counted known = absurd known.1
      known-added Any counted known = tt

      counted-by : ((k : ℕ) → is_among keys k ≡ true → made_in (get old k) < entry.made) → (k : ℕ) → is_among (insert keys end key) k ≡ true → made_in (get new k) < entry.made + 1
      counted-by made k there = elim (cases_Bool (key == k)) [
        | inl same ↦ (let here : key ≡ k = grind (arith, nat_tests, same) in subst (λ n. made_in (get new n) < entry.made + 1) here (rw updates.changed (omega arith)))
        | inr apart ↦ (let among : is_among keys k ≡ true = simp apart at (sym (among-insert keys end key k) ∙ there) in let less = made k among in rw (still k among) (omega (arith, less)))
      ]

      pub counted-added : (rest : Unlisted) → AreCounted old keys entry.made rest → AreCounted new (insert keys end key) (entry.made + 1) (lent key rest)
      counted-added Nothing counted = counted-by counted
      counted-added (One other) counted = counted-by counted
      counted-added Any counted = tt

    -- as it is counted, if it is
    pub known-counted : (slots : Slab (Entry T)) (keys links : List ℕ) (unlisted now : Unlisted) (made more : ℕ) → (made ≡ more) × (now ≡ unlisted) ⊎ (now ≡ Any) → IsKnown link slots keys links unlisted → AreCounted slots keys more unlisted → IsKnown link slots keys links now × AreCounted slots keys made now
    known-counted slots keys links unlisted now made more (inl both) known counted = rw (both.0, both.1) (known, counted)
    known-counted slots keys links unlisted now made more (inr any) known counted = rw any (tt, tt)

    -- ONE LESS
    pub may_leave : (slots : Slab (Entry T)) (keys links : List ℕ) (room key : ℕ) (unlisted : Unlisted) → IsKnown link slots keys links unlisted → is_among keys key ≡ true → length keys ≤ room → MayLeave slots links room key unlisted
    may_leave slots keys links room key Nothing known there space = may_list slots keys links room key known.0 there space
    may_leave slots keys links room key (One other) known there space = may_list slots keys links room key known.0 there space
    may_leave slots keys links room key Any known there space = tt

    pub struck-same : (old mid : Slab (Entry T)) (keys before after : List ℕ) (key : ℕ) (unlisted : Unlisted) → IsStruck key unlisted old before mid after → IsSame old mid keys
    struck-same old mid keys before after key Nothing is = same-relisted key None old mid before after keys is
    struck-same old mid keys before after key (One other) is = same-relisted key None old mid before after keys is
    struck-same old mid keys before after key Any is = same-still old mid keys is.0

    module _ (old mid new : Slab (Entry T)) (keys before after : List ℕ) (apart : AreApart keys) (key i : ℕ) (within : i < length keys) (found : get_or keys i 0 ≡ key) (updates : Updates mid new key None) where
      there : is_among keys key ≡ true
      there = subst (λ k. is_among keys k ≡ true) found (among-get keys i 0 within)

      rest-among : (k : ℕ) → is_among (remove keys i) k ≡ (is_among keys k && not (key == k))
      rest-among k = among-removed keys i k apart within ∙ ap (λ n. is_among keys k && not (n == k)) found

      rest-apart : (k : ℕ) → is_among (remove keys i) k ≡ true → (is_among keys k ≡ true) × (k ≢ key)
      rest-apart k left = by (key == k) refl (sym (rest-among k) ∙ left) where
        by : (b : Bool) → (key == k) ≡ b → (is_among keys k && not b) ≡ true → (is_among keys k ≡ true) × (k ≢ key)
        by true same is = absurd (let wrong = (and_parts (is_among keys k) false is).1 in cc)
        by false differ is = ((and_parts (is_among keys k) true is).0, turned key k differ)

      mid-alike : (k : ℕ) → is_among (remove keys i) k ≡ true → IsAlike (get mid k) (get new k)
      mid-alike k left = alike (get mid k) (get new k) (updates.others k (rest-apart k left).1)

      index-removed : IsRelisted key None old before mid after → IsIndex old keys before → IsIndex new (remove keys i) after
      index-removed struck index = record {
        older = older-alike mid new (remove keys i) after mid-alike (remove keys i) (λ k left. left) (pairs-removed (IsOlder mid) keys i one.older);
        are = links-alike mid new (remove keys i) after mid-alike after still one.are;
        among = λ k. elim (cases_Bool (key == k)) [
          | inl same ↦ struck.among k ∙ simp same (sym (rw (rest-among k, same) (never (is_among keys k) (is_some (listed_in (get new k))))))
          | inr differ ↦ one.among k ∙ rw (rest-among k, differ, updates.others k (turned key k differ)) (all (is_among keys k) (is_some (listed_in (get mid k))))
        ];
      } where
        one : IsIndex mid keys after
        one = index-relisted key None old mid before after struck keys there index

        never : (a b : Bool) → ((a && false) && b) ≡ false
        never true b = refl
        never false b = refl

        all : (a b : Bool) → (a && b) ≡ ((a && true) && b)
        all true b = refl
        all false b = refl

        still : (k : ℕ) → is_among after k ≡ true → is_among (remove keys i) k ≡ true
        still k listed = elim (cases_Bool (key == k)) [
          | inl same ↦ absurd (let gone : is_among after k ≡ false = struck.among k ∙ simp same refl in cc)
          | inr differ ↦ rest-among k ∙ rw (within_keys mid keys after one k listed, differ) refl
        ]

      listed-removed : IsRelisted key None old before mid after → (but left : Option ℕ) → ((k : ℕ) → k ≢ key → left ≢ Some k → but ≢ Some k) → AreListed link old keys but → AreListed link new (remove keys i) left
      listed-removed struck but left differs every k among other =
          let here = rest-apart k among in
          let same : get new k ≡ get old k = updates.others k here.1 ∙ struck.others k here.1 in
          subst (IsRight link) (sym same) (every k here.0 (differs k here.1 other))

      pub known-removed : (unlisted : Unlisted) → IsStruck key unlisted old before mid after → IsKnown link old keys before unlisted → IsKnown link new (remove keys i) after (left key unlisted)
      known-removed Nothing struck known = (index-removed struck known.0, listed-removed struck None None (λ k differ other. other) known.1)
      known-removed (One other) struck known = elim (cases_Bool (other == key)) [
        | inl same ↦ simp same (index-removed struck known.0, listed-removed struck (Some other) None (λ k differ apart wrong. absurd (let here : other ≡ k = cc in let its : other ≡ key = grind (arith, nat_tests, same) in differ (sym here ∙ its))) known.1)
        | inr differ ↦ simp differ (index-removed struck known.0, listed-removed struck (Some other) (Some other) (λ k apart is. is) known.1, rest-among other ∙ rw (known.2, (let x : (key == other) ≡ false = grind (arith, nat_tests, differ) in x)) refl)
      ]
      known-removed Any struck known = tt

      counted-so : (made : ℕ) → IsRelisted key None old before mid after → ((k : ℕ) → is_among keys k ≡ true → made_in (get old k) < made) → (k : ℕ) → is_among (remove keys i) k ≡ true → made_in (get new k) < made
      counted-so made struck counted k among = let here = rest-apart k among in subst (λ (o : Option (Entry T)). made_in o < made) (sym (updates.others k here.1 ∙ struck.others k here.1)) (counted k here.0)

      pub counted-removed : (made : ℕ) (unlisted : Unlisted) → IsStruck key unlisted old before mid after → AreCounted old keys made unlisted → AreCounted new (remove keys i) made (left key unlisted)
      counted-removed made Nothing struck counted = counted-so made struck counted
      counted-removed made (One other) struck counted = elim (cases_Bool (other == key)) [
        | inl same ↦ simp same (counted-so made struck counted)
        | inr differ ↦ simp differ (counted-so made struck counted)
      ]
      counted-removed made Any struck counted = tt
