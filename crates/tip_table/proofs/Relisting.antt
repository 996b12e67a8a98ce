-- A key that is listed under another link, or under none.
use Rattle.std.proofs.Common.{◌≡◌, ◌≢◌, ◌⊎◌, ◌<◌, ◌≤◌, ℕ, List, length, get_or, Option, Some, None, Bool, true, false, refl, ap, arith, ◌∙◌, sym, subst, inl, inr}
use Rattle.std.specs.Prelude.{◌==◌, ◌&&◌, IsSome, insert, is_some, not, option_map, remove}
use Rattle.std.proofs.lemmas.Bool.{cases_Bool}
use Rattle.std.proofs.lemmas.Bool.Decides.{nat_tests}
use Rattle.slab.specs.Slab.{Slab, get, with_value}
use Rattle.slab.proofs.SlabLemmas.{Updates-with_value}
use Rattle.tip_table.specs.declared.table.Entry.{Entry}
use Rattle.tip_table.specs.Entries.{is_among, realm_in}
use Rattle.tip_table.specs.Links.{AreLinks, IsRelisted, MayList, Stands, is_earlier, listed_in, made_in, relisted}
use Rattle.tip_table.proofs.KeyLemmas.{among-get, among-insert, differs}
use Rattle.tip_table.proofs.Linking.{Comes, age_of, comes-either, link_of, realm_of, so-comes, stands-never}
use Rattle.tip_table.proofs.Pairs.{among-removed, pairs-apart, pairs-insert, pairs-other, pairs-removed}
use Rattle.tip_table.proofs.SlotLemmas.{len-written}

pub apart_by : (links : List ℕ) (key other : ℕ) → is_among links key ≡ false → is_among links other ≡ true → other ≢ key
apart_by links key other none is = λ same. let there : is_among links key ≡ true = subst (λ n. is_among links n ≡ true) same is in absurd (cc)

pub turned : (key other : ℕ) → (key == other) ≡ false → other ≢ key
turned key other apart = let two : (other == key) ≡ false = grind (arith, nat_tests, apart) in differs other key two

never_and : (b : Bool) → (b && false) ≡ false
never_and true = refl
never_and false = refl

always_and : (b : Bool) → (b && true) ≡ b
always_and true = refl
always_and false = refl

module _ {T : Type 0} where
  -- entries that are the same stand as before
  stands-same : (old new : Slab (Entry T)) (a b : ℕ) → get new a ≡ get old a → get new b ≡ get old b → Stands old a b → Stands new a b
  stands-same old new a b one two is = rw (one, two) is

  -- what is listed as it was is not written
  pub relisted-same : (slots : Slab (Entry T)) (links : List ℕ) (key : ℕ) (link : Option ℕ) → AreLinks slots links → listed_in (get slots key) ≡ link → is_among links key ≡ is_some (listed_in (get slots key)) → IsRelisted key link slots links slots links
  relisted-same slots links key link are is among = record {
    changed = by (get slots key) is;
    others = λ other differ. refl;
    capacity = refl;
    count = refl;
    are = are;
    among = λ other. elim (cases_Bool (key == other)) [
      | inl same ↦ (let here : other ≡ key = grind (arith, nat_tests, same) in simp same (ap (is_among links) here ∙ among ∙ both (get slots key) is))
      | inr apart ↦ simp apart refl
    ];
  } where
    by : (o : Option (Entry T)) → listed_in o ≡ link → o ≡ option_map (relisted link) o
    by None is = refl
    by (Some entry) is = ap (λ l. Some (record entry { listed = l })) is

    both : (o : Option (Entry T)) → listed_in o ≡ link → is_some (listed_in o) ≡ (is_some link && is_some o)
    both None is = sym (never_and (is_some link))
    both (Some entry) is = ap is_some is ∙ sym (always_and (is_some link))

  -- TAKEN OUT
  module _ (slots : Slab (Entry T)) (links : List ℕ) (key : ℕ) (entry : Entry T) (is : get slots key ≡ Some entry) where
    abbrev pub now : Option ℕ → Slab (Entry T)
    now link = with_value slots key (relisted link entry)

    now-key : (link : Option ℕ) → get (now link) key ≡ Some (relisted link entry)
    now-key link = (Updates-with_value slots key (relisted link entry) (rw is refl)).changed

    now-other : (link : Option ℕ) (other : ℕ) → other ≢ key → get (now link) other ≡ get slots other
    now-other link other differ = (Updates-with_value slots key (relisted link entry) (rw is refl)).others other differ

    changed : (link : Option ℕ) → get (now link) key ≡ option_map (relisted link) (get slots key)
    changed link = now-key link ∙ sym (ap (option_map (relisted link)) is)

    pub struck : (at : ℕ) → AreLinks slots links → at < length links → get_or links at 0 ≡ key → IsRelisted key None slots links (now None) (remove links at)
    struck at are within here = record {
      changed = changed None;
      others = now-other None;
      capacity = refl;
      count = len-written slots key (relisted None entry) (rw is refl);
      are = record {
        sorted = pairs-other (Stands slots) (Stands (now None)) rest (λ a b one two r. stands-same slots (now None) a b (stays a one) (stays b two) r) (pairs-removed (Stands slots) links at are.sorted);
        listed = λ other left. subst (λ (o : Option (Entry T)). IsSome (listed_in o)) (sym (stays other left)) (are.listed other (was other left));
      };
      among = λ other. gone other ∙ elim (cases_Bool (key == other)) [
        | inl same ↦ simp same (never_and (is_among links other))
        | inr apart ↦ simp apart (always_and (is_among links other))
      ];
    } where
      rest : List ℕ
      rest = remove links at

      gone : (other : ℕ) → is_among rest other ≡ (is_among links other && not (key == other))
      gone other = among-removed links at other (pairs-apart (Stands slots) links (stands-never slots) are.sorted) within ∙ ap (λ n. is_among links other && not (n == other)) here

      parts : (a b : Bool) → (a && not b) ≡ true → (a ≡ true) × (b ≡ false)
      parts true true is = absurd (cc)
      parts true false is = (refl, refl)
      parts false b is = absurd (cc)

      was : (other : ℕ) → is_among rest other ≡ true → is_among links other ≡ true
      was other left = (parts (is_among links other) (key == other) (sym (gone other) ∙ left)).0

      stays : (other : ℕ) → is_among rest other ≡ true → get (now None) other ≡ get slots other
      stays other left = now-other None other (turned key other (parts (is_among links other) (key == other) (sym (gone other) ∙ left)).1)

    -- PUT IN
    pub enlisted : (link at room : ℕ) → MayList slots links room key → listed_in (get slots key) ≡ None → at ≤ length links →
        ((i : ℕ) → i < at → is_earlier entry.realm link entry.made (get slots (get_or links i 0)) ≡ true) → ((i : ℕ) → at ≤ i → i < length links → is_earlier entry.realm link entry.made (get slots (get_or links i 0)) ≡ false) →
        IsRelisted key (Some link) slots links (now (Some link)) (insert links at key)
    enlisted link at room may none within before behind = record {
      changed = changed (Some link);
      others = now-other (Some link);
      capacity = refl;
      count = len-written slots key (relisted (Some link) entry) (rw is refl);
      are = record {
        sorted = pairs-insert (Stands new) links at key within front back (pairs-other (Stands slots) (Stands new) links (λ a b one two r. stands-same slots new a b (stays a one) (stays b two) r) may.are.sorted);
        listed = λ other there. elim (cases_Bool (key == other)) [
          | inl same ↦ (let here : key ≡ other = grind (arith, nat_tests, same) in subst (λ n. IsSome (listed_in (get new n))) here (subst (λ (o : Option (Entry T)). IsSome (listed_in o)) (sym (now-key (Some link))) refl))
          | inr apart ↦ (let was : is_among links other ≡ true = simp apart at (sym (among-insert links at key other) ∙ there) in subst (λ (o : Option (Entry T)). IsSome (listed_in o)) (sym (stays other was)) (may.are.listed other was))
        ];
      };
      among = λ other. among-insert links at key other ∙ elim (cases_Bool (key == other)) [
        | inl same ↦ simp same (ap is_some (sym is))
        | inr apart ↦ simp apart refl
      ];
    } where
      new : Slab (Entry T)
      new = now (Some link)

      missing : is_among links key ≡ false
      missing = may.among ∙ ap is_some none

      stays : (other : ℕ) → is_among links other ≡ true → get new other ≡ get slots other
      stays other there = now-other (Some link) other (apart_by links key other missing there)

      -- the key's own
      own : (other : ℕ) → is_earlier entry.realm link entry.made (get slots other) ≡ true → get new other ≡ get slots other → Stands new other key
      own other early same = rw (now-key (Some link), same) early

      front : (i : ℕ) → i < at → Stands new (get_or links i 0) key
      front i less = own (get_or links i 0) (before i less) (stays (get_or links i 0) (among-get links i 0 (omega (arith, less, within))))

      back : (i : ℕ) → at ≤ i → i < length links → Stands new key (get_or links i 0)
      back i least less = by (comes-either (realm_of slots other) (link_of slots other) (age_of slots other) entry.realm link entry.made (behind i least less)) where
        other : ℕ
        other = get_or links i 0

        there : is_among links other ≡ true
        there = among-get links i 0 less

        same : get new other ≡ get slots other
        same = stays other there

        by : Comes entry.realm link entry.made (realm_of slots other) (link_of slots other) (age_of slots other) ⊎ (realm_of slots other ≡ entry.realm) × (link_of slots other ≡ link) × (age_of slots other ≡ entry.made) → Stands new key other
        by (inl later) = rw (now-key (Some link), same) (so-comes entry.realm link entry.made (realm_of slots other) (link_of slots other) (age_of slots other) later)
        by (inr all) = absurd (may.ages other there (apart_by links key other missing there) (all.0 ∙ ap realm_in (sym is)) (all.2 ∙ ap made_in (sym is)))

  -- ONE AFTER THE OTHER
  pub relisted-twice : (key : ℕ) (link : Option ℕ) (old mid new : Slab (Entry T)) (links some all : List ℕ) → IsRelisted key None old links mid some → IsRelisted key link mid some new all → IsRelisted key link old links new all
  relisted-twice key link old mid new links some all one two = record {
    changed = two.changed ∙ ap (option_map (relisted link)) one.changed ∙ by (get old key);
    others = λ other differ. two.others other differ ∙ one.others other differ;
    capacity = two.capacity ∙ one.capacity;
    count = two.count ∙ one.count;
    are = two.are;
    among = λ other. two.among other ∙ elim (cases_Bool (key == other)) [
      | inl same ↦ simp same (ap (λ b. is_some link && b) (ap is_some one.changed ∙ there (get old key)))
      | inr apart ↦ simp apart (one.among other ∙ simp apart refl)
    ];
  } where
    by : (o : Option (Entry T)) → option_map (relisted link) (option_map (relisted None) o) ≡ option_map (relisted link) o
    by None = refl
    by (Some entry) = refl

    there : (o : Option (Entry T)) → is_some (option_map (relisted None) o) ≡ is_some o
    there None = refl
    there (Some entry) = refl

  -- once it is taken out it may be put in
  pub may_again : (old new : Slab (Entry T)) (links left : List ℕ) (room key : ℕ) → MayList old links room key → IsRelisted key None old links new left → length left < room → MayList new left room key
  may_again old new links left room key may struck space = record {
    are = struck.are;
    among = missing ∙ sym (ap (λ (o : Option (Entry T)). is_some (listed_in o)) struck.changed ∙ none (get old key));
    ages = λ other there differ own age.
        let same : get new other ≡ get old other = struck.others other differ in
        may.ages other (was other there) differ (ap realm_in (sym same) ∙ own ∙ ap realm_in struck.changed ∙ realm-same (get old key)) (ap made_in (sym same) ∙ age ∙ ap made_in struck.changed ∙ age-same (get old key));
    space = λ none. space;
  } where
    none : (o : Option (Entry T)) → is_some (listed_in (option_map (relisted None) o)) ≡ false
    none None = refl
    none (Some entry) = refl

    realm-same : (o : Option (Entry T)) → realm_in (option_map (relisted None) o) ≡ realm_in o
    realm-same None = refl
    realm-same (Some entry) = refl

    age-same : (o : Option (Entry T)) → made_in (option_map (relisted None) o) ≡ made_in o
    age-same None = refl
    age-same (Some entry) = refl

    missing : is_among left key ≡ false
    missing = let own : (key == key) ≡ true = grind (arith, nat_tests) in struck.among key ∙ simp own refl

    was : (other : ℕ) → is_among left other ≡ true → is_among links other ≡ true
    was other there = elim (cases_Bool (key == other)) [
      | inl same ↦ absurd (let gone : is_among left other ≡ false = struck.among other ∙ simp same refl in cc)
      | inr apart ↦ sym (struck.among other ∙ simp apart refl) ∙ there
    ]
