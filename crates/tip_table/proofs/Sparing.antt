-- A visit of those alone that it changes or notes.
use Rattle.std.proofs.Common.{◌≡◌, ◌≢◌, ℕ, List, [], ◌∷◌, Option, Some, None, Bool, true, false, refl, ap, arith, ◌∙◌, set, sym, subst, inl, inr}
use Rattle.std.specs.Prelude.{◌==◌, IfSome, cond, filter, option_map}
use Rattle.std.proofs.lemmas.Bool.{cases_Bool}
use Rattle.std.proofs.lemmas.Bool.Decides.{nat_tests}
use Rattle.std.proofs.lemmas.List.{set-get_or}
use Rattle.slab.specs.Slab.{Slab, get}
use Rattle.tip_table.specs.declared.table.Entry.{Entry}
use Rattle.tip_table.specs.declared.link.Linked.{Ghosts}
use Rattle.tip_table.specs.declared.links.Unlisted.{Unlisted}
use Rattle.tip_table.specs.Entries.{AreApart, changed_at, is_among, item_before, items_at, own_keys, visited_at}
use Rattle.tip_table.specs.Links.{fits_in, AreCounted, AreEnough, IsKnown, linked_in}
use Rattle.tip_table.specs.Visits.{MayVisit, notes_of}
use Rattle.tip_table.proofs.Keeping.{IsAlike, counted-alike, known-alike}
use Rattle.tip_table.proofs.OwnLemmas.{apart-own}
use Rattle.tip_table.proofs.Pairs.{apart-filter, first_among, more_among}
use Rattle.tip_table.proofs.Relisting.{apart_by}
use Rattle.tip_table.proofs.Visiting.{get-changed, get-visited, left_entry}

module _ {N T : Type 0} (link : Ghosts T) (left : T → T) (may : N → T → Type 0) (noted : N → T → N) (aim : Option ℕ)
    (items : IfSome aim (λ one. (item : T) → link.link item ≢ Some one → left item ≡ item))
    (notes : IfSome aim (λ one. (item : T) (notes : N) → link.link item ≢ Some one → noted notes item ≡ notes)) where
  -- these are not changed and not noted
  record IsSpared (item : T) : Type 0 where
    still : left item ≡ item
    unnoted : (notes : N) → noted notes item ≡ notes

  abbrev AreSpared : (ℕ → Bool) → Slab (Entry T) → List ℕ → Type 0
  AreSpared kept slots keys = (key : ℕ) → is_among keys key ≡ true → kept key ≡ false → (entry : Entry T) → get slots key ≡ Some entry → IsSpared entry.item

  spared : (slots : Slab (Entry T)) (own some : List ℕ) → (enough : AreEnough link slots own aim some) → AreSpared enough.kept slots own
  spared slots own some enough key among out entry is = by aim items notes (enough.all key among) where
    by : (o : Option ℕ) → IfSome o (λ one. (item : T) → link.link item ≢ Some one → left item ≡ item) → IfSome o (λ one. (item : T) (notes : N) → link.link item ≢ Some one → noted notes item ≡ notes) → (IfSome o (λ one. linked_in link (get slots key) ≡ Some one) → enough.kept key ≡ true) → IsSpared entry.item
    by None stays quiet all = absurd (let kept = all tt in cc)
    by (Some one) stays quiet all = record { still = stays entry.item other; unnoted = λ notes. quiet entry.item notes other } where
      other : link.link entry.item ≢ Some one
      other = λ same. absurd (let kept = all (ap (linked_in link) is ∙ same) in cc)

  -- a write of what is there changes nothing
  write-same : (slots : Slab (Entry T)) (key : ℕ) (entry : Entry T) → get slots key ≡ Some entry → left entry.item ≡ entry.item → changed_at left slots key (get slots key) ≡ slots
  write-same slots key entry is still = ap (changed_at left slots key) is ∙ ap (λ (value : Entry T). record slots { slots = set slots.slots key (Some value) }) (ap (λ item. record entry { item = item }) still) ∙ ap (λ o. record slots { slots = set slots.slots key o }) (sym is) ∙ ap (λ entries. record slots { slots = entries }) (set-get_or slots.slots key None)

  module _ (kept : ℕ → Bool) where
    behind : (slots : Slab (Entry T)) (k : ℕ) (ks : List ℕ) → AreSpared kept slots (k ∷ ks) → AreSpared kept slots ks
    behind slots k ks spared key among = spared key (more_among k key ks among)

    passed : (slots : Slab (Entry T)) (k : ℕ) (ks : List ℕ) → is_among ks k ≡ false → AreSpared kept slots ks → AreSpared kept (changed_at left slots k (get slots k)) ks
    passed slots k ks none spared key among out entry is = spared key among out entry (sym (get-changed left slots k key ∙ simp (by (k == key) refl) refl) ∙ is) where
      by : (b : Bool) → (k == key) ≡ b → (k == key) ≡ false
      by true same = absurd (let here : key ≡ k = grind (arith, nat_tests, same) in apart_by ks k key none among here)
      by false apart = apart

    visited-spared : (slots : Slab (Entry T)) (ks : List ℕ) → AreApart ks → AreSpared kept slots ks → visited_at left slots (filter kept ks) ≡ visited_at left slots ks
    visited-spared slots [] apart spared = refl
    visited-spared slots (k ∷ ks) apart spared = elim (cases_Bool (kept k)) [
      | inl is ↦ simp is (visited-spared (changed_at left slots k (get slots k)) ks apart.1 (passed slots k ks apart.0 (behind slots k ks spared)))
      | inr out ↦ simp out (visited-spared slots ks apart.1 (behind slots k ks spared) ∙ ap (λ s. visited_at left s ks) (sym (skip (get slots k) refl (spared k (first_among k ks) out))))
    ] where
      skip : (o : Option (Entry T)) → get slots k ≡ o → ((entry : Entry T) → get slots k ≡ Some entry → IsSpared entry.item) → changed_at left slots k (get slots k) ≡ slots
      skip None is spare = ap (changed_at left slots k) is
      skip (Some entry) is spare = write-same slots k entry is (spare entry is).still

    notes-spared : (slots : Slab (Entry T)) (ks : List ℕ) (now : N) → AreSpared kept slots ks → notes_of noted now (items_at slots (filter kept ks)) ≡ notes_of noted now (items_at slots ks)
    notes-spared slots [] now spared = refl
    notes-spared slots (k ∷ ks) now spared = elim (cases_Bool (kept k)) [
      | inl is ↦ simp is (step (get slots k) (λ now. notes-spared slots ks now (behind slots k ks spared)))
      | inr out ↦ simp out (notes-spared slots ks now (behind slots k ks spared) ∙ sym (skip (get slots k) refl (spared k (first_among k ks) out)))
    ] where
      step : (o : Option (Entry T)) → ((now : N) → notes_of noted now (items_at slots (filter kept ks)) ≡ notes_of noted now (items_at slots ks)) → notes_of noted now (item_before o (items_at slots (filter kept ks))) ≡ notes_of noted now (item_before o (items_at slots ks))
      step None rest = rest now
      step (Some entry) rest = rest (noted now entry.item)

      skip : (o : Option (Entry T)) → get slots k ≡ o → ((entry : Entry T) → get slots k ≡ Some entry → IsSpared entry.item) → notes_of noted now (item_before o (items_at slots ks)) ≡ notes_of noted now (items_at slots ks)
      skip None is spare = refl
      skip (Some entry) is spare = ap (λ n. notes_of noted n (items_at slots ks)) ((spare entry is).unnoted now)

    may-spared : (slots : Slab (Entry T)) (ks : List ℕ) (now : N) → AreSpared kept slots ks → MayVisit may noted now (items_at slots ks) → MayVisit may noted now (items_at slots (filter kept ks))
    may-spared slots [] now spared all = tt
    may-spared slots (k ∷ ks) now spared all = elim (cases_Bool (kept k)) [
      | inl is ↦ simp is (step (get slots k) (λ now. may-spared slots ks now (behind slots k ks spared)) all)
      | inr out ↦ simp out (may-spared slots ks now (behind slots k ks spared) (skip (get slots k) refl (spared k (first_among k ks) out) all))
    ] where
      step : (o : Option (Entry T)) → ((now : N) → MayVisit may noted now (items_at slots ks) → MayVisit may noted now (items_at slots (filter kept ks))) → MayVisit may noted now (item_before o (items_at slots ks)) → MayVisit may noted now (item_before o (items_at slots (filter kept ks)))
      step None rest all = rest now all
      step (Some entry) rest all = (all.0, rest (noted now entry.item) all.1)

      skip : (o : Option (Entry T)) → get slots k ≡ o → ((entry : Entry T) → get slots k ≡ Some entry → IsSpared entry.item) → MayVisit may noted now (item_before o (items_at slots ks)) → MayVisit may noted now (items_at slots ks)
      skip None is spare all = all
      skip (Some entry) is spare all = subst (λ n. MayVisit may noted n (items_at slots ks)) ((spare entry is).unnoted now) all.1

  -- A VISIT OF ENOUGH is one of all
  module _ (slots : Slab (Entry T)) (own some : List ℕ) (enough : AreEnough link slots own aim some) where
    pub enough-visited : AreApart own → visited_at left slots some ≡ visited_at left slots own
    enough-visited apart = ap (visited_at left slots) enough.are ∙ visited-spared enough.kept slots own apart (spared slots own some enough)

    pub enough-notes : (now : N) → notes_of noted now (items_at slots some) ≡ notes_of noted now (items_at slots own)
    enough-notes now = ap (λ ks. notes_of noted now (items_at slots ks)) enough.are ∙ notes-spared enough.kept slots own now (spared slots own some enough)

    pub enough-may : (now : N) → MayVisit may noted now (items_at slots own) → MayVisit may noted now (items_at slots some)
    enough-may now all = subst (λ ks. MayVisit may noted now (items_at slots ks)) (sym enough.are) (may-spared enough.kept slots own now (spared slots own some enough) all)

    pub enough-apart : AreApart own → AreApart some
    enough-apart apart = subst AreApart (sym enough.are) (apart-filter enough.kept own apart)

-- WHAT IS KNOWN stays, where no item gets another link
module _ {T : Type 0} (link : Ghosts T) (left : T → T) (loses : (item : T) (one : ℕ) → link.link (left item) ≡ Some one → link.link item ≡ Some one) (keeps : (item : T) → link.fits item → link.fits (left item)) (slots new : Slab (Entry T)) (keys : List ℕ) (realm : ℕ) (apart : AreApart keys) (is : new ≡ visited_at left slots (own_keys slots keys realm)) where
  get-seen : (key : ℕ) → get new key ≡ cond (is_among (own_keys slots keys realm) key) (option_map (left_entry left) (get slots key)) (get slots key)
  get-seen key = ap (λ s. get s key) is ∙ get-visited left slots (own_keys slots keys realm) key (apart-own slots keys realm apart)

  seen-alike : (key : ℕ) → IsAlike (get slots key) (get new key)
  seen-alike key = subst (IsAlike (get slots key)) (sym (get-seen key)) (by (is_among (own_keys slots keys realm) key) (get slots key)) where
    by : (b : Bool) (o : Option (Entry T)) → IsAlike o (cond b (option_map (left_entry left) o) o)
    by true None = record { realm = refl; made = refl; listed = refl }
    by true (Some entry) = record { realm = refl; made = refl; listed = refl }
    by false o = record { realm = refl; made = refl; listed = refl }

  seen-linked : (key : ℕ) → IfSome (linked_in link (get new key)) (λ its. linked_in link (get slots key) ≡ Some its)
  seen-linked key = subst (λ o. IfSome (linked_in link o) (λ its. linked_in link (get slots key) ≡ Some its)) (sym (get-seen key)) (by (is_among (own_keys slots keys realm) key) (get slots key)) where
    has : (o : Option ℕ) → IfSome o (λ its. o ≡ Some its)
    has None = tt
    has (Some its) = refl

    loses-so : (item : T) (o : Option ℕ) → link.link (left item) ≡ o → IfSome o (λ its. link.link item ≡ Some its)
    loses-so item None is = tt
    loses-so item (Some its) is = loses item its is

    by : (b : Bool) (o : Option (Entry T)) → IfSome (linked_in link (cond b (option_map (left_entry left) o) o)) (λ its. linked_in link o ≡ Some its)
    by true None = tt
    by true (Some entry) = loses-so entry.item (link.link (left entry.item)) refl
    by false o = has (linked_in link o)

  seen-fits : (key : ℕ) → fits_in link (get slots key) → fits_in link (get new key)
  seen-fits key fits = subst (fits_in link) (sym (get-seen key)) (by (is_among (own_keys slots keys realm) key) (get slots key) fits) where
    by : (b : Bool) (o : Option (Entry T)) → fits_in link o → fits_in link (cond b (option_map (left_entry left) o) o)
    by true None fits = tt
    by true (Some entry) fits = keeps entry.item fits
    by false o fits = fits

  pub seen-known : (links : List ℕ) (unlisted : Unlisted) → IsKnown link slots keys links unlisted → IsKnown link new keys links unlisted
  seen-known links unlisted known = known-alike link slots new keys links unlisted (λ key there. seen-alike key) (λ key there. seen-linked key) (λ key there. seen-fits key) known

  pub seen-counted : (made : ℕ) (unlisted : Unlisted) → AreCounted slots keys made unlisted → AreCounted new keys made unlisted
  seen-counted made unlisted counted = counted-alike link slots new keys made unlisted (λ key there. seen-alike key) counted
