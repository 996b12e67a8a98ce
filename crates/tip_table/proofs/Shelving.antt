-- Slots and the keys of their entries stay in order, and what the entries are by then.
use Rattle.std.proofs.Common.{◌≡◌, ◌≢◌, ◌<◌, ◌+◌, ◌∷◌, ℕ, Bool, List, [], Some, None, length, get_or, true, false, refl, ap, arith, ◌∙◌, sym, subst}
use Rattle.std.specs.Prelude.{◌==◌, IsSome, insert, map, remove}
use Rattle.std.proofs.lemmas.Bool.Decides.{nat_tests}
use Rattle.slab.specs.Slab.{Slab, Updates, get, with_value}
use Rattle.slab.proofs.SlabLemmas.{Updates-with_value}
use Rattle.tip_table.specs.declared.table.Entry.{Entry}
use Rattle.tip_table.specs.Entries.{AreThere, IsOrder, Item, Placed, count_below, is_among, items_at, items_in, own_keys, placed_at, standing_in, visited_at, written_in}
use Rattle.tip_table.proofs.EntryLemmas.{added_in, by_realm-added, by_realm-taken, by_realm-visited, by_realm-written, insert-added, taken_in, visited_entry}
use Rattle.tip_table.proofs.KeyLemmas.{apart-insert, apart-removed}
use Rattle.tip_table.proofs.OwnLemmas.{apart-own, items-own}
use Rattle.tip_table.proofs.SlotLemmas.{among-standing, fresh, placed-apart, placed-insert, placed-removed, placed-written, there-apart, there-insert, there-removed}
use Rattle.tip_table.proofs.Visiting.{placed-visited, there-visited}

module _ {T : Type 0} where
  -- the same slots with other room
  placed-same : (old new : Slab (Entry T)) → new.slots ≡ old.slots → (keys : List ℕ) → placed_at new keys ≡ placed_at old keys
  placed-same old new same [] = refl
  placed-same old new same (k ∷ ks) = rw (same, placed-same old new same ks) refl

  there-same : (old new : Slab (Entry T)) → new.slots ≡ old.slots → (keys : List ℕ) → AreThere old keys → AreThere new keys
  there-same old new same [] there = tt
  there-same old new same (k ∷ ks) there = (rw same there.0, there-same old new same ks there.1)

  pub order-same : (old new : Slab (Entry T)) → new.slots ≡ old.slots → (keys : List ℕ) → IsOrder old keys → IsOrder new keys
  order-same old new same keys order = record {
    there = there-same old new same keys order.there;
    apart = order.apart;
    by_realm = rw (placed-same old new same keys) order.by_realm;
  }

  pub empty-order : (slots : Slab (Entry T)) → IsOrder slots []
  empty-order slots = record { there = tt; apart = tt; by_realm = tt }

  -- ONE MORE
  module _ (old new : Slab (Entry T)) (keys : List ℕ) (order : IsOrder old keys) (key : ℕ) (entry : Entry T) (vacant : get old key ≡ None) (updates : Updates old new key (Some entry)) (end : ℕ) (last : end ≡ count_below (entry.realm + 1) (placed_at old keys)) where
    abbrev pub one : Placed T
    one = record { place = key; realm = entry.realm; item = entry.item }

    none : is_among keys key ≡ false
    none = fresh old keys key order.there vacant

    there_still : AreThere new keys
    there_still = there-apart old new key (Some entry) updates keys none order.there

    pub placed-added : placed_at new (insert keys end key) ≡ added_in one (placed_at old keys)
    placed-added =
        placed-insert new keys end key entry there_still updates.changed ∙
        ap (λ es. insert es end one) (placed-apart old new key (Some entry) updates keys none) ∙
        ap (λ n. insert (placed_at old keys) n one) last ∙
        insert-added one (placed_at old keys) order.by_realm

    pub order-added : IsOrder new (insert keys end key)
    order-added = record {
      there = there-insert new keys end key there_still (rw updates.changed refl);
      apart = apart-insert keys end key order.apart none;
      by_realm = rw placed-added (by_realm-added one (placed_at old keys) order.by_realm);
    }

    -- no other has its place
    pub place-apart : (place : ℕ) (item : Item) → standing_in (placed_at old keys) place ≡ Some item → (key == place) ≡ false
    place-apart place item there = apart_from (key == place) refl where
      among : is_among keys place ≡ true
      among = among-standing old keys place (rw there refl)

      apart_from : (b : Bool) → (key == place) ≡ b → b ≡ false
      apart_from false is = refl
      apart_from true is =
          let same : place ≡ key = grind (arith, nat_tests, is) in
          let wrong : is_among keys key ≡ true = subst (λ n. is_among keys n ≡ true) same among in
          let right = none in
          absurd (cc)

  -- ONE LESS
  module _ (old new : Slab (Entry T)) (keys : List ℕ) (order : IsOrder old keys) (place i : ℕ) (within : i < length keys) (found : get_or keys i 0 ≡ place) (updates : Updates old new place None) where
    updates_there : Updates old new (get_or keys i 0) None
    updates_there = subst (λ n. Updates old new n None) (sym found) updates

    pub placed-taken : placed_at new (remove keys i) ≡ taken_in (placed_at old keys) place
    placed-taken = placed-removed old new keys i 0 order.there order.apart within updates_there ∙ ap (taken_in (placed_at old keys)) found

    pub order-taken : IsOrder new (remove keys i)
    order-taken = record {
      there = there-removed old new keys i 0 order.there order.apart within updates_there;
      apart = apart-removed keys i order.apart;
      by_realm = rw placed-taken (by_realm-taken (placed_at old keys) place order.by_realm);
    }

  -- ONE WRITTEN
  module _ (slots : Slab (Entry T)) (keys : List ℕ) (order : IsOrder slots keys) (place : ℕ) (entry : Entry T) (is : get slots place ≡ Some entry) (value : T) where
    abbrev new : Slab (Entry T)
    new = with_value slots place (record entry { item = value })

    updates : Updates slots new place (Some (record entry { item = value }))
    updates = Updates-with_value slots place (record entry { item = value }) (rw is refl)

    pub placed-set : placed_at new keys ≡ written_in (placed_at slots keys) place value
    placed-set = placed-written slots new place entry value is updates keys order.apart

    there_set : (some : List ℕ) → AreThere slots some → AreThere new some
    there_set [] there = tt
    there_set (k ∷ ks) there = (stays k (k == place) refl there.0, there_set ks there.1) where
      stays : (k : ℕ) (b : Bool) → (k == place) ≡ b → IsSome (get slots k) → IsSome (get new k)
      stays k true here some = (let same : place ≡ k = grind (arith, nat_tests, here) in subst (λ n. IsSome (get new n)) same (rw updates.changed refl))
      stays k false apart some = rw (updates.others k (let differ : k ≢ place = grind (arith, nat_tests, apart) in differ)) some

    pub order-set : IsOrder new keys
    order-set = record {
      there = there_set keys order.there;
      apart = order.apart;
      by_realm = rw placed-set (by_realm-written (placed_at slots keys) place value order.by_realm);
    }

  -- THOSE OF A REALM VISITED
  module _ (left : T → T) (slots new : Slab (Entry T)) (keys : List ℕ) (order : IsOrder slots keys) (realm : ℕ) (is : new ≡ visited_at left slots (own_keys slots keys realm)) where
    pub placed-seen : placed_at new keys ≡ map (visited_entry left realm) (placed_at slots keys)
    placed-seen = ap (λ s. placed_at s keys) is ∙ placed-visited left slots keys realm order.apart keys (λ key among. among)

    pub order-seen : IsOrder new keys
    order-seen = record {
      there = rw is (there-visited left slots (own_keys slots keys realm) keys (apart-own slots keys realm order.apart) order.there);
      apart = order.apart;
      by_realm = rw placed-seen (by_realm-visited left realm (placed_at slots keys) order.by_realm);
    }

  -- the items at a realm's own keys are its items
  pub own-items : (slots : Slab (Entry T)) (keys own : List ℕ) (realm : ℕ) → own ≡ own_keys slots keys realm → items_at slots own ≡ items_in (placed_at slots keys) realm
  own-items slots keys own realm is = ap (items_at slots) is ∙ items-own slots keys realm
