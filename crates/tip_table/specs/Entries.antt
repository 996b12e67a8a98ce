-- How a table lies: entries in slots, and the keys of the slots in order, by realm and in a realm as made. No contract speaks of it but by what `Kept` makes of it.
use Rattle.std.specs.Prelude.{ℕ, suc, ◌≡◌, ◌≢◌, ◌≤◌, ◌&&◌, ◌||◌, Bool, true, false, length, ◌==◌, if◌then◌else◌, List, [], ◌∷◌, Option, Some, None, IsSome, option_map, map, nat_lt, slice_get}
use Rattle.std.specs.List.{list_any}
use Rattle.slab.specs.Slab.{Slab, get, with_value}
use Rattle.tip_table.specs.Lists.{IsFirst}
use Rattle.tip_table.specs.declared.table.Entry.{Entry}

-- an item is known by its realm and by how many of the realm's items stand before it
pub record Item : Type 0 where
  pub realm : ℕ
  pub at : ℕ

-- an entry, and the key of its slot, which is its place
pub record Placed (T : Type 0) : Type 0 where
  pub place : ℕ
  pub realm : ℕ
  pub item : T

-- the entry of a slot before others, where the slot has one
abbrev pub placed_before : {T : Type 0} → ℕ → Option (Entry T) → List (Placed T) → List (Placed T)
placed_before key None others = others
placed_before key (Some entry) others = record { place = key; realm = entry.realm; item = entry.item } ∷ others

-- the entries at these keys
abbrev pub placed_at : {T : Type 0} → Slab (Entry T) → List ℕ → List (Placed T)
placed_at slots [] = []
placed_at slots (key ∷ keys) = placed_before key (get slots key) (placed_at slots keys)

-- the items of one realm, in order
abbrev pub items_in : {T : Type 0} → List (Placed T) → ℕ → List T
items_in [] realm = []
items_in (entry ∷ entries) realm = if entry.realm == realm then entry.item ∷ items_in entries realm else items_in entries realm

-- the same item, with one more of a realm before all
abbrev pub behind : ℕ → Item → Item
behind realm item = if item.realm == realm then record item { at = suc item.at } else item

-- which item is the entry at a place
abbrev pub standing_in : {T : Type 0} → List (Placed T) → ℕ → Option Item
standing_in [] place = None
standing_in (entry ∷ entries) place = if entry.place == place then Some (record { realm = entry.realm; at = 0 }) else option_map (behind entry.realm) (standing_in entries place)

-- the entries with the item at a place written
abbrev pub written_in : {T : Type 0} → List (Placed T) → ℕ → T → List (Placed T)
written_in [] place value = []
written_in (entry ∷ entries) place value = if entry.place == place then record entry { item = value } ∷ entries else entry ∷ written_in entries place value

-- is a key among these?
abbrev pub is_among : List ℕ → ℕ → Bool
is_among keys key = list_any (λ other. other == key) keys

-- how many entries are of realms below this
abbrev pub count_below : {T : Type 0} → ℕ → List (Placed T) → ℕ
count_below realm [] = 0
count_below realm (entry ∷ entries) = if nat_lt entry.realm realm then suc (count_below realm entries) else count_below realm entries

-- each key has an entry
abbrev pub AreThere : {T : Type 0} → Slab (Entry T) → List ℕ → Type 0
AreThere slots [] = Unit {0}
AreThere slots (key ∷ keys) = IsSome (get slots key) × AreThere slots keys

-- no key stands twice
abbrev pub AreApart : List ℕ → Type 0
AreApart [] = Unit {0}
AreApart (key ∷ keys) = (is_among keys key ≡ false) × AreApart keys

-- each key stands so to each that is behind it
abbrev pub Pairwise : (ℕ → ℕ → Type 0) → List ℕ → Type 0
Pairwise R [] = Unit {0}
Pairwise R (key ∷ keys) = ((other : ℕ) → is_among keys other ≡ true → R key other) × Pairwise R keys

-- all are of this realm or a later one
abbrev pub AreFrom : {T : Type 0} → ℕ → List (Placed T) → Type 0
AreFrom realm [] = Unit {0}
AreFrom realm (entry ∷ entries) = (realm ≤ entry.realm) × AreFrom realm entries

-- they stand by realm
abbrev pub AreByRealm : {T : Type 0} → List (Placed T) → Type 0
AreByRealm [] = Unit {0}
AreByRealm (entry ∷ entries) = AreFrom entry.realm entries × AreByRealm entries

-- the keys of a table's entries, in order
pub record IsOrder {T : Type 0} (slots : Slab (Entry T)) (keys : List ℕ) : Type 0 where
  pub there : AreThere slots keys
  pub apart : AreApart keys
  pub by_realm : AreByRealm (placed_at slots keys)

-- the realm of the entry in a slot, where it has one
abbrev pub realm_in : {T : Type 0} → Option (Entry T) → ℕ
realm_in None = 0
realm_in (Some entry) = entry.realm

-- the keys of one realm's entries
abbrev pub own_keys : {T : Type 0} → Slab (Entry T) → List ℕ → ℕ → List ℕ
own_keys slots [] realm = []
own_keys slots (key ∷ keys) realm = if realm_in (get slots key) == realm then key ∷ own_keys slots keys realm else own_keys slots keys realm

-- the item of a slot before others, where the slot has one
abbrev pub item_before : {T : Type 0} → Option (Entry T) → List T → List T
item_before None others = others
item_before (Some entry) others = entry.item ∷ others

-- the items at these keys
abbrev pub items_at : {T : Type 0} → Slab (Entry T) → List ℕ → List T
items_at slots [] = []
items_at slots (key ∷ keys) = item_before (get slots key) (items_at slots keys)

-- does the item of a slot pass a test?
abbrev pub passes_in : {T : Type 0} → (T → Bool) → Option (Entry T) → Bool
passes_in test None = false
passes_in test (Some entry) = test entry.item

-- does the entry of a slot stand before one of this realm and rank? Entries stand by realm, and those of one realm by rank
abbrev pub comes_before : {T : Type 0} → (T → ℕ) → ℕ → ℕ → Option (Entry T) → Bool
comes_before rank realm wanted None = false
comes_before rank realm wanted (Some entry) = nat_lt entry.realm realm || (entry.realm == realm && nat_lt (rank entry.item) wanted)

-- is it of this realm, and of this rank?
abbrev pub is_ranked : {T : Type 0} → (T → ℕ) → ℕ → ℕ → Option (Entry T) → Bool
is_ranked rank realm wanted None = false
is_ranked rank realm wanted (Some entry) = entry.realm == realm && rank entry.item == wanted

-- the item of this key is the first of those at these keys that passes
pub record IsFirstAt {T : Type 0} (slots : Slab (Entry T)) (test : T → Bool) (keys : List ℕ) (key : ℕ) : Type 0 where
  pub at : ℕ
  pub here : slice_get keys at ≡ Some key
  pub first : IsFirst test (items_at slots keys) at

-- the slots with the item at a key changed
abbrev pub changed_at : {T : Type 0} → (T → T) → Slab (Entry T) → ℕ → Option (Entry T) → Slab (Entry T)
changed_at left slots key None = slots
changed_at left slots key (Some entry) = with_value slots key (record entry { item = left entry.item })

-- the slots with the items at these keys changed, one after another
abbrev pub visited_at : {T : Type 0} → (T → T) → Slab (Entry T) → List ℕ → Slab (Entry T)
visited_at left slots [] = slots
visited_at left slots (key ∷ keys) = visited_at left (changed_at left slots key (get slots key)) keys

-- each item of a realm is changed, and where each item stands is as before
pub record IsVisited {T : Type 0} (left : T → T) (realm : ℕ) (old new : List (Placed T)) : Type 0 where
  pub items : items_in new realm ≡ map left (items_in old realm)
  pub others : (other : ℕ) → other ≢ realm → items_in new other ≡ items_in old other
  pub standing : (place : ℕ) → standing_in new place ≡ standing_in old place
  pub count : length new ≡ length old
