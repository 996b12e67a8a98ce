-- How the keys lie by which items of one link are found: of each realm, by link, and as made. No contract of the table speaks of it.
use Rattle.std.specs.Prelude.{ℕ, ◌≡◌, ◌≢◌, ◌<◌, ◌&&◌, ◌||◌, ◌==◌, nat_lt, nat_le, Bool, true, false, List, Option, Some, None, IsSome, IfSome, is_some, length, filter, option_map, unwrap_or, if◌then◌else◌}
use Rattle.slab.specs.Slab.{Slab, get, slab_len}
use Rattle.tip_table.specs.Entries.{Pairwise, is_among, realm_in}
use Rattle.tip_table.specs.declared.link.Linked.{Ghosts}
use Rattle.tip_table.specs.declared.links.Unlisted.{Unlisted}
use Rattle.tip_table.specs.declared.links.Unlisted.TheVariants.{Nothing, One, Any}
use Rattle.tip_table.specs.declared.table.Entry.{Entry}

-- how many were made before the entry of a slot
abbrev pub made_in : {T : Type 0} → Option (Entry T) → ℕ
made_in None = 0
made_in (Some entry) = entry.made

-- the link under which it is listed
abbrev pub listed_in : {T : Type 0} → Option (Entry T) → Option ℕ
listed_in None = None
listed_in (Some entry) = entry.listed

-- the link that its item has
abbrev pub linked_in : {T : Type 0} → Ghosts T → Option (Entry T) → Option ℕ
linked_in linked None = None
linked_in linked (Some entry) = linked.link entry.item

-- what is known of its item
abbrev pub fits_in : {T : Type 0} → Ghosts T → Option (Entry T) → Type 0
fits_in linked None = Unit {0}
fits_in linked (Some entry) = linked.fits entry.item

-- its item is listed under its link, if it has one
abbrev pub IsRight : {T : Type 0} → Ghosts T → Option (Entry T) → Type 0
IsRight linked slot = IfSome (linked_in linked slot) (λ its. listed_in slot ≡ Some its) × fits_in linked slot

-- does it stand before one of this realm, link and age?
abbrev pub is_earlier : {T : Type 0} → ℕ → ℕ → ℕ → Option (Entry T) → Bool
is_earlier realm link made slot = nat_lt (realm_in slot) realm || (realm_in slot == realm && (nat_lt (unwrap_or (listed_in slot) 0) link || (unwrap_or (listed_in slot) 0 == link && nat_lt (made_in slot) made)))

-- is it of an earlier realm, or of this one and of no later link?
abbrev pub is_up_to : {T : Type 0} → ℕ → ℕ → Option (Entry T) → Bool
is_up_to realm link slot = nat_lt (realm_in slot) realm || (realm_in slot == realm && nat_le (unwrap_or (listed_in slot) 0) link)

abbrev pub is_link : Option ℕ → ℕ → Bool
is_link None link = false
is_link (Some other) link = other == link

-- is it of this realm, and listed under this link?
abbrev pub is_listed : {T : Type 0} → ℕ → ℕ → Option (Entry T) → Bool
is_listed realm link slot = realm_in slot == realm && is_link (listed_in slot) link

-- one stands before another
abbrev pub Stands : {T : Type 0} → Slab (Entry T) → ℕ → ℕ → Type 0
Stands slots key other = is_earlier (realm_in (get slots other)) (unwrap_or (listed_in (get slots other)) 0) (made_in (get slots other)) (get slots key) ≡ true

-- of one realm, it was made before the other
abbrev pub IsOlder : {T : Type 0} → Slab (Entry T) → ℕ → ℕ → Type 0
IsOlder slots key other = realm_in (get slots key) ≡ realm_in (get slots other) → made_in (get slots key) < made_in (get slots other)

-- these are the keys that are listed, in order
pub record AreLinks {T : Type 0} (slots : Slab (Entry T)) (links : List ℕ) : Type 0 where
  pub sorted : Pairwise (Stands slots) links
  pub listed : (key : ℕ) → is_among links key ≡ true → IsSome (listed_in (get slots key))

-- the key of an entry may be listed under another link
pub record MayList {T : Type 0} (slots : Slab (Entry T)) (links : List ℕ) (room : ℕ) (key : ℕ) : Type 0 where
  pub are : AreLinks slots links
  pub among : is_among links key ≡ is_some (listed_in (get slots key))
  -- no other of its realm is as old
  pub ages : (other : ℕ) → is_among links other ≡ true → other ≢ key → realm_in (get slots other) ≡ realm_in (get slots key) → made_in (get slots other) ≢ made_in (get slots key)
  pub space : is_among links key ≡ false → length links < room

-- the entry, listed under this link
abbrev pub relisted : {T : Type 0} → Option ℕ → Entry T → Entry T
relisted link entry = record entry { listed = link }

-- it is listed under this link, or under none
pub record IsRelisted {T : Type 0} (key : ℕ) (link : Option ℕ) (old : Slab (Entry T)) (before : List ℕ) (new : Slab (Entry T)) (after : List ℕ) : Type 0 where
  pub changed : get new key ≡ option_map (relisted link) (get old key)
  pub others : (other : ℕ) → other ≢ key → get new other ≡ get old other
  pub capacity : new.capacity ≡ old.capacity
  pub count : slab_len new ≡ slab_len old
  pub are : AreLinks new after
  pub among : (other : ℕ) → is_among after other ≡ (if key == other then is_some link && is_some (get old key) else is_among before other)

-- those that are listed, of all of these
pub record IsIndex {T : Type 0} (slots : Slab (Entry T)) (keys links : List ℕ) : Type 0 where
  pub older : Pairwise (IsOlder slots) keys
  pub are : AreLinks slots links
  pub among : (key : ℕ) → is_among links key ≡ (is_among keys key && is_some (listed_in (get slots key)))

-- each item that has a link is listed under it, but for this one
abbrev pub AreListed : {T : Type 0} → Ghosts T → Slab (Entry T) → List ℕ → Option ℕ → Type 0
AreListed linked slots keys but = (key : ℕ) → is_among keys key ≡ true → but ≢ Some key → IsRight linked (get slots key)

-- what is known of those that are listed, by what may be missing
abbrev pub IsKnown : {T : Type 0} → Ghosts T → Slab (Entry T) → List ℕ → List ℕ → Unlisted → Type 0
IsKnown linked slots keys links Nothing = IsIndex slots keys links × AreListed linked slots keys None
IsKnown linked slots keys links (One key) = IsIndex slots keys links × AreListed linked slots keys (Some key) × (is_among keys key ≡ true)
IsKnown linked slots keys links Any = Unit {0}

-- so many were made, if they were counted
abbrev pub AreCounted : {T : Type 0} → Slab (Entry T) → List ℕ → ℕ → Unlisted → Type 0
AreCounted slots keys made Any = Unit {0}
AreCounted slots keys made other = (key : ℕ) → is_among keys key ≡ true → made_in (get slots key) < made

-- among these keys are all of a realm's whose items have this link, in the order made, and none of another realm
pub record AreEnough {T : Type 0} (linked : Ghosts T) (slots : Slab (Entry T)) (own : List ℕ) (aim : Option ℕ) (some : List ℕ) : Type 0 where
  pub kept : ℕ → Bool
  pub are : some ≡ filter kept own
  pub all : (key : ℕ) → is_among own key ≡ true → IfSome aim (λ its. linked_in linked (get slots key) ≡ Some its) → kept key ≡ true
  pub fits : (key : ℕ) → is_among own key ≡ true → kept key ≡ false → fits_in linked (get slots key)

-- what was lent may be listed
abbrev pub MaySettle : {T : Type 0} → Slab (Entry T) → List ℕ → ℕ → Unlisted → Type 0
MaySettle slots links room (One key) = MayList slots links room key
MaySettle slots links room other = Unit {0}

-- what was lent is listed under the link that its item has, and nothing else changes
abbrev pub Settles : {T : Type 0} → Ghosts T → Unlisted → Slab (Entry T) → List ℕ → Unlisted → Slab (Entry T) → List ℕ → Type 0
Settles linked (One key) old before left new after = (left ≡ Nothing) × IsRelisted key (linked_in linked (get old key)) old before new after × fits_in linked (get old key)
Settles linked other old before left new after = (left ≡ other) × (new ≡ old) × (after ≡ before)

-- each item that has a link is listed under it, if all are but for what was lent
abbrev pub IsWhole : {T : Type 0} → Ghosts T → Slab (Entry T) → Unlisted → Type 0
IsWhole linked slots Nothing = Unit {0}
IsWhole linked slots (One key) = IsRight linked (get slots key)
IsWhole linked slots Any = ⊥

-- what may be missing once an item is lent
abbrev pub lent : ℕ → Unlisted → Unlisted
lent key Any = Any
lent key other = One key

-- what may be missing once an item has left
abbrev pub left : ℕ → Unlisted → Unlisted
left key (One other) = if other == key then Nothing else One other
left key other = other

-- the item of a key may leave
abbrev pub MayLeave : {T : Type 0} → Slab (Entry T) → List ℕ → ℕ → ℕ → Unlisted → Type 0
MayLeave slots links room key Any = Unit {0}
MayLeave slots links room key other = MayList slots links room key

-- it is listed no more
abbrev pub IsStruck : {T : Type 0} → ℕ → Unlisted → Slab (Entry T) → List ℕ → Slab (Entry T) → List ℕ → Type 0
IsStruck key Any old before new after = (new ≡ old) × (after ≡ before)
IsStruck key other old before new after = IsRelisted key None old before new after
