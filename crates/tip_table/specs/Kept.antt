-- What a table keeps: the items of each realm in the order made, and the places at which they stand.
use Rattle.std.specs.Prelude.{◌≡◌, ℕ, ◌+◌, Bool, ◌==◌, if◌then◌else◌, List, Option, Some, None, length, slice_get, slice_set, remove}
use Rattle.std.specs.Option.{option_and_then}
use Rattle.tip_table.specs.Lists.{IsFirst}
use Rattle.tip_table.specs.Entries.{Item, Placed, items_in, standing_in, written_in}

-- How the entries lie is the table's own affair: what is promised is said by `of`, `places` and `free`.
pub record Kept (T : Type 0) : Type 0 where
  pub entries : List (Placed T)
  -- how many items can be added without memory
  pub free : ℕ

-- how many items it can keep without memory
abbrev pub capacity : {T : Type 0} → Kept T → ℕ
capacity kept = length kept.entries + kept.free

-- the items of a realm, in the order made
unfoldable pub of : {T : Type 0} → Kept T → ℕ → List T
of kept realm = items_in kept.entries realm

-- which item stands at a place
unfoldable pub places : {T : Type 0} → Kept T → ℕ → Option Item
places kept place = standing_in kept.entries place

-- the table with the item at a place written
unfoldable pub with_item_at : {T : Type 0} → Kept T → ℕ → T → Kept T
with_item_at kept place value = record kept { entries = written_in kept.entries place value }

-- The first item of a realm that passes a test stands at this place.
pub record StandsAt {T : Type 0} (kept : Kept T) (realm : ℕ) (test : T → Bool) (place : ℕ) : Type 0 where
  pub at : ℕ
  pub there : places kept place ≡ Some (record { realm = realm; at = at })
  pub first : IsFirst test (of kept realm) at

-- the item at a place
abbrev pub item_at : {T : Type 0} → Kept T → ℕ → Option T
item_at kept place = option_and_then (λ item. slice_get (of kept item.realm) item.at) (places kept place)

-- a realm's items with one written, where it is the realm's
abbrev pub written : {T : Type 0} → Option Item → T → ℕ → List T → List T
written None value realm items = items
written (Some item) value realm items = if item.realm == realm then slice_set items item.at value else items

-- a realm's items with one taken out, where it is the realm's
abbrev pub taken_out : {T : Type 0} → Option Item → ℕ → List T → List T
taken_out None realm items = items
taken_out (Some item) realm items = if item.realm == realm then remove items item.at else items
