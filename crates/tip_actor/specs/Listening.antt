-- What readers give, and which of them have something to give.
use Rattle.std.specs.Prelude.{◌≡◌, ◌⊎◌, ℕ, List, [], ◌∷◌, ◌++◌, Bool, true, Option, Some, None, slice_get}
use Rattle.std.specs.BTreeMap.{is_at}
use Rattle.std.specs.List.{list_any}
use Rattle.std.specs.Ordering.{nat_cmp}
use Rattle.tip_line.specs.Reading.{Item, items_of}
use Rattle.tip_machine.specs.declared.event.Heard.{Heard}
use Rattle.tip_actor.specs.Acting.{said_by}
use Rattle.tip_actor.specs.declared.reader.Asked.{Asked}
use Rattle.tip_actor.specs.declared.reader.Asked.TheVariants as asked
use Rattle.tip_actor.specs.declared.reader.Reader.{Reader}
use Rattle.tip_actor.specs.declared.reader.Stream.{Stream}
use Rattle.tip_actor.specs.declared.reader.Stream.TheVariants.{Empty, Lines, Over}

-- what a stream gives, where these octets are still to come
abbrev pub given_of : Stream → List ℕ → List Item
given_of Empty more = items_of more
given_of (Lines lines) more = items_of (lines ++ more)
given_of Over more = []

-- what a reader gives, where these octets are still to come
abbrev pub gives : Reader → List ℕ → List Item
gives reader more = given_of reader.stream more

-- what a reader says next, and what it gives then
abbrev pub Says : Reader → Option Heard → Reader → Type 0
Says old None new = (gives old [] ≡ []) × ((more : List ℕ) → gives new more ≡ gives old more)
Says old (Some heard) new = (item : Item) × (heard ≡ said_by item) × ((more : List ℕ) → gives old more ≡ item ∷ gives new more)

-- a reader from which nothing can be taken until more comes
abbrev pub IsIdle : Reader → Type 0
IsIdle reader = gives reader [] ≡ []

-- the line that was taken, if one was
abbrev pub line_of : Asked → Option Heard
line_of (asked.Line heard) = Some heard
line_of asked.Held = None
line_of asked.Nothing = None

-- a reader that was asked has nothing, or gives what it gave
abbrev pub IsAsked : Asked → Reader → Reader → Type 0
IsAsked (asked.Line heard) old new = Unit {0}
IsAsked asked.Held old new = (more : List ℕ) → gives new more ≡ gives old more
IsAsked asked.Nothing old new = IsIdle new

-- a realm's readers, as they are seen
pub record Listening : Type 0 where
  pub items : List Reader

-- is a place among these?
abbrev pub is_among : List ℕ → ℕ → Bool
is_among places place = list_any (is_at (nat_cmp place)) places

-- whoever has something to give is at one of these places
abbrev pub AreBusyAt : List ℕ → List Reader → Type 0
AreBusyAt places readers = (place : ℕ) (reader : Reader) → slice_get readers place ≡ Some reader → (is_among places place ≡ true) ⊎ IsIdle reader

-- the reader at a place, if one was found there, has nothing
abbrev pub IsIdleAt : Option ℕ → List Reader → Type 0
IsIdleAt None readers = Unit {0}
IsIdleAt (Some place) readers = (reader : Reader) → slice_get readers place ≡ Some reader → IsIdle reader
