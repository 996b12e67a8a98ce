-- The journals of all realms: realm by realm, in the order declared, its journals, oldest first.
use Rattle.std.specs.Prelude.{◌≡◌, ℕ, zero, suc, ◌-◌, ◌<◌, ◌^◌, List, [], ◌∷◌, ◌++◌, length, map, take, All, Option, Some, None, slice_get, IsSomeAnd}
use Rattle.std.specs.List.Sorted.{IsStrictlyIncreasing}
use Rattle.std.specs.Option.{option_and_then}
use Rattle.tip_journal.specs.Journal.{Written}
use Rattle.tip_journal.specs.declared.pass.Noted.{Noted}

-- the list with the element at an index changed
abbrev pub changed_at : {A : Type 0} → ℕ → (A → A) → List A → List A
changed_at index change [] = []
changed_at zero change (x ∷ xs) = change x ∷ xs
changed_at (suc index) change (x ∷ xs) = x ∷ changed_at index change xs

-- the last of a realm's journals, which entries are added to
abbrev pub last_of : {S E : Type 0} → List (Written S E) → Option (Written S E)
last_of history = slice_get history (length history - 1)

-- a realm's journals with the last one changed
abbrev pub with_last : {S E : Type 0} → (Written S E → Written S E) → List (Written S E) → List (Written S E)
with_last change history = changed_at (length history - 1) change history

-- a realm's journals without the last one
abbrev pub without_last : {S E : Type 0} → List (Written S E) → List (Written S E)
without_last history = take (length history - 1) history

-- how many entries a journal has, 0 where there is none
abbrev pub entries_of : {S E : Type 0} → Option (Written S E) → ℕ
entries_of None = 0
entries_of (Some journal) = length journal.entries

-- the epoch of a journal, 0 where there is none
abbrev pub epoch_of : {S E : Type 0} → Option (Written S E) → ℕ
epoch_of None = 0
epoch_of (Some journal) = journal.epoch

-- how many entries can be added to it without memory
abbrev pub room_of : {S E : Type 0} → Option (Written S E) → ℕ
room_of None = 0
room_of (Some journal) = journal.free

-- the current journal of a realm
abbrev pub current : {S E : Type 0} → List (List (Written S E)) → ℕ → Option (Written S E)
current journals realm = option_and_then last_of (slice_get journals realm)

-- the number of its last entry, 0 where it has none
abbrev pub last_number : {S E : Type 0} → List (List (Written S E)) → ℕ → ℕ
last_number journals realm = entries_of (current journals realm)

-- its epoch, 0 where the realm is not there
abbrev pub epoch_at : {S E : Type 0} → List (List (Written S E)) → ℕ → ℕ
epoch_at journals realm = epoch_of (current journals realm)

-- how many entries can be added to it without memory, 0 where the realm is not there
abbrev pub room : {S E : Type 0} → List (List (Written S E)) → ℕ → ℕ
room journals realm = room_of (current journals realm)

-- all journals with a realm's current one changed
abbrev pub with_current : {S E : Type 0} → ℕ → (Written S E → Written S E) → List (List (Written S E)) → List (List (Written S E))
with_current realm change journals = changed_at realm (with_last change) journals

-- all journals with a realm's current one ended, and a new one begun
abbrev pub renewed : {S E : Type 0} → ℕ → Written S E → List (List (Written S E)) → List (List (Written S E))
renewed realm journal journals = changed_at realm (λ history. history ++ journal ∷ []) journals

-- a realm's current journal has no entry, and an earlier one stands before it
pub record IsWithdrawable {S E : Type 0} (history : List (Written S E)) : Type 0 where
  pub earlier : 1 < length history
  pub empty : IsSomeAnd (last_of history) (λ journal. journal.entries ≡ [])

-- what stands at a place of a realm's list
abbrev pub at : {A : Type 0} → List (List A) → ℕ → ℕ → Option A
at lists realm place = option_and_then (λ list. slice_get list place) (slice_get lists realm)

-- the journal at this place of a realm is of this epoch
abbrev pub IsOfEpoch : {S E : Type 0} → List (Written S E) → ℕ → ℕ → Type 0
IsOfEpoch history epoch place = IsSomeAnd (slice_get history place) (λ journal. journal.epoch ≡ epoch)

-- the journal that an entry names stands at this place of its realm
abbrev pub Names : {S E : Type 0} → List (List (Written S E)) → Noted E → ℕ → Type 0
Names journals noted place = IsSomeAnd (at journals noted.realm place) (λ journal. journal.epoch ≡ noted.epoch)

-- A realm has a journal, its epochs rise, and each entry's number fits 32 bits.
pub record IsHistory {S E : Type 0} (history : List (Written S E)) : Type 0 where
  pub some : 0 < length history
  pub rises : IsStrictlyIncreasing (map (λ journal. journal.epoch) history)
  pub numbered : All (λ journal. length journal.entries < 2 ^ 32) history
