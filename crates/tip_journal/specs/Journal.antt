-- A journal as contracts see it.
use Rattle.std.specs.Prelude.{ℕ, zero, suc, ◌-◌, List, [], ◌∷◌, ◌++◌, Option, None, slice_get}

pub record Written (S E : Type 0) : Type 0 where
  pub epoch : ℕ
  -- what the realm began this epoch with
  pub start : S
  pub entries : List E
  -- how many entries can be added without memory
  pub free : ℕ

-- a journal with no entries and no room
abbrev pub begun : {S E : Type 0} → ℕ → S → Written S E
begun epoch start = record { epoch = epoch; start = start; entries = []; free = 0 }

-- the journal with room for so many entries
abbrev pub with_room : {S E : Type 0} → ℕ → Written S E → Written S E
with_room free journal = record journal { free = free }

-- the journal with one entry more, in room that it had
abbrev pub with_entry : {S E : Type 0} → E → Written S E → Written S E
with_entry entry journal = record journal { entries = journal.entries ++ entry ∷ []; free = journal.free - 1 }

-- the entry of a number, from 1
abbrev pub at_number : {E : Type 0} → List E → ℕ → Option E
at_number entries zero = None
at_number entries (suc place) = slice_get entries place
