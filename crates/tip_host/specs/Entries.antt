-- The journal and the pass of an event (ours).
use Rattle.std.specs.Prelude.{◌≡◌, ℕ, ◌+◌, List, [], ◌∷◌, ◌++◌, map, Option, Some, None, Bool, true, false}
use Rattle.tip_honest.specs.Honesty.{Journal}
use Rattle.tip_honest.specs.declared.entry.Entry.{Entry}
use Rattle.tip_journal.specs.Journal.{with_entry, with_room}
use Rattle.tip_journal.specs.Journals.{epoch_at, last_number, with_current}
use Rattle.tip_journal.specs.declared.pass.Noted as notes
use Rattle.tip_machine.specs.States.{State}
use Rattle.tip_machine.specs.Steps.{is_open}

abbrev pub Noted : Type 0
Noted = notes.Noted Entry

-- journals as they are seen: how much room they have is no part of it
abbrev pub bare : List (List Journal) → List (List Journal)
bare journals = map (map (with_room 0)) journals

-- does an event take an entry? not in a realm that is not there, or is frozen
abbrev pub takes_entry : Option State → Bool
takes_entry None = false
takes_entry (Some state) = is_open state

-- THE REALM'S JOURNAL AND THE PASS HAVE THIS ENTRY MORE, with the next number; where none is taken both stay
abbrev pub Enters : Bool → List (List Journal) → List (List Journal) → List Noted → List Noted → ℕ → Entry → Option ℕ → Type 0
Enters false old new noted noted' place entry number = (new ≡ old) × (noted' ≡ noted) × (number ≡ None)
Enters true old new noted noted' place entry number =
    (new ≡ with_current place (with_entry entry) old)
    × (noted' ≡ noted ++ record { realm = place; epoch = epoch_at old place; number = last_number old place + 1; entry = entry } ∷ [])
    × (number ≡ Some (last_number old place + 1))
