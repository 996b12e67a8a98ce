-- PARTIES THAT ARE OUT of a host (ours): how they were sent, and how they come back.
use Rattle.std.specs.Prelude.{◌≡◌, ◌==◌, ◌&&◌, ◌++◌, ◌≢◌, ℕ, Bool, true, List, [], Option, Some, None, slice_get}
use Rattle.std.specs.Option.{option_and_then, option_to_list}
use Rattle.std.specs.Str.{bytes_eq}
use Rattle.tip_branch.specs.Notes.{PartyNotes}
use Rattle.tip_machine.specs.Honest.{brings_no_party}
use Rattle.tip_machine.specs.Returns.{Back, can_answer, event_of}
use Rattle.tip_machine.specs.Types.{Event}
use Rattle.tip_stored.specs.Errands.{was_done}
use Rattle.tip_table.specs.Kept.{Kept, item_at, of, places}
use Rattle.tip_table.specs.Lists.{IsFirst, without}

-- THE EVENT IS A PARTY THAT COMES BACK as its errand leaves it, from how it was sent
abbrev pub ComesFrom : PartyNotes → Event → Type 0
ComesFrom sent event = (back : Back) × (can_answer sent.errand back sent.members ≡ true) × (event ≡ event_of sent back)

-- and its calls were made
abbrev pub IsDone : PartyNotes → Event → Type 0
IsDone sent event = (back : Back) × (can_answer sent.errand back sent.members ≡ true) × (was_done sent.errand back ≡ true) × (event ≡ event_of sent back)

-- one that comes back to a realm, and how it was sent
pub record Came : Type 0 where
  pub realm : ℕ
  pub event : Event
  pub sent : PartyNotes

-- this party has the identifier and the epoch of the one that was sent so
abbrev pub is_errand_of : PartyNotes → PartyNotes → Bool
is_errand_of sent party = bytes_eq party.id sent.id && (party.epoch == sent.epoch)

-- the first of a realm's parties with its identifier and epoch was sent so, and stands at this place
abbrev pub WasSent : Kept PartyNotes → ℕ → PartyNotes → ℕ → ℕ → Type 0
WasSent out realm sent place at = (places out place ≡ Some (record { realm = realm; at = at })) × (slice_get (of out realm) at ≡ Some sent) × IsFirst (is_errand_of sent) (of out realm) at

-- AN EVENT BRINGS NOBODY, or who was taken out and stands at this place, as the errand leaves it
abbrev pub BringsAt : Kept PartyNotes → ℕ → Event → Option ℕ → Type 0
BringsAt out realm event None = brings_no_party event ≡ true
BringsAt out realm event (Some place) = (at : ℕ) × (sent : PartyNotes) × WasSent out realm sent place at × ComesFrom sent event

-- who stands at a place, where one is named
abbrev pub standing_at : Kept PartyNotes → Option ℕ → Option PartyNotes
standing_at out place = option_and_then (item_at out) place

-- those that are still out once this one has come back, or is lost
abbrev pub left_out : Option PartyNotes → List PartyNotes → List PartyNotes
left_out None out = out
left_out (Some sent) out = without (is_errand_of sent) out

-- THE OLDEST PARTY OF A REALM THAT WAITS goes out, if one waits, behind those that are out. Every other realm keeps both
pub record Takes (realm : ℕ) (found : Option PartyNotes) (waits waits' out out' : Kept PartyNotes) : Type 0 where
  pub waited : of waits realm ≡ option_to_list found ++ of waits' realm
  pub none : found ≡ None → of waits realm ≡ []
  pub goes : of out' realm ≡ of out realm ++ option_to_list found
  pub others : (other : ℕ) → other ≢ realm → (of waits' other ≡ of waits other) × (of out' other ≡ of out other)
