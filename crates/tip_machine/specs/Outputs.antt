-- What is seen of a realm from outside, in one order (ours).
use Rattle.std.specs.Prelude.{ℕ, List, [], ◌++◌, map, filter, filter_map, Option, option_map}
use Rattle.std.specs.Option.{option_map_or, option_to_list}
use Rattle.tip_branch.specs.declared.branch.Badge.{Badge}
use Rattle.tip_branch.specs.declared.member.Call.{Call}
use Rattle.tip_branch.specs.declared.member.Errand.{Errand}
use Rattle.tip_branch.specs.Members.{is_active}
use Rattle.tip_branch.specs.Notes.{PartyNotes}
use Rattle.tip_line.specs.declared.refusal.Refusal.{Refusal}
use Rattle.tip_machine.specs.Types.{Answer, Event}
use Rattle.tip_machine.specs.declared.answer.Sent.{Sent as ALine}
use Rattle.tip_machine.specs.declared.event.Change.{Change}
use Rattle.tip_machine.specs.declared.event.Event.TheVariants.{Voted, Settled}
use Rattle.tip_machine.specs.declared.event.Outcome.{Outcome}
use Rattle.tip_machine.specs.declared.event.Seat.{Seat}

pub data Output : Type 0 where
  Refused : Refusal → Output
  Opened : Seat → Output
  -- a branch of a transaction was called, and answered so
  Called : (id : List ℕ) → (member : ℕ) → Badge → Call → Output
  Changed : Change → Outcome → Output
  Sent : ALine → Output
  -- a transaction's party goes out
  Works : (id : List ℕ) → Errand → Output
  -- a branch that was still active is rolled back
  Dropped : (id : List ℕ) → (member : ℕ) → Badge → Output

-- the new calls of a party that came back
abbrev pub calls_of : PartyNotes → List Output
calls_of party = filter_map (λ member. option_map (Output.Called party.id member.number member.standing.badge) member.call) party.members

-- the active branches of a party that is let go
abbrev pub drops_of : PartyNotes → List Output
drops_of party = map (λ member. Output.Dropped party.id member.number member.standing.badge) (filter is_active party.members)

-- the calls that an event brings with it: they were made before it, whatever is answered
abbrev pub brought : Event → List Output
brought (Voted party) = calls_of party
brought (Settled party) = calls_of party
brought other = []

-- ALL THAT AN EVENT SHOWS: the refusal, a new connection, calls that came back, the change, lines and closings, work, drops
abbrev pub outputs : Event → Option Change → Outcome → Answer → List Output
outputs event change outcome answer =
    option_to_list (option_map Output.Refused answer.refusal)
    ++ (option_to_list (option_map Output.Opened answer.opened)
    ++ (brought event
    ++ (option_to_list (option_map (λ c. Output.Changed c outcome) change)
    ++ (map Output.Sent answer.sent
    ++ (option_to_list (option_map (λ party. Output.Works party.id party.errand) answer.work)
    ++ option_map_or drops_of answer.spent [])))))
