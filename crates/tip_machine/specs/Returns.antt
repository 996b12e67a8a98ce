-- How a party comes back from its errand (ours): its branches were called, and answered, or nobody was called.
use Rattle.std.specs.Prelude.{Bool, true, false, ◌&&◌, not, List, [], ◌∷◌, map, Option, Some, None, if◌then◌else◌}
use Rattle.tip_branch.specs.Members.{aborting, committing, is_active, is_no, is_ready, promised_answer, voting}
use Rattle.tip_branch.specs.Notes.{PartyNotes}
use Rattle.tip_branch.specs.Plans.{planned_vote}
use Rattle.tip_branch.specs.declared.branch.Settled.{Settled}
use Rattle.tip_branch.specs.declared.branch.Settled.TheVariants as settled
use Rattle.tip_branch.specs.declared.branch.Vote.{Vote}
use Rattle.tip_branch.specs.declared.branch.Vote.TheVariants as vote
use Rattle.tip_branch.specs.declared.member.Errand.{Errand}
use Rattle.tip_branch.specs.declared.member.Errand.TheVariants as errand
use Rattle.tip_branch.specs.declared.member.Member.{Member}
use Rattle.tip_machine.specs.Types.{Event}
use Rattle.tip_machine.specs.declared.event.Event.TheVariants as event

-- What the branches answer that an errand calls, in order; or that nobody was called. It is all that is chosen where a party
-- comes back: what is noted of it then is computed from the party that went out.
pub data Back : Type 0 where
  Votes : List Vote → Back
  Settlements : List Settled → Back
  Aborted : Back
  Undone : Back

-- the active members vote in order, up to the first no; the others are left
abbrev pub voted_by : List Vote → List Member → List Member
voted_by votes [] = []
voted_by [] (member ∷ members) = member ∷ members
voted_by (v ∷ votes) (member ∷ members) =
    if is_active member then voting member v ∷ (if is_no v then members else voted_by votes members)
    else member ∷ voted_by (v ∷ votes) members

-- the ready members are told to commit, and answer in order
abbrev pub settled_by : List Settled → List Member → List Member
settled_by answers [] = []
settled_by [] (member ∷ members) = member ∷ members
settled_by (s ∷ answers) (member ∷ members) =
    if is_ready member then committing member s ∷ settled_by answers members
    else member ∷ settled_by (s ∷ answers) members

-- a ready member is told to abort
abbrev pub aborted_if_ready : Member → Member
aborted_if_ready member = if is_ready member then aborting member else member

-- the members once their errand is over
abbrev pub called : Errand → Back → List Member → List Member
called errand.Vote (Back.Votes votes) members = voted_by votes members
called errand.Commit (Back.Settlements answers) members = settled_by answers members
called errand.Abort Back.Aborted members = map aborted_if_ready members
called other back members = members

-- the party as it comes back
abbrev pub back_of : PartyNotes → Back → PartyNotes
back_of party back = record party { errand = errand.Idle; members = called party.errand back party.members }

-- the event that it is
abbrev pub back_from : Errand → PartyNotes → Event
back_from errand.Vote party = event.Voted party
back_from other party = event.Settled party

abbrev pub event_of : PartyNotes → Back → Event
event_of party back = back_from party.errand (back_of party back)

-- Answers as they can be: as many as members are called, each its plan's where the plan promises one

abbrev pub is_vote : Vote → Vote → Bool
is_vote vote.Yes vote.Yes = true
is_vote vote.No vote.No = true
is_vote vote.ReadOnly vote.ReadOnly = true
is_vote this that = false

abbrev pub is_settled : Settled → Settled → Bool
is_settled settled.Done settled.Done = true
is_settled settled.Later settled.Later = true
is_settled this that = false

abbrev pub keeps : {T : Type 0} → (T → T → Bool) → Option T → T → Bool
keeps same None answer = true
keeps same (Some promised) answer = same promised answer

abbrev pub is_nil : {T : Type 0} → List T → Bool
is_nil [] = true
is_nil (x ∷ xs) = false

abbrev pub are_votes : List Vote → List Member → Bool
are_votes votes [] = is_nil votes
are_votes [] (member ∷ members) = not (is_active member) && are_votes [] members
are_votes (v ∷ votes) (member ∷ members) =
    if is_active member then keeps is_vote (planned_vote member.standing.badge.plan) v && (if is_no v then is_nil votes else are_votes votes members)
    else are_votes (v ∷ votes) members

abbrev pub are_settlements : List Settled → List Member → Bool
are_settlements answers [] = is_nil answers
are_settlements [] (member ∷ members) = not (is_ready member) && are_settlements [] members
are_settlements (s ∷ answers) (member ∷ members) =
    if is_ready member then keeps is_settled (promised_answer member) s && are_settlements answers members
    else are_settlements (s ∷ answers) members

-- the branches of this party can answer so
abbrev pub can_answer : Errand → Back → List Member → Bool
can_answer errand.Vote (Back.Votes votes) members = are_votes votes members
can_answer errand.Commit (Back.Settlements answers) members = are_settlements answers members
can_answer errand.Abort Back.Aborted members = true
can_answer other Back.Undone members = true
can_answer other back members = false

-- somebody was called, if there was anybody to call
abbrev pub is_done : Back → Bool
is_done (Back.Votes votes) = true
is_done (Back.Settlements answers) = true
is_done Back.Aborted = true
is_done Back.Undone = false
