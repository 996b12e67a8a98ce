-- What the branches of a script answer: each of them has promised it by its plan.
use Rattle.std.specs.Prelude.{Bool, true, not, ◌&&◌, ◌||◌, List, [], ◌∷◌, Option, is_some, unwrap_or, if◌then◌else◌}
use Rattle.std.specs.List.{list_all}
use Rattle.tip_branch.specs.Members.{is_active, is_late, is_no, is_ready}
use Rattle.tip_branch.specs.Notes.{PartyNotes}
use Rattle.tip_branch.specs.Plans.{planned_answer, planned_vote}
use Rattle.tip_branch.specs.declared.branch.Settled.{Settled}
use Rattle.tip_branch.specs.declared.branch.Settled.TheVariants.{Done}
use Rattle.tip_branch.specs.declared.branch.Vote.{Vote}
use Rattle.tip_branch.specs.declared.branch.Vote.TheVariants.{Yes}
use Rattle.tip_branch.specs.declared.member.Errand.{Errand}
use Rattle.tip_branch.specs.declared.member.Errand.TheVariants as errand
use Rattle.tip_branch.specs.declared.member.Member.{Member}
use Rattle.tip_machine.specs.Returns.{Back}

-- what a branch answers to a commit, by its plan
abbrev pub planned : Member → Option Settled
planned member = planned_answer member.standing.badge.plan member.standing.told.commits

abbrev pub vote_of : Member → Vote
vote_of member = unwrap_or (planned_vote member.standing.badge.plan) Yes

-- the active members vote in order, up to the first no
abbrev pub votes_of : List Member → List Vote
votes_of [] = []
votes_of (member ∷ members) = if is_active member then vote_of member ∷ (if is_no (vote_of member) then [] else votes_of members) else votes_of members

-- the ready members answer a commit
abbrev pub settlements_of : List Member → List Settled
settlements_of [] = []
settlements_of (member ∷ members) = if is_ready member then unwrap_or (planned member) Done ∷ settlements_of members else settlements_of members

abbrev pub answers_to : Errand → List Member → Back
answers_to errand.Vote members = Back.Votes (votes_of members)
answers_to errand.Commit members = Back.Settlements (settlements_of members)
answers_to errand.Abort members = Back.Aborted
answers_to errand.Idle members = Back.Undone

-- what the branches of a party answer to its errand
abbrev pub answers_of : PartyNotes → Back
answers_of party = answers_to party.errand party.members

-- What a branch answers to the errand is promised. A late one that came ready may have had its first commit before.
abbrev pub is_promised : Errand → Member → Bool
is_promised errand.Vote member = is_some (planned_vote member.standing.badge.plan)
is_promised errand.Commit member = is_some (planned member) && (not (is_late member.standing.badge.plan) || is_some member.vote)
is_promised other member = true

-- all that a party will answer is promised
abbrev pub are_foretold : PartyNotes → Bool
are_foretold party = list_all (is_promised party.errand) party.members
