-- What a party answers: the decision of two-phase commit, taken over its members.
use Rattle.std.specs.Prelude.{◌≡◌, ℕ, List, Option, Some, None, option_map, slice_get, if◌then◌else◌}
use Rattle.tip_txn.specs.declared.answer.Ballot.{Ballot}
use Rattle.tip_txn.specs.declared.answer.Ballot.TheVariants as answers
use Rattle.tip_txn.specs.declared.answer.Decision.{Decision}
use Rattle.tip_txn.specs.declared.answer.Decision.TheVariants as decisions
use Rattle.tip_branch.specs.declared.branch.Vote.{Vote}
use Rattle.tip_branch.specs.declared.branch.Vote.TheVariants as votes
use Rattle.tip_branch.specs.declared.member.Member.{Member}
use Rattle.tip_branch.specs.Members.{is_active}

-- a vote as the answer of whoever voted so
abbrev pub answer_of : Vote → Ballot
answer_of votes.Yes = answers.Yes
answer_of votes.No = answers.No
answer_of votes.ReadOnly = answers.ReadOnly

-- a member's answer is its vote, and one that is still active is a no. One that came ready voted before, and takes no part
abbrev pub ballot : Member → Option Ballot
ballot m = if is_active m then Some answers.No else option_map answer_of m.vote

-- the set of pairs of a member and its answer; no answer is missing
abbrev pub ballots_of : List Member → ℕ → Option Ballot → Type 0
ballots_of members place None = ⊥
ballots_of members place (Some said) = option_map ballot (slice_get members place) ≡ Some (Some said)

-- what the members of a party decided where it votes so
abbrev pub decided : Vote → Decision
decided votes.Yes = decisions.Commit
decided votes.No = decisions.Abort
decided votes.ReadOnly = decisions.ReadOnly
