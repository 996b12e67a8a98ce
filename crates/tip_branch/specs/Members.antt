-- What a party notes of its members.
use Rattle.std.specs.Prelude.{ℕ, ◌+◌, ◌==◌, ◌&&◌, Bool, true, false, List, [], ◌∷◌, map, Option, Some, None, option_map, nat_lt, nat_le, if◌then◌else◌}
use Rattle.std.specs.List.{list_any}
use Rattle.std.specs.Option.{option_flatten}
use Rattle.tip_branch.specs.declared.branch.Vote.{Vote}
use Rattle.tip_branch.specs.declared.branch.Vote.TheVariants as votes
use Rattle.tip_branch.specs.declared.branch.Settled.{Settled}
use Rattle.tip_branch.specs.declared.branch.Settled.TheVariants.{Done, Later}
use Rattle.tip_branch.specs.declared.branch.Phase.{Phase}
use Rattle.tip_branch.specs.declared.branch.Phase.TheVariants.{Active, Ready, Ended}
use Rattle.tip_branch.specs.declared.branch.Badge.{Badge}
use Rattle.tip_branch.specs.declared.branch.Plan.{Plan}
use Rattle.tip_branch.specs.declared.branch.Plan.TheVariants as plans
use Rattle.tip_branch.specs.declared.branch.Standing.{Standing}
use Rattle.tip_branch.specs.declared.member.Call.{Call}
use Rattle.tip_branch.specs.declared.member.Call.TheVariants as calls
use Rattle.tip_branch.specs.declared.member.Member.{Member}
use Rattle.tip_branch.specs.Plans.{planned_answer}
use Rattle.tip_branch.specs.Standings.{nothing, asked, committed, aborted}

-- what is noted of a branch when it comes to its party: what it is known by, its phase, and that this party told it nothing
abbrev pub new_member : ℕ → Badge → Phase → Member
new_member n b f = record { number = n; standing = record { badge = b; phase = f; told = nothing }; vote = None; call = None }

abbrev pub new_members : List ℕ → List Standing → List Member
new_members [] ss = []
new_members (n ∷ ns) [] = []
new_members (n ∷ ns) (s ∷ ss) = new_member n s.badge s.phase ∷ new_members ns ss

-- a member that was asked and voted v
abbrev pub voting : Member → Vote → Member
voting m v = record m { standing = asked m.standing v; vote = Some v; call = Some (calls.Vote v) }

-- a member that was told to commit and answered r
abbrev pub committing : Member → Settled → Member
committing m r = record m { standing = committed m.standing r; call = Some (calls.Commit r) }

-- a member that was told to abort
abbrev pub aborting : Member → Member
aborting m = record m { standing = aborted m.standing; call = Some calls.Abort }

-- a member whose new call is forgotten
abbrev pub forgetting : Member → Member
forgetting m = record m { call = None }

abbrev pub is_late : Plan → Bool
is_late plans.Open = false
is_late plans.Yes = false
is_late plans.No = false
is_late plans.ReadOnly = false
is_late plans.Late = true

-- the answer that a member promises to a commit, which is its plan's. One that came to its party
-- ready may have had its first commit before, so that a late plan promises nothing for its first here
abbrev pub promised_answer : Member → Option Settled
promised_answer m = if is_late m.standing.badge.plan && (m.standing.told.commits == 0) && is_unasked m.vote then None else planned_answer m.standing.badge.plan m.standing.told.commits
  where
    is_unasked : Option Vote → Bool
    is_unasked None = true
    is_unasked (Some v) = false

abbrev pub is_active_phase : Phase → Bool
is_active_phase Active = true
is_active_phase Ready = false
is_active_phase Ended = false

abbrev pub is_ready_phase : Phase → Bool
is_ready_phase Active = false
is_ready_phase Ready = true
is_ready_phase Ended = false

abbrev pub is_active : Member → Bool
is_active m = is_active_phase m.standing.phase

abbrev pub is_ready : Member → Bool
is_ready m = is_ready_phase m.standing.phase

abbrev pub is_no : Vote → Bool
is_no votes.Yes = false
is_no votes.No = true
is_no votes.ReadOnly = false

-- later where one is still ready
abbrev pub outcome : List Member → Settled
outcome ms = if list_any is_ready ms then Later else Done

-- the member of this number
abbrev pub member_of : ℕ → List Member → Option Member
member_of n [] = None
member_of n (m ∷ ms) = if m.number == n then Some m else member_of n ms

-- the phase, the vote and the new call of the member of this number
abbrev pub phase_of : ℕ → List Member → Option Phase
phase_of n ms = option_map (λ m. m.standing.phase) (member_of n ms)

abbrev pub vote_of : ℕ → List Member → Option Vote
vote_of n ms = option_flatten (option_map (λ m. m.vote) (member_of n ms))

abbrev pub call_of : ℕ → List Member → Option Call
call_of n ms = option_flatten (option_map (λ m. m.call) (member_of n ms))

-- member numbers: rising, above low, and at most 8
abbrev pub rise_above : ℕ → List ℕ → Bool
rise_above low [] = true
rise_above low (n ∷ ns) = nat_lt low n && nat_le n 8 && rise_above n ns

-- 1 to 8, rising
abbrev pub are_numbers : List ℕ → Bool
are_numbers ns = rise_above 0 ns

abbrev pub numbers_of : List Member → List ℕ
numbers_of ms = map (λ m. m.number) ms

-- the members of a new transaction, numbered from n on: active branches that are known so
abbrev pub fresh_members : ℕ → List Badge → List Member
fresh_members n [] = []
fresh_members n (b ∷ bs) = new_member n b Active ∷ fresh_members (n + 1) bs

-- a branch in this phase that is known so, and was told nothing by its party
abbrev pub untold : Phase → Badge → Standing
untold f b = record { badge = b; phase = f; told = nothing }

-- the members of a transaction that is taken up again: ready branches that are known so
abbrev pub ready_members : List ℕ → List Badge → List Member
ready_members ns bs = new_members ns (map (untold Ready) bs)
