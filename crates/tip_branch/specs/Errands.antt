-- What an errand makes of the members of a party.
use Rattle.std.specs.Prelude.{◌≡◌, Bool, false, List, [], ◌∷◌, Option, Some, None, IfSome}
use Rattle.tip_branch.specs.declared.branch.Vote.{Vote}
use Rattle.tip_branch.specs.declared.branch.Settled.{Settled}
use Rattle.std.specs.Bool.{MatchBool}
use Rattle.tip_branch.specs.declared.branch.Phase.{Phase}
use Rattle.tip_branch.specs.declared.branch.Phase.TheVariants.{Active, Ready, Ended}
use Rattle.tip_branch.specs.declared.member.Call.{Call}
use Rattle.tip_branch.specs.declared.member.Call.TheVariants as calls
use Rattle.tip_branch.specs.declared.member.Errand.{Errand}
use Rattle.tip_branch.specs.declared.member.Errand.TheVariants as errands
use Rattle.tip_branch.specs.declared.member.Member.{Member}
use Rattle.tip_branch.specs.Plans.{planned_vote}
use Rattle.tip_branch.specs.Members.{voting, committing, aborting, promised_answer, is_no}

-- a member in this phase is asked: an active one votes once, as its plan promises
abbrev pub IsAsked : Phase → Member → Member → Type 0
IsAsked Active m n = (v : Vote) × IfSome (planned_vote m.standing.badge.plan) (λ w. v ≡ w) × (n ≡ voting m v)
IsAsked Ready m n = n ≡ m
IsAsked Ended m n = n ≡ m

-- a member in this phase is told to commit: a ready one answers once, as it promises
abbrev pub IsToldCommit : Phase → Member → Member → Type 0
IsToldCommit Active m n = n ≡ m
IsToldCommit Ready m n = (r : Settled) × IfSome (promised_answer m) (λ a. r ≡ a) × (n ≡ committing m r)
IsToldCommit Ended m n = n ≡ m

-- a member in this phase is told to abort, once where it is ready
abbrev pub IsToldAbort : Phase → Member → Member → Type 0
IsToldAbort Active m n = n ≡ m
IsToldAbort Ready m n = n ≡ aborting m
IsToldAbort Ended m n = n ≡ m

-- a member gets the errand's call
abbrev pub IsTold : Errand → Member → Member → Type 0
IsTold errands.Idle m n = n ≡ m
IsTold errands.Vote m n = IsAsked m.standing.phase m n
IsTold errands.Commit m n = IsToldCommit m.standing.phase m n
IsTold errands.Abort m n = IsToldAbort m.standing.phase m n

abbrev pub is_vote_of_no : Option Call → Bool
is_vote_of_no None = false
is_vote_of_no (Some (calls.Vote v)) = is_no v
is_vote_of_no (Some (calls.Commit r)) = false
is_vote_of_no (Some calls.Abort) = false

-- the members get the errand's call in order, up to the first that votes no; the others are left
abbrev pub IsCarriedOut : Errand → List Member → List Member → Type 0
IsCarriedOut e [] ns = ns ≡ []
IsCarriedOut e (m ∷ ms) [] = ⊥
IsCarriedOut e (m ∷ ms) (n ∷ ns) = IsTold e m n × MatchBool (is_vote_of_no n.call) (ns ≡ ms) (IsCarriedOut e ms ns)
