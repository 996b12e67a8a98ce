-- The branches' own account of what they were told, beside what their party notes.
use Rattle.std.specs.Prelude.{◌≡◌, ◌≤◌, List, [], ◌∷◌, Option, Some, None}
use Rattle.tip_branch.specs.declared.branch.Vote.{Vote}
use Rattle.tip_branch.specs.declared.branch.Phase.TheVariants.{Active}
use Rattle.tip_branch.specs.declared.branch.Standing.{Standing}
use Rattle.tip_branch.specs.declared.member.Call.{Call}
use Rattle.tip_branch.specs.declared.member.Call.TheVariants as calls
use Rattle.tip_branch.specs.declared.member.Member.{Member}
use Rattle.tip_branch.specs.Standings.{nothing, aborted, IsVoted, IsCommitted}

-- what is noted of a member is what its branch stands for. What the branch was told before it came
-- to the party is not noted; one that voted in the party was told nothing before
pub record StandsAs (m : Member) (s : Standing) : Type 0 where
  pub badge : s.badge ≡ m.standing.badge
  pub phase : s.phase ≡ m.standing.phase
  pub untold : m.standing.phase ≡ Active → m.standing.told ≡ nothing
  pub voted : (v : Vote) → m.vote ≡ Some v → s ≡ m.standing
  pub commits : m.standing.told.commits ≤ s.told.commits

-- member by member
abbrev pub Agrees : List Member → List Standing → Type 0
Agrees [] [] = Unit {0}
Agrees [] (s ∷ ss) = ⊥
Agrees (m ∷ ms) [] = ⊥
Agrees (m ∷ ms) (s ∷ ss) = StandsAs m s × Agrees ms ss

-- a branch got this call and no other, by its own account
abbrev pub IsCalled : Option Call → Standing → Standing → Type 0
IsCalled None s t = t ≡ s
IsCalled (Some (calls.Vote v)) s t = IsVoted s v t
IsCalled (Some (calls.Commit r)) s t = IsCommitted s r t
IsCalled (Some calls.Abort) s t = t ≡ aborted s

-- each branch got its member's new call and no other
abbrev pub AreCalled : List Member → List Standing → List Standing → Type 0
AreCalled [] [] [] = Unit {0}
AreCalled (m ∷ ms) (s ∷ ss) (t ∷ ts) = IsCalled m.call s t × AreCalled ms ss ts
AreCalled _ _ _ = ⊥
