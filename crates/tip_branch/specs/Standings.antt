-- What a branch stands for, and what each call makes of it.
use Rattle.std.specs.Prelude.{◌≡◌, ℕ, ◌+◌, ◌==◌, true, false, IfSome, if◌then◌else◌}
use Rattle.tip_branch.specs.declared.branch.Vote.{Vote}
use Rattle.tip_branch.specs.declared.branch.Vote.TheVariants.{Yes, No, ReadOnly}
use Rattle.tip_branch.specs.declared.branch.Settled.{Settled}
use Rattle.tip_branch.specs.declared.branch.Settled.TheVariants.{Done, Later}
use Rattle.tip_branch.specs.declared.branch.Phase.{Phase}
use Rattle.tip_branch.specs.declared.branch.Phase.TheVariants.{Active, Ready, Ended}
use Rattle.tip_branch.specs.declared.branch.Standing.{Standing}
use Rattle.tip_branch.specs.declared.branch.Told.{Told}
use Rattle.tip_branch.specs.Plans.{planned_vote, planned_answer}

-- a branch that was told nothing yet
abbrev pub nothing : Told
nothing = record { asked = false; aborted = false; commits = 0 }

-- one more, up to the greatest number of 64 bits
abbrev pub one_more : ℕ → ℕ
one_more n = if n == 18446744073709551615 then n else n + 1

-- the phase that a vote leads to
abbrev pub phase_after_vote : Vote → Phase
phase_after_vote Yes = Ready
phase_after_vote No = Ended
phase_after_vote ReadOnly = Ended

-- the phase that the answer to a commit leads to
abbrev pub phase_after_commit : Settled → Phase
phase_after_commit Done = Ended
phase_after_commit Later = Ready

abbrev pub asked : Standing → Vote → Standing
asked s v = record s { phase = phase_after_vote v; told = record s.told { asked = true } }

abbrev pub committed : Standing → Settled → Standing
committed s r = record s { phase = phase_after_commit r; told = record s.told { commits = one_more s.told.commits } }

abbrev pub aborted : Standing → Standing
aborted s = record s { phase = Ended; told = record s.told { aborted = true } }

-- a branch that is let go in this phase is told to abort where it is active, and nothing otherwise
abbrev pub let_go_in : Phase → Standing → Standing
let_go_in Active s = aborted s
let_go_in Ready s = s
let_go_in Ended s = s

abbrev pub let_go : Standing → Standing
let_go s = let_go_in s.phase s

-- a branch was asked, and voted v as its plan promises; an active branch was told nothing before
pub record IsVoted (before : Standing) (v : Vote) (now : Standing) : Type 0 where
  pub planned : IfSome (planned_vote before.badge.plan) (λ w. v ≡ w)
  pub untold : before.told ≡ nothing
  pub after : now ≡ asked before v

-- a branch was told to commit, and answered r as its plan promises
pub record IsCommitted (before : Standing) (r : Settled) (now : Standing) : Type 0 where
  pub planned : IfSome (planned_answer before.badge.plan before.told.commits) (λ a. r ≡ a)
  pub after : now ≡ committed before r
