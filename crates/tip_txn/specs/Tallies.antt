-- The count of what the parts of a transaction have answered.
use Rattle.std.specs.Prelude.{◌≡◌, ℕ, ◌+◌, ◌<◌, ◌^◌, Bool, true, false, List, ◌∷◌, Option, Some, None, count_by, length}
use Rattle.tip_txn.specs.declared.answer.Ballot.{Ballot}
use Rattle.tip_txn.specs.declared.answer.Ballot.TheVariants as answer
use Rattle.tip_txn.specs.declared.part.Participant.{Participant}
use Rattle.tip_txn.specs.declared.tally.Tally.{Tally}

-- are these the same answer, where None is that of a part which has not answered?
abbrev pub is_said : Option Ballot → Option Ballot → Bool
is_said None None = true
is_said (Some answer.Yes) (Some answer.Yes) = true
is_said (Some answer.No) (Some answer.No) = true
is_said (Some answer.ReadOnly) (Some answer.ReadOnly) = true
is_said (Some answer.Lost) (Some answer.Lost) = true
is_said _ _ = false

-- how many parts have this answer
abbrev pub count_of : Option Ballot → List Participant → ℕ
count_of said parts = count_by (λ p. is_said said p.answer) parts

-- each count is that of the parts of its answer
pub record IsTally (tally : Tally) (parts : List Participant) : Type 0 where
  pub missing : tally.missing ≡ count_of None parts
  pub yes : tally.yes ≡ count_of (Some answer.Yes) parts
  pub no : tally.no ≡ count_of (Some answer.No) parts
  pub lost : tally.lost ≡ count_of (Some answer.Lost) parts

-- the tally of some parts, one of which has this answer, and so few that a count of them fits
pub record IsTallyWith (tally : Tally) (said : Option Ballot) : Type 0 where
  pub one : Participant
  pub others : List Participant
  pub has_it : one.answer ≡ said
  pub is : IsTally tally (one ∷ others)
  pub few : length others + 1 < 2 ^ 64
