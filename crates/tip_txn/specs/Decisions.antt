-- The decision of two-phase commit (RFC 2371, section 13).
--
-- Answers are a set of pairs of a party and its answer: `answers party answer` says that the party takes part and that
-- this is its answer, None where it has not answered. The parts of a transaction decide by it, and so do the branches of one
-- party, whose decision is the party's own answer.
use Rattle.std.specs.Prelude.{ℕ, Option, Some, None, ◌⊎◌}
use Rattle.tip_txn.specs.declared.answer.Ballot.{Ballot}
use Rattle.tip_txn.specs.declared.answer.Ballot.TheVariants as answer
use Rattle.tip_txn.specs.declared.answer.Decision.{Decision}
use Rattle.tip_txn.specs.declared.answer.Decision.TheVariants as decision

-- some party has this answer
abbrev pub Says : (ℕ → Option Ballot → Type 0) → Option Ballot → Type 0
Says answers said = (party : ℕ) × answers party said

-- some party said no, or was lost before it answered
abbrev pub Refuses : (ℕ → Option Ballot → Type 0) → Type 0
Refuses answers = Says answers (Some answer.No) ⊎ Says answers (Some answer.Lost)

-- abort where one refuses; else wait where an answer is missing; else commit where one is yes; else nobody has changed anything
abbrev pub Decides : (ℕ → Option Ballot → Type 0) → Decision → Type 0
Decides answers decision.Abort = Refuses answers
Decides answers decision.Wait = ¬ Refuses answers × Says answers None
Decides answers decision.Commit = ¬ Refuses answers × ¬ Says answers None × Says answers (Some answer.Yes)
Decides answers decision.ReadOnly = ¬ Refuses answers × ¬ Says answers None × ¬ Says answers (Some answer.Yes)
