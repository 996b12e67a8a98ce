-- False twins of worked examples (ours): runs as no realm may make them, each of which one sentence of agreement refuses.
use Rattle.std.specs.Prelude.{ℕ, zero, suc, List, [], ◌∷◌}
use Rattle.std.specs.List.{flat_map}
use Rattle.tip_branch.specs.declared.branch.Settled.TheVariants.{Done, Later}
use Rattle.tip_branch.specs.declared.member.Call.TheVariants as call
use Rattle.tip_line.specs.declared.refusal.Refusal.TheVariants.{Busy}
use Rattle.tip_machine.specs.Outputs.{Output}
use Rattle.tip_machine.specs.Examples.Scripts.{ask, say}
use Rattle.tip_machine.specs.Agreement.Traces.{Moment}
use Rattle.tip_machine.specs.declared.answer.Asked.TheVariants as asked
use Rattle.tip_machine.specs.declared.answer.Item.{Item}
use Rattle.tip_machine.specs.declared.answer.Item.TheVariants.{Say, Ask}
use Rattle.tip_machine.specs.declared.answer.Said.TheVariants as said
use Rattle.tip_machine.specs.declared.event.Outcome.TheVariants.{Stored, Refused}

-- a run that shows something else
abbrev pub forged : (Output → List Output) → List Moment → List Moment
forged f [] = []
forged f (moment ∷ moments) = record moment { shown = flat_map f moment.shown } ∷ forged f moments

-- a run in which what came at one place was not heard
abbrev pub unheard_at : ℕ → List Moment → List Moment
unheard_at place [] = []
unheard_at zero (moment ∷ moments) = record moment { shown = Output.Refused Busy ∷ moment.shown } ∷ moments
unheard_at (suc place) (moment ∷ moments) = moment ∷ unheard_at place moments

-- a branch that was told to commit is rolled back as well
abbrev pub told_both : Output → List Output
told_both (Output.Called id member badge (call.Commit answer)) = Output.Called id member badge (call.Commit answer) ∷ Output.Dropped id member badge ∷ []
told_both other = other ∷ []

-- no change was stored
abbrev pub never_stored : Output → List Output
never_stored (Output.Changed change Stored) = Output.Changed change Refused ∷ []
never_stored other = other ∷ []

-- no branch was asked for its vote
abbrev pub never_voted : Output → List Output
never_voted (Output.Called id member badge (call.Vote vote)) = []
never_voted other = other ∷ []

-- each branch asks to be told again
abbrev pub never_done : Output → List Output
never_done (Output.Called id member badge (call.Commit Done)) = Output.Called id member badge (call.Commit Later) ∷ []
never_done other = other ∷ []

-- who asks for a transaction is told that there is none
abbrev pub denied_by : ℕ → Item → Output
denied_by number (Say said.QueriedExists) = say number said.QueriedNotFound
denied_by number item = Output.Sent (record { connection = number; item = item })

abbrev pub denied : Output → List Output
denied (Output.Sent sent) = denied_by sent.connection sent.item ∷ []
denied other = other ∷ []

-- subordinates are told to commit where they were told to abort
abbrev pub told_to_commit_by : ℕ → Item → Output
told_to_commit_by number (Ask (asked.Abort key)) = ask number (asked.Commit key)
told_to_commit_by number item = Output.Sent (record { connection = number; item = item })

abbrev pub told_to_commit : Output → List Output
told_to_commit (Output.Sent sent) = told_to_commit_by sent.connection sent.item ∷ []
told_to_commit other = other ∷ []
