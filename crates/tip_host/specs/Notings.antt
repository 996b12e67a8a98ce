-- Entries of an event, made beforehand (ours).
use Rattle.std.specs.Prelude.{◌≡◌, ◌<◌, ◌+◌, ◌^◌, ℕ, List, true, Option, Some, None, is_some}
use Rattle.tip_journal.specs.Journals.{room}
use Rattle.tip_journal.specs.Pass.{Held}
use Rattle.tip_machine.specs.States.{State}
use Rattle.tip_machine.specs.Types.{Event}
use Rattle.tip_honest.specs.Honesty.{Journal}
use Rattle.tip_honest.specs.declared.entry.Entry.{Entry}
use Rattle.tip_host.specs.Entries.{takes_entry}
use Rattle.tip_host.specs.declared.noting.Noting.{Noting}

-- both are this event
abbrev pub AreOf : Event → Option Noting → Type 0
AreOf event None = Unit {0}
AreOf event (Some noting) = (noting.journal ≡ event) × (noting.pass ≡ event)

-- they are there exactly where the event takes an entry, and so is a place for each
pub record IsReadyFor (event : Event) (state : Option State) (journals : List (List Journal)) (pass : Held Entry) (place : ℕ) (noting : Option Noting) : Type 0 where
  pub takes : is_some noting ≡ takes_entry state
  pub of : AreOf event noting
  pub room : is_some noting ≡ true → (0 < room journals place) × (0 < pass.free)
  pub few : is_some noting ≡ true → (there : State) → state ≡ Some there → there.head.entries + 1 < 2 ^ 32
