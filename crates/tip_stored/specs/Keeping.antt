-- What an event does to the rows in the store.
use Rattle.std.specs.Prelude.{◌≡◌, ◌≢◌, ◌⊎◌, ℕ, List, Bool, IsTrue, true, false, ◌&&◌, Option, Some, None, if◌then◌else◌}
use Rattle.std.specs.Str.{bytes_eq}
use Rattle.tip_rows.specs.Logs.{Keeping, Log, IsSettled, counted, with_row, without_row}
use Rattle.tip_machine.specs.States.{State}
use Rattle.tip_machine.specs.Steps.{fits, wants}
use Rattle.tip_machine.specs.Types.{Answer, Event}
use Rattle.tip_machine.specs.declared.event.Change.{Change}
use Rattle.tip_machine.specs.declared.event.Change.TheVariants.{Put, Remove}
use Rattle.tip_machine.specs.declared.event.Outcome.{Outcome}
use Rattle.tip_machine.specs.declared.event.Outcome.TheVariants.{NoChange, Stored, Refused}
use Rattle.tip_core.specs.Hosted.{HaveNames, Hosted, Steps, realm}
use Rattle.tip_core.specs.declared.happened.Happened as happenings
use Rattle.tip_stored.specs.declared.stored_core.StoredCore as stored_cores

-- the log with a change of a realm's rows
abbrev pub with_change : List ℕ → Change → Log → Log
with_change realm (Put key row) log = with_row realm key row log
with_change realm (Remove key) log = without_row realm key log

-- the log after an event that may have wanted a change
abbrev pub log_after : List ℕ → Option Change → Outcome → Log → Log
log_after realm (Some change) Stored log = with_change realm change log
log_after realm change outcome log = log

abbrev pub is_refusal : Outcome → Bool
is_refusal NoChange = false
is_refusal Stored = false
is_refusal Refused = true

abbrev pub is_change : Option Change → Bool
is_change None = false
is_change (Some change) = true

-- WHAT BECAME OF THE CHANGE that an event of this realm wanted, if any: the outcome says whether the store has made it. At most
-- one change is made, a refusal is counted, and a stop leaves what it might have left before, or the rows with the change.
pub record Keeps {S : Type 0} (kept : Keeping S) (realm : List ℕ) (change : Option Change) (outcome : Outcome) (old new : S) : Type 0 where
  pub rows : (log : Log) → kept.stands old log → kept.stands new (log_after realm change outcome log)
  pub counts : kept.faults new ≡ counted (is_refusal outcome) (kept.faults old)
  pub truth : kept.is_true new → kept.is_true old
  pub stop : (log : Log) → kept.stands old log → kept.is_true new → (left : Log) → kept.may_leave new left → kept.may_leave old left ⊎ (left ≡ log_after realm change Stored log)
  pub settled : kept.is_true new → outcome ≡ Stored → IsSettled kept new
  -- a refusal that was asked for comes at the realm's next change
  pub due : IsTrue (kept.is_due old realm) → outcome ≢ Stored
  pub spent : (other : List ℕ) → kept.is_due new other ≡ (if is_change change && bytes_eq realm other then false else kept.is_due old other)

abbrev pub StoredCore : Type 0 → Type 0
StoredCore S = stored_cores.StoredCore S Hosted

abbrev pub Happened : Type 0
Happened = happenings.Happened Answer

-- WHAT ONE EVENT DOES TO A STORED CORE: the realm at its place goes by its own machine, with what became of the change that it wanted, and
-- the store keeps that change alone
pub record Happens {S : Type 0} (kept : Keeping S) (old new : StoredCore S) (place : ℕ) (event : Event) (happened : Happened) : Type 0 where
  pub steps : Steps old.core new.core place event happened.outcome happened.answer
  pub wanted : (state : State) → realm old.core place ≡ Some state → happened.change ≡ wants state event
  pub absent : realm old.core place ≡ None → (happened.change ≡ None) × (new.store ≡ old.store)
  pub fits : fits happened.change happened.outcome ≡ true
  pub keeps : (state : State) → realm old.core place ≡ Some state → Keeps kept state.head.name happened.change happened.outcome old.store new.store
  pub names : HaveNames new.core
