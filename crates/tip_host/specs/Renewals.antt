-- A realm that starts again at a host (ours).
use Rattle.std.specs.Prelude.{◌≡◌, ◌≢◌, ◌⊎◌, ◌+◌, ◌==◌, ℕ, Bool, true, false, List, Option, Some, None, slice_get, if◌then◌else◌}
use Rattle.tip_core.specs.Hosted.{realm}
use Rattle.tip_machine.specs.States.{State}
use Rattle.tip_stored.specs.Renewing.{IsReasonToRenew}
use Rattle.tip_stored.specs.declared.renewing.RenewFault.{RenewFault}
use Rattle.tip_stored.specs.declared.renewing.RenewFault.TheVariants.{NotInDoubt, Stopped}
use Rattle.tip_recovery.specs.Adopting.{Recovery, stored_of}
use Rattle.tip_rows.specs.Keys.{Key}
use Rattle.tip_rows.specs.Logs.{Log, last_epoch}
use Rattle.tip_rows.specs.declared.row.Row.{Row}
use Rattle.tip_outbox.specs.Waiting.{waiting}
use Rattle.tip_host.specs.Hosts.{Host}
use Rattle.tip_host.specs.Entries.{bare}

-- in which epoch a realm may start again: not at a host that is stopped, and not after the last
abbrev pub next_epoch : Bool → Option State → Option ℕ
next_epoch true state = None
next_epoch false None = None
next_epoch false (Some state) = if state.head.epoch == last_epoch then None else Some (state.head.epoch + 1)

-- EVERY OTHER REALM keeps its state, its journals and its lines
pub record AreKeptBut {S : Type 0} (place : ℕ) (old new : Host S) : Type 0 where
  pub realms : (other : ℕ) → other ≢ place → realm new.stored.core other ≡ realm old.stored.core other
  pub journals : (other : ℕ) → other ≢ place → slice_get (bare new.books.journals) other ≡ slice_get (bare old.books.journals) other
  pub lines : (other number : ℕ) → other ≢ place → waiting new.books.outboxes other number ≡ waiting old.books.outboxes other number

-- where its epoch can rise, a realm of a host that runs is to be renewed by its stored rows, as the store has answered
abbrev pub AreItsRows : State → List (Key × Row) → Recovery → RenewFault → Type 0
AreItsRows state rows recovery fault = state.head.epoch ≢ last_epoch → fault ≢ Stopped → rows ≡ stored_of recovery.rows

-- WHY A REALM WAS NOT RENEWED: first, since these are not its rows; and then as its stored core says
abbrev pub IsReason : Log → State → List (Key × Row) → Recovery → RenewFault → Type 0
IsReason log state rows recovery fault =
    ((fault ≡ NotInDoubt) × (rows ≢ stored_of recovery.rows) × (state.head.epoch ≢ last_epoch))
    ⊎ (AreItsRows state rows recovery fault × IsReasonToRenew log state recovery fault)
