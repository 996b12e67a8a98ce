-- WHY A RUN HALTS (ours): the first move that is not made has its reason. Memory may be wanting in any.
use Rattle.std.specs.Prelude.{◌≡◌, ◌≢◌, ◌⊎◌, ℕ, Bool, true, false, List, length, map, take, None, Some, Err, Ok, slice_get}
use Rattle.tip_branch.specs.declared.branch.Badge.{Badge}
use Rattle.tip_core.specs.Hosted.{realm}
use Rattle.tip_host.specs.Hosts.{Host}
use Rattle.tip_host.specs.Renewals.{IsReason}
use Rattle.tip_kept.specs.Keeping.{rows_at}
use Rattle.tip_machine.specs.States.{State}
use Rattle.tip_recovery.specs.Adopting.{Recovery, adopted_all, are_for_all}
use Rattle.tip_rows.specs.Keys.{Key}
use Rattle.tip_rows.specs.Logs.{Keeping, Log, counted}
use Rattle.tip_rows.specs.declared.row.Row.{Row}
use Rattle.tip_stored.specs.Loading.{IsOnTheWay, IsRead, Loads, is_refusal_to_load, names_of}
use Rattle.tip_stored.specs.Recovering.{Recovering, are_for_each}
use Rattle.tip_stored.specs.Renewing.{IsReasonToDoubt, is_refused}
use Rattle.tip_stored.specs.declared.realm_spec.RealmSpec.{RealmSpec}
use Rattle.tip_stored.specs.declared.renewing.RenewFault.{RenewFault}
use Rattle.tip_stored.specs.declared.renewing.RenewFault.TheVariants as renewal
use Rattle.tip_run.specs.Moves.{Move}
use Rattle.tip_run.specs.Running.{Running}
use Rattle.tip_run.specs.Runs.{HasRun, is_restart}
use Rattle.tip_run.specs.Starts.{AreDeclared}
use Rattle.tip_run.specs.declared.halt.Halt.{Halt}
use Rattle.tip_run.specs.declared.halt.RunFault.{RunFault}
use Rattle.tip_run.specs.declared.halt.RunFault.TheVariants as fault
use Rattle.tip_run.specs.declared.moves.Move.TheVariants as move

-- Reasons

-- an event did not happen, or a party was not taken out or did not come back: memory was wanting
abbrev pub IsWhyNotHappened : RunFault → Type 0
IsWhyNotHappened fault.Memory = Unit {0}
IsWhyNotHappened other = ⊥

-- these realms did not start: they were not loaded, for the reason that a load has, with the store that it hands back; or the boxes
-- were not one for each branch of each row
abbrev pub IsWhyNotBegun : {S : Type 0} → Keeping S → List RealmSpec → S → List (List (List Badge)) → S → RunFault → Type 0
IsWhyNotBegun kept specs store boxes left (fault.Load why) = Loads kept specs store (Err (why, left))
IsWhyNotBegun {S = S} kept specs store boxes left fault.Boxes = (loaded : Recovering S) × Loads kept specs store (Ok loaded) × (left ≡ loaded.store) × (are_for_each boxes loaded.realms ≡ false)
IsWhyNotBegun kept specs store boxes left fault.Memory = Unit {0}
IsWhyNotBegun kept specs store boxes left other = ⊥

-- all realms of a host did not start again
abbrev pub IsWhyNotRestarted : {S : Type 0} → Keeping S → Host S → List (List (List Badge)) → S → RunFault → Type 0
IsWhyNotRestarted kept old boxes left why = (why ≡ fault.Memory) ⊎ ((specs : List RealmSpec) × AreDeclared old specs × IsWhyNotBegun kept specs old.stored.store boxes left why)

-- what is stored of a realm could not be read, or it could not be renewed by what was read, with these boxes
abbrev pub IsReasonToHalt : List (List Badge) → Log → State → List (Key × Row) → RenewFault → Type 0
IsReasonToHalt boxes log state rows why =
    IsReasonToDoubt log state.head.name why
    ⊎ ((read recovery : Recovery) × IsRead log state.head.name read × (recovery.rows ≡ adopted_all boxes read.rows) × IsReason log state rows recovery why × (why ≢ renewal.Stopped))

-- one realm did not start again while the others run: for such a reason, where the realm is there and the store that is left may be
-- relied on, or the boxes were not one for each branch of each row
abbrev pub IsWhyNotRenewed : {S : Type 0} → Keeping S → Host S → ℕ → List (List Badge) → S → RunFault → Type 0
IsWhyNotRenewed kept old place boxes left (fault.Renew why) =
    (realm old.stored.core place ≡ None → why ≡ renewal.NoRealm)
    × ((log : Log) (state : State) → kept.stands old.stored.store log → realm old.stored.core place ≡ Some state → kept.is_true left → IsReasonToHalt boxes log state (rows_at old.books.rows place) why)
IsWhyNotRenewed kept old place boxes left fault.Boxes =
    (realm old.stored.core place ≢ None)
    × (read : Recovery) × (are_for_all boxes read.rows ≡ false)
    × ((log : Log) (state : State) → kept.stands old.stored.store log → realm old.stored.core place ≡ Some state → kept.is_true left → IsRead log state.head.name read)
IsWhyNotRenewed kept old place boxes left fault.Memory = Unit {0}
IsWhyNotRenewed kept old place boxes left other = ⊥

-- WHY A MOVE WAS NOT MADE, by the store that is left
abbrev pub IsWhyNotMade : {S : Type 0} → Keeping S → Running S → Move → S → RunFault → Type 0
IsWhyNotMade kept old (move.Restart boxes) left why = IsWhyNotRestarted kept old.host (map (λ lots. lots.items) boxes.items) left why
IsWhyNotMade kept old (move.Renew place boxes) left why = (why ≡ fault.Memory) ⊎ IsWhyNotRenewed kept old.host place boxes.items left why
IsWhyNotMade kept old other left why = IsWhyNotHappened why

-- The store

-- what is stored then: what was stored before, or, where the realms were to start again, something on the way there
abbrev pub MayBeLeft : {S : Type 0} → Host S → Bool → Log → Log → Type 0
MayBeLeft old true log now = (now ≡ log) ⊎ ((specs : List RealmSpec) × AreDeclared old specs × IsOnTheWay (names_of specs) log now)
MayBeLeft old false log now = now ≡ log

-- it is the store that has refused
abbrev pub is_refusal : RunFault → Bool
is_refusal (fault.Load why) = is_refusal_to_load why
is_refusal (fault.Renew why) = is_refused why
is_refusal fault.Boxes = false
is_refusal fault.Memory = false

-- THE STORE IS HANDED BACK: who relies on it may rely on what it was before the move, and it has counted a refusal exactly where that
-- is why the move was not made
pub record HandsBack {S : Type 0} (kept : Keeping S) (old : Host S) (restarts : Bool) (left : S) (why : RunFault) : Type 0 where
  pub truth : kept.is_true left → kept.is_true old.stored.store
  pub counts : kept.faults left ≡ counted (is_refusal why) (kept.faults old.stored.store)
  pub rows : (log : Log) → kept.stands old.stored.store log → (now : Log) × MayBeLeft old restarts log now × kept.stands left now

-- A RUN THAT HAS HALTED: all moves before were made, and the next one was not, for a reason; what the pass had noted is handed out,
-- and the store
pub record HasHalted {S : Type 0} (kept : Keeping S) (old : Running S) (moves : List Move) (halt : Halt S) : Type 0 where
  pub between : Running S
  pub run : HasRun kept old (take (length halt.shown.items) moves) halt.shown.items between
  pub noted : halt.pass.noted ≡ between.noted
  pub next : Move
  pub is_next : slice_get moves (length halt.shown.items) ≡ Some next
  pub why : IsWhyNotMade kept between next halt.store halt.fault
  pub back : HandsBack kept between.host (is_restart next) halt.store halt.fault
