-- A realm that starts again while the others run: what is asked of the store, and why it may be refused.
use Rattle.std.specs.Prelude.{◌≡◌, ◌⊎◌, ◌<◌, ℕ, Bool, IsTrue, true, false, ◌&&◌, ◌==◌, List, map, Option, Some, Result, Ok, Err}
use Rattle.tip_machine.specs.Moves.{risen}
use Rattle.tip_machine.specs.Recovery.{restarted}
use Rattle.tip_machine.specs.States.{State}
use Rattle.tip_recovery.specs.Adopting.{Recovery, are_adopted, loaded}
use Rattle.tip_recovery.specs.Renewing.{is_read_again}
use Rattle.tip_rows.specs.Logs.{Keeping, Log, IsAtEnd, IsSpent, counted, last_epoch, with_raised}
use Rattle.tip_rows.specs.declared.log.RaiseFault.{RaiseFault}
use Rattle.tip_rows.specs.declared.log.RaiseFault.TheVariants as raise
use Rattle.tip_stored.specs.Loading.{IsBad, IsIts, IsRead}
use Rattle.tip_stored.specs.declared.loading.LoadFault.{LoadFault}
use Rattle.tip_stored.specs.declared.loading.LoadFault.TheVariants as load
use Rattle.tip_stored.specs.declared.renewing.RenewFault.{RenewFault}
use Rattle.tip_stored.specs.declared.renewing.RenewFault.TheVariants.{NoRealm, NotRead, BadRow, EpochEnd, NotInDoubt, Unadopted, NotRaised, Memory}

-- why a realm was not read
abbrev pub renew_fault_of : LoadFault → RenewFault
renew_fault_of load.Refused = NotRead
renew_fault_of load.EpochEnd = EpochEnd
renew_fault_of load.BadRow = BadRow
renew_fault_of load.Memory = Memory
renew_fault_of load.BadRealm = NoRealm

-- why its epoch did not rise
abbrev pub raise_fault_of : RaiseFault → RenewFault
raise_fault_of raise.Refused = NotRaised
raise_fault_of raise.EpochEnd = EpochEnd

-- was a call refused by the store?
abbrev pub is_refused : RenewFault → Bool
is_refused NotRead = true
is_refused NotRaised = true
is_refused other = false

abbrev pub was_refused : {T F : Type 0} → (F → RenewFault) → Result T F → Bool
was_refused why (Ok x) = false
was_refused why (Err fault) = is_refused (why fault)

-- the log afterwards: the epoch of this realm alone has risen, or all is as it was
abbrev pub log_renewed : {T F : Type 0} → List ℕ → Result T F → Log → Log
log_renewed realm (Ok x) log = with_raised realm log
log_renewed realm (Err fault) log = log

-- a refusal that was due is spent where the epoch was to rise, and no other
abbrev pub SpendsFor : RenewFault → List ℕ → (List ℕ → Bool) → (List ℕ → Bool) → Type 0
SpendsFor NotRaised realm old new = IsSpent old new realm
SpendsFor EpochEnd realm old new = Unit {0}
SpendsFor other realm old new = (r : List ℕ) → new r ≡ old r

abbrev pub Spends : {T F : Type 0} → (F → RenewFault) → Result T F → List ℕ → (List ℕ → Bool) → (List ℕ → Bool) → Type 0
Spends why (Ok x) realm old new = IsSpent old new realm × (IsTrue (old realm) → ⊥)
Spends why (Err fault) realm old new = SpendsFor (why fault) realm old new

-- WHAT BECOMES OF THE STORE where a realm is renewed: its epoch alone rises, in one change, or all is as it was
pub record Rises {S T F : Type 0} (kept : Keeping S) (why : F → RenewFault) (realm : List ℕ) (result : Result T F) (old new : S) : Type 0 where
  pub rows : (log : Log) → kept.stands old log → kept.stands new (log_renewed realm result log)
  pub counts : kept.faults new ≡ counted (was_refused why result) (kept.faults old)
  pub truth : kept.is_true new → kept.is_true old
  pub stop : (log : Log) → kept.stands old log → kept.is_true new → (left : Log) → kept.may_leave new left → kept.may_leave old left ⊎ (left ≡ with_raised realm log)
  pub due : (log : Log) → kept.stands old log → Spends why result realm (kept.is_due old) (kept.is_due new)

-- A REALM THAT IS RENEWED by rows that were read of it, with the boxes that were adopted for them: as recovery makes it in its
-- next epoch. What is stored was read once more, and is the same
pub record IsRenewed {S : Type 0} (kept : Keeping S) (recovery : Recovery) (state : State) (old new : S) (now : Option State) : Type 0 where
  pub fresh : Recovery
  pub epoch : fresh.epoch ≡ state.head.epoch
  pub rises : state.head.epoch < last_epoch
  pub again : is_read_again recovery fresh ≡ true
  pub adopted : are_adopted recovery.rows ≡ true
  pub read : (log : Log) → kept.stands old log → kept.is_true new → IsRead log state.head.name fresh
  pub state_is : now ≡ Some (restarted (risen state.head) (map loaded recovery.rows))

-- the reason why what is stored of a realm was not read
abbrev pub IsReasonToDoubt : Log → List ℕ → RenewFault → Type 0
IsReasonToDoubt log realm BadRow = IsBad log realm
IsReasonToDoubt log realm NotRead = Unit {0}
IsReasonToDoubt log realm Memory = Unit {0}
IsReasonToDoubt log realm other = ⊥

-- why an epoch did not rise
abbrev pub IsReasonToStay : Log → List ℕ → RenewFault → Type 0
IsReasonToStay log realm EpochEnd = IsAtEnd log realm
IsReasonToStay log realm NotRaised = Unit {0}
IsReasonToStay log realm other = ⊥

-- what is stored of a realm was read once more, and its epoch is the last
pub record HasEnded (log : Log) (realm : List ℕ) : Type 0 where
  pub fresh : Recovery
  pub read : IsRead log realm fresh
  pub end : IsAtEnd log realm

-- it is no more what was read before, or the realm has started again since
pub record IsOutdated (log : Log) (state : State) (recovery : Recovery) : Type 0 where
  pub fresh : Recovery
  pub read : IsRead log state.head.name fresh
  pub its : IsIts state.head.name fresh
  pub rises : fresh.epoch < last_epoch
  pub differs : (is_read_again recovery fresh && (fresh.epoch == state.head.epoch)) ≡ false

-- it is what was read before, in the realm's epoch, which can rise
pub record IsCurrent (log : Log) (state : State) (recovery : Recovery) : Type 0 where
  pub fresh : Recovery
  pub read : IsRead log state.head.name fresh
  pub its : IsIts state.head.name fresh
  pub epoch : fresh.epoch ≡ state.head.epoch
  pub rises : state.head.epoch < last_epoch
  pub again : is_read_again recovery fresh ≡ true

-- THE REASON OF A FAULT. Each is said only where none before it is so: Stopped, NoRealm, NotRead, BadRow, EpochEnd, NotInDoubt,
-- Unadopted, NotRaised; and Memory at any time
abbrev pub IsReasonToRenew : Log → State → Recovery → RenewFault → Type 0
IsReasonToRenew log state recovery BadRow = IsBad log state.head.name
IsReasonToRenew log state recovery EpochEnd = HasEnded log state.head.name
IsReasonToRenew log state recovery NotInDoubt = IsOutdated log state recovery
IsReasonToRenew log state recovery Unadopted = IsCurrent log state recovery × (are_adopted recovery.rows ≡ false)
IsReasonToRenew log state recovery NotRaised = IsCurrent log state recovery × (are_adopted recovery.rows ≡ true)
IsReasonToRenew log state recovery NoRealm = ⊥
IsReasonToRenew log state recovery other = Unit {0}
