-- The realm that is renewed, and what was read of it.
use Rattle.std.proofs.Common.{◌≡◌, ◌≢◌, ◌<◌, ℕ, Bool, true, false, List, Option, Some, None, get_or, length, refl, ap, arith, sym, ◌∙◌}
use Rattle.std.specs.Prelude.{◌&&◌, ◌==◌, Err, IfErr, Ok, Result, ℤ, option_map, pos, slice_get, unwrap_or}
use Rattle.std.proofs.lemmas.Option.{none-some, same_Some, slice_get-get_or}
use Rattle.tip_machine.specs.States.{State}
use Rattle.tip_machine.specs.declared.head.Head.{Head}
use Rattle.tip_recovery.specs.Adopting.{Recovery, are_adopted}
use Rattle.tip_recovery.specs.Renewing.{is_read_again}
use Rattle.tip_rows.specs.Logs.{Log, last_epoch}
use Rattle.tip_rows.specs.declared.log.RaiseFault.{RaiseFault}
use Rattle.tip_rows.specs.declared.log.RaiseFault.TheVariants as raise
use Rattle.tip_stored.specs.Loading.{IsIts, IsRead, IsReasonToRead}
use Rattle.tip_stored.specs.Renewing.{HasEnded, IsCurrent, IsOutdated, IsReasonToDoubt, IsReasonToRenew, IsReasonToStay, raise_fault_of, renew_fault_of}
use Rattle.tip_stored.specs.declared.loading.LoadFault.{LoadFault}
use Rattle.tip_stored.specs.declared.loading.LoadFault.TheVariants as load
use Rattle.tip_stored.specs.declared.renewing.RenewFault.{RenewFault}
use Rattle.tip_stored.specs.declared.renewing.RenewFault.TheVariants as renew
use Rattle.tip_stored.specs.declared.renewing.RenewFault.TheVariants.{Stopped}
use Rattle.tip_stored.proofs.Parts.{number_of}

-- a realm that is there
pub some_there : {T : Type 0} (found : Option T) → found ≢ None → (x : T) × (found ≡ Some x)
some_there None there = absurd (there refl)
some_there (Some x) there = (x, refl)

-- A head that was looked up

pub looked_up : (heads : List Head) (place : ℕ) (head : Head) (found : Option State) → place < length heads → head ≡ get_or heads place head → slice_get heads place ≡ option_map (λ state. state.head) found → Some head ≡ option_map (λ state. state.head) found
looked_up heads place head found within is all = sym (slice_get-get_or heads place head within ∙ ap Some (sym is)) ∙ all

module _ (found : Option State) (head : Head) (is : Some head ≡ option_map (λ (state : State). state.head) found) where
  pub is_there : found ≢ None
  is_there none = absurd (none-some head (sym (is ∙ ap (option_map (λ (state : State). state.head)) none)))

  pub its_head : (state : State) → found ≡ Some state → head ≡ state.head
  its_head state there = same_Some head state.head (is ∙ ap (option_map (λ (s : State). s.head)) there)

-- a reading that is no more of the realm as it is
module _ (log : Log) (state : State) (recovery fresh : Recovery) (read : IsRead log state.head.name fresh) (its : IsIts state.head.name fresh) (rises : fresh.epoch < last_epoch) where
  pub other_rows : is_read_again recovery fresh ≡ false → IsOutdated log state recovery
  other_rows not_again = record { fresh = fresh; read = read; its = its; rises = rises; differs = ap (λ (b : Bool). b && (fresh.epoch == state.head.epoch)) not_again }

  pub other_epoch : (fresh.epoch == state.head.epoch) ≡ false → IsOutdated log state recovery
  other_epoch differs = record { fresh = fresh; read = read; its = its; rises = rises; differs = ap (λ (b : Bool). is_read_again recovery fresh && b) differs ∙ never (is_read_again recovery fresh) } where
    never : (b : Bool) → (b && false) ≡ false
    never true = refl
    never false = refl

-- Faults

-- a reading has its own reasons
pub doubted : (log : Log) (realm : List ℕ) (why : LoadFault) → IsReasonToRead log realm why → IsReasonToDoubt log realm (renew_fault_of why)
doubted log realm load.Refused is = tt
doubted log realm load.EpochEnd is = absurd is
doubted log realm load.BadRow is = is
doubted log realm load.Memory is = tt
doubted log realm load.BadRealm is = absurd is

-- also before a renewal
pub unread : (log : Log) (state : State) (recovery : Recovery) (why : LoadFault) → IsReasonToRead log state.head.name why → IsReasonToRenew log state recovery (renew_fault_of why)
unread log state recovery load.Refused is = tt
unread log state recovery load.EpochEnd is = absurd is
unread log state recovery load.BadRow is = is
unread log state recovery load.Memory is = tt
unread log state recovery load.BadRealm is = absurd is

last_number : (stored : Option ℤ) → unwrap_or stored (pos 0) ≡ pos last_epoch → stored ≡ Some (pos last_epoch)
last_number None is = absurd (omega (arith, number_of {a = 0} {b = last_epoch} is))
last_number (Some z) is = ap Some is

pub ended : (log : Log) (realm : List ℕ) (fresh : Recovery) → IsRead log realm fresh → fresh.epoch ≡ last_epoch → HasEnded log realm
ended log realm fresh read last = record { fresh = fresh; read = read; end = last_number (log.epochs realm) (read.part.epoch ∙ ap pos last) }

-- an epoch that did not rise, of rows that were read and adopted
module _ (log : Log) (state : State) (recovery : Recovery) (current : IsCurrent log state recovery) (adopted : are_adopted recovery.rows ≡ true) where
  not_risen : (why : RenewFault) → IsReasonToStay log state.head.name why → IsReasonToRenew log state recovery why
  not_risen renew.Stopped is = absurd is
  not_risen renew.NoRealm is = absurd is
  not_risen renew.NotRead is = absurd is
  not_risen renew.BadRow is = absurd is
  not_risen renew.EpochEnd is = record { fresh = current.fresh; read = current.read; end = is }
  not_risen renew.NotInDoubt is = absurd is
  not_risen renew.Unadopted is = absurd is
  not_risen renew.NotRaised is = (current, adopted)
  not_risen renew.Memory is = absurd is

  pub stays : {T : Type 0} (result : Result T (RenewFault × Recovery)) → IfErr result (λ fault. IsReasonToStay log state.head.name fault.0) → IfErr result (λ fault. IsReasonToRenew log state recovery fault.0)
  stays (Ok left) is = tt
  stays (Err fault) is = not_risen fault.0 is

-- and is never refused since the stored core is stopped, and so is no rise of an epoch
pub read_not_stopped : (why : LoadFault) → renew_fault_of why ≢ Stopped
read_not_stopped load.Refused is = absurd (cc)
read_not_stopped load.EpochEnd is = absurd (cc)
read_not_stopped load.BadRow is = absurd (cc)
read_not_stopped load.Memory is = absurd (cc)
read_not_stopped load.BadRealm is = absurd (cc)

pub raise_not_stopped : (why : RaiseFault) → raise_fault_of why ≢ Stopped
raise_not_stopped raise.Refused is = absurd (cc)
raise_not_stopped raise.EpochEnd is = absurd (cc)
