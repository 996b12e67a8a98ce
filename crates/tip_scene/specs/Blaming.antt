-- Why a script ends by its store.
use Rattle.std.specs.Prelude.{◌≡◌, ◌≢◌, ◌⊎◌, ℕ, Bool, true, false, IfErr, IsErrOf, List, [], map, Some, Result, Ok, Err, slice_get}
use Rattle.tip_rows.specs.Logs.{Keeping, Log, IsSpoiled}
use Rattle.tip_recovery.specs.Adopting.{Recovery}
use Rattle.tip_stored.specs.Loading as Loading
use Rattle.tip_stored.specs.Loading.{IsReason}
use Rattle.tip_stored.specs.Renewing.{IsReasonToDoubt, IsReasonToRenew}
use Rattle.tip_stored.specs.declared.loading.LoadFault.{LoadFault}
use Rattle.tip_stored.specs.declared.loading.LoadFault.TheVariants as load
use Rattle.tip_stored.specs.declared.realm_spec.RealmSpec.{RealmSpec}
use Rattle.tip_stored.specs.declared.renewing.RenewFault.{RenewFault}
use Rattle.tip_stored.specs.declared.renewing.RenewFault.TheVariants as renew
use Rattle.tip_actor.specs.Acting.{Acting}
use Rattle.tip_scene.specs.Acts.{Stage, Declaring, Playing, Basis, scene_of}
use Rattle.tip_scene.specs.Rising.{IsWilling}
use Rattle.tip_scene.specs.Scenes.{Scene}
use Rattle.tip_scene.specs.declared.fault.LineFault.{LineFault}
use Rattle.tip_scene.specs.declared.fault.LineFault.TheVariants as line
use Rattle.tip_scene.specs.Stages.{AStage, IsStage, spec_of, store_of}

-- the store has refused a call since: it counts them
abbrev pub HasRefused : {S : Type 0} → Keeping S → S → S → Type 0
HasRefused kept old new = kept.faults new ≢ kept.faults old

-- what it had of a realm was no row
abbrev pub WasSpoiled : {S : Type 0} → Keeping S → S → S → List ℕ → Type 0
WasSpoiled kept old new name = (log : Log) → kept.stands old log → kept.is_true new → IsSpoiled log name

-- what it has of these realms was not read to the end
abbrev pub AreUnread : {S : Type 0} → Keeping S → S → S → List (List ℕ) → Type 0
AreUnread kept old new names = HasRefused kept old new ⊎ ((place : ℕ) × (name : List ℕ) × (slice_get names place ≡ Some name) × WasSpoiled kept old new name)

-- a fault over a store that may be asked to refuse or not, whose count of refusals is the same or has changed: where it may not, a
-- change is its refusal, and no want of memory
abbrev pub blamed : Bool → Bool → LineFault → LineFault
blamed true same fault = fault
blamed false true fault = fault
blamed false false line.NotUnderstood = line.NotUnderstood
blamed false false line.Memory = line.Store
blamed false false line.Store = line.Store

-- how a line has ended over such a store: where it may not be asked, it is to blame exactly for a change
abbrev pub judged : Bool → Bool → Result (Unit {0}) LineFault → Result (Unit {0}) LineFault
judged true same end = end
judged false true (Ok done) = Ok done
judged false true (Err line.NotUnderstood) = Err line.NotUnderstood
judged false true (Err line.Memory) = Err line.Memory
judged false true (Err line.Store) = Err line.Memory
judged false false (Ok done) = Err line.Store
judged false false (Err fault) = Err (blamed false false fault)

-- Realms that can't start, though no call was refused

-- those that start from a stage, and those that start again
abbrev pub specs_in : Stage → List RealmSpec
specs_in (Declaring declarations) = map spec_of declarations
specs_in (Playing scene) = map (λ acting. Loading.spec_of acting.world.state.head) scene

abbrev pub scene_in : Stage → Scene
scene_in (Declaring declarations) = []
scene_in (Playing scene) = scene

-- for what is stored, or how they are declared
abbrev pub CannotStart : List RealmSpec → Log → LoadFault → Type 0
CannotStart specs log load.Refused = ⊥
CannotStart specs log load.Memory = ⊥
CannotStart specs log other = IsReason specs log other

-- one of them alone, by its rows and a willing box for each of their branches
abbrev pub CannotRenew : Acting → Log → RenewFault → Type 0
CannotRenew acting log renew.NotRead = ⊥
CannotRenew acting log renew.NotRaised = ⊥
CannotRenew acting log renew.Memory = ⊥
CannotRenew acting log renew.Stopped = ⊥
CannotRenew acting log other = IsReasonToDoubt log acting.world.state.head.name other ⊎ ((recovery : Recovery) × IsWilling recovery acting × IsReasonToRenew log acting.world.state recovery other)

abbrev pub HasNoStart : {S : Type 0} → Keeping S → S → S → Stage → Type 0
HasNoStart kept old new now = (fault : LoadFault) × ((log : Log) → kept.stands old log → kept.is_true new → CannotStart (specs_in now) log fault)

abbrev pub IsNotRenewed : {S : Type 0} → Keeping S → S → S → Acting → Type 0
IsNotRenewed kept old new acting = (fault : RenewFault) × ((log : Log) → kept.stands old log → kept.is_true new → CannotRenew acting log fault)

abbrev pub IsUnfit : {S : Type 0} → Keeping S → S → Stage → S → Type 0
IsUnfit kept old now new = HasNoStart kept old new now ⊎ ((place : ℕ) × (acting : Acting) × (slice_get (scene_in now) place ≡ Some acting) × IsNotRenewed kept old new acting)

-- a call of a stage was refused, or what it was to start can't
abbrev pub IsAtFault : {S : Type 0} → Keeping S → S → Stage → S → Type 0
IsAtFault kept old now new = HasRefused kept old new ⊎ IsUnfit kept old now new

-- On the way

-- what a stage was to start could not
pub record WasUnfit {S : Type 0} (kept : Keeping S) (basis : Basis) (new : S) : Type 0 where
  pub stage : AStage S
  pub now : Stage
  pub stands : IsStage kept basis stage now
  pub unfit : IsUnfit kept (store_of stage) now new

-- the realms of a stage as they start
abbrev pub starting_from : Basis → Stage → Scene
starting_from basis (Declaring declarations) = scene_of basis declarations
starting_from basis (Playing scene) = scene

-- WHY THE STORE IS BLAMED: it has refused a call since, or realms could not start
abbrev pub IsBlamed : {S : Type 0} → Keeping S → Basis → S → S → Type 0
IsBlamed kept basis old new = HasRefused kept old new ⊎ WasUnfit kept basis new

-- it is so where a fault blames it
abbrev pub Accuses : {S E : Type 0} → Keeping S → E → (S → Type 0) → E × S → Type 0
Accuses kept blame why fault = fault.0 ≡ blame → kept.is_true fault.1 → why fault.1

abbrev pub Blames : {S T E : Type 0} → Keeping S → E → (S → Type 0) → Result T (E × S) → Type 0
Blames kept blame why result = IfErr result (Accuses kept blame why)

-- WANT OF MEMORY IS NO WORD FOR A REFUSAL: where a call ends with this fault, the store has refused nothing since
abbrev pub IsSpared : {S T E : Type 0} → Keeping S → E → S → S → Result T E → Type 0
IsSpared kept memory old new result = IsErrOf result memory → kept.faults new ≡ kept.faults old

-- so it is where the store is handed back with the fault
abbrev pub Spares : {S T E : Type 0} → Keeping S → E → S → Result T (E × S) → Type 0
Spares kept memory old result = IfErr result (λ fault. fault.0 ≡ memory → kept.faults fault.1 ≡ kept.faults old)
