-- A stored core before it begins: its realms have just started, and their rows wait for boxes.
use Rattle.std.specs.Prelude.{◌≡◌, ℕ, zero, suc, ◌≤◌, Bool, List, [], ◌∷◌, length, map, Option, None, Some, slice_get}
use Rattle.std.specs.List.{list_all}
use Rattle.std.specs.Option.{option_map_or}
use Rattle.tip_branch.specs.declared.branch.Badge.{Badge}
use Rattle.tip_machine.specs.Recovery.{restarted}
use Rattle.tip_machine.specs.States.{State, started}
use Rattle.tip_machine.specs.Heads.{starting}
use Rattle.tip_machine.specs.declared.head.Start.{Start}
use Rattle.tip_recovery.specs.Adopting.{Recovery, adopted_all, adopted_for, are_adopted, are_for_all, fit, given, loaded, refusal_of}
use Rattle.tip_recovery.specs.declared.unfinished.AdoptFault.{AdoptFault}
use Rattle.tip_recovery.specs.declared.unfinished.AdoptFault.TheVariants.{NotInDoubt}
use Rattle.tip_core.specs.Hosted.{HaveNames, Hosted, free_in, realm}
use Rattle.tip_core.specs.Recovering.{IsOf}

-- the realms in the order of declaration: as they have started, and as they are to be taken up
pub record Recovering (S : Type 0) : Type 0 where
  pub store : S
  pub core : Hosted
  pub realms : List Recovery

-- Boxes

-- does no row of any realm wait any more?
abbrev pub all_adopted : List Recovery → Bool
all_adopted realms = list_all (λ recovery. are_adopted recovery.rows) realms

-- why boxes are not adopted for the row of an identifier, in the realm at a place
abbrev pub refusal_at : ℕ → List ℕ → List Badge → List Recovery → Option AdoptFault
refusal_at place id boxes realms = option_map_or (λ recovery. refusal_of id boxes recovery.rows) (slice_get realms place) (Some NotInDoubt)

-- they are adopted for it
abbrev pub adopted_at : ℕ → List ℕ → List Badge → List Recovery → List Recovery
adopted_at place id boxes [] = []
adopted_at zero id boxes (recovery ∷ realms) = adopted_for id boxes recovery ∷ realms
adopted_at (suc place) id boxes (recovery ∷ realms) = recovery ∷ adopted_at place id boxes realms

-- boxes for each row of each realm at its place, one for each branch
abbrev pub are_for_each : List (List (List Badge)) → List Recovery → Bool
are_for_each boxes realms = fit (λ lots recovery. are_for_all lots recovery.rows) boxes realms

-- they are adopted
abbrev pub adopted_each : List (List (List Badge)) → List Recovery → List Recovery
adopted_each boxes realms = given (λ lots recovery. record recovery { rows = adopted_all lots recovery.rows }) boxes realms

-- The realms

-- WHAT RECOVERY MAKES of a realm that has just started, by its rows and the boxes that were adopted for them
abbrev pub recovered : Option Recovery → Option State → Option State
recovered (Some recovery) (Some state) = Some (restarted state.head (map loaded recovery.rows))
recovered recovery state = None

-- the realm at a place has just started, and these are its rows
abbrev pub HasBegun : Option State → Option Recovery → Type 0
HasBegun state None = state ≡ None
HasBegun state (Some recovery) = (start : Start) × (state ≡ Some (started (starting start))) × IsOf recovery (starting start)

-- there is room for the transactions of each realm's rows
abbrev pub HaveRoom : Hosted → List Recovery → Type 0
HaveRoom core realms = (place : ℕ) (recovery : Recovery) → slice_get realms place ≡ Some recovery → length recovery.rows ≤ free_in place core

-- each realm begins in the epoch of its rows, and no connection and no entry was counted yet; there are no rows of any other
pub record AreAnew (realms : List Recovery) (core : Hosted) : Type 0 where
  pub each : (place : ℕ) (state : State) → realm core place ≡ Some state → (recovery : Recovery) × (slice_get realms place ≡ Some recovery) × (state.head.epoch ≡ recovery.epoch) × (state.head.given ≡ 0) × (state.head.entries ≡ 0)
  pub others : (place : ℕ) → realm core place ≡ None → slice_get realms place ≡ None

-- each realm has just started, and there is room for the transactions of its rows
pub record HaveBegun (core : Hosted) (realms : List Recovery) : Type 0 where
  pub each : (place : ℕ) → HasBegun (realm core place) (slice_get realms place)
  pub room : HaveRoom core realms
  pub names : HaveNames core
