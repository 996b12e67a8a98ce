-- How the code's stage stands for the script's.
use Rattle.std.specs.Prelude.{◌≡◌, ℕ, List, ◌++◌, Bool, true, false, Option, Some, None, Result, Ok, Err}
use Rattle.std.specs.List.{list_all}
use Rattle.tip_actor.specs.Acting.{boxes_of}
use Rattle.tip_actor.specs.Standing.{Actor, StoredCore}
use Rattle.tip_core.specs.Hosted.{Hosted}
use Rattle.tip_stored.specs.declared.realm_spec.RealmSpec.{RealmSpec}
use Rattle.tip_branch.specs.Lots.{badges_of}
use Rattle.tip_branch.specs.declared.branch.Standing.{Standing}
use Rattle.tip_rows.specs.Logs.{Keeping, IsPart, Log}
use Rattle.tip_script.specs.Scripts.{Move, plans_of, plans_with}
use Rattle.tip_scene.specs.Acts.{Stage, Declaring, Playing, Acted, Basis, are_covered}
use Rattle.tip_scene.specs.Hosting.{may_be_hosted}
use Rattle.tip_scene.specs.Scenes.{Moved}
use Rattle.tip_scene.specs.Standing.{IsScene, IsMoved}
use Rattle.tip_scene.specs.declared.declared.Declaration.{Declaration}
use Rattle.tip_scene.specs.declared.declared.Declared as declarations
use Rattle.tip_scene.specs.declared.fault.LineFault.{LineFault}
use Rattle.tip_scene.specs.declared.fault.LineFault.TheVariants.{NotUnderstood, Memory, Store}
use Rattle.tip_scene.specs.declared.playing.Playing as playings
use Rattle.tip_scene.specs.declared.boxes.Wanted.{Wanted}
use Rattle.tip_scene.specs.declared.stage.Stage as stages
use Rattle.tip_scene.specs.declared.stage.Stage.TheVariants as stage

-- the code's values: the realms declared, the realms at work, and the stage
abbrev pub Declared : Type 0 → Type 0
Declared S = declarations.Declared S Hosted

abbrev pub APlaying : Type 0 → Type 0
APlaying S = playings.Playing (StoredCore S) Actor

abbrev pub AStage : Type 0 → Type 0
AStage S = stages.Stage (Declared S) (APlaying S)

-- the store of a stage
abbrev pub store_of : {S : Type 0} → AStage S → S
store_of (stage.Declaring realms) = realms.store
store_of (stage.Playing playing) = playing.stored_core.store

-- the realms are at work
abbrev pub has_started : {S : Type 0} → AStage S → Bool
has_started (stage.Declaring realms) = false
has_started (stage.Playing playing) = true

-- realms that are declared may be hosted so, and the stored core of those at work was not stopped
abbrev pub IsSound : {S : Type 0} → AStage S → Type 0
IsSound (stage.Declaring realms) = list_all may_be_hosted realms.declarations.items ≡ true
IsSound (stage.Playing playing) = playing.stored_core.is_stopped ≡ false

-- a realm as it is to be hosted
abbrev pub spec_of : Declaration → RealmSpec
spec_of declaration = record { name = declaration.name; address = declaration.address; limits = declaration.limits; branches = declaration.branches }

-- The store

-- a store that has what the basis says of each realm that it covers, and of which no refusal was asked for these
pub record IsBasis {S : Type 0} (kept : Keeping S) (basis : Basis) (store : S) : Type 0 where
  pub log : Log
  pub stood : kept.stands store log
  pub before : (name : List ℕ) → basis.covers name ≡ true → IsPart log name (basis.before name).epoch (basis.before name).rows
  pub none_due : (name : List ℕ) → basis.covers name ≡ true → kept.is_due store name ≡ false

-- who relies on the store afterwards may rely on it before
abbrev pub Trusts : {S T E : Type 0} → Keeping S → S → (T → S) → Result T (E × S) → Type 0
Trusts kept old store (Ok x) = kept.is_true (store x) → kept.is_true old
Trusts kept old store (Err fault) = kept.is_true fault.1 → kept.is_true old

-- The stage

pub record IsDeclared {S : Type 0} (kept : Keeping S) (basis : Basis) (realms : Declared S) (declarations : List Declaration) : Type 0 where
  pub founded : IsBasis kept basis realms.store
  pub declared : realms.declarations.items ≡ declarations
  pub covered : are_covered basis declarations ≡ true

abbrev pub IsStage : {S : Type 0} → Keeping S → Basis → AStage S → Stage → Type 0
IsStage kept basis (stage.Declaring realms) (Declaring declarations) = IsDeclared kept basis realms declarations
IsStage kept basis (stage.Declaring realms) (Playing scene) = ⊥
IsStage kept basis (stage.Playing playing) (Declaring declarations) = ⊥
IsStage kept basis (stage.Playing playing) (Playing scene) = IsScene kept playing.stored_core playing.actors.items scene

-- a realm more was declared, or may not be; where memory ends nothing is said. The store is not asked, and not blamed
abbrev pub Declares : Option (List Declaration) → List Declaration → Result (Unit {0}) LineFault → Type 0
Declares more now (Ok done) = more ≡ Some now
Declares more now (Err NotUnderstood) = more ≡ None
Declares more now (Err Memory) = Unit {0}
Declares more now (Err Store) = ⊥

-- a line was done, or may not stand here; where memory ends, or the store refuses, nothing is said
abbrev pub Serves : {S : Type 0} → Keeping S → List ℕ → List ℕ → Moved → APlaying S → Result (Unit {0}) LineFault → Type 0
Serves kept printed printed' moved playing (Ok done) = IsMoved kept playing.stored_core playing.actors.items printed printed' moved
Serves kept printed printed' moved playing (Err NotUnderstood) = (moved.scene ≡ None) × (printed' ≡ printed ++ moved.printed)
Serves kept printed printed' moved playing (Err Memory) = Unit {0}
Serves kept printed printed' moved playing (Err Store) = Unit {0}

-- the same, as long as the store may be relied on
abbrev pub Moves : {S : Type 0} → Keeping S → List ℕ → List ℕ → Moved → Result (APlaying S) (LineFault × S) → Type 0
Moves kept printed printed' moved (Ok playing) = kept.is_true playing.stored_core.store → IsMoved kept playing.stored_core playing.actors.items printed printed' moved
Moves kept printed printed' moved (Err (NotUnderstood, store)) = kept.is_true store → (moved.scene ≡ None) × (printed' ≡ printed ++ moved.printed)
Moves kept printed printed' moved (Err (Memory, store)) = Unit {0}
Moves kept printed printed' moved (Err (Store, store)) = Unit {0}

-- the boxes that come with a line are those that it names
abbrev pub ComeWith : Option Move → List Standing → Type 0
ComeWith line boxes = (move : Move) → line ≡ Some move → badges_of boxes ≡ boxes_of (plans_with move)

-- and so are those that are wanted, by their letters
abbrev pub AreWanted : Option Move → Wanted → Type 0
AreWanted line wanted = (move : Move) → line ≡ Some move → plans_of wanted.kinds.items ≡ plans_with move

abbrev pub ActsSo : {S : Type 0} → Keeping S → Basis → List ℕ → List ℕ → Acted → Result (AStage S) (LineFault × S) → Type 0
ActsSo kept basis printed printed' acted (Ok code) = kept.is_true (store_of code) → (now : Stage) × (acted.stage ≡ Some now) × IsStage kept basis code now × (printed' ≡ printed ++ acted.printed)
ActsSo kept basis printed printed' acted (Err (NotUnderstood, store)) = kept.is_true store → (acted.stage ≡ None) × (printed' ≡ printed ++ acted.printed)
ActsSo kept basis printed printed' acted (Err (Memory, store)) = Unit {0}
ActsSo kept basis printed printed' acted (Err (Store, store)) = Unit {0}

-- a text was printed, if there is one
abbrev pub Prints : List ℕ → List ℕ → Option (List ℕ) → Result (Unit {0}) LineFault → Type 0
Prints printed printed' text (Ok done) = (said : List ℕ) × (text ≡ Some said) × (printed' ≡ printed ++ said)
Prints printed printed' text (Err NotUnderstood) = (text ≡ None) × (printed' ≡ printed)
Prints printed printed' text (Err Memory) = Unit {0}
Prints printed printed' text (Err Store) = Unit {0}
