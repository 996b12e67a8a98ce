-- What a script leaves in its store.
use Rattle.std.specs.Prelude.{◌≡◌, ◌⊎◌, ℕ, zero, suc, ◌+◌, List, [], map, Bool, false, true, not, ◌&&◌, ◌||◌, Option, Some, None, Result, Ok, Err, slice_get, slice_set, if◌then◌else◌}
use Rattle.std.specs.List.{list_any}
use Rattle.std.specs.Str.{bytes_eq}
use Rattle.tip_rows.specs.Keys.{Key}
use Rattle.tip_rows.specs.Logs.{Keeping, raised_number}
use Rattle.tip_rows.specs.declared.row.Row.{Row}
use Rattle.tip_actor.specs.Acting.{Acting, Done}
use Rattle.tip_actor.specs.Halting.{AllStay, taken}
use Rattle.tip_actor.specs.Standing.{IsStored}
use Rattle.tip_script.specs.Scripts.{Move, Declare, Label, realm_of}
use Rattle.tip_scene.specs.Acts.{Basis, Stage, Declaring, Playing, may_say}
use Rattle.tip_scene.specs.Blaming.{scene_in, starting_from}
use Rattle.tip_scene.specs.Scenes.{Scene, does, place_of}
use Rattle.tip_scene.specs.Stages.{APlaying, AStage, store_of}
use Rattle.tip_scene.specs.declared.fault.LineFault.{LineFault}
use Rattle.tip_scene.specs.declared.fault.LineFault.TheVariants.{NotUnderstood, Memory, Store}
use Rattle.tip_scene.specs.declared.stage.Stage.TheVariants as stage

-- each realm of a scene is stored as it is there, in its epoch and with its rows
abbrev pub AreStored : {S : Type 0} → Keeping S → S → Scene → Type 0
AreStored kept store scene = (place : ℕ) (acting : Acting) → slice_get scene place ≡ Some acting → IsStored kept store acting.name acting.world.state.head.epoch acting.world.rows

abbrev pub is_among : List (List ℕ) → List ℕ → Bool
is_among names name = list_any (λ other. bytes_eq other name) names

-- every other realm keeps its rows, and its epoch has risen with each start
abbrev pub OthersStay : {S : Type 0} → Keeping S → ℕ → List (List ℕ) → S → S → Type 0
OthersStay kept starts names old new = (name : List ℕ) (epoch : ℕ) (rows : List (Key × Row)) → is_among names name ≡ false → IsStored kept old name epoch rows → IsStored kept new name (epoch + starts) rows

-- WHAT IS LEFT of a store, once these realms are at work
pub record IsLeft {S : Type 0} (kept : Keeping S) (scene : Scene) (old new : S) : Type 0 where
  pub stored : AreStored kept new scene
  pub starts : ℕ
  pub others : OthersStay kept starts (map (λ acting. acting.name) scene) old new

-- From one line to the next

-- the realms of a stage that have started
abbrev pub names_in : {S : Type 0} → AStage S → List (List ℕ)
names_in (stage.Declaring realms) = []
names_in (stage.Playing playing) = map (λ actor. actor.name) playing.actors.items

-- of the realms that have not started by then the rows are as they were
pub record LeavesOthers {S : Type 0} (kept : Keeping S) (old new : AStage S) : Type 0 where
  pub grows : (name : List ℕ) → is_among (names_in new) name ≡ false → is_among (names_in old) name ≡ false
  pub starts : ℕ
  pub others : OthersStay kept starts (names_in new) (store_of old) (store_of new)

-- the same of realms at work, which stay these
pub record LeavesRest {S : Type 0} (kept : Keeping S) (old new : APlaying S) : Type 0 where
  pub same : map (λ actor. actor.name) new.actors.items ≡ map (λ actor. actor.name) old.actors.items
  pub starts : ℕ
  pub others : OthersStay kept starts (map (λ actor. actor.name) old.actors.items) old.stored_core.store new.stored_core.store

-- Where a line may not stand

-- does it start the realms, if it is the first to?
abbrev pub is_starting : Move → Bool
is_starting (Declare name address branches limits) = false
is_starting (Label realm labels) = false
is_starting other = true

-- the realms at work behind a line that is understood and may not stand here
abbrev pub scene_at : Basis → Stage → Move → Scene
scene_at basis stage move = if is_starting move then starting_from basis stage else scene_in stage

-- and behind any line that may not
abbrev pub scene_behind : Basis → Stage → Option Move → Scene
scene_behind basis stage None = scene_in stage
scene_behind basis stage (Some move) = if may_say basis.may_refuse move then scene_at basis stage move else scene_in stage

-- then the store has the realms that are at work, and every other one's rows
abbrev pub LeavesAtFault : {S : Type 0} → Keeping S → Scene → S → Result (AStage S) (LineFault × S) → Type 0
LeavesAtFault kept scene old (Ok x) = Unit {0}
LeavesAtFault kept scene old (Err (NotUnderstood, store)) = kept.is_true store → IsLeft kept scene old store
LeavesAtFault kept scene old (Err (Memory, store)) = Unit {0}
LeavesAtFault kept scene old (Err (Store, store)) = Unit {0}

-- Where a line ends before all of it is done: memory was wanting, or the store has refused

-- a realm that may be starting: its rows are stored, in its epoch or in the next one
abbrev pub MayRise : {S : Type 0} → Keeping S → S → List ℕ → ℕ → List (Key × Row) → Type 0
MayRise kept store name epoch rows = IsStored kept store name epoch rows ⊎ IsStored kept store name (raised_number epoch) rows

-- these realms may be starting, and all others with them, after so many starts
pub record MayAllRise {S : Type 0} (kept : Keeping S) (starts : ℕ) (scene : Scene) (old new : S) : Type 0 where
  pub stored : (place : ℕ) (acting : Acting) → slice_get scene place ≡ Some acting → MayRise kept new acting.name acting.world.state.head.epoch acting.world.rows
  pub others : (name : List ℕ) (epoch : ℕ) (rows : List (Key × Row)) → is_among (map (λ acting. acting.name) scene) name ≡ false → IsStored kept old name epoch rows → MayRise kept new name (epoch + starts) rows

-- these realms are stored as they have become by now, and every other as it was, after so many starts
pub record HaveBecome {S : Type 0} (kept : Keeping S) (starts : ℕ) (scene now : Scene) (old new : S) : Type 0 where
  pub same : map (λ acting. acting.name) now ≡ map (λ acting. acting.name) scene
  pub stored : AreStored kept new now
  pub others : OthersStay kept starts (map (λ acting. acting.name) scene) old new

-- a realm behind what a line does to it, and so many of the lines that may be taken then
abbrev pub behind_done : ℕ → Option Done → Acting → Acting
behind_done count None acting = acting
behind_done count (Some done) acting = taken done.acting count

abbrev pub behind_at : ℕ → Move → ℕ → Option Acting → Scene → Scene
behind_at count move place None scene = scene
behind_at count move place (Some acting) scene = slice_set scene place (behind_done count (does move acting) acting)

-- all realms behind a front of a line of this realm: none of it, or what it says and so many lines
abbrev pub front_in : ℕ → Move → Option (List ℕ) → Scene → Scene
front_in zero move realm scene = scene
front_in (suc count) move None scene = scene
front_in (suc count) move (Some realm) scene = behind_at count move (place_of realm scene) (slice_get scene (place_of realm scene)) scene

abbrev pub front : ℕ → Move → Scene → Scene
front count move scene = front_in count move (realm_of move) scene

-- a front of a line of this realm is stored
abbrev pub HaltsIn : {S : Type 0} → Keeping S → Move → List ℕ → Scene → S → S → Type 0
HaltsIn kept move realm scene old new = (count : ℕ) × HaveBecome kept 0 scene (front_in count move (Some realm) scene) old new

-- realms at work: a front of the line is stored, or all were starting again
abbrev pub HaltsAtWork : {S : Type 0} → Keeping S → Scene → Move → S → S → Type 0
HaltsAtWork kept scene move old new = ((count : ℕ) × HaveBecome kept 0 scene (front count move scene) old new) ⊎ ((realm_of move ≡ None) × MayAllRise kept 0 scene old new)

-- have the realms started?
abbrev pub has_begun : Stage → Bool
has_begun (Declaring declarations) = false
has_begun (Playing scene) = true

-- do they start by this line, and have they started behind it?
abbrev pub is_first_start : Stage → Move → Bool
is_first_start stage move = not (has_begun stage) && is_starting move

abbrev pub is_begun : Stage → Move → Bool
is_begun stage move = has_begun stage || is_starting move

-- how often they start before they do what a line says
abbrev pub starts_before : Stage → ℕ
starts_before (Declaring declarations) = 1
starts_before (Playing scene) = 0

-- WHAT IS LEFT OF A STORE WHERE A LINE ENDS BEFORE ALL OF IT IS DONE
pub data HaltsAt {S : Type 0} (kept : Keeping S) (basis : Basis) (stage : Stage) (move : Move) (old new : S) : Type 0 where
  -- nothing of it is stored
  Unbegun : AllStay kept old new → HaltsAt kept basis stage move old new
  -- the realms were starting by it
  Starting : is_first_start stage move ≡ true → MayAllRise kept 0 [] old new → HaltsAt kept basis stage move old new
  -- all were starting again by it
  Restarting : realm_of move ≡ None → MayAllRise kept (starts_before stage) (starting_from basis stage) old new → HaltsAt kept basis stage move old new
  -- they are at work, and a front of it is stored
  Begun : is_begun stage move ≡ true → (count : ℕ) → HaveBecome kept (starts_before stage) (starting_from basis stage) (front count move (starting_from basis stage)) old new → HaltsAt kept basis stage move old new

-- a line that says nothing, or what may not be said, leaves all as it was
abbrev pub HaltsIf : {S : Type 0} → Keeping S → Basis → Stage → Move → Bool → S → S → Type 0
HaltsIf kept basis stage move true old new = HaltsAt kept basis stage move old new
HaltsIf kept basis stage move false old new = AllStay kept old new

abbrev pub HaltsBy : {S : Type 0} → Keeping S → Basis → Stage → Option Move → S → S → Type 0
HaltsBy kept basis stage None old new = AllStay kept old new
HaltsBy kept basis stage (Some move) old new = HaltsIf kept basis stage move (may_say basis.may_refuse move) old new

-- and where the end of a script does: realms that have not started by then may be starting
abbrev pub HaltsAtEnd : {S : Type 0} → Keeping S → Stage → S → S → Type 0
HaltsAtEnd kept (Declaring declarations) old new = MayAllRise kept 0 [] old new
HaltsAtEnd kept (Playing scene) old new = AllStay kept old new
