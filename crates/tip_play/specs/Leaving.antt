-- What a script leaves in its store.
use Rattle.std.specs.Prelude.{◌≡◌, ◌⊎◌, ℕ, ◌+◌, nat_le, Bool, true, false, List, [], ◌∷◌, ◌++◌, length, None, Some, Result, Ok, Err, if◌then◌else◌}
use Rattle.std.specs.Option.{option_map_or}
use Rattle.script_lines.specs.Lines.{longest_line}
use Rattle.tip_rows.specs.Logs.{Keeping}
use Rattle.tip_script.specs.Scripts.{Move, move_of, realm_of}
use Rattle.tip_scene.specs.Acts.{Acted, Basis, Declaring, Playing, Stage, acted}
use Rattle.tip_scene.specs.Blaming.{scene_in, starting_from}
use Rattle.tip_scene.specs.Leaving.{HaltsAtEnd, HaltsBy, IsLeft, LeavesOthers, MayAllRise, front, is_begun, is_starting, scene_behind}
use Rattle.tip_scene.specs.Scenes.{Scene}
use Rattle.tip_scene.specs.Stages.{AStage, IsStage, store_of}
use Rattle.tip_play.specs.Transcripts.{Reached, all_played, lines_of, played}
use Rattle.tip_play.specs.declared.fault.PlayFault.{PlayFault}
use Rattle.tip_play.specs.declared.fault.PlayFault.TheVariants as fault

-- WHAT A SCRIPT THAT ENDS WELL LEAVES: each realm is stored as it is in the scene that was reached, whose realms start at the end if
-- they had not, and every other realm keeps its rows
pub record Leaves {S : Type 0} (kept : Keeping S) (basis : Basis) (script : List ℕ) (old new : S) : Type 0 where
  pub stage : Stage
  pub reached : (all_played basis script).ending ≡ Reached stage
  pub left : IsLeft kept (starting_from basis stage) old new

-- the realms at work behind a line that may not stand there; one that is too long is not looked at
abbrev pub left_at : Basis → Stage → List ℕ → Scene
left_at basis stage line = if nat_le (length line) longest_line then scene_behind basis stage (move_of line) else scene_in stage

-- WHAT A SCRIPT LEAVES WHOSE LINE OF THIS NUMBER MAY NOT STAND THERE: the lines before it were played, each realm that is at work then
-- is stored as it is, and every other realm keeps its rows
pub record LeavesBehind {S : Type 0} (kept : Keeping S) (basis : Basis) (script : List ℕ) (number : ℕ) (old new : S) : Type 0 where
  pub before : List (List ℕ)
  pub line : List ℕ
  pub behind : List (List ℕ)
  pub lines : lines_of script ≡ before ++ line ∷ behind
  pub count : number ≡ length before + 1
  pub stage : Stage
  pub reached : (played basis (Declaring []) 1 before).ending ≡ Reached stage
  pub left : IsLeft kept (left_at basis stage line) old new

-- WHAT A SCRIPT LEAVES THAT DOES NOT GO ON: some of its lines were played, each realm that is at work then is stored as it is, and every
-- other realm keeps its rows
pub record LeavesAfter {S : Type 0} (kept : Keeping S) (basis : Basis) (script : List ℕ) (old new : S) : Type 0 where
  pub before : List (List ℕ)
  pub behind : List (List ℕ)
  pub lines : lines_of script ≡ before ++ behind
  pub stage : Stage
  pub reached : (played basis (Declaring []) 1 before).ending ≡ Reached stage
  pub left : IsLeft kept (scene_in stage) old new

-- or that was played whole, or as far as a line that may not stand there
abbrev pub LeavesUnwritten : {S : Type 0} → Keeping S → Basis → List ℕ → S → S → Type 0
LeavesUnwritten kept basis script old new = LeavesAfter kept basis script old new ⊎ (Leaves kept basis script old new ⊎ ((number : ℕ) × LeavesBehind kept basis script number old new))

-- what comes next says this
pub record ComesNext (behind : List (List ℕ)) (move : Move) : Type 0 where
  pub line : List ℕ
  pub later : List (List ℕ)
  pub next : behind ≡ line ∷ later
  pub says : move_of line ≡ Some move

-- do the realms start by what comes next, a line or the end?
abbrev pub starts_next : Stage → List (List ℕ) → Bool
starts_next (Declaring declarations) [] = true
starts_next (Declaring declarations) (line ∷ later) = option_map_or is_starting (move_of line) false
starts_next (Playing scene) behind = false

-- how far what comes next may have come
pub data IsCutShort {S : Type 0} (kept : Keeping S) (basis : Basis) (stage : Stage) (behind : List (List ℕ)) (old new : S) : Type 0 where
  -- nothing of it is stored
  Between : IsLeft kept (scene_in stage) old new → IsCutShort kept basis stage behind old new
  -- the realms were starting
  Starting : starts_next stage behind ≡ true → (starts : ℕ) → MayAllRise kept starts (scene_in stage) old new → IsCutShort kept basis stage behind old new
  -- they were starting again
  Restarting : (move : Move) → ComesNext behind move → realm_of move ≡ None → (starts : ℕ) → MayAllRise kept starts (starting_from basis stage) old new → IsCutShort kept basis stage behind old new
  -- they are at work, and a front of the line is stored
  Begun : (move : Move) → ComesNext behind move → is_begun stage move ≡ true → (count : ℕ) → IsLeft kept (front count move (starting_from basis stage)) old new → IsCutShort kept basis stage behind old new

-- WHAT A SCRIPT LEAVES THAT ENDS IN WANT OF MEMORY, OR BY ITS STORE: some of its lines were played, and at most a front of the next one
pub record LeavesShort {S : Type 0} (kept : Keeping S) (basis : Basis) (script : List ℕ) (old new : S) : Type 0 where
  pub before : List (List ℕ)
  pub behind : List (List ℕ)
  pub lines : lines_of script ≡ before ++ behind
  pub stage : Stage
  pub reached : (played basis (Declaring []) 1 before).ending ≡ Reached stage
  pub left : IsCutShort kept basis stage behind old new

-- so it is where a script ends in such a line, where it can't be read, where what it prints can't be written, where memory ends, and
-- where the store refuses
abbrev pub LeavesAtFault : {S : Type 0} → Keeping S → Basis → List ℕ → S → Result S (PlayFault × S) → Type 0
LeavesAtFault kept basis script old (Ok store) = Unit {0}
LeavesAtFault kept basis script old (Err (fault.Script number, store)) = kept.is_true store → LeavesBehind kept basis script number old store
LeavesAtFault kept basis script old (Err (fault.Read, store)) = kept.is_true store → LeavesAfter kept basis script old store
LeavesAtFault kept basis script old (Err (fault.Write, store)) = kept.is_true store → LeavesUnwritten kept basis script old store
LeavesAtFault kept basis script old (Err (fault.Memory, store)) = kept.is_true store → LeavesShort kept basis script old store
LeavesAtFault kept basis script old (Err (fault.Store, store)) = kept.is_true store → LeavesShort kept basis script old store

-- One line

-- it was done, before its text was written
pub record HasDone {S : Type 0} (kept : Keeping S) (basis : Basis) (acted : Acted) (old : AStage S) (new : S) : Type 0 where
  pub stage : AStage S
  pub now : Stage
  pub does : acted.stage ≡ Some now
  pub stands : IsStage kept basis stage now
  pub leaves : LeavesOthers kept old stage
  pub store : new ≡ store_of stage

-- or it may not stand there, and then the store has the realms that are at work; or it has ended before all of it was done
abbrev pub LeavesAtLine : {S : Type 0} → Keeping S → Basis → Stage → List ℕ → AStage S → Result (AStage S) (PlayFault × S) → Type 0
LeavesAtLine kept basis now line old (Ok x) = Unit {0}
LeavesAtLine kept basis now line old (Err (fault.Script number, store)) = kept.is_true store → IsLeft kept (scene_behind basis now (move_of line)) (store_of old) store
LeavesAtLine kept basis now line old (Err (fault.Read, store)) = Unit {0}
LeavesAtLine kept basis now line old (Err (fault.Write, store)) = kept.is_true store → IsLeft kept (scene_behind basis now (move_of line)) (store_of old) store ⊎ HasDone kept basis (acted basis now line) old store
LeavesAtLine kept basis now line old (Err (fault.Memory, store)) = kept.is_true store → HaltsBy kept basis now (move_of line) (store_of old) store
LeavesAtLine kept basis now line old (Err (fault.Store, store)) = kept.is_true store → HaltsBy kept basis now (move_of line) (store_of old) store

-- The end

abbrev pub LeavesAtEnd : {S : Type 0} → Keeping S → Basis → Stage → S → Result S (PlayFault × S) → Type 0
LeavesAtEnd kept basis now old (Ok store) = kept.is_true store → IsLeft kept (starting_from basis now) old store
LeavesAtEnd kept basis now old (Err (fault.Script number, store)) = Unit {0}
LeavesAtEnd kept basis now old (Err (fault.Read, store)) = Unit {0}
LeavesAtEnd kept basis now old (Err (fault.Write, store)) = kept.is_true store → IsLeft kept (starting_from basis now) old store
LeavesAtEnd kept basis now old (Err (fault.Memory, store)) = HaltsAtEnd kept now old store
LeavesAtEnd kept basis now old (Err (fault.Store, store)) = HaltsAtEnd kept now old store
