-- WHAT A TRANSCRIPT TELLS of the realms (ours): each has made an honest run of its own machine, alone, from its start as it was
-- declared and by what was stored of it; and in each run the four sentences of agreement hold of each identifier.
use Rattle.std.specs.Prelude.{◌≡◌, ℕ, ◌+◌, true, false, List, [], ◌∷◌, ◌++◌, map, nat_lt, Option, Some, None, slice_get}
use Rattle.std.specs.List.{list_any}
use Rattle.std.specs.Option.{option_to_list}
use Rattle.std.specs.Str.{bytes_eq}
use Rattle.tip_machine.specs.Agreement.{IsAgreed}
use Rattle.tip_machine.specs.Agreement.Traces.{Moment, shown_in, traced}
use Rattle.tip_machine.specs.Honest.{is_run}
use Rattle.tip_machine.specs.Invariants.{are_known_once}
use Rattle.tip_machine.specs.Invariants.Links.{are_distinct}
use Rattle.tip_machine.specs.Moves.{Move, World, led_to}
use Rattle.tip_machine.specs.Starting.{AreRowsBefore, IsStart}
use Rattle.tip_rows.specs.Logs.{last_epoch}
use Rattle.tip_actor.specs.Acting.{Acting}
use Rattle.tip_machine.specs.Heads.{starting}
use Rattle.tip_scene.specs.Acts.{Basis, Before, Declaring, Playing, Stage, acting_of, start_of, world_of}
use Rattle.tip_scene.specs.Blaming.{starting_from}
use Rattle.tip_scene.specs.Scenes.{Scene}
use Rattle.tip_scene.specs.declared.declared.Declaration.{Declaration}
use Rattle.tip_script.specs.Scripts as Script
use Rattle.tip_script.specs.Scripts.{move_of}
use Rattle.tip_play.specs.Transcripts.{act_of}
use Rattle.tip_history.specs.Making.{AreMade, own}
use Rattle.tip_history.specs.Sayings.{Line, are_spelled, lines_text, shown_of}

-- What was stored before

-- tipd alone wrote what is stored of a realm: rows of earlier epochs, no two in doubt for one transaction of one superior; and an
-- epoch follows, in which it can start
pub record IsWritten (before : Before) (start : World) : Type 0 where
  pub rises : nat_lt before.epoch last_epoch ≡ true
  pub rows : AreRowsBefore (before.epoch + 1) before.rows
  pub known_once : are_known_once start.state ≡ true

abbrev pub AreWritten : Basis → Type 0
AreWritten basis = (declaration : Declaration) → IsWritten (basis.before declaration.name) (acting_of basis declaration).world

-- What a script leaves of a realm

abbrev pub left_of : Acting → Before
left_of acting = record { epoch = acting.world.state.head.epoch; rows = acting.world.rows }

-- it is what tipd alone wrote, for a next script, where an epoch follows and however that declares the realm
abbrev pub MayFollow : Acting → Type 0
MayFollow acting = nat_lt acting.world.state.head.epoch last_epoch ≡ true → (declaration : Declaration) → IsWritten (left_of acting) (world_of (starting (start_of (left_of acting) declaration)) acting.world.rows)

abbrev pub AllMayFollow : Scene → Type 0
AllMayFollow scene = (place : ℕ) (acting : Acting) → slice_get scene place ≡ Some acting → MayFollow acting

-- What a script declares: by its lines, until the first other one starts the realms

abbrev pub declared_on : List Declaration → Option Stage → (List Declaration → List Declaration) → List Declaration
declared_on declarations (Some (Declaring more)) later = later more
declared_on declarations other later = declarations

abbrev pub declared_from : Basis → List Declaration → List (List ℕ) → List Declaration
declared_from basis declarations [] = declarations
declared_from basis declarations (line ∷ lines) = declared_on declarations (act_of basis (Declaring declarations) line).stage (λ more. declared_from basis more lines)

abbrev pub declared_by : Basis → List (List ℕ) → List Declaration
declared_by basis lines = declared_from basis [] lines

-- What a script asks of its realms: by its lines from the one that starts them, until one is not understood

-- an empty line asks nothing
abbrev pub asked_in : List ℕ → List Script.Move
asked_in [] = []
asked_in (octet ∷ line) = option_to_list (move_of (octet ∷ line))

abbrev pub asked_on : List ℕ → Option Stage → (Stage → List Script.Move) → List Script.Move
asked_on line None later = []
asked_on line (Some (Declaring declarations)) later = later (Declaring declarations)
asked_on line (Some (Playing scene)) later = asked_in line ++ later (Playing scene)

abbrev pub asked_from : Basis → Stage → List (List ℕ) → List Script.Move
asked_from basis stage [] = []
asked_from basis stage (line ∷ lines) = asked_on line (act_of basis stage line).stage (λ next. asked_from basis next lines)

abbrev pub asked_by : Basis → List (List ℕ) → List Script.Move
asked_by basis lines = asked_from basis (Declaring []) lines

-- and how it leaves them: as they start, or as they are behind the last line that is understood

abbrev pub left_on : Scene → Option Stage → (Stage → Scene) → Scene
left_on scene None later = scene
left_on scene (Some next) later = later next

abbrev pub left_from : Basis → Stage → List (List ℕ) → Scene
left_from basis stage [] = starting_from basis stage
left_from basis stage (line ∷ lines) = left_on (starting_from basis stage) (act_of basis stage line).stage (λ next. left_from basis next lines)

abbrev pub left_by : Basis → List (List ℕ) → Scene
left_by basis lines = left_from basis (Declaring []) lines

-- Histories

-- a realm as it was declared, and the moves that it has made since its start
pub record History : Type 0 where
  pub declaration : Declaration
  pub moves : List Move

abbrev pub name_of : History → List ℕ
name_of history = history.declaration.name

-- what it was at its start
abbrev pub begin_of : Basis → History → World
begin_of basis history = (acting_of basis history.declaration).world

abbrev pub moments_of : Basis → History → List Moment
moments_of basis history = traced (begin_of basis history) history.moves

-- a run of a realm's machine, by what was asked of all realms
pub record IsHistory (basis : Basis) (asked : List Script.Move) (lines : List Line) (history : History) (acting : Acting) : Type 0 where
  pub start : IsStart (begin_of basis history)
  pub run : is_run (begin_of basis history) history.moves ≡ true
  -- its moves are those of the lines that concern it
  pub made : AreMade (begin_of basis history) (own (name_of history) asked) history.moves
  -- they lead to what the realm is then
  pub led : acting.world ≡ led_to (begin_of basis history) history.moves
  -- ISOLATION: the lines show of the realm what its own machine shows, in this run of its own
  pub shown : shown_of (name_of history) lines ≡ shown_in (moments_of basis history)
  -- AGREEMENT: none of its transactions is half committed
  pub agreed : (id : List ℕ) → IsAgreed (begin_of basis history) (moments_of basis history) id

abbrev pub AreHistories : Basis → List Script.Move → List Line → List History → Scene → Type 0
AreHistories basis asked lines [] [] = Unit {0}
AreHistories basis asked lines [] (acting ∷ scene) = ⊥
AreHistories basis asked lines (history ∷ histories) [] = ⊥
AreHistories basis asked lines (history ∷ histories) (acting ∷ scene) = IsHistory basis asked lines history acting × AreHistories basis asked lines histories scene

-- no history is of this name
abbrev pub IsUnknown : List ℕ → List History → Type 0
IsUnknown name histories = list_any (bytes_eq name) (map name_of histories) ≡ false

abbrev pub declarations_of : List History → List Declaration
declarations_of histories = map (λ history. history.declaration) histories

-- what is said of these realms, of which this was asked, and which are so then
pub record IsTold (basis : Basis) (declarations : List Declaration) (asked : List Script.Move) (scene : Scene) (text : List ℕ) : Type 0 where
  pub lines : List Line
  pub text_is : text ≡ lines_text lines
  pub spelled : are_spelled lines ≡ true
  pub histories : List History
  pub declared : declarations_of histories ≡ declarations
  pub told : AreHistories basis asked lines histories scene
  -- no two realms have one name, and no other is shown
  pub named : are_distinct bytes_eq (map name_of histories) ≡ true
  pub silent : (name : List ℕ) → IsUnknown name histories → shown_of name lines ≡ []
