-- How many willing boxes a line wants.
use Rattle.std.specs.Prelude.{◌≡◌, ℕ, ◌+◌, List, Option, None, Some, map, slice_get, if◌then◌else◌}
use Rattle.tip_actor.specs.Acting.{Acting}
use Rattle.tip_rows.specs.Logs.{IsPart, Keeping, Log}
use Rattle.tip_script.specs.Scripts.{Move, is_start, realm_of}
use Rattle.tip_scene.specs.Acts.{Basis, Stage, Declaring, Playing, scene_of}
use Rattle.tip_scene.specs.Blaming.{starting_from}
use Rattle.tip_scene.specs.Boxes.{box_count}
use Rattle.tip_scene.specs.Leaving.{is_starting}
use Rattle.tip_scene.specs.Scenes.{Scene}

-- for realms that start again: all, or the one that is named
abbrev pub wanted_again : Move → Scene → ℕ
wanted_again move scene = if is_start move then box_count (realm_of move) scene else 0

-- for the start of those that are declared
abbrev pub wanted_at_start : Basis → Stage → ℕ
wanted_at_start basis (Declaring declarations) = box_count None (scene_of basis declarations)
wanted_at_start basis (Playing scene) = 0

-- HOW MANY WILLING BOXES A LINE WANTS: one for each branch of each row of the realms that it starts, and of those that it starts again
abbrev pub wanted_by : Basis → Stage → Option Move → ℕ
wanted_by basis stage None = 0
wanted_by basis stage (Some move) = if is_starting move then wanted_at_start basis stage + wanted_again move (starting_from basis stage) else 0

-- What a store has of the realms of a scene

pub record Has {S : Type 0} (kept : Keeping S) (store : S) (acting : Acting) : Type 0 where
  pub log : Log
  pub epoch : ℕ
  pub stood : kept.stands store log
  pub part : IsPart log acting.name epoch acting.world.rows

abbrev pub HasAll : {S : Type 0} → Keeping S → S → Scene → Type 0
HasAll kept store scene = (place : ℕ) (acting : Acting) → slice_get scene place ≡ Some acting → Has kept store acting

-- realms of these names
abbrev pub AreNamed : List (List ℕ) → Scene → Type 0
AreNamed names scene = map (λ acting. acting.name) scene ≡ names
