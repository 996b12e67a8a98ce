-- A REALM IS ALONE (ours): it prints what it prints where no other realm is there, by the lines of the script that concern it.
use Rattle.std.specs.Prelude.{◌≡◌, ◌⊎◌, ℕ, Bool, true, false, List, [], ◌∷◌, ◌++◌, filter, Option, Some, None, slice_get}
use Rattle.std.specs.List.{list_any}
use Rattle.std.specs.Option.{option_map_or}
use Rattle.tip_line.specs.Words.{is_realm}
use Rattle.tip_actor.specs.Acting.{Acting}
use Rattle.tip_scene.specs.Acts.{Basis, Declaring, Stage, is_declared}
use Rattle.tip_scene.specs.Scenes.{Moved, Scene, is_named, moved}
use Rattle.tip_script.specs.Scripts.{Move, move_of, realm_of}
use Rattle.tip_play.specs.Transcripts.{act_of, closing_text, played}
use Rattle.tip_history.specs.Histories.{declared_by}
use Rattle.tip_history.specs.Making.{concerns, own}
use Rattle.tip_history.specs.Sayings.{Line, are_spelled, lines_on, lines_text, shown_of}

-- it names a realm as realms are spelled
abbrev pub is_spelled : Move → Bool
is_spelled move = option_map_or is_realm (realm_of move) true

-- lines one after another, until one may not stand
abbrev pub and_then : List ℕ → Option Scene → (Scene → Moved) → Moved
and_then printed None later = record { printed = printed; scene = None }
and_then printed (Some scene) later = record { printed = printed ++ (later scene).printed; scene = (later scene).scene }

abbrev pub all_moved : List Move → Scene → Moved
all_moved [] scene = record { printed = []; scene = Some scene }
all_moved (move ∷ moves) scene = and_then (moved move scene).printed (moved move scene).scene (all_moved moves)

-- what is printed is said of realms; what is said of one is what it prints alone, and it is then as it is alone; of a realm that is
-- not there nothing is shown
pub record IsAlone (moves : List Move) (scene next : Scene) (printed : List ℕ) : Type 0 where
  pub lines : List Line
  pub text_is : printed ≡ lines_text lines
  pub spelled : are_spelled lines ≡ true
  pub each : (place : ℕ) (acting : Acting) → slice_get scene place ≡ Some acting →
      (now : Acting) × (slice_get next place ≡ Some now)
      × (all_moved (own acting.name moves) (acting ∷ []) ≡ record { printed = lines_text (lines_on acting.name lines); scene = Some (now ∷ []) })
  pub silent : (name : List ℕ) → list_any (is_named name) scene ≡ false → shown_of name lines ≡ []

-- Scripts

-- the lines of a script that concern a realm: those that name it, and those that name none
abbrev pub is_own : List ℕ → List ℕ → Bool
is_own name line = option_map_or (concerns name) (move_of line) true

abbrev pub own_script : List ℕ → List (List ℕ) → List (List ℕ)
own_script name lines = filter (is_own name) lines

-- the lines of a script before one that is not understood
abbrev pub heard_on : List ℕ → Option Stage → (Stage → List (List ℕ)) → List (List ℕ)
heard_on line None later = []
heard_on line (Some next) later = line ∷ later next

abbrev pub heard : Basis → Stage → List (List ℕ) → List (List ℕ)
heard basis stage [] = []
heard basis stage (line ∷ lines) = heard_on line (act_of basis stage line).stage (λ next. heard basis next lines)

-- what the lines of a script print, to its end
abbrev pub text_of : Basis → List (List ℕ) → List ℕ
text_of basis lines = (played basis (Declaring []) 1 lines).printed ++ closing_text basis (played basis (Declaring []) 1 lines).ending

-- EACH REALM OF A SCRIPT IS ALONE: what a script says of a realm that it declares is what the realm's own lines print; unless the
-- script ends before its realms have started, and says nothing
pub record AreApart (basis : Basis) (lines : List (List ℕ)) (text : List ℕ) : Type 0 where
  pub said : List Line
  pub text_is : text ≡ lines_text said
  pub spelled : are_spelled said ≡ true
  pub each : (text ≡ []) ⊎ ((name : List ℕ) → list_any (is_declared name) (declared_by basis lines) ≡ true →
      text_of basis (own_script name (heard basis (Declaring []) lines)) ≡ lines_text (lines_on name said))
