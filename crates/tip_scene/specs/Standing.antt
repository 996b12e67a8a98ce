-- How the code's values stand for the realms of a script at work.
use Rattle.tip_rows.specs.Logs.{Keeping}
use Rattle.std.specs.Prelude.{◌≡◌, ℕ, List, ◌++◌, length, Bool, Some, None, slice_get}
use Rattle.std.specs.Str.{bytes_eq}
use Rattle.tip_actor.specs.Acting.{Acting}
use Rattle.tip_actor.specs.Standing.{Actor, StoredCore, IsActing}
use Rattle.tip_core.specs.Hosted.{realm}
use Rattle.tip_scene.specs.Scenes.{Scene, Moved}

abbrev pub has_name : List ℕ → Actor → Bool
has_name name actor = bytes_eq actor.name name

-- all realms are as the scene says
pub record IsScene {S : Type 0} (kept : Keeping S) (stored_core : StoredCore S) (actors : List Actor) (scene : Scene) : Type 0 where
  pub count : length actors ≡ length scene
  pub each : (place : ℕ) (actor : Actor) (acting : Acting) → slice_get actors place ≡ Some actor → slice_get scene place ≡ Some acting → IsActing kept stored_core place actor acting
  -- and there are no others
  pub beyond : (place : ℕ) → slice_get scene place ≡ None → realm stored_core.core place ≡ None

-- a line has printed its text, and the realms are as it made them
pub record IsMoved {S : Type 0} (kept : Keeping S) (stored_core : StoredCore S) (actors : List Actor) (printed printed' : List ℕ) (moved : Moved) : Type 0 where
  pub text : printed' ≡ printed ++ moved.printed
  pub scene : Scene
  pub is : moved.scene ≡ Some scene
  pub stands : IsScene kept stored_core actors scene
