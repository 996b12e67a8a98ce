-- Realms that have started, before they are at work.
use Rattle.tip_rows.specs.Logs.{Keeping}
use Rattle.std.specs.Prelude.{◌≡◌, ℕ, List, [], ◌∷◌, map, Some, None, slice_get}
use Rattle.tip_branch.specs.declared.branch.Badge.{Badge}
use Rattle.tip_core.specs.Hosted.{realm}
use Rattle.tip_machine.specs.Moves as Moves
use Rattle.tip_machine.specs.Recovery.{restarted}
use Rattle.tip_machine.specs.States.{started}
use Rattle.tip_recovery.specs.Adopting.{Recovery, Unfinished, given, loaded, unadopted, with_boxes}
use Rattle.tip_stored.specs.Recovering.{Recovering}
use Rattle.tip_actor.specs.Acting.{Acting, boxes_in, willing_boxes}
use Rattle.tip_actor.specs.Standing.{Actor, IsStored}
use Rattle.tip_scene.specs.Scenes.{Scene}

-- nothing has come to it, and no party is out
pub record IsNew (actor : Actor) (acting : Acting) : Type 0 where
  pub name : actor.name ≡ acting.name
  pub readers : actor.readers.items ≡ []
  pub readings : acting.readings ≡ []
  pub errands : actor.errands.items ≡ []
  pub none_out : acting.world.errands ≡ []
  pub due : actor.is_due ≡ acting.due

abbrev pub AreNew : List Actor → Scene → Type 0
AreNew [] [] = Unit {0}
AreNew [] (acting ∷ scene) = ⊥
AreNew (actor ∷ actors) [] = ⊥
AreNew (actor ∷ actors) (acting ∷ scene) = IsNew actor acting × AreNew actors scene

-- the same realm, to which nothing has come
pub record IsAnew (new old : Actor) : Type 0 where
  pub name : new.name ≡ old.name
  pub readers : new.readers.items ≡ []
  pub errands : new.errands.items ≡ []
  pub due : new.is_due ≡ old.is_due

abbrev pub AreAnew : List Actor → List Actor → Type 0
AreAnew [] [] = Unit {0}
AreAnew [] (old ∷ olds) = ⊥
AreAnew (new ∷ news) [] = ⊥
AreAnew (new ∷ news) (old ∷ olds) = IsAnew new old × AreAnew news olds

-- those of these realms, before nothing is to have come to them
abbrev pub AreAgain : List Actor → Scene → Type 0
AreAgain olds scene = (news : List Actor) → AreAnew news olds → AreNew news scene

-- the realm at a place has started, and its rows wait for boxes
pub record IsWaiting {S : Type 0} (kept : Keeping S) (recovering : Recovering S) (place : ℕ) (acting : Acting) : Type 0 where
  pub recovery : Recovery
  pub there : slice_get recovering.realms place ≡ Some recovery
  pub core : realm recovering.core place ≡ Some (started acting.world.state.head)
  pub state : acting.world.state ≡ restarted acting.world.state.head (Moves.loaded (boxes_in acting.world.rows) acting.world.rows)
  pub epoch : recovery.epoch ≡ acting.world.state.head.epoch
  pub rows : recovery.rows ≡ map (unadopted acting.name) acting.world.rows
  pub stored : IsStored kept recovering.store acting.world.state.head.name acting.world.state.head.epoch acting.world.rows
  pub due : kept.is_due recovering.store acting.world.state.head.name ≡ acting.due
  pub named : acting.world.state.head.name ≡ acting.name

pub record AreWaiting {S : Type 0} (kept : Keeping S) (recovering : Recovering S) (scene : Scene) : Type 0 where
  pub each : (place : ℕ) (acting : Acting) → slice_get scene place ≡ Some acting → IsWaiting kept recovering place acting
  -- and there are no others
  pub beyond : (place : ℕ) → slice_get scene place ≡ None → realm recovering.core place ≡ None

-- its rows are stored, and its boxes are adopted
pub record IsRising {S : Type 0} (kept : Keeping S) (recovering : Recovering S) (place : ℕ) (acting : Acting) : Type 0 where
  pub recovery : Recovery
  pub there : slice_get recovering.realms place ≡ Some recovery
  pub core : realm recovering.core place ≡ Some (started acting.world.state.head)
  pub state : acting.world.state ≡ restarted acting.world.state.head (map loaded recovery.rows)
  pub epoch : recovery.epoch ≡ acting.world.state.head.epoch
  pub boxes : List (List Badge)
  pub rows : recovery.rows ≡ given with_boxes boxes (map (unadopted acting.name) acting.world.rows)
  pub stored : IsStored kept recovering.store acting.world.state.head.name acting.world.state.head.epoch acting.world.rows
  pub due : kept.is_due recovering.store acting.world.state.head.name ≡ acting.due
  pub named : acting.world.state.head.name ≡ acting.name

pub record AreRising {S : Type 0} (kept : Keeping S) (recovering : Recovering S) (scene : Scene) : Type 0 where
  pub each : (place : ℕ) (acting : Acting) → slice_get scene place ≡ Some acting → IsRising kept recovering place acting
  -- and there are no others
  pub beyond : (place : ℕ) → slice_get scene place ≡ None → realm recovering.core place ≡ None

-- One realm alone

-- the rows of a realm, and a willing box again for each of their branches
abbrev pub willing_rows : Acting → List Unfinished
willing_rows acting = given with_boxes (map (λ stored. willing_boxes stored.1) acting.world.rows) (map (unadopted acting.name) acting.world.rows)

abbrev pub IsWilling : Recovery → Acting → Type 0
IsWilling recovery acting = recovery.rows ≡ willing_rows acting
