-- Realms that start again over their rows.
use Rattle.std.proofs.Common.{◌≡◌, ◌++◌, ◌==◌, ℕ, zero, suc, true, false, List, [], ◌∷◌, Option, Some, None, append-nil, append_assoc, length, map, option_map, refl, sym, ap, arith, subst, ◌∙◌}
use Rattle.std.specs.Prelude.{◌||◌, Ok, slice_get}
use Rattle.std.specs.List.{flat_map, list_any}
use Rattle.std.specs.Option.{option_map_or}
use Rattle.std.proofs.lemmas.Option.{none-some, same_Some}
use Rattle.tip_branch.specs.declared.branch.Badge.{Badge}
use Rattle.tip_core.specs.Hosted.{realm}
use Rattle.tip_stored.specs.Loading as Loading
use Rattle.tip_stored.specs.Loading.{Loads}
use Rattle.tip_stored.specs.Recovering.{Recovering, adopted_each}
use Rattle.tip_stored.specs.declared.realm_spec.RealmSpec.{RealmSpec}
use Rattle.tip_machine.proofs.Storing.{each_found}
use Rattle.tip_machine.specs.Moves as Moves
use Rattle.tip_machine.specs.Recovery.{Loaded, restarted}
use Rattle.tip_machine.specs.States.{State}
use Rattle.tip_machine.specs.declared.head.Head.{Head}
use Rattle.tip_recovery.specs.Adopting.{Recovery, Unfinished, adopted_all, given, loaded, unadopted, with_boxes}
use Rattle.tip_rows.specs.Keys.{Key}
use Rattle.tip_rows.specs.Logs.{Keeping, is_rising, last_epoch}
use Rattle.tip_rows.specs.declared.row.Row.{Row}
use Rattle.tip_actor.proofs.Lists.{partner}
use Rattle.tip_actor.specs.Acting.{Acting, boxes_in, is_at_end, restarts, willing_boxes}
use Rattle.tip_actor.specs.Standing.{Actor, StoredCore as AStoredCore}
use Rattle.tip_scene.proofs.Loaded.{beyond, loaded_at, waits}
use Rattle.tip_scene.specs.Rising.{AreAgain, AreAnew, AreNew, AreRising, AreWaiting, IsAnew, IsNew, IsRising, IsWaiting}
use Rattle.tip_scene.specs.Scenes as Scenes
use Rattle.tip_scene.specs.Scenes.{Scene}
use Rattle.tip_scene.specs.Standing.{IsMoved, IsScene}

-- Boxes

-- the boxes for the rows of a realm
abbrev pub boxes_of_rows : List (Key × Row) → List (List Badge)
boxes_of_rows rows = map (λ stored. willing_boxes stored.1) rows

-- boxes for each row of a realm that is taken up
abbrev pub boxes_of_recovery : Recovery → List (List Badge)
boxes_of_recovery recovery = map (λ row. willing_boxes row.row) recovery.rows

pub boxes_unadopted : (name : List ℕ) (rows : List (Key × Row)) → map (λ (row : Unfinished). willing_boxes row.row) (map (unadopted name) rows) ≡ boxes_of_rows rows
boxes_unadopted name [] = refl
boxes_unadopted name (stored ∷ rows) = ap (λ l. willing_boxes stored.1 ∷ l) (boxes_unadopted name rows)

loaded_with : (name : List ℕ) (boxes : List Badge) (stored : Key × Row) → loaded (with_boxes boxes (unadopted name stored)) ≡ record { key = stored.0; row = stored.1; boxes = boxes }
loaded_with name [] stored = refl
loaded_with name (box ∷ boxes) stored = refl

loaded_all : (name : List ℕ) (rows : List (Key × Row)) → map loaded (given with_boxes (boxes_of_rows rows) (map (unadopted name) rows)) ≡ map (λ stored. record { key = stored.0; row = stored.1; boxes = willing_boxes stored.1 }) rows
loaded_all name [] = refl
loaded_all name (stored ∷ rows) =
    ap (λ l. l ∷ map loaded (given with_boxes (boxes_of_rows rows) (map (unadopted name) rows))) (loaded_with name (willing_boxes stored.1) stored)
    ∙ ap (λ rest. record { key = stored.0; row = stored.1; boxes = willing_boxes stored.1 } ∷ rest) (loaded_all name rows)

-- what is found at a key, with its boxes
abbrev with_found : Key × Row → Option Row → Loaded
with_found stored found = record { key = stored.0; row = stored.1; boxes = option_map_or willing_boxes found [] }

-- rows that rise have the boxes that a restart gives them
pub loads_same : (name : List ℕ) (rows : List (Key × Row)) → is_rising rows ≡ true → Moves.loaded (boxes_in rows) rows ≡ map loaded (given with_boxes (boxes_of_rows rows) (map (unadopted name) rows))
loads_same name rows rising = each_found with_found rows rising ∙ sym (loaded_all name rows)

-- One realm

given_at : {T B : Type 0} (give : B → T → T) (bs : List B) (xs : List T) (place : ℕ) (b : B) (x : T) → slice_get bs place ≡ Some b → slice_get xs place ≡ Some x → slice_get (given give bs xs) place ≡ Some (give b x)
given_at give [] xs place b x here there = absurd (none-some b here)
given_at give (c ∷ bs) [] place b x here there = absurd (none-some x there)
given_at give (c ∷ bs) (y ∷ xs) zero b x here there = ap (λ z. Some (give z y)) (same_Some c b here) ∙ ap (λ z. Some (give b z)) (same_Some y x there)
given_at give (c ∷ bs) (y ∷ xs) (suc place) b x here there = given_at give bs xs place b x here there

pub mapped_at : {X Y : Type 0} (f : X → Y) (xs : List X) (place : ℕ) (x : X) → slice_get xs place ≡ Some x → slice_get (map f xs) place ≡ Some (f x)
mapped_at f [] place x here = absurd (none-some x here)
mapped_at f (y ∷ xs) zero x here = ap (λ z. Some (f z)) (same_Some y x here)
mapped_at f (y ∷ xs) (suc place) x here = mapped_at f xs place x here

pub unmapped_at : {X Y : Type 0} (f : X → Y) (xs : List X) (place : ℕ) (y : Y) → slice_get (map f xs) place ≡ Some y → (x : X) × (slice_get xs place ≡ Some x) × (y ≡ f x)
unmapped_at f [] place y here = absurd (none-some y here)
unmapped_at f (x ∷ xs) zero y here = (x, refl, sym (same_Some (f x) y here))
unmapped_at f (x ∷ xs) (suc place) y here = unmapped_at f xs place y here

none_mapped : {X Y : Type 0} (f : X → Y) (xs : List X) (place : ℕ) → slice_get (map f xs) place ≡ None → slice_get xs place ≡ None
none_mapped f [] place none = refl
none_mapped f (x ∷ xs) zero none = absurd (none-some (f x) (sym none))
none_mapped f (x ∷ xs) (suc place) none = none_mapped f xs place none

abbrev pub after : Acting → Acting
after acting = (restarts acting).acting

-- a realm whose rows wait, with willing boxes for them
adopts : {S : Type 0} (kept : Keeping S) (recovering : Recovering S) (place : ℕ) (acting : Acting) → IsWaiting kept recovering place acting → IsRising kept (record recovering { realms = adopted_each (map boxes_of_recovery recovering.realms) recovering.realms }) place acting
adopts kept recovering place acting is =
    let rows = acting.world.rows in
    let own_boxes : boxes_of_recovery is.recovery ≡ boxes_of_rows rows = ap (map (λ (row : Unfinished). willing_boxes row.row)) is.rows ∙ boxes_unadopted acting.name rows in
    let adopted : adopted_all (boxes_of_recovery is.recovery) is.recovery.rows ≡ given with_boxes (boxes_of_rows rows) (map (unadopted acting.name) rows) = ap (λ b. adopted_all b is.recovery.rows) own_boxes ∙ ap (adopted_all (boxes_of_rows rows)) is.rows in
    record {
      recovery = record is.recovery { rows = adopted_all (boxes_of_recovery is.recovery) is.recovery.rows };
      there = given_at (λ (lots : List (List Badge)) (recovery : Recovery). record recovery { rows = adopted_all lots recovery.rows }) (map boxes_of_recovery recovering.realms) recovering.realms place (boxes_of_recovery is.recovery) is.recovery (mapped_at boxes_of_recovery recovering.realms place is.recovery is.there) is.there;
      core = is.core;
      state = is.state ∙ ap (restarted acting.world.state.head) (loads_same acting.name rows is.stored.part.rising ∙ sym (ap (map loaded) adopted));
      epoch = is.epoch;
      boxes = boxes_of_rows rows;
      rows = adopted;
      stored = is.stored;
      due = is.due;
      named = is.named;
    }

pub all_adopt : {S : Type 0} (kept : Keeping S) (recovering : Recovering S) (scene : Scene) → AreWaiting kept recovering scene → AreRising kept (record recovering { realms = adopted_each (map boxes_of_recovery recovering.realms) recovering.realms }) scene
all_adopt kept recovering scene are = record { each = λ place acting here. adopts kept recovering place acting (are.each place acting here); beyond = are.beyond }

-- All realms

-- each realm was loaded again
pub wait_again : {S : Type 0} (kept : Keeping S) (stored_core : AStoredCore S) (actors : List Actor) (scene : Scene) (specs : List RealmSpec) (recovering : Recovering S) → IsScene kept stored_core actors scene →
    ((place : ℕ) → slice_get specs place ≡ option_map (λ (state : State). Loading.spec_of state.head) (realm stored_core.core place)) → Loads kept specs stored_core.store (Ok recovering) → kept.is_true recovering.store → AreWaiting kept recovering (map after scene)
wait_again kept stored_core actors scene specs recovering is specs_are loads truth = record {
  each = λ place again here.
      let was = unmapped_at after scene place again here in
      let mate = partner scene actors place was.0 (sym is.count) was.1 in
      let acts = is.each place mate.0 was.0 mate.1 was.1 in
      let head = was.0.world.state.head in
      let spec = specs_are place ∙ ap (option_map (λ (state : State). Loading.spec_of state.head)) acts.served.state_is in
      let loaded_ = loaded_at kept specs stored_core.store recovering loads truth place (Loading.spec_of head) acts.stored.log head.epoch was.0.world.rows spec acts.stored.stood acts.stored.part in
      subst (IsWaiting kept recovering place) (sym was.2)
      (waits kept stored_core.store recovering place (Loading.spec_of head) head.epoch was.0.world.rows was.0.name was.0.due [] loaded_ acts.named acts.served.due_is);
  beyond = λ place none.
      let nobody = is.beyond place (none_mapped after scene place none) in
      beyond kept specs stored_core.store recovering loads place (specs_are place ∙ ap (option_map (λ (state : State). Loading.spec_of state.head)) nobody);
}

-- nothing has come to any realm
anew_are_new : (actor old : Actor) (acting : Acting) → IsAnew actor old → old.name ≡ acting.name → old.is_due ≡ acting.due → IsNew actor (after acting)
anew_are_new actor old acting is named due = record {
  name = is.name ∙ named;
  readers = is.readers;
  readings = refl;
  errands = is.errands;
  none_out = refl;
  due = is.due ∙ due;
}

all_anew : (news olds : List Actor) (scene : Scene) → AreAnew news olds → length olds ≡ length scene → ((place : ℕ) (old : Actor) (acting : Acting) → slice_get olds place ≡ Some old → slice_get scene place ≡ Some acting → (old.name ≡ acting.name) × (old.is_due ≡ acting.due)) → AreNew news (map after scene)
all_anew [] [] [] are count same = tt
all_anew [] [] (y ∷ scene) are count same = absurd (omega (arith, count))
all_anew [] (o ∷ olds) scene are count same = absurd are
all_anew (n ∷ news) [] scene are count same = absurd are
all_anew (n ∷ news) (o ∷ olds) [] are count same = absurd (omega (arith, count))
all_anew (n ∷ news) (o ∷ olds) (y ∷ scene) are count same = let own = same 0 o y refl refl in (anew_are_new n o y are.0 own.0 own.1, all_anew news olds scene are.1 (omega (arith, count)) (λ place. same (suc place)))

pub new_again : {S : Type 0} (kept : Keeping S) (stored_core : AStoredCore S) (olds : List Actor) (scene : Scene) → IsScene kept stored_core olds scene → AreAgain olds (map after scene)
new_again kept stored_core olds scene is = λ news are. all_anew news olds scene are is.count (λ place old acting o s. let acts = is.each place old acting o s in (acts.own.name, acts.own.due))

-- The last epoch

pub same_lists : {X : Type 0} (xs ys : List X) → ((place : ℕ) → slice_get xs place ≡ slice_get ys place) → xs ≡ ys
same_lists [] [] same = refl
same_lists [] (y ∷ ys) same = absurd (none-some y (same 0))
same_lists (x ∷ xs) [] same = absurd (none-some x (sym (same 0)))
same_lists (x ∷ xs) (y ∷ ys) same = ap (λ z. z ∷ xs) (same_Some x y (same 0)) ∙ ap (λ l. y ∷ l) (same_lists xs ys (λ place. same (suc place)))

heads_at : {S : Type 0} (kept : Keeping S) (stored_core : AStoredCore S) (actors : List Actor) (scene : Scene) → IsScene kept stored_core actors scene → (place : ℕ) (found : Option Acting) → slice_get scene place ≡ found → option_map (λ (state : State). state.head) (realm stored_core.core place) ≡ slice_get (map (λ (a : Acting). a.world.state.head) scene) place
heads_at kept stored_core actors scene is place None none = ap (option_map (λ (state : State). state.head)) (is.beyond place none) ∙ sym (none_of scene place none) where
  none_of : (scene : Scene) (place : ℕ) → slice_get scene place ≡ None → slice_get (map (λ (a : Acting). a.world.state.head) scene) place ≡ None
  none_of [] place none = refl
  none_of (y ∷ scene) zero none = absurd (none-some y (sym none))
  none_of (y ∷ scene) (suc place) none = none_of scene place none
heads_at kept stored_core actors scene is place (Some acting) here =
    let mate = partner scene actors place acting (sym is.count) here in
    ap (option_map (λ (state : State). state.head)) (is.each place mate.0 acting mate.1 here).served.state_is ∙ sym (mapped_at (λ (a : Acting). a.world.state.head) scene place acting here)

any_mapped : (scene : Scene) → list_any (λ (head : Head). head.epoch == last_epoch) (map (λ (a : Acting). a.world.state.head) scene) ≡ list_any is_at_end scene
any_mapped [] = refl
any_mapped (y ∷ scene) = ap (λ b. is_at_end y || b) (any_mapped scene)

-- the heads tell whether a realm is in its last epoch
pub any_at_end : {S : Type 0} (kept : Keeping S) (stored_core : AStoredCore S) (actors : List Actor) (scene : Scene) (heads : List Head) → IsScene kept stored_core actors scene → ((place : ℕ) → slice_get heads place ≡ option_map (λ (state : State). state.head) (realm stored_core.core place)) → list_any (λ (head : Head). head.epoch == last_epoch) heads ≡ list_any is_at_end scene
any_at_end kept stored_core actors scene heads is heads_are =
    ap (list_any (λ (head : Head). head.epoch == last_epoch)) (same_lists heads (map (λ (a : Acting). a.world.state.head) scene) (λ place. heads_are place ∙ heads_at kept stored_core actors scene is place (slice_get scene place) refl)) ∙ any_mapped scene

-- where one is, nothing is done
pub stays_put : (scene : Scene) (printed : List ℕ) → list_any is_at_end scene ≡ true → ((Scenes.restarted scene).scene ≡ None) × (printed ≡ printed ++ (Scenes.restarted scene).printed)
stays_put scene printed last = rw last (refl, sym (append-nil printed))

-- else all start again, and are at work
pub starts_again : {S : Type 0} (kept : Keeping S) (stored_core : AStoredCore S) (actors : List Actor) (scene : Scene) (printed between printed' : List ℕ) → list_any is_at_end scene ≡ false → between ≡ printed ++ flat_map (λ (acting : Acting). (restarts acting).printed) scene → printed' ≡ between ++ Scenes.openings_text (map after scene) → IsScene kept stored_core actors (map after scene) → IsMoved kept stored_core actors printed printed' (Scenes.restarted scene)
starts_again kept stored_core actors scene printed between printed' none first second stands = rw none (record {
  text = second ∙ ap (λ t. t ++ Scenes.openings_text (map after scene)) first ∙ append_assoc printed (flat_map (λ (acting : Acting). (restarts acting).printed) scene) (Scenes.openings_text (map after scene));
  scene = map after scene;
  is = refl;
  stands = stands;
})
