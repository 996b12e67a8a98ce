-- Realms that have started are at work.
use Rattle.tip_rows.specs.Logs.{Keeping}
use Rattle.std.proofs.Common.{◌≡◌, ◌+◌, ◌≤◌, ◌++◌, ℕ, zero, suc, List, [], ◌∷◌, Option, Some, None, append-nil, append_assoc, arith, drop, length, map, refl, sym, ap, subst, ◌∙◌}
use Rattle.std.specs.Prelude.{option_map, slice_get}
use Rattle.std.specs.List.{flat_map}
use Rattle.std.specs.Option.{option_map_or}
use Rattle.std.proofs.Math.ListN.{drop_of_length-le}
use Rattle.std.proofs.lemmas.List.Concat.{flat_map-cons}
use Rattle.std.proofs.lemmas.Option.{none-some, same_Some}
use Rattle.tip_branch.specs.declared.branch.Badge.{Badge}
use Rattle.tip_core.specs.Hosted.{HaveNames, realm}
use Rattle.tip_stored.specs.Recovering.{Recovering, recovered}
use Rattle.tip_machine.specs.Answers.{identifier}
use Rattle.tip_recovery.specs.Adopting.{Recovery, Unfinished, given, unadopted, with_boxes}
use Rattle.tip_rows.specs.Keys.{Key}
use Rattle.tip_rows.specs.Rows.{branches_of}
use Rattle.tip_rows.specs.declared.row.Row.{Row}
use Rattle.tip_transcript.specs.Printing.{adopted_text, start_text}
use Rattle.tip_actor.specs.Acting.{Acting, adoption_text, opening_text}
use Rattle.tip_actor.specs.Standing.{Actor, AreReadings, StoredCore, IsActing, IsStored}
use Rattle.tip_actor.specs.declared.reader.Reader.{Reader}
use Rattle.tip_scene.specs.Rising.{AreAnew, AreNew, AreRising, IsAnew, IsNew, IsRising}
use Rattle.tip_scene.specs.Scenes.{Scene}
use Rattle.tip_scene.specs.Standing.{IsScene}

-- What is printed

-- the branches of a row that is taken up
abbrev pub row_text : List ℕ → Unfinished → List ℕ
row_text name row = adopted_text name (identifier row.realm row.key) (branches_of row.row)

said_of : (name : List ℕ) (boxes : List Badge) (stored : Key × Row) → row_text name (with_boxes boxes (unadopted name stored)) ≡ adoption_text name stored
said_of name [] stored = refl
said_of name (box ∷ boxes) stored = refl

said_plain : (name : List ℕ) (rows : List (Key × Row)) → flat_map (row_text name) (map (unadopted name) rows) ≡ flat_map (adoption_text name) rows
said_plain name [] = refl
said_plain name (stored ∷ rows) = flat_map-cons (row_text name) (unadopted name stored) (map (unadopted name) rows) ∙ ap (λ rest. adoption_text name stored ++ rest) (said_plain name rows) ∙ sym (flat_map-cons (adoption_text name) stored rows)

pub said_all : (name : List ℕ) (boxes : List (List Badge)) (rows : List (Key × Row)) → flat_map (row_text name) (given with_boxes boxes (map (unadopted name) rows)) ≡ flat_map (adoption_text name) rows
said_all name [] rows = said_plain name rows
said_all name (b ∷ boxes) [] = refl
said_all name (b ∷ boxes) (stored ∷ rows) =
    flat_map-cons (row_text name) (with_boxes b (unadopted name stored)) (given with_boxes boxes (map (unadopted name) rows))
    ∙ ap (λ text. text ++ flat_map (row_text name) (given with_boxes boxes (map (unadopted name) rows))) (said_of name b stored)
    ∙ ap (λ rest. adoption_text name stored ++ rest) (said_all name boxes rows) ∙ sym (flat_map-cons (adoption_text name) stored rows)

pub opening_is : {S : Type 0} (kept : Keeping S) (recovering : Recovering S) (place : ℕ) (acting : Acting) (name : List ℕ) (rising : IsRising kept recovering place acting) → name ≡ acting.name → start_text name rising.recovery.epoch ++ flat_map (row_text name) rising.recovery.rows ≡ opening_text acting
opening_is kept recovering place acting name rising named =
    ap (λ n. start_text n rising.recovery.epoch ++ flat_map (row_text n) rising.recovery.rows) named
    ∙ ap (λ e. start_text acting.name e ++ flat_map (row_text acting.name) rising.recovery.rows) rising.epoch
    ∙ ap (λ rows. start_text acting.name acting.world.state.head.epoch ++ flat_map (row_text acting.name) rows) rising.rows
    ∙ ap (λ text. start_text acting.name acting.world.state.head.epoch ++ text) (said_all acting.name rising.boxes acting.world.rows)

pub opening_said : {S : Type 0} (kept : Keeping S) (recovering : Recovering S) (place : ℕ) (acting : Acting) (name : List ℕ) (epoch : ℕ) (rows : List Unfinished) (printed between printed' : List ℕ) → IsRising kept recovering place acting → name ≡ acting.name →
    Some epoch ≡ option_map (λ (r : Recovery). r.epoch) (slice_get recovering.realms place) → rows ≡ option_map_or (λ (r : Recovery). r.rows) (slice_get recovering.realms place) [] →
    between ≡ printed ++ start_text name epoch → printed' ≡ between ++ flat_map (row_text name) rows → printed' ≡ printed ++ opening_text acting
opening_said kept recovering place acting name epoch rows printed between printed' rising named epoch_is rows_are first second =
    let own_epoch : epoch ≡ rising.recovery.epoch = same_Some epoch rising.recovery.epoch (epoch_is ∙ ap (option_map (λ (r : Recovery). r.epoch)) rising.there) in
    let own_rows : rows ≡ rising.recovery.rows = rows_are ∙ ap (λ (found : Option Recovery). option_map_or (λ (r : Recovery). r.rows) found []) rising.there in
    second ∙ ap (λ t. t ++ flat_map (row_text name) rows) first ∙ append_assoc printed (start_text name epoch) (flat_map (row_text name) rows)
    ∙ ap (λ e. printed ++ (start_text name e ++ flat_map (row_text name) rows)) own_epoch ∙ ap (λ l. printed ++ (start_text name rising.recovery.epoch ++ flat_map (row_text name) l)) own_rows
    ∙ ap (λ t. printed ++ t) (opening_is kept recovering place acting name rising named)

-- One after another

drop_at : {X : Type 0} (xs : List X) (place : ℕ) (x : X) → slice_get xs place ≡ Some x → drop place xs ≡ x ∷ drop (place + 1) xs
drop_at [] place x here = absurd (none-some x here)
drop_at (y ∷ xs) zero x here = ap (λ z. z ∷ xs) (same_Some y x here)
drop_at (y ∷ xs) (suc place) x here = let more : suc place + 1 ≡ suc (place + 1) = omega arith in drop_at xs place x here ∙ ap (λ n. x ∷ drop n (y ∷ xs)) (sym more)

-- what was printed, with the text of one more
pub said_more : {X : Type 0} (f : X → List ℕ) (xs : List X) (place : ℕ) (x : X) (before after all : List ℕ) → slice_get xs place ≡ Some x → after ≡ before ++ f x → before ++ flat_map f (drop place xs) ≡ all → after ++ flat_map f (drop (place + 1) xs) ≡ all
said_more f xs place x before after all here text so_far =
    ap (λ t. t ++ flat_map f (drop (place + 1) xs)) text ∙ append_assoc before (f x) (flat_map f (drop (place + 1) xs))
    ∙ ap (λ t. before ++ t) (sym (ap (flat_map f) (drop_at xs place x here) ∙ flat_map-cons f x (drop (place + 1) xs))) ∙ so_far

pub all_said : {X : Type 0} (f : X → List ℕ) (xs : List X) (place : ℕ) (before all : List ℕ) → length xs ≤ place → before ++ flat_map f (drop place xs) ≡ all → before ≡ all
all_said f xs place before all past so_far = sym (append-nil before) ∙ ap (λ l. before ++ flat_map f l) (sym (drop_of_length-le xs past)) ∙ so_far

-- Each realm at its place

pub new_count : (actors : List Actor) (scene : Scene) → AreNew actors scene → length actors ≡ length scene
new_count [] [] are = refl
new_count [] (y ∷ scene) are = absurd are
new_count (x ∷ actors) [] are = absurd are
new_count (x ∷ actors) (y ∷ scene) are = ap suc (new_count actors scene are.1)

pub new_at : (actors : List Actor) (scene : Scene) (place : ℕ) (actor : Actor) (acting : Acting) → AreNew actors scene → slice_get actors place ≡ Some actor → slice_get scene place ≡ Some acting → IsNew actor acting
new_at [] scene place actor acting are a s = absurd (none-some actor a)
new_at (x ∷ actors) [] place actor acting are a s = absurd are
new_at (x ∷ actors) (y ∷ scene) zero actor acting are a s = subst (λ z. IsNew actor z) (same_Some y acting s) (subst (λ z. IsNew z y) (same_Some x actor a) are.0)
new_at (x ∷ actors) (y ∷ scene) (suc place) actor acting are a s = new_at actors scene place actor acting are.1 a s

pub new_push : (actors : List Actor) (scene : Scene) (actor : Actor) (acting : Acting) → AreNew actors scene → IsNew actor acting → AreNew (actors ++ actor ∷ []) (scene ++ acting ∷ [])
new_push [] [] actor acting are new = (new, tt)
new_push [] (y ∷ scene) actor acting are new = absurd are
new_push (x ∷ actors) [] actor acting are new = absurd are
new_push (x ∷ actors) (y ∷ scene) actor acting are new = (are.0, new_push actors scene actor acting are.1 new)

pub anew_push : (news olds : List Actor) (new old : Actor) → AreAnew news olds → IsAnew new old → AreAnew (news ++ new ∷ []) (olds ++ old ∷ [])
anew_push [] [] new old are is = (is, tt)
anew_push [] (y ∷ olds) new old are is = absurd are
anew_push (x ∷ news) [] new old are is = absurd are
anew_push (x ∷ news) (y ∷ olds) new old are is = (are.0, anew_push news olds new old are.1 is)

-- At work

no_readings : (readers : List Reader) (acting : Acting) → readers ≡ [] → acting.readings ≡ [] → AreReadings readers acting.readings
no_readings readers acting none nothing = rw (none, nothing) tt

-- what begins: the store is as it was, and each realm is as recovery makes it
pub record HasBegun {S : Type 0} (recovering : Recovering S) (stored_core : StoredCore S) : Type 0 where
  pub store : stored_core.store ≡ recovering.store
  pub realms : (place : ℕ) → realm stored_core.core place ≡ recovered (slice_get recovering.realms place) (realm recovering.core place)
  pub names : HaveNames stored_core.core

recovered_none : (found : Option Recovery) → recovered found None ≡ None
recovered_none None = refl
recovered_none (Some recovery) = refl

module _ {S : Type 0} (kept : Keeping S) (recovering : Recovering S) (stored_core : StoredCore S) (begun : HasBegun recovering stored_core) where
  acts_at : (place : ℕ) (actor : Actor) (acting : Acting) → IsNew actor acting → IsRising kept recovering place acting → IsActing kept stored_core place actor acting
  acts_at place actor acting new rising = record {
    served = record {
      state_is = begun.realms place ∙ ap (λ found. recovered found (realm recovering.core place)) rising.there ∙ ap (recovered (Some rising.recovery)) rising.core ∙ ap Some (sym rising.state);
      names = begun.names;
      due_is = ap (λ s. kept.is_due s acting.world.state.head.name) begun.store ∙ rising.due;
    };
    stored = subst (λ s. IsStored kept s acting.world.state.head.name acting.world.state.head.epoch acting.world.rows) (sym begun.store) rising.stored;
    named = rising.named;
    own = record {
      name = new.name;
      errands = new.errands ∙ sym new.none_out;
      due = new.due;
      readings = no_readings actor.readers.items acting new.readers new.readings;
    };
  }

  pub begins : (actors : List Actor) (scene : Scene) → AreNew actors scene → AreRising kept recovering scene → IsScene kept stored_core actors scene
  begins actors scene are rising = record {
    count = new_count actors scene are;
    each = λ place actor acting a s. acts_at place actor acting (new_at actors scene place actor acting are a s) (rising.each place acting s);
    beyond = λ place none. begun.realms place ∙ ap (recovered (slice_get recovering.realms place)) (rising.beyond place none) ∙ recovered_none (slice_get recovering.realms place);
  }
