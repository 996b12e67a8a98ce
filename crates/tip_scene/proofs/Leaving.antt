-- What is stored of realms that do nothing.
use Rattle.std.proofs.Common.{◌≡◌, ◌+◌, ◌≤◌, ℕ, zero, suc, Bool, true, false, cond, List, [], ◌∷◌, length, map, Option, Some, None, arith, inl, inr, refl, sym, ap, ◌∙◌, subst}
use Rattle.std.specs.Prelude.{◌||◌, ℤ, pos, is_some, nat_lt, option_map, slice_get, slice_set, unwrap_or}
use Rattle.std.specs.Str.{bytes_eq}
use Rattle.std.proofs.lemmas.Bool.Decides.{nat_tests}
use Rattle.std.proofs.lemmas.Option.{none-some, same_Some}
use Rattle.tip_rows.specs.Keys.{Key}
use Rattle.tip_rows.specs.Logs.{IsAtEnd, IsPart, IsSpoiled, Keeping, Log, known, last_epoch, raised, raised_number, with_known}
use Rattle.tip_rows.specs.declared.row.Row.{Row}
use Rattle.tip_stored.specs.Loading.{Loads, known_all, names_of, opened}
use Rattle.tip_stored.proofs.Parts.{number_of}
use Rattle.tip_stored.specs.Recovering.{Recovering}
use Rattle.tip_stored.specs.declared.realm_spec.RealmSpec.{RealmSpec}
use Rattle.std.specs.Prelude.{Err, Ok, OnOk, Result}
use Rattle.tip_actor.specs.Acting.{Acting, Done, count_of, takes}
use Rattle.tip_actor.specs.Standing.{Actor, Acts, IsActing, IsStored, Leaves, StoredCore, Tells}
use Rattle.tip_actor.proofs.Lists.{partner}
use Rattle.tip_script.specs.Scripts.{Move}
use Rattle.tip_scene.specs.Leaving.{AreStored, IsLeft, LeavesAtFault, LeavesOthers, LeavesRest, OthersStay, is_among, is_starting, names_in, scene_at}
use Rattle.tip_scene.specs.Acts.{Basis, Declaring, Playing, Stage, scene_of}
use Rattle.tip_scene.proofs.Again.{after}
use Rattle.tip_scene.proofs.Scening.{settled}
use Rattle.tip_scene.specs.Blaming.{judged, scene_in, starting_from}
use Rattle.tip_scene.specs.declared.fault.LineFault.{LineFault}
use Rattle.tip_scene.specs.declared.fault.LineFault.TheVariants as line
use Rattle.tip_scene.specs.Scenes.{Scene}
use Rattle.tip_scene.specs.Stages.{APlaying, AStage, Declared, IsDeclared, IsStage, store_of}
use Rattle.tip_scene.specs.declared.declared.Declaration.{Declaration}
use Rattle.tip_scene.specs.declared.stage.Stage.TheVariants as stage
use Rattle.tip_scene.specs.Standing.{IsScene}

-- One that is known, in the log in which realms start

-- its number stays where others become known
known_stays : (names : List (List ℕ)) (log : Log) (other : List ℕ) (z : ℤ) → log.epochs other ≡ Some z → (known_all names log).epochs other ≡ Some z
known_stays [] log other z is = is
known_stays (name ∷ names) log other z is = known_stays names (with_known name log) other z (by (bytes_eq name other)) where
  by : (b : Bool) → cond b (known (log.epochs other)) (log.epochs other) ≡ Some z
  by true = ap known is
  by false = is

rows_known : (names : List (List ℕ)) (log : Log) → (known_all names log).rows ≡ log.rows
rows_known [] log = refl
rows_known (name ∷ names) log = rows_known names (with_known name log)

unreadable_known : (names : List (List ℕ)) (log : Log) → (known_all names log).unreadable ≡ log.unreadable
unreadable_known [] log = refl
unreadable_known (name ∷ names) log = unreadable_known names (with_known name log)

strays_known : (names : List (List ℕ)) (log : Log) → (known_all names log).strays ≡ log.strays
strays_known [] log = refl
strays_known (name ∷ names) log = strays_known names (with_known name log)

number_is : (found : Option ℤ) (epoch : ℕ) → is_some found ≡ true → unwrap_or found (pos 0) ≡ pos epoch → found ≡ Some (pos epoch)
number_is None epoch some is = absurd cc
number_is (Some z) epoch some is = ap Some is

module _ (names : List (List ℕ)) (log : Log) (other : List ℕ) (epoch : ℕ) (rows : List (Key × Row)) (part : IsPart log other epoch rows) (here : is_some (log.epochs other) ≡ true) where
  was : log.epochs other ≡ Some (pos epoch)
  was = number_is (log.epochs other) epoch here part.epoch

  -- where others became known
  still : (known_all names log).epochs other ≡ Some (pos epoch)
  still = known_stays names log other (pos epoch) was

  sound_still : ¬ IsSpoiled (known_all names log) other
  sound_still (inl bad) = part.sound (inl (bad.0, was ∙ sym still ∙ bad.1, bad.2))
  sound_still (inr (inl stray)) = part.sound (inr (inl (ap (λ (f : List ℕ → Bool). f other) (sym (strays_known names log)) ∙ stray)))
  sound_still (inr (inr unread)) = part.sound (inr (inr (unread.0, ap (λ (f : List ℕ → Key → Bool). f other unread.0) (sym (unreadable_known names log)) ∙ unread.1)))

  pub other_known : IsPart (known_all names log) other epoch rows
  other_known = record {
    epoch = ap (λ found. unwrap_or found (pos 0)) still;
    rising = part.rising;
    same = λ key. part.same key ∙ ap (λ (f : List ℕ → Key → Option Row). f other key) (sym (rows_known names log));
    sound = sound_still;
  }

  pub still_known : is_some ((known_all names log).epochs other) ≡ true
  still_known = ap is_some still

  within : epoch ≤ last_epoch
  within = by (nat_lt last_epoch epoch) refl where
    by : (past : Bool) → nat_lt last_epoch epoch ≡ past → epoch ≤ last_epoch
    by true e = absurd (part.sound (inl (pos epoch, was, λ n few same. (let one : epoch ≡ n = number_of same in absurd (grind (arith, nat_tests, e, few, one))))))
    by false e = grind (arith, nat_tests, e)

  now : (opened names log).epochs other ≡ Some (pos (raised_number epoch))
  now = ap (option_map raised) still

  in_range : raised_number epoch ≤ last_epoch
  in_range = by (nat_lt epoch last_epoch) refl where
    by : (is : Bool) → nat_lt epoch last_epoch ≡ is → cond is (epoch + 1) epoch ≤ last_epoch
    by true e = grind (arith, nat_tests, e)
    by false e = within

  still_sound : ¬ IsSpoiled (opened names log) other
  still_sound (inl bad) = let number : bad.0 ≡ pos (raised_number epoch) = same_Some bad.0 (pos (raised_number epoch)) (sym bad.1 ∙ now) in absurd (bad.2 (raised_number epoch) in_range number)
  still_sound (inr (inl stray)) = part.sound (inr (inl (ap (λ (f : List ℕ → Bool). f other) (sym (strays_known names log)) ∙ stray)))
  still_sound (inr (inr unread)) = part.sound (inr (inr (unread.0, ap (λ (f : List ℕ → Key → Bool). f other unread.0) (sym (unreadable_known names log)) ∙ unread.1)))

  pub other_opened : IsPart (opened names log) other (raised_number epoch) rows
  other_opened = record {
    epoch = ap (λ found. unwrap_or found (pos 0)) now;
    rising = part.rising;
    same = λ key. part.same key ∙ ap (λ (f : List ℕ → Key → Option Row). f other key) (sym (rows_known names log));
    sound = still_sound;
  }

  pub opened_known : is_some ((opened names log).epochs other) ≡ true
  opened_known = ap is_some now

  -- none is at its end where realms have started
  pub rises_by_one : ¬ IsAtEnd (known_all names log) other → raised_number epoch ≡ epoch + 1
  rises_by_one below = by (nat_lt epoch last_epoch) refl where
    by : (is : Bool) → nat_lt epoch last_epoch ≡ is → cond is (epoch + 1) epoch ≡ epoch + 1
    by true e = refl
    by false e = let last : epoch ≡ last_epoch = grind (arith, nat_tests, e, within) in absurd (below (still ∙ ap (λ n. Some (pos n)) last))

-- Other realms

module _ {S : Type 0} (kept : Keeping S) where
  -- where realms start, every other known epoch rises too
  pub start_leaves : (specs : List RealmSpec) (store : S) (recovering : Recovering S) (names : List (List ℕ)) → Loads kept specs store (Ok recovering) → kept.is_true recovering.store → OthersStay kept 1 names store recovering.store
  start_leaves specs store recovering names loads truth name epoch rows apart stored =
      let way = loads.ok.rows stored.log stored.stood in
      let below = loads.risen stored.log stored.stood truth name in
      record {
        log = way.0;
        stood = way.2;
        part = subst (λ e. IsPart way.0 name e rows) (rises_by_one (names_of specs) stored.log name epoch rows stored.part stored.known below) (subst (λ l. IsPart l name (raised_number epoch) rows) (sym way.1) (other_opened (names_of specs) stored.log name epoch rows stored.part stored.known));
        known = ap (λ (l : Log). is_some (l.epochs name)) way.1 ∙ opened_known (names_of specs) stored.log name epoch rows stored.part stored.known;
      }

  pub same_stored : (store : S) (name : List ℕ) (rows : List (Key × Row)) (a b : ℕ) → a ≡ b → IsStored kept store name a rows → IsStored kept store name b rows
  same_stored store name rows a b same stored = subst (λ e. IsStored kept store name e rows) same stored

  -- nothing was done
  pub none_done : (names : List (List ℕ)) (store : S) → OthersStay kept 0 names store store
  none_done names store name epoch rows apart stored = same_stored store name rows epoch (epoch + 0) (omega arith) stored

  -- what was read stays
  pub still_others : (names : List (List ℕ)) (old new : S) → ((log : Log) → kept.stands old log → kept.stands new log) → OthersStay kept 0 names old new
  still_others names old new stood name epoch rows apart stored = same_stored new name rows epoch (epoch + 0) (omega arith) (record { log = stored.log; stood = stood stored.log stored.stood; part = stored.part; known = stored.known })

  -- one after another
  pub others_on : (starts more : ℕ) (names later : List (List ℕ)) (old mid new : S) → ((name : List ℕ) → is_among later name ≡ false → is_among names name ≡ false) → OthersStay kept starts names old mid → OthersStay kept more later mid new → OthersStay kept (starts + more) later old new
  others_on starts more names later old mid new grows first second name epoch rows apart stored =
      same_stored new name rows (epoch + starts + more) (epoch + (starts + more)) (omega arith) (second name (epoch + starts) rows apart (first name epoch rows (grows name apart) stored))

  either : (a b : Bool) → (a || b) ≡ false → (a ≡ false) × (b ≡ false)
  either true b e = absurd cc
  either false b e = (refl, e)

  pub apart_at : (actors : List Actor) (place : ℕ) (actor : Actor) (name : List ℕ) → slice_get actors place ≡ Some actor → is_among (map (λ (a : Actor). a.name) actors) name ≡ false → bytes_eq actor.name name ≡ false
  apart_at [] place actor name here apart = absurd (none-some actor here)
  apart_at (a ∷ actors) zero actor name here apart = subst (λ (x : Actor). bytes_eq x.name name ≡ false) (same_Some a actor here) (either (bytes_eq a.name name) (is_among (map (λ (x : Actor). x.name) actors) name) apart).0
  apart_at (a ∷ actors) (suc place) actor name here apart = apart_at actors place actor name here (either (bytes_eq a.name name) (is_among (map (λ (x : Actor). x.name) actors) name) apart).1

  -- one of them has done something
  pub one_leaves : (old new : StoredCore S) (actors : List Actor) (place : ℕ) (actor : Actor) → slice_get actors place ≡ Some actor → Leaves kept old new place actor.name → OthersStay kept 0 (map (λ (a : Actor). a.name) actors) old.store new.store
  one_leaves old new actors place actor here leaves name epoch rows apart stored = same_stored new.store name rows epoch (epoch + 0) (omega arith) (leaves.stored name epoch rows (apart_at actors place actor name here apart) stored)

  pub same_names : (actors : List Actor) (place : ℕ) (actor actor' : Actor) → slice_get actors place ≡ Some actor → actor'.name ≡ actor.name → map (λ (a : Actor). a.name) (slice_set actors place actor') ≡ map (λ (a : Actor). a.name) actors
  same_names [] place actor actor' here named = refl
  same_names (a ∷ actors) zero actor actor' here named = ap (λ n. n ∷ map (λ (x : Actor). x.name) actors) (named ∙ ap (λ (x : Actor). x.name) (sym (same_Some a actor here)))
  same_names (a ∷ actors) (suc place) actor actor' here named = ap (λ l. a.name ∷ l) (same_names actors place actor actor' here named)

  -- The realms at work

  pub scene_stored : (stored_core : StoredCore S) (actors : List Actor) (scene : Scene) → IsScene kept stored_core actors scene → AreStored kept stored_core.store scene
  scene_stored stored_core actors scene is place acting here =
      let mate = partner scene actors place acting (sym is.count) here in
      let acts = is.each place mate.0 acting mate.1 here in
      subst (λ n. IsStored kept stored_core.store n acting.world.state.head.epoch acting.world.rows) acts.named acts.stored

  pub scene_names : (stored_core : StoredCore S) (actors : List Actor) (scene : Scene) → IsScene kept stored_core actors scene → map (λ (a : Actor). a.name) actors ≡ map (λ (a : Acting). a.name) scene
  scene_names stored_core actors scene is = by actors scene is.count (λ place actor acting a s. (is.each place actor acting a s).own.name) where
    by : (actors : List Actor) (scene : Scene) → length actors ≡ length scene → ((place : ℕ) (actor : Actor) (acting : Acting) → slice_get actors place ≡ Some actor → slice_get scene place ≡ Some acting → actor.name ≡ acting.name) → map (λ (a : Actor). a.name) actors ≡ map (λ (a : Acting). a.name) scene
    by [] [] count named = refl
    by [] (s ∷ scene) count named = absurd (omega (arith, count))
    by (a ∷ actors) [] count named = absurd (omega (arith, count))
    by (a ∷ actors) (s ∷ scene) count named = ap (λ n. n ∷ map (λ (x : Actor). x.name) actors) (named 0 a s refl refl) ∙ ap (λ l. s.name ∷ l) (by actors scene (omega (arith, count)) (λ place. named (suc place)))

  pub left_by : (stored_core : StoredCore S) (actors : List Actor) (scene : Scene) (starts : ℕ) (old : S) → IsScene kept stored_core actors scene → OthersStay kept starts (map (λ (a : Acting). a.name) scene) old stored_core.store → IsLeft kept scene old stored_core.store
  left_by stored_core actors scene starts old is others = record { stored = scene_stored stored_core actors scene is; starts = starts; others = others }

  -- where a script ends
  pub left_first : (basis : Basis) (realms : Declared S) (now : Stage) (playing : APlaying S) (new : S) → new ≡ playing.stored_core.store → IsStage kept basis (stage.Declaring realms) now → ((declarations : List Declaration) → IsDeclared kept basis realms declarations → IsScene kept playing.stored_core playing.actors.items (scene_of basis declarations)) →
      ((names : List (List ℕ)) → OthersStay kept 1 names realms.store playing.stored_core.store) → IsLeft kept (starting_from basis now) realms.store new
  left_first basis realms (Declaring declarations) playing new same is scene others = subst (IsLeft kept (scene_of basis declarations) realms.store) (sym same) (left_by playing.stored_core playing.actors.items (scene_of basis declarations) 1 realms.store (scene declarations is) (others (map (λ (a : Acting). a.name) (scene_of basis declarations))))
  left_first basis realms (Playing scene) playing new same is stands others = absurd is

  pub left_then : (basis : Basis) (playing : APlaying S) (now : Stage) (new : S) → new ≡ playing.stored_core.store → IsStage kept basis (stage.Playing playing) now → IsLeft kept (starting_from basis now) playing.stored_core.store new
  left_then basis playing (Declaring declarations) new same is = absurd is
  left_then basis playing (Playing scene) new same is = subst (IsLeft kept scene playing.stored_core.store) (sym same) (left_by playing.stored_core playing.actors.items scene 0 playing.stored_core.store is (none_done (map (λ (a : Acting). a.name) scene) playing.stored_core.store))

  -- Realms at work, from one line to the next

  pub rest_stays : (playing : APlaying S) → LeavesRest kept playing playing
  rest_stays playing = record { same = refl; starts = 0; others = none_done (map (λ (a : Actor). a.name) playing.actors.items) playing.stored_core.store }

  pub always_ok : {T E P : Type 0} (result : Result T E) → P → OnOk result P
  always_ok (Ok x) p = p
  always_ok (Err why) p = tt

  -- one has done something, and then taken its lines
  pub rest_done : (playing playing' : APlaying S) (mid : StoredCore S) (scene : Scene) (place : ℕ) (actor between actor' : Actor) (printed said printed' : List ℕ) (f : Acting → Option Done) → IsScene kept playing.stored_core playing.actors.items scene → slice_get playing.actors.items place ≡ Some actor → playing'.actors.items ≡ slice_set playing.actors.items place actor' →
      ((acting : Acting) → IsActing kept playing.stored_core place actor acting → Tells kept playing.stored_core mid place actor between printed said true (f acting)) → Acts kept mid playing'.stored_core place between actor' said printed' (λ acting. takes (count_of acting.readings) acting) → LeavesRest kept playing playing'
  rest_done playing playing' mid scene place actor between actor' printed said printed' f is here items told settles_so =
      let mate = partner playing.actors.items scene place actor is.count here in
      by (f mate.0) (told mate.0 (is.each place actor mate.0 here mate.1)) where
        by : (did : Option Done) → Tells kept playing.stored_core mid place actor between printed said true did → LeavesRest kept playing playing'
        by None done = absurd done
        by (Some did) done =
            let all = settled kept playing.stored_core mid playing'.stored_core place actor between actor' printed said printed' did done (settles_so did.acting done.own) in record {
              same = ap (map (λ (a : Actor). a.name)) items ∙ same_names playing.actors.items place actor actor' here all.name;
              starts = 0;
              others = one_leaves playing.stored_core playing'.stored_core playing.actors.items place actor here all.leaves;
            }

  pub judged_on : (P : Type 0) (may same : Bool) (end : Result (Unit {0}) LineFault) → OnOk end P → OnOk (judged may same end) P
  judged_on P true same end on = on
  judged_on P false true (Ok done) on = on
  judged_on P false true (Err line.NotUnderstood) on = tt
  judged_on P false true (Err line.Memory) on = tt
  judged_on P false true (Err line.Store) on = tt
  judged_on P false false (Ok done) on = tt
  judged_on P false false (Err why) on = tt

  -- all have started again
  names_after : (scene : Scene) → map (λ (a : Acting). a.name) (map after scene) ≡ map (λ (a : Acting). a.name) scene
  names_after [] = refl
  names_after (acting ∷ scene) = ap (λ l. acting.name ∷ l) (names_after scene)

  pub rest_again : (playing again : APlaying S) (scene : Scene) → IsScene kept playing.stored_core playing.actors.items scene → IsScene kept again.stored_core again.actors.items (map after scene) → ((names : List (List ℕ)) → OthersStay kept 1 names playing.stored_core.store again.stored_core.store) → LeavesRest kept playing again
  rest_again playing again scene is now others = record {
    same = scene_names again.stored_core again.actors.items (map after scene) now ∙ names_after scene ∙ sym (scene_names playing.stored_core playing.actors.items scene is);
    starts = 1;
    others = others (map (λ (a : Actor). a.name) playing.actors.items);
  }

  -- A stage, from one line to the next

  pub stage_stays : (now : AStage S) → LeavesOthers kept now now
  stage_stays now = record { grows = λ name apart. apart; starts = 0; others = none_done (names_in now) (store_of now) }

  pub of_rest : (playing playing' : APlaying S) → LeavesRest kept playing playing' → LeavesOthers kept (stage.Playing playing) (stage.Playing playing')
  of_rest playing playing' rest = record {
    grows = λ name apart. ap (λ names. is_among names name) (sym rest.same) ∙ apart;
    starts = rest.starts;
    others = subst (λ names. OthersStay kept rest.starts names playing.stored_core.store playing'.stored_core.store) (sym rest.same) rest.others;
  }

  pub declared_stays : (realms realms' : Declared S) → realms'.store ≡ realms.store → LeavesOthers kept (stage.Declaring realms) (stage.Declaring realms')
  declared_stays realms realms' same = record { grows = λ name apart. apart; starts = 0; others = subst (OthersStay kept 0 [] realms.store) (sym same) (none_done [] realms.store) }

  pub first_rest : (realms : Declared S) (playing playing' : APlaying S) → ((names : List (List ℕ)) → OthersStay kept 1 names realms.store playing.stored_core.store) → LeavesRest kept playing playing' → LeavesOthers kept (stage.Declaring realms) (stage.Playing playing')
  first_rest realms playing playing' first rest =
      let names = map (λ (a : Actor). a.name) playing'.actors.items in record {
        grows = λ name apart. refl;
        starts = 1 + rest.starts;
        others = others_on 1 rest.starts names names realms.store playing.stored_core.store playing'.stored_core.store (λ name apart. apart) (first names) (subst (λ l. OthersStay kept rest.starts l playing.stored_core.store playing'.stored_core.store) (sym rest.same) rest.others);
      }

  -- Where a line may not stand

  -- none has started by it
  pub stays_left : (basis : Basis) (code : AStage S) (now : Stage) (new : S) → new ≡ store_of code → IsStage kept basis code now → IsLeft kept (scene_in now) (store_of code) new
  stays_left basis (stage.Declaring realms) (Declaring declarations) new same is = subst (IsLeft kept [] realms.store) (sym same) (record { stored = λ place acting here. absurd (none-some acting here); starts = 0; others = none_done [] realms.store })
  stays_left basis (stage.Declaring realms) (Playing scene) new same is = absurd is
  stays_left basis (stage.Playing playing) (Declaring declarations) new same is = absurd is
  stays_left basis (stage.Playing playing) (Playing scene) new same is = left_then basis playing (Playing scene) new same is

  same_scene : (b : Bool) (scene : Scene) → cond b scene scene ≡ scene
  same_scene true scene = refl
  same_scene false scene = refl

  pub fault_stays : (basis : Basis) (code : AStage S) (at : Stage) (why : LineFault) (store : S) → store ≡ store_of code → IsStage kept basis code at → LeavesAtFault kept (scene_in at) (store_of code) (Err (why, store))
  fault_stays basis code at line.NotUnderstood store same is = λ truth. stays_left basis code at store same is
  fault_stays basis code at line.Memory store same is = tt
  fault_stays basis code at line.Store store same is = tt

  -- the realms were at work
  pub fault_at_work : (basis : Basis) (playing : APlaying S) (now : Stage) (move : Move) (why : LineFault × S) → IsStage kept basis (stage.Playing playing) now → (why.0 ≡ line.NotUnderstood → why.1 ≡ playing.stored_core.store) → LeavesAtFault kept (scene_at basis now move) playing.stored_core.store (Err why)
  fault_at_work basis playing (Declaring declarations) move why is stays = absurd is
  fault_at_work basis playing (Playing scene) move (line.NotUnderstood, store) is stays = λ truth. subst (λ s. IsLeft kept s playing.stored_core.store store) (sym (same_scene (is_starting move) scene)) (left_then basis playing (Playing scene) store (stays refl) is)
  fault_at_work basis playing (Playing scene) move (line.Memory, store) is stays = tt
  fault_at_work basis playing (Playing scene) move (line.Store, store) is stays = tt

  -- or have started by it
  pub fault_first : (basis : Basis) (declarations : List Declaration) (realms : Declared S) (playing : APlaying S) (move : Move) (why : LineFault × S) → scene_at basis (Declaring declarations) move ≡ scene_of basis declarations → (kept.is_true why.1 → kept.is_true playing.stored_core.store) → (kept.is_true playing.stored_core.store → IsScene kept playing.stored_core playing.actors.items (scene_of basis declarations)) →
      (kept.is_true playing.stored_core.store → (names : List (List ℕ)) → OthersStay kept 1 names realms.store playing.stored_core.store) → (why.0 ≡ line.NotUnderstood → why.1 ≡ playing.stored_core.store) → LeavesAtFault kept (scene_at basis (Declaring declarations) move) realms.store (Err why)
  fault_first basis declarations realms playing move (line.NotUnderstood, store) at trusts is others stays = λ truth.
      let before = trusts truth in
      let scene = scene_of basis declarations in
      subst (λ s. IsLeft kept s realms.store store) (sym at) (subst (IsLeft kept scene realms.store) (sym (stays refl)) (left_by playing.stored_core playing.actors.items scene 1 realms.store (is before) (others before (map (λ (a : Acting). a.name) scene))))
  fault_first basis declarations realms playing move (line.Memory, store) at trusts is others stays = tt
  fault_first basis declarations realms playing move (line.Store, store) at trusts is others stays = tt
