-- What is left of a store where a line ends before all of it is done.
use Rattle.std.proofs.Common.{◌≡◌, ◌∙◌, ◌+◌, ℕ, zero, suc, Bool, true, false, List, [], ◌∷◌, map, Option, Some, None, Result, Ok, Err, arith, inl, inr, refl, sym, ap, subst}
use Rattle.std.specs.Prelude.{◌==◌, IfErr, if◌then◌else◌, is_some, slice_get, slice_set, take}
use Rattle.std.specs.Cmp.{unsigned_Decides}
use Rattle.std.specs.List.{position_or_len}
use Rattle.std.specs.Str.{bytes_eq}
use Rattle.std.proofs.lemmas.Bool.{false≢true}
use Rattle.std.proofs.lemmas.Option.{none-some, same_Some}
use Rattle.tip_rows.specs.Keys.{Key}
use Rattle.tip_rows.specs.Logs.{IsPart, Keeping, Log, raised_number}
use Rattle.tip_rows.specs.declared.row.Row.{Row}
use Rattle.tip_stored.specs.Loading.{AreOpened, Goes, IsOnTheWay}
use Rattle.tip_actor.specs.Acting.{Acting, Done}
use Rattle.tip_actor.specs.Halting.{AllStay, Halts, IsStoredAs, around, taken}
use Rattle.tip_actor.specs.Standing.{Actor, IsActing, IsStored, StoredCore, Tells}
use Rattle.tip_actor.proofs.Halting.{all_same, stored_as}
use Rattle.tip_actor.proofs.Lists.{get_set_other, get_set_same, partner}
use Rattle.tip_script.specs.Scripts.{Move, realm_of}
use Rattle.tip_scene.specs.Acts.{Basis, Declaring, Playing, Stage, may_say, scene_of}
use Rattle.tip_scene.specs.Leaving.{AreStored, HaltsAt, HaltsAtEnd, HaltsAtWork, HaltsBy, HaltsIn, HaveBecome, MayAllRise, MayRise, OthersStay, behind_at, behind_done, front, front_in, is_among, is_starting}
use Rattle.tip_scene.specs.Scenes.{Scene, does}
use Rattle.tip_scene.specs.Stages.{APlaying, Declared, IsStage}
use Rattle.tip_scene.specs.Standing.{IsScene, has_name}
use Rattle.tip_scene.specs.declared.declared.Declaration.{Declaration}
use Rattle.tip_scene.specs.declared.stage.Stage.TheVariants as stage
use Rattle.tip_scene.proofs.Leaving.{apart_at, opened_known, other_known, other_opened, others_on, same_stored, scene_names, scene_stored, still_known}
use Rattle.tip_scene.proofs.Scening.{named, other_name}

module _ {S : Type 0} (kept : Keeping S) where
  -- A start

  pub same_rise : (store : S) (name : List ℕ) (rows : List (Key × Row)) (a b : ℕ) → a ≡ b → MayRise kept store name a rows → MayRise kept store name b rows
  same_rise store name rows a b same may = subst (λ e. MayRise kept store name e rows) same may

  -- a realm of a store that is led to where realms start
  on_the_way : (names : List (List ℕ)) (old new : S) (name : List ℕ) (epoch : ℕ) (rows : List (Key × Row)) (stored : IsStored kept old name epoch rows) (now : Log) → kept.stands new now → IsOnTheWay names stored.log now → MayRise kept new name epoch rows
  on_the_way names old new name epoch rows stored now stood (inl some) = inl (record {
    log = now;
    stood = stood;
    part = subst (λ l. IsPart l name epoch rows) (sym some.1) (other_known (take some.0 names) stored.log name epoch rows stored.part stored.known);
    known = ap (λ (l : Log). is_some (l.epochs name)) some.1 ∙ still_known (take some.0 names) stored.log name epoch rows stored.part stored.known;
  })
  on_the_way names old new name epoch rows stored now stood (inr all) = inr (record {
    log = now;
    stood = stood;
    part = subst (λ l. IsPart l name (raised_number epoch) rows) (sym all) (other_opened names stored.log name epoch rows stored.part stored.known);
    known = ap (λ (l : Log). is_some (l.epochs name)) all ∙ opened_known names stored.log name epoch rows stored.part stored.known;
  })

  -- each realm may be starting, and none is at work
  all_rise : (old new : S) → ((name : List ℕ) (epoch : ℕ) (rows : List (Key × Row)) → IsStored kept old name epoch rows → MayRise kept new name epoch rows) → MayAllRise kept 0 [] old new
  all_rise old new rise = record {
    stored = λ place acting here. absurd (none-some acting here);
    others = λ name epoch rows apart stored. same_rise new name rows epoch (epoch + 0) (omega arith) (rise name epoch rows stored);
  }

  pub not_started : (old new : S) → new ≡ old → MayAllRise kept 0 [] old new
  not_started old new same = all_rise old new (λ name epoch rows stored. inl (all_same kept old new same name epoch rows stored))

  pub not_loaded : (names : List (List ℕ)) (refused : Bool) (old new : S) → Goes kept refused (IsOnTheWay names) (IsOnTheWay names) old new → MayAllRise kept 0 [] old new
  not_loaded names refused old new goes = all_rise old new (λ name epoch rows stored. (let way = goes.rows stored.log stored.stood in on_the_way names old new name epoch rows stored way.0 way.2 way.1))

  pub not_at_work : (names : List (List ℕ)) (refused : Bool) (old mid new : S) → Goes kept refused (AreOpened names) (IsOnTheWay names) old mid → new ≡ mid → MayAllRise kept 0 [] old new
  not_at_work names refused old mid new goes same = subst (MayAllRise kept 0 [] old) (sym same) (all_rise old mid (λ name epoch rows stored. (let way = goes.rows stored.log stored.stood in on_the_way names old mid name epoch rows stored way.0 way.2 (inr way.1))))

  pub not_risen : {T E : Type 0} (names : List (List ℕ)) (refused : Bool) (old mid : S) (result : Result T (E × S)) → Goes kept refused (AreOpened names) (IsOnTheWay names) old mid → IfErr result (λ fault. fault.1 ≡ mid) → IfErr result (λ fault. MayAllRise kept 0 [] old fault.1)
  not_risen names refused old mid (Ok x) goes same = tt
  not_risen names refused old mid (Err fault) goes same = not_at_work names refused old mid fault.1 goes same

  -- realms at work that were starting again
  pub rising_again : (scene : Scene) (old new : S) → AreStored kept old scene → MayAllRise kept 0 [] old new → MayAllRise kept 0 scene old new
  rising_again scene old new stored rising = record {
    stored = λ place acting here. (let epoch = acting.world.state.head.epoch in same_rise new acting.name acting.world.rows (epoch + 0) epoch (omega arith) (rising.others acting.name epoch acting.world.rows refl (stored place acting here)));
    others = λ name epoch rows apart stored. rising.others name epoch rows refl stored;
  }

  -- One realm

  set_same : {X : Type 0} (xs : List X) (i : ℕ) (x : X) → slice_get xs i ≡ Some x → slice_set xs i x ≡ xs
  set_same [] i x here = absurd (none-some x here)
  set_same (y ∷ xs) zero x here = ap (λ z. z ∷ xs) (sym (same_Some y x here))
  set_same (y ∷ xs) (suc i) x here = ap (λ zs. y ∷ zs) (set_same xs i x here)

  same_names : (scene : Scene) (place : ℕ) (acting now : Acting) → slice_get scene place ≡ Some acting → now.name ≡ acting.name → map (λ (a : Acting). a.name) (slice_set scene place now) ≡ map (λ (a : Acting). a.name) scene
  same_names [] place acting now here same = refl
  same_names (a ∷ scene) zero acting now here same = ap (λ n. n ∷ map (λ (x : Acting). x.name) scene) (same ∙ ap (λ (x : Acting). x.name) (sym (same_Some a acting here)))
  same_names (a ∷ scene) (suc place) acting now here same = ap (λ l. a.name ∷ l) (same_names scene place acting now here same)

  -- it has become another, and the others stay
  module _ (stored_core : StoredCore S) (new : S) (actors : List Actor) (scene : Scene) (place : ℕ) (actor : Actor) (acting now : Acting) (is : IsScene kept stored_core actors scene) (a : slice_get actors place ≡ Some actor) (s : slice_get scene place ≡ Some acting) (own_name : now.name ≡ actor.name) (own : IsStoredAs kept new now)
      (others : (other : List ℕ) (epoch : ℕ) (rows : List (Key × Row)) → bytes_eq actor.name other ≡ false → IsStored kept stored_core.store other epoch rows → IsStored kept new other epoch rows) where
    stored_at : (other : ℕ) (y : Acting) → slice_get (slice_set scene place now) other ≡ Some y → (same : Bool) → (other == place) ≡ same → IsStoredAs kept new y
    stored_at other y here true e =
        let at : other ≡ place = (unsigned_Decides other place).0 e in
        subst (IsStoredAs kept new) (same_Some now y (sym (get_set_same scene place now acting s) ∙ ap (slice_get (slice_set scene place now)) (sym at) ∙ here)) own
    stored_at other y here false e =
        let differ = λ (at : other ≡ place). false≢true (sym e ∙ (unsigned_Decides other place).1 at) in
        let there = sym (get_set_other scene place other now differ) ∙ here in
        let mate = partner scene actors other y (sym is.count) there in
        let acts = is.each other mate.0 y mate.1 there in
        let apart = other_name kept stored_core place other actor mate.0 acting y (is.each place actor acting a s) acts differ in
        others y.name y.world.state.head.epoch y.world.rows (ap (bytes_eq actor.name) (sym acts.named) ∙ apart) (stored_as kept stored_core other mate.0 y acts)

    pub has_become : HaveBecome kept 0 scene (slice_set scene place now) stored_core.store new
    has_become = record {
      same = same_names scene place acting now s (own_name ∙ (is.each place actor acting a s).own.name);
      stored = λ other y here. stored_at other y here (other == place) refl;
      others = λ name epoch rows apart stored. same_stored kept new name rows epoch (epoch + 0) (omega arith) (others name epoch rows (apart_at kept actors place actor name a (ap (λ l. is_among l name) (scene_names kept stored_core actors scene is) ∙ apart)) stored);
    }

  -- A line of a realm

  -- nothing of it was done
  pub none_of_it : (stored_core : StoredCore S) (new : S) (actors : List Actor) (scene : Scene) (move : Move) (name : List ℕ) → IsScene kept stored_core actors scene → AllStay kept stored_core.store new → HaltsIn kept move name scene stored_core.store new
  none_of_it stored_core new actors scene move name is stays = (
    0,
    record {
      same = refl;
      stored = λ place acting here. stays acting.name acting.world.state.head.epoch acting.world.rows (scene_stored kept stored_core actors scene is place acting here);
      others = λ other epoch rows apart stored. same_stored kept new other rows epoch (epoch + 0) (omega arith) (stays other epoch rows stored);
    },
  )

  module _ (stored_core : StoredCore S) (new : S) (actors : List Actor) (scene : Scene) (move : Move) (name : List ℕ) (place : ℕ) (actor : Actor) (acting : Acting) (is : IsScene kept stored_core actors scene) (here : place ≡ position_or_len (has_name name) actors) (a : slice_get actors place ≡ Some actor) (s : slice_get scene place ≡ Some acting) where
    behind_here : (count : ℕ) → front_in (suc count) move (Some name) scene ≡ slice_set scene place (behind_done count (does move acting) acting)
    behind_here count =
        let there = here ∙ named kept stored_core actors scene name is in
        ap (λ p. behind_at count move p (slice_get scene p) scene) (sym there) ∙ ap (λ o. behind_at count move place o scene) s

    -- what it says was done, and so many lines were taken
    behind : (count : ℕ) (did : Option Done) → did ≡ does move acting → (behind_done count did acting).name ≡ actor.name → IsStoredAs kept new (behind_done count did acting) → ((other : List ℕ) (epoch : ℕ) (rows : List (Key × Row)) → bytes_eq actor.name other ≡ false → IsStored kept stored_core.store other epoch rows → IsStored kept new other epoch rows) → HaltsIn kept move name scene stored_core.store new
    behind count did said own_name own others =
        (suc count, subst (λ now. HaveBecome kept 0 scene now stored_core.store new) (ap (λ d. slice_set scene place (behind_done count d acting)) said ∙ sym (behind_here count)) (has_become stored_core new actors scene place actor acting (behind_done count did acting) is a s own_name own others))

    -- or it was being done
    at : (did : Option Done) → did ≡ does move acting → (point : ℕ) → (around did acting point).name ≡ actor.name → IsStoredAs kept new (around did acting point) → ((other : List ℕ) (epoch : ℕ) (rows : List (Key × Row)) → bytes_eq actor.name other ≡ false → IsStored kept stored_core.store other epoch rows → IsStored kept new other epoch rows) → HaltsIn kept move name scene stored_core.store new
    at did said zero own_name own others = (0, subst (λ now. HaveBecome kept 0 scene now stored_core.store new) (set_same scene place acting s) (has_become stored_core new actors scene place actor acting acting is a s own_name own others))
    at None said (suc more) own_name own others = behind 0 None said own_name own others
    at (Some done) said (suc more) own_name own others = behind 0 (Some done) said own_name own others

    then_taking : (mid : StoredCore S) (between : Actor) (printed between_text : List ℕ) (did : Option Done) → did ≡ does move acting → Tells kept stored_core mid place actor between printed between_text true did → ((now : Acting) → IsActing kept mid place between now → Halts kept mid.store new between.name (taken now)) → HaltsIn kept move name scene stored_core.store new
    then_taking mid between printed between_text None said told halts = absurd told
    then_taking mid between printed between_text (Some done) said told halts =
        let so = halts done.acting told.own in
        behind so.point (Some done) said (so.named ∙ told.name) so.own (λ other epoch rows differ stored. so.others other epoch rows (ap (λ n. bytes_eq n other) told.name ∙ differ) (told.leaves.stored other epoch rows differ stored))

  module _ (stored_core : StoredCore S) (new : S) (actors : List Actor) (scene : Scene) (move : Move) (name : List ℕ) (place : ℕ) (actor : Actor) (is : IsScene kept stored_core actors scene) (here : place ≡ position_or_len (has_name name) actors) (a : slice_get actors place ≡ Some actor) where
    pub halts_doing : ((acting : Acting) → IsActing kept stored_core place actor acting → Halts kept stored_core.store new actor.name (around (does move acting) acting)) → HaltsIn kept move name scene stored_core.store new
    halts_doing halts =
        let mate = partner actors scene place actor is.count a in
        let so = halts mate.0 (is.each place actor mate.0 a mate.1) in
        at stored_core new actors scene move name place actor mate.0 is here a mate.1 (does move mate.0) refl so.point so.named so.own so.others

    pub halts_taking : (mid : StoredCore S) (between : Actor) (printed between_text : List ℕ) → ((acting : Acting) → IsActing kept stored_core place actor acting → Tells kept stored_core mid place actor between printed between_text true (does move acting)) → ((now : Acting) → IsActing kept mid place between now → Halts kept mid.store new between.name (taken now)) → HaltsIn kept move name scene stored_core.store new
    halts_taking mid between printed between_text told halts =
        let mate = partner actors scene place actor is.count a in
        then_taking stored_core new actors scene move name place actor mate.0 is here a mate.1 mid between printed between_text (does move mate.0) refl (told mate.0 (is.each place actor mate.0 a mate.1)) halts

  -- Words of a line

  -- what was said by a word, if it is one
  pub halts_worded : {X : Type 0} (old new : S) (name : List ℕ) (acting : Acting) (is_word : Bool) (said found : X) (f : X → Option Done) → Some found ≡ (if is_word then Some said else None) → Halts kept old new name (around (f found) acting) → Halts kept old new name (around (if is_word then f said else None) acting)
  halts_worded old new name acting true said found f is halts = subst (λ x. Halts kept old new name (around (f x) acting)) (same_Some found said is) halts
  halts_worded old new name acting false said found f is halts = absurd (none-some found (sym is))

  -- A stage

  -- all were starting again
  pub halts_restarting : {T E : Type 0} (scene : Scene) (move : Move) (old : S) (result : Result T (E × S)) → realm_of move ≡ None → AreStored kept old scene → IfErr result (λ fault. MayAllRise kept 0 [] old fault.1) → IfErr result (λ fault. kept.is_true fault.1 → HaltsAtWork kept scene move old fault.1)
  halts_restarting scene move old (Ok x) none stored rising = tt
  halts_restarting scene move old (Err fault) none stored rising = λ truth. inr (none, rising_again scene old fault.1 stored rising)

  -- a front of a line that is of a realm
  pub of_a_realm : (scene : Scene) (move : Move) (name : List ℕ) (old new : S) → realm_of move ≡ Some name → HaltsIn kept move name scene old new → HaltsAtWork kept scene move old new
  of_a_realm scene move name old new named (count, become) = inl (count, subst (λ r. HaveBecome kept 0 scene (front_in count move r scene) old new) (sym named) become)

  pub halts_at_work : (basis : Basis) (playing : APlaying S) (now : Stage) (move : Move) (new : S) → IsStage kept basis (stage.Playing playing) now → ((scene : Scene) → IsScene kept playing.stored_core playing.actors.items scene → HaltsAtWork kept scene move playing.stored_core.store new) → HaltsAt kept basis now move playing.stored_core.store new
  halts_at_work basis playing (Declaring declarations) move new is halts = absurd is
  halts_at_work basis playing (Playing scene) move new is halts = by (halts scene is) where
    by : HaltsAtWork kept scene move playing.stored_core.store new → HaltsAt kept basis (Playing scene) move playing.stored_core.store new
    by (inl front) = HaltsAt.Begun refl front.0 front.1
    by (inr again) = HaltsAt.Restarting again.0 again.1

  -- the realms have started by the line
  pub halts_first : (basis : Basis) (declarations : List Declaration) (move : Move) (old mid new : S) → is_starting move ≡ true → ((names : List (List ℕ)) → OthersStay kept 1 names old mid) → HaltsAtWork kept (scene_of basis declarations) move mid new → HaltsAt kept basis (Declaring declarations) move old new
  halts_first basis declarations move old mid new starting first (inl front) =
      let scene = scene_of basis declarations in
      let names = map (λ (a : Acting). a.name) scene in
      HaltsAt.Begun starting front.0 (record {
        same = front.1.same;
        stored = front.1.stored;
        others = others_on kept 1 0 names names old mid new (λ name apart. apart) (first names) front.1.others;
      })
  halts_first basis declarations move old mid new starting first (inr again) = HaltsAt.Restarting again.0 (record {
    stored = again.1.stored;
    others = λ name epoch rows apart stored. same_rise new name rows (epoch + 1 + 0) (epoch + 1) (omega arith) (again.1.others name (epoch + 1) rows apart (first [] name epoch rows refl stored));
  })

  -- they have not
  pub halts_starting : (basis : Basis) (declarations : List Declaration) (move : Move) (old new : S) → is_starting move ≡ true → MayAllRise kept 0 [] old new → HaltsAt kept basis (Declaring declarations) move old new
  halts_starting basis declarations move old new starting rising = HaltsAt.Starting starting rising

  pub halts_unbegun : (basis : Basis) (now : Stage) (move : Move) (old new : S) → new ≡ old → HaltsAt kept basis now move old new
  halts_unbegun basis now move old new same = HaltsAt.Unbegun (all_same kept old new same)

  pub halts_said : (basis : Basis) (now : Stage) (line : Option Move) (move : Move) (old new : S) → line ≡ Some move → may_say basis.may_refuse move ≡ true → HaltsAt kept basis now move old new → HaltsBy kept basis now line old new
  halts_said basis now line move old new says may halts = subst (λ l. HaltsBy kept basis now l old new) (sym says) (rw may halts)

  pub all_said : {T E : Type 0} (basis : Basis) (now : Stage) (line : Option Move) (move : Move) (old : S) (result : Result T (E × S)) → line ≡ Some move → may_say basis.may_refuse move ≡ true → IfErr result (λ fault. kept.is_true fault.1 → HaltsAt kept basis now move old fault.1) → IfErr result (λ fault. kept.is_true fault.1 → HaltsBy kept basis now line old fault.1)
  all_said basis now line move old (Ok x) says may halts = tt
  all_said basis now line move old (Err fault) says may halts = λ truth. halts_said basis now line move old fault.1 says may (halts truth)

  pub halts_unsaid : (basis : Basis) (now : Stage) (line : Option Move) (old new : S) → new ≡ old → HaltsBy kept basis now line old new
  halts_unsaid basis now None old new same = all_same kept old new same
  halts_unsaid basis now (Some move) old new same = by (may_say basis.may_refuse move) refl where
    by : (may : Bool) → may_say basis.may_refuse move ≡ may → HaltsBy kept basis now (Some move) old new
    by true e = rw e (HaltsAt.Unbegun (all_same kept old new same))
    by false e = rw e (all_same kept old new same)

  -- The end of a script

  pub halts_last : (basis : Basis) (realms : Declared S) (now : Stage) (new : S) → IsStage kept basis (stage.Declaring realms) now → MayAllRise kept 0 [] realms.store new → HaltsAtEnd kept now realms.store new
  halts_last basis realms (Declaring declarations) new is rising = rising
  halts_last basis realms (Playing scene) new is rising = absurd is
