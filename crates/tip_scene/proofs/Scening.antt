-- The realms of a scene, and the code's values that stand for them.
use Rattle.std.proofs.Common.{◌≡◌, ◌≢◌, ◌<◌, ◌+◌, ◌++◌, ◌∷◌, [], ℕ, suc, zero, List, Bool, true, false, not, ◌==◌, Option, Some, None, length, arith, refl, sym, ap, ◌∙◌, subst}
use Rattle.std.specs.Prelude.{option_map, slice_get, slice_set, if◌then◌else◌, Ok, Err, Result}
use Rattle.std.specs.List.{position_or_len}
use Rattle.std.specs.Str.{bytes_eq}
use Rattle.std.specs.Cmp.{unsigned_Decides}
use Rattle.std.proofs.lemmas.Bool.{false≢true}
use Rattle.std.proofs.lemmas.List.{append_assoc, append-nil}
use Rattle.std.proofs.lemmas.Option.{same_Some, none-some}
use Rattle.std.proofs.lemmas.Slice.Eq.{bytes_eq-Decides}
use Rattle.tip_actor.proofs.Doing.{leaves_on}
use Rattle.tip_actor.proofs.Lists.{get_set_same, get_set_other, length_set, partner}
use Rattle.tip_actor.specs.Acting.{Acting, Done, count_of, settles, takes}
use Rattle.tip_actor.specs.Standing.{Actor, Acts, StoredCore, IsActing, IsDone, Leaves, Tells}
use Rattle.tip_core.specs.Hosted.{HaveNames, realm}
use Rattle.tip_rows.specs.Logs.{Keeping, Log}
use Rattle.tip_script.specs.Scripts.{Move}
use Rattle.tip_scene.specs.Scenes.{Scene, does, elsewhere, is_named, moved_at, moved_in, place_of, with_done, with_text}
use Rattle.tip_scene.proofs.Places.{first_passes}
use Rattle.tip_scene.proofs.Renewed.{acts_still}
use Rattle.tip_scene.specs.Stages.{APlaying, Prints, Serves}
use Rattle.tip_scene.specs.Standing.{IsScene, IsMoved, has_name}
use Rattle.tip_scene.specs.declared.fault.LineFault.{LineFault}
use Rattle.tip_scene.specs.declared.fault.LineFault.TheVariants.{NotUnderstood, Memory, Store}

-- Where a realm stands

named_at : (name : List ℕ) (actors : List Actor) (scene : Scene) → length actors ≡ length scene → ((place : ℕ) (actor : Actor) (acting : Acting) → slice_get actors place ≡ Some actor → slice_get scene place ≡ Some acting → actor.name ≡ acting.name) → position_or_len (has_name name) actors ≡ place_of name scene
named_at name [] [] count same = refl
named_at name [] (y ∷ scene) count same = absurd (omega arith)
named_at name (x ∷ actors) [] count same = absurd (omega arith)
named_at name (x ∷ actors) (y ∷ scene) count same =
    ap (λ n. if not (bytes_eq n name) then 1 + position_or_len (has_name name) actors else 0) (same 0 x y refl refl)
    ∙ ap (λ k. if not (is_named name y) then 1 + k else 0) (named_at name actors scene (omega arith) (λ place. same (suc place)))

apart : (xs ys : List ℕ) (same : Bool) → bytes_eq xs ys ≡ same → xs ≢ ys → bytes_eq xs ys ≡ false
apart xs ys true e differ = absurd (differ ((bytes_eq-Decides xs ys).0 e))
apart xs ys false e differ = e

no_partner : {X Y : Type 0} (xs : List X) (ys : List Y) (i : ℕ) → length xs ≡ length ys → slice_get xs i ≡ None → slice_get ys i ≡ None
no_partner [] [] i count none = refl
no_partner [] (y ∷ ys) i count none = absurd (omega arith)
no_partner (x ∷ xs) [] i count none = refl
no_partner (x ∷ xs) (y ∷ ys) zero count none = absurd (none-some x (sym none))
no_partner (x ∷ xs) (y ∷ ys) (suc i) count none = no_partner xs ys i (omega arith) none

module _ {S : Type 0} (kept : Keeping S) where
  pub named : (stored_core : StoredCore S) (actors : List Actor) (scene : Scene) (name : List ℕ) → IsScene kept stored_core actors scene → position_or_len (has_name name) actors ≡ place_of name scene
  named stored_core actors scene name is = named_at name actors scene is.count (λ place actor acting a b. (is.each place actor acting a b).own.name)

  -- no two realms have one name
  only_one : (stored_core : StoredCore S) (actors : List Actor) (scene : Scene) (name : List ℕ) (place other : ℕ) (x y : Actor) → IsScene kept stored_core actors scene → slice_get actors place ≡ Some x → slice_get actors other ≡ Some y → has_name name x ≡ true → has_name name y ≡ true → place ≡ other
  only_one stored_core actors scene name place other x y is a b here there =
      let s = partner actors scene place x is.count a in
      let t = partner actors scene other y is.count b in
      let this = is.each place x s.0 a s.1 in
      let that = is.each other y t.0 b t.1 in
      let names : x.name ≡ y.name = (bytes_eq-Decides x.name name).0 here ∙ sym ((bytes_eq-Decides y.name name).0 there) in
      this.served.names place other s.0.world.state t.0.world.state this.served.state_is that.served.state_is (this.named ∙ sym this.own.name ∙ names ∙ that.own.name ∙ sym that.named)

  not_earlier : (stored_core : StoredCore S) (actors : List Actor) (scene : Scene) (name : List ℕ) (place other : ℕ) (x y : Actor) → IsScene kept stored_core actors scene → slice_get actors place ≡ Some x → has_name name x ≡ true → slice_get actors other ≡ Some y → other < place → (passes : Bool) → has_name name y ≡ passes → passes ≡ false
  not_earlier stored_core actors scene name place other x y is a here b earlier true there = absurd (let same = only_one stored_core actors scene name place other x y is a b here there in omega (arith, same, earlier))
  not_earlier stored_core actors scene name place other x y is a here b earlier false there = refl

  first_with : (stored_core : StoredCore S) (actors : List Actor) (scene : Scene) (name : List ℕ) (place : ℕ) (found : Option Actor) → IsScene kept stored_core actors scene → slice_get actors place ≡ found → option_map (has_name name) found ≡ Some true → place ≡ position_or_len (has_name name) actors
  first_with stored_core actors scene name place None is a there = absurd (none-some true there)
  first_with stored_core actors scene name place (Some x) is a there =
      let here = same_Some (has_name name x) true there in
      first_passes (has_name name) actors place x a here (λ other y b earlier. not_earlier stored_core actors scene name place other x y is a here b earlier (has_name name y) refl)

  -- so wherever one stands that has the name, it is the first
  pub first_there : (stored_core : StoredCore S) (actors : List Actor) (scene : Scene) (name : List ℕ) (place : ℕ) → IsScene kept stored_core actors scene → option_map (has_name name) (slice_get actors place) ≡ Some true → place ≡ position_or_len (has_name name) actors
  first_there stored_core actors scene name place is there = first_with stored_core actors scene name place (slice_get actors place) is refl there

  -- One realm has done something, and the others stay

  -- two realms have two names
  pub other_name : (stored_core : StoredCore S) (place other : ℕ) (actor x : Actor) (acting y : Acting) → IsActing kept stored_core place actor acting → IsActing kept stored_core other x y → other ≢ place → bytes_eq actor.name y.world.state.head.name ≡ false
  other_name stored_core place other actor x acting y is that differ =
      apart actor.name y.world.state.head.name (bytes_eq actor.name y.world.state.head.name) refl
      (λ same. differ (that.served.names other place y.world.state acting.world.state that.served.state_is is.served.state_is (sym same ∙ is.own.name ∙ sym is.named)))

  stays : (stored_core stored_core' : StoredCore S) (place other : ℕ) (actor x : Actor) (y : Acting) → Leaves kept stored_core stored_core' place actor.name → IsActing kept stored_core other x y → other ≢ place → bytes_eq actor.name y.world.state.head.name ≡ false → HaveNames stored_core'.core → IsActing kept stored_core' other x y
  stays stored_core stored_core' place other actor x y leaves that differ apart names = record {
    served = record {
      state_is = leaves.realms other differ ∙ that.served.state_is;
      names = names;
      due_is = leaves.due y.world.state.head.name apart ∙ that.served.due_is;
    };
    stored = leaves.stored y.world.state.head.name y.world.state.head.epoch y.world.rows apart that.stored;
    named = that.named;
    own = that.own;
  }

  each_at : (stored_core stored_core' : StoredCore S) (actors : List Actor) (scene : Scene) (place : ℕ) (actor actor' : Actor) (acting acting' : Acting) → IsScene kept stored_core actors scene → slice_get actors place ≡ Some actor → slice_get scene place ≡ Some acting → Leaves kept stored_core stored_core' place actor.name → IsActing kept stored_core' place actor' acting' →
      (other : ℕ) (x : Actor) (y : Acting) → slice_get (slice_set actors place actor') other ≡ Some x → slice_get (slice_set scene place acting') other ≡ Some y → (same : Bool) → (other == place) ≡ same → IsActing kept stored_core' other x y
  each_at stored_core stored_core' actors scene place actor actor' acting acting' is a s leaves own other x y ax sy true e =
      let here : other ≡ place = (unsigned_Decides other place).0 e in
      let x_is : actor' ≡ x = same_Some actor' x (sym (get_set_same actors place actor' actor a) ∙ ap (slice_get (slice_set actors place actor')) (sym here) ∙ ax) in
      let y_is : acting' ≡ y = same_Some acting' y (sym (get_set_same scene place acting' acting s) ∙ ap (slice_get (slice_set scene place acting')) (sym here) ∙ sy) in
      subst (λ z. IsActing kept stored_core' other x z) y_is (subst (λ z. IsActing kept stored_core' other z acting') x_is (subst (λ p. IsActing kept stored_core' p actor' acting') (sym here) own))
  each_at stored_core stored_core' actors scene place actor actor' acting acting' is a s leaves own other x y ax sy false e =
      let differ : other ≢ place = λ same. false≢true (sym e ∙ (unsigned_Decides other place).1 same) in
      let that = is.each other x y (sym (get_set_other actors place other actor' differ) ∙ ax) (sym (get_set_other scene place other acting' differ) ∙ sy) in
      stays stored_core stored_core' place other actor x y leaves that differ (other_name stored_core place other actor x acting y (is.each place actor acting a s) that differ) own.served.names

  beyond_at : (stored_core stored_core' : StoredCore S) (actors : List Actor) (scene : Scene) (place : ℕ) (name : List ℕ) (acting acting' : Acting) → IsScene kept stored_core actors scene → slice_get scene place ≡ Some acting → Leaves kept stored_core stored_core' place name → (other : ℕ) → slice_get (slice_set scene place acting') other ≡ None → (same : Bool) → (other == place) ≡ same → realm stored_core'.core other ≡ None
  beyond_at stored_core stored_core' actors scene place name acting acting' is s leaves other none true e =
      let here : other ≡ place = (unsigned_Decides other place).0 e in
      absurd (none-some acting' (sym none ∙ ap (slice_get (slice_set scene place acting')) here ∙ get_set_same scene place acting' acting s))
  beyond_at stored_core stored_core' actors scene place name acting acting' is s leaves other none false e =
      let differ : other ≢ place = λ same. false≢true (sym e ∙ (unsigned_Decides other place).1 same) in
      leaves.realms other differ ∙ is.beyond other (sym (get_set_other scene place other acting' differ) ∙ none)

  becomes : (stored_core stored_core' : StoredCore S) (actors : List Actor) (scene : Scene) (place : ℕ) (actor actor' : Actor) (acting acting' : Acting) → IsScene kept stored_core actors scene → slice_get actors place ≡ Some actor → slice_get scene place ≡ Some acting → Leaves kept stored_core stored_core' place actor.name → IsActing kept stored_core' place actor' acting' → IsScene kept stored_core' (slice_set actors place actor') (slice_set scene place acting')
  becomes stored_core stored_core' actors scene place actor actor' acting acting' is a s leaves own = record {
    count = length_set actors place actor' ∙ is.count ∙ sym (length_set scene place acting');
    each = λ other x y ax sy. each_at stored_core stored_core' actors scene place actor actor' acting acting' is a s leaves own other x y ax sy (other == place) refl;
    beyond = λ other none. beyond_at stored_core stored_core' actors scene place actor.name acting acting' is s leaves other none (other == place) refl;
  }

  -- Rows that are read

  pub reads : (stored_core : StoredCore S) (store : S) → ((log : Log) → kept.stands stored_core.store log → kept.stands store log) → ((name : List ℕ) → kept.is_due store name ≡ kept.is_due stored_core.store name) → (actors : List Actor) (scene : Scene) → IsScene kept stored_core actors scene → IsScene kept (record stored_core { store = store }) actors scene
  reads stored_core store stood due actors scene is = record {
    count = is.count;
    each = λ place actor acting a s. acts_still kept stored_core (record stored_core { store = store }) refl stood due place actor acting (is.each place actor acting a s);
    beyond = is.beyond;
  }

  -- A line of a realm

  -- it was done, and then the lines that may be taken were taken
  pub settled : (stored_core mid stored_core' : StoredCore S) (place : ℕ) (actor between actor' : Actor) (printed said printed' : List ℕ) (done : Done) → IsDone kept stored_core mid place actor between printed said done → IsDone kept mid stored_core' place between actor' said printed' (takes (count_of done.acting.readings) done.acting) → IsDone kept stored_core stored_core' place actor actor' printed printed' (settles done)
  settled stored_core mid stored_core' place actor between actor' printed said printed' done first second =
      let later = takes (count_of done.acting.readings) done.acting in record {
        own = second.own;
        leaves = leaves_on kept stored_core mid stored_core' place actor.name first.leaves (subst (Leaves kept mid stored_core' place) first.name second.leaves);
        name = second.name ∙ first.name;
        text = second.text ∙ ap (λ t. t ++ later.printed) first.text ∙ append_assoc printed done.printed later.printed;
      }

  done_so : (stored_core mid stored_core' : StoredCore S) (actors : List Actor) (scene : Scene) (place : ℕ) (actor between actor' : Actor) (acting : Acting) (printed said printed' : List ℕ) (did : Option Done) → IsScene kept stored_core actors scene → slice_get actors place ≡ Some actor → slice_get scene place ≡ Some acting → Tells kept stored_core mid place actor between printed said true did →
      Acts kept mid stored_core' place between actor' said printed' (λ acting. takes (count_of acting.readings) acting) → IsMoved kept stored_core' (slice_set actors place actor') printed printed' (with_done place did scene)
  done_so stored_core mid stored_core' actors scene place actor between actor' acting printed said printed' None is a s told settles_so = absurd told
  done_so stored_core mid stored_core' actors scene place actor between actor' acting printed said printed' (Some done) is a s told settles_so =
      let all = settled stored_core mid stored_core' place actor between actor' printed said printed' done told (settles_so done.acting told.own) in record {
        text = all.text;
        scene = slice_set scene place (settles done).acting;
        is = refl;
        stands = becomes stored_core stored_core' actors scene place actor actor' acting (settles done).acting is a s all.leaves all.own;
      }

  moved_here : (stored_core : StoredCore S) (actors : List Actor) (scene : Scene) (move : Move) (name : List ℕ) (place : ℕ) (acting : Acting) → IsScene kept stored_core actors scene → place ≡ position_or_len (has_name name) actors → slice_get scene place ≡ Some acting → moved_in move (Some name) scene ≡ with_done place (does move acting) scene
  moved_here stored_core actors scene move name place acting is here s =
      let there = here ∙ named stored_core actors scene name is in
      ap (λ p. moved_at move p (slice_get scene p) scene) (sym there) ∙ ap (λ o. moved_at move place o scene) s

  pub has_moved : (stored_core mid stored_core' : StoredCore S) (actors : List Actor) (scene : Scene) (move : Move) (name : List ℕ) (place : ℕ) (actor between actor' : Actor) (printed said printed' : List ℕ) → IsScene kept stored_core actors scene → place ≡ position_or_len (has_name name) actors → slice_get actors place ≡ Some actor →
      ((acting : Acting) → IsActing kept stored_core place actor acting → Tells kept stored_core mid place actor between printed said true (does move acting)) →
      Acts kept mid stored_core' place between actor' said printed' (λ acting. takes (count_of acting.readings) acting) → IsMoved kept stored_core' (slice_set actors place actor') printed printed' (moved_in move (Some name) scene)
  has_moved stored_core mid stored_core' actors scene move name place actor between actor' printed said printed' is here a told settles_so =
      let s = partner actors scene place actor is.count a in
      subst (IsMoved kept stored_core' (slice_set actors place actor') printed printed') (sym (moved_here stored_core actors scene move name place s.0 is here s.1))
      (done_so stored_core mid stored_core' actors scene place actor between actor' s.0 printed said printed' (does move s.0) is a s.1 (told s.0 (is.each place actor s.0 a s.1)) settles_so)

  not_done : (stored_core mid : StoredCore S) (playing : APlaying S) (scene : Scene) (place : ℕ) (actor between : Actor) (printed said : List ℕ) (did : Option Done) → Tells kept stored_core mid place actor between printed said false did → Serves kept printed said (with_done place did scene) playing (Err NotUnderstood)
  not_done stored_core mid playing scene place actor between printed said None told = (refl, told ∙ sym (append-nil printed))
  not_done stored_core mid playing scene place actor between printed said (Some done) told = absurd told

  -- it may not stand here
  pub has_not_moved : (stored_core mid : StoredCore S) (playing : APlaying S) (actors : List Actor) (scene : Scene) (move : Move) (name : List ℕ) (place : ℕ) (actor between : Actor) (printed said : List ℕ) → IsScene kept stored_core actors scene → place ≡ position_or_len (has_name name) actors → slice_get actors place ≡ Some actor →
      ((acting : Acting) → IsActing kept stored_core place actor acting → Tells kept stored_core mid place actor between printed said false (does move acting)) → Serves kept printed said (moved_in move (Some name) scene) playing (Err NotUnderstood)
  has_not_moved stored_core mid playing actors scene move name place actor between printed said is here a told =
      let s = partner actors scene place actor is.count a in
      subst (λ m. Serves kept printed said m playing (Err NotUnderstood)) (sym (moved_here stored_core actors scene move name place s.0 is here s.1))
      (not_done stored_core mid playing scene place actor between printed said (does move s.0) (told s.0 (is.each place actor s.0 a s.1)))

  -- A line of no realm

  -- a text was printed, and nothing else
  says_so : (playing : APlaying S) (scene : Scene) (printed printed' : List ℕ) (text : Option (List ℕ)) (result : Result (Unit {0}) LineFault) → IsScene kept playing.stored_core playing.actors.items scene → Prints printed printed' text result → Serves kept printed printed' (with_text text scene) playing result
  says_so playing scene printed printed' text (Ok done) is says = subst (λ t. IsMoved kept playing.stored_core playing.actors.items printed printed' (with_text t scene)) (sym says.1) (record { text = says.2; scene = scene; is = refl; stands = is })
  says_so playing scene printed printed' text (Err NotUnderstood) is says = subst (λ t. Serves kept printed printed' (with_text t scene) playing (Err NotUnderstood)) (sym says.0) (refl, says.1 ∙ sym (append-nil printed))
  says_so playing scene printed printed' text (Err Memory) is says = tt
  says_so playing scene printed printed' text (Err Store) is says = tt

  pub moved_elsewhere : (playing : APlaying S) (scene : Scene) (move : Move) (name : List ℕ) (place : ℕ) (printed printed' : List ℕ) (result : Result (Unit {0}) LineFault) → IsScene kept playing.stored_core playing.actors.items scene → place ≡ position_or_len (has_name name) playing.actors.items → slice_get playing.actors.items place ≡ None →
      Prints printed printed' (elsewhere move) result → Serves kept printed printed' (moved_in move (Some name) scene) playing result
  moved_elsewhere playing scene move name place printed printed' result is here none says =
      let there = here ∙ named playing.stored_core playing.actors.items scene name is in
      let elsewhere_is : moved_in move (Some name) scene ≡ with_text (elsewhere move) scene =
      ap (λ p. moved_at move p (slice_get scene p) scene) (sym there) ∙ ap (λ o. moved_at move place o scene) (no_partner playing.actors.items scene place is.count none) in
      subst (λ m. Serves kept printed printed' m playing result) (sym elsewhere_is) (says_so playing scene printed printed' (elsewhere move) result is says)
