-- Declared realms, and what a line makes of a stage.
use Rattle.tip_rows.specs.Logs.{Keeping}
use Rattle.std.proofs.Common.{◌≡◌, ◌≢◌, ◌<◌, ◌++◌, ◌∷◌, [], ℕ, zero, suc, List, Bool, true, false, ◌==◌, nat_lt, None, Some, map, option_map, length, arith, refl, sym, ap, subst, ◌∙◌}
use Rattle.std.specs.Prelude.{◌&&◌, Err, Ok, Option, Result, if◌then◌else◌, slice_get, slice_set}
use Rattle.std.specs.List.{list_all, position_or_len}
use Rattle.std.proofs.lemmas.Bool.{and_from, false≢true}
use Rattle.std.proofs.lemmas.Bool.Decides.{nat_tests}
use Rattle.std.proofs.lemmas.List.{append-nil, append_assoc}
use Rattle.tip_line.specs.Words.{is_address, is_realm}
use Rattle.tip_machine.specs.Heads.{are_allowed}
use Rattle.tip_machine.specs.declared.head.Limits.{Limits}
use Rattle.tip_script.specs.Moves.{move_by}
use Rattle.tip_script.specs.Scripts.{Move, is_start, move_of, realm_of}
use Rattle.std.proofs.lemmas.List.Folds.{list_all-append}
use Rattle.std.proofs.lemmas.Option.{none-some, same_Some}
use Rattle.tip_scene.proofs.Adopted.{both}
use Rattle.tip_script.specs.declared.instruction.Instruction.{Instruction}
use Rattle.tip_script.specs.declared.instruction.Instruction.TheVariants as instruction
use Rattle.tip_scene.specs.Acts.{Stage, Declaring, Playing, Acted, Basis, acted, acted_by, acts, acts_if, are_covered, declaration_of, declared, is_declared, labelled, labelled_at, may_be_declared, may_be_labelled, numbered, is_count, is_other, may_say, not_understood, scene_of, starts_text}
use Rattle.tip_scene.specs.Leaving.{is_starting, scene_at}
use Rattle.tip_scene.specs.Scenes.{Scene, moved}
use Rattle.tip_scene.specs.Stages.{APlaying, AStage, ActsSo, Declared, Declares, IsDeclared, IsBasis, IsStage, Moves}
use Rattle.tip_scene.specs.Standing.{IsScene, IsMoved}
use Rattle.tip_scene.specs.declared.declared.Declaration.{Declaration}
use Rattle.tip_scene.specs.declared.fault.LineFault.{LineFault}
use Rattle.tip_scene.specs.declared.fault.LineFault.TheVariants as fault
use Rattle.tip_scene.specs.declared.stage.Stage.TheVariants as stage

-- Declarations

-- a realm more was declared
pub declares : (declarations : List Declaration) (name address : List ℕ) (branches : ℕ) (limits : Limits) → list_all (is_other name) declarations ≡ true → length declarations < 64 → is_count branches ≡ true → are_allowed limits ≡ true → is_realm name ≡ true → is_address address ≡ true →
    declared name address branches limits declarations ≡ Some (declarations ++ declaration_of name address branches limits ∷ [])
declares declarations name address branches limits new few some allowed named reached =
    let short : nat_lt (length declarations) 64 ≡ true = grind (arith, nat_tests) in
    rw (new, short, some, allowed, named, reached) refl

-- Realms that a basis covers

module _ (basis : Basis) where
  pub declared_covered : (name address : List ℕ) (branches : ℕ) (limits : Limits) → basis.covers name ≡ true → (before now : List Declaration) → declared name address branches limits before ≡ Some now → are_covered basis before ≡ true → are_covered basis now ≡ true
  declared_covered name address branches limits covers before now is all = by (may_be_declared name address branches limits before) is where
    one : are_covered basis (before ++ declaration_of name address branches limits ∷ []) ≡ true
    one = list_all-append (λ (declaration : Declaration). basis.covers declaration.name) before (declaration_of name address branches limits ∷ []) ∙ and_from (are_covered basis before) (basis.covers name && true) all (and_from (basis.covers name) true covers refl)

    by : (may : Bool) → (if may then Some (before ++ declaration_of name address branches limits ∷ []) else None) ≡ Some now → are_covered basis now ≡ true
    by true some = subst (λ l. are_covered basis l ≡ true) (same_Some (before ++ declaration_of name address branches limits ∷ []) now some) one
    by false none = absurd (none-some now none)

  covered_at : (declarations : List Declaration) (place : ℕ) (declaration : Declaration) → slice_get declarations place ≡ Some declaration → are_covered basis declarations ≡ true → basis.covers declaration.name ≡ true
  covered_at [] place declaration here all = absurd (none-some declaration here)
  covered_at (d ∷ declarations) zero declaration here all = subst (λ (x : Declaration). basis.covers x.name ≡ true) (same_Some d declaration here) (both (basis.covers d.name) (are_covered basis declarations) all).0
  covered_at (d ∷ declarations) (suc place) declaration here all = covered_at declarations place declaration here (both (basis.covers d.name) (are_covered basis declarations) all).1

  covered_set : (declarations : List Declaration) (place : ℕ) (now : Declaration) → are_covered basis declarations ≡ true → basis.covers now.name ≡ true → are_covered basis (slice_set declarations place now) ≡ true
  covered_set [] place now all is = refl
  covered_set (d ∷ declarations) zero now all is = and_from (basis.covers now.name) (are_covered basis declarations) is (both (basis.covers d.name) (are_covered basis declarations) all).1
  covered_set (d ∷ declarations) (suc place) now all is =
      let parts = both (basis.covers d.name) (are_covered basis declarations) all in
      and_from (basis.covers d.name) (are_covered basis (slice_set declarations place now)) parts.0 (covered_set declarations place now parts.1 is)

  pub labelled_covered : (name : List ℕ) (labels : List (List ℕ)) (before now : List Declaration) → labelled name labels before ≡ Some now → are_covered basis before ≡ true → are_covered basis now ≡ true
  labelled_covered name labels before now is all = at (position_or_len (is_declared name) before) (slice_get before (position_or_len (is_declared name) before)) refl is where
    set : (place : ℕ) (old : Declaration) (may : Bool) → slice_get before place ≡ Some old → option_map (λ d. slice_set before place d) (if may then Some (record old { branches = numbered 1 labels; is_labelled = true }) else None) ≡ Some now → are_covered basis now ≡ true
    set place old true here some = subst (λ l. are_covered basis l ≡ true) (same_Some (slice_set before place (record old { branches = numbered 1 labels; is_labelled = true })) now some) (covered_set before place (record old { branches = numbered 1 labels; is_labelled = true }) all (covered_at before place old here all))
    set place old false here none = absurd (none-some now none)

    at : (place : ℕ) (found : Option Declaration) → slice_get before place ≡ found → labelled_at labels place found before ≡ Some now → are_covered basis now ≡ true
    at place None here none = absurd (none-some now none)
    at place (Some old) here some = set place old (may_be_labelled labels old) here some

  pub name_covered : (declarations : List Declaration) (place : ℕ) (name : List ℕ) → slice_get (map (λ (declaration : Declaration). declaration.name) declarations) place ≡ Some name → are_covered basis declarations ≡ true → basis.covers name ≡ true
  name_covered [] place name here all = absurd (none-some name here)
  name_covered (d ∷ declarations) zero name here all = subst (λ n. basis.covers n ≡ true) (same_Some d.name name here) (both (basis.covers d.name) (are_covered basis declarations) all).0
  name_covered (d ∷ declarations) (suc place) name here all = name_covered declarations place name here (both (basis.covers d.name) (are_covered basis declarations) all).1

-- One line

module _ {S : Type 0} (kept : Keeping S) (basis : Basis) where
  -- before the realms have started
  pub obeys_first : (realms : Declared S) (printed printed' : List ℕ) (move : Move) (result : Result (AStage S) (LineFault × S)) (now : Stage) → IsStage kept basis (stage.Declaring realms) now → ((declarations : List Declaration) → IsDeclared kept basis realms declarations → ActsSo kept basis printed printed' (acts basis (Declaring declarations) move) result) → ActsSo kept basis printed printed' (acts basis now move) result
  obeys_first realms printed printed' move result (Declaring declarations) is obeys = obeys declarations is
  obeys_first realms printed printed' move result (Playing scene) is obeys = absurd is

  -- a realm was declared, or labelled
  pub declares_so : (realms realms' : Declared S) (declarations : List Declaration) (printed : List ℕ) (more : List Declaration → Option (List Declaration)) (result : Result (Unit {0}) LineFault) (done : Unit {0}) → ((before now : List Declaration) → more before ≡ Some now → are_covered basis before ≡ true → are_covered basis now ≡ true) → IsDeclared kept basis realms declarations → realms'.store ≡ realms.store → Declares (more realms.declarations.items) realms'.declarations.items result → result ≡ Ok done →
      ActsSo kept basis printed printed (record { printed = []; stage = option_map Declaring (more declarations) }) (Ok (stage.Declaring realms'))
  declares_so realms realms' declarations printed more result done covering is store said ok = λ truth.
      let items = subst (Declares (more realms.declarations.items) realms'.declarations.items) ok said in
      let now = ap more (sym is.declared) ∙ items in (
        Declaring realms'.declarations.items,
        ap (option_map Declaring) now,
        record { founded = subst (IsBasis kept basis) (sym store) is.founded; declared = refl; covered = covering declarations realms'.declarations.items now is.covered },
        sym (append-nil printed),
      )

  -- or may not be
  pub declares_not : (realms realms' : Declared S) (declarations : List Declaration) (printed : List ℕ) (more : List Declaration → Option (List Declaration)) (result : Result (Unit {0}) LineFault) (why : LineFault) (store : S) → IsDeclared kept basis realms declarations → Declares (more realms.declarations.items) realms'.declarations.items result → result ≡ Err why →
      ActsSo kept basis printed printed (record { printed = []; stage = option_map Declaring (more declarations) }) (Err (why, store))
  declares_not realms realms' declarations printed more result fault.NotUnderstood store is said err = λ truth. (ap (option_map Declaring) (ap more (sym is.declared) ∙ subst (Declares (more realms.declarations.items) realms'.declarations.items) err said), sym (append-nil printed))
  declares_not realms realms' declarations printed more result fault.Memory store is said err = tt
  declares_not realms realms' declarations printed more result fault.Store store is said err = tt

  -- once they have
  pub plays_on : (playing playing' : APlaying S) (printed printed' : List ℕ) (move : Move) (now : Stage) → IsStage kept basis (stage.Playing playing) now → ((scene : Scene) → IsScene kept playing.stored_core playing.actors.items scene → Moves kept printed printed' (moved move scene) (Ok playing')) →
      ActsSo kept basis printed printed' (acts basis now move) (Ok (stage.Playing playing'))
  plays_on playing playing' printed printed' move (Declaring declarations) is moves = absurd is
  plays_on playing playing' printed printed' move (Playing scene) is moves = λ truth.
      let m = moves scene is truth in
      (Playing m.scene, ap (option_map Playing) m.is, m.stands, m.text)

  pub plays_not : (playing : APlaying S) (printed printed' : List ℕ) (move : Move) (why : LineFault × S) (now : Stage) → IsStage kept basis (stage.Playing playing) now → ((scene : Scene) → IsScene kept playing.stored_core playing.actors.items scene → Moves kept printed printed' (moved move scene) (Err why)) →
      ActsSo kept basis printed printed' (acts basis now move) (Err why)
  plays_not playing printed printed' move why (Declaring declarations) is moves = absurd is
  plays_not playing printed printed' move (fault.NotUnderstood, store) (Playing scene) is moves = λ truth.
      let m = moves scene is truth in
      (ap (option_map Playing) m.0, m.1)
  plays_not playing printed printed' move (fault.Memory, store) (Playing scene) is moves = tt
  plays_not playing printed printed' move (fault.Store, store) (Playing scene) is moves = tt

starts_first : (basis : Basis) (declarations : List Declaration) (i : Instruction) → ((name : _) (address : _) (branches : ℕ) (limits : Limits) → i ≢ instruction.Realm name address branches limits) → ((realm : _) (labels : _) → i ≢ instruction.Labels realm labels) → acts basis (Declaring declarations) (move_by i) ≡ acted_by (starts_text basis declarations) (moved (move_by i) (scene_of basis declarations))
starts_first basis declarations (instruction.Realm name address branches limits) other unlabelled = absurd (other name address branches limits refl)
starts_first basis declarations (instruction.Labels realm labels) other unlabelled = absurd (unlabelled realm labels refl)
starts_first basis declarations (instruction.Open realm kinds) other unlabelled = refl
starts_first basis declarations (instruction.Dial realm address kinds aim) other unlabelled = refl
starts_first basis declarations (instruction.Feed realm connection octets) other unlabelled = refl
starts_first basis declarations (instruction.Lost realm connection) other unlabelled = refl
starts_first basis declarations (instruction.Push asked) other unlabelled = refl
starts_first basis declarations (instruction.Pull asked) other unlabelled = refl
starts_first basis declarations (instruction.Go realm) other unlabelled = refl
starts_first basis declarations (instruction.Drop realm) other unlabelled = refl
starts_first basis declarations (instruction.Resume realm id) other unlabelled = refl
starts_first basis declarations (instruction.Refuse realm) other unlabelled = refl
starts_first basis declarations (instruction.Renew realm) other unlabelled = refl
starts_first basis declarations instruction.Restart other unlabelled = refl

-- so the realms that it starts are those that were declared
pub starts_declared : (basis : Basis) (declarations : List Declaration) (i : Instruction) → ((name : _) (address : _) (branches : ℕ) (limits : Limits) → i ≢ instruction.Realm name address branches limits) → ((realm : _) (labels : _) → i ≢ instruction.Labels realm labels) → scene_at basis (Declaring declarations) (move_by i) ≡ scene_of basis declarations
starts_declared basis declarations (instruction.Realm name address branches limits) other unlabelled = absurd (other name address branches limits refl)
starts_declared basis declarations (instruction.Labels realm labels) other unlabelled = absurd (unlabelled realm labels refl)
starts_declared basis declarations (instruction.Open realm kinds) other unlabelled = refl
starts_declared basis declarations (instruction.Dial realm address kinds aim) other unlabelled = refl
starts_declared basis declarations (instruction.Feed realm connection octets) other unlabelled = refl
starts_declared basis declarations (instruction.Lost realm connection) other unlabelled = refl
starts_declared basis declarations (instruction.Push asked) other unlabelled = refl
starts_declared basis declarations (instruction.Pull asked) other unlabelled = refl
starts_declared basis declarations (instruction.Go realm) other unlabelled = refl
starts_declared basis declarations (instruction.Drop realm) other unlabelled = refl
starts_declared basis declarations (instruction.Resume realm id) other unlabelled = refl
starts_declared basis declarations (instruction.Refuse realm) other unlabelled = refl
starts_declared basis declarations (instruction.Renew realm) other unlabelled = refl
starts_declared basis declarations instruction.Restart other unlabelled = refl

-- and it starts them
pub starting_declared : (i : Instruction) → ((name : _) (address : _) (branches : ℕ) (limits : Limits) → i ≢ instruction.Realm name address branches limits) → ((realm : _) (labels : _) → i ≢ instruction.Labels realm labels) → is_starting (move_by i) ≡ true
starting_declared (instruction.Realm name address branches limits) other unlabelled = absurd (other name address branches limits refl)
starting_declared (instruction.Labels realm labels) other unlabelled = absurd (unlabelled realm labels refl)
starting_declared (instruction.Open realm kinds) other unlabelled = refl
starting_declared (instruction.Dial realm address kinds aim) other unlabelled = refl
starting_declared (instruction.Feed realm connection octets) other unlabelled = refl
starting_declared (instruction.Lost realm connection) other unlabelled = refl
starting_declared (instruction.Push asked) other unlabelled = refl
starting_declared (instruction.Pull asked) other unlabelled = refl
starting_declared (instruction.Go realm) other unlabelled = refl
starting_declared (instruction.Drop realm) other unlabelled = refl
starting_declared (instruction.Resume realm id) other unlabelled = refl
starting_declared (instruction.Refuse realm) other unlabelled = refl
starting_declared (instruction.Renew realm) other unlabelled = refl
starting_declared instruction.Restart other unlabelled = refl

-- a line of one realm that renews none starts none again
pub starts_none : (i : Instruction) (realm : List ℕ) → realm_of (move_by i) ≡ Some realm → ((r : _) → i ≢ instruction.Renew r) → is_start (move_by i) ≡ false
starts_none (instruction.Realm name address branches limits) realm named other = refl
starts_none (instruction.Labels r labels) realm named other = refl
starts_none (instruction.Open r kinds) realm named other = refl
starts_none (instruction.Dial r address kinds aim) realm named other = refl
starts_none (instruction.Feed r connection octets) realm named other = refl
starts_none (instruction.Lost r connection) realm named other = refl
starts_none (instruction.Push asked) realm named other = refl
starts_none (instruction.Pull asked) realm named other = refl
starts_none (instruction.Go r) realm named other = refl
starts_none (instruction.Drop r) realm named other = refl
starts_none (instruction.Resume r id) realm named other = refl
starts_none (instruction.Refuse r) realm named other = refl
starts_none (instruction.Renew r) realm named other = absurd (other r refl)
starts_none instruction.Restart realm named other = absurd (none-some realm named)

-- the first line that declares none
module _ {S : Type 0} (kept : Keeping S) (basis : Basis) (declarations : List Declaration) (printed between printed' : List ℕ) (i : Instruction) (other : (name : _) (address : _) (branches : ℕ) (limits : Limits) → i ≢ instruction.Realm name address branches limits) (unlabelled : (realm : _) (labels : _) → i ≢ instruction.Labels realm labels) where
  joined : between ≡ printed ++ starts_text basis declarations → printed' ≡ between ++ (moved (move_by i) (scene_of basis declarations)).printed → printed' ≡ printed ++ (acts basis (Declaring declarations) (move_by i)).printed
  joined first second =
      second ∙ ap (λ t. t ++ (moved (move_by i) (scene_of basis declarations)).printed) first ∙ append_assoc printed (starts_text basis declarations) (moved (move_by i) (scene_of basis declarations)).printed
      ∙ ap (λ (a : Acted). printed ++ a.printed) (sym (starts_first basis declarations i other unlabelled))

  pub plays_first : (playing : APlaying S) → (kept.is_true playing.stored_core.store → (between ≡ printed ++ starts_text basis declarations) × IsMoved kept playing.stored_core playing.actors.items between printed' (moved (move_by i) (scene_of basis declarations))) →
      ActsSo kept basis printed printed' (acts basis (Declaring declarations) (move_by i)) (Ok (stage.Playing playing))
  plays_first playing all = λ truth.
      let m = (all truth).1 in
      (Playing m.scene, ap (λ (a : Acted). a.stage) (starts_first basis declarations i other unlabelled) ∙ ap (option_map Playing) m.is, m.stands, joined (all truth).0 m.text)

  pub fails_first : (why : LineFault × S) → (kept.is_true why.1 → between ≡ printed ++ starts_text basis declarations) → (kept.is_true why.1 → Moves kept between printed' (moved (move_by i) (scene_of basis declarations)) (Err why)) → ActsSo kept basis printed printed' (acts basis (Declaring declarations) (move_by i)) (Err why)
  fails_first (fault.NotUnderstood, store) text moves = λ truth.
      let m = moves truth truth in
      (ap (λ (a : Acted). a.stage) (starts_first basis declarations i other unlabelled) ∙ ap (option_map Playing) m.0, joined (text truth) m.1)
  fails_first (fault.Memory, store) text moves = tt
  fails_first (fault.Store, store) text moves = tt

-- a line that is not empty does what it says
pub acts_as_said : (basis : Basis) (now : Stage) (line : List ℕ) (move : Move) → false ≡ (length line == 0) → move_of line ≡ Some move → may_say basis.may_refuse move ≡ true → acted basis now line ≡ acts basis now move
acts_as_said basis now [] move some is may = absurd (false≢true some)
acts_as_said basis now (x ∷ line) move some is may = ap (acts_if basis now) is ∙ ap (λ b. if b then acts basis now move else not_understood) may
