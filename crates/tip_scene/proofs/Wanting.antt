-- How many boxes are wanted, and how they are counted.
use Rattle.std.proofs.Common.{◌≡◌, ◌≢◌, ◌+◌, ◌≤◌, ◌∙◌, ℕ, zero, suc, true, false, List, [], ◌∷◌, Option, Some, None, ap, arith, drop, length, map, refl, subst, sym, if◌then◌else◌}
use Rattle.std.specs.Prelude.{Err, IfOk, IfSome, Ok, OnOk, Result, slice_get}
use Rattle.std.specs.Option.{ok_or}
use Rattle.std.specs.Str.{bytes_eq}
use Rattle.std.proofs.Math.Nat.{add-zero}
use Rattle.std.proofs.lemmas.List.{at_drop_all, length-map}
use Rattle.std.proofs.lemmas.Option.{none-some, same_Some}
use Rattle.tip_machine.proofs.Storing.{same_rows}
use Rattle.tip_actor.specs.Acting.{Acting}
use Rattle.tip_actor.specs.Standing.{Actor, StoredCore}
use Rattle.tip_actor.specs.declared.fault.ActFault.{ActFault}
use Rattle.tip_rows.specs.Keys.{Key}
use Rattle.tip_rows.specs.Logs.{IsPart, Keeping, Log}
use Rattle.tip_rows.specs.declared.row.Row.{Row}
use Rattle.tip_script.specs.Moves.{move_by}
use Rattle.tip_script.specs.Scripts.{Move, Declare, Label, Open, Dial, Feed, Lose, Push, Pull, Go, Drop, Resume, Refuse, Renew, Restart, realm_of}
use Rattle.tip_script.specs.declared.instruction.Instruction.{Instruction}
use Rattle.tip_script.specs.declared.instruction.Instruction.TheVariants as instruction
use Rattle.tip_scene.proofs.Again.{unmapped_at}
use Rattle.tip_scene.proofs.Leaving.{scene_stored}
use Rattle.tip_scene.proofs.Starting.{declaration_at, named_covered}
use Rattle.tip_scene.specs.Acts.{Basis, Declaring, Playing, are_covered, scene_of}
use Rattle.tip_scene.specs.Boxes.{box_count, boxes_for, boxes_if_meant, is_meant}
use Rattle.tip_scene.specs.Scenes.{Scene}
use Rattle.tip_scene.specs.Stages.{IsBasis}
use Rattle.tip_scene.specs.Standing.{IsScene}
use Rattle.tip_scene.specs.Wanting.{AreNamed, Has, HasAll, wanted_again, wanted_by}
use Rattle.tip_scene.specs.declared.declared.Declaration.{Declaration}

-- Rows that are read are those that are stored

module _ {T : Type 0} (only : Option (List ℕ)) (name : List ℕ) (rows : List (Key × Row)) (count : ℕ) where
  pub counts_meant : (log : Log) (epoch epoch' : ℕ) (read : List (Key × Row)) (sum : Option ℕ) (why : ActFault) (told : Result ℕ ActFault) → is_meant only name ≡ true → IfSome sum (λ n. n ≡ count + boxes_for read) → told ≡ ok_or sum why → IsPart log name epoch rows → (T → IsPart log name epoch' read) →
      IfOk told (λ more. T → more ≡ count + boxes_if_meant only name rows)
  counts_meant log epoch epoch' read sum why told meant counted is part reads = subst (λ r. IfOk r (λ more. T → more ≡ count + boxes_if_meant only name rows)) (sym is) (by sum counted) where
    by : (sum : Option ℕ) → IfSome sum (λ n. n ≡ count + boxes_for read) → IfOk (ok_or sum why) (λ more. T → more ≡ count + boxes_if_meant only name rows)
    by None counted = tt
    by (Some n) counted = λ truth.
        let own = reads truth in
        counted ∙ ap (λ l. count + boxes_for l) (same_rows read rows own.rising part.rising (λ key. own.same key ∙ sym (part.same key))) ∙ ap (λ b. count + (if b then boxes_for rows else 0)) (sym meant)

pub counts_unmeant : (only : Option (List ℕ)) (name : List ℕ) (rows : List (Key × Row)) (count : ℕ) → is_meant only name ≡ false → count ≡ count + boxes_if_meant only name rows
counts_unmeant only name rows count unmeant = sym (ap (λ b. count + (if b then boxes_for rows else 0)) unmeant ∙ add-zero count)

-- One realm after another

-- the rows of the realms from one on are its own and those behind it
from_one : (only : Option (List ℕ)) (scene : Scene) (place : ℕ) (acting : Acting) → slice_get scene place ≡ Some acting → box_count only (drop place scene) ≡ boxes_if_meant only acting.name acting.world.rows + box_count only (drop (place + 1) scene)
from_one only [] place acting here = absurd (none-some acting here)
from_one only (a ∷ scene) zero acting here = ap (λ (x : Acting). boxes_if_meant only x.name x.world.rows + box_count only scene) (same_Some a acting here)
from_one only (a ∷ scene) (suc place) acting here =
    let more : suc place + 1 ≡ suc (place + 1) = omega arith in
    from_one only scene place acting here ∙ ap (λ n. boxes_if_meant only acting.name acting.world.rows + box_count only (drop n (a ∷ scene))) (sym more)

moves_on : (all one rest behind count more : ℕ) → count + rest ≡ all → rest ≡ one + behind → more ≡ count + one → more + behind ≡ all
moves_on all one rest behind count more counted next is = omega (arith, counted, next, is)

module _ {S : Type 0} (kept : Keeping S) (only : Option (List ℕ)) (names : List (List ℕ)) (store : S) (scene : Scene) (named : AreNamed names scene) (has : HasAll kept store scene) where
  pub counts_one : (place : ℕ) (name : List ℕ) (count more : ℕ) → slice_get names place ≡ Some name → count + box_count only (drop place scene) ≡ box_count only scene →
      ((log : Log) (epoch : ℕ) (rows : List (Key × Row)) → kept.stands store log → IsPart log name epoch rows → more ≡ count + boxes_if_meant only name rows) → more + box_count only (drop (place + 1) scene) ≡ box_count only scene
  counts_one place name count more here counted one =
      let was = unmapped_at (λ (a : Acting). a.name) scene place name (subst (λ l. slice_get l place ≡ Some name) (sym named) here) in
      let own = has place was.0 was.1 in
      let rows = was.0.world.rows in
      let counts : more ≡ count + boxes_if_meant only was.0.name rows = subst (λ n. more ≡ count + boxes_if_meant only n rows) was.2 (one own.log own.epoch rows own.stood (subst (λ n. IsPart own.log n own.epoch rows) (sym was.2) own.part)) in
      moves_on (box_count only scene) (boxes_if_meant only was.0.name rows) (box_count only (drop place scene)) (box_count only (drop (place + 1) scene)) count more counted (from_one only scene place was.0 was.1) counts

  pub counts_all : (place count : ℕ) → length names ≤ place → count + box_count only (drop place scene) ≡ box_count only scene → count ≡ box_count only scene
  counts_all place count all counted =
      let past : length scene ≤ place = subst (λ n. n ≤ place) (sym (ap length named) ∙ length-map scene (λ (a : Acting). a.name)) all in
      sym (ap (λ n. count + n) (at_drop_all (box_count only) scene place past) ∙ add-zero count) ∙ counted

-- What a store has of realms

pub declared_names : (basis : Basis) (declarations : List Declaration) → AreNamed (map (λ (d : Declaration). d.name) declarations) (scene_of basis declarations)
declared_names basis [] = refl
declared_names basis (d ∷ declarations) = ap (λ l. d.name ∷ l) (declared_names basis declarations)

module _ {S : Type 0} (kept : Keeping S) where
  pub has_declared : (basis : Basis) (store : S) (declarations : List Declaration) → IsBasis kept basis store → are_covered basis declarations ≡ true → HasAll kept store (scene_of basis declarations)
  has_declared basis store declarations on covered = λ place acting here.
      let is = declaration_at basis declarations place acting here in
      let part = on.before is.0.name (named_covered basis declarations place is.0 is.1 covered) in
      subst (Has kept store) (sym is.2) (record { log = on.log; epoch = (basis.before is.0.name).epoch; stood = on.stood; part = part })

  pub has_scene : (stored_core : StoredCore S) (actors : List Actor) (scene : Scene) → IsScene kept stored_core actors scene → HasAll kept stored_core.store scene
  has_scene stored_core actors scene is = λ place acting here.
      let own = scene_stored kept stored_core actors scene is place acting here in
      record { log = own.log; epoch = acting.world.state.head.epoch; stood = own.stood; part = own.part }

-- what is so of a call that ends well
pub if_ok : {T E : Type 0} (A : Type 0) (result : Result T E) → OnOk result A → IfOk result (λ x. A)
if_ok A (Ok x) on = on
if_ok A (Err why) on = tt

-- Enough of them

-- for one of the realms, where there are enough for those of its name
pub enough_for_one : (name : List ℕ) (scene : Scene) (place : ℕ) (acting : Acting) → slice_get scene place ≡ Some acting → bytes_eq acting.name name ≡ true → boxes_for acting.world.rows ≤ box_count (Some name) scene
enough_for_one name [] place acting here is = absurd (none-some acting here)
enough_for_one name (a ∷ scene) zero acting here is =
    let same = same_Some a acting here in
    let own : boxes_if_meant (Some name) a.name a.world.rows ≡ boxes_for acting.world.rows = ap (λ (x : Acting). boxes_if_meant (Some name) x.name x.world.rows) same ∙ ap (λ b. if b then boxes_for acting.world.rows else 0) is in
    at_least (boxes_if_meant (Some name) a.name a.world.rows) (boxes_for acting.world.rows) (box_count (Some name) scene) own where
      at_least : (one own rest : ℕ) → one ≡ own → own ≤ one + rest
      at_least one own rest same = omega (arith, same)
enough_for_one name (a ∷ scene) (suc place) acting here is = behind (boxes_if_meant (Some name) a.name a.world.rows) (boxes_for acting.world.rows) (box_count (Some name) scene) (enough_for_one name scene place acting here is) where
  behind : (one own rest : ℕ) → own ≤ rest → own ≤ one + rest
  behind one own rest less = omega (arith, less)

-- what is of no realm starts all again
pub enough_for_all : (move : Move) (scene : Scene) (boxes : ℕ) → realm_of move ≡ None → wanted_again move scene ≤ boxes → box_count None scene ≤ boxes
enough_for_all (Declare name address branches limits) scene boxes of enough = absurd (none-some name (sym of))
enough_for_all (Label realm labels) scene boxes of enough = absurd (none-some realm (sym of))
enough_for_all (Open realm plans) scene boxes of enough = absurd (none-some realm (sym of))
enough_for_all (Dial realm address plans purpose) scene boxes of enough = absurd (none-some realm (sym of))
enough_for_all (Feed realm connection octets) scene boxes of enough = absurd (none-some realm (sym of))
enough_for_all (Lose realm connection) scene boxes of enough = absurd (none-some realm (sym of))
enough_for_all (Push realm connection id) scene boxes of enough = absurd (none-some realm (sym of))
enough_for_all (Pull realm connection superior) scene boxes of enough = absurd (none-some realm (sym of))
enough_for_all (Go realm) scene boxes of enough = absurd (none-some realm (sym of))
enough_for_all (Drop realm) scene boxes of enough = absurd (none-some realm (sym of))
enough_for_all (Resume realm id) scene boxes of enough = absurd (none-some realm (sym of))
enough_for_all (Refuse realm) scene boxes of enough = absurd (none-some realm (sym of))
enough_for_all (Renew realm) scene boxes of enough = absurd (none-some realm (sym of))
enough_for_all Restart scene boxes of enough = enough

-- a realm that starts again alone
pub enough_for_named : (move : Move) (realm name : List ℕ) (scene : Scene) (boxes : ℕ) → move ≡ Renew realm → realm_of move ≡ Some name → wanted_again move scene ≤ boxes → box_count (Some name) scene ≤ boxes
enough_for_named move realm name scene boxes is of enough =
    let same : realm ≡ name = same_Some realm name (sym (ap realm_of is) ∙ of) in
    subst (λ n. box_count (Some n) scene ≤ boxes) same (subst (λ m. wanted_again m scene ≤ boxes) is enough)

-- of those that come with a line, once the realms are at work
pub enough_at_work : (basis : Basis) (move : Move) (scene : Scene) (boxes : ℕ) → wanted_by basis (Playing scene) (Some move) ≤ boxes → wanted_again move scene ≤ boxes
enough_at_work basis (Declare name address branches limits) scene boxes enough = omega arith
enough_at_work basis (Label realm labels) scene boxes enough = omega arith
enough_at_work basis (Open realm plans) scene boxes enough = omega arith
enough_at_work basis (Dial realm address plans purpose) scene boxes enough = omega arith
enough_at_work basis (Feed realm connection octets) scene boxes enough = omega arith
enough_at_work basis (Lose realm connection) scene boxes enough = omega arith
enough_at_work basis (Push realm connection id) scene boxes enough = omega arith
enough_at_work basis (Pull realm connection superior) scene boxes enough = omega arith
enough_at_work basis (Go realm) scene boxes enough = omega arith
enough_at_work basis (Drop realm) scene boxes enough = omega arith
enough_at_work basis (Resume realm id) scene boxes enough = omega arith
enough_at_work basis (Refuse realm) scene boxes enough = omega arith
enough_at_work basis (Renew realm) scene boxes enough = omega (arith, enough)
enough_at_work basis Restart scene boxes enough = omega (arith, enough)

-- and of those that come with the line that starts them
module _ (basis : Basis) (declarations : List Declaration) (boxes : ℕ) where
  pub enough_at_first : (i : Instruction) → ((name : _) (address : _) (branches : ℕ) (limits : _) → i ≢ instruction.Realm name address branches limits) → ((realm : _) (labels : _) → i ≢ instruction.Labels realm labels) → wanted_by basis (Declaring declarations) (Some (move_by i)) ≤ boxes →
      box_count None (scene_of basis declarations) + wanted_again (move_by i) (scene_of basis declarations) ≤ boxes
  enough_at_first (instruction.Realm name address branches limits) other unlabelled enough = absurd (other name address branches limits refl)
  enough_at_first (instruction.Labels realm labels) other unlabelled enough = absurd (unlabelled realm labels refl)
  enough_at_first (instruction.Open realm kinds) other unlabelled enough = enough
  enough_at_first (instruction.Dial realm address kinds aim) other unlabelled enough = enough
  enough_at_first (instruction.Feed realm connection octets) other unlabelled enough = enough
  enough_at_first (instruction.Lost realm connection) other unlabelled enough = enough
  enough_at_first (instruction.Push asked) other unlabelled enough = enough
  enough_at_first (instruction.Pull asked) other unlabelled enough = enough
  enough_at_first (instruction.Go realm) other unlabelled enough = enough
  enough_at_first (instruction.Drop realm) other unlabelled enough = enough
  enough_at_first (instruction.Resume realm id) other unlabelled enough = enough
  enough_at_first (instruction.Refuse realm) other unlabelled enough = enough
  enough_at_first (instruction.Renew realm) other unlabelled enough = enough
  enough_at_first instruction.Restart other unlabelled enough = enough

-- some are left for what starts again
pub enough_then : (first again boxes left : ℕ) → first + again ≤ boxes → left + first ≡ boxes → again ≤ left
enough_then first again boxes left enough left_is = omega (arith, enough, left_is)

pub enough_first : (first again boxes : ℕ) → first + again ≤ boxes → first ≤ boxes
enough_first first again boxes enough = omega (arith, enough)
