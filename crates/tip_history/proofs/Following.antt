-- What a script leaves of a realm may be played on.
use Rattle.std.proofs.Common.{◌≡◌, ◌+◌, ◌++◌, ◌∷◌, ◌∙◌, ℕ, zero, suc, true, List, [], Option, Some, None, arith, refl, ap, subst, sym}
use Rattle.std.specs.Prelude.{◌&&◌, ◌==◌, ◌||◌, filter, map, not, slice_get}
use Rattle.std.specs.List.{list_all, list_any}
use Rattle.std.proofs.lemmas.Bool.{and_from, and_parts}
use Rattle.std.proofs.lemmas.Option.{none-some, same_Some}
use Rattle.tip_agreement.proofs.Kept.{reached_sound}
use Rattle.tip_agreement.proofs.Restarts.{may_begin}
use Rattle.tip_agreement.specs.Successors.{at_start}
use Rattle.tip_branch.specs.declared.branch.Badge.{Badge}
use Rattle.tip_actor.specs.Acting.{Acting, boxes_in}
use Rattle.tip_machine.specs.Heads.{is_within, starting}
use Rattle.tip_machine.specs.Invariants.{IsSound, came_twice}
use Rattle.tip_machine.specs.Invariants.Links.{are_distinct}
use Rattle.tip_machine.specs.Invariants.Stored.{is_stored_as}
use Rattle.tip_machine.specs.Moves.{loaded}
use Rattle.tip_machine.specs.Recovery.{reopened}
use Rattle.tip_machine.specs.Starting.{is_starting}
use Rattle.tip_machine.specs.Transactions.{comes_from, is_undecided}
use Rattle.tip_machine.specs.Types.{Transaction}
use Rattle.tip_machine.specs.declared.head.Head.{Head}
use Rattle.tip_machine.specs.declared.transaction.Origin.{Origin}
use Rattle.tip_machine.specs.declared.transaction.Origin.TheVariants as origin
use Rattle.tip_rows.specs.Keys.{Key}
use Rattle.tip_rows.specs.Logs.{is_rising, last_epoch, row_at}
use Rattle.tip_rows.specs.declared.row.Row.{Row}
use Rattle.tip_rows.specs.declared.row.Row.TheVariants as row
use Rattle.tip_script.specs.Scripts.{Move as Order}
use Rattle.tip_scene.specs.Acts.{Basis, Stage, Declaring, Playing, scene_of, start_of}
use Rattle.tip_scene.specs.Blaming.{starting_from}
use Rattle.tip_scene.specs.Scenes.{Scene}
use Rattle.tip_scene.specs.declared.declared.Declaration.{Declaration}
use Rattle.tip_play.specs.Transcripts.{Ending, Reached, Fault, act_of, all_played, lines_of, played, played_on}
use Rattle.tip_history.specs.Histories.{AllMayFollow, AreWritten, History, MayFollow, asked_in, begin_of, left_from, left_of, left_on}
use Rattle.tip_history.specs.Sayings.{Line}
use Rattle.tip_history.proofs.Declaring.{within}
use Rattle.tip_history.proofs.Doing.{boxes_are_adopted}
use Rattle.tip_history.proofs.Mixing.{AreOf, IsOf, Mixed}
use Rattle.tip_history.proofs.Playing.{Stands, at_stage, line_so, nothing_yet, started, then_said}

-- Whether two rows are of one transaction of one superior does not hang on the declaration

came_by : (t t' : Transaction) (from : Origin) → t.origin ≡ t'.origin → came_twice t from ≡ came_twice t' from
came_by t t' origin.Root same = refl
came_by t t' (origin.Subordinate address superior) same = ap (comes_from address superior) same

module _ (head head' : Head) (boxes : Key → List Badge) where
  abbrev undecided : Head → List (Key × Row) → List Transaction
  undecided h rows = filter (λ (t : Transaction). is_undecided t.phase) (map (λ l. reopened h l.key l.boxes l.row) (loaded boxes rows))

  any_same : (t t' : Transaction) → t.origin ≡ t'.origin → (rows : List (Key × Row)) → list_any (λ (u : Transaction). came_twice t u.origin) (undecided head rows) ≡ list_any (λ (u : Transaction). came_twice t' u.origin) (undecided head' rows)
  any_same t t' same [] = refl
  any_same t t' same ((k, row.Committed branches pairs) ∷ rows) = any_same t t' same rows
  any_same t t' same ((k, row.Prepared address superior branches pairs) ∷ rows) =
      let rest = any_same t t' same rows in
      let first = came_by t t' (origin.Subordinate (Some address) superior) same in
      λ i. first i || rest i

  once_same : (rows : List (Key × Row)) → are_distinct (λ (this that : Transaction). came_twice this that.origin) (undecided head rows) ≡ are_distinct (λ (this that : Transaction). came_twice this that.origin) (undecided head' rows)
  once_same [] = refl
  once_same ((k, row.Committed branches pairs) ∷ rows) = once_same rows
  once_same ((k, row.Prepared address superior branches pairs) ∷ rows) =
      let rest = once_same rows in
      let first = any_same (reopened head k (boxes k) (row.Prepared address superior branches pairs)) (reopened head' k (boxes k) (row.Prepared address superior branches pairs)) refl rows in
      λ i. not (first i) && rest i

-- One realm

-- a realm that could start can start in another epoch
at_starts : (head : Head) (epoch : ℕ) → is_starting head ≡ true → is_within 1 last_epoch epoch ≡ true → is_starting (at_start head epoch) ≡ true
at_starts head epoch is fine =
    let a = and_parts _ (head.entries == 0) is in
    let b = and_parts _ (head.given == 0) a.0 in
    let c = and_parts _ (is_within 1 last_epoch head.epoch) b.0 in
    and_from _ _ (and_from _ _ (and_from _ _ c.0 fine) refl) refl

one_follows : {asked : List ℕ → List Order} (basis : Basis) (lines : List Line) (history : History) (acting : Acting) → IsOf basis asked lines history acting → MayFollow acting
one_follows basis lines history acting is rises declaration =
    let world = acting.world in
    let epoch = world.state.head.epoch in
    let begin = begin_of basis history in
    let sound : IsSound world = subst IsSound (sym is.led) (reached_sound begin history.moves is.start is.run) in
    let rising : is_rising world.rows ≡ true = (and_parts (is_rising world.rows) _ (and_parts (is_rising world.rows && list_all (λ (t : Transaction). is_stored_as t.phase t (row_at t.key world.rows)) world.state.transactions) _ sound.stored).0).0 in
    let head = at_start begin.state.head (epoch + 1) in
    let start = may_begin world head (boxes_in world.rows) sound (at_starts begin.state.head (epoch + 1) is.start.head (within epoch rises)) (omega arith) (boxes_are_adopted world.rows rising) in
    record {
      rises = rises;
      rows = start.rows;
      known_once = sym (once_same head (starting (start_of (left_of acting) declaration)) (boxes_in world.rows) world.rows) ∙ start.known_once;
    }

-- All of them

follow_at : (asked : List ℕ → List Order) (basis : Basis) (lines : List Line) (histories : List History) (scene : Scene) (place : ℕ) (acting : Acting) → AreOf basis asked lines histories scene → slice_get scene place ≡ Some acting → MayFollow acting
follow_at asked basis lines [] [] place acting are here = absurd (none-some acting here)
follow_at asked basis lines [] (a ∷ scene) place acting are here = absurd are
follow_at asked basis lines (h ∷ histories) [] place acting are here = absurd are
follow_at asked basis lines (h ∷ histories) (a ∷ scene) zero acting are here = one_follows basis lines h acting (subst (IsOf basis asked lines h) (same_Some a acting here) are.0)
follow_at asked basis lines (h ∷ histories) (a ∷ scene) (suc place) acting are here = follow_at asked basis lines histories scene place acting are.1 here

mixed_follow : {asked : List ℕ → List Order} (basis : Basis) (declarations : List Declaration) (text : List ℕ) (scene : Scene) → Mixed basis declarations asked text scene → AllMayFollow scene
mixed_follow basis declarations text scene mixed place acting here = follow_at _ basis mixed.lines mixed.histories scene place acting mixed.each here

abbrev stage_of : Ending → Stage
stage_of (Reached stage) = stage
stage_of (Fault number) = Declaring []

-- where the lines reach a stage, they leave the realms as they are there
pub left_at : (basis : Basis) (stage : Stage) (number : ℕ) (lines : List (List ℕ)) (last : Stage) → (played basis stage number lines).ending ≡ Reached last → left_from basis stage lines ≡ starting_from basis last
left_at basis stage number [] last is = ap (starting_from basis) (ap stage_of is)
left_at basis stage number (line ∷ lines) last is = at (act_of basis stage line).stage (λ next there. left_at basis next (number + 1) lines last there) is where
  at : (next : Option Stage) → ((later : Stage) → (played basis later (number + 1) lines).ending ≡ Reached last → left_from basis later lines ≡ starting_from basis last) → (played_on (act_of basis stage line).printed next number (λ later. played basis later (number + 1) lines)).ending ≡ Reached last → left_on (starting_from basis stage) next (λ n. left_from basis n lines) ≡ starting_from basis last
  at None more is = absurd (cc is)
  at (Some next) more is = more next is

module _ (basis : Basis) (written : AreWritten basis) where
  stage_follows : (declarations : List Declaration) (said : List Order) (text : List ℕ) (stage : Stage) → Stands basis declarations said text stage → AllMayFollow (starting_from basis stage)
  stage_follows declarations said text (Declaring now) stands = mixed_follow basis now _ (scene_of basis now) (started basis now written stands.0)
  stage_follows declarations said text (Playing scene) stands = mixed_follow basis declarations text scene stands

  -- The stage that is reached

  IsThere : Stage → Type 0
  IsThere stage = (declarations : List Declaration) × (said : List Order) × (text : List ℕ) × Stands basis declarations said text stage

  reached : (declarations : List Declaration) (said : List Order) (text : List ℕ) (stage : Stage) (number : ℕ) (lines : List (List ℕ)) (last : Stage) → Stands basis declarations said text stage → (played basis stage number lines).ending ≡ Reached last → IsThere last
  unfolding IsThere
  reached declarations said text stage number [] last stands is = (declarations, said, text, subst (Stands basis declarations said text) (ap stage_of is) stands)
  reached declarations said text stage number (line ∷ lines) last stands is = at (act_of basis stage line).stage refl (λ next on. reached (at_stage declarations stage) (then_said said (asked_in line) next) (text ++ (act_of basis stage line).printed) next (number + 1) lines last on) is where
    here : List ℕ
    here = (act_of basis stage line).printed

    at : (next : Option Stage) → (act_of basis stage line).stage ≡ next → ((later : Stage) → Stands basis (at_stage declarations stage) (then_said said (asked_in line) later) (text ++ here) later → (played basis later (number + 1) lines).ending ≡ Reached last → IsThere last) → (played_on here next number (λ later. played basis later (number + 1) lines)).ending ≡ Reached last → IsThere last
    at None none more is = absurd (cc is)
    at (Some next) on more is = more next ((line_so basis written declarations said text stage line stands).on next on) is

  pub script_follows : (script : List ℕ) (stage : Stage) → (all_played basis script).ending ≡ Reached stage → AllMayFollow (starting_from basis stage)
  unfolding IsThere
  script_follows script stage is = let there = reached [] [] [] (Declaring []) 1 (lines_of script) stage (nothing_yet basis) is in stage_follows there.0 there.1 there.2 stage there.3
