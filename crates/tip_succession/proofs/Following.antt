-- Process by process.
use Rattle.std.proofs.Common.{◌≡◌, ◌<◌, Bool, true, false, ℕ, List, [], ◌∷◌, ◌++◌, Option, Some, None, refl, ap, arith, subst, sym, ◌∙◌, inl, inr}
use Rattle.std.specs.Prelude.{◌||◌, filter, find, is_some, nat_le, nat_lt, option_map}
use Rattle.std.specs.List.{list_all}
use Rattle.std.specs.Option.{option_map_or}
use Rattle.std.specs.Str.{bytes_eq}
use Rattle.std.proofs.lemmas.Bool.{or_left}
use Rattle.std.proofs.lemmas.Bool.Decides.{nat_tests}
use Rattle.tip_line.proofs.Texts.{find_passes}
use Rattle.tip_rows.proofs.MemoryLemmas.{same_text}
use Rattle.tip_rows.specs.Keys.{Key}
use Rattle.tip_rows.specs.Logs.{row_at}
use Rattle.tip_rows.specs.declared.row.Row.{Row}
use Rattle.tip_machine.specs.Agreement.{IsAgreed, is_asked, is_backed, is_committed_row, is_kept, is_made_in, row_in, was_committed, were_willing}
use Rattle.tip_machine.specs.Agreement.Traces.{Moment, at_each_behind, shown_in, traced}
use Rattle.tip_machine.specs.Answers.{identifier}
use Rattle.tip_machine.specs.Honest.{is_run}
use Rattle.tip_machine.specs.Invariants.Bounds.{is_spelled}
use Rattle.tip_machine.specs.Moves.{Move, World, led_to}
use Rattle.tip_machine.specs.Starting.{IsStart}
use Rattle.tip_agreement.proofs.Asked.{row_was_asked, run_is_agreed}
use Rattle.tip_agreement.proofs.Backing.{row_was_stored, same_row}
use Rattle.tip_agreement.proofs.Declared.{name_led}
use Rattle.tip_agreement.proofs.Keeping.{in_all, in_append}
use Rattle.tip_agreement.proofs.Kept.{reached_sound}
use Rattle.tip_agreement.proofs.Restarts.{may_begin, start_sound}
use Rattle.tip_agreement.proofs.Walking.{In, in_found}
use Rattle.tip_succession.specs.Agreement.{IsAgreedByAll, is_asked_then, was_asked}
use Rattle.tip_succession.specs.Processes.{Follow, MayFollow, Process, begun_by, moments_by}
use Rattle.tip_succession.proofs.Declaring.{processes_agree}
use Rattle.tip_succession.proofs.Joining.{Begins, asked_behind, asked_so, at_each_both, backed_behind, kept_behind, shown_both, was_before}
use Rattle.tip_succession.proofs.Moments.{IsMade, IsMoment, each_moment, made_here, rises_led}

-- The row of an identifier is that of a key

record HasKey (realm id : List ℕ) (rows : List (Key × Row)) : Type 0 where
  key : Key
  spelled : is_spelled key ≡ true
  spells : id ≡ identifier realm key
  row : row_in realm id rows ≡ row_at key rows

key_of : (realm id : List ℕ) (rows : List (Key × Row)) → list_all (λ (e : Key × Row). is_spelled e.0) rows ≡ true → is_some (row_in realm id rows) ≡ true → HasKey realm id rows
key_of realm id rows spelled = step (find (λ (e : Key × Row). bytes_eq id (identifier realm e.0)) rows) refl where
  test : Key × Row → Bool
  test e = bytes_eq id (identifier realm e.0)

  step : (found : Option (Key × Row)) → find test rows ≡ found → is_some (option_map (λ (e : Key × Row). e.1) found) ≡ true → HasKey realm id rows
  step None at is = absurd (let wrong : false ≡ true = is in cc)
  step (Some e) at is =
      let fine = in_all (λ (e : Key × Row). is_spelled e.0) rows e spelled (in_found test rows e at) in
      let spells = same_text id (identifier realm e.0) (find_passes test rows e at) in
      record { key = e.0; spelled = fine; spells = spells; row = ap (λ x. row_in realm x rows) spells ∙ same_row realm e.0 fine rows spelled }

-- WHERE THE FIRST BEGINS
first_begins : (start : World) (id : List ℕ) → IsStart start → Begins start id [] start
first_begins start id started = record {
  started = started;
  name = refl;
  past = λ m none. absurd none;
  made = λ m none. absurd none;
  committed = λ stood. or_left _ _ stood;
  asked = λ stood. or_left _ _ stood;
}

module _ (start : World) (id : List ℕ) (before : List Moment) (begun : World) (moves : List Move) (begins : Begins start id before begun) (run : is_run begun moves ≡ true) where
  abbrev realm : List ℕ
  realm = start.state.head.name

  abbrev own : List Moment
  own = traced begun moves

  abbrev last : World
  last = led_to begun moves

  of : (m : Moment) → In m own → IsMoment begun last m
  of = each_moment begun moves (start_sound begun begins.started) run

  agreed : IsAgreed begun own id
  agreed = run_is_agreed begun moves id begins.started run

  backed : at_each_behind before (is_backed realm id start) own ≡ true
  backed = backed_behind start id before begun last begins own of (subst (λ n. at_each_behind [] (is_backed n id begun) own ≡ true) begins.name agreed.backed)

  kept : at_each_behind before (is_kept realm id start) own ≡ true
  kept = kept_behind start id before begun last begins own of (subst (λ n. at_each_behind [] (is_kept n id begun) own ≡ true) begins.name agreed.kept)

  asked : at_each_behind before (is_asked_then realm id start) own ≡ true
  asked = asked_behind start id before begun last begins own of (subst (λ n. at_each_behind [] (is_asked n id begun) own ≡ true) begins.name agreed.asked)

  -- WHERE THE NEXT BEGINS
  module _ (next : Process) (may : MayFollow last next) where
    starts : IsStart (begun_by next last)
    starts = may_begin last next.head next.boxes (reached_sound begun moves begins.started run) may.starting may.later may.adopted

    later : (old now : ℕ) → nat_lt old begun.state.head.epoch ≡ true → nat_le begun.state.head.epoch now ≡ true → nat_lt old now ≡ true
    later old now less least = grind (arith, nat_tests, less, least)

    past_last : (m : Moment) → In m (before ++ own) → nat_le m.world.state.head.epoch last.state.head.epoch ≡ true
    past_last m there = elim (in_append before own m there) [
      | inl old ↦ through m.world.state.head.epoch begun.state.head.epoch last.state.head.epoch (begins.past m old) (rises_led begun moves)
      | inr new ↦ (of m new).most
    ] where
      through : (a b c : ℕ) → nat_lt a b ≡ true → nat_le b c ≡ true → nat_le a c ≡ true
      through a b c less least = grind (arith, nat_tests, less, least)

    past : (m : Moment) → In m (before ++ own) → nat_lt m.world.state.head.epoch next.head.epoch ≡ true
    past m there = through m.world.state.head.epoch last.state.head.epoch next.head.epoch (past_last m there) may.later where
      through : (a b c : ℕ) → nat_le a b ≡ true → b < c → nat_lt a c ≡ true
      through a b c least less = grind (arith, nat_tests, least, less)

    made_then : (m : Moment) → In m (before ++ own) → is_made_in realm id m ≡ true → IsMade realm id m
    made_then m there is = elim (in_append before own m there) [
      | inl old ↦ begins.made m old is
      | inr new ↦ subst (λ n. IsMade n id m) begins.name (made_here begun last m id (of m new) (subst (λ n. is_made_in n id m ≡ true) (sym begins.name) is))
    ]

    keyed : is_some (row_in realm id last.rows) ≡ true → HasKey realm id last.rows
    keyed = key_of realm id last.rows starts.rows.spelled

    is_row : (row : Option Row) → option_map_or is_committed_row row false ≡ true → is_some row ≡ true
    is_row None is = is
    is_row (Some row) is = refl

    committed_then : option_map_or is_committed_row (row_in realm id last.rows) false ≡ true → was_committed realm id start (shown_in (before ++ own)) ≡ true
    committed_then stands =
        let its = keyed (is_row (row_in realm id last.rows) stands) in
        let row : option_map_or is_committed_row (row_at its.key last.rows) false ≡ true = subst (λ r. option_map_or is_committed_row r false ≡ true) its.row stands in
        let stored = row_was_stored begun moves its.key begins.started run its.spelled row in
        let here : was_committed realm id begun (shown_in own) ≡ true = subst (λ x. was_committed realm x begun (shown_in own) ≡ true) (sym its.spells) (subst (λ n. was_committed n (identifier n its.key) begun (shown_in own) ≡ true) begins.name stored) in
        subst (λ xs. was_committed realm id start xs ≡ true) (sym (shown_both before own)) (was_before start id before begun last begins own of (shown_in own) here)

    asked_then : is_some (row_in realm id last.rows) ≡ true → is_some (row_in realm id start.rows) || was_asked realm id (before ++ own) ≡ true
    asked_then stands =
        let its = keyed stands in
        let row : is_some (row_at its.key last.rows) ≡ true = subst (λ r. is_some r ≡ true) its.row stands in
        let was = row_was_asked begun moves its.key begins.started run its.spelled row in
        let here : is_some (row_in realm id begun.rows) || were_willing realm id (filter (is_made_in realm id) own) begun.state.head.branches ≡ true = subst (λ x. is_some (row_in realm x begun.rows) || were_willing realm x (filter (is_made_in realm x) own) begun.state.head.branches ≡ true) (sym its.spells) (subst (λ n. is_some (row_in n (identifier n its.key) begun.rows) || were_willing n (identifier n its.key) (filter (is_made_in n (identifier n its.key)) own) begun.state.head.branches ≡ true) begins.name was) in
        asked_so start id before begun last begins own of own (λ m there. there) here

    next_begins : Begins start id (before ++ own) (begun_by next last)
    next_begins = record { started = starts; name = may.named ∙ (name_led begun moves ∙ begins.name); past = past; made = made_then; committed = committed_then; asked = asked_then }

-- SO THEY AGREE, one behind the other

record AreAgreed (start : World) (id : List ℕ) (before moments : List Moment) : Type 0 where
  backed : at_each_behind before (is_backed start.state.head.name id start) moments ≡ true
  kept : at_each_behind before (is_kept start.state.head.name id start) moments ≡ true
  asked : at_each_behind before (is_asked_then start.state.head.name id start) moments ≡ true

joined : (start : World) (id : List ℕ) (before : List Moment) (begun : World) (moves : List Move) → Begins start id before begun → is_run begun moves ≡ true → (later : List Moment) → AreAgreed start id (before ++ traced begun moves) later → AreAgreed start id before (traced begun moves ++ later)
joined start id before begun moves begins run later rest =
    let own = traced begun moves in
    record {
      backed = at_each_both (is_backed start.state.head.name id start) before own later (backed start id before begun moves begins run) rest.backed;
      kept = at_each_both (is_kept start.state.head.name id start) before own later (kept start id before begun moves begins run) rest.kept;
      asked = at_each_both (is_asked_then start.state.head.name id start) before own later (asked start id before begun moves begins run) rest.asked;
    }

agree_behind : (start : World) (id : List ℕ) (before : List Moment) (begun : World) (moves : List Move) (processes : List Process) → Begins start id before begun → is_run begun moves ≡ true → Follow (led_to begun moves) processes → AreAgreed start id before (traced begun moves ++ moments_by (led_to begun moves) processes)
agree_behind start id before begun moves [] begins run follow = joined start id before begun moves begins run [] (record { backed = refl; kept = refl; asked = refl })
agree_behind start id before begun moves (next ∷ more) begins run (may, honest, rest) =
    let last = led_to begun moves in
    joined start id before begun moves begins run (moments_by last (next ∷ more)) (agree_behind start id (before ++ traced begun moves) (begun_by next last) next.moves more (next_begins start id before begun moves begins run next may) honest rest)

-- ALL FOUR
pub all_agree : (start : World) (moves : List Move) (processes : List Process) (id : List ℕ) → IsStart start → is_run start moves ≡ true → Follow (led_to start moves) processes → IsAgreedByAll start moves processes id
all_agree start moves processes id started run follow =
    let agree = agree_behind start id [] start moves processes (first_begins start id started) run follow in
    record { one = processes_agree start moves processes id started run follow; backed = agree.backed; kept = agree.kept; asked = agree.asked }
