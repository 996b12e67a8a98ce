-- A realm stays true to its word from process to process, however each declares it.
use Rattle.std.proofs.Common.{◌≡◌, ◌<◌, Bool, true, false, ℕ, List, [], ◌∷◌, ◌++◌, Some, cond, refl, subst, sym, arith, ◌∙◌, if◌then◌else◌}
use Rattle.std.specs.Prelude.{◌==◌, flat_map, nat_lt}
use Rattle.std.specs.List.{list_any}
use Rattle.std.proofs.lemmas.Bool.{and_from, and_parts, or_left}
use Rattle.std.proofs.lemmas.Bool.Decides.{nat_tests}
use Rattle.std.proofs.lemmas.List.{append-nil, append_assoc}
use Rattle.tip_branch.specs.declared.branch.Badge.{Badge}
use Rattle.tip_rows.specs.Keys.{Key, is_same}
use Rattle.tip_rows.specs.Logs.{last_epoch}
use Rattle.tip_rows.specs.declared.row.Row.{Row}
use Rattle.tip_rows.specs.declared.row.Row.TheVariants as row
use Rattle.tip_machine.specs.Agreement.Traces.{shown_in, traced}
use Rattle.tip_machine.specs.Agreement.Verdicts.{Verdict, is_abort, is_commit, is_unanimous, told}
use Rattle.tip_machine.specs.Answers.{identifier}
use Rattle.tip_machine.specs.Heads.{is_within}
use Rattle.tip_machine.specs.Honest.{can_start, is_run}
use Rattle.tip_machine.specs.Invariants.{IsSound}
use Rattle.tip_machine.specs.Moves.{Move, World, drops_here, led_to, loaded, risen}
use Rattle.tip_machine.specs.Outputs.{Output, drops_of}
use Rattle.tip_machine.specs.Recovery.{reopened, restarted}
use Rattle.tip_machine.specs.Starting.{IsStart}
use Rattle.tip_machine.specs.States.{transaction_of}
use Rattle.tip_machine.specs.Types.{Transaction}
use Rattle.tip_machine.specs.declared.head.Head.{Head}
use Rattle.tip_machine.proofs.Identifiers.{given_later}
use Rattle.tip_agreement.specs.Successors.{started_over}
use Rattle.tip_succession.specs.Processes.{Follow, MayFollow, Process, begun_by, let_go, shown_by}
use Rattle.tip_agreement.specs.Truth.{IsTrueTo, Word, fits, word_of}
use Rattle.tip_agreement.proofs.Agreeing.{all_lost_true, alone_sound, one_told, run_true, start_true}
use Rattle.tip_agreement.proofs.Declared.{name_led}
use Rattle.tip_agreement.proofs.Kept.{reached_sound, run_sound}
use Rattle.tip_agreement.proofs.Renewing.{given_before, renewed_true}
use Rattle.tip_agreement.proofs.Restarts.{may_begin, start_sound}
use Rattle.tip_agreement.proofs.Telling.{any_told, told_more}
use Rattle.tip_agreement.proofs.Truthful.{any_verdict}
use Rattle.tip_agreement.proofs.Wording.{Less, fits_less, or_less}

-- Less is shown

module _ (world : World) (some more : List Output) where
  less_told : (test : Verdict → Bool) (id : List ℕ) → list_any test (told world.state.head.name id some) ≡ true → list_any test (told world.state.head.name id (some ++ more)) ≡ true
  less_told test id is = any_told test world.state.head.name id (some ++ more) ∙ told_more test world.state.head.name id some more ∙ or_left _ _ (sym (any_told test world.state.head.name id some) ∙ is)

  less_said : (id : List ℕ) → Less (word_of world some id) (word_of world (some ++ more) id)
  less_said id = record {
    commit = or_less _ _ _ _ (less_told is_commit id) (λ is. is);
    abort = or_less _ _ _ _ (less_told is_abort id) (λ is. is);
    awaited = λ is. is;
  }

  pub less_true : IsTrueTo (some ++ more) world → IsTrueTo some world
  less_true true_to = record {
    fits = λ k fine. let id = identifier world.state.head.name k in fits_less (transaction_of k world.state) (word_of world some id) (word_of world (some ++ more) id) (less_said id) (true_to.fits k fine);
    given = λ k fine is. let id = identifier world.state.head.name k in true_to.given k fine (or_less _ _ _ _ (less_said id).commit (less_said id).abort is);
    uncalled = true_to.uncalled;
    ours = λ id is. true_to.ours id (or_less _ _ _ _ (less_told any_verdict id) (λ out. out) is);
  }

-- Declared otherwise

module _ (h head : Head) (boxes : Key → List Badge) where
  -- what a row makes fits the same words
  same_fits : (word : Word) (key : Key) (rows : List (Key × Row)) → fits (transaction_of key (restarted h (loaded boxes rows))) word ≡ fits (transaction_of key (restarted head (loaded boxes rows))) word
  same_fits word key [] = refl
  same_fits word key ((k, row.Prepared address superior branches subordinates) ∷ rows) = step (is_same key k) (same_fits word key rows) where
    back : Head → Transaction
    back now = reopened now k (boxes k) (row.Prepared address superior branches subordinates)

    step : (b : Bool) → fits (transaction_of key (restarted h (loaded boxes rows))) word ≡ fits (transaction_of key (restarted head (loaded boxes rows))) word → fits (cond b (Some (back h)) (transaction_of key (restarted h (loaded boxes rows)))) word ≡ fits (cond b (Some (back head)) (transaction_of key (restarted head (loaded boxes rows)))) word
    step true rest = refl
    step false rest = rest
  same_fits word key ((k, row.Committed branches subordinates) ∷ rows) = step (is_same key k) (same_fits word key rows) where
    back : Head → Transaction
    back now = reopened now k (boxes k) (row.Committed branches subordinates)

    step : (b : Bool) → fits (transaction_of key (restarted h (loaded boxes rows))) word ≡ fits (transaction_of key (restarted head (loaded boxes rows))) word → fits (cond b (Some (back h)) (transaction_of key (restarted h (loaded boxes rows)))) word ≡ fits (cond b (Some (back head)) (transaction_of key (restarted head (loaded boxes rows)))) word
    step true rest = refl
    step false rest = rest

can_follow : (world : World) (next : Process) → MayFollow world next → can_start next.boxes world ≡ true
can_follow world next may =
    let head = next.head in
    let a = and_parts _ (head.entries == 0) may.starting in
    let b = and_parts _ (head.given == 0) a.0 in
    let within : is_within 1 last_epoch head.epoch ≡ true = (and_parts _ (is_within 1 last_epoch head.epoch) b.0).1 in
    let later = may.later in
    let less : nat_lt world.state.head.epoch last_epoch ≡ true = grind (arith, nat_tests, within, later) in
    and_from _ _ less may.adopted

-- under its own name
named_true : (world : World) (shown : List Output) (head : Head) (boxes : Key → List Badge) → IsSound world → IsTrueTo shown world → can_start boxes world ≡ true → world.state.head.epoch < head.epoch → IsTrueTo (shown ++ let_go world) (started_over (record head { name = world.state.head.name }) boxes world)
named_true world shown head boxes sound true_to can later =
    let alone : World = record world { errands = [] } in
    let still = alone_sound world sound in
    let said = shown ++ flat_map drops_of world.errands in
    let lost = all_lost_true world world.errands shown sound sound.out true_to in
    let after = renewed_true boxes alone still can said lost in
    let now : Head = record head { name = world.state.head.name } in
    subst (λ xs. IsTrueTo xs (started_over now boxes world)) (append_assoc shown (flat_map drops_of world.errands) (drops_here world.state)) (record {
      fits = λ k fine. sym (same_fits (risen world.state.head) now boxes (word_of (started_over now boxes world) (said ++ drops_here world.state) (identifier world.state.head.name k)) k world.rows) ∙ after.fits k fine;
      given = λ k fine is. given_later world.state (restarted now (loaded boxes world.rows)) k later (given_before boxes alone still can said lost k fine is);
      uncalled = refl;
      ours = after.ours;
    })

-- EACH START LEAVES A REALM TRUE TO ITS WORD, however it is declared then
pub begun_true : (world : World) (shown : List Output) (next : Process) → IsSound world → IsTrueTo shown world → MayFollow world next → IsTrueTo (shown ++ let_go world) (begun_by next world)
begun_true world shown next sound true_to may = subst (λ name. IsTrueTo (shown ++ let_go world) (started_over (record next.head { name = name }) next.boxes world)) (sym may.named) (named_true world shown next.head next.boxes sound true_to (can_follow world next may) may.later)

-- where the process before was killed, too
after_all : (peace : Bool) (world : World) (shown : List Output) (next : Process) → IsSound world → IsTrueTo shown world → MayFollow world next → IsTrueTo (shown ++ (if peace then let_go world else [])) (begun_by next world)
after_all true world shown next sound true_to may = begun_true world shown next sound true_to may
after_all false world shown next sound true_to may = subst (λ xs. IsTrueTo xs (begun_by next world)) (sym (append-nil shown)) (less_true (begun_by next world) shown (let_go world) (begun_true world shown next sound true_to may))

-- SO ALL OF THEM give one word
follows_one : (world : World) (shown : List Output) (processes : List Process) (id : List ℕ) → IsSound world → IsTrueTo shown world → Follow world processes → is_unanimous (told world.state.head.name id (shown ++ shown_by world processes)) ≡ true
follows_one world shown [] id sound true_to follow = subst (λ xs. is_unanimous (told world.state.head.name id xs) ≡ true) (sym (append-nil shown)) (one_told shown world id true_to)
follows_one world shown (next ∷ more) id sound true_to (may, run, rest) =
    let begun = begun_by next world in
    let ended = if next.in_peace then let_go world else [] in
    let began = after_all next.in_peace world shown next sound true_to may in
    let starts = may_begin world next.head next.boxes sound may.starting may.later may.adopted in
    let went = run_true begun next.moves (shown ++ ended) (start_sound begun starts) began run in
    let reached = run_sound begun next.moves (start_sound begun starts) run in
    let one = follows_one (led_to begun next.moves) ((shown ++ ended) ++ shown_in (traced begun next.moves)) more id reached went rest in
    let name : (led_to begun next.moves).state.head.name ≡ world.state.head.name = name_led begun next.moves ∙ may.named in
    let all = append_assoc (shown ++ ended) (shown_in (traced begun next.moves)) (shown_by (led_to begun next.moves) more) ∙ append_assoc shown ended (shown_in (traced begun next.moves) ++ shown_by (led_to begun next.moves) more) in
    subst (λ n. is_unanimous (told n id (shown ++ shown_by world (next ∷ more))) ≡ true) name (subst (λ xs. is_unanimous (told (led_to begun next.moves).state.head.name id xs) ≡ true) all one)

pub processes_agree : (start : World) (moves : List Move) (processes : List Process) (id : List ℕ) → IsStart start → is_run start moves ≡ true → Follow (led_to start moves) processes → is_unanimous (told start.state.head.name id (shown_in (traced start moves) ++ shown_by (led_to start moves) processes)) ≡ true
processes_agree start moves processes id starts run follow =
    subst (λ n. is_unanimous (told n id (shown_in (traced start moves) ++ shown_by (led_to start moves) processes)) ≡ true) (name_led start moves)
    (follows_one (led_to start moves) (shown_in (traced start moves)) processes id (reached_sound start moves starts run) (run_true start moves [] (start_sound start starts) (start_true start starts) run) follow)
