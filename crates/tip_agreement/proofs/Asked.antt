-- ASKED: of a transaction made in the run a commit is told only where each branch had voted yes or read-only, and each part had
-- answered, none with no and none lost.
use Rattle.tip_agreement.proofs.Keptness.{filter_last, moves_so, of_start, run_kept, same_number, start_witnessed}
use Rattle.tip_agreement.proofs.Agreeing.{run_agrees}
use Rattle.tip_agreement.proofs.Backed.{commits_are_backed, shown_so}
use Rattle.tip_rows.specs.Branches.{are_branches}
use Rattle.tip_rows.specs.Labels.{is_label}
use Rattle.std.proofs.lemmas.Bool.{or_parts}
use Rattle.std.specs.Prelude.{length, nat_lt}
use Rattle.tip_agreement.proofs.Agreeing.{any_of, moved_true, run_true, start_true}
use Rattle.tip_agreement.proofs.Backing.{same_row}
use Rattle.tip_agreement.proofs.Restarts.{start_sound}
use Rattle.tip_agreement.proofs.Telling.{told_more}
use Rattle.tip_agreement.proofs.Truthful.{any_verdict}
use Rattle.tip_line.specs.Words.{is_address, is_realm}
use Rattle.tip_machine.specs.Agreement.{IsAgreed, is_asked}
use Rattle.tip_machine.specs.Agreement.Traces.{at_each_behind, traced}
use Rattle.tip_machine.specs.Heads.{are_allowed, is_within}
use Rattle.tip_machine.specs.Honest.{is_run}
use Rattle.tip_machine.specs.Starting.{IsStart, are_declared, is_starting}
use Rattle.tip_machine.specs.declared.head.Head.{Head}
use Rattle.tip_rows.specs.Logs.{last_epoch}
use Rattle.std.proofs.lemmas.Bool.{and_from, and_parts, both_ways, cases_Bool, not-true, or_cases, or_from, or_left, or_right}
use Rattle.std.proofs.lemmas.Bool.Decides.{nat_tests}
use Rattle.std.proofs.lemmas.List.{append-nil, append_assoc}
use Rattle.std.proofs.lemmas.Option.{none-some}
use Rattle.std.specs.Prelude.{filter_map}
use Rattle.std.specs.Str.{bytes_eq}
use Rattle.tip_agreement.proofs.Declared.{name_led, name_moved}
use Rattle.tip_agreement.proofs.Bounded.{in_bounds}
use Rattle.tip_agreement.proofs.Closing.{is_stoppable}
use Rattle.tip_agreement.proofs.Kept.{moved_sound, reached_sound}
use Rattle.tip_agreement.proofs.Keys.{keys_of}
use Rattle.tip_agreement.proofs.Moving.{sound_whole}
use Rattle.tip_agreement.proofs.Onward.{is_committed, says}
use Rattle.tip_agreement.proofs.Owned.{in_phase, key_found}
use Rattle.tip_agreement.proofs.Parting.{given_in}
use Rattle.tip_agreement.proofs.Rows.{to_says}
use Rattle.tip_agreement.proofs.Spelling.{keys_told}
use Rattle.tip_agreement.proofs.Telling.{any_told, are_told, told_either}
use Rattle.tip_agreement.specs.Truth.{IsTrueTo, Word, fits, fits_in, is_lost, will_tell, word_of}
use Rattle.tip_branch.specs.Notes.{PartyNotes}
use Rattle.tip_machine.proofs.Identifiers.{given_later}
use Rattle.tip_machine.specs.Agreement.{has_part, is_made_in, row_in, is_willing_vote, part_of, parts_in, was_called, were_willing}
use Rattle.tip_machine.specs.Agreement.Traces.{Moment, shown_in}
use Rattle.tip_machine.specs.Agreement.Verdicts.{is_commit, told}
use Rattle.tip_machine.specs.Answers.{identifier}
use Rattle.tip_machine.specs.Given.{was_given}
use Rattle.tip_machine.specs.Honest.{is_honest}
use Rattle.tip_machine.specs.Invariants.{IsSound}
use Rattle.tip_machine.specs.Invariants.Bounds.{is_spelled}
use Rattle.tip_machine.specs.Invariants.Links.{are_distinct}
use Rattle.tip_machine.specs.Invariants.Phases.{has_come_to, is_transaction}
use Rattle.tip_machine.specs.Invariants.Stored.{is_stored_as}
use Rattle.tip_machine.specs.Moves.{Move, World, led_to, moved, risen}
use Rattle.tip_machine.specs.Starting.{are_counted_from}
use Rattle.tip_machine.specs.States.{State, transaction_of}
use Rattle.tip_machine.specs.Transactions.{decision_of, has_id, has_key}
use Rattle.tip_machine.specs.Types.{Connection, PartyPlace, Transaction}
use Rattle.tip_rows.proofs.MemoryLemmas.{bytes_eq-self, same_text}
use Rattle.tip_rows.specs.Keys.{Key, is_same}
use Rattle.tip_rows.specs.Logs.{row_at}
use Rattle.tip_rows.specs.declared.row.Row.{Row}
use Rattle.tip_txn.specs.Parts.{answer_at}
use Rattle.tip_txn.specs.declared.answer.Decision.{Decision}
use Rattle.tip_txn.specs.declared.answer.Decision.TheVariants as decisions
use Rattle.tip_agreement.proofs.Restarts.{given_before}
use Rattle.tip_agreement.proofs.Backed.{Backs, IsBacked, moved_backs, shown_so, will_still}
use Rattle.tip_txn.specs.declared.answer.Phase.{Phase}
use Rattle.tip_txn.specs.declared.answer.Phase.TheVariants.{Aborted, Active, Asking, Committed, Prepared}
use Rattle.tip_txn.specs.declared.part.Participant.{Participant}
use Rattle.tip_agreement.proofs.PartAnswers.{Answers, absent_unheard, committed_unheard}
use Rattle.tip_agreement.proofs.Bases.{frees, there}
use Rattle.tip_agreement.proofs.Keeping.{in_all, in_apart, in_append}
use Rattle.tip_agreement.proofs.Linking.{answers_well, in_numbers, is_connected, seen_so}
use Rattle.tip_agreement.proofs.Passing.{Covers, New, Passed}
use Rattle.tip_agreement.proofs.Goings.{Starts, Steps, moves_on}
use Rattle.tip_agreement.proofs.Reopening.{reopened_key, reopened_of, rising_at}
use Rattle.tip_agreement.proofs.Keptness.{filter_last}
use Rattle.tip_agreement.proofs.Walking.{In, in_found}
use Rattle.tip_agreement.proofs.Willing.{Decided, Willing, all_willing, decided_so, heard_answer, no_none, or_else, willing_next}
use Rattle.tip_agreement.proofs.Witnessed.{In_world, moment_of}
use Rattle.std.proofs.Common.{◌≡◌, ◌<◌, ◌+◌, Bool, true, false, ℕ, List, [], ◌∷◌, ◌++◌, Option, Some, None, cond, refl, ap, arith, subst, sym, ◌∙◌, ◌⊎◌, inl, inr}
use Rattle.std.specs.Prelude.{◌&&◌, ◌||◌, ◌==◌, IsSome, filter, is_some, nat_le, not, slice_get}
use Rattle.std.specs.List.{list_all, list_any}

-- Lists

any_from : {T : Type 0} (p : T → Bool) (xs : List T) (x : T) → In x xs → p x ≡ true → list_any p xs ≡ true
any_from p [] x is holds = absurd is
any_from p (y ∷ xs) x (inl same) holds = or_left (p y) _ (ap p (sym same) ∙ holds)
any_from p (y ∷ xs) x (inr is) holds = or_right (p y) _ (any_from p xs x is holds)

never_true : (b : Bool) → (b ≡ true → ⊥) → b ≡ false
never_true true never = absurd (never refl)
never_true false never = refl

none_from : {T : Type 0} (p : T → Bool) (xs : List T) → ((x : T) → In x xs → p x ≡ true → ⊥) → list_any p xs ≡ false
none_from p [] never = refl
none_from p (y ∷ xs) never = or_from _ _ (never_true (p y) (never y (inl refl))) (none_from p xs (λ x is. never x (inr is)))

in_first : {T : Type 0} (xs ys : List T) (x : T) → In x xs → In x (xs ++ ys)
in_first [] ys x is = absurd is
in_first (y ∷ xs) ys x (inl same) = inl same
in_first (y ∷ xs) ys x (inr is) = inr (in_first xs ys x is)

in_second : {T : Type 0} (xs ys : List T) (x : T) → In x ys → In x (xs ++ ys)
in_second [] ys x is = is
in_second (y ∷ xs) ys x is = inr (in_second xs ys x is)

filter_skip : (p : Moment → Bool) (xs : List Moment) (x : Moment) → p x ≡ false → filter p (xs ++ x ∷ []) ≡ filter p xs
filter_skip p [] x is = ap (λ b. cond b (x ∷ []) []) is
filter_skip p (y ∷ xs) x is = ap (λ l. cond (p y) (y ∷ l) l) (filter_skip p xs x is)

-- Who has come to commit

came_commit : (phase : Phase) (d : Decision) → (is_stoppable phase ≡ true → ⊥) → has_come_to phase d ≡ true → d ≡ decisions.Commit
came_commit Active d lasts is = absurd (lasts refl)
came_commit Asking d lasts is = absurd (lasts refl)
came_commit Aborted d lasts is = absurd (lasts refl)
came_commit Prepared decisions.Commit lasts is = refl
came_commit Committed decisions.Commit lasts is = refl
came_commit phase d lasts is = absurd (cc)

stored_lasting : (phase : Phase) (t : Transaction) (r : Row) → is_stored_as phase t (Some r) ≡ true → is_stoppable phase ≡ true → ⊥
stored_lasting Prepared t r is = λ can. let wrong : false ≡ true = can in cc
stored_lasting Committed t r is = λ can. let wrong : false ≡ true = can in cc
stored_lasting Active t r is = absurd (cc)
stored_lasting Asking t r is = absurd (cc)
stored_lasting Aborted t r is = absurd (cc)

committed_lasting : (phase : Phase) → phase ≡ Committed → is_stoppable phase ≡ true → ⊥
committed_lasting phase at is = let wrong : false ≡ true = sym (ap is_stoppable at) ∙ is in cc

-- by the table of verdicts
committed_by : (phase : Phase) (place : PartyPlace) (word : Word) → fits_in phase place word ≡ true → word.commit ≡ true → phase ≡ Committed
committed_by Active place word is commits = absurd (both_ways word.commit (not-true _ (and_parts (not word.commit) (not word.abort) is).0) commits)
committed_by Asking place word is commits = absurd (both_ways word.commit (not-true _ (and_parts (not word.commit) (not word.abort || is_lost place word.awaited) is).0) commits)
committed_by Prepared place word is commits = absurd (both_ways word.commit (not-true _ (and_parts (not word.commit) (not word.abort) is).0) commits)
committed_by Committed place word is commits = refl
committed_by Aborted place word is commits = absurd (both_ways word.commit (not-true _ is) commits)

-- WHO IS HERE

-- a transaction of this key, or none
abbrev Here_of : Key → World → Type 0
Here_of key world = (t : Transaction) × (In t world.state.transactions) × (t.key ≡ key)

abbrev None_of : Key → World → Type 0
None_of key world = (t : Transaction) → In t world.state.transactions → t.key ≡ key → ⊥

module _ (world : World) (sound : IsSound world) where
  keys_apart : are_distinct is_same (keys_of world.state.transactions) ≡ true
  keys_apart = (sound_whole world sound).keys

  spelled_here : (t : Transaction) → In t world.state.transactions → is_spelled t.key ≡ true
  spelled_here t listed = in_all (λ (x : Transaction). is_spelled x.key) world.state.transactions t (in_bounds world.state sound.bounded).spelled listed

  found_here : (key : Key) (t : Transaction) → In t world.state.transactions → t.key ≡ key → transaction_of key world.state ≡ Some t
  found_here key t listed same = subst (λ x. transaction_of x world.state ≡ Some t) same (there world sound [] t listed)

  here_or_none : (key : Key) → Here_of key world ⊎ None_of key world
  here_or_none key = step (transaction_of key world.state) refl where
    step : (o : Option Transaction) → transaction_of key world.state ≡ o → Here_of key world ⊎ None_of key world
    step None at = inr (λ t listed same. absurd (none-some t (sym at ∙ found_here key t listed same)))
    step (Some t) at = inl (t, in_found (has_key key) world.state.transactions t at, sym (key_found key t world.state at))

  none_found : (key : Key) → None_of key world → transaction_of key world.state ≡ None
  none_found key never = step (transaction_of key world.state) refl where
    step : (o : Option Transaction) → transaction_of key world.state ≡ o → transaction_of key world.state ≡ None
    step None at = at
    step (Some t) at = absurd (never t (in_found (has_key key) world.state.transactions t at) (sym (key_found key t world.state at)))

  given_here : (key : Key) → Here_of key world → was_given world.state key ≡ true
  given_here key of = given_in world.state sound.keyed key (ap is_some (found_here key of.0 of.1 of.2))

  -- whose row stands is here, and has come to commit
  row_here : (key : Key) (r : Row) → row_at key world.rows ≡ Some r → (of : Here_of key world) × (is_stoppable of.0.phase ≡ true → ⊥)
  row_here key r at = step (transaction_of key world.state) refl ((to_says world.state world.rows sound.stored).1 key) where
    step : (o : Option Transaction) → transaction_of key world.state ≡ o → says (transaction_of key world.state) (row_at key world.rows) ≡ true → (of : Here_of key world) × (is_stoppable of.0.phase ≡ true → ⊥)
    step None is said = absurd (let wrong : false ≡ true = sym (λ i. says (is i) (at i)) ∙ said in cc)
    step (Some t) is said = ((t, in_found (has_key key) world.state.transactions t is, sym (key_found key t world.state is)), stored_lasting t.phase t r (sym (λ i. says (is i) (at i)) ∙ said))

  row_stands : (key : Key) → is_committed (row_at key world.rows) ≡ true → (of : Here_of key world) × (is_stoppable of.0.phase ≡ true → ⊥)
  row_stands key is = step (row_at key world.rows) refl is where
    step : (o : Option Row) → row_at key world.rows ≡ o → is_committed o ≡ true → (of : Here_of key world) × (is_stoppable of.0.phase ≡ true → ⊥)
    step None at is = absurd (let wrong : false ≡ true = is in cc)
    step (Some r) at is = row_here key r at

  decided_here : (realm id : List ℕ) (t : Transaction) → In t world.state.transactions → (is_stoppable t.phase ≡ true → ⊥) → Decided realm id t.parts
  decided_here realm id t listed lasts = decided_so realm id t (came_commit t.phase (decision_of t) lasts (in_phase t.key t world.state (there world sound [] t listed) (in_all (is_transaction world.state) world.state.transactions t sound.transactions listed)).come)

-- WHAT IS CARRIED, of the transaction of a key

abbrev made_of : List ℕ → Key → List Moment → List Moment
made_of realm k moments = filter (is_made_in realm (identifier realm k)) moments

abbrev Ok : List ℕ → Key → World → List (ℕ × List ℕ) → List Moment → Type 0
Ok realm k start branches moments = is_some (row_in realm (identifier realm k) start.rows) || were_willing realm (identifier realm k) (made_of realm k moments) branches ≡ true

-- a commit was told, or a party is out to tell it
abbrev Told : List ℕ → Key → List Moment → World → Type 0
Told realm k moments world = (are_told is_commit realm (identifier realm k) (shown_in moments) ≡ true) ⊎ (list_any (will_tell is_commit 0 (identifier realm k)) world.errands ≡ true)

record Asks (realm : List ℕ) (k : Key) (start : World) (branches : List (ℕ × List ℕ)) (moments : List Moment) (world : World) : Type 0 where
  declared : world.state.head.branches ≡ branches
  covered : (t : Transaction) → In t world.state.transactions → (t.key.epoch == world.state.head.epoch) ≡ true → Covers world.state.head.epoch branches world.errands (identifier world.state.head.name t.key) t.place
  current : (t : Transaction) → In t world.state.transactions → t.key ≡ k → (k.epoch == world.state.head.epoch) ≡ true → (t.phase ≡ Aborted → ⊥) → Willing realm (identifier realm k) branches (made_of realm k moments) t.parts
  earlier : (t : Transaction) → In t world.state.transactions → t.key ≡ k → (k.epoch == world.state.head.epoch) ≡ false → Ok realm k start branches moments
  gone : None_of k world → Told realm k moments world → Ok realm k start branches moments
  unseen : was_given world.state k ≡ false → made_of realm k moments ≡ []

-- who is here and was told to commit is committed
told_committed : (k : Key) → is_spelled k ≡ true → (moments : List Moment) (world : World) → IsSound world → IsTrueTo (shown_in moments) world → (t : Transaction) → In t world.state.transactions → t.key ≡ k → Told world.state.head.name k moments world → t.phase ≡ Committed
told_committed k fine moments world sound true_to t listed same told_it =
    let id = identifier world.state.head.name k in
    let word = word_of world (shown_in moments) id in
    committed_by t.phase t.place word (subst (λ o. fits o word ≡ true) (found_here world sound k t listed same) (true_to.fits k fine)) (commits id told_it) where
      out_still : (id : List ℕ) (later : ℕ) (errands : List PartyNotes) → list_any (will_tell is_commit 0 id) errands ≡ true → list_any (will_tell is_commit later id) errands ≡ true
      out_still id later [] is = is
      out_still id later (party ∷ errands) is = elim (or_cases (will_tell is_commit 0 id party) (list_any (will_tell is_commit 0 id) errands) is) [
        | inl this ↦ or_left (will_tell is_commit later id party) _ (will_still 0 later id party this)
        | inr that ↦ or_right (will_tell is_commit later id party) _ (out_still id later errands that)
      ]

      commits : (id : List ℕ) → (are_told is_commit world.state.head.name id (shown_in moments) ≡ true) ⊎ (list_any (will_tell is_commit 0 id) world.errands ≡ true) → list_any is_commit (told world.state.head.name id (shown_in moments)) || list_any (will_tell is_commit world.state.head.epoch id) world.errands ≡ true
      commits id (inl shown) = or_left (list_any is_commit (told world.state.head.name id (shown_in moments))) _ (any_told is_commit world.state.head.name id (shown_in moments) ∙ shown)
      commits id (inr out) = or_right (list_any is_commit (told world.state.head.name id (shown_in moments))) _ (out_still id world.state.head.epoch world.errands out)

willing_ok : (realm : List ℕ) (k : Key) (start : World) (branches : List (ℕ × List ℕ)) (moments : List Moment) (parts : List Participant) → Willing realm (identifier realm k) branches (made_of realm k moments) parts → Decided realm (identifier realm k) parts → Ok realm k start branches moments
willing_ok realm k start branches moments parts was decided = or_right (is_some (row_in realm (identifier realm k) start.rows)) _ (all_willing realm (identifier realm k) branches (made_of realm k moments) parts was decided)

-- one that is here and has come to commit
lasting_ok : (k : Key) (start : World) (branches : List (ℕ × List ℕ)) (moments : List Moment) (world : World) → IsSound world → Asks world.state.head.name k start branches moments world → (of : Here_of k world) → (is_stoppable of.0.phase ≡ true → ⊥) → Ok world.state.head.name k start branches moments
lasting_ok k start branches moments world sound asks of lasts = elim (cases_Bool (k.epoch == world.state.head.epoch)) [
  | inl this ↦ willing_ok world.state.head.name k start branches moments of.0.parts (asks.current of.0 of.1 of.2 this (λ at. lasts (ap is_stoppable at))) (decided_here world sound world.state.head.name (identifier world.state.head.name k) of.0 of.1 lasts)
  | inr differ ↦ asks.earlier of.0 of.1 of.2 differ
]

told_ok : (k : Key) → is_spelled k ≡ true → (start : World) (branches : List (ℕ × List ℕ)) (moments : List Moment) (world : World) → IsSound world → IsTrueTo (shown_in moments) world → Asks world.state.head.name k start branches moments world → Told world.state.head.name k moments world → Ok world.state.head.name k start branches moments
told_ok k fine start branches moments world sound true_to asks told_it = elim (here_or_none world sound k) [
  | inr never ↦ asks.gone never told_it
  | inl of ↦ lasting_ok k start branches moments world sound asks of (committed_lasting of.0.phase (told_committed k fine moments world sound true_to of.0 of.1 of.2 told_it))
]

-- EACH MOVE

module _ (move : Move) (world : World) (sound : IsSound world) (k : Key) (fine : is_spelled k ≡ true) (start : World) (branches : List (ℕ × List ℕ)) (counted : are_counted_from 1 branches ≡ true) (before mine : List Moment) (was : In_world world mine) (true_to : IsTrueTo (shown_in before) world) (honest : is_honest move world ≡ true) (asks : Asks world.state.head.name k start branches before world) where
  abbrev realm : List ℕ
  realm = world.state.head.name

  abbrev now : ℕ
  now = world.state.head.epoch

  abbrev id : List ℕ
  id = identifier realm k

  abbrev moment : Moment
  moment = moment_of move world

  abbrev after : World
  after = (moved move world).world

  abbrev made : List Moment
  made = made_of realm k before

  abbrev all : List Moment
  all = before ++ moment ∷ []

  sound_after : IsSound after
  sound_after = moved_sound move world sound honest

  named_after : after.state.head.name ≡ realm
  named_after = name_moved move world

  key_before : (t : Transaction) → In t world.state.transactions → id ≡ identifier realm t.key → t.key ≡ k
  key_before t listed same = keys_told realm t.key k (spelled_here world sound t listed) fine (sym same)

  key_after : (t : Transaction) → In t after.state.transactions → id ≡ identifier realm t.key → t.key ≡ k
  key_after t listed same = keys_told realm t.key k (spelled_here after sound_after t listed) fine (sym same)

  -- is it made in this start?
  made_yes : (t : Transaction) → In t (world.state.transactions ++ after.state.transactions) → t.key ≡ k → (k.epoch == now) ≡ true → made_of realm k all ≡ made ++ moment ∷ []
  made_yes t is same this = filter_last (is_made_in realm id) before moment (any_from (λ (x : Transaction). has_id realm id x && (x.key.epoch == now)) (world.state.transactions ++ after.state.transactions) t is (and_from _ _ (subst (λ (key : Key). bytes_eq id (identifier realm key) ≡ true) (sym same) (bytes_eq-self id)) (subst (λ (key : Key). (key.epoch == now) ≡ true) (sym same) this)))

  made_no : ((t : Transaction) → In t world.state.transactions ⊎ In t after.state.transactions → t.key ≡ k → (k.epoch == now) ≡ true → ⊥) → made_of realm k all ≡ made
  made_no never = filter_skip (is_made_in realm id) before moment (none_from (λ (x : Transaction). has_id realm id x && (x.key.epoch == now)) (world.state.transactions ++ after.state.transactions) (λ t is both.
      let parts = and_parts (has_id realm id t) (t.key.epoch == now) both in
      let where_is = in_append world.state.transactions after.state.transactions t is in
      let same = key_either t where_is (same_text id (identifier realm t.key) parts.0) in
      never t where_is same (subst (λ (key : Key). (key.epoch == now) ≡ true) same parts.1))) where
        key_either : (t : Transaction) → In t world.state.transactions ⊎ In t after.state.transactions → id ≡ identifier realm t.key → t.key ≡ k
        key_either t (inl is) = key_before t is
        key_either t (inr is) = key_after t is

  made_elsewhen : (k.epoch == now) ≡ false → made_of realm k all ≡ made
  made_elsewhen differ = made_no (λ t is same this. both_ways (k.epoch == now) differ this)

  ok_stays : made_of realm k all ≡ made → Ok realm k start branches before → Ok realm k start branches all
  ok_stays same ok = subst (λ ms. is_some (row_in realm id start.rows) || were_willing realm id ms branches ≡ true) (sym same) ok

  -- the parts that are seen
  holds_before : (t : Transaction) → In t world.state.transactions → t.key ≡ k → (q : ℕ) → In q (parts_in realm id world) → is_some (slice_get t.parts q) ≡ true
  holds_before t listed same q is =
      let seen = seen_so world sound id q is in
      subst (λ (x : Transaction). is_some (slice_get x.parts q) ≡ true) (in_apart world.state.transactions (keys_apart world sound) seen.transaction t seen.listed listed (key_before seen.transaction seen.listed seen.named ∙ sym same)) seen.there

  seen_after : (q : ℕ) → In q (parts_in realm id after) → (of : Here_of k after) × (nat_le 1 q ≡ true) × (is_some (slice_get of.0.parts q) ≡ true)
  seen_after q is =
      let seen = seen_so after sound_after id q (subst (λ n. In q (parts_in n id after)) (sym named_after) is) in
      ((seen.transaction, seen.listed, key_after seen.transaction seen.listed (seen.named ∙ ap (λ n. identifier n seen.transaction.key) named_after)), seen.least, seen.there)

  abbrev Called : Type 0
  Called = list_all (was_called realm id is_willing_vote (made ++ moment ∷ [])) branches ≡ true

  next_willing : (old : List Participant) (u : Transaction) → In u after.state.transactions → u.key ≡ k → (u.phase ≡ Aborted → ⊥) → Willing realm id branches made old → Answers Called realm id moment old u.parts → ((q : ℕ) → In q (parts_in realm id world) → is_some (slice_get old q) ≡ true) → Willing realm id branches (made ++ moment ∷ []) u.parts
  next_willing old u listed same live was_so answers holds = willing_next realm id branches made moment old u.parts was_so answers.local answers.parts (λ q a least is. answers_well after sound_after u listed live q a least is) stays answers.more sees where
    stays : (q : ℕ) → answer_at u.parts q ≡ None → has_part realm id q world ≡ true → has_part realm id q after ≡ true
    stays q none has =
        let seen = in_numbers q (parts_in realm id world) has in
        let least = (seen_so world sound id q seen).least in
        let linked = is_connected after sound_after u listed live q least (answers.more q (holds q seen)) none in
        subst (λ key. has_part realm (identifier realm key) q after ≡ true) same (subst (λ n. has_part n (identifier n u.key) q after ≡ true) named_after linked)

    sees : (q : ℕ) → In q (parts_in realm id world) ⊎ In q (parts_in realm id after) → (nat_le 1 q ≡ true) × (is_some (slice_get u.parts q) ≡ true)
    sees q (inl is) = ((seen_so world sound id q is).least, answers.more q (holds q is))
    sees q (inr is) =
        let seen = seen_after q is in
        (seen.1, subst (λ (x : Transaction). is_some (slice_get x.parts q) ≡ true) (in_apart after.state.transactions (keys_apart after sound_after) seen.0.0 u seen.0.1 listed (seen.0.2 ∙ sym same)) seen.2)

  -- one that has come to commit, and no part of it has a connection afterwards
  module _ (t : Transaction) (listed : In t world.state.transactions) (same : t.key ≡ k) (lasts : is_stoppable t.phase ≡ true → ⊥) (none_after : (q : ℕ) → In q (parts_in realm id after) → ⊥) where
    decided : Decided realm id t.parts
    decided = decided_here world sound realm id t listed lasts

    live_there : t.phase ≡ Aborted → ⊥
    live_there at = lasts (ap is_stoppable at)

    still_willing : Willing realm id branches made t.parts → Willing realm id branches (made ++ moment ∷ []) t.parts
    still_willing was_so = willing_next realm id branches made moment t.parts t.parts was_so (λ a is. inl is) (λ q least. sym (ap (λ h. or_else h (answer_at t.parts q)) (unheard q))) (λ q a least is. answers_well world sound t listed live_there q a least is) (λ q none has. absurd (answered q none has)) (λ q is. is) sees where
      unheard : (q : ℕ) → heard_answer realm id q moment ≡ None
      unheard q = subst (λ key. heard_answer realm (identifier realm key) q moment ≡ None) same (committed_unheard world sound moment refl t listed lasts q)

      answered : (q : ℕ) → answer_at t.parts q ≡ None → has_part realm id q world ≡ true → ⊥
      answered q none has = let wrong : false ≡ true = sym (ap is_some none) ∙ no_none realm id t.parts q decided.none (holds_before t listed same q (in_numbers q (parts_in realm id world) has)) in cc

      sees : (q : ℕ) → In q (parts_in realm id world) ⊎ In q (parts_in realm id after) → (nat_le 1 q ≡ true) × (is_some (slice_get t.parts q) ≡ true)
      sees q (inl is) = ((seen_so world sound id q is).least, holds_before t listed same q is)
      sees q (inr is) = absurd (none_after q is)

    ok_lasting : Ok realm k start branches all
    ok_lasting = elim (cases_Bool (k.epoch == now)) [
      | inl this ↦ willing_ok realm k start branches all t.parts (subst (λ ms. Willing realm id branches ms t.parts) (sym (made_yes t (in_first world.state.transactions after.state.transactions t listed) same this)) (still_willing (asks.current t listed same this live_there))) decided
      | inr differ ↦ ok_stays (made_elsewhen differ) (asks.earlier t listed same differ)
    ]

  -- where it is gone afterwards
  gone_after : None_of k after → Told realm k all after → Ok realm k start branches all
  gone_after never told_it = by_told (said told_it) where
    backs : Backs realm 0 k fine world (moved move world)
    backs = moved_backs realm 0 k fine move world sound refl true_to.uncalled honest

    said : Told realm k all after → Told realm k before world ⊎ IsBacked realm 0 k fine world after
    said (inr out) = inr (backs.out out)
    said (inl shown) = elim (told_either is_commit realm id (shown_in before) moment.shown (ap (are_told is_commit realm id) (shown_so realm 0 k fine before moment) ∙ shown)) [
      | inl earlier ↦ inl (inl earlier)
      | inr here ↦ inr (backs.told here)
    ]

    none_after : (q : ℕ) → In q (parts_in realm id after) → ⊥
    none_after q is = let seen = seen_after q is in never seen.0.0 seen.0.1 seen.0.2

    by_before : Told realm k before world → Ok realm k start branches all
    by_before told_before = elim (here_or_none world sound k) [
      | inl of ↦ ok_lasting of.0 of.1 of.2 (committed_lasting of.0.phase (told_committed k fine before world sound true_to of.0 of.1 of.2 told_before)) none_after
      | inr none ↦ ok_stays (made_no (λ t is same this. elim is [ inl there_is ↦ none t there_is same | inr later ↦ never t later same ])) (asks.gone none told_before)
    ]

    by_told : Told realm k before world ⊎ IsBacked realm 0 k fine world after → Ok realm k start branches all
    by_told (inl told_before) = by_before told_before
    by_told (inr (inl out)) = by_before (inr out)
    by_told (inr (inr (inl stood))) = let of = row_stands world sound k stood in ok_lasting of.0.0 of.0.1 of.0.2 of.1 none_after
    by_told (inr (inr (inr stands_now))) = let of = row_stands after sound_after k stands_now in absurd (never of.0.0 of.0.1 of.0.2)

  -- where it was not given yet
  unseen_after : ((key : Key) → was_given world.state key ≡ true → was_given after.state key ≡ true) → was_given after.state k ≡ false → made_of realm k all ≡ []
  unseen_after given ungiven = made_no none_here ∙ asks.unseen not_before where
    not_before : was_given world.state k ≡ false
    not_before = never_true (was_given world.state k) (λ is. both_ways (was_given after.state k) ungiven (given k is))

    none_here : (t : Transaction) → In t world.state.transactions ⊎ In t after.state.transactions → t.key ≡ k → (k.epoch == now) ≡ true → ⊥
    none_here t (inl is) same this = both_ways (was_given world.state k) not_before (given_here world sound k (t, is, same))
    none_here t (inr is) same this = both_ways (was_given after.state k) ungiven (given_here after sound_after k (t, is, same))

  -- In one start
  abbrev Steps_so : Type 0
  Steps_so = Steps world sound branches asks.declared counted mine was (λ (t : Transaction). made_of realm t.key before) asks.covered moment

  module _ (steps : Steps_so) where
    here_now : (k.epoch == after.state.head.epoch) ≡ true → (k.epoch == now) ≡ true
    here_now is = subst (λ e. (k.epoch == e) ≡ true) steps.epoch is

    steps_current : (u : Transaction) → In u after.state.transactions → u.key ≡ k → (k.epoch == after.state.head.epoch) ≡ true → (u.phase ≡ Aborted → ⊥) → Willing realm id branches (made_of realm k all) u.parts
    steps_current u listed same this live = subst (λ ms. Willing realm id branches ms u.parts) (sym (made_yes u (in_second world.state.transactions after.state.transactions u listed) same (here_now this))) (elim (steps.each u listed) [
      | inl passed ↦ from_old passed
      | inr new ↦ from_new new
    ]) where
      from_old : Passed realm now branches (λ (t : Transaction). list_all (was_called realm (identifier realm t.key) is_willing_vote (made_of realm t.key before ++ moment ∷ [])) branches ≡ true) moment after.errands world.state.transactions u → Willing realm id branches (made ++ moment ∷ []) u.parts
      from_old passed =
          let t = passed.before in
          let key_is : t.key ≡ k = sym passed.follows.key ∙ same in
          let answers = passed.follows.answers live (subst (λ (key : Key). (key.epoch == now) ≡ true) (sym key_is) (here_now this)) in
          let its = subst (λ (key : Key). Answers (list_all (was_called realm (identifier realm key) is_willing_vote (made_of realm key before ++ moment ∷ [])) branches ≡ true) realm (identifier realm key) moment t.parts u.parts) key_is answers in
          next_willing t.parts u listed same live (asks.current t passed.listed key_is (here_now this) (λ at. elim passed.follows.live [ inl aborted ↦ live aborted | inr open_so ↦ open_so at ])) its (holds_before t passed.listed key_is)

      from_new : New now branches world.state.transactions u → Willing realm id branches (made ++ moment ∷ []) u.parts
      from_new new = next_willing [] u listed same live (subst (λ ms. Willing realm id branches ms []) (sym (asks.unseen ungiven)) nothing) answers (λ q is. absurd (let seen = seen_so world sound id q is in absent seen.transaction seen.listed (key_before seen.transaction seen.listed seen.named))) where
        absent : None_of k world
        absent t there_is key_is = new.absent t there_is (key_is ∙ sym same)

        some_there : (o : Option Transaction) → o ≡ Some u → IsSome o
        some_there o is = subst IsSome (sym is) refl

        ungiven : was_given world.state k ≡ false
        ungiven = steps.fresh k (none_found world sound k absent) (some_there (transaction_of k after.state) (found_here after sound_after k u listed same))

        nothing : Willing realm id branches [] []
        nothing = record {
          voted = λ a is. absurd (none-some a is);
          good = λ q least. record { willing = refl; heard = λ a is. absurd (none-some a is); kept = refl };
          seen = λ q is. absurd is;
        }

        answers : Answers Called realm id moment [] u.parts
        answers = record {
          parts = λ q least. new.unheard q ∙ sym (ap (λ h. or_else h (answer_at [] q)) (absent_unheard world sound moment refl id (λ t there_is named. absent t there_is (key_before t there_is named)) q));
          local = λ a is. absurd (none-some a (sym (new.unheard 0) ∙ is));
          more = λ q is. absurd (let wrong : false ≡ true = is in cc);
        }

    steps_earlier : (u : Transaction) → In u after.state.transactions → u.key ≡ k → (k.epoch == after.state.head.epoch) ≡ false → Ok realm k start branches all
    steps_earlier u listed same differs = step (steps.each u listed) where
      differ : (k.epoch == now) ≡ false
      differ = subst (λ e. (k.epoch == e) ≡ false) steps.epoch differs

      step : Passed realm now branches (λ (t : Transaction). list_all (was_called realm (identifier realm t.key) is_willing_vote (made_of realm t.key before ++ moment ∷ [])) branches ≡ true) moment after.errands world.state.transactions u ⊎ New now branches world.state.transactions u → Ok realm k start branches all
      step (inl passed) = ok_stays (made_elsewhen differ) (asks.earlier passed.before passed.listed (sym passed.follows.key ∙ same) differ)
      step (inr new) = absurd (both_ways (k.epoch == now) differ (subst (λ (key : Key). (key.epoch == now) ≡ true) same new.epoch))

    steps_covered : (u : Transaction) → In u after.state.transactions → (u.key.epoch == after.state.head.epoch) ≡ true → Covers after.state.head.epoch branches after.errands (identifier after.state.head.name u.key) u.place
    steps_covered u listed this = step (steps.each u listed) where
      step : Passed realm now branches (λ (t : Transaction). list_all (was_called realm (identifier realm t.key) is_willing_vote (made_of realm t.key before ++ moment ∷ [])) branches ≡ true) moment after.errands world.state.transactions u ⊎ New now branches world.state.transactions u → Covers after.state.head.epoch branches after.errands (identifier after.state.head.name u.key) u.place
      step (inl passed) =
          let this_now : (passed.before.key.epoch == now) ≡ true = subst (λ (key : Key). (key.epoch == now) ≡ true) passed.follows.key (subst (λ e. (u.key.epoch == e) ≡ true) steps.epoch this) in
          subst (λ e. Covers e branches after.errands (identifier after.state.head.name u.key) u.place) (sym steps.epoch) (subst (λ n. Covers now branches after.errands (identifier n u.key) u.place) (sym named_after) (subst (λ key. Covers now branches after.errands (identifier realm key) u.place) (sym passed.follows.key) (passed.follows.covered this_now)))
      step (inr new) = record { here = new.covered; out = λ party is named this_one. absurd (frees after sound_after [] u new.place.0 listed new.place.1 party is named this_one) }

    steps_asks : Asks realm k start branches all after
    steps_asks = record {
      declared = steps.branches_stay ∙ asks.declared;
      covered = steps_covered;
      current = steps_current;
      earlier = steps_earlier;
      gone = gone_after;
      unseen = unseen_after steps.given;
    }

  -- A new start
  abbrev Starts_so : Type 0
  Starts_so = Starts world sound branches asks.declared counted mine was (λ (t : Transaction). made_of realm t.key before) asks.covered moment

  module _ (starts : Starts_so) where
    later_epoch : after.state.head.epoch ≡ now + 1
    later_epoch = ap (λ (s : State). s.head.epoch) starts.state

    row_there : (u : Transaction) → In u after.state.transactions → (of : Here_of u.key world) × (is_stoppable of.0.phase ≡ true → ⊥)
    row_there u listed =
        let of = reopened_of (risen world.state.head) starts.boxes world.rows u (subst (λ (s : State). In u s.transactions) starts.state listed) in
        let key_is : of.0.0 ≡ u.key = sym (ap (λ (x : Transaction). x.key) of.2 ∙ reopened_key (risen world.state.head) of.0.0 (starts.boxes of.0.0) of.0.1) in
        row_here world sound u.key of.0.1 (subst (λ key. row_at key world.rows ≡ Some of.0.1) key_is (rising_at world.rows (to_says world.state world.rows sound.stored).0 of.0 of.1))

    not_now : (u : Transaction) → In u after.state.transactions → (u.key.epoch == after.state.head.epoch) ≡ true → ⊥
    not_now u listed this = never u.key.epoch now (given_before world.state u.key (given_here world sound u.key (row_there u listed).0)) (subst (λ e. (u.key.epoch == e) ≡ true) later_epoch this) where
      never : (a b : ℕ) → a < b + 1 → (a == b + 1) ≡ true → ⊥
      never a b less is = grind (arith, nat_tests, less, is)

    none_linked : (q : ℕ) → In q (parts_in realm id after) → ⊥
    none_linked q is = subst (λ (s : State). In q (filter_map (λ (c : Connection). part_of realm id c.role) s.connections)) starts.state is

    starts_asks : Asks realm k start branches all after
    starts_asks = record {
      declared = ap (λ (s : State). s.head.branches) starts.state ∙ asks.declared;
      covered = λ u listed this. absurd (not_now u listed this);
      current = λ u listed same this live. absurd (not_now u listed (subst (λ (key : Key). (key.epoch == after.state.head.epoch) ≡ true) (sym same) this));
      earlier = λ u listed same differ. let of = row_there u listed in ok_lasting of.0.0 of.0.1 (of.0.2 ∙ same) of.1 none_linked;
      gone = gone_after;
      unseen = unseen_after (λ key is. given_later world.state after.state key (less now after.state.head.epoch later_epoch) is);
    } where
      less : (a b : ℕ) → b ≡ a + 1 → a < b
      less a b is = grind (arith, is)

  next_asks : Asks realm k start branches all after
  next_asks = elim (moves_on world sound branches asks.declared counted mine was (λ (t : Transaction). made_of realm t.key before) asks.covered move honest) [ inl steps ↦ steps_asks steps | inr starts ↦ starts_asks starts ]

-- A RUN

-- of the transaction of a key, over its moments
module _ (k : Key) (fine : is_spelled k ≡ true) (start : World) (branches : List (ℕ × List ℕ)) (counted : are_counted_from 1 branches ≡ true) where
  moment_asked : (realm : List ℕ) (before : List Moment) (moment : Moment) → moment.world.state.head.branches ≡ branches → (are_told is_commit realm (identifier realm k) moment.shown ≡ true → Ok realm k start branches (before ++ moment ∷ [])) → is_asked realm (identifier realm k) start before moment ≡ true
  moment_asked realm before moment declared was = step (are_told is_commit realm (identifier realm k) moment.shown) refl where
    by_ok : Ok realm k start branches (before ++ moment ∷ []) → is_asked realm (identifier realm k) start before moment ≡ true
    by_ok ok = elim (or_cases (is_some (row_in realm (identifier realm k) start.rows)) (were_willing realm (identifier realm k) (made_of realm k (before ++ moment ∷ [])) branches) ok) [
      | inl stood ↦ or_left _ _ (or_right (not (list_any is_commit (told realm (identifier realm k) moment.shown))) _ stood)
      | inr willing ↦ or_right (not (list_any is_commit (told realm (identifier realm k) moment.shown)) || is_some (row_in realm (identifier realm k) start.rows)) _ (subst (λ bs. were_willing realm (identifier realm k) (made_of realm k (before ++ moment ∷ [])) bs ≡ true) (sym declared) willing)
    ]

    step : (b : Bool) → are_told is_commit realm (identifier realm k) moment.shown ≡ b → is_asked realm (identifier realm k) start before moment ≡ true
    step true is = by_ok (was is)
    step false is = or_left _ _ (or_left (not (list_any is_commit (told realm (identifier realm k) moment.shown))) _ (ap not (any_told is_commit realm (identifier realm k) moment.shown ∙ is)))

  -- what a run comes to
  record Ran (name : List ℕ) (world : World) (moves : List Move) (before : List Moment) : Type 0 where
    asked : at_each_behind before (is_asked name (identifier name k) start) (traced world moves) ≡ true
    last : Asks name k start branches (before ++ traced world moves) (led_to world moves)

  runs_asked : (name : List ℕ) (world : World) (moves : List Move) (before : List Moment) → IsSound world → IsTrueTo (shown_in before) world → world.state.head.name ≡ name → In_world world (of_start world.state.head.epoch before) → Asks name k start branches before world → is_run world moves ≡ true → Ran name world moves before
  runs_asked name world [] before sound true_to named was asks honest = record { asked = refl; last = subst (λ ms. Asks name k start branches ms world) (sym (append-nil before)) asks }
  runs_asked name world (move ∷ moves) before sound true_to named was asks honest =
      let parts = and_parts (is_honest move world) (is_run (moved move world).world moves) honest in
      let next = (moved move world).world in
      let moment = moment_of move world in
      let all = before ++ moment ∷ [] in
      let epoch = world.state.head.epoch in
      let id = identifier name k in
      let went = moves_so world sound (of_start epoch before) was move parts.0 in
      let mine : of_start epoch all ≡ of_start epoch before ++ moment ∷ [] = filter_last (λ (m : Moment). m.world.state.head.epoch == epoch) before moment (same_number epoch) in
      let here : Asks world.state.head.name k start branches before world = subst (λ n. Asks n k start branches before world) (sym named) asks in
      let then_asks : Asks name k start branches all next = subst (λ n. Asks n k start branches all next) named (next_asks move world sound k fine start branches counted before (of_start epoch before) was true_to parts.0 here) in
      let then_named : next.state.head.name ≡ name = name_moved move world ∙ named in
      let then_sound = moved_sound move world sound parts.0 in
      let same = shown_so name 0 k fine before moment in
      let then_true : IsTrueTo (shown_in all) next = subst (λ xs. IsTrueTo xs next) same (moved_true move world (shown_in before) sound true_to parts.0) in
      let rest = runs_asked name next moves all then_sound then_true then_named (went.witnessed (of_start next.state.head.epoch all) (λ same_epoch. ap (λ e. of_start e all) same_epoch ∙ mine)) then_asks parts.1 in
      let asked_here = moment_asked name before moment asks.declared (λ is.
      let shown : are_told is_commit name id (shown_in all) ≡ true = ap (are_told is_commit name id) (sym same) ∙ (told_more is_commit name id (shown_in before) moment.shown ∙ or_right (are_told is_commit name id (shown_in before)) _ is) in
      subst (λ n. Ok n k start branches all) then_named (told_ok k fine start branches all next then_sound then_true (subst (λ n. Asks n k start branches all next) (sym then_named) then_asks) (subst (λ n. Told n k all next) (sym then_named) (inl shown)))) in
      record {
        asked = and_from _ _ asked_here rest.asked;
        last = subst (λ ms. Asks name k start branches ms (led_to next moves)) (append_assoc before (moment ∷ []) (traced next moves)) rest.last;
      }

-- where a run begins
start_asks : (k : Key) → is_spelled k ≡ true → (world : World) → IsStart world → Asks world.state.head.name k world world.state.head.branches [] world
start_asks k fine world start = record {
  declared = refl;
  covered = λ u listed this. absurd (not_now u listed this);
  current = λ u listed same this live. absurd (not_now u listed (subst (λ (key : Key). (key.epoch == world.state.head.epoch) ≡ true) (sym same) this));
  earlier = λ u listed same differ. let of = row_of u listed in or_left _ _ (ap is_some (same_row world.state.head.name k fine world.rows start.rows.spelled ∙ subst (λ key. row_at key world.rows ≡ Some of.0.1) (of.2 ∙ same) (rising_at world.rows start.rows.rising of.0 of.1)));
  gone = λ never told_it. absurd (none_told told_it);
  unseen = λ is. refl;
} where
  row_of : (u : Transaction) → In u world.state.transactions → (e : Key × Row) × (In e world.rows) × (e.0 ≡ u.key)
  row_of u listed =
      let of = reopened_of world.state.head start.boxes world.rows u (subst (λ (s : State). In u s.transactions) start.state listed) in
      (of.0, of.1, sym (ap (λ (x : Transaction). x.key) of.2 ∙ reopened_key world.state.head of.0.0 (start.boxes of.0.0) of.0.1))

  never : (a b : ℕ) → nat_lt a b ≡ true → (a == b) ≡ true → ⊥
  never a b less is = grind (arith, nat_tests, less, is)

  not_now : (u : Transaction) → In u world.state.transactions → (u.key.epoch == world.state.head.epoch) ≡ true → ⊥
  not_now u listed this =
      let of = row_of u listed in
      never u.key.epoch world.state.head.epoch (subst (λ (key : Key). nat_lt key.epoch world.state.head.epoch ≡ true) of.2 (in_all (λ (stored : Key × Row). nat_lt stored.0.epoch world.state.head.epoch) world.rows of.0 start.rows.earlier of.1)) this

  none_told : Told world.state.head.name k [] world → ⊥
  none_told (inl shown) = let wrong : false ≡ true = shown in cc
  none_told (inr out) = let wrong : false ≡ true = sym (ap (list_any (will_tell is_commit 0 (identifier world.state.head.name k))) start.errands) ∙ out in cc

-- the branches that a realm may declare are counted
declared_counted : (head : Head) → is_starting head ≡ true → are_counted_from 1 head.branches ≡ true
declared_counted head is =
    let a = and_parts (is_realm head.name && is_address head.address && are_allowed head.limits && are_declared head.branches && is_within 1 last_epoch head.epoch && (head.given == 0)) (head.entries == 0) is in
    let b = and_parts (is_realm head.name && is_address head.address && are_allowed head.limits && are_declared head.branches && is_within 1 last_epoch head.epoch) (head.given == 0) a.0 in
    let c = and_parts (is_realm head.name && is_address head.address && are_allowed head.limits && are_declared head.branches) (is_within 1 last_epoch head.epoch) b.0 in
    let d = and_parts (is_realm head.name && is_address head.address && are_allowed head.limits) (are_declared head.branches) c.0 in
    let e = and_parts (is_within 1 8 (length head.branches) && are_counted_from 1 head.branches && are_branches head.branches) (list_all (λ (branch : ℕ × List ℕ). is_label branch.1) head.branches) d.1 in
    let f = and_parts (is_within 1 8 (length head.branches) && are_counted_from 1 head.branches) (are_branches head.branches) e.0 in
    (and_parts (is_within 1 8 (length head.branches)) (are_counted_from 1 head.branches) f.0).1

-- of what nothing is told
untold_asked : (realm id : List ℕ) (start : World) (before moments : List Moment) → list_any any_verdict (told realm id (shown_in moments)) ≡ false → at_each_behind before (is_asked realm id start) moments ≡ true
untold_asked realm id start before [] none = refl
untold_asked realm id start before (moment ∷ moments) none =
    let parts = or_parts (are_told any_verdict realm id moment.shown) (are_told any_verdict realm id (shown_in moments)) (sym (told_more any_verdict realm id moment.shown (shown_in moments)) ∙ sym (any_told any_verdict realm id (moment.shown ++ shown_in moments)) ∙ none) in
    and_from _ _ (or_left _ _ (or_left _ _ (quiet (list_any is_commit (told realm id moment.shown)) refl (any_told any_verdict realm id moment.shown ∙ parts.0)))) (untold_asked realm id start (before ++ moment ∷ []) moments (any_told any_verdict realm id (shown_in moments) ∙ parts.1)) where
      quiet : (b : Bool) → list_any is_commit (told realm id moment.shown) ≡ b → list_any any_verdict (told realm id moment.shown) ≡ false → not b ≡ true
      quiet false is none = refl
      quiet true is none = absurd (let wrong : false ≡ true = sym none ∙ any_of is_commit (told realm id moment.shown) is in cc)

-- of the transaction of a key, from where a run begins
run_through : (world : World) (moves : List Move) (key : Key) (start : IsStart world) → is_run world moves ≡ true → (fine : is_spelled key ≡ true) → Ran key fine world world.state.head.branches (declared_counted world.state.head start.head) world.state.head.name world moves []
run_through world moves key start honest fine = runs_asked key fine world world.state.head.branches (declared_counted world.state.head start.head) world.state.head.name world moves [] (start_sound world start) (start_true world start) refl (start_witnessed world start) (start_asks key fine world start) honest

-- WHAT HAS A ROW WAS ASKED, or had its row when the run began
pub row_was_asked : (world : World) (moves : List Move) (key : Key) → IsStart world → is_run world moves ≡ true → is_spelled key ≡ true → is_some (row_at key (led_to world moves).rows) ≡ true → Ok world.state.head.name key world world.state.head.branches (traced world moves)
row_was_asked world moves key start honest fine stands = step (row_at key last.rows) refl stands where
  last : World
  last = led_to world moves

  sound : IsSound last
  sound = reached_sound world moves start honest

  named : last.state.head.name ≡ world.state.head.name
  named = name_led world moves

  step : (o : Option Row) → row_at key last.rows ≡ o → is_some o ≡ true → Ok world.state.head.name key world world.state.head.branches (traced world moves)
  step None at is = absurd (let wrong : false ≡ true = is in cc)
  step (Some r) at is =
      let of = row_here last sound key r at in
      let asks = subst (λ n. Asks n key world world.state.head.branches (traced world moves) last) (sym named) (run_through world moves key start honest fine).last in
      subst (λ n. Ok n key world world.state.head.branches (traced world moves)) named (lasting_ok key world world.state.head.branches (traced world moves) last sound asks of.0 of.1)

pub run_asked : (world : World) (moves : List Move) (id : List ℕ) → IsStart world → is_run world moves ≡ true → at_each_behind [] (is_asked world.state.head.name id world) (traced world moves) ≡ true
run_asked world moves id start honest = step (list_any any_verdict (told realm id (shown_in moments))) refl where
  realm : List ℕ
  realm = world.state.head.name

  moments : List Moment
  moments = traced world moves

  of_key : (key : Key) → is_spelled key ≡ true → at_each_behind [] (is_asked realm (identifier realm key) world) moments ≡ true
  of_key key fine = (run_through world moves key start honest fine).asked

  step : (b : Bool) → list_any any_verdict (told realm id (shown_in moments)) ≡ b → at_each_behind [] (is_asked realm id world) moments ≡ true
  step false none = untold_asked realm id world [] moments none
  step true is =
      let after = run_true world moves [] (start_sound world start) (start_true world start) honest in
      let ours = after.ours id (or_left _ _ (subst (λ n. list_any any_verdict (told n id (shown_in moments)) ≡ true) (sym (name_led world moves)) is)) in
      let same : id ≡ identifier realm ours.0 = ours.2 ∙ ap (λ n. identifier n ours.0) (name_led world moves) in
      subst (λ x. at_each_behind [] (is_asked realm x world) moments ≡ true) (sym same) (of_key ours.0 ours.1)

-- ALL FOUR
pub run_is_agreed : (world : World) (moves : List Move) (id : List ℕ) → IsStart world → is_run world moves ≡ true → IsAgreed world (traced world moves) id
run_is_agreed world moves id start honest = record {
  one = run_agrees world moves id start honest;
  backed = commits_are_backed world moves id start honest;
  kept = run_kept world moves id start honest;
  asked = run_asked world moves id start honest;
}
