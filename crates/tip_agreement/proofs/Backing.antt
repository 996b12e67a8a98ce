-- A committed row stands only where it was stored, or stood at the start.
use Rattle.std.proofs.Common.{◌≡◌, Bool, true, false, ℕ, List, [], ◌∷◌, ◌++◌, Option, Some, None, cond, refl, ap, subst, sym, ◌∙◌, ◌⊎◌, inl, inr}
use Rattle.std.specs.Prelude.{find, map, option_map}
use Rattle.std.specs.List.{list_all, list_any}
use Rattle.std.specs.Option.{option_map_or, option_to_list}
use Rattle.std.specs.Str.{bytes_eq}
use Rattle.std.proofs.lemmas.Bool.{and_from, and_parts, cases_Bool, or_cases, or_left, or_right}
use Rattle.std.proofs.lemmas.List.{append-nil, append_assoc}
use Rattle.std.proofs.lemmas.List.Folds.{list_any-append}
use Rattle.tip_branch.specs.Notes.{PartyNotes}
use Rattle.tip_branch.specs.declared.branch.Badge.{Badge}
use Rattle.tip_rows.specs.Keys.{Key, is_same}
use Rattle.tip_rows.specs.Logs.{is_rising, row_at}
use Rattle.tip_rows.specs.declared.row.Row.{Row}
use Rattle.tip_rows.proofs.MemoryLemmas.{bytes_eq-self}
use Rattle.tip_rows.proofs.OrderLemmas.{same_key}
use Rattle.tip_machine.specs.Agreement.{is_committed_row, row_in, stores_commit, was_committed}
use Rattle.tip_machine.specs.Agreement.Traces.{shown_in, traced}
use Rattle.tip_machine.specs.Answers.{identifier}
use Rattle.tip_machine.specs.Honest.{is_honest, is_run}
use Rattle.tip_machine.specs.Invariants.{IsSound}
use Rattle.tip_machine.specs.Invariants.Bounds.{is_spelled}
use Rattle.tip_machine.specs.Moves.{Move, World, gone_for, led_to, lost_from, moved, picked, renewed, rows_after, stepped}
use Rattle.tip_machine.specs.Outputs.{Output, brought, drops_of, outputs}
use Rattle.tip_machine.specs.Returns.{Back, event_of}
use Rattle.tip_machine.specs.Starting.{IsStart}
use Rattle.tip_machine.specs.Steps.{step, wants}
use Rattle.tip_machine.specs.Types.{Answer, Event, Transaction}
use Rattle.tip_machine.specs.declared.event.Change.{Change}
use Rattle.tip_machine.specs.declared.event.Change.TheVariants.{Put, Remove}
use Rattle.tip_machine.specs.declared.event.Outcome.{Outcome}
use Rattle.tip_machine.specs.declared.event.Outcome.TheVariants.{NoChange, Refused, Stored}
use Rattle.tip_machine.specs.Invariants.Stored.{is_stored_as}
use Rattle.tip_machine.specs.States.{transaction_of}
use Rattle.tip_txn.specs.declared.answer.Phase.TheVariants.{Committed}
use Rattle.tip_machine.proofs.Storing.{put_at, removed_at}
use Rattle.tip_agreement.proofs.Onward.{committed_row, says}
use Rattle.tip_agreement.specs.Truth.{has_committed_row}
use Rattle.tip_agreement.proofs.Kept.{moved_sound, reached_sound}
use Rattle.tip_agreement.proofs.Restarts.{start_sound}
use Rattle.tip_agreement.proofs.Rows.{to_says}
use Rattle.tip_agreement.proofs.Speaking.{ids_differ}

module _ (realm : List ℕ) (k : Key) (fine : is_spelled k ≡ true) where
  abbrev id : List ℕ
  id = identifier realm k

  -- AT THE START the row of a key is the row of its identifier

  same_test : (at : Key) → is_spelled at ≡ true → bytes_eq id (identifier realm at) ≡ is_same at k
  same_test at spelled = elim (cases_Bool (is_same at k)) [
    | inl same ↦ subst (λ x. bytes_eq id (identifier realm x) ≡ true) (sym (same_key at k same)) (bytes_eq-self id) ∙ sym same
    | inr differ ↦ ids_differ realm at k spelled fine differ ∙ sym differ
  ]

  pub same_row : (rows : List (Key × Row)) → list_all (λ (e : Key × Row). is_spelled e.0) rows ≡ true → row_in realm id rows ≡ row_at k rows
  same_row [] all = refl
  same_row (e ∷ rows) all =
      let parts = and_parts (is_spelled e.0) (list_all (λ (e : Key × Row). is_spelled e.0) rows) all in
      step (bytes_eq id (identifier realm e.0)) (is_same e.0 k) (same_test e.0 parts.0) (same_row rows parts.1) where
        step : (b c : Bool) → b ≡ c → row_in realm id rows ≡ row_at k rows → option_map (λ (e : Key × Row). e.1) (cond b (Some e) (find (λ (e : Key × Row). bytes_eq id (identifier realm e.0)) rows)) ≡ option_map (λ (e : Key × Row). e.1) (cond c (Some e) (find (λ (e : Key × Row). is_same e.0 k) rows))
        step true true same rest = refl
        step false false same rest = rest
        step true false same rest = absurd (cc)
        step false true same rest = absurd (cc)

  -- A CHANGE that is stored is shown

  abbrev is_committed_at : List (Key × Row) → Bool
  is_committed_at rows = option_map_or is_committed_row (row_at k rows) false

  abbrev changed_shown : Option Change → Outcome → List Output
  changed_shown change outcome = option_to_list (option_map (λ c. Output.Changed c outcome) change)

  put_shown : (at : Key) (new : Row) (rows : List (Key × Row)) (b : Bool) → is_same at k ≡ b → option_map_or is_committed_row (cond b (Some new) (row_at k rows)) false ≡ true → (is_committed_at rows ≡ true) ⊎ (list_any (stores_commit realm id) (changed_shown (Some (Put at new)) Stored) ≡ true)
  put_shown at new rows false differ is = inl is
  put_shown at new rows true same is = inr (or_left _ false (and_from _ _ (subst (λ x. bytes_eq id (identifier realm x) ≡ true) (sym (same_key at k same)) (bytes_eq-self id)) is))

  removed_shown : (rows : List (Key × Row)) (b : Bool) → option_map_or is_committed_row (cond b None (row_at k rows)) false ≡ true → is_committed_at rows ≡ true
  removed_shown rows true is = absurd (cc)
  removed_shown rows false is = is

  change_shown : (change : Option Change) (outcome : Outcome) (rows : List (Key × Row)) → is_rising rows ≡ true → is_committed_at (rows_after change outcome rows) ≡ true → (is_committed_at rows ≡ true) ⊎ (list_any (stores_commit realm id) (changed_shown change outcome) ≡ true)
  change_shown None outcome rows rising is = inl is
  change_shown (Some change) NoChange rows rising is = inl is
  change_shown (Some change) Refused rows rising is = inl is
  change_shown (Some (Put at new)) Stored rows rising is = put_shown at new rows (is_same at k) refl (sym (ap (λ r. option_map_or is_committed_row r false) (put_at at new k rows)) ∙ is)
  change_shown (Some (Remove at)) Stored rows rising is = inl (removed_shown rows (is_same at k) (sym (ap (λ r. option_map_or is_committed_row r false) (removed_at at k rows rising)) ∙ is))

  among_outputs : (event : Event) (change : Option Change) (outcome : Outcome) (answer : Answer) → list_any (stores_commit realm id) (changed_shown change outcome) ≡ true → list_any (stores_commit realm id) (outputs event change outcome answer) ≡ true
  among_outputs event change outcome answer is =
      let test = stores_commit realm id in
      let rest = map Output.Sent answer.sent ++ (option_to_list (option_map (λ (party : PartyNotes). Output.Works party.id party.errand) answer.work) ++ option_map_or drops_of answer.spent []) in
      let refused = option_to_list (option_map Output.Refused answer.refusal) in
      let opened = option_to_list (option_map Output.Opened answer.opened) in
      let a = list_any-append test (changed_shown change outcome) rest ∙ or_left (list_any test (changed_shown change outcome)) _ is in
      let b = list_any-append test (brought event) (changed_shown change outcome ++ rest) ∙ or_right (list_any test (brought event)) _ a in
      let c = list_any-append test opened (brought event ++ (changed_shown change outcome ++ rest)) ∙ or_right (list_any test opened) _ b in
      list_any-append test refused (opened ++ (brought event ++ (changed_shown change outcome ++ rest))) ∙ or_right (list_any test refused) _ c

  -- EACH MOVE

  abbrev StoredBy : World → List Output → List (Key × Row) → Type 0
  StoredBy world shown rows = is_committed_at rows ≡ true → (is_committed_at world.rows ≡ true) ⊎ (list_any (stores_commit realm id) shown ≡ true)

  stepped_by : (event : Event) (outcome : Outcome) (world : World) → is_rising world.rows ≡ true → StoredBy world (stepped event outcome world).shown (stepped event outcome world).world.rows
  unfolding stepped
  stepped_by event outcome world rising is = elim (change_shown (wants world.state event) outcome world.rows rising is) [
    | inl old ↦ inl old
    | inr new ↦ inr (among_outputs event (wants world.state event) outcome (step world.state event outcome).answer new)
  ]

  gone_by : (back : Back) (outcome : Outcome) (errands : List PartyNotes) (world : World) → is_rising world.rows ≡ true → StoredBy world (gone_for errands back outcome world).shown (gone_for errands back outcome world).world.rows
  gone_by back outcome [] world rising is = inl is
  gone_by back outcome (party ∷ errands) world rising is = stepped_by (event_of party back) outcome (record world { errands = errands }) rising is

  lost_by : (errands : List PartyNotes) (world : World) → StoredBy world (lost_from errands world).shown (lost_from errands world).world.rows
  lost_by [] world is = inl is
  lost_by (party ∷ errands) world is = inl is

  renewed_by : (boxes : Key → List Badge) (outcome : Outcome) (world : World) → StoredBy world (renewed boxes outcome world).shown (renewed boxes outcome world).world.rows
  renewed_by boxes Stored world is = inl is
  renewed_by boxes Refused world is = inl is
  renewed_by boxes NoChange world is = inl is

  pub moved_by : (move : Move) (world : World) → is_rising world.rows ≡ true → StoredBy world (moved move world).shown (moved move world).world.rows
  moved_by (Move.Step event outcome) world rising is = stepped_by event outcome world rising is
  moved_by (Move.Go place back outcome) world rising is = gone_by back outcome (picked place world.errands) world rising is
  moved_by (Move.Lose place) world rising is = lost_by (picked place world.errands) world is
  moved_by (Move.Restart boxes) world rising is = inl is
  moved_by (Move.Renew boxes outcome) world rising is = renewed_by boxes outcome world is

  -- A RUN

  pub more_shown : (start : World) (shown more : List Output) → was_committed realm id start shown ≡ true → was_committed realm id start (shown ++ more) ≡ true
  more_shown start shown more is = elim (or_cases (option_map_or is_committed_row (row_in realm id start.rows) false) (list_any (stores_commit realm id) shown) is) [
    | inl stood ↦ or_left (option_map_or is_committed_row (row_in realm id start.rows) false) _ stood
    | inr stored ↦ or_right (option_map_or is_committed_row (row_in realm id start.rows) false) _ (list_any-append (stores_commit realm id) shown more ∙ or_left (list_any (stores_commit realm id) shown) _ stored)
  ]

  pub now_shown : (start : World) (shown more : List Output) → list_any (stores_commit realm id) more ≡ true → was_committed realm id start (shown ++ more) ≡ true
  now_shown start shown more is = or_right (option_map_or is_committed_row (row_in realm id start.rows) false) _ (list_any-append (stores_commit realm id) shown more ∙ or_right (list_any (stores_commit realm id) shown) _ is)

  run_stored : (start world : World) (moves : List Move) (shown : List Output) → IsSound world → (is_committed_at world.rows ≡ true → was_committed realm id start shown ≡ true) → is_run world moves ≡ true → is_committed_at (led_to world moves).rows ≡ true → was_committed realm id start (shown ++ shown_in (traced world moves)) ≡ true
  run_stored start world [] shown sound was honest is = subst (λ xs. was_committed realm id start xs ≡ true) (sym (append-nil shown)) (was is)
  run_stored start world (move ∷ moves) shown sound was honest is =
      let parts = and_parts (is_honest move world) (is_run (moved move world).world moves) honest in
      let next = (moved move world).world in
      subst (λ xs. was_committed realm id start xs ≡ true) (append_assoc shown (moved move world).shown (shown_in (traced next moves)))
      (run_stored start next moves (shown ++ (moved move world).shown) (moved_sound move world sound parts.0) (λ now. elim (moved_by move world (to_says world.state world.rows sound.stored).0 now) [
        | inl old ↦ more_shown start shown (moved move world).shown (was old)
        | inr new ↦ now_shown start shown (moved move world).shown new
      ]) parts.1 is)

pub row_was_stored : (world : World) (moves : List Move) (key : Key) → IsStart world → is_run world moves ≡ true → is_spelled key ≡ true → has_committed_row key (led_to world moves) ≡ true → was_committed world.state.head.name (identifier world.state.head.name key) world (shown_in (traced world moves)) ≡ true
row_was_stored world moves key start honest fine is = run_stored world.state.head.name key fine world world moves [] (start_sound world start) (λ stands. or_left _ false (ap (λ r. option_map_or is_committed_row r false) (same_row world.state.head.name key fine world.rows start.rows.spelled) ∙ stands)) honest is

pub committed_was_stored : (world : World) (moves : List Move) (key : Key) (t : Transaction) → IsStart world → is_run world moves ≡ true → is_spelled key ≡ true → transaction_of key (led_to world moves).state ≡ Some t → t.phase ≡ Committed → was_committed world.state.head.name (identifier world.state.head.name key) world (shown_in (traced world moves)) ≡ true
committed_was_stored world moves key t start honest fine found committed =
    let last = led_to world moves in
    let stored = (to_says last.state last.rows (reached_sound world moves start honest).stored).1 key in
    let its : is_stored_as t.phase t (row_at key last.rows) ≡ true = subst (λ o. says o (row_at key last.rows) ≡ true) found stored in
    row_was_stored world moves key start honest fine (committed_row t (row_at key last.rows) (subst (λ f. is_stored_as f t (row_at key last.rows) ≡ true) committed its))
