-- Each event, and each party that comes back, leaves a realm true to its word.
use Rattle.std.proofs.Common.{◌≡◌, Bool, true, false, ℕ, List, [], ◌∷◌, ◌++◌, Option, Some, None, cond, refl, ap, subst, sym, ◌∙◌, ◌⊎◌, inl, inr}
use Rattle.std.specs.Prelude.{◌||◌, not, is_some}
use Rattle.std.specs.List.{list_all, list_any}
use Rattle.std.specs.Option.{option_to_list}
use Rattle.std.proofs.lemmas.Bool.{and_parts, or_cases, or_left, or_right, cases_Bool}
use Rattle.std.proofs.lemmas.List.{append-nil}
use Rattle.tip_branch.specs.Notes.{PartyNotes}
use Rattle.tip_branch.specs.declared.member.Errand.{Errand}
use Rattle.tip_branch.specs.declared.member.Errand.TheVariants as errand
use Rattle.tip_line.specs.declared.refusal.Refusal.TheVariants.{Frozen}
use Rattle.tip_rows.specs.Keys.{Key, is_same}
use Rattle.tip_rows.specs.declared.row.Row.{Row}
use Rattle.tip_machine.specs.Agreement.Verdicts.{Verdict, is_abort, is_commit, told}
use Rattle.tip_machine.specs.Answers.{identifier}
use Rattle.tip_machine.specs.Changes.{alter}
use Rattle.tip_machine.specs.Given.{was_given}
use Rattle.tip_machine.specs.Honest.{brings_no_party}
use Rattle.tip_machine.specs.Invariants.{IsSound}
use Rattle.tip_machine.specs.Invariants.Bounds.{is_spelled}
use Rattle.tip_machine.specs.Invariants.Parties.{are_out, is_due, is_sent}
use Rattle.tip_machine.specs.Moves.{World, rows_after, stepped}
use Rattle.tip_machine.specs.Order.{ordered}
use Rattle.tip_machine.specs.Outputs.{Output, brought, calls_of, drops_of, outputs}
use Rattle.tip_machine.specs.Requests.{strange}
use Rattle.tip_machine.specs.Returns.{Back, back_from, back_of, event_of}
use Rattle.tip_machine.specs.States.{Attempt, State, Work, transaction_of}
use Rattle.tip_machine.specs.Steps.{attempt, chosen, entered, frozen, is_open, returned, step, wanted}
use Rattle.tip_machine.specs.Transactions.{has_key, standing_at}
use Rattle.tip_machine.specs.Types.{Event, Transaction, Answer}
use Rattle.tip_machine.specs.declared.event.Event.TheVariants.{AskPull, AskPush, Dial, Line, Lost, Open, Resume, Settled, Voted}
use Rattle.tip_machine.specs.declared.event.Outcome.{Outcome}
use Rattle.tip_machine.specs.declared.transaction.PartyPlace.TheVariants.{Here}
use Rattle.tip_machine.proofs.Identifiers.{given_stays, new_was_not_given}
use Rattle.tip_machine.proofs.Stepping.{returned-silent}
use Rattle.tip_rows.proofs.OrderLemmas.{same_key}
use Rattle.tip_machine.specs.declared.event.Change.{Change}
use Rattle.std.specs.Str.{bytes_eq}
use Rattle.tip_agreement.specs.Truth.{IsTrueTo, Word, is_uncalled, will_tell, will_vote}
use Rattle.tip_agreement.proofs.Apart.{all_changed}
use Rattle.tip_agreement.proofs.Around.{found_altered, other_found}
use Rattle.tip_agreement.proofs.Bounded.{AreSpelled, in_bounds}
use Rattle.tip_agreement.proofs.Calling.{calls_told, drops_back_told, drops_lost_told}
use Rattle.tip_agreement.proofs.Events.{entered_whole}
use Rattle.tip_agreement.proofs.Homecoming.{BackGoes, CameHome}
use Rattle.tip_agreement.proofs.Keys.{keys_kept}
use Rattle.tip_agreement.proofs.Lasting.{next_fits}
use Rattle.tip_agreement.proofs.Moving.{due_awaited, sound_whole}
use Rattle.tip_agreement.proofs.Occurring.{back_goes, event_goes}
use Rattle.tip_agreement.proofs.Parting.{fits_here, given_here, is_given_there, true_without, ours_here, given_in}
use Rattle.tip_agreement.proofs.Returned.{Owns}
use Rattle.tip_agreement.proofs.Spoken.{IsQuiet, spoke_ends, spoke_ordered}
use Rattle.tip_agreement.proofs.Telling.{any_told, are_told, event_told, let_go_told, told_either, told_more}
use Rattle.tip_agreement.proofs.Truthful.{true_after, word_by, any_verdict}
use Rattle.tip_agreement.proofs.Wording.{Less, are_said, fits_less}

-- NOTHING MORE IS TOLD, and all else stays
pub still_true : (state : State) (rows rows' : List (Key × Row)) (errands : List PartyNotes) (shown later : List Output) → IsTrueTo shown (record { state = state; rows = rows; errands = errands }) → ((test : Verdict → Bool) (id : List ℕ) → are_told test state.head.name id later ≡ true → are_told test state.head.name id shown ≡ true) → IsTrueTo later (record { state = state; rows = rows'; errands = errands })
still_true state rows rows' errands shown later true_to heard = record {
  fits = λ k fine. fits_less (transaction_of k state) (new_word k) (old_word k) (less k) (true_to.fits k fine);
  given = λ k fine is. true_to.given k fine (elim (or_cases (new_word k).commit (new_word k).abort is) [ inl commit ↦ or_left (old_word k).commit _ ((less k).commit commit) | inr abort ↦ or_right (old_word k).commit _ ((less k).abort abort) ]);
  uncalled = true_to.uncalled;
  ours = λ id is. true_to.ours id (elim (or_cases (list_any any_verdict (told state.head.name id later)) (list_any (λ (party : PartyNotes). bytes_eq id party.id) errands) is) [
    | inl said ↦ or_left (list_any any_verdict (told state.head.name id shown)) _ (any_told any_verdict state.head.name id shown ∙ heard any_verdict id (sym (any_told any_verdict state.head.name id later) ∙ said))
    | inr out ↦ or_right (list_any any_verdict (told state.head.name id shown)) _ out
  ]);
} where
  old_word : Key → Word
  old_word k = word_by state.head.name state.head.epoch errands shown (identifier state.head.name k)

  new_word : Key → Word
  new_word k = word_by state.head.name state.head.epoch errands later (identifier state.head.name k)

  more : (test : Verdict → Bool) (k : Key) → list_any test (told state.head.name (identifier state.head.name k) later) || list_any (will_tell test state.head.epoch (identifier state.head.name k)) errands ≡ true → list_any test (told state.head.name (identifier state.head.name k) shown) || list_any (will_tell test state.head.epoch (identifier state.head.name k)) errands ≡ true
  more test k is = elim (or_cases (list_any test (told state.head.name (identifier state.head.name k) later)) (list_any (will_tell test state.head.epoch (identifier state.head.name k)) errands) is) [
    | inl said ↦ or_left (list_any test (told state.head.name (identifier state.head.name k) shown)) _ (any_told test state.head.name (identifier state.head.name k) shown ∙ heard test (identifier state.head.name k) (sym (any_told test state.head.name (identifier state.head.name k) later) ∙ said))
    | inr will ↦ or_right (list_any test (told state.head.name (identifier state.head.name k) shown)) _ will
  ]

  less : (k : Key) → Less (new_word k) (old_word k)
  less k = record { commit = more is_commit k; abort = more is_abort k; awaited = λ is. is }

-- the same of a state that has another entry
entry_true : (shown : List Output) (state : State) (rows rows' : List (Key × Row)) (errands : List PartyNotes) → IsTrueTo shown (record { state = state; rows = rows; errands = errands }) → IsTrueTo shown (record { state = (entered state).state; rows = rows'; errands = errands })
entry_true shown state rows rows' errands true_to = record { fits = true_to.fits; given = true_to.given; uncalled = true_to.uncalled; ours = true_to.ours }

-- KEYS, over a step
record StepKeys (old new : State) : Type 0 where
  given_new : (k : Key) → is_some (transaction_of k new) ≡ true → was_given new k ≡ true
  stays : (k : Key) → was_given old k ≡ true → was_given new k ≡ true
  fresh : (k : Key) → transaction_of k old ≡ None → is_some (transaction_of k new) ≡ true → was_given old k ≡ false

pub no_party : (event : Event) → brings_no_party event ≡ true → (brought event ≡ []) × ((returned Frozen event).spent ≡ None)
no_party (Open boxes) is = (refl, refl)
no_party (Dial address purpose boxes) is = (refl, refl)
no_party (Line seat heard) is = (refl, refl)
no_party (Lost seat) is = (refl, refl)
no_party (AskPush seat id) is = (refl, refl)
no_party (AskPull seat superior) is = (refl, refl)
no_party (Resume id) is = (refl, refl)
no_party (Voted party) is = absurd (cc)
no_party (Settled party) is = absurd (cc)

module _ (world : World) (sound : IsSound world) (event : Event) (outcome : Outcome) where
  abbrev tried : Attempt
  tried = attempt event (entered world.state)

  step_keys : StepKeys world.state (step world.state event outcome).state
  step_keys = record {
    given_new = given_in (step world.state event outcome).state (keys_kept world.state event outcome sound.numbered sound.keyed);
    stays = given_stays world.state event outcome;
    fresh = new_was_not_given world.state event outcome;
  }

  open_keys : is_open world.state ≡ true → StepKeys world.state (ordered world.state (chosen tried outcome)).state
  open_keys room = subst (StepKeys world.state) (ap (λ b. (cond b (ordered world.state (chosen tried outcome)) (frozen event world.state)).state) room) step_keys

  -- AN EVENT OF ITS OWN
  pub event_true : (shown : List Output) → IsTrueTo shown world → brings_no_party event ≡ true → IsTrueTo (shown ++ (stepped event outcome world).shown) (stepped event outcome world).world
  unfolding stepped
  event_true shown true_to none = step (is_open world.state) refl where
    quiet : IsQuiet (entered world.state)
    quiet = record { sent = refl; work = refl; spent = refl }

    step : (b : Bool) → is_open world.state ≡ b → IsTrueTo (shown ++ outputs event (cond b (wanted tried) None) outcome (cond b (ordered world.state (chosen tried outcome)) (frozen event world.state)).answer) (record { state = (cond b (ordered world.state (chosen tried outcome)) (frozen event world.state)).state; rows = rows_after (cond b (wanted tried) None) outcome world.rows; errands = world.errands ++ option_to_list (cond b (ordered world.state (chosen tried outcome)) (frozen event world.state)).answer.work })
    step true room =
        let keys = open_keys room in
        let v = ordered world.state (chosen tried outcome) in
        let whole = sound_whole world sound in
        let ends = event_goes (entered world.state) (entered_whole world.state whole) (next_fits world sound room) event none in
        let later = shown ++ outputs event (wanted tried) outcome v.answer in
        true_after (rows_after (wanted tried) outcome world.rows) world.errands shown later (entered world.state) v (record {
          quiet = quiet;
          spoke = spoke_ordered world.state (entered world.state) (chosen tried outcome) (spoke_ends (entered world.state) (in_bounds world.state sound.bounded).spelled quiet tried outcome ends);
          heard = λ test id is. elim (told_either test world.state.head.name id shown (outputs event (wanted tried) outcome v.answer) is) [
            | inl before ↦ inl before
            | inr now ↦ elim (event_told test world.state.head.name id event (wanted tried) outcome v.answer now) [
              | inl called ↦ absurd (let wrong : false ≡ true = sym (ap (are_told test world.state.head.name id) (no_party event none).0) ∙ called in cc)
              | inr rest ↦ inr rest
            ]
          ];
          given_old = is_given_there world sound;
          given_new = keys.given_new;
          stays = keys.stays;
          fresh = keys.fresh;
          fits = true_to.fits;
          given = true_to.given;
          uncalled = true_to.uncalled;
          ours = true_to.ours;
        })
    step false full =
        let silent = returned-silent Frozen event in
        let answer = (frozen event world.state).answer in
        subst (λ o. IsTrueTo (shown ++ outputs event None outcome answer) (record { state = world.state; rows = rows_after None outcome world.rows; errands = world.errands ++ option_to_list o })) (sym silent.1)
        (subst (λ ps. IsTrueTo (shown ++ outputs event None outcome answer) (record { state = world.state; rows = rows_after None outcome world.rows; errands = ps })) (sym (append-nil world.errands))
        (still_true world.state world.rows (rows_after None outcome world.rows) world.errands shown (shown ++ outputs event None outcome answer) true_to (λ test id is. elim (told_either test world.state.head.name id shown (outputs event None outcome answer) is) [
          | inl before ↦ before
          | inr now ↦ elim (event_told test world.state.head.name id event None outcome answer now) [
            | inl called ↦ absurd (let wrong : false ≡ true = sym (ap (are_told test world.state.head.name id) (no_party event none).0) ∙ called in cc)
            | inr rest ↦ elim rest [
              | inl said ↦ absurd (let wrong : false ≡ true = sym (ap (are_said test world.state.head.name id) silent.0) ∙ said in cc)
              | inr let_go ↦ absurd (let wrong : false ≡ true = sym (ap (let_go_told test world.state.head.name id) (no_party event none).1) ∙ let_go in cc)
            ]
          ]
        ])))

-- A PARTY THAT COMES BACK

pub brought_back : (party : PartyNotes) (back : Back) → brought (event_of party back) ≡ calls_of (back_of party back)
brought_back party back = step party.errand where
  step : (e : Errand) → brought (back_from e (back_of party back)) ≡ calls_of (back_of party back)
  step errand.Vote = refl
  step errand.Commit = refl
  step errand.Abort = refl
  step errand.Idle = refl

-- one that can't is let go
spent_back : (party : PartyNotes) (back : Back) → (returned Frozen (event_of party back)).spent ≡ Some (back_of party back)
spent_back party back = step party.errand where
  step : (e : Errand) → (returned Frozen (back_from e (back_of party back))).spent ≡ Some (back_of party back)
  step errand.Vote = refl
  step errand.Commit = refl
  step errand.Abort = refl
  step errand.Idle = refl

module _ (world : World) (sound : IsSound world) (party : PartyNotes) (rest : List PartyNotes) (is_out : are_out world.state (party ∷ rest) ≡ true) (due : is_due world.state party ≡ true)
    (shown : List Output) (true_to : IsTrueTo shown (record { state = world.state; rows = world.rows; errands = party ∷ rest })) where
  sent : is_sent party.errand party ≡ true
  sent = (due_awaited party world.state due).sent

  uncalled : is_uncalled party ≡ true
  uncalled = (and_parts (is_uncalled party) (list_all is_uncalled rest) true_to.uncalled).0

  module _ (back : Back) (outcome : Outcome) where
    abbrev event : Event
    event = event_of party back

    -- what it was told, it was to tell
    was_to_tell : (test : Verdict → Bool) (id : List ℕ) → are_told test world.state.head.name id (brought event) ≡ true → will_tell test world.state.head.epoch id party ≡ true
    was_to_tell test id is = calls_told test world.state.head.name id world.state.head.epoch party back uncalled (sym (ap (are_told test world.state.head.name id) (brought_back party back)) ∙ is)

    -- it is let go, and the state stays
    heard_letting : (change : Option Change) (answer : Answer) → answer.sent ≡ [] → answer.spent ≡ Some (back_of party back) → (test : Verdict → Bool) (id : List ℕ) → are_told test world.state.head.name id (shown ++ outputs event change outcome answer) ≡ true → (are_told test world.state.head.name id shown ≡ true) ⊎ ((will_tell test world.state.head.epoch id party ≡ true) ⊎ ((test Verdict.Abort ≡ true) × (will_vote world.state.head.epoch id party ≡ true)))
    heard_letting change answer silent spent test id is = elim (told_either test world.state.head.name id shown (outputs event change outcome answer) is) [
      | inl before ↦ inl before
      | inr now ↦ inr (elim (event_told test world.state.head.name id event change outcome answer now) [
        | inl called ↦ inl (was_to_tell test id called)
        | inr later ↦ elim later [
          | inl said ↦ absurd (let wrong : false ≡ true = sym (ap (are_said test world.state.head.name id) silent) ∙ said in cc)
          | inr let_go ↦ drops_back_told test world.state.head.name id world.state.head.epoch party back sent (sym (ap (let_go_told test world.state.head.name id) spent) ∙ let_go)
        ]
      ])
    ]

    let_go_true : (change : Option Change) (answer : Answer) → answer.sent ≡ [] → answer.spent ≡ Some (back_of party back) → IsTrueTo (shown ++ outputs event change outcome answer) (record { state = world.state; rows = world.rows; errands = rest })
    let_go_true change answer silent spent = true_without world sound shown (shown ++ outputs event change outcome answer) party rest is_out (heard_letting change answer silent spent) true_to

    -- it is here again
    module _ (home : CameHome party (back_of party back) (entered world.state) (attempt event (entered world.state))) (keys : StepKeys world.state (ordered world.state (chosen (attempt event (entered world.state)) outcome)).state) where
      abbrev t : Transaction
      t = home.transaction

      abbrev here : Work
      here = alter t.key (standing_at (Here (back_of party back))) (entered world.state)

      abbrev now_work : Work
      now_work = ordered world.state (chosen (attempt event (entered world.state)) outcome)

      abbrev told_now : List Output
      told_now = shown ++ outputs event (wanted (attempt event (entered world.state))) outcome now_work.answer

      heard_calls : (test : Verdict → Bool) (id : List ℕ) → are_told test world.state.head.name id (shown ++ brought event) ≡ true → (are_told test world.state.head.name id shown ≡ true) ⊎ (will_tell test world.state.head.epoch id party ≡ true)
      heard_calls test id is = elim (told_either test world.state.head.name id shown (brought event) is) [
        | inl before ↦ inl before
        | inr called ↦ inr (was_to_tell test id called)
      ]

      there_before : (k : Key) → is_some (transaction_of k here.state) ≡ is_some (transaction_of k world.state)
      there_before k = elim (cases_Bool (is_same t.key k)) [
        | inl same ↦ subst (λ x. is_some (transaction_of x here.state) ≡ is_some (transaction_of x world.state)) (same_key t.key k same) (ap is_some (found_altered t.key world.state (standing_at (Here (back_of party back))) (λ t. refl) t home.found) ∙ sym (ap is_some home.found))
        | inr differ ↦ ap is_some (other_found t.key world.state (standing_at (Here (back_of party back))) (λ t. refl) k differ)
      ]

      none_before : (k : Key) → transaction_of k here.state ≡ None → transaction_of k world.state ≡ None
      none_before k none = step (transaction_of k world.state) refl (sym (there_before k) ∙ ap is_some none) where
        step : (found : Option Transaction) → transaction_of k world.state ≡ found → is_some (transaction_of k world.state) ≡ false → transaction_of k world.state ≡ None
        step None is not = is
        step (Some u) is not = absurd (let wrong : true ≡ false = sym (ap is_some is) ∙ not in cc)

      spelled_here : AreSpelled here.state
      spelled_here = all_changed (λ (u : Transaction). is_spelled u.key) (has_key t.key) (standing_at (Here (back_of party back))) world.state.transactions (λ u is holds. holds) (in_bounds world.state sound.bounded).spelled

      home_true : IsTrueTo told_now (record { state = now_work.state; rows = rows_after (wanted (attempt event (entered world.state))) outcome world.rows; errands = rest ++ option_to_list now_work.answer.work })
      home_true =
          let quiet : IsQuiet here = record { sent = refl; work = refl; spent = refl } in
          let owned : Owns party world.state t = record { epoch = home.its.epoch; id = home.its.id } in
          true_after (rows_after (wanted (attempt event (entered world.state))) outcome world.rows) rest (shown ++ brought event) told_now here now_work (record {
            quiet = quiet;
            spoke = spoke_ordered world.state here (chosen (attempt event (entered world.state)) outcome) (spoke_ends here spelled_here quiet (attempt event (entered world.state)) outcome home.goes);
            heard = λ test id is. elim (told_either test world.state.head.name id shown (outputs event (wanted (attempt event (entered world.state))) outcome now_work.answer) is) [
              | inl before ↦ inl (told_more test world.state.head.name id shown (brought event) ∙ or_left (are_told test world.state.head.name id shown) _ before)
              | inr now ↦ elim (event_told test world.state.head.name id event (wanted (attempt event (entered world.state))) outcome now_work.answer now) [
                | inl called ↦ inl (told_more test world.state.head.name id shown (brought event) ∙ or_right (are_told test world.state.head.name id shown) _ called)
                | inr later ↦ inr later
              ]
            ];
            given_old = λ k there. is_given_there world sound k (sym (there_before k) ∙ there);
            given_new = keys.given_new;
            stays = keys.stays;
            fresh = λ k none. keys.fresh k (none_before k none);
            fits = fits_here world sound shown (shown ++ brought event) party (back_of party back) rest is_out heard_calls true_to t home.found owned;
            given = given_here world sound shown (shown ++ brought event) party (back_of party back) rest is_out heard_calls true_to t home.found owned;
            uncalled = (and_parts (is_uncalled party) (list_all is_uncalled rest) true_to.uncalled).1;
            ours = ours_here world sound shown (shown ++ brought event) party (back_of party back) rest is_out heard_calls true_to t home.found owned;
          })

    pub back_true : IsTrueTo (shown ++ (stepped event outcome (record world { errands = rest })).shown) (stepped event outcome (record world { errands = rest })).world
    unfolding stepped ordered
    back_true = step (is_open world.state) refl where
      -- a stranger
      strange_true : (a : Attempt) → a ≡ strange (back_of party back) (entered world.state) → IsTrueTo (shown ++ outputs event (wanted a) outcome (ordered world.state (chosen a outcome)).answer) (record { state = (ordered world.state (chosen a outcome)).state; rows = rows_after (wanted a) outcome world.rows; errands = rest ++ option_to_list (ordered world.state (chosen a outcome)).answer.work })
      strange_true a is = subst (λ a. IsTrueTo (shown ++ outputs event (wanted a) outcome (ordered world.state (chosen a outcome)).answer) (record { state = (ordered world.state (chosen a outcome)).state; rows = rows_after (wanted a) outcome world.rows; errands = rest ++ option_to_list (ordered world.state (chosen a outcome)).answer.work })) (sym is)
          (let v = ordered world.state (chosen (strange (back_of party back) (entered world.state)) outcome) in
          subst (λ ps. IsTrueTo (shown ++ outputs event None outcome v.answer) (record { state = v.state; rows = rows_after None outcome world.rows; errands = ps })) (sym (append-nil rest))
          (entry_true (shown ++ outputs event None outcome v.answer) world.state world.rows (rows_after None outcome world.rows) rest (let_go_true None v.answer refl refl)))

      open_true : is_open world.state ≡ true → BackGoes party (back_of party back) (entered world.state) (attempt event (entered world.state)) → IsTrueTo (shown ++ outputs event (wanted (attempt event (entered world.state))) outcome (ordered world.state (chosen (attempt event (entered world.state)) outcome)).answer) (record { state = (ordered world.state (chosen (attempt event (entered world.state)) outcome)).state; rows = rows_after (wanted (attempt event (entered world.state))) outcome world.rows; errands = rest ++ option_to_list (ordered world.state (chosen (attempt event (entered world.state)) outcome)).answer.work })
      open_true room (inl is) = strange_true (attempt event (entered world.state)) is
      open_true room (inr home) = home_true home (open_keys world sound event outcome room)

      step : (b : Bool) → is_open world.state ≡ b → IsTrueTo (shown ++ outputs event (cond b (wanted (attempt event (entered world.state))) None) outcome (cond b (ordered world.state (chosen (attempt event (entered world.state)) outcome)) (frozen event world.state)).answer) (record { state = (cond b (ordered world.state (chosen (attempt event (entered world.state)) outcome)) (frozen event world.state)).state; rows = rows_after (cond b (wanted (attempt event (entered world.state))) None) outcome world.rows; errands = rest ++ option_to_list (cond b (ordered world.state (chosen (attempt event (entered world.state)) outcome)) (frozen event world.state)).answer.work })
      step true room = open_true room (back_goes (entered world.state) (entered_whole world.state (sound_whole world sound)) (next_fits world sound room) party back (let known = due_awaited party world.state due in record { sent = known.sent; due = known.due }))
      step false full =
          let silent = returned-silent Frozen event in
          let answer = (frozen event world.state).answer in
          let gone = let_go_true None answer silent.0 (spent_back party back) in
          subst (λ o. IsTrueTo (shown ++ outputs event None outcome answer) (record { state = world.state; rows = rows_after None outcome world.rows; errands = rest ++ option_to_list o })) (sym silent.1)
          (subst (λ ps. IsTrueTo (shown ++ outputs event None outcome answer) (record { state = world.state; rows = rows_after None outcome world.rows; errands = ps })) (sym (append-nil rest))
          (record { fits = gone.fits; given = gone.given; uncalled = gone.uncalled; ours = gone.ours }))

  -- ONE THAT IS LOST
  pub lost_true : IsTrueTo (shown ++ drops_of party) (record { state = world.state; rows = world.rows; errands = rest })
  lost_true = true_without world sound shown (shown ++ drops_of party) party rest is_out (λ test id is. elim (told_either test world.state.head.name id shown (drops_of party) is) [
    | inl before ↦ inl before
    | inr now ↦ inr (drops_lost_told test world.state.head.name id world.state.head.epoch party sent now)
  ]) true_to
