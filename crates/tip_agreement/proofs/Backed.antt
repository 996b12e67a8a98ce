-- A COMMIT IS TOLD only once the committed row was stored, or where it stood at the start.
use Rattle.std.proofs.Common.{◌≡◌, Bool, true, false, ℕ, List, [], ◌∷◌, ◌++◌, Option, Some, None, cond, refl, ap, subst, sym, ◌∙◌, ◌⊎◌, inl, inr}
use Rattle.std.specs.Prelude.{◌||◌, ◌==◌, flat_map, not}
use Rattle.std.specs.List.{list_all, list_any}
use Rattle.std.specs.Option.{option_map_or, option_to_list}
use Rattle.std.specs.Str.{bytes_eq}
use Rattle.std.proofs.lemmas.Bool.{and_from, and_parts, or_left, or_parts, or_right}
use Rattle.std.proofs.lemmas.List.{append-nil}
use Rattle.std.proofs.lemmas.List.Concat.{flat_map-append}
use Rattle.tip_branch.specs.Notes.{PartyNotes}
use Rattle.tip_branch.specs.declared.branch.Badge.{Badge}
use Rattle.tip_branch.specs.declared.member.Errand.{Errand}
use Rattle.tip_branch.specs.declared.member.Errand.TheVariants as errand
use Rattle.tip_line.specs.declared.refusal.Refusal.TheVariants.{Frozen}
use Rattle.tip_rows.specs.Keys.{Key}
use Rattle.tip_rows.specs.Logs.{is_rising, row_at}
use Rattle.tip_rows.specs.declared.row.Row.{Row}
use Rattle.tip_machine.specs.Agreement.{is_backed, was_committed}
use Rattle.tip_machine.specs.Agreement.Traces.{Moment, at_each_behind, shown_in, traced}
use Rattle.tip_machine.specs.Agreement.Verdicts.{Verdict, is_commit, told}
use Rattle.tip_machine.specs.Answers.{identifier}
use Rattle.tip_machine.specs.Changes.{alter}
use Rattle.tip_machine.specs.Honest.{brings_no_party, is_honest, is_run}
use Rattle.tip_machine.specs.Invariants.{IsSound}
use Rattle.tip_machine.specs.Invariants.Bounds.{is_spelled}
use Rattle.tip_machine.specs.Invariants.Parties.{are_out, is_due}
use Rattle.tip_machine.specs.Moves.{Move, Moved, World, drops_at, drops_here, gone_for, lost_from, moved, picked, renewed, rows_after, stepped}
use Rattle.tip_machine.specs.Order.{ordered, turn}
use Rattle.tip_machine.specs.Outputs.{Output, brought, drops_of, outputs}
use Rattle.tip_machine.specs.Requests.{strange}
use Rattle.tip_machine.specs.Returns.{Back, back_of, event_of}
use Rattle.tip_machine.specs.Starting.{IsStart}
use Rattle.tip_machine.specs.States.{Attempt, State, Work, transaction_of}
use Rattle.tip_machine.specs.Steps.{attempt, chosen, entered, frozen, is_open, wanted}
use Rattle.tip_machine.specs.Transactions.{has_key, standing_at}
use Rattle.tip_machine.specs.Types.{Event, PartyPlace, Transaction}
use Rattle.tip_machine.specs.declared.event.Change.{Change}
use Rattle.tip_machine.specs.declared.event.Outcome.{Outcome}
use Rattle.tip_machine.specs.declared.event.Outcome.TheVariants.{NoChange, Refused, Stored}
use Rattle.tip_machine.specs.declared.transaction.PartyPlace.TheVariants.{Here, Out, Spent}
use Rattle.tip_machine.proofs.Stepping.{returned-silent}
use Rattle.tip_agreement.specs.Truth.{IsTrueTo, is_uncalled, verdict_of, will_tell}
use Rattle.tip_agreement.proofs.Agreeing.{any_of, moved_true, run_true, start_true}
use Rattle.tip_agreement.proofs.Declared.{name_led, name_moved}
use Rattle.tip_agreement.proofs.Apart.{all_changed}
use Rattle.tip_agreement.proofs.Backing.{more_shown, moved_by, now_shown, same_row}
use Rattle.tip_agreement.proofs.Bounded.{AreSpelled, in_bounds}
use Rattle.tip_agreement.proofs.Calling.{calls_told}
use Rattle.tip_agreement.proofs.Commanded.{EndsGo, commits_still}
use Rattle.tip_agreement.proofs.Concluding.{Goes}
use Rattle.tip_agreement.proofs.Errands.{first_due}
use Rattle.tip_agreement.proofs.Events.{entered_whole}
use Rattle.tip_agreement.proofs.Holding.{brought_back, no_party}
use Rattle.tip_agreement.proofs.Homecoming.{BackGoes, placed_says}
use Rattle.tip_agreement.proofs.Kept.{moved_sound}
use Rattle.tip_agreement.proofs.Lasting.{next_fits}
use Rattle.tip_agreement.proofs.Moving.{due_awaited, sound_whole}
use Rattle.tip_agreement.proofs.Occurring.{back_goes, event_goes}
use Rattle.tip_agreement.proofs.Onward.{is_committed, row_in, says, tells_commit}
use Rattle.tip_agreement.proofs.Picking.{all_picked, any_picked, picked_out}
use Rattle.tip_agreement.proofs.Restarts.{start_sound}
use Rattle.tip_agreement.proofs.Rows.{Says, stored_at, to_says}
use Rattle.tip_agreement.proofs.Spoken.{IsQuiet, spelled_there, spoke_ends, spoke_ordered}
use Rattle.tip_agreement.proofs.Telling.{any_told, are_told, drops_told, event_told, let_go_told, ordered_quiet, told_either, told_more}
use Rattle.tip_agreement.proofs.Truthful.{any_behind, any_verdict, let_go_rolls}
use Rattle.tip_agreement.proofs.Wording.{are_said}

-- who will tell a commit will tell it in each epoch

pub will_still : (now later : ℕ) (id : List ℕ) (party : PartyNotes) → will_tell is_commit now id party ≡ true → will_tell is_commit later id party ≡ true
will_still now later id party is = let parts = and_parts (bytes_eq id party.id) _ is in and_from _ _ parts.0 (step party.errand parts.1) where
  votes : (b : Bool) → option_map_or is_commit (cond b None (Some Verdict.Abort)) false ≡ true → ⊥
  votes true is = cc
  votes false is = cc

  step : (e : Errand) → option_map_or is_commit (verdict_of now e party.epoch) false ≡ true → option_map_or is_commit (verdict_of later e party.epoch) false ≡ true
  step errand.Commit is = refl
  step errand.Vote is = absurd (votes (party.epoch == now) is)
  step errand.Idle is = absurd (cc)
  step errand.Abort is = absurd (cc)

goes_still : (now later : ℕ) (id : List ℕ) (work : Option PartyNotes) → option_map_or (will_tell is_commit now id) work false ≡ true → option_map_or (will_tell is_commit later id) work false ≡ true
goes_still now later id None is = is
goes_still now later id (Some party) is = will_still now later id party is

-- WHAT A RULE TELLS

module _ (w : Work) (spelled : AreSpelled w.state) (quiet : IsQuiet w) (k : Key) (fine : is_spelled k ≡ true) where
  none_yet : tells_commit k w ≡ true → ⊥
  none_yet is =
      let id = identifier w.state.head.name k in
      let wrong : false ≡ true = sym (λ i. are_said is_commit w.state.head.name id (quiet.sent i) || option_map_or (will_tell is_commit w.state.head.epoch id) (quiet.work i) false) ∙ is in
      cc

  goes_backed : (change : Option Change) (v : Work) → Goes change w v → (row : Option Row) → says (transaction_of k w.state) row ≡ true → tells_commit k v ≡ true → (is_committed row ≡ true) ⊎ (is_committed (row_in change k row) ≡ true)
  goes_backed change v goes row fits is = elim (goes.1.says.backed (spelled_there w spelled quiet goes.0) k fine row fits is) [
    | inl told ↦ absurd (none_yet told)
    | inr stands ↦ stands
  ]

  -- by what became of the change
  ends_backed : (a : Attempt) (outcome : Outcome) → EndsGo w a → (rows : List (Key × Row)) → is_rising rows ≡ true → says (transaction_of k w.state) (row_at k rows) ≡ true → tells_commit k (chosen a outcome) ≡ true → (is_committed (row_at k rows) ≡ true) ⊎ (is_committed (row_at k (rows_after (wanted a) outcome rows)) ≡ true)
  ends_backed (Attempt.Done v) outcome (inl goes) rows rising fits is = goes_backed None v goes (row_at k rows) fits is
  ends_backed (Attempt.Done v) outcome (inr grown) rows rising fits is = absurd (none_yet (commits_still w v grown.epoch grown.name grown.work grown.said k is))
  ends_backed (Attempt.Asks change stored refused) Stored goes rows rising fits is = elim (goes_backed (Some change) stored goes.0 (row_at k rows) fits is) [
    | inl stood ↦ inl stood
    | inr now ↦ inr (ap is_committed (stored_at (Some change) k rows rising) ∙ now)
  ]
  ends_backed (Attempt.Asks change stored refused) Refused goes rows rising fits is = goes_backed None refused goes.1 (row_at k rows) fits is
  ends_backed (Attempt.Asks change stored refused) NoChange goes rows rising fits is = goes_backed None refused goes.1 (row_at k rows) fits is

-- EACH MOVE

module _ (realm : List ℕ) (now : ℕ) (k : Key) (fine : is_spelled k ≡ true) where
  abbrev pub id : List ℕ
  id = identifier realm k

  -- a party is out to tell a commit
  abbrev pub will : List PartyNotes → Bool
  will errands = list_any (will_tell is_commit now id) errands

  abbrev pub are_told_commit : List Output → Bool
  are_told_commit shown = are_told is_commit realm id shown

  abbrev pub stands : List (Key × Row) → Bool
  stands rows = is_committed (row_at k rows)

  -- a party was out to tell it, or the committed row stood, or stands now
  abbrev pub IsBacked : World → World → Type 0
  IsBacked world after = (will world.errands ≡ true) ⊎ ((stands world.rows ≡ true) ⊎ (stands after.rows ≡ true))

  pub record Backs (world : World) (went : Moved) : Type 0 where
    pub told : are_told_commit went.shown ≡ true → IsBacked world went.world
    pub out : will went.world.errands ≡ true → IsBacked world went.world

  -- nobody is told to commit by being let go
  none_let_go : (spent : Option PartyNotes) → let_go_told is_commit realm id spent ≡ true → ⊥
  none_let_go spent is = let wrong : false ≡ true = (let_go_rolls is_commit realm id spent is).0 in cc

  -- what an event shows was brought, or said; and who is out was out, or goes out
  module _ (B : Type 0) (event : Event) (change : Option Change) (outcome : Outcome) (v : Work) (named : v.state.head.name ≡ realm) (says_it : tells_commit k v ≡ true → B) where
    shows : (are_told_commit (brought event) ≡ true → B) → are_told_commit (outputs event change outcome v.answer) ≡ true → B
    shows brings is = elim (event_told is_commit realm id event change outcome v.answer is) [
      | inl called ↦ brings called
      | inr later ↦ elim later [
        | inl said ↦ says_it (subst (λ n. are_said is_commit n (identifier n k) v.answer.sent || option_map_or (will_tell is_commit v.state.head.epoch (identifier n k)) v.answer.work false ≡ true) (sym named) (or_left (are_said is_commit realm id v.answer.sent) _ said))
        | inr let_go ↦ absurd (none_let_go v.answer.spent let_go)
      ]
    ]

    goes_out : (errands : List PartyNotes) → (will errands ≡ true → B) → will (errands ++ option_to_list v.answer.work) ≡ true → B
    goes_out errands was is = elim (any_behind (will_tell is_commit now id) errands v.answer.work is) [
      | inl old ↦ was old
      | inr new ↦ says_it (subst (λ n. are_said is_commit n (identifier n k) v.answer.sent || option_map_or (will_tell is_commit v.state.head.epoch (identifier n k)) v.answer.work false ≡ true) (sym named) (or_right (are_said is_commit realm id v.answer.sent) _ (goes_still now v.state.head.epoch id v.answer.work new)))
    ]

  -- nothing is said, and nobody goes out
  quiet_says : (v : Work) → v.answer.sent ≡ [] → v.answer.work ≡ None → tells_commit k v ≡ true → ⊥
  quiet_says v sent work is =
      let wrong : false ≡ true = sym (λ i. are_said is_commit v.state.head.name (identifier v.state.head.name k) (sent i) || option_map_or (will_tell is_commit v.state.head.epoch (identifier v.state.head.name k)) (work i) false) ∙ is in
      cc

  in_order : (s : State) (v : Work) → tells_commit k (ordered s v) ≡ true → tells_commit k v ≡ true
  unfolding ordered
  in_order s v is = commits_still v (ordered s v) refl refl refl (ordered_quiet (turn s) v.answer.sent) k is

  -- An event of its own
  module _ (world : World) (sound : IsSound world) (named : world.state.head.name ≡ realm) where
    rows_said : (is_rising world.rows ≡ true) × Says world.state world.rows
    rows_said = to_says world.state world.rows sound.stored

    module _ (event : Event) (outcome : Outcome) where
      abbrev tried : Attempt
      tried = attempt event (entered world.state)

      abbrev done : Work
      done = ordered world.state (chosen tried outcome)

      begins : IsQuiet (entered world.state)
      begins = record { sent = refl; work = refl; spent = refl }

      event_backs : brings_no_party event ≡ true → Backs world (stepped event outcome world)
      unfolding stepped
      event_backs none = step (is_open world.state) refl where
        from : (change : Option Change) (v : Work) → v.state.head.name ≡ realm → (tells_commit k v ≡ true → IsBacked world (record { state = v.state; rows = rows_after change outcome world.rows; errands = world.errands ++ option_to_list v.answer.work })) → Backs world (record { shown = outputs event change outcome v.answer; world = record { state = v.state; rows = rows_after change outcome world.rows; errands = world.errands ++ option_to_list v.answer.work } })
        from change v same says_it = record {
          told = shows _ event change outcome v same says_it (λ called. absurd (let wrong : false ≡ true = sym (ap are_told_commit (no_party event none).0) ∙ called in cc));
          out = goes_out _ event change outcome v same says_it world.errands (λ was. inl was);
        }

        step : (b : Bool) → is_open world.state ≡ b → Backs world (record { shown = outputs event (cond b (wanted tried) None) outcome (cond b done (frozen event world.state)).answer; world = record { state = (cond b done (frozen event world.state)).state; rows = rows_after (cond b (wanted tried) None) outcome world.rows; errands = world.errands ++ option_to_list (cond b done (frozen event world.state)).answer.work } })
        step true room =
            let ends = event_goes (entered world.state) (entered_whole world.state (sound_whole world sound)) (next_fits world sound room) event none in
            let spelled = (in_bounds world.state sound.bounded).spelled in
            let spoke = spoke_ordered world.state (entered world.state) (chosen tried outcome) (spoke_ends (entered world.state) spelled begins tried outcome ends) in
            from (wanted tried) done (spoke.name ∙ named) (λ is. inr (ends_backed (entered world.state) spelled begins k fine tried outcome ends world.rows rows_said.0 (rows_said.1 k) (in_order world.state (chosen tried outcome) is)))
        step false full = let silent = returned-silent Frozen event in from None (frozen event world.state) named (λ is. absurd (quiet_says (frozen event world.state) silent.0 silent.1 is))

    -- A party that comes back
    module _ (party : PartyNotes) (rest : List PartyNotes) (is_out : are_out world.state (party ∷ rest) ≡ true) (due : is_due world.state party ≡ true) (uncalled : is_uncalled party ≡ true) (back : Back) (outcome : Outcome) where
      abbrev event : Event
      event = event_of party back

      abbrev met : World
      met = record { state = world.state; rows = world.rows; errands = party ∷ rest }

      back_backs : Backs met (stepped event outcome (record world { errands = rest }))
      unfolding stepped ordered
      back_backs = step (is_open world.state) refl where
        from : (change : Option Change) (v : Work) → v.state.head.name ≡ realm → (tells_commit k v ≡ true → IsBacked met (record { state = v.state; rows = rows_after change outcome world.rows; errands = rest ++ option_to_list v.answer.work })) → Backs met (record { shown = outputs event change outcome v.answer; world = record { state = v.state; rows = rows_after change outcome world.rows; errands = rest ++ option_to_list v.answer.work } })
        from change v same says_it = record {
          told = shows _ event change outcome v same says_it (λ called. inl (or_left (will_tell is_commit now id party) _ (calls_told is_commit realm id now party back uncalled (sym (ap are_told_commit (brought_back party back)) ∙ called))));
          out = goes_out _ event change outcome v same says_it rest (λ was. inl (or_right (will_tell is_commit now id party) _ was));
        }

        came : (a : Attempt) → BackGoes party (back_of party back) (entered world.state) a → Backs met (record { shown = outputs event (wanted a) outcome (ordered world.state (chosen a outcome)).answer; world = record { state = (ordered world.state (chosen a outcome)).state; rows = rows_after (wanted a) outcome world.rows; errands = rest ++ option_to_list (ordered world.state (chosen a outcome)).answer.work } })
        came a (inl is) = subst (λ a. Backs met (record { shown = outputs event (wanted a) outcome (ordered world.state (chosen a outcome)).answer; world = record { state = (ordered world.state (chosen a outcome)).state; rows = rows_after (wanted a) outcome world.rows; errands = rest ++ option_to_list (ordered world.state (chosen a outcome)).answer.work } })) (sym is) (strangers (ordered world.state (chosen (strange (back_of party back) (entered world.state)) outcome)) refl) where
          strangers : (v : Work) → v ≡ ordered world.state (chosen (strange (back_of party back) (entered world.state)) outcome) → Backs met (record { shown = outputs event None outcome v.answer; world = record { state = v.state; rows = world.rows; errands = rest ++ option_to_list v.answer.work } })
          strangers v same = from None v (ap (λ (x : Work). x.state.head.name) same ∙ named) (λ is. absurd (quiet_says v (ap (λ (x : Work). x.answer.sent) same) (ap (λ (x : Work). x.answer.work) same) is))
        came a (inr home) =
            let t = home.transaction in
            let here = alter t.key (standing_at (Here (back_of party back))) (entered world.state) in
            let quiet : IsQuiet here = record { sent = refl; work = refl; spent = refl } in
            let spelled : AreSpelled here.state = all_changed (λ (u : Transaction). is_spelled u.key) (has_key t.key) (standing_at (Here (back_of party back))) world.state.transactions (λ u is holds. holds) (in_bounds world.state sound.bounded).spelled in
            let spoke = spoke_ordered world.state here (chosen a outcome) (spoke_ends here spelled quiet a outcome home.goes) in
            from (wanted a) (ordered world.state (chosen a outcome)) (spoke.name ∙ named) (λ is. inr (ends_backed here spelled quiet k fine a outcome home.goes world.rows rows_said.0 (placed_says t (Here (back_of party back)) (entered world.state).state home.found world.rows rows_said.1 k) (in_order world.state (chosen a outcome) is)))

        step : (b : Bool) → is_open world.state ≡ b → Backs met (record { shown = outputs event (cond b (wanted (attempt event (entered world.state))) None) outcome (cond b (ordered world.state (chosen (attempt event (entered world.state)) outcome)) (frozen event world.state)).answer; world = record { state = (cond b (ordered world.state (chosen (attempt event (entered world.state)) outcome)) (frozen event world.state)).state; rows = rows_after (cond b (wanted (attempt event (entered world.state))) None) outcome world.rows; errands = rest ++ option_to_list (cond b (ordered world.state (chosen (attempt event (entered world.state)) outcome)) (frozen event world.state)).answer.work } })
        step true room = came (attempt event (entered world.state)) (back_goes (entered world.state) (entered_whole world.state (sound_whole world sound)) (next_fits world sound room) party back (let known = due_awaited party world.state due in record { sent = known.sent; due = known.due }))
        step false full = let silent = returned-silent Frozen event in from None (frozen event world.state) named (λ is. absurd (quiet_says (frozen event world.state) silent.0 silent.1 is))

  -- Who is rolled back is told to abort

  none_dropped : (party : PartyNotes) → are_told_commit (drops_of party) ≡ true → ⊥
  none_dropped party is = let wrong : false ≡ true = (drops_told is_commit realm id party is).aborts in cc

  none_lost : (errands : List PartyNotes) → are_told_commit (flat_map drops_of errands) ≡ true → ⊥
  none_lost [] is = let wrong : false ≡ true = is in cc
  none_lost (party ∷ errands) is = elim (told_either is_commit realm id (drops_of party) (flat_map drops_of errands) is) [ inl first ↦ none_dropped party first | inr later ↦ none_lost errands later ]

  none_at : (place : PartyPlace) → are_told_commit (drops_at place) ≡ true → ⊥
  none_at (Here party) is = none_dropped party is
  none_at (Out errand) is = let wrong : false ≡ true = is in cc
  none_at Spent is = let wrong : false ≡ true = is in cc

  none_here : (ts : List Transaction) → are_told_commit (flat_map (λ (t : Transaction). drops_at t.place) ts) ≡ true → ⊥
  none_here [] is = let wrong : false ≡ true = is in cc
  none_here (t ∷ ts) is = elim (told_either is_commit realm id (drops_at t.place) (flat_map (λ (t : Transaction). drops_at t.place) ts) is) [ inl first ↦ none_at t.place first | inr later ↦ none_here ts later ]

  -- Each move

  gone_backs : (world : World) (back : Back) (outcome : Outcome) → IsSound world → world.state.head.name ≡ realm → (errands : List PartyNotes) → are_out world.state errands ≡ true → list_all is_uncalled errands ≡ true → ((party : PartyNotes) (rest : List PartyNotes) → errands ≡ party ∷ rest → will (party ∷ rest) ≡ true → will world.errands ≡ true) → Backs world (gone_for errands back outcome world)
  gone_backs world back outcome sound named [] is_out uncalled among = record { told = λ is. absurd (let wrong : false ≡ true = is in cc); out = λ is. inl is }
  gone_backs world back outcome sound named (party ∷ rest) is_out uncalled among =
      let backs = back_backs world sound named party rest is_out (first_due world.state party rest is_out) (and_parts (is_uncalled party) (list_all is_uncalled rest) uncalled).0 back outcome in
      record { told = λ is. met_before (among party rest refl) (backs.told is); out = λ is. met_before (among party rest refl) (backs.out is) } where
        met_before : {X : Type 0} → (will (party ∷ rest) ≡ true → will world.errands ≡ true) → (will (party ∷ rest) ≡ true) ⊎ X → (will world.errands ≡ true) ⊎ X
        met_before among (inl out) = inl (among out)
        met_before among (inr else) = inr else

  lost_backs : (world : World) (errands : List PartyNotes) → ((party : PartyNotes) (rest : List PartyNotes) → errands ≡ party ∷ rest → will (party ∷ rest) ≡ true → will world.errands ≡ true) → Backs world (lost_from errands world)
  lost_backs world [] among = record { told = λ is. absurd (let wrong : false ≡ true = is in cc); out = λ is. inl is }
  lost_backs world (party ∷ rest) among = record {
    told = λ is. absurd (none_dropped party is);
    out = λ is. inl (among party rest refl (or_right (will_tell is_commit now id party) _ is));
  }

  renewed_backs : (boxes : Key → List Badge) (outcome : Outcome) (world : World) → Backs world (renewed boxes outcome world)
  renewed_backs boxes Stored world = record { told = λ is. absurd (none_here world.state.transactions is); out = λ is. inl is }
  renewed_backs boxes Refused world = record { told = λ is. absurd (let wrong : false ≡ true = is in cc); out = λ is. inl is }
  renewed_backs boxes NoChange world = record { told = λ is. absurd (let wrong : false ≡ true = is in cc); out = λ is. inl is }

  pub moved_backs : (move : Move) (world : World) → IsSound world → world.state.head.name ≡ realm → list_all is_uncalled world.errands ≡ true → is_honest move world ≡ true → Backs world (moved move world)
  moved_backs (Move.Step event outcome) world sound named uncalled honest = event_backs world sound named event outcome (and_parts (brings_no_party event) _ honest).0
  moved_backs (Move.Go place back outcome) world sound named uncalled honest = gone_backs world back outcome sound named (picked place world.errands) (picked_out place world.state world.errands sound.out) (all_picked is_uncalled place world.errands uncalled) (λ party rest at is. sym (any_picked (will_tell is_commit now id) place world.errands party rest at) ∙ is)
  moved_backs (Move.Lose place) world sound named uncalled honest = lost_backs world (picked place world.errands) (λ party rest at is. sym (any_picked (will_tell is_commit now id) place world.errands party rest at) ∙ is)
  moved_backs (Move.Restart boxes) world sound named uncalled honest = record {
    told = λ is. absurd (elim (told_either is_commit realm id (flat_map drops_of world.errands) (drops_here world.state) is) [ inl first ↦ none_lost world.errands first | inr later ↦ none_here world.state.transactions later ]);
    out = λ is. absurd (let wrong : false ≡ true = is in cc);
  }
  moved_backs (Move.Renew boxes outcome) world sound named uncalled honest = renewed_backs boxes outcome world

  -- A RUN

  -- the committed row was shown by now
  abbrev Was : World → List Output → Type 0
  Was start shown = was_committed realm id start shown ≡ true

  module _ (start world : World) (shown : List Output) (was : stands world.rows ≡ true → Was start shown) (was_out : will world.errands ≡ true → Was start shown) where
    was_then : (move : Move) → is_rising world.rows ≡ true → IsBacked world (moved move world).world → Was start (shown ++ (moved move world).shown)
    was_then move rising (inl out) = more_shown realm k fine start shown (moved move world).shown (was_out out)
    was_then move rising (inr (inl stood)) = more_shown realm k fine start shown (moved move world).shown (was stood)
    was_then move rising (inr (inr now)) = elim (moved_by realm k fine move world rising now) [
      | inl stood ↦ more_shown realm k fine start shown (moved move world).shown (was stood)
      | inr new ↦ now_shown realm k fine start shown (moved move world).shown new
    ]

  moment_backed : (start : World) (before : List Moment) (moment : Moment) → (are_told_commit moment.shown ≡ true → Was start (shown_in before ++ moment.shown)) → is_backed realm id start before moment ≡ true
  moment_backed start before moment was = step (are_told_commit moment.shown) refl where
    step : (b : Bool) → are_told_commit moment.shown ≡ b → is_backed realm id start before moment ≡ true
    step true is = or_right (not (list_any is_commit (told realm id moment.shown))) _ (was is)
    step false is = or_left (not (list_any is_commit (told realm id moment.shown))) _ (ap not (any_told is_commit realm id moment.shown ∙ is))

  pub shown_so : (before : List Moment) (moment : Moment) → shown_in before ++ moment.shown ≡ shown_in (before ++ moment ∷ [])
  shown_so before moment = ap (λ xs. shown_in before ++ xs) (sym (append-nil moment.shown)) ∙ sym (flat_map-append (λ (m : Moment). m.shown) before (moment ∷ []))

  run_backed : (start world : World) (moves : List Move) (before : List Moment) → IsSound world → IsTrueTo (shown_in before) world → world.state.head.name ≡ realm → (stands world.rows ≡ true → Was start (shown_in before)) → (will world.errands ≡ true → Was start (shown_in before)) → is_run world moves ≡ true → at_each_behind before (is_backed realm id start) (traced world moves) ≡ true
  run_backed start world [] before sound true_to named was was_out honest = refl
  run_backed start world (move ∷ moves) before sound true_to named was was_out honest =
      let parts = and_parts (is_honest move world) (is_run (moved move world).world moves) honest in
      let went = moved move world in
      let moment : Moment = record { world = world; move = move; shown = went.shown; after = went.world } in
      let backs = moved_backs move world sound named true_to.uncalled parts.0 in
      let rising = (to_says world.state world.rows sound.stored).0 in
      let goes = was_then start world (shown_in before) was was_out move rising in
      let same = shown_so before moment in
      and_from _ _ (moment_backed start before moment (λ is. goes (backs.told is)))
      (run_backed start went.world moves (before ++ moment ∷ []) (moved_sound move world sound parts.0) (subst (λ xs. IsTrueTo xs went.world) same (moved_true move world (shown_in before) sound true_to parts.0)) (name_moved move world ∙ named) (λ is. subst (Was start) same (goes (inr (inr is)))) (λ is. subst (Was start) same (goes (backs.out is))) parts.1)

-- of what nothing is told
untold_backed : (realm id : List ℕ) (start : World) (before moments : List Moment) → list_any any_verdict (told realm id (shown_in moments)) ≡ false → at_each_behind before (is_backed realm id start) moments ≡ true
untold_backed realm id start before [] none = refl
untold_backed realm id start before (moment ∷ moments) none =
    let parts = or_parts (are_told any_verdict realm id moment.shown) (are_told any_verdict realm id (shown_in moments)) (sym (told_more any_verdict realm id moment.shown (shown_in moments)) ∙ sym (any_told any_verdict realm id (moment.shown ++ shown_in moments)) ∙ none) in
    and_from _ _ (or_left _ _ (quiet (list_any is_commit (told realm id moment.shown)) refl (any_told any_verdict realm id moment.shown ∙ parts.0))) (untold_backed realm id start (before ++ moment ∷ []) moments (any_told any_verdict realm id (shown_in moments) ∙ parts.1)) where
      quiet : (b : Bool) → list_any is_commit (told realm id moment.shown) ≡ b → list_any any_verdict (told realm id moment.shown) ≡ false → not b ≡ true
      quiet false is none = refl
      quiet true is none = absurd (let wrong : false ≡ true = sym none ∙ any_of is_commit (told realm id moment.shown) is in cc)

pub commits_are_backed : (world : World) (moves : List Move) (id : List ℕ) → IsStart world → is_run world moves ≡ true → at_each_behind [] (is_backed world.state.head.name id world) (traced world moves) ≡ true
commits_are_backed world moves id start honest = step (list_any any_verdict (told realm id (shown_in moments))) refl where
  realm : List ℕ
  realm = world.state.head.name

  moments : List Moment
  moments = traced world moves

  sound : IsSound world
  sound = start_sound world start

  of_key : (key : Key) → is_spelled key ≡ true → at_each_behind [] (is_backed realm (identifier realm key) world) moments ≡ true
  of_key key fine = run_backed realm 0 key fine world world moves [] sound (start_true world start) refl
      (λ stands. or_left _ false (ap is_committed (same_row realm key fine world.rows start.rows.spelled) ∙ stands))
      (λ out. absurd (let wrong : false ≡ true = sym (ap (list_any (will_tell is_commit 0 (identifier realm key))) start.errands) ∙ out in cc)) honest

  step : (b : Bool) → list_any any_verdict (told realm id (shown_in moments)) ≡ b → at_each_behind [] (is_backed realm id world) moments ≡ true
  step false none = untold_backed realm id world [] moments none
  step true is =
      let after = run_true world moves [] sound (start_true world start) honest in
      let ours = after.ours id (or_left _ _ (subst (λ n. list_any any_verdict (told n id (shown_in moments)) ≡ true) (sym (name_led world moves)) is)) in
      let same : id ≡ identifier realm ours.0 = ours.2 ∙ ap (λ n. identifier n ours.0) (name_led world moves) in
      subst (λ x. at_each_behind [] (is_backed realm x world) moments ≡ true) (sym same) (of_key ours.0 ours.1)
