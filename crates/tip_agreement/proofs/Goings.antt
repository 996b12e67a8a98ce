-- Each move: each transaction afterwards is one from before it, with what its parts have answered, or a new one; or it is a start.
use Rattle.std.proofs.lemmas.Bool.Decides.{nat_tests}
use Rattle.tip_machine.proofs.Keeping.{some_none}
use Rattle.std.specs.Prelude.{nat_le}
use Rattle.std.proofs.Common.{arith}
use Rattle.std.proofs.lemmas.Bool.{and_parts, or_left}
use Rattle.std.proofs.lemmas.List.{append-nil}
use Rattle.std.proofs.lemmas.List.Folds.{list_any-append}
use Rattle.std.specs.Option.{option_map_or, option_to_list}
use Rattle.std.specs.Prelude.{IsSome, map, option_map}
use Rattle.tip_agreement.proofs.Holding.{brought_back}
use Rattle.tip_agreement.proofs.Kept.{moved_sound}
use Rattle.tip_agreement.proofs.Moving.{sound_whole}
use Rattle.tip_branch.specs.Notes.{PartyNotes}
use Rattle.tip_branch.specs.declared.branch.Badge.{Badge}
use Rattle.tip_line.specs.declared.refusal.Refusal.{Refusal}
use Rattle.tip_line.specs.declared.refusal.Refusal.TheVariants.{Frozen}
use Rattle.tip_machine.proofs.Identifiers.{given_stays, new_was_not_given}
use Rattle.tip_machine.proofs.Stepping.{returned-refusal, returned-silent}
use Rattle.tip_machine.specs.Agreement.{is_willing, is_willing_vote, was_called}
use Rattle.tip_machine.specs.Agreement.Traces.{Moment, came_in, is_refusal}
use Rattle.tip_machine.specs.Answers.{identifier}
use Rattle.tip_machine.specs.Given.{was_given}
use Rattle.tip_machine.specs.Honest.{brings_no_party, is_honest}
use Rattle.tip_machine.specs.Invariants.{IsSound}
use Rattle.tip_machine.specs.Moves.{Move, World, gone_for, lost_from, picked, restarted_from, rows_after, stepped}
use Rattle.tip_machine.specs.Order.{ordered}
use Rattle.tip_machine.specs.Outputs.{Output, brought, drops_of, outputs}
use Rattle.tip_machine.specs.Returns.{Back, event_of}
use Rattle.tip_machine.specs.Starting.{are_counted_from}
use Rattle.tip_machine.specs.States.{State, transaction_of}
use Rattle.tip_machine.specs.Steps.{attempt, chosen, entered, frozen, is_open, step, wanted}
use Rattle.tip_machine.specs.Types.{Answer, Event, Transaction}
use Rattle.tip_machine.specs.declared.event.Change.{Change}
use Rattle.tip_machine.specs.declared.event.Outcome.{Outcome}
use Rattle.tip_machine.specs.declared.event.Outcome.TheVariants.{NoChange, Refused, Stored}
use Rattle.tip_machine.specs.declared.head.Head.{Head}
use Rattle.tip_rows.specs.Keys.{Key}
use Rattle.tip_txn.specs.Parts.{answer_at}
use Rattle.tip_txn.specs.declared.answer.Ballot.{Ballot}
use Rattle.tip_txn.specs.declared.answer.Phase.TheVariants.{Aborted}
use Rattle.tip_agreement.proofs.Linking.{answers_well, party_answers_well}
use Rattle.tip_agreement.proofs.Picked.{IsPicked, in_picked}
use Rattle.tip_agreement.proofs.Returning.{back_passes, silent_move}
use Rattle.tip_agreement.proofs.PartAnswers.{none_heard}
use Rattle.tip_agreement.proofs.Outcomes.{brings_so}
use Rattle.tip_agreement.proofs.Passing.{Covers, New, Passed, covers_fewer, event_passes, stays_follows}
use Rattle.tip_agreement.proofs.Walking.{In}
use Rattle.tip_agreement.proofs.Willing.{heard_answer}
use Rattle.tip_agreement.proofs.Witnessed.{In_world, moment_of, witnessed_more}
use Rattle.std.proofs.Common.{◌≡◌, Bool, true, false, ℕ, zero, suc, List, [], ◌∷◌, ◌++◌, Option, Some, None, cond, refl, ap, subst, sym, ◌∙◌, ◌⊎◌, inl, inr}
use Rattle.std.specs.Prelude.{◌==◌}
use Rattle.std.specs.List.{list_all, list_any}
use Rattle.tip_machine.proofs.Stepping.{step-epoch, step-went}

-- what was refused is shown so
pub refusal_shown : (event : Event) (change : Option Change) (outcome : Outcome) (answer : Answer) (why : Refusal) → answer.refusal ≡ Some why → list_any is_refusal (outputs event change outcome answer) ≡ true
refusal_shown event change outcome answer why is =
    let rest = option_to_list (option_map Output.Opened answer.opened) ++ (brought event ++ (option_to_list (option_map (λ c. Output.Changed c outcome) change) ++ (map Output.Sent answer.sent ++ (option_to_list (option_map (λ (party : PartyNotes). Output.Works party.id party.errand) answer.work) ++ option_map_or drops_of answer.spent [])))) in
    list_any-append is_refusal (option_to_list (option_map Output.Refused answer.refusal)) rest ∙ or_left (list_any is_refusal (option_to_list (option_map Output.Refused answer.refusal))) _ (ap (λ o. list_any is_refusal (option_to_list (option_map Output.Refused o))) is)

-- the branches of a realm stay
step_branches : (state : State) (event : Event) (outcome : Outcome) → (step state event outcome).state.head.branches ≡ state.head.branches
step_branches state event outcome = step (is_open state) where
  step : (b : Bool) → (cond b (ordered state (chosen (attempt event (entered state)) outcome)) (frozen event state)).state.head.branches ≡ state.head.branches
  step true = elim (step-went state event outcome) [
    | inl goes ↦ ap (λ (h : Head). h.branches) goes.head
    | inr opens ↦ ap (λ (h : Head). h.branches) opens.head
  ]
  step false = refl

module _ (world : World) (sound : IsSound world) (branches : List (ℕ × List ℕ)) (declared : world.state.head.branches ≡ branches) (counted : are_counted_from 1 branches ≡ true) (mine : List Moment) (was : In_world world mine) (made : Transaction → List Moment)
    (covered : (t : Transaction) → In t world.state.transactions → (t.key.epoch == world.state.head.epoch) ≡ true → Covers world.state.head.epoch branches world.errands (identifier world.state.head.name t.key) t.place) where
  abbrev realm : List ℕ
  realm = world.state.head.name

  abbrev now : ℕ
  now = world.state.head.epoch

  abbrev pub CalledIn : Moment → Transaction → Type 0
  CalledIn moment t = list_all (was_called realm (identifier realm t.key) is_willing_vote (made t ++ moment ∷ [])) branches ≡ true

  abbrev pub Goes_on : Moment → List PartyNotes → Transaction → Type 0
  Goes_on moment errands u = Passed realm now branches (CalledIn moment) moment errands world.state.transactions u ⊎ New now branches world.state.transactions u

  pub record Steps (moment : Moment) : Type 0 where
    pub epoch : moment.after.state.head.epoch ≡ now
    pub branches_stay : moment.after.state.head.branches ≡ world.state.head.branches
    pub each : (u : Transaction) → In u moment.after.state.transactions → Goes_on moment moment.after.errands u
    pub given : (key : Key) → was_given world.state key ≡ true → was_given moment.after.state key ≡ true
    pub fresh : (key : Key) → transaction_of key world.state ≡ None → IsSome (transaction_of key moment.after.state) → was_given world.state key ≡ false

  pub record Starts (moment : Moment) : Type 0 where
    pub boxes : Key → List Badge
    pub state : moment.after.state ≡ restarted_from boxes world
    pub rows : moment.after.rows ≡ world.rows
    pub unheard : (id : List ℕ) (q : ℕ) → heard_answer realm id q moment ≡ None

  well_in : (after : World) → IsSound after → (u : Transaction) → In u after.state.transactions → (u.phase ≡ Aborted → ⊥) → (q : ℕ) (a : Ballot) → answer_at u.parts q ≡ Some a → is_willing a ≡ true
  well_in after sound_after u there live zero a is = party_answers_well after sound_after u there live a is
  well_in after sound_after u there live (suc q) a is = answers_well after sound_after u there live (suc q) a (least q) is where
    least : (n : ℕ) → nat_le 1 (suc n) ≡ true
    least n = grind (arith, nat_tests)

  stays : (moment : Moment) (errands : List PartyNotes) → ((party : PartyNotes) → In party errands → In party world.errands) → ((id : List ℕ) (q : ℕ) → heard_answer realm id q moment ≡ None) → (u : Transaction) → In u world.state.transactions → Goes_on moment errands u
  stays moment errands sub none u there = inl (stays_follows world sound branches declared counted (CalledIn moment) moment errands u there (none (identifier realm u.key)) (λ this. covers_fewer now branches world.errands errands (identifier realm u.key) u.place sub (covered u there this)))

  -- where nothing changes but who is out
  stays_steps : (moment : Moment) → moment.after.state ≡ world.state → ((party : PartyNotes) → In party moment.after.errands → In party world.errands) → ((id : List ℕ) (q : ℕ) → heard_answer realm id q moment ≡ None) → Steps moment
  stays_steps moment state sub none = record {
    epoch = ap (λ (s : State). s.head.epoch) state;
    branches_stay = ap (λ (s : State). s.head.branches) state;
    each = λ u there. stays moment moment.after.errands sub none u (subst (λ (s : State). In u s.transactions) state there);
    given = λ key is. subst (λ (s : State). was_given s key ≡ true) (sym state) is;
    fresh = λ key none some. absurd (never (transaction_of key moment.after.state) (ap (transaction_of key) state ∙ none) some);
  } where
    never : (o : Option Transaction) → o ≡ None → IsSome o → ⊥
    never o none some = some_none o none some

  frozen_unheard : (event : Event) (outcome : Outcome) (moment : Moment) → moment.shown ≡ outputs event None outcome (frozen event world.state).answer → (id : List ℕ) (q : ℕ) → heard_answer realm id q moment ≡ None
  frozen_unheard event outcome moment shows id q = none_heard realm id q moment (ap (λ b. cond b None (came_in moment.move moment.world.state)) (ap (list_any is_refusal) shows ∙ refusal_shown event None outcome (frozen event world.state).answer Frozen (returned-refusal Frozen event)))

  event_goes_on : (event : Event) (outcome : Outcome) (moment : Moment) → moment.world ≡ world → moment.move ≡ Move.Step event outcome → moment.shown ≡ (stepped event outcome world).shown → brings_no_party event ≡ true → IsSound (stepped event outcome world).world → (u : Transaction) → In u (stepped event outcome world).world.state.transactions → Goes_on moment (stepped event outcome world).world.errands u
  unfolding stepped ordered
  event_goes_on event outcome moment met move shows none after u there = step (is_open world.state) refl shows after there where
    step : (b : Bool) → is_open world.state ≡ b → moment.shown ≡ outputs event (cond b (wanted (attempt event (entered world.state))) None) outcome (cond b (ordered world.state (chosen (attempt event (entered world.state)) outcome)) (frozen event world.state)).answer →
        IsSound (record { state = (cond b (ordered world.state (chosen (attempt event (entered world.state)) outcome)) (frozen event world.state)).state; rows = rows_after (cond b (wanted (attempt event (entered world.state))) None) outcome world.rows; errands = world.errands ++ option_to_list (cond b (ordered world.state (chosen (attempt event (entered world.state)) outcome)) (frozen event world.state)).answer.work }) →
        In u (cond b (ordered world.state (chosen (attempt event (entered world.state)) outcome)) (frozen event world.state)).state.transactions →
        Goes_on moment (world.errands ++ option_to_list (cond b (ordered world.state (chosen (attempt event (entered world.state)) outcome)) (frozen event world.state)).answer.work) u
    step true room shows after there =
        event_passes world sound branches declared counted (CalledIn moment) moment mine (witnessed_more realm now mine (moment ∷ []) world.state.transactions world.errands world.rows was) met event outcome room move none shows covered (sound_whole _ after).keys (well_in _ after) u there
    step false full shows after there =
        stays moment (world.errands ++ option_to_list (frozen event world.state).answer.work) (λ party is. subst (In party) (append-nil world.errands) (subst (λ o. In party (world.errands ++ option_to_list o)) (returned-silent Frozen event).1 is)) (frozen_unheard event outcome moment shows) u there

  event_steps : (event : Event) (outcome : Outcome) → is_honest (Move.Step event outcome) world ≡ true → Steps (moment_of (Move.Step event outcome) world)
  unfolding stepped
  event_steps event outcome honest = record {
    epoch = step-epoch world.state event outcome;
    branches_stay = step_branches world.state event outcome;
    each = event_goes_on event outcome (moment_of (Move.Step event outcome) world) refl refl refl (and_parts (brings_no_party event) _ honest).0 (moved_sound (Move.Step event outcome) world sound honest);
    given = given_stays world.state event outcome;
    fresh = new_was_not_given world.state event outcome;
  }

  -- A party that comes back
  module _ (party : PartyNotes) (rest : List PartyNotes) (out : IsPicked world.errands party rest) (back : Back) (outcome : Outcome) where
    abbrev event : Event
    event = event_of party back

    in_rest : (p : PartyNotes) → In p rest → In p world.errands
    in_rest p is = in_picked world.errands party rest out p (inr is)

    back_goes_on : (moment : Moment) → moment.world ≡ world → moment.move ≡ Move.Go out.0 back outcome → moment.shown ≡ (stepped event outcome (record world { errands = rest })).shown → IsSound (stepped event outcome (record world { errands = rest })).world → (u : Transaction) → In u (stepped event outcome (record world { errands = rest })).world.state.transactions → Goes_on moment (stepped event outcome (record world { errands = rest })).world.errands u
    unfolding stepped ordered
    back_goes_on moment met move shows after u there = step (is_open world.state) refl shows after there where
      step : (b : Bool) → is_open world.state ≡ b → moment.shown ≡ outputs event (cond b (wanted (attempt event (entered world.state))) None) outcome (cond b (ordered world.state (chosen (attempt event (entered world.state)) outcome)) (frozen event world.state)).answer →
          IsSound (record { state = (cond b (ordered world.state (chosen (attempt event (entered world.state)) outcome)) (frozen event world.state)).state; rows = rows_after (cond b (wanted (attempt event (entered world.state))) None) outcome world.rows; errands = rest ++ option_to_list (cond b (ordered world.state (chosen (attempt event (entered world.state)) outcome)) (frozen event world.state)).answer.work }) →
          In u (cond b (ordered world.state (chosen (attempt event (entered world.state)) outcome)) (frozen event world.state)).state.transactions →
          Goes_on moment (rest ++ option_to_list (cond b (ordered world.state (chosen (attempt event (entered world.state)) outcome)) (frozen event world.state)).answer.work) u
      step true room shows after there =
          inl (back_passes world sound branches mine moment met (witnessed_more realm now mine (moment ∷ []) world.state.transactions world.errands world.rows was) made party rest out back outcome move
          (λ test is. ap (list_any test) shows ∙ brings_so test event (wanted (attempt event (entered world.state))) outcome (ordered world.state (chosen (attempt event (entered world.state)) outcome)).answer (ap (list_any test) (brought_back party back) ∙ is)) covered (well_in _ after) u there)
      step false full shows after there =
          stays moment (rest ++ option_to_list (frozen event world.state).answer.work) (λ p is. in_rest p (subst (In p) (append-nil rest) (subst (λ o. In p (rest ++ option_to_list o)) (returned-silent Frozen event).1 is))) (frozen_unheard event outcome moment shows) u there

    back_steps : (moment : Moment) → moment.world ≡ world → moment.move ≡ Move.Go out.0 back outcome → moment.shown ≡ (stepped event outcome (record world { errands = rest })).shown → moment.after ≡ (stepped event outcome (record world { errands = rest })).world → IsSound (stepped event outcome (record world { errands = rest })).world → Steps moment
    unfolding stepped
    back_steps moment met move shows after sound_after = record {
      epoch = ap (λ (w : World). w.state.head.epoch) after ∙ step-epoch world.state event outcome;
      branches_stay = ap (λ (w : World). w.state.head.branches) after ∙ step_branches world.state event outcome;
      each = λ u there. subst (λ (w : World). Goes_on moment w.errands u) (sym after) (back_goes_on moment met move shows sound_after u (subst (λ (w : World). In u w.state.transactions) after there));
      given = λ key is. subst (λ (w : World). was_given w.state key ≡ true) (sym after) (given_stays world.state event outcome key is);
      fresh = λ key none some. new_was_not_given world.state event outcome key none (subst (λ (w : World). IsSome (transaction_of key w.state)) after some);
    }

  silent : (moment : Moment) → moment.world ≡ world → came_in moment.move world.state ≡ None → (id : List ℕ) (q : ℕ) → heard_answer realm id q moment ≡ None
  silent moment met none = silent_move moment world.state (ap (λ (w : World). w.state) met) none realm

  gone_steps : (place : ℕ) (back : Back) (outcome : Outcome) (errands : List PartyNotes) → picked place world.errands ≡ errands → (moment : Moment) → moment.world ≡ world → moment.move ≡ Move.Go place back outcome → moment.shown ≡ (gone_for errands back outcome world).shown → moment.after ≡ (gone_for errands back outcome world).world → IsSound (gone_for errands back outcome world).world → Steps moment
  gone_steps place back outcome [] out moment met move shows after sound_after = stays_steps moment (ap (λ (w : World). w.state) after) (λ party is. subst (λ (w : World). In party w.errands) after is) (silent moment met (ap (λ m. came_in m world.state) move))
  gone_steps place back outcome (party ∷ rest) out moment met move shows after sound_after = back_steps party rest (place, out) back outcome moment met move shows after sound_after

  lost_steps : (place : ℕ) (errands : List PartyNotes) → picked place world.errands ≡ errands → (moment : Moment) → moment.world ≡ world → moment.move ≡ Move.Lose place → moment.after ≡ (lost_from errands world).world → Steps moment
  lost_steps place [] out moment met move after = stays_steps moment (ap (λ (w : World). w.state) after) (λ party is. subst (λ (w : World). In party w.errands) after is) (silent moment met (ap (λ m. came_in m world.state) move))
  lost_steps place (party ∷ rest) out moment met move after = stays_steps moment (ap (λ (w : World). w.state) after) (λ p is. in_picked world.errands party rest (place, out) p (inr (subst (λ (w : World). In p w.errands) after is))) (silent moment met (ap (λ m. came_in m world.state) move))

  pub moves_on : (move : Move) → is_honest move world ≡ true → Steps (moment_of move world) ⊎ Starts (moment_of move world)
  moves_on (Move.Step event outcome) honest = inl (event_steps event outcome honest)
  moves_on (Move.Go place back outcome) honest = inl (gone_steps place back outcome (picked place world.errands) refl (moment_of (Move.Go place back outcome) world) refl refl refl refl (moved_sound (Move.Go place back outcome) world sound honest))
  moves_on (Move.Lose place) honest = inl (lost_steps place (picked place world.errands) refl (moment_of (Move.Lose place) world) refl refl refl)
  moves_on (Move.Restart boxes) honest = inr (record { boxes = boxes; state = refl; rows = refl; unheard = silent (moment_of (Move.Restart boxes) world) refl refl })
  moves_on (Move.Renew boxes Stored) honest = inr (record { boxes = boxes; state = refl; rows = refl; unheard = silent (moment_of (Move.Renew boxes Stored) world) refl refl })
  moves_on (Move.Renew boxes Refused) honest = inl (stays_steps (moment_of (Move.Renew boxes Refused) world) refl (λ party is. is) (silent (moment_of (Move.Renew boxes Refused) world) refl refl))
  moves_on (Move.Renew boxes NoChange) honest = absurd (let wrong : false ≡ true = honest in cc)
