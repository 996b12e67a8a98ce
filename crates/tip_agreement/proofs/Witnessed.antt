-- Each move leaves all that was heard shown, and what it removes was done by all.
use Rattle.std.proofs.Common.{◌≡◌, Bool, true, false, ℕ, List, [], ◌∷◌, ◌++◌, Option, Some, None, cond, refl, ap, subst, sym, ◌∙◌, ◌⊎◌, inl, inr}
use Rattle.std.specs.Prelude.{◌||◌, is_some, not, IsSome}
use Rattle.std.specs.List.{list_all, list_any}
use Rattle.std.specs.Option.{option_map_or, option_to_list}
use Rattle.std.specs.Str.{bytes_eq}
use Rattle.std.proofs.lemmas.Bool.{and_from, and_parts, or_left, or_right}
use Rattle.std.proofs.lemmas.List.{append-nil}
use Rattle.std.proofs.lemmas.Option.{none-some, same_Some}
use Rattle.tip_branch.specs.Notes.{PartyNotes}
use Rattle.tip_line.specs.declared.refusal.Refusal.{Refusal}
use Rattle.tip_line.specs.declared.refusal.Refusal.TheVariants.{Frozen}
use Rattle.tip_rows.specs.Keys.{Key}
use Rattle.tip_rows.specs.Logs.{row_at}
use Rattle.tip_rows.specs.declared.row.Row.{Row}
use Rattle.tip_rows.specs.declared.row.Row.TheVariants as row
use Rattle.tip_rows.proofs.MemoryLemmas.{same_text}
use Rattle.tip_machine.specs.Agreement.{all_have_done, removes, row_in}
use Rattle.tip_machine.specs.Agreement.Traces.{Moment, came_in, came_on, heard_in, is_refusal}
use Rattle.tip_machine.specs.Answers.{identifier}
use Rattle.tip_machine.specs.Changes.{alter}
use Rattle.tip_machine.specs.Honest.{brings_no_party}
use Rattle.tip_machine.specs.Invariants.{IsSound}
use Rattle.tip_machine.specs.Invariants.Bounds.{is_spelled}
use Rattle.tip_machine.specs.Invariants.Stored.{is_stored_as}
use Rattle.tip_machine.specs.Moves.{Move, World, moved, rows_after, stepped}
use Rattle.tip_machine.specs.Order.{ordered}
use Rattle.tip_machine.specs.Outputs.{Output, calls_of, outputs}
use Rattle.tip_machine.specs.Returns.{Back, back_of, event_of}
use Rattle.tip_machine.specs.States.{Attempt, State, Work, transaction_of}
use Rattle.tip_machine.specs.Steps.{attempt, chosen, entered, frozen, is_open, step, wanted}
use Rattle.tip_machine.specs.Transactions.{noting}
use Rattle.tip_machine.specs.Types.{Answer, Event, Transaction}
use Rattle.tip_machine.specs.declared.event.Change.{Change}
use Rattle.tip_machine.specs.declared.event.Change.TheVariants.{Remove}
use Rattle.tip_machine.specs.declared.event.Event.TheVariants.{Line}
use Rattle.tip_machine.specs.declared.event.Heard.TheVariants.{Response as AResponse}
use Rattle.tip_machine.specs.declared.event.Outcome.{Outcome}
use Rattle.tip_machine.proofs.Stepping.{quiet, returned-silent, silent, wants_none}
use Rattle.tip_machine.proofs.Walks.{seated_there}
use Rattle.tip_agreement.proofs.Apart.{all_more}
use Rattle.tip_agreement.proofs.Backing.{same_row}
use Rattle.tip_agreement.proofs.Bounded.{in_bounds, spelled_at}
use Rattle.tip_agreement.proofs.Events.{entered_whole}
use Rattle.tip_agreement.proofs.Holding.{brought_back}
use Rattle.tip_agreement.proofs.Moving.{sound_whole}
use Rattle.tip_agreement.proofs.Owned.{key_found}
use Rattle.tip_agreement.proofs.Bases.{base_entered}
use Rattle.tip_agreement.proofs.Coming.{base_again}
use Rattle.tip_agreement.proofs.Happening.{Doubted, EndsSo, Says, ends_so, happens_so, returns_so}
use Rattle.tip_agreement.proofs.Hearing.{base_noted, noted_partly}
use Rattle.tip_agreement.proofs.Keeping.{AreCared, AreShown, Base, Finished, are_shown_more, cares_more, ends_cared, ends_shown, in_all, removed_done, removed_spelled}
use Rattle.tip_agreement.proofs.Outcomes.{brings_so, none_refused, removed_so}
use Rattle.tip_agreement.proofs.Picked.{IsPicked, in_picked}
use Rattle.tip_agreement.proofs.Walking.{Asked, In}

-- ALL THAT WAS HEARD is shown
pub record Witnessed (realm : List ℕ) (now : ℕ) (moments : List Moment) (ts : List Transaction) (errands : List PartyNotes) (rows : List (Key × Row)) : Type 0 where
  pub shown : AreShown realm moments ts
  pub cared : AreCared realm moments now ts errands rows

pub witnessed_more : (realm : List ℕ) (now : ℕ) (moments more : List Moment) (ts : List Transaction) (errands : List PartyNotes) (rows : List (Key × Row)) → Witnessed realm now moments ts errands rows → Witnessed realm now (moments ++ more) ts errands rows
witnessed_more realm now moments more ts errands rows was = record {
  shown = are_shown_more realm moments more ts was.shown;
  cared = λ t there branches subs at. cares_more realm moments more now errands (identifier realm t.key) t.place branches (was.cared t there branches subs at);
}

pub witnessed_fewer : (realm : List ℕ) (now : ℕ) (moments : List Moment) (ts : List Transaction) (errands fewer : List PartyNotes) (rows : List (Key × Row)) → ((party : PartyNotes) → In party fewer → In party errands) → Witnessed realm now moments ts errands rows → Witnessed realm now moments ts fewer rows
witnessed_fewer realm now moments ts errands fewer rows sub was = record {
  shown = was.shown;
  cared = λ t there branches subs at. let cares = was.cared t there branches subs at in record { here = cares.here; out = λ e gone party is. cares.out e gone party (sub party is); spent = cares.spent };
}

-- WHAT AN EVENT COMES TO: it goes on from where all is shown, or nothing changes

record Begins (realm : List ℕ) (now : ℕ) (moments : List Moment) (errands : List PartyNotes) (rows : List (Key × Row)) (a : Attempt) : Type 0 where
  begins : Work
  base : Base realm moments now begins errands rows
  goes : EndsSo begins a

pub record Stands (ts : List Transaction) (a : Attempt) (outcome : Outcome) : Type 0 where
  pub transactions : (chosen a outcome).state.transactions ≡ ts
  pub work : (chosen a outcome).answer.work ≡ None
  pub wants : wanted a ≡ None

module _ (realm : List ℕ) (now : ℕ) (moments : List Moment) (ts : List Transaction) (errands : List PartyNotes) (rows : List (Key × Row)) (a : Attempt) (outcome : Outcome) where
  abbrev Comes : Type 0
  Comes = Begins realm now moments errands rows a ⊎ Stands ts a outcome

  then_witnessed : Comes → Witnessed realm now moments ts errands rows → ((u : Transaction) → In u (chosen a outcome).state.transactions → is_stored_as u.phase u (row_at u.key (rows_after (wanted a) outcome rows)) ≡ true) → Witnessed realm now moments (chosen a outcome).state.transactions (errands ++ option_to_list (chosen a outcome).answer.work) (rows_after (wanted a) outcome rows)
  then_witnessed (inl begins) was stored = record {
    shown = ends_shown realm moments now begins.begins errands rows begins.base a outcome begins.goes;
    cared = ends_cared realm moments now begins.begins errands rows begins.base a outcome begins.goes stored;
  }
  then_witnessed (inr stands) was stored =
      subst (λ xs. Witnessed realm now moments xs (errands ++ option_to_list (chosen a outcome).answer.work) (rows_after (wanted a) outcome rows)) (sym stands.transactions)
      (subst (λ o. Witnessed realm now moments ts (errands ++ option_to_list o) (rows_after (wanted a) outcome rows)) (sym stands.work)
      (subst (λ c. Witnessed realm now moments ts (errands ++ []) (rows_after c outcome rows)) (sym stands.wants)
      (subst (λ ps. Witnessed realm now moments ts ps rows) (sym (append-nil errands)) was)))

  -- what it removes was done by all
  finishes : Comes → (key : Key) → wanted a ≡ Some (Remove key) → (branches : List (ℕ × List ℕ)) (subs : List (List ℕ × List ℕ)) → row_at key rows ≡ Some (row.Committed branches subs) → Finished realm moments key branches subs
  finishes (inr stands) key wants branches subs at = absurd (none-some (Remove key) (sym stands.wants ∙ wants))
  finishes (inl begins) key wants branches subs at = removed_done realm moments now begins.begins errands rows begins.base key (asked_so a begins.goes wants) branches subs at where
    asked_so : (a : Attempt) → EndsSo begins.begins a → wanted a ≡ Some (Remove key) → Asked begins.begins (Remove key) ⊎ Doubted begins.begins (Remove key)
    asked_so (Attempt.Done v) goes wants = absurd (none-some (Remove key) wants)
    asked_so (Attempt.Asks change stored refused) goes wants = subst (λ c. Asked begins.begins c ⊎ Doubted begins.begins c) (same_Some change (Remove key) wants) goes.2

  -- of a transaction that is here
  removes_spelled : Comes → (key : Key) → wanted a ≡ Some (Remove key) → is_spelled key ≡ true
  removes_spelled (inr stands) key wants = absurd (none-some (Remove key) (sym stands.wants ∙ wants))
  removes_spelled (inl begins) key wants = by_attempt a begins.goes wants where
    by_attempt : (a : Attempt) → EndsSo begins.begins a → wanted a ≡ Some (Remove key) → is_spelled key ≡ true
    by_attempt (Attempt.Done v) goes wants = absurd (none-some (Remove key) wants)
    by_attempt (Attempt.Asks change stored refused) goes wants = removed_spelled realm moments now begins.begins errands rows begins.base key (subst (λ c. Asked begins.begins c ⊎ Doubted begins.begins c) (same_Some change (Remove key) wants) goes.2)

-- AN EVENT OF ITS OWN

module _ (world : World) (sound : IsSound world) (moments : List Moment) (moment : Moment) (met : moment.world ≡ world) where
  abbrev realm : List ℕ
  realm = world.state.head.name

  abbrev now : ℕ
  now = world.state.head.epoch

  abbrev all : List Moment
  all = moments ++ moment ∷ []

  abbrev Here : List Moment → Type 0
  Here moments = Witnessed realm now moments world.state.transactions world.errands world.rows

  module _ (event : Event) (outcome : Outcome) (room : is_open world.state ≡ true) where
    abbrev tried : Attempt
    tried = attempt event (entered world.state)

    abbrev done : Work
    done = ordered world.state (chosen tried outcome)

    pub stepped_so : step world.state event outcome ≡ done
    stepped_so = ap (λ b. cond b done (frozen event world.state)) room

    -- one that is refused changes nothing
    pub refused_stands : (why : Refusal) → done.answer.refusal ≡ Some why → Stands world.state.transactions tried outcome
    unfolding ordered
    refused_stands why is =
        let some : IsSome (step world.state event outcome).answer.refusal = subst IsSome (sym (ap (λ (w : Work). w.answer.refusal) stepped_so ∙ is)) refl in
        record {
          transactions = sym (ap (λ (w : Work). w.state.transactions) stepped_so) ∙ ap (λ (s : State). s.transactions) (quiet world.state event outcome some);
          work = sym (ap (λ (w : Work). w.answer.work) stepped_so) ∙ (silent world.state event outcome some).1;
          wants = sym (ap (λ b. cond b (wanted tried) None) room) ∙ wants_none world.state event outcome some;
        }

    module _ (move : moment.move ≡ Move.Step event outcome) (shows : moment.shown ≡ outputs event (wanted tried) outcome done.answer) (was : Here all) where
      pub heard_so : (says : Says event (entered world.state) tried) → done.answer.refusal ≡ None → heard_in moment ≡ Some (record { connection = says.connection; response = says.noted.response })
      heard_so says none =
          let ev : event ≡ Line says.seat (AResponse says.noted.response) = says.is ∙ ap (Line says.seat) says.noted.is in
          (λ i. cond (list_any is_refusal (shows i)) None (came_in (move i) (met i).state))
          ∙ (ap (λ b. cond b None (came_in (Move.Step event outcome) world.state)) (none_refused event (wanted tried) outcome done.answer none)
          ∙ (ap (λ e. came_in (Move.Step e outcome) world.state) ev
          ∙ ap (λ o. came_on o says.noted.response) says.there))

      event_comes : brings_no_party event ≡ true → Comes realm now all world.state.transactions world.errands world.rows tried outcome
      event_comes none = elim (happens_so (entered world.state) (entered_whole world.state (sound_whole world sound)) event none) [
        | inl quietly ↦ inl (record { begins = entered world.state; base = base_entered world sound all was.shown was.cared; goes = quietly.goes })
        | inr says ↦ by_refusal says done.answer.refusal refl
      ] where
        by_refusal : (says : Says event (entered world.state) tried) → (why : Option Refusal) → done.answer.refusal ≡ why → Comes realm now all world.state.transactions world.errands world.rows tried outcome
        by_refusal says (Some why) is = inr (refused_stands why is)
        by_refusal says None is =
            let noted = says.noted in
            let w = alter noted.key (noting noted.part noted.note) (entered world.state) in
            inl (record {
              begins = w;
              base = base_noted world sound says.connection (seated_there says.seat world.state says.connection says.there) noted.key noted.part noted.on noted.awaited noted.waits (noted_partly noted.awaited noted.response noted.note noted.so) moments moment met was.shown was.cared noted.response noted.note noted.so (heard_so says is);
              goes = ends_so w tried noted.goes;
            })

  -- A PARTY THAT COMES BACK
  module _ (party : PartyNotes) (rest : List PartyNotes) (out : IsPicked world.errands party rest) (back : Back) (outcome : Outcome) (was : Here all) where
    abbrev event : Event
    event = event_of party back

    abbrev tried_back : Attempt
    tried_back = attempt event (entered world.state)

    back_comes : ((test : Output → Bool) → list_any test (calls_of (back_of party back)) ≡ true → list_any test moment.shown ≡ true) → Comes realm now all world.state.transactions rest world.rows tried_back outcome
    back_comes brings = elim (returns_so party back (entered world.state)) [
      | inl is ↦ inr (subst (λ a. Stands world.state.transactions a outcome) (sym is) (record { transactions = refl; work = refl; wants = refl }))
      | inr came ↦ inl (record { begins = _; base = base_again world sound party rest out moments moment back was.shown was.cared brings came.transaction came.owned came.errand came.out; goes = ends_so _ tried_back came.goes })
    ]

-- ROWS AND WHAT IS REMOVED

rows_spelled : (world : World) → IsSound world → list_all (λ (e : Key × Row). is_spelled e.0) world.rows ≡ true
rows_spelled world sound = all_more (λ (e : Key × Row). is_some (transaction_of e.0 world.state)) (λ (e : Key × Row). is_spelled e.0) world.rows (λ e is. step e.0 (transaction_of e.0 world.state) refl is) (and_parts _ (list_all (λ (e : Key × Row). is_some (transaction_of e.0 world.state)) world.rows) sound.stored).1 where
  step : (key : Key) (found : Option Transaction) → transaction_of key world.state ≡ found → is_some (transaction_of key world.state) ≡ true → is_spelled key ≡ true
  step key None at is = absurd (let wrong : false ≡ true = sym (ap is_some at) ∙ is in cc)
  step key (Some t) at is = let same = key_found key t world.state at in subst (λ k. is_spelled k ≡ true) (sym same) (spelled_at world.state t (in_bounds world.state sound.bounded).spelled (subst (λ k. transaction_of k world.state ≡ Some t) same at))

-- where the committed row is removed, all have done what they were told
abbrev pub IsDone : List ℕ → List ℕ → List Moment → Moment → Type 0
IsDone realm id moments moment = not (list_any (removes realm id) moment.shown) || option_map_or (all_have_done realm id moments) (row_in realm id moment.world.rows) true ≡ true

pub none_is_done : (realm id : List ℕ) (moments : List Moment) (moment : Moment) → list_any (removes realm id) moment.shown ≡ false → IsDone realm id moments moment
none_is_done realm id moments moment none = or_left (not (list_any (removes realm id) moment.shown)) _ (ap not none)

module _ (world : World) (sound : IsSound world) (moments : List Moment) (moment : Moment) (met : moment.world ≡ world) where
  change_is_done : (event : Event) (change : Option Change) (outcome : Outcome) (answer : Answer) → moment.shown ≡ outputs event change outcome answer → ((key : Key) → change ≡ Some (Remove key) → (is_spelled key ≡ true) × ((branches : List (ℕ × List ℕ)) (subs : List (List ℕ × List ℕ)) → row_at key world.rows ≡ Some (row.Committed branches subs) → Finished world.state.head.name moments key branches subs)) → (id : List ℕ) → IsDone world.state.head.name id moments moment
  change_is_done event change outcome answer shows finish id = step (list_any (removes world.state.head.name id) moment.shown) refl where
    finished : (key : Key) → bytes_eq id (identifier world.state.head.name key) ≡ true → is_spelled key ≡ true → ((branches : List (ℕ × List ℕ)) (subs : List (List ℕ × List ℕ)) → row_at key world.rows ≡ Some (row.Committed branches subs) → Finished world.state.head.name moments key branches subs) → (found : Option Row) → row_in world.state.head.name id world.rows ≡ found → option_map_or (all_have_done world.state.head.name id moments) found true ≡ true
    finished key spells fine all_did None at = refl
    finished key spells fine all_did (Some (row.Prepared address superior branches subs)) at = refl
    finished key spells fine all_did (Some (row.Committed branches subs)) at =
        let name = world.state.head.name in
        let same : id ≡ identifier name key = same_text id (identifier name key) spells in
        let there : row_at key world.rows ≡ Some (row.Committed branches subs) = sym (same_row name key fine world.rows (rows_spelled world sound)) ∙ (ap (λ x. row_in name x world.rows) (sym same) ∙ at) in
        let all = all_did branches subs there in
        subst (λ x. all_have_done name x moments (row.Committed branches subs) ≡ true) (sym same) (and_from _ _ all.done all.heard)

    step : (b : Bool) → list_any (removes world.state.head.name id) moment.shown ≡ b → IsDone world.state.head.name id moments moment
    step false none = none_is_done world.state.head.name id moments moment none
    step true is =
        let name = world.state.head.name in
        let removed = removed_so name id event change outcome answer (sym (ap (list_any (removes name id)) shows) ∙ is) in
        let so = finish removed.key removed.is in
        or_right (not (list_any (removes name id) moment.shown)) _ (ap (λ (w : World). option_map_or (all_have_done name id moments) (row_in name id w.rows) true) met ∙ finished removed.key removed.spells so.0 so.1 (row_in name id world.rows) refl)

-- EACH MOVE

abbrev pub moment_of : Move → World → Moment
moment_of move world = record { world = world; move = move; shown = (moved move world).shown; after = (moved move world).world }

-- all is shown after it, and what it removes was done
pub record Leaves (world : World) (moments : List Moment) (moment : Moment) (after : World) : Type 0 where
  pub witnessed : Witnessed world.state.head.name world.state.head.epoch moments after.state.transactions after.errands after.rows
  pub done : (id : List ℕ) → IsDone world.state.head.name id moments moment

abbrev pub In_world : World → List Moment → Type 0
In_world world moments = Witnessed world.state.head.name world.state.head.epoch moments world.state.transactions world.errands world.rows

stored_in : (world : World) → IsSound world → (u : Transaction) → In u world.state.transactions → is_stored_as u.phase u (row_at u.key world.rows) ≡ true
stored_in world sound u there = in_all (λ (t : Transaction). is_stored_as t.phase t (row_at t.key world.rows)) world.state.transactions u (and_parts _ (list_all (λ (t : Transaction). is_stored_as t.phase t (row_at t.key world.rows)) world.state.transactions) (and_parts _ _ sound.stored).0).1 there

module _ (world : World) (sound : IsSound world) (moments : List Moment) (was : In_world world moments) where
  pub event_leaves : (event : Event) (outcome : Outcome) (moment : Moment) → moment.world ≡ world → moment.move ≡ Move.Step event outcome → moment.shown ≡ (stepped event outcome world).shown → brings_no_party event ≡ true → IsSound (stepped event outcome world).world → Leaves world (moments ++ moment ∷ []) moment (stepped event outcome world).world
  unfolding stepped ordered
  event_leaves event outcome moment met move shows none after = step (is_open world.state) refl shows after where
    now_was : In_world world (moments ++ moment ∷ [])
    now_was = witnessed_more world.state.head.name world.state.head.epoch moments (moment ∷ []) world.state.transactions world.errands world.rows was

    step : (b : Bool) → is_open world.state ≡ b → moment.shown ≡ outputs event (cond b (wanted (attempt event (entered world.state))) None) outcome (cond b (ordered world.state (chosen (attempt event (entered world.state)) outcome)) (frozen event world.state)).answer →
        IsSound (record { state = (cond b (ordered world.state (chosen (attempt event (entered world.state)) outcome)) (frozen event world.state)).state; rows = rows_after (cond b (wanted (attempt event (entered world.state))) None) outcome world.rows; errands = world.errands ++ option_to_list (cond b (ordered world.state (chosen (attempt event (entered world.state)) outcome)) (frozen event world.state)).answer.work }) →
        Leaves world (moments ++ moment ∷ []) moment (record { state = (cond b (ordered world.state (chosen (attempt event (entered world.state)) outcome)) (frozen event world.state)).state; rows = rows_after (cond b (wanted (attempt event (entered world.state))) None) outcome world.rows; errands = world.errands ++ option_to_list (cond b (ordered world.state (chosen (attempt event (entered world.state)) outcome)) (frozen event world.state)).answer.work })
    step true room shows after =
        let name = world.state.head.name in
        let epoch = world.state.head.epoch in
        let a = attempt event (entered world.state) in
        let comes = event_comes world sound moments moment met event outcome room move shows now_was none in
        record {
          witnessed = then_witnessed name epoch (moments ++ moment ∷ []) world.state.transactions world.errands world.rows a outcome comes now_was (stored_in _ after);
          done = change_is_done world sound (moments ++ moment ∷ []) moment met event (wanted a) outcome (ordered world.state (chosen a outcome)).answer shows (λ key is. (removes_spelled name epoch (moments ++ moment ∷ []) world.state.transactions world.errands world.rows a outcome comes key is, finishes name epoch (moments ++ moment ∷ []) world.state.transactions world.errands world.rows a outcome comes key is));
        }
    step false full shows after = record {
      witnessed = subst (λ o. Witnessed world.state.head.name world.state.head.epoch (moments ++ moment ∷ []) world.state.transactions (world.errands ++ option_to_list o) world.rows) (sym (returned-silent Frozen event).1) (subst (λ ps. Witnessed world.state.head.name world.state.head.epoch (moments ++ moment ∷ []) world.state.transactions ps world.rows) (sym (append-nil world.errands)) now_was);
      done = change_is_done world sound (moments ++ moment ∷ []) moment met event None outcome (frozen event world.state).answer shows (λ key is. absurd (none-some (Remove key) is));
    }

  pub back_leaves : (party : PartyNotes) (rest : List PartyNotes) → IsPicked world.errands party rest → (back : Back) (outcome : Outcome) (moment : Moment) → moment.world ≡ world → moment.shown ≡ (stepped (event_of party back) outcome (record world { errands = rest })).shown → IsSound (stepped (event_of party back) outcome (record world { errands = rest })).world → Leaves world (moments ++ moment ∷ []) moment (stepped (event_of party back) outcome (record world { errands = rest })).world
  unfolding stepped ordered
  back_leaves party rest out back outcome moment met shows after = step (is_open world.state) refl shows after where
    now_was : In_world world (moments ++ moment ∷ [])
    now_was = witnessed_more world.state.head.name world.state.head.epoch moments (moment ∷ []) world.state.transactions world.errands world.rows was

    fewer : Witnessed world.state.head.name world.state.head.epoch (moments ++ moment ∷ []) world.state.transactions rest world.rows
    fewer = witnessed_fewer world.state.head.name world.state.head.epoch (moments ++ moment ∷ []) world.state.transactions world.errands rest world.rows (λ p is. in_picked world.errands party rest out p (inr is)) now_was

    step : (b : Bool) → is_open world.state ≡ b → moment.shown ≡ outputs (event_of party back) (cond b (wanted (attempt (event_of party back) (entered world.state))) None) outcome (cond b (ordered world.state (chosen (attempt (event_of party back) (entered world.state)) outcome)) (frozen (event_of party back) world.state)).answer →
        IsSound (record { state = (cond b (ordered world.state (chosen (attempt (event_of party back) (entered world.state)) outcome)) (frozen (event_of party back) world.state)).state; rows = rows_after (cond b (wanted (attempt (event_of party back) (entered world.state))) None) outcome world.rows; errands = rest ++ option_to_list (cond b (ordered world.state (chosen (attempt (event_of party back) (entered world.state)) outcome)) (frozen (event_of party back) world.state)).answer.work }) →
        Leaves world (moments ++ moment ∷ []) moment (record { state = (cond b (ordered world.state (chosen (attempt (event_of party back) (entered world.state)) outcome)) (frozen (event_of party back) world.state)).state; rows = rows_after (cond b (wanted (attempt (event_of party back) (entered world.state))) None) outcome world.rows; errands = rest ++ option_to_list (cond b (ordered world.state (chosen (attempt (event_of party back) (entered world.state)) outcome)) (frozen (event_of party back) world.state)).answer.work })
    step true room shows after =
        let name = world.state.head.name in
        let epoch = world.state.head.epoch in
        let a = attempt (event_of party back) (entered world.state) in
        let comes = back_comes world sound moments moment met party rest out back outcome now_was (λ test is. ap (list_any test) shows ∙ brings_so test (event_of party back) (wanted a) outcome (ordered world.state (chosen a outcome)).answer (ap (list_any test) (brought_back party back) ∙ is)) in
        record {
          witnessed = then_witnessed name epoch (moments ++ moment ∷ []) world.state.transactions rest world.rows a outcome comes fewer (stored_in _ after);
          done = change_is_done world sound (moments ++ moment ∷ []) moment met (event_of party back) (wanted a) outcome (ordered world.state (chosen a outcome)).answer shows (λ key is. (removes_spelled name epoch (moments ++ moment ∷ []) world.state.transactions rest world.rows a outcome comes key is, finishes name epoch (moments ++ moment ∷ []) world.state.transactions rest world.rows a outcome comes key is));
        }
    step false full shows after = record {
      witnessed = subst (λ o. Witnessed world.state.head.name world.state.head.epoch (moments ++ moment ∷ []) world.state.transactions (rest ++ option_to_list o) world.rows) (sym (returned-silent Frozen (event_of party back)).1) (subst (λ ps. Witnessed world.state.head.name world.state.head.epoch (moments ++ moment ∷ []) world.state.transactions ps world.rows) (sym (append-nil rest)) fewer);
      done = change_is_done world sound (moments ++ moment ∷ []) moment met (event_of party back) None outcome (frozen (event_of party back) world.state).answer shows (λ key is. absurd (none-some (Remove key) is));
    }
