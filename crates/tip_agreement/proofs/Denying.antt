-- WHAT HAS A ROW IS NOT DENIED: a QUERY for it is answered QUERIEDEXISTS.
use Rattle.std.proofs.Common.{◌≡◌, Bool, true, false, ℕ, List, [], ◌∷◌, ◌++◌, Option, Some, None, cond, refl, ap, subst, sym, ◌∙◌, inl, inr}
use Rattle.std.specs.Prelude.{◌&&◌, ◌||◌, ◌==◌, filter, find, flat_map, is_none, is_some, map, not, option_map}
use Rattle.std.specs.List.{list_any}
use Rattle.std.specs.Option.{option_map_or, option_to_list}
use Rattle.std.specs.Str.{bytes_eq}
use Rattle.std.proofs.lemmas.Bool.{and_from, and_parts, both_ways, or_cases, or_from, or_left, or_right}
use Rattle.std.proofs.lemmas.List.Folds.{list_any-append}
use Rattle.std.proofs.lemmas.Option.{none-some, same_Some}
use Rattle.tip_branch.specs.Notes.{PartyNotes}
use Rattle.tip_branch.specs.declared.member.Member.{Member}
use Rattle.tip_branch.specs.Members.{is_active}
use Rattle.tip_conn.specs.Table.{admit_of}
use Rattle.tip_conn.specs.declared.state.Admit.{Admit}
use Rattle.tip_conn.specs.declared.state.Admit.TheVariants.{Serve, Wrong}
use Rattle.tip_conn.specs.declared.state.Side.{Side}
use Rattle.tip_conn.specs.declared.state.Side.TheVariants.{Primary, Secondary}
use Rattle.tip_line.specs.declared.command.Command.TheVariants as command
use Rattle.tip_line.specs.declared.command.CommandName.{CommandName}
use Rattle.tip_line.specs.declared.command.CommandName.TheVariants as name
use Rattle.tip_rows.specs.Keys.{Key, is_same}
use Rattle.tip_rows.specs.Logs.{row_at}
use Rattle.tip_rows.specs.declared.row.Row.{Row}
use Rattle.tip_rows.proofs.MemoryLemmas.{same_text}
use Rattle.tip_txn.specs.Parts.{answer_at, answered}
use Rattle.tip_txn.specs.Transactions.{exists_in}
use Rattle.tip_txn.specs.declared.answer.Ballot.TheVariants.{Lost}
use Rattle.tip_txn.specs.declared.answer.Phase.{Phase}
use Rattle.tip_txn.specs.declared.answer.Phase.TheVariants.{Active, Asking, Prepared, Committed, Aborted}
use Rattle.tip_machine.specs.Agreement.{denies, is_denial, is_denied, queried_on, row_in}
use Rattle.tip_machine.specs.Agreement.Traces.{Moment, at_each_behind, traced}
use Rattle.tip_machine.specs.Answers.{identifier}
use Rattle.tip_machine.specs.Changes.{alter, end, on, refuse, reply, tell}
use Rattle.tip_machine.specs.Commands.{commanded, exists, query, serve_if}
use Rattle.tip_machine.specs.Connections.{is_on, may_take}
use Rattle.tip_machine.specs.Failing.{closed, fail, gone, lost_unanswered, missed, part_lost, superior_lost, wrong}
use Rattle.tip_machine.specs.Honest.{is_honest, is_run}
use Rattle.tip_machine.specs.Invariants.{IsSound}
use Rattle.tip_machine.specs.Invariants.Stored.{is_stored_as}
use Rattle.tip_machine.specs.Moves.{Move, World, moved, stepped}
use Rattle.tip_machine.specs.Order.{ordered, turn}
use Rattle.tip_machine.specs.Outputs.{Output, drops_of, outputs}
use Rattle.tip_machine.specs.Proceeding.{abort, dispatch, dispatched, enter, errand_in, give_out, let_go, release}
use Rattle.tip_machine.specs.Reactions.{Demand, aborts, demanded_as, demands, react, reacts, sent_by, stays}
use Rattle.tip_machine.specs.Requests.{hear, line}
use Rattle.tip_machine.specs.Starting.{IsStart}
use Rattle.tip_machine.specs.States.{Attempt, Work, identified_by, seated, transaction_of}
use Rattle.tip_machine.specs.Steps.{attempt, chosen, entered, frozen, is_open, wanted}
use Rattle.tip_machine.specs.Transactions.{has_ready, is_spent, noting}
use Rattle.tip_machine.specs.Types.{Answer, Connection, PartyPlace, Transaction}
use Rattle.tip_machine.specs.declared.answer.Item.TheVariants.{Close, Say}
use Rattle.tip_machine.specs.declared.answer.Said.TheVariants as said
use Rattle.tip_machine.specs.declared.answer.Sent.{Sent}
use Rattle.tip_machine.specs.declared.connection.Role.{Role}
use Rattle.tip_machine.specs.declared.connection.Role.TheVariants.{Superior, Subordinate}
use Rattle.tip_machine.specs.declared.event.Change.{Change}
use Rattle.tip_machine.specs.declared.event.Event.TheVariants.{Line}
use Rattle.tip_machine.specs.declared.event.Heard.{Heard}
use Rattle.tip_machine.specs.declared.event.Heard.TheVariants as heard
use Rattle.tip_machine.specs.declared.event.Outcome.{Outcome}
use Rattle.tip_machine.specs.declared.event.Seat.{Seat}
use Rattle.tip_machine.specs.declared.transaction.PartyPlace.TheVariants.{Here, Out, Spent}
use Rattle.tip_line.specs.declared.refusal.Refusal.{Refusal}
use Rattle.tip_line.specs.declared.refusal.Refusal.TheVariants.{Busy}
use Rattle.tip_machine.proofs.Lists.{find_any}
use Rattle.tip_machine.proofs.Walks.{either, found_passes}
use Rattle.tip_agreement.proofs.Declared.{name_moved}
use Rattle.tip_agreement.proofs.Bounded.{found_by_id, in_bounds}
use Rattle.tip_agreement.proofs.Kept.{moved_sound}
use Rattle.tip_agreement.proofs.Keys.{key_self}
use Rattle.tip_agreement.proofs.Onward.{says}
use Rattle.tip_agreement.proofs.Owned.{key_found}
use Rattle.tip_agreement.proofs.Restarts.{start_sound}
use Rattle.tip_agreement.proofs.Rows.{to_says}
use Rattle.tip_agreement.proofs.Telling.{turn_same}

-- a denial is among these lines
abbrev denies_any : List Sent → Bool
denies_any sent = list_any (λ (s : Sent). is_denial s.item) sent

-- AN ABORT, and a connection that is closed, deny nothing

-- as many denials after it as before
abbrev IsCivil : Work → Work → Type 0
IsCivil w v = denies_any v.answer.sent ≡ denies_any w.answer.sent

or_none : (b : Bool) → b || false ≡ b
or_none true = refl
or_none false = refl

one_reaction : (key : Key) (c : Connection) → denies_any (sent_by aborts key c) ≡ false
one_reaction key c = step (is_on key c) where
  demanded : (found : Option Demand) → denies_any (map (λ item. record { connection = c.number; item = item }) (option_map_or (demands key c) found (stays c)).items) ≡ false
  demanded None = refl
  demanded (Some demand) = refl

  by_owed : (owed : Option CommandName) → denies_any (map (λ item. record { connection = c.number; item = item }) (reacts aborts key owed c).items) ≡ false
  by_owed (Some command) = refl
  by_owed None = demanded (demanded_as aborts c.role c)

  step : (b : Bool) → denies_any (map (λ item. record { connection = c.number; item = item }) (cond b (reacts aborts key c.owed c) (stays c)).items) ≡ false
  step true = by_owed c.owed
  step false = refl

all_reactions : (key : Key) (cs : List Connection) → denies_any (flat_map (sent_by aborts key) cs) ≡ false
all_reactions key [] = refl
all_reactions key (c ∷ cs) = list_any-append (λ (s : Sent). is_denial s.item) (sent_by aborts key c) (flat_map (sent_by aborts key) cs) ∙ or_from _ _ (one_reaction key c) (all_reactions key cs)

tells_more : (sent more : List Sent) → denies_any more ≡ false → denies_any (sent ++ more) ≡ denies_any sent
tells_more sent more none = list_any-append (λ (s : Sent). is_denial s.item) sent more ∙ (ap (λ b. denies_any sent || b) none ∙ or_none (denies_any sent))

reacts_civil : (key : Key) (w : Work) → IsCivil w (react aborts key w)
unfolding react
reacts_civil key w = tells_more w.answer.sent (flat_map (sent_by aborts key) w.state.connections) (all_reactions key w.state.connections)

dispatch_silent : (key : Key) (w : Work) → (dispatch key w).answer.sent ≡ w.answer.sent
unfolding dispatch
dispatch_silent key w = step (transaction_of key w.state) where
  at_place : (place : PartyPlace) (phase : Phase) → (dispatched place phase key w).answer.sent ≡ w.answer.sent
  at_place (Out errand) phase = refl
  at_place Spent phase = refl
  at_place (Here party) phase = either (λ v. v.answer.sent ≡ w.answer.sent) (has_ready party) (give_out (errand_in phase) party key w) (let_go party key w) refl refl

  step : (found : Option Transaction) → (on found (λ (t : Transaction). dispatched t.place t.phase key) w).answer.sent ≡ w.answer.sent
  step None = refl
  step (Some t) = at_place t.place t.phase

release_silent : (key : Key) (w : Work) → (release key w).answer.sent ≡ w.answer.sent
unfolding release
release_silent key w = step (transaction_of key w.state) where
  step : (found : Option Transaction) → (on found (λ (t : Transaction) (v : Work). cond (is_spent t.place && not (list_any (is_on key) v.state.connections)) (end key v) v) w).answer.sent ≡ w.answer.sent
  step None = refl
  step (Some t) = either (λ v. v.answer.sent ≡ w.answer.sent) (is_spent t.place && not (list_any (is_on key) w.state.connections)) (end key w) w refl refl

abort_civil : (key : Key) (w : Work) → IsCivil w (abort key w)
unfolding abort
abort_civil key w =
    let told = react aborts key (enter Aborted key w) in
    ap denies_any (release_silent key (dispatch key told) ∙ dispatch_silent key told) ∙ reacts_civil key (enter Aborted key w)

missed_civil : (role : Option Role) (w : Work) → IsCivil w (missed role w)
missed_civil None w = refl
missed_civil (Some (Superior key)) w = step (transaction_of key w.state) where
  by_phase : (phase : Phase) → IsCivil w (superior_lost phase key w)
  by_phase Active = abort_civil key w
  by_phase Asking = abort_civil key w
  by_phase Prepared = refl
  by_phase Committed = refl
  by_phase Aborted = abort_civil key w

  step : (found : Option Transaction) → IsCivil w (on found (λ (t : Transaction). superior_lost t.phase key) w)
  step None = refl
  step (Some t) = by_phase t.phase
missed_civil (Some (Subordinate key part)) w = step (transaction_of key w.state) where
  unanswered : (t : Transaction) → IsCivil w (lost_unanswered part t w)
  unanswered t = either (IsCivil w) (is_some (answer_at t.parts part)) w (abort t.key (alter t.key (noting part (answered Lost)) w)) refl (abort_civil t.key (alter t.key (noting part (answered Lost)) w))

  by_phase : (phase : Phase) (t : Transaction) → IsCivil w (part_lost phase part t w)
  by_phase Active t = unanswered t
  by_phase Asking t = unanswered t
  by_phase Prepared t = refl
  by_phase Committed t = refl
  by_phase Aborted t = abort_civil t.key w

  step : (found : Option Transaction) → IsCivil w (on found (λ (t : Transaction). part_lost t.phase part t) w)
  step None = refl
  step (Some t) = by_phase t.phase t

-- a line more, which denies nothing
abbrev a_close : ℕ → List Sent
a_close number = record { connection = number; item = Close } ∷ []

abbrev an_error : ℕ → List Sent
an_error number = record { connection = number; item = Say said.Error } ∷ []

wrong_civil : (c : Connection) (w : Work) → IsCivil w (wrong c w)
unfolding wrong closed fail gone
wrong_civil c w =
    let error = tell c.number (Say said.Error) w in
    let told = tell c.number Close error in
    missed_civil c.role (gone c told) ∙ (tells_more error.answer.sent (a_close c.number) refl ∙ tells_more w.answer.sent (an_error c.number) refl)

-- THE ROW OF AN IDENTIFIER is that of a transaction which exists

any_found : {T : Type 0} (p q : T → Bool) (xs : List T) (x : T) → find q xs ≡ Some x → p x ≡ true → list_any p xs ≡ true
any_found p q [] x is holds = absurd (none-some x is)
any_found p q (y ∷ ys) x is holds = step (q y) is (λ later. any_found p q ys x later holds) where
  step : (b : Bool) → cond b (Some y) (find q ys) ≡ Some x → (find q ys ≡ Some x → list_any p ys ≡ true) → p y || list_any p ys ≡ true
  step true is later = or_left (p y) _ (subst (λ z. p z ≡ true) (sym (same_Some y x is)) holds)
  step false is later = or_right (p y) _ (later is)

-- one that has a row exists
exists_so : (phase : Phase) (t : Transaction) (r : Row) → is_stored_as phase t (Some r) ≡ true → exists_in phase ≡ true
exists_so Active t r is = refl
exists_so Asking t r is = refl
exists_so Prepared t r is = refl
exists_so Committed t r is = refl
exists_so Aborted t r is = absurd (cc)

module _ (world : World) (sound : IsSound world) (id : List ℕ) where
  abbrev here : List ℕ
  here = world.state.head.name

  row_found : (r : Row) → row_in here id world.rows ≡ Some r → (e : Key × Row) × (find (λ (e : Key × Row). bytes_eq id (identifier here e.0)) world.rows ≡ Some e)
  row_found r = step (find (λ (e : Key × Row). bytes_eq id (identifier here e.0)) world.rows) where
    step : (found : Option (Key × Row)) → option_map (λ (e : Key × Row). e.1) found ≡ Some r → (e : Key × Row) × (found ≡ Some e)
    step None is = absurd (none-some r is)
    step (Some e) is = (e, refl)

  row_here : (e : Key × Row) → find (λ (e : Key × Row). bytes_eq id (identifier here e.0)) world.rows ≡ Some e → is_some (row_at e.0 world.rows) ≡ true
  row_here e is = step (find (λ (f : Key × Row). is_same f.0 e.0) world.rows) (find_any (λ (f : Key × Row). is_same f.0 e.0) world.rows ∙ any_found (λ (f : Key × Row). is_same f.0 e.0) (λ (f : Key × Row). bytes_eq id (identifier here f.0)) world.rows e is (key_self e.0)) where
    step : (found : Option (Key × Row)) → is_some found ≡ true → is_some (option_map (λ (f : Key × Row). f.1) found) ≡ true
    step None is = is
    step (Some f) is = refl

  exists_there : (r : Row) → row_in here id world.rows ≡ Some r → option_map_or exists (identified_by id world.state) false ≡ true
  exists_there r is =
      let e = row_found r is in
      let named = found_passes (λ (e : Key × Row). bytes_eq id (identifier here e.0)) world.rows e.0 e.1 in
      of_key e.0.0 named (transaction_of e.0.0 world.state) (row_at e.0.0 world.rows) refl refl (row_here e.0 e.1) ((to_says world.state world.rows sound.stored).1 e.0.0) where
        of_key : (key : Key) → bytes_eq id (identifier here key) ≡ true → (found : Option Transaction) (at : Option Row) → transaction_of key world.state ≡ found → row_at key world.rows ≡ at → is_some (row_at key world.rows) ≡ true → says (transaction_of key world.state) (row_at key world.rows) ≡ true → option_map_or exists (identified_by id world.state) false ≡ true
        of_key key named found None has at stands fits = absurd (let wrong : false ≡ true = sym (ap is_some at) ∙ stands in cc)
        of_key key named None (Some r) has at stands fits = absurd (let wrong : false ≡ true = sym (λ i. says (has i) (at i)) ∙ fits in cc)
        of_key key named (Some t) (Some r) has at stands fits =
            let key_is = key_found key t world.state has in
            let known = found_by_id id world.state t (in_bounds world.state sound.bounded).spelled (subst (λ k. transaction_of k world.state ≡ Some t) key_is has) (subst (λ k. bytes_eq id (identifier here k) ≡ true) key_is named) in
            ap (λ o. option_map_or exists o false) known ∙ exists_so t.phase t r (sym (λ i. says (has i) (at i)) ∙ fits)

  -- A QUERY FOR IT

  module _ (there : option_map_or exists (identified_by id world.state) false ≡ true) where
    abbrev w : Work
    w = entered world.state

    answers_exists : (c : Connection) → denies_any (query id c w).answer.sent ≡ false
    unfolding query reply
    answers_exists c = ap (λ b. denies_any (record { connection = c.number; item = Say (cond b said.QueriedExists said.QueriedNotFound) } ∷ [])) there

    wrong_silent : (c : Connection) → denies_any (wrong c w).answer.sent ≡ false
    wrong_silent c = wrong_civil c w

    serves_it : (admit : Admit) (c : Connection) (outcome : Outcome) → denies_any (chosen (serve_if admit (command.Query id) c w) outcome).answer.sent ≡ false
    serves_it Wrong c outcome = wrong_silent c
    serves_it Serve c outcome = answers_exists c

    hears_it : (side : Side) (c : Connection) (outcome : Outcome) → denies_any (chosen (hear side (heard.Command (command.Query id)) c w) outcome).answer.sent ≡ false
    unfolding commanded
    hears_it Secondary c outcome = serves_it (admit_of c.state c.side name.Query) c outcome
    hears_it Primary c outcome = wrong_silent c

    lines_it : (found : Option Connection) (outcome : Outcome) → denies_any (chosen (line found (heard.Command (command.Query id)) w) outcome).answer.sent ≡ false
    unfolding line
    lines_it None outcome = refl
    lines_it (Some c) outcome = step (may_take c) where
      step : (b : Bool) → denies_any (chosen (cond b (hear c.side (heard.Command (command.Query id)) c w) (Attempt.Done (refuse Busy w))) outcome).answer.sent ≡ false
      step true = hears_it c.side c outcome
      step false = refl

-- WHAT IS SHOWN of a line denies where the lines that go out do

module _ (realm id : List ℕ) (number : ℕ) where
  abbrev is_shown : List Output → Bool
  is_shown shown = list_any (denies realm id number) shown

  later : (xs ys : List Output) → is_shown xs ≡ false → is_shown (xs ++ ys) ≡ true → is_shown ys ≡ true
  later xs ys none is = elim (or_cases (is_shown xs) (is_shown ys) (sym (list_any-append (denies realm id number) xs ys) ∙ is)) [
    | inl first ↦ absurd (both_ways (is_shown xs) none first)
    | inr rest ↦ rest
  ]

  none_refused : (why : Option Refusal) → is_shown (option_to_list (option_map Output.Refused why)) ≡ false
  none_refused None = refl
  none_refused (Some why) = refl

  none_opened : (seat : Option Seat) → is_shown (option_to_list (option_map Output.Opened seat)) ≡ false
  none_opened None = refl
  none_opened (Some seat) = refl

  none_changed : (change : Option Change) (outcome : Outcome) → is_shown (option_to_list (option_map (λ c. Output.Changed c outcome) change)) ≡ false
  none_changed None outcome = refl
  none_changed (Some change) outcome = refl

  none_worked : (work : Option PartyNotes) → is_shown (option_to_list (option_map (λ (party : PartyNotes). Output.Works party.id party.errand) work)) ≡ false
  none_worked None = refl
  none_worked (Some party) = refl

  none_dropped : (spent : Option PartyNotes) → is_shown (option_map_or drops_of spent []) ≡ false
  none_dropped None = refl
  none_dropped (Some party) = step (filter is_active party.members) where
    step : (ms : List Member) → is_shown (map (λ (m : Member). Output.Dropped party.id m.number m.standing.badge) ms) ≡ false
    step [] = refl
    step (m ∷ ms) = step ms

  said_shown : (sent : List Sent) → is_shown (map Output.Sent sent) ≡ true → denies_any sent ≡ true
  said_shown [] is = is
  said_shown (s ∷ sent) is = elim (or_cases ((s.connection == number) && is_denial s.item) (is_shown (map Output.Sent sent)) is) [
    | inl first ↦ or_left (is_denial s.item) _ (and_parts (s.connection == number) (is_denial s.item) first).1
    | inr rest ↦ or_right (is_denial s.item) _ (said_shown sent rest)
  ]

  shown_denies : (seat : Seat) (heard : Heard) (change : Option Change) (outcome : Outcome) (answer : Answer) → is_shown (outputs (Line seat heard) change outcome answer) ≡ true → denies_any answer.sent ≡ true
  shown_denies seat heard change outcome answer is =
      let lines = map Output.Sent answer.sent in
      let works = option_to_list (option_map (λ (party : PartyNotes). Output.Works party.id party.errand) answer.work) in
      let drops = option_map_or drops_of answer.spent [] in
      let changed = option_to_list (option_map (λ c. Output.Changed c outcome) change) in
      let opened = option_to_list (option_map Output.Opened answer.opened) in
      let a = later (option_to_list (option_map Output.Refused answer.refusal)) (opened ++ (changed ++ (lines ++ (works ++ drops)))) (none_refused answer.refusal) is in
      let b = later opened (changed ++ (lines ++ (works ++ drops))) (none_opened answer.opened) a in
      let c = later changed (lines ++ (works ++ drops)) (none_changed change outcome) b in
      elim (or_cases (is_shown lines) (is_shown (works ++ drops)) (sym (list_any-append (denies realm id number) lines (works ++ drops)) ∙ c)) [
        | inl said ↦ said_shown answer.sent said
        | inr rest ↦ absurd (both_ways (is_shown drops) (none_dropped answer.spent) (later works drops (none_worked answer.work) rest))
      ]

-- A MOMENT

false_unless : (b : Bool) → (b ≡ true → ⊥) → b ≡ false
false_unless true never = absurd (never refl)
false_unless false never = refl

module _ (world : World) (sound : IsSound world) (id : List ℕ) (r : Row) (is : row_in world.state.head.name id world.rows ≡ Some r) where
  abbrev its_realm : List ℕ
  its_realm = world.state.head.name

  step_denies_none : (seat : Seat) (outcome : Outcome) (n : ℕ) → list_any (denies its_realm id n) (stepped (Line seat (heard.Command (command.Query id))) outcome world).shown ≡ false
  unfolding stepped ordered
  step_denies_none seat outcome n = step (is_open world.state) where
    there : option_map_or exists (identified_by id world.state) false ≡ true
    there = exists_there world sound id r is

    tried : Attempt
    tried = attempt (Line seat (heard.Command (command.Query id))) (entered world.state)

    quiet : (change : Option Change) (answer : Answer) → denies_any answer.sent ≡ false → list_any (denies its_realm id n) (outputs (Line seat (heard.Command (command.Query id))) change outcome answer) ≡ false
    quiet change answer none = false_unless _ (λ shown. both_ways (denies_any answer.sent) none (shown_denies its_realm id n seat (heard.Command (command.Query id)) change outcome answer shown))

    step : (b : Bool) → list_any (denies its_realm id n) (outputs (Line seat (heard.Command (command.Query id))) (cond b (wanted tried) None) outcome (cond b (ordered world.state (chosen tried outcome)) (frozen (Line seat (heard.Command (command.Query id))) world.state)).answer) ≡ false
    step true = quiet (wanted tried) (ordered world.state (chosen tried outcome)).answer (turn_same (λ (s : Sent). is_denial s.item) (turn world.state) (chosen tried outcome).answer.sent ∙ lines_it world sound id there (seated seat world.state) outcome)
    step false = quiet None (frozen (Line seat (heard.Command (command.Query id))) world.state).answer refl

  undenied : (move : Move) → option_map_or (λ n. list_any (denies its_realm id n) (moved move world).shown) (queried_on its_realm id move) false ≡ false
  undenied (Move.Step (Line seat (heard.Command (command.Query superior))) outcome) = step (bytes_eq id superior) refl where
    step : (b : Bool) → bytes_eq id superior ≡ b → option_map_or (λ n. list_any (denies its_realm id n) (stepped (Line seat (heard.Command (command.Query superior))) outcome world).shown) (cond b (Some seat.number) None) false ≡ false
    step false differ = refl
    step true same = subst (λ s. list_any (denies its_realm id seat.number) (stepped (Line seat (heard.Command (command.Query s))) outcome world).shown ≡ false) (same_text id superior same) (step_denies_none seat outcome seat.number)
  undenied other = refl

-- at each moment
abbrev pub is_undenied : List ℕ → List ℕ → List Moment → Moment → Bool
is_undenied realm id before moment = not (is_denied realm id moment) || is_none (row_in realm id moment.world.rows)

pub moved_undenied : (move : Move) (world : World) (id : List ℕ) (before : List Moment) → IsSound world → is_undenied world.state.head.name id before (record { world = world; move = move; shown = (moved move world).shown; after = (moved move world).world }) ≡ true
moved_undenied move world id before sound = step (row_in world.state.head.name id world.rows) refl where
  denied : Bool
  denied = is_denied world.state.head.name id (record { world = world; move = move; shown = (moved move world).shown; after = (moved move world).world })

  step : (found : Option Row) → row_in world.state.head.name id world.rows ≡ found → not denied || is_none (row_in world.state.head.name id world.rows) ≡ true
  step None is = or_right (not denied) _ (ap is_none is)
  step (Some r) is = or_left (not denied) _ (ap not (undenied world sound id r is move))

runs_undenied : (realm id : List ℕ) (world : World) (moves : List Move) (before : List Moment) → IsSound world → world.state.head.name ≡ realm → is_run world moves ≡ true → at_each_behind before (is_undenied realm id) (traced world moves) ≡ true
runs_undenied realm id world [] before sound named honest = refl
runs_undenied realm id world (move ∷ moves) before sound named honest =
    let parts = and_parts (is_honest move world) (is_run (moved move world).world moves) honest in
    let next = (moved move world).world in
    let moment : Moment = record { world = world; move = move; shown = (moved move world).shown; after = next } in
    and_from _ _ (subst (λ n. is_undenied n id before moment ≡ true) named (moved_undenied move world id before sound))
    (runs_undenied realm id next moves (before ++ moment ∷ []) (moved_sound move world sound parts.0) (name_moved move world ∙ named) parts.1)

pub run_undenied : (world : World) (moves : List Move) (id : List ℕ) → IsStart world → is_run world moves ≡ true → at_each_behind [] (is_undenied world.state.head.name id) (traced world moves) ≡ true
run_undenied world moves id start honest = runs_undenied world.state.head.name id world moves [] (start_sound world start) refl honest
