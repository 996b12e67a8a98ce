-- What each event leaves of the answers of a transaction's parts: what it heard from one, and else what they were.
use Rattle.std.proofs.Common.{◌≡◌, Bool, true, false, ℕ, zero, suc, List, [], ◌∷◌, Option, Some, None, cond, refl, ap, subst, sym, arith, ◌∙◌, ◌⊎◌, inl, inr}
use Rattle.std.specs.Prelude.{◌==◌, is_some, nat_le, option_map, slice_get}
use Rattle.std.specs.List.{list_any}
use Rattle.std.specs.Option.{option_and_then, option_map_or}
use Rattle.std.specs.Str.{bytes_eq}
use Rattle.std.proofs.lemmas.Bool.{both_ways, cases_Bool}
use Rattle.std.proofs.lemmas.Bool.Decides.{nat_tests}
use Rattle.std.proofs.lemmas.Option.{none-some, same_Some}
use Rattle.tip_line.specs.declared.refusal.Refusal.{Refusal}
use Rattle.tip_line.specs.declared.refusal.Refusal.TheVariants.{Busy}
use Rattle.tip_line.specs.declared.response.Response.{Response}
use Rattle.tip_line.specs.declared.response.Response.TheVariants as responses
use Rattle.tip_rows.specs.Keys.{Key, is_same}
use Rattle.tip_rows.proofs.MemoryLemmas.{bytes_eq-self, same_text}
use Rattle.tip_rows.proofs.OrderLemmas.{same_key}
use Rattle.tip_txn.specs.Parts.{answer_at, answered, changed_at}
use Rattle.tip_txn.specs.declared.answer.Ballot.{Ballot}
use Rattle.tip_txn.specs.declared.answer.Ballot.TheVariants as answer
use Rattle.tip_txn.specs.declared.answer.Phase.TheVariants.{Aborted}
use Rattle.tip_txn.specs.declared.part.Participant.{Participant}
use Rattle.tip_machine.specs.Agreement.{answer_by, is_willing, part_of}
use Rattle.tip_machine.specs.Agreement.Traces.{Came, Moment, came_in, came_on, heard_in, is_refusal}
use Rattle.tip_machine.specs.Answers.{identifier}
use Rattle.tip_machine.specs.Changes.{alter}
use Rattle.tip_machine.specs.Invariants.{IsSound}
use Rattle.tip_machine.specs.Invariants.Bounds.{is_spelled}
use Rattle.tip_machine.specs.Invariants.Links.{are_distinct}
use Rattle.tip_machine.specs.Moves.{Move, World}
use Rattle.tip_machine.specs.States.{Attempt, State, Work, seated, transaction_of}
use Rattle.tip_machine.specs.Steps.{chosen, entered}
use Rattle.tip_machine.specs.Transactions.{has_key, noting}
use Rattle.tip_machine.specs.Types.{Connection, Event, Transaction}
use Rattle.tip_machine.specs.declared.connection.Awaited.{Awaited}
use Rattle.tip_machine.specs.declared.connection.Awaited.TheVariants as awaited
use Rattle.tip_machine.specs.declared.connection.Role.{Role}
use Rattle.tip_machine.specs.declared.connection.Role.TheVariants.{Superior, Subordinate}
use Rattle.tip_machine.specs.declared.event.Event.TheVariants.{Line}
use Rattle.tip_machine.specs.declared.event.Heard.TheVariants.{Response as AResponse}
use Rattle.tip_machine.specs.declared.event.Outcome.{Outcome}
use Rattle.tip_machine.specs.declared.event.Outcome.TheVariants.{NoChange, Refused, Stored}
use Rattle.tip_machine.specs.declared.event.Seat.{Seat}
use Rattle.tip_machine.specs.Connections.{has_number}
use Rattle.tip_machine.proofs.Walks.{found_passes, seated_there}
use Rattle.tip_agreement.proofs.Around.{found_altered}
use Rattle.tip_agreement.proofs.Bounded.{in_bounds}
use Rattle.tip_agreement.proofs.Closing.{is_stoppable}
use Rattle.tip_agreement.proofs.Keys.{keys_changed}
use Rattle.tip_agreement.proofs.Moving.{sound_whole}
use Rattle.tip_agreement.proofs.Owned.{key_found}
use Rattle.tip_agreement.proofs.Speaking.{ids_differ}
use Rattle.tip_agreement.proofs.Happening.{Noted, Quietly, Says, line_on, note_of}
use Rattle.tip_agreement.proofs.Hearing.{noted_partly}
use Rattle.tip_agreement.proofs.Keeping.{in_all, in_apart}
use Rattle.tip_agreement.proofs.Linking.{Placed, number_is, number_self, placed_so, role_of}
use Rattle.tip_agreement.proofs.Walking.{In, Lasts, ProceedsSo, Walks, Was, in_changed, in_found}
use Rattle.tip_agreement.proofs.Willing.{heard_answer, lasts_answer, lasts_some, or_else}
use Rattle.tip_agreement.proofs.Wronging.{answer_noted, can_stop, wrong_aborted}

-- THE ANSWERS of parts over a move
pub record Answers (Called : Type 0) (realm id : List ℕ) (moment : Moment) (old new : List Participant) : Type 0 where
  pub parts : (q : ℕ) → nat_le 1 q ≡ true → answer_at new q ≡ or_else (heard_answer realm id q moment) (answer_at old q)
  pub local : (a : Ballot) → answer_at new 0 ≡ Some a → (answer_at old 0 ≡ Some a) ⊎ Called
  pub more : (q : ℕ) → is_some (slice_get old q) ≡ true → is_some (slice_get new q) ≡ true

-- none was lost where all that they say is willing
pub lasts_well : (ps qs : List Participant) (q : ℕ) → Lasts ps qs → ((a : Ballot) → answer_at qs q ≡ Some a → is_willing a ≡ true) → answer_at qs q ≡ answer_at ps q
lasts_well ps qs q lasts well = elim (lasts_answer q ps qs lasts) [ inl same ↦ same | inr lost ↦ absurd (let wrong : false ≡ true = well answer.Lost lost in cc) ]

-- nothing was heard from any of them
pub answers_stay : (Called : Type 0) (realm id : List ℕ) (moment : Moment) (old new : List Participant) → ((q : ℕ) → heard_answer realm id q moment ≡ None) → Lasts old new → ((q : ℕ) (a : Ballot) → answer_at new q ≡ Some a → is_willing a ≡ true) → Answers Called realm id moment old new
answers_stay Called realm id moment old new none lasts well = record {
  parts = λ q least. lasts_well old new q lasts (well q) ∙ sym (ap (λ h. or_else h (answer_at old q)) (none q));
  local = λ a is. inl (sym (lasts_well old new 0 lasts (well 0)) ∙ is);
  more = λ q. lasts_some q old new lasts;
}

-- WHAT IS HEARD

pub none_heard : (realm id : List ℕ) (q : ℕ) (moment : Moment) → heard_in moment ≡ None → heard_answer realm id q moment ≡ None
none_heard realm id q moment none = ap (λ o. option_and_then (λ (came : Came). answer_by came.connection.awaited came.response) (option_and_then (λ (came : Came). cond (option_map_or (λ other. q == other) (part_of realm id came.connection.role) false) (Some came) None) o)) none

heard_is : (realm id : List ℕ) (q : ℕ) (moment : Moment) (came : Came) → heard_in moment ≡ Some came → heard_answer realm id q moment ≡ option_and_then (λ (came : Came). answer_by came.connection.awaited came.response) (cond (option_map_or (λ other. q == other) (part_of realm id came.connection.role) false) (Some came) None)
heard_is realm id q moment came is = ap (λ o. option_and_then (λ (came : Came). answer_by came.connection.awaited came.response) (option_and_then (λ (came : Came). cond (option_map_or (λ other. q == other) (part_of realm id came.connection.role) false) (Some came) None) o)) is

-- it came as a line, and was not refused
pub record CameBy (event : Event) (state : State) (came : Came) : Type 0 where
  pub seat : Seat
  pub said : Response
  pub is : event ≡ line_on seat (AResponse said)
  pub there : seated seat state ≡ Some came.connection
  pub response : came.response ≡ said

came_by : (event : Event) (outcome : Outcome) (state : State) (came : Came) → came_in (Move.Step event outcome) state ≡ Some came → CameBy event state came
came_by (Line seat (AResponse said)) outcome state came is = step (seated seat state) refl is where
  step : (o : Option Connection) → seated seat state ≡ o → came_on o said ≡ Some came → CameBy (Line seat (AResponse said)) state came
  step None at is = absurd (none-some came is)
  step (Some c) at is = let same = same_Some (record { connection = c; response = said }) came is in record { seat = seat; said = said; is = refl; there = at ∙ ap (λ (x : Came). Some x.connection) same; response = sym (ap (λ (x : Came). x.response) same) }
came_by event outcome state came is = absurd (none-some came is)

-- the role by which a part is known
part_role : (realm id : List ℕ) (q : ℕ) (role : Option Role) → option_map_or (λ other. q == other) (part_of realm id role) false ≡ true → (key : Key) × (role ≡ Some (Subordinate key q)) × (bytes_eq id (identifier realm key) ≡ true)
part_role realm id q None is = absurd (let wrong : false ≡ true = is in cc)
part_role realm id q (Some (Superior key)) is = absurd (let wrong : false ≡ true = is in cc)
part_role realm id q (Some (Subordinate key part)) is = step (bytes_eq id (identifier realm key)) refl is where
  step : (b : Bool) → bytes_eq id (identifier realm key) ≡ b → option_map_or (λ other. q == other) (cond b (Some part) None) false ≡ true → (k : Key) × (Some (Subordinate key part) ≡ Some (Subordinate k q)) × (bytes_eq id (identifier realm k) ≡ true)
  step true spells is = (key, ap (λ n. Some (Subordinate key n)) (sym (number_is q part is)), spells)
  step false differs is = absurd (let wrong : false ≡ true = is in cc)

-- what is answered is awaited
awaited_so : (a : Option Awaited) (r : Response) (b : Ballot) → answer_by a r ≡ Some b → (x : Awaited) × (a ≡ Some x)
awaited_so None r b is = absurd (none-some b is)
awaited_so (Some x) r b is = (x, refl)

-- nothing is heard of one that is committed
pub record CameOn (state : State) (came : Came) : Type 0 where
  pub seat : Seat
  pub there : seated seat state ≡ Some came.connection

came_on_any : (move : Move) (state : State) (came : Came) → came_in move state ≡ Some came → CameOn state came
came_on_any (Move.Step event outcome) state came is = let by = came_by event outcome state came is in record { seat = by.seat; there = by.there }
came_on_any move state came is = absurd (none-some came is)

-- of one of which no part's connection can say an answer, nothing is heard
pub unheard_unless : (world : World) (moment : Moment) → moment.world ≡ world → (id : List ℕ) (q : ℕ) → ((came : Came) → CameOn world.state came → (key : Key) → came.connection.role ≡ Some (Subordinate key q) → bytes_eq id (identifier world.state.head.name key) ≡ true → (b : Ballot) → answer_by came.connection.awaited came.response ≡ Some b → ⊥) → heard_answer world.state.head.name id q moment ≡ None
unheard_unless world moment met id q never = step (heard_in moment) refl where
  by_answer : (came : Came) → CameOn world.state came → (key : Key) → came.connection.role ≡ Some (Subordinate key q) → bytes_eq id (identifier world.state.head.name key) ≡ true → (b : Option Ballot) → answer_by came.connection.awaited came.response ≡ b → b ≡ None
  by_answer came on key role spells None at = refl
  by_answer came on key role spells (Some b) at = absurd (never came on key role spells b at)

  by_role : (came : Came) → CameOn world.state came → (b : Bool) → option_map_or (λ other. q == other) (part_of world.state.head.name id came.connection.role) false ≡ b → option_and_then (λ (x : Came). answer_by x.connection.awaited x.response) (cond b (Some came) None) ≡ None
  by_role came on false at = refl
  by_role came on true at = let role = part_role world.state.head.name id q came.connection.role at in by_answer came on role.0 role.1 role.2 (answer_by came.connection.awaited came.response) refl

  by_refusal : (came : Came) (b : Bool) → cond b None (came_in moment.move moment.world.state) ≡ Some came → CameOn world.state came
  by_refusal came true is = absurd (none-some came is)
  by_refusal came false is = came_on_any moment.move world.state came (sym (ap (λ (w : World). came_in moment.move w.state) met) ∙ is)

  step : (o : Option Came) → heard_in moment ≡ o → heard_answer world.state.head.name id q moment ≡ None
  step None is = none_heard world.state.head.name id q moment is
  step (Some came) is = heard_is world.state.head.name id q moment came is ∙ by_role came (by_refusal came (list_any is_refusal moment.shown) is) (option_map_or (λ other. q == other) (part_of world.state.head.name id came.connection.role) false) refl

pub committed_unheard : (world : World) (sound : IsSound world) (moment : Moment) → moment.world ≡ world → (t : Transaction) → In t world.state.transactions → (is_stoppable t.phase ≡ true → ⊥) → (q : ℕ) → heard_answer world.state.head.name (identifier world.state.head.name t.key) q moment ≡ None
committed_unheard world sound moment met t listed never q = unheard_unless world moment met (identifier world.state.head.name t.key) q (λ came on key role spells b at.
    let c = came.connection in
    let waits = awaited_so c.awaited came.response b at in
    let answers : answer_by (Some waits.0) came.response ≡ Some b = sym (ap (λ o. answer_by o came.response) waits.1) ∙ at in
    let there = seated_there on.seat world.state c on.there in
    let its = role_of world sound t listed c (in_found (has_number c.number) world.state.connections c there) key q role spells in
    never (can_stop world sound c there key q role waits.0 waits.1 (noted_partly waits.0 came.response (answered b) (answer_noted waits.0 came.response b answers)) came.response b answers t its.1))

-- of one that is not here nothing is heard
pub absent_unheard : (world : World) (sound : IsSound world) (moment : Moment) → moment.world ≡ world → (id : List ℕ) → ((t : Transaction) → In t world.state.transactions → id ≡ identifier world.state.head.name t.key → ⊥) → (q : ℕ) → heard_answer world.state.head.name id q moment ≡ None
absent_unheard world sound moment met id never q = unheard_unless world moment met id q (λ came on key role spells b at.
    let c = came.connection in
    let placed = placed_so world sound c (in_found (has_number c.number) world.state.connections c (seated_there on.seat world.state c on.there)) key q role in
    never placed.transaction (in_found (has_key key) world.state.transactions placed.transaction placed.found) (same_text id (identifier world.state.head.name key) spells ∙ ap (identifier world.state.head.name) (key_found key placed.transaction world.state placed.found)))

pub chosen_walks : (w : Work) (a : Attempt) (outcome : Outcome) → ProceedsSo w a → Walks w (chosen a outcome)
chosen_walks w (Attempt.Done v) outcome goes = goes
chosen_walks w (Attempt.Asks change stored refused) Stored goes = goes.0
chosen_walks w (Attempt.Asks change stored refused) Refused goes = goes.1
chosen_walks w (Attempt.Asks change stored refused) NoChange goes = goes.1

-- ONE PART IS NOTED

changed_here : (m : ℕ) (f : Participant → Participant) (ps : List Participant) → slice_get (changed_at m f ps) m ≡ option_map f (slice_get ps m)
changed_here m f [] = refl
changed_here zero f (p ∷ ps) = refl
changed_here (suc m) f (p ∷ ps) = changed_here m f ps

changed_other : (m q : ℕ) (f : Participant → Participant) (ps : List Participant) → (q == m) ≡ false → slice_get (changed_at m f ps) q ≡ slice_get ps q
changed_other m q f [] differ = refl
changed_other zero zero f (p ∷ ps) differ = absurd (both_ways (0 == 0) differ (number_self 0))
changed_other zero (suc q) f (p ∷ ps) differ = refl
changed_other (suc m) zero f (p ∷ ps) differ = refl
changed_other (suc m) (suc q) f (p ∷ ps) differ = changed_other m q f ps (less q m differ) where
  less : (a b : ℕ) → (suc a == suc b) ≡ false → (a == b) ≡ false
  less a b is = grind (arith, nat_tests, is)

pub changed_some : (m q : ℕ) (f : Participant → Participant) (ps : List Participant) → is_some (slice_get ps q) ≡ true → is_some (slice_get (changed_at m f ps) q) ≡ true
changed_some m q f [] is = is
changed_some zero zero f (p ∷ ps) is = refl
changed_some zero (suc q) f (p ∷ ps) is = is
changed_some (suc m) zero f (p ∷ ps) is = refl
changed_some (suc m) (suc q) f (p ∷ ps) is = changed_some m q f ps is

-- what is noted is what was answered, or the answer stays
note_answer : (a : Awaited) (r : Response) (note : Participant → Participant) → note_of a r ≡ Some note → (p : Participant) → (note p).answer ≡ or_else (answer_by (Some a) r) p.answer
note_answer awaited.Push (responses.Pushed id) note so p = ap (λ (f : Participant → Participant). (f p).answer) (sym (same_Some _ note so))
note_answer awaited.Push (responses.AlreadyPushed id) note so p = ap (λ (f : Participant → Participant). (f p).answer) (sym (same_Some _ note so))
note_answer awaited.Push responses.NotPushed note so p = ap (λ (f : Participant → Participant). (f p).answer) (sym (same_Some _ note so))
note_answer awaited.Prepare responses.Prepared note so p = ap (λ (f : Participant → Participant). (f p).answer) (sym (same_Some _ note so))
note_answer awaited.Prepare responses.Aborted note so p = ap (λ (f : Participant → Participant). (f p).answer) (sym (same_Some _ note so))
note_answer awaited.Prepare responses.ReadOnly note so p = ap (λ (f : Participant → Participant). (f p).answer) (sym (same_Some _ note so))
note_answer awaited.Commit responses.Committed note so p = ap (λ (f : Participant → Participant). (f p).answer) (sym (same_Some _ note so))
note_answer awaited.Reconnect responses.NotReconnected note so p = ap (λ (f : Participant → Participant). (f p).answer) (sym (same_Some _ note so))
note_answer a r note so p = absurd (none-some note so)

noted_here : (m : ℕ) (a : Awaited) (r : Response) (note : Participant → Participant) → note_of a r ≡ Some note → (ps : List Participant) → is_some (slice_get ps m) ≡ true → answer_at (changed_at m note ps) m ≡ or_else (answer_by (Some a) r) (answer_at ps m)
noted_here m a r note so ps there = ap (option_and_then (λ (p : Participant). p.answer)) (changed_here m note ps) ∙ step (slice_get ps m) there where
  step : (o : Option Participant) → is_some o ≡ true → option_and_then (λ (p : Participant). p.answer) (option_map note o) ≡ or_else (answer_by (Some a) r) (option_and_then (λ (p : Participant). p.answer) o)
  step None is = absurd (let wrong : false ≡ true = is in cc)
  step (Some p) is = note_answer a r note so p

-- AN EVENT of its own
module _ (world : World) (sound : IsSound world) (event : Event) (outcome : Outcome) (tried : Attempt) (moment : Moment) (met : moment.world ≡ world) (move : moment.move ≡ Move.Step event outcome) where
  abbrev realm : List ℕ
  realm = world.state.head.name

  abbrev id_of : Transaction → List ℕ
  id_of t = identifier realm t.key

  heard_not_refused : (came : Came) → heard_in moment ≡ Some came → (list_any is_refusal moment.shown ≡ false) × CameBy event world.state came
  heard_not_refused came is = step (list_any is_refusal moment.shown) refl is where
    step : (b : Bool) → list_any is_refusal moment.shown ≡ b → cond b None (came_in moment.move moment.world.state) ≡ Some came → (list_any is_refusal moment.shown ≡ false) × CameBy event world.state came
    step true at is = absurd (none-some came is)
    step false at is = (at, came_by event outcome world.state came (sym (λ i. came_in (move i) (met i).state) ∙ is))

  -- where nothing is noted, nothing was heard of one that is not aborted
  pub quiet_heard : Quietly event (entered world.state) tried → ((why : Refusal) → (chosen tried outcome).answer.refusal ≡ Some why → list_any is_refusal moment.shown ≡ true) → (t u : Transaction) → In t world.state.transactions → In u (chosen tried outcome).state.transactions → u.key ≡ t.key → (u.phase ≡ Aborted → ⊥) → (q : ℕ) → heard_answer realm (id_of t) q moment ≡ None
  quiet_heard quietly refusing t u listed u_there same live q = step (heard_in moment) refl where
    by_answer : (came : Came) → heard_in moment ≡ Some came → (key : Key) → came.connection.role ≡ Some (Subordinate key q) → bytes_eq (id_of t) (identifier realm key) ≡ true → (b : Option Ballot) → answer_by came.connection.awaited came.response ≡ b → b ≡ None
    by_answer came is key role spells None at = refl
    by_answer came is key role spells (Some b) at =
        let by = heard_not_refused came is in
        let c = came.connection in
        let waits = awaited_so c.awaited came.response b at in
        let a = waits.0 in
        let answers : answer_by (Some a) by.1.said ≡ Some b = sym (λ i. answer_by (waits.1 i) (by.1.response i)) ∙ at in
        let there = seated_there by.1.seat world.state c by.1.there in
        let listed_c = in_found (has_number c.number) world.state.connections c there in
        let its = role_of world sound t listed c listed_c key q role spells in
        absurd (elim (quietly.wrongly by.1.seat by.1.said by.1.is c by.1.there key q a (answered b) role waits.1 (answer_noted a by.1.said b answers)) [
          | inl wrongly ↦ live (wrong_aborted world sound c there key q role a waits.1 (noted_partly a by.1.said (answered b) (answer_noted a by.1.said b answers)) by.1.said b answers t its.1 u (subst (λ (x : Attempt). In u (chosen x outcome).state.transactions) wrongly u_there) (its.0 ∙ sym same))
          | inr busy ↦ both_ways (list_any is_refusal moment.shown) by.0 (refusing Busy (ap (λ (x : Attempt). (chosen x outcome).answer.refusal) busy))
        ])

    by_role : (came : Came) → heard_in moment ≡ Some came → (b : Bool) → option_map_or (λ other. q == other) (part_of realm (id_of t) came.connection.role) false ≡ b → option_and_then (λ (x : Came). answer_by x.connection.awaited x.response) (cond b (Some came) None) ≡ None
    by_role came is false at = refl
    by_role came is true at = let role = part_role realm (id_of t) q came.connection.role at in by_answer came is role.0 role.1 role.2 (answer_by came.connection.awaited came.response) refl

    step : (o : Option Came) → heard_in moment ≡ o → heard_answer realm (id_of t) q moment ≡ None
    step None is = none_heard realm (id_of t) q moment is
    step (Some came) is = heard_is realm (id_of t) q moment came is ∙ by_role came is (option_map_or (λ other. q == other) (part_of realm (id_of t) came.connection.role) false) refl

  -- what a part has said is what is heard of it
  module _ (says : Says event (entered world.state) tried) (heard : heard_in moment ≡ Some (record { connection = says.connection; response = says.noted.response })) where
    abbrev noted : Noted says.connection says.line (entered world.state) tried
    noted = says.noted

    abbrev c : Connection
    c = says.connection

    listed_c : In c world.state.connections
    listed_c = in_found (has_number c.number) world.state.connections c (seated_there says.seat world.state c says.there)

    placed : Placed world sound noted.key noted.part
    placed = placed_so world sound c listed_c noted.key noted.part noted.on

    abbrev noted_work : Work
    noted_work = alter noted.key (noting noted.part noted.note) (entered world.state)

    -- of another transaction nothing is heard
    other_heard : (t : Transaction) → In t world.state.transactions → is_same noted.key t.key ≡ false → (q : ℕ) → heard_answer realm (id_of t) q moment ≡ None
    other_heard t listed differ q =
        let spelled = (in_bounds world.state sound.bounded).spelled in
        let y = placed.transaction in
        let fine : is_spelled noted.key ≡ true = subst (λ k. is_spelled k ≡ true) (sym (key_found noted.key y world.state placed.found)) (in_all (λ (x : Transaction). is_spelled x.key) world.state.transactions y spelled (in_found (has_key noted.key) world.state.transactions y placed.found)) in
        let apart = ids_differ realm noted.key t.key fine (in_all (λ (x : Transaction). is_spelled x.key) world.state.transactions t spelled listed) differ in
        heard_is realm (id_of t) q moment (record { connection = c; response = noted.response }) heard ∙ ap (λ b. option_and_then (λ (x : Came). answer_by x.connection.awaited x.response) (cond b (Some (record { connection = c; response = noted.response })) None)) (ap (λ role. option_map_or (λ other. q == other) (part_of realm (id_of t) role) false) noted.on ∙ ap (λ b. option_map_or (λ other. q == other) (cond b (Some noted.part) None) false) apart)

    -- of its own, what it answers
    own_heard : (t : Transaction) → noted.key ≡ t.key → (q : ℕ) (b : Bool) → (q == noted.part) ≡ b → heard_answer realm (id_of t) q moment ≡ cond b (answer_by (Some noted.awaited) noted.response) None
    own_heard t same q b at =
        let came : Came = record { connection = c; response = noted.response } in
        heard_is realm (id_of t) q moment came heard
        ∙ (ap (λ test. option_and_then (λ (x : Came). answer_by x.connection.awaited x.response) (cond test (Some came) None)) (ap (λ role. option_map_or (λ other. q == other) (part_of realm (id_of t) role) false) noted.on ∙ (ap (λ x. option_map_or (λ other. q == other) (cond x (Some noted.part) None) false) (subst (λ k. bytes_eq (id_of t) (identifier realm k) ≡ true) (sym same) (bytes_eq-self (id_of t))) ∙ at))
        ∙ by_test b) where
          by_test : (b : Bool) → option_and_then (λ (x : Came). answer_by x.connection.awaited x.response) (cond b (Some (record { connection = c; response = noted.response })) None) ≡ cond b (answer_by (Some noted.awaited) noted.response) None
          by_test true = ap (λ a. answer_by a noted.response) noted.waits
          by_test false = refl

    pub says_answers : (Called : Type 0) (u : Transaction) → In u (chosen tried outcome).state.transactions → ((q : ℕ) (a : Ballot) → answer_at u.parts q ≡ Some a → is_willing a ≡ true) → (was : Was noted_work u) → (t : Transaction) → In t world.state.transactions → u.key ≡ t.key → Answers Called realm (id_of t) moment t.parts u.parts
    says_answers Called u there well was t listed same = elim (cases_Bool (is_same noted.key t.key)) [ inl here ↦ own here | inr differ ↦ other differ ] where
      apart : (v : Work) → v ≡ noted_work → (x y : Transaction) → In x noted_work.state.transactions → In y noted_work.state.transactions → x.key ≡ y.key → x ≡ y
      apart v is = in_apart noted_work.state.transactions (subst (λ ks. are_distinct is_same ks ≡ true) (sym (keys_changed (has_key noted.key) (noting noted.part noted.note) world.state.transactions (λ u. refl))) (sound_whole world sound).keys)

      other : is_same noted.key t.key ≡ false → Answers Called realm (id_of t) moment t.parts u.parts
      other differ = elim (in_changed (has_key noted.key) (noting noted.part noted.note) world.state.transactions was.before was.there) [
        | inl old ↦ answers_stay Called realm (id_of t) moment t.parts u.parts (other_heard t listed differ) (subst (λ (x : Transaction). Lasts x.parts u.parts) (in_apart world.state.transactions (sound_whole world sound).keys was.before t old listed (sym was.key ∙ same)) was.parts) well
        | inr new ↦ absurd (both_ways (is_same noted.key t.key) differ (subst (λ k. is_same noted.key k ≡ true) (sym (ap (λ (x : Transaction). x.key) new.2) ∙ (sym was.key ∙ same)) (found_passes (has_key noted.key) world.state.transactions new.0 new.1)))
      ]

      own : is_same noted.key t.key ≡ true → Answers Called realm (id_of t) moment t.parts u.parts
      own here =
          let key_is = same_key noted.key t.key here in
          let y = placed.transaction in
          let one : y ≡ t = in_apart world.state.transactions (sound_whole world sound).keys y t (in_found (has_key noted.key) world.state.transactions y placed.found) listed (sym (key_found noted.key y world.state placed.found) ∙ key_is) in
          let found : transaction_of noted.key world.state ≡ Some t = placed.found ∙ ap Some one in
          let now = found_altered noted.key world.state (noting noted.part noted.note) (λ x. refl) t found in
          let before_is : was.before ≡ noting noted.part noted.note t = apart noted_work refl was.before (noting noted.part noted.note t) was.there (in_found (has_key noted.key) noted_work.state.transactions (noting noted.part noted.note t) now) (sym was.key ∙ same) in
          let lasts : Lasts (changed_at noted.part noted.note t.parts) u.parts = subst (λ (x : Transaction). Lasts x.parts u.parts) before_is was.parts in
          let there_part : is_some (slice_get t.parts noted.part) ≡ true = subst (λ (x : Transaction). is_some (slice_get x.parts noted.part) ≡ true) one placed.there in
          record {
            parts = λ q least. lasts_well (changed_at noted.part noted.note t.parts) u.parts q lasts (well q) ∙ by_part key_is there_part q (q == noted.part) refl;
            local = λ a is. inl (sym (ap (option_and_then (λ (p : Participant). p.answer)) (changed_other noted.part 0 noted.note t.parts (never_first noted.part placed.least))) ∙ (sym (lasts_well (changed_at noted.part noted.note t.parts) u.parts 0 lasts (well 0)) ∙ is));
            more = λ q is. lasts_some q (changed_at noted.part noted.note t.parts) u.parts lasts (changed_some noted.part q noted.note t.parts is);
          } where
            never_first : (n : ℕ) → nat_le 1 n ≡ true → (0 == n) ≡ false
            never_first n least = grind (arith, nat_tests, least)

            by_part : noted.key ≡ t.key → is_some (slice_get t.parts noted.part) ≡ true → (q : ℕ) (b : Bool) → (q == noted.part) ≡ b → answer_at (changed_at noted.part noted.note t.parts) q ≡ or_else (heard_answer realm (id_of t) q moment) (answer_at t.parts q)
            by_part key_is there q false differ = ap (option_and_then (λ (p : Participant). p.answer)) (changed_other noted.part q noted.note t.parts differ) ∙ sym (ap (λ h. or_else h (answer_at t.parts q)) (own_heard t key_is q false differ))
            by_part key_is there q true here =
                let same = number_is q noted.part here in
                subst (λ n. answer_at (changed_at noted.part noted.note t.parts) n ≡ or_else (answer_by (Some noted.awaited) noted.response) (answer_at t.parts n)) (sym same) (noted_here noted.part noted.awaited noted.response noted.note noted.so t.parts there) ∙ sym (ap (λ h. or_else h (answer_at t.parts q)) (own_heard t key_is q true here))
