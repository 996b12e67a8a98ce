-- What a connection of ours was opened for, once it is identified, leaves a realm whole.
use Rattle.std.proofs.Common.{◌≡◌, Bool, true, false, ℕ, ◌+◌, suc, zero, List, [], ◌∷◌, Option, Some, None, cond, refl, ap, subst, sym, arith, ◌∙◌}
use Rattle.std.specs.Prelude.{◌&&◌, ◌||◌, drop, find, length, nat_le, nat_lt, not, slice_get}
use Rattle.std.specs.List.{list_any}
use Rattle.std.proofs.lemmas.Bool.{and_from, and_parts, not-true, or_left}
use Rattle.std.proofs.lemmas.Bool.Decides.{nat_tests}
use Rattle.std.proofs.lemmas.Option.{none-some, same_Some}
use Rattle.tip_rows.specs.Keys.{Key}
use Rattle.tip_conn.specs.Table.{next_of}
use Rattle.tip_conn.specs.declared.state.Side.{Side}
use Rattle.tip_conn.specs.declared.state.Side.TheVariants.{Primary, Secondary}
use Rattle.tip_conn.specs.declared.state.State.{State as ConnectionState}
use Rattle.tip_conn.specs.declared.state.State.TheVariants as state
use Rattle.tip_line.specs.declared.command.CommandName.TheVariants as command
use Rattle.tip_line.specs.declared.response.ResponseName.TheVariants as response
use Rattle.tip_txn.specs.Parts.{is_text, is_yes}
use Rattle.tip_txn.specs.declared.answer.Ballot.{Ballot}
use Rattle.tip_txn.specs.declared.answer.Ballot.TheVariants.{Yes}
use Rattle.tip_txn.specs.declared.answer.Phase.TheVariants.{Committed}
use Rattle.tip_txn.specs.declared.part.Participant.{Participant}
use Rattle.tip_machine.specs.Changes.{change, send}
use Rattle.tip_machine.specs.Connections.{advanced, advanced_to, awaiting, first_side, has_number, is_part_of, is_superior_of, reaches, taking}
use Rattle.tip_machine.specs.Failing.{closed, wrong}
use Rattle.tip_machine.specs.Invariants.Links.{is_connected, is_early, is_on_none, is_same_side, link, link_on}
use Rattle.tip_machine.specs.Invariants.Links.Link.{Gone, Awaits}
use Rattle.tip_machine.specs.Invariants.Phases.{has_come_to, has_pair, is_part, is_part_in, is_party, is_superior, is_transaction}
use Rattle.tip_machine.specs.Responses.{ask_superior, greeted, is_in_doubt, is_owed_commit, pursue, query_for, reach, reach_by, reconnect_for}
use Rattle.tip_machine.specs.Transactions.{decision_of, has_id, has_key, is_decided_at, is_committed, subordinate_of, willing_from}
use Rattle.tip_machine.specs.States.{State, Work, connection_of, identified_by, transaction_of}
use Rattle.tip_machine.specs.Types.{Connection, Transaction}
use Rattle.tip_machine.specs.declared.connection.Awaited.TheVariants as awaited
use Rattle.tip_machine.specs.declared.connection.Purpose.{Purpose}
use Rattle.tip_machine.specs.declared.connection.Purpose.TheVariants as purpose
use Rattle.tip_machine.specs.declared.connection.Role.TheVariants.{Subordinate}
use Rattle.tip_machine.specs.declared.transaction.Origin.{Origin}
use Rattle.tip_machine.specs.declared.transaction.Origin.TheVariants as origin
use Rattle.tip_machine.proofs.RuleWalks.{advanced-number}
use Rattle.tip_machine.proofs.Walks.{either}
use Rattle.tip_machine.proofs.Rising.{changed_twice}
use Rattle.tip_agreement.proofs.Alone.{alone_set, identify_next}
use Rattle.tip_agreement.proofs.Apart.{all_found}
use Rattle.tip_agreement.proofs.Around.{Whole, around_of, asks_as, is_placed, stands, whole_of}
use Rattle.tip_agreement.proofs.Asking.{closed_anyway}
use Rattle.tip_agreement.proofs.Closing.{changed_none, closed_whole, have_noted, in_table, other_place, stands_there, wrong_whole}
use Rattle.tip_agreement.proofs.Found.{any_apart, none_there}
use Rattle.tip_agreement.proofs.Joining.{above_beside, around_part, joined, others_beside, part_joined}
use Rattle.tip_agreement.proofs.Loose.{greeting, loose, on_none}
use Rattle.tip_agreement.proofs.Owned.{InPhase, from_as, have_parts, in_phase, own_still}
use Rattle.tip_agreement.proofs.Reacting.{idle}
use Rattle.tip_agreement.proofs.Resuming.{only_committed}
use Rattle.tip_agreement.proofs.Sound.{found_by}

-- A subordinate that is numbered is a part that said yes

pub record IsWilling (parts : List Participant) (place : ℕ) (p : Participant) : Type 0 where
  pub beyond : ℕ
  pub at : place ≡ suc beyond
  pub found : slice_get parts (suc beyond) ≡ Some p
  pub agreed : is_yes p.answer ≡ true

-- counted from there
record IsWillingFrom (start : ℕ) (parts : List Participant) (place : ℕ) (p : Participant) : Type 0 where
  beyond : ℕ
  at : place ≡ start + beyond
  found : slice_get parts beyond ≡ Some p
  agreed : is_yes p.answer ≡ true

willing_at : (start number : ℕ) (parts : List Participant) (s : ℕ × Participant) → slice_get (willing_from start parts) number ≡ Some s → IsWillingFrom start parts s.0 s.1
willing_at start number [] s is = absurd (none-some s is)
willing_at start number (p ∷ parts) s is = step (is_yes p.answer) refl is (λ n later. further (willing_at (start + 1) n parts s later)) where
  further : IsWillingFrom (start + 1) parts s.0 s.1 → IsWillingFrom start (p ∷ parts) s.0 s.1
  further w = let at = w.at in record { beyond = suc w.beyond; at = moved s.0 w.beyond at; found = w.found; agreed = w.agreed } where
    moved : (place beyond : ℕ) → place ≡ start + 1 + beyond → place ≡ start + suc beyond
    moved place beyond at = omega (arith, at)

  first : (s : ℕ × Participant) → (start, p) ≡ s → is_yes p.answer ≡ true → IsWillingFrom start (p ∷ parts) s.0 s.1
  first s same agreed = subst (λ (x : ℕ × Participant). IsWillingFrom start (p ∷ parts) x.0 x.1) same (record { beyond = 0; at = none_more start; found = refl; agreed = agreed }) where
    none_more : (n : ℕ) → n ≡ n + 0
    none_more n = omega arith

  number_of : (n : ℕ) → slice_get ((start, p) ∷ willing_from (start + 1) parts) n ≡ Some s → is_yes p.answer ≡ true → ((m : ℕ) → slice_get (willing_from (start + 1) parts) m ≡ Some s → IsWillingFrom start (p ∷ parts) s.0 s.1) → IsWillingFrom start (p ∷ parts) s.0 s.1
  number_of zero is agreed later = first s (same_Some (start, p) s is) agreed
  number_of (suc n) is agreed later = later n is

  step : (b : Bool) → is_yes p.answer ≡ b → slice_get (cond b ((start, p) ∷ willing_from (start + 1) parts) (willing_from (start + 1) parts)) number ≡ Some s → ((m : ℕ) → slice_get (willing_from (start + 1) parts) m ≡ Some s → IsWillingFrom start (p ∷ parts) s.0 s.1) → IsWillingFrom start (p ∷ parts) s.0 s.1
  step true agreed is later = number_of number is agreed later
  step false other is later = later number is

is_willing : (parts : List Participant) (number : ℕ) (s : ℕ × Participant) → slice_get (willing_from 1 (drop 1 parts)) number ≡ Some s → IsWilling parts s.0 s.1
is_willing [] number s is = absurd (none-some s is)
is_willing (local ∷ parts) number s is = let w = willing_at 1 number parts s is in record { beyond = w.beyond; at = next s.0 w.beyond w.at; found = w.found; agreed = w.agreed } where
  next : (place beyond : ℕ) → place ≡ 1 + beyond → place ≡ suc beyond
  next place beyond at = omega (arith, at)

pub willing_there : (t : Transaction) (place : ℕ) (s : ℕ × Participant) → subordinate_of place t ≡ Some s → IsWilling t.parts s.0 s.1
willing_there t zero s is = absurd (none-some s is)
willing_there t (suc place) s is = is_willing t.parts place s is

-- a part that is there is below their number
below_all : (parts : List Participant) (n : ℕ) (p : Participant) → slice_get parts n ≡ Some p → nat_lt n (length parts) ≡ true
below_all [] n p is = absurd (none-some p is)
below_all (q ∷ parts) zero p is = least (length parts) where
  least : (n : ℕ) → nat_lt 0 (suc n) ≡ true
  least n = grind (arith, nat_tests)
below_all (q ∷ parts) (suc n) p is = more n (length parts) (below_all parts n p is) where
  more : (m n : ℕ) → nat_lt m n ≡ true → nat_lt (suc m) (suc n) ≡ true
  more m n less = grind (arith, nat_tests, less)

greeted_at : (purpose : Purpose) (at : ConnectionState) → is_on_none (Awaits at (Some (awaited.Identify purpose))) ≡ true → at ≡ state.Initial
greeted_at purpose state.Initial is = refl
greeted_at purpose at is = absurd (cc)

module _ (wanted : Purpose) (c : Connection) (w : Work) (whole : Whole w.state) (there : connection_of c.number w.state ≡ Some c) (side : c.side ≡ Primary) (waits : c.awaited ≡ Some (awaited.Identify wanted)) where
  awaits_now : link_on c.side c ≡ Awaits c.state (Some (awaited.Identify wanted))
  awaits_now = ap (λ s. link_on s c) side ∙ ap (Awaits c.state) waits

  alone : c.role ≡ None
  alone = loose (Awaits c.state (Some (awaited.Identify wanted))) (greeting wanted c.state) c w whole there awaits_now

  initial : c.state ≡ state.Initial
  initial = greeted_at wanted c.state (on_none (Awaits c.state (Some (awaited.Identify wanted))) (greeting wanted c.state) c w whole there awaits_now)

  -- it is idle on its original sides, and we are its primary still
  primary_first : first_side c.dialled ≡ Primary
  primary_first = same c.side (first_side c.dialled) side (subst (λ s. not (is_early s) || is_same_side c.side (first_side c.dialled) ≡ true) initial (stands_there c w whole there).side) where
    same : (this that : Side) → this ≡ Primary → is_same_side this that ≡ true → that ≡ Primary
    same Primary Primary is so = refl
    same Primary Secondary is so = absurd (cc)
    same Secondary that is so = absurd (cc)

  greeted_now : Connection
  greeted_now = record c { state = state.Idle; side = Primary; owed = None; awaited = None; role = None }

  becomes : advanced command.Identify response.Identified c ≡ greeted_now
  unfolding greeted_now
  becomes = ap (λ place. advanced_to place c) (ap (λ s. next_of command.Identify s response.Identified) initial ∙ identify_next) ∙ ap (λ s. record c { state = state.Idle; side = s; owed = None; awaited = None; role = None }) primary_first

  abbrev after : Work
  after = change c.number (advanced command.Identify response.Identified) w

  plain : Whole after.state
  unfolding greeted_now
  plain = alone_set (advanced command.Identify response.Identified) c w there alone (ap (λ (d : Connection). d.role) becomes) (ap (λ place. stands w.state (advanced_to place c)) (ap (λ s. next_of command.Identify s response.Identified) initial ∙ identify_next) ∙ idle w.state c) whole

  hangs_up : Whole (closed c after).state
  hangs_up = subst (λ v. Whole v.state) (sym (closed_anyway c (advanced command.Identify response.Identified) w (advanced-number command.Identify response.Identified))) (closed_whole c w whole there)

  -- QUERY for a transaction in doubt
  asks : (from : Origin) (key : Key) → Whole (ask_superior from key c after).state
  unfolding send greeted_now
  asks origin.Root key = hangs_up
  asks (origin.Subordinate address superior) key =
      subst (λ cs. Whole (record w.state { connections = cs })) (sym (changed_twice c.number (awaiting (awaited.Query key)) (advanced command.Identify response.Identified) w.state.connections (advanced-number command.Identify response.Identified)))
      (alone_set (λ d. awaiting (awaited.Query key) (advanced command.Identify response.Identified d)) c w there alone (ap (λ (d : Connection). d.role) becomes) (subst (λ (d : Connection). stands w.state (awaiting (awaited.Query key) d) ≡ true) (sym becomes) stands_asking) whole) where
        stands_asking : stands w.state (awaiting (awaited.Query key) greeted_now) ≡ true
        stands_asking = rw primary_first refl

  queries : (found : Option Transaction) → Whole (query_for found c after).state
  queries None = hangs_up
  queries (Some t) = either (λ v. Whole v.state) (is_in_doubt after.state t && is_decided_at c.peer t.origin) (ask_superior t.origin t.key c after) (closed c after) (asks t.origin t.key) hangs_up

  -- RECONNECT to a subordinate that is owed a COMMIT
  module _ (t : Transaction) (found : transaction_of t.key w.state ≡ Some t) (committed : t.phase ≡ Committed) (m : ℕ) (p : Participant) (part : slice_get t.parts (suc m) ≡ Some p) (agreed : is_yes p.answer ≡ true) (untold : not p.acknowledged ≡ true) (free : list_any (is_part_of t.key (suc m)) after.state.connections ≡ false) where
    known : InPhase t.key t w.state
    known = in_phase t.key t w.state found (all_found (is_transaction w.state) (has_key t.key) w.state.transactions t whole.transactions found)

    reached : Connection → Connection
    reached d = taking (Subordinate t.key (suc m)) (awaiting awaited.Reconnect (advanced command.Identify response.Identified d))

    asked_now : Connection
    asked_now = record greeted_now { awaited = Some awaited.Reconnect; role = Some (Subordinate t.key (suc m)) }

    becomes_so : reached c ≡ asked_now
    unfolding reached asked_now
    becomes_so = ap (λ d. taking (Subordinate t.key (suc m)) (awaiting awaited.Reconnect d)) becomes

    connected_so : is_connected asked_now ≡ true
    unfolding asked_now greeted_now
    connected_so = rw primary_first refl

    link_so : link (Some asked_now) ≡ Awaits state.Idle (Some awaited.Reconnect)
    unfolding asked_now greeted_now
    link_so = refl

    asks_so : asks_as asked_now.role asked_now.side ≡ true
    unfolding asked_now greeted_now
    asks_so = refl

    placed_so : is_placed w.state asked_now.role ≡ true
    unfolding asked_now greeted_now
    placed_so = and_from _ _ (least m) (rw found (below_all t.parts (suc m) p part)) where
      least : (m : ℕ) → nat_le 1 (suc m) ≡ true
      least m = grind (arith, nat_tests)

    takes_so : (reached c).role ≡ Some (Subordinate t.key (suc m))
    unfolding reached
    takes_so = refl

    stands_so : stands w.state (reached c) ≡ true
    stands_so = subst (λ d. stands w.state d ≡ true) (sym becomes_so) (and_from _ _ (and_from _ _ connected_so asks_so) placed_so)

    free_before : list_any (is_part_of t.key (suc m)) w.state.connections ≡ false
    unfolding greeted_now
    free_before = sym (any_apart (is_part_of t.key (suc m)) (has_number c.number) (advanced command.Identify response.Identified) w.state.connections c there (ap (reaches t.key (suc m)) alone) (ap (λ (d : Connection). is_part_of t.key (suc m) d) becomes)) ∙ free

    abbrev reached_in : State
    reached_in = joined t.key w.state reached c there alone stands_so (around_of t.key w.state whole)

    part_now : link (find (is_part_of t.key (suc m)) reached_in.connections) ≡ Awaits state.Idle (Some awaited.Reconnect)
    part_now = ap link (part_joined t.key w.state reached c there alone stands_so (around_of t.key w.state whole) (suc m) takes_so free_before) ∙ ap (λ d. link (Some d)) becomes_so ∙ link_so

    waits_so : (q : Participant) → slice_get t.parts (suc m) ≡ Some q → is_part_in t.phase (link (find (is_part_of t.key (suc m)) w.state.connections)) q ≡ true → is_part_in Committed (link (find (is_part_of t.key (suc m)) reached_in.connections)) q ≡ true
    waits_so q at fits = subst (λ l. is_part_in Committed l q ≡ true) (sym part_now) (subst (λ r. is_part_in Committed (Awaits state.Idle (Some awaited.Reconnect)) r ≡ true) (same_Some p q (sym part ∙ at)) (waiting (subst (λ r. is_part_in Committed Gone r ≡ true) (sym (same_Some p q (sym part ∙ at))) (subst (λ l. is_part_in Committed l q ≡ true) (ap link (none_there (is_part_of t.key (suc m)) w.state.connections free_before)) (subst (λ f. is_part_in f (link (find (is_part_of t.key (suc m)) w.state.connections)) q ≡ true) committed fits))))) where
      said_yes : (answer : Option Ballot) → is_yes answer ≡ true → is_part Committed (Awaits state.Idle (Some awaited.Reconnect)) answer ≡ true
      said_yes (Some Yes) is = refl
      said_yes answer is = absurd (cc)

      named_so : (b d : Bool) → b ≡ true → not b || d ≡ true → d ≡ true
      named_so true d is or = or
      named_so false d is or = absurd (cc)

      waiting : is_part_in Committed Gone p ≡ true → is_part_in Committed (Awaits state.Idle (Some awaited.Reconnect)) p ≡ true
      waiting is = and_from _ _ (and_from _ _ (said_yes p.answer agreed) (or_left _ _ untold)) (named_so (is_yes p.answer) (has_pair p) agreed (in_table Committed Gone p is).named)

    others_so : (place : ℕ) → ¬ (place ≡ suc m) → find (is_part_of t.key place) reached_in.connections ≡ find (is_part_of t.key place) w.state.connections
    others_so place differs = others_beside t.key w.state reached c there alone stands_so (around_of t.key w.state whole) (suc m) takes_so free_before place (other_place place m differs)

    above_so : find (is_superior_of t.key) reached_in.connections ≡ find (is_superior_of t.key) w.state.connections
    above_so = above_beside t.key w.state reached c there alone stands_so (around_of t.key w.state whole) (suc m) takes_so free_before

    is_so : is_transaction reached_in t ≡ true
    is_so = from_as Committed t.key t reached_in committed (record {
      found = found;
      above = rw above_so (subst (λ f. is_superior f t.origin (link (find (is_superior_of t.key) w.state.connections)) ≡ true) committed known.owned.above);
      parts = subst (λ ps. have_parts (is_part_in Committed) (is_party Committed) t.place ps t.key reached_in.connections ≡ true) (changed_none (suc m) t.parts) (have_noted t.key w.state.connections reached_in.connections (suc m) (is_part_in t.phase) (is_part_in Committed) others_so (λ l q fits. subst (λ f. is_part_in f l q ≡ true) committed fits) (λ q. q) m (is_party t.phase) (is_party Committed) t.place t.parts refl (λ answer fits. subst (λ f. is_party f t.place answer ≡ true) committed fits) waits_so known.owned.parts);
      own = own_still w.state reached_in t t.place refl refl ∙ known.owned.own;
    }) refl (subst (λ f. has_come_to f (decision_of t) ≡ true) committed known.come) refl

    reached_whole : (id : List ℕ) → Whole (reach_by (Some id) (suc m) t.key c after).state
    unfolding send reached
    reached_whole id =
        let first = changed_twice c.number (taking (Subordinate t.key (suc m))) (awaiting awaited.Reconnect) after.state.connections (λ d. refl) in
        let second = changed_twice c.number (λ d. taking (Subordinate t.key (suc m)) (awaiting awaited.Reconnect d)) (advanced command.Identify response.Identified) w.state.connections (advanced-number command.Identify response.Identified) in
        subst (λ cs. Whole (record w.state { connections = cs })) (sym (first ∙ second)) (whole_of t.key reached_in t found is_so (around_part t.key w.state reached c there alone stands_so (around_of t.key w.state whole) (suc m) takes_so free_before))

    by_id : (id : Option (List ℕ)) → Whole (reach_by id (suc m) t.key c after).state
    by_id None = hangs_up
    by_id (Some id) = reached_whole id

  reaches_part : (t : Transaction) → transaction_of t.key w.state ≡ Some t → t.phase ≡ Committed → (s : Option (ℕ × Participant)) → ((x : ℕ × Participant) → s ≡ Some x → IsWilling t.parts x.0 x.1) → Whole (reach s t.key c after).state
  reaches_part t found committed None willing = hangs_up
  reaches_part t found committed (Some s) willing = step (is_owed_commit c.peer t.key after.state s) refl where
    owed_so : (peer : Option (List ℕ)) → is_owed_commit peer t.key after.state s ≡ true → (not s.1.acknowledged ≡ true) × (list_any (is_part_of t.key s.0) after.state.connections ≡ false)
    owed_so None owed = absurd (cc)
    owed_so (Some peer) owed =
        let a = and_parts (not s.1.acknowledged && is_text peer s.1.address) (not (list_any (is_part_of t.key s.0) after.state.connections)) owed in
        ((and_parts (not s.1.acknowledged) (is_text peer s.1.address) a.0).0, not-true _ a.1)

    step : (b : Bool) → is_owed_commit c.peer t.key after.state s ≡ b → Whole (cond b (reach_by s.1.id s.0 t.key c after) (closed c after)).state
    step true owed =
        let w = willing s refl in
        let may = owed_so c.peer owed in
        subst (λ n. Whole (reach_by s.1.id n t.key c after).state) (sym w.at) (by_id t found committed w.beyond s.1 w.found w.agreed may.0 (subst (λ n. list_any (is_part_of t.key n) after.state.connections ≡ false) w.at may.1) s.1.id)
    step false not = hangs_up

  reconnects : (found : Option Transaction) (place : ℕ) → ((t : Transaction) → found ≡ Some t → transaction_of t.key w.state ≡ Some t) → Whole (reconnect_for found place c after).state
  reconnects None place there = hangs_up
  reconnects (Some t) place there = step (is_committed t.phase) refl where
    step : (b : Bool) → is_committed t.phase ≡ b → Whole (cond b (reach (subordinate_of place t) t.key c after) (closed c after)).state
    step true is = reaches_part t (there t refl) (only_committed t.phase is) (subordinate_of place t) (λ s is. willing_there t place s is)
    step false not = hangs_up

  pursued : (purpose : Purpose) → Whole (pursue purpose c after).state
  pursued purpose.Plain = plain
  pursued (purpose.Query id) = queries (identified_by id after.state)
  pursued (purpose.Reconnect id place) = reconnects (identified_by id after.state) place (λ t is. found_by (has_id w.state.head.name id) w.state t whole is)

  -- WHAT IS ANSWERED to our IDENTIFY
  pub greeted_whole : (version : ℕ) → Whole (greeted version wanted c w).state
  greeted_whole version = either (λ v. Whole v.state) (nat_le 3 version) (pursue wanted c after) (wrong c w) (pursued wanted) (wrong_whole c w whole there)
