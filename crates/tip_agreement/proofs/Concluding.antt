-- How transactions go on by what follows from an answer, a question or a failure.
use Rattle.std.proofs.Common.{◌≡◌, Bool, true, false, ℕ, ◌+◌, zero, suc, List, [], ◌∷◌, ◌++◌, Option, Some, None, cond, refl, ap, subst, sym, ◌∙◌, ◌⊎◌, inl, inr}
use Rattle.std.specs.Prelude.{is_some}
use Rattle.std.specs.List.{flat_map}
use Rattle.std.proofs.lemmas.Bool.{and_parts, both_ways}
use Rattle.tip_branch.specs.Notes.{PartyNotes}
use Rattle.tip_branch.specs.declared.member.Errand.TheVariants as errand
use Rattle.tip_line.specs.declared.command.CommandName.{CommandName}
use Rattle.tip_line.specs.declared.command.CommandName.TheVariants as command
use Rattle.tip_rows.specs.Keys.{Key}
use Rattle.tip_rows.specs.declared.row.Row.{Row}
use Rattle.tip_rows.specs.declared.row.Row.TheVariants as row
use Rattle.tip_txn.specs.Parts.{answer_at, answered, changed_at, is_yes}
use Rattle.tip_txn.specs.declared.answer.Ballot.{Ballot}
use Rattle.tip_txn.specs.declared.answer.Ballot.TheVariants.{Lost}
use Rattle.tip_txn.specs.declared.answer.Decision.{Decision}
use Rattle.tip_txn.specs.declared.answer.Decision.TheVariants as decisions
use Rattle.tip_txn.specs.declared.answer.Phase.{Phase}
use Rattle.tip_txn.specs.declared.answer.Phase.TheVariants.{Active, Asking, Prepared, Committed, Aborted}
use Rattle.tip_txn.specs.declared.part.Participant.{Participant}
use Rattle.tip_machine.specs.Changes.{alter, attempt_on, on}
use Rattle.tip_machine.specs.Failing.{lost_unanswered, missed, part_lost, superior_lost}
use Rattle.tip_machine.specs.Invariants.Parties.{are_unasked, is_its_own}
use Rattle.tip_machine.specs.Invariants.Phases.{is_part_in, is_party, is_transaction}
use Rattle.tip_machine.specs.Invariants.Stored.{are_same_pairs, is_stored_as}
use Rattle.tip_machine.specs.Proceeding.{abort, agree, ask, asked_for_votes, conclude, enter, finish, give_out, owed_to_superior, proceed, proceed_in, wait}
use Rattle.tip_machine.specs.Reactions.{asks, commits, react}
use Rattle.tip_machine.specs.States.{State, Work, transaction_of}
use Rattle.tip_machine.specs.Transactions.{decision_of, entering, has_key, is_undecided, noting, pair_of, pairs, standing_at, willing_from}
use Rattle.tip_machine.specs.Types.{PartyPlace, Transaction}
use Rattle.tip_machine.specs.declared.connection.Role.{Role}
use Rattle.tip_machine.specs.declared.connection.Role.TheVariants.{Superior, Subordinate}
use Rattle.tip_machine.specs.declared.event.Change.{Change}
use Rattle.tip_machine.specs.declared.transaction.Origin.{Origin}
use Rattle.tip_machine.specs.declared.transaction.Origin.TheVariants as origin
use Rattle.tip_machine.specs.declared.transaction.PartyPlace.TheVariants.{Here, Out, Spent}
use Rattle.tip_agreement.proofs.Apart.{all_found}
use Rattle.tip_agreement.proofs.Around.{Whole, found_altered}
use Rattle.tip_agreement.proofs.Closing.{is_stoppable}
use Rattle.tip_agreement.proofs.Following.{AllOnward, AreApart, OwnsHere, commit_onward, commits_again, finish_onward, leave_onward, none_stored, onward_after, owns_here, promise_onward, reacts_silently, stop_onward, turned_to}
use Rattle.tip_agreement.proofs.Onward.{Onward, alters, beside, gives, of_none, then, speaks_not}
use Rattle.tip_agreement.proofs.Owned.{have_parts, in_phase, key_found, parts_from}
use Rattle.tip_agreement.proofs.Speaking.{active_asks, agreed_commits, agreed_promises, asks_silent}
use Rattle.tip_agreement.proofs.Proceeding.{agreed_party, agreed_within, left_party, local_waits, may_ask_party, waits_at}
use Rattle.tip_agreement.proofs.Responding.{asking_party, is_going}
use Rattle.tip_agreement.proofs.Aborting.{own_as}

-- WHAT FOLLOWS

-- its own party, and an answer of the local part that fits where it is
pub record Ready (t : Transaction) (s : State) : Type 0 where
  pub own : is_its_own s t t.place ≡ true
  pub waits : local_waits t.phase t.place t.parts ≡ true

waits_in : (phase : Phase) (place : PartyPlace) (answer : Option Ballot) → is_party phase place answer ≡ true → waits_at phase place answer ≡ true
waits_in Active place answer is = is
waits_in Asking place answer is = asking_party place answer is
waits_in Prepared place answer is = refl
waits_in Committed place answer is = refl
waits_in Aborted place answer is = refl

pub ready_of : (s : State) (t : Transaction) → Whole s → transaction_of t.key s ≡ Some t → Ready t s
ready_of s t whole found =
    let known = in_phase t.key t s found (all_found (is_transaction s) (has_key t.key) s.transactions t whole.transactions found) in
    record { own = known.owned.own; waits = local t.parts known.owned.parts } where
      local : (parts : List Participant) → have_parts (is_part_in t.phase) (is_party t.phase) t.place parts t.key s.connections ≡ true → local_waits t.phase t.place parts ≡ true
      local [] all = absurd (cc)
      local (p ∷ parts) all = waits_in t.phase t.place p.answer (and_parts (is_party t.phase t.place p.answer) (parts_from (is_part_in t.phase) 1 parts t.key s.connections) all).0

module _ (t : Transaction) (w : Work) (found : transaction_of t.key w.state ≡ Some t) (apart : AreApart w) (ready : Ready t w.state) where
  own : OwnsHere w.state t
  own = owns_here w.state t ready.own

  stays : Onward None t.key w w
  stays = beside t.key w w refl refl refl refl (speaks_not None t.key w)

  module _ (which : (t.phase ≡ Active) ⊎ (t.phase ≡ Asking)) where
    can_stop : is_stoppable t.phase ≡ true
    can_stop = elim which [ inl is ↦ ap is_stoppable is | inr is ↦ ap is_stoppable is ]

    live : is_undecided t.phase ≡ true
    live = elim which [ inl is ↦ ap is_undecided is | inr is ↦ ap is_undecided is ]

    stops : Onward None t.key w (abort t.key w)
    stops = stop_onward t.key w t found apart own can_stop

    agreed_on : decision_of t ≡ decisions.Commit → (owed : Option CommandName) (from : Origin) → t.origin ≡ from → AllOnward t.key w (agree owed from t w)
    agreed_on is (Some command.Prepare) (origin.Subordinate (Some address) superior) from = (promise_onward t.key w t found apart own address superior from live (agreed_promises t which (agreed_within t.phase t.place t.parts which ready.waits is)), stops)
    agreed_on is (Some command.Commit) from same = (commit_onward t.key w t found apart own (agreed_party t.phase t.place t.parts which ready.waits is) (agreed_commits t which (agreed_within t.phase t.place t.parts which ready.waits is)), stops)
    agreed_on is owed from same = stays

    waited : (phase : Phase) → Onward None t.key w (wait phase t.key w)
    waited Asking = reacts_silently t.key asks w asks_silent
    waited Active = stays
    waited Prepared = stays
    waited Committed = stays
    waited Aborted = stays

    concluded : (d : Decision) → decision_of t ≡ d → AllOnward t.key w (conclude d t w)
    concluded decisions.Wait is = waited t.phase
    concluded decisions.Commit is = agreed_on is (owed_to_superior t.key w.state) t.origin refl
    concluded decisions.Abort is = stops
    concluded decisions.ReadOnly is = leave_onward t.key w t found apart own can_stop (left_party t.phase t.place t.parts which ready.waits is)

  finished : t.phase ≡ Committed → AllOnward t.key w (finish t (react commits t.key w))
  unfolding react
  finished committed = onward_after t.key w (react commits t.key w) (finish t (react commits t.key w)) (commits_again t.key w t found committed) (finish_onward t.key (react commits t.key w) t found apart own refl)

  proceeds_in : (phase : Phase) → t.phase ≡ phase → AllOnward t.key w (proceed_in phase t w)
  proceeds_in Active is = concluded (inl is) (decision_of t) refl
  proceeds_in Asking is = concluded (inr is) (decision_of t) refl
  proceeds_in Prepared is = stays
  proceeds_in Committed is = finished is
  proceeds_in Aborted is = stop_onward t.key w t found apart own (ap is_stoppable is)

  pub proceed_onward : AllOnward t.key w (proceed t.key w)
  unfolding proceed
  proceed_onward = subst (λ o. AllOnward t.key w (attempt_on o (λ (u : Transaction). proceed_in u.phase u) w)) (sym found) (proceeds_in t.phase refl)

-- ALL ARE ASKED

module _ (t : Transaction) (w : Work) (found : transaction_of t.key w.state ≡ Some t) (apart : AreApart w) (ready : Ready t w.state) (active : t.phase ≡ Active) where
  asking : Work
  asking = enter Asking t.key w

  enters_asking : Onward None t.key w asking
  unfolding asking
  enters_asking = alters t.key None (of_none t.key) w (entering Asking) t (λ t. refl) found (turned_to (λ r. r) t (entering Asking t) refl refl (λ is. ap is_undecided active) (λ r fits. none_stored t.phase (ap is_stoppable active) t r fits)) (active_asks t active)

  found_asking : transaction_of t.key asking.state ≡ Some (entering Asking t)
  unfolding asking
  found_asking = found_altered t.key w.state (entering Asking) (λ t. refl) t found

  unasked : (place : PartyPlace) (parts : List Participant) → local_waits Active place parts ≡ true → (party : PartyNotes) → place ≡ Here party → (are_unasked party ≡ true) × (local_waits Asking (Out errand.Vote) parts ≡ true)
  unasked place [] waits party at = absurd (cc)
  unasked place (p ∷ parts) waits party at = step p.answer (subst (λ q. is_party Active q p.answer ≡ true) at waits) where
    step : (answer : Option Ballot) → is_party Active (Here party) answer ≡ true → (are_unasked party ≡ true) × (may_ask_party (Out errand.Vote) answer ≡ true)
    step None is = (is, refl)
    step (Some answer) is = absurd (cc)

  -- an active transaction's party is here
  never_away : (place : PartyPlace) (parts : List Participant) → ((answer : Option Ballot) → is_party Active place answer ≡ false) → local_waits Active place parts ≡ true → ⊥
  never_away place [] fails waits = cc
  never_away place (p ∷ parts) fails waits = both_ways (is_party Active place p.answer) (fails p.answer) waits

  waits_active : local_waits Active t.place t.parts ≡ true
  waits_active = subst (λ f. local_waits f t.place t.parts ≡ true) active ready.waits

  asked_at : (place : PartyPlace) → t.place ≡ place → AllOnward t.key w (proceed t.key (asked_for_votes place t.key asking))
  unfolding asking
  asked_at (Here party) at =
      let may = unasked t.place t.parts waits_active party at in
      let gone = gives t.key asking (entering Asking t) party found_asking at errand.Vote may.0 (owns_here w.state t ready.own party at) refl in
      let first = then t.key None w asking (give_out errand.Vote party t.key asking) enters_asking gone in
      onward_after t.key w (give_out errand.Vote party t.key asking) (proceed t.key (give_out errand.Vote party t.key asking)) first
      (proceed_onward (standing_at (Out errand.Vote) (entering Asking t)) (give_out errand.Vote party t.key asking) (found_altered t.key asking.state (standing_at (Out errand.Vote)) (λ t. refl) (entering Asking t) found_asking) (first.keys apart) (record { own = refl; waits = may.1 }))
  asked_at (Out e) at = absurd (never_away t.place t.parts (λ answer. subst (λ p. is_party Active p answer ≡ false) (sym at) refl) waits_active)
  asked_at Spent at = absurd (never_away t.place t.parts (λ answer. subst (λ p. is_party Active p answer ≡ false) (sym at) refl) waits_active)

  pub ask_onward : AllOnward t.key w (ask t w)
  unfolding ask asking
  ask_onward = asked_at t.place refl

-- SOMETHING IS NOTED of a part

pairs_noted : (start m : ℕ) (note : Participant → Participant) (parts : List Participant) → ((p : Participant) → ((note p).answer ≡ p.answer) × ((note p).address ≡ p.address) × ((note p).id ≡ p.id)) → flat_map (λ (s : ℕ × Participant). pair_of s.1.address s.1.id) (willing_from start (changed_at m note parts)) ≡ flat_map (λ (s : ℕ × Participant). pair_of s.1.address s.1.id) (willing_from start parts)
pairs_noted start m note [] same = refl
pairs_noted start zero note (p ∷ parts) same = step (is_yes p.answer) refl where
  rest : List (List ℕ × List ℕ)
  rest = flat_map (λ (s : ℕ × Participant). pair_of s.1.address s.1.id) (willing_from (start + 1) parts)

  step : (b : Bool) → is_yes p.answer ≡ b → flat_map (λ (s : ℕ × Participant). pair_of s.1.address s.1.id) (cond (is_yes (note p).answer) ((start, note p) ∷ willing_from (start + 1) parts) (willing_from (start + 1) parts)) ≡ flat_map (λ (s : ℕ × Participant). pair_of s.1.address s.1.id) (cond b ((start, p) ∷ willing_from (start + 1) parts) (willing_from (start + 1) parts))
  step true is = rw (ap is_yes (same p).0 ∙ is, (same p).1, (same p).2) refl
  step false is = rw (ap is_yes (same p).0 ∙ is) refl
pairs_noted start (suc m) note (p ∷ parts) same = step (is_yes p.answer) (pairs_noted (start + 1) m note parts same) where
  step : (b : Bool) → flat_map (λ (s : ℕ × Participant). pair_of s.1.address s.1.id) (willing_from (start + 1) (changed_at m note parts)) ≡ flat_map (λ (s : ℕ × Participant). pair_of s.1.address s.1.id) (willing_from (start + 1) parts) → flat_map (λ (s : ℕ × Participant). pair_of s.1.address s.1.id) (cond b ((start, p) ∷ willing_from (start + 1) (changed_at m note parts)) (willing_from (start + 1) (changed_at m note parts))) ≡ flat_map (λ (s : ℕ × Participant). pair_of s.1.address s.1.id) (cond b ((start, p) ∷ willing_from (start + 1) parts) (willing_from (start + 1) parts))
  step true rest = ap (λ ps. pair_of p.address p.id ++ ps) rest
  step false rest = rest

abbrev pub Unchanged : (Participant → Participant) → Type 0
Unchanged note = (p : Participant) → ((note p).answer ≡ p.answer) × ((note p).address ≡ p.address) × ((note p).id ≡ p.id)

pub same_pairs_noted : (m : ℕ) (note : Participant → Participant) (t : Transaction) → Unchanged note → pairs (noting (suc m) note t) ≡ pairs t
same_pairs_noted m note t same = step t.parts where
  step : (parts : List Participant) → pairs (record t { parts = changed_at (suc m) note parts }) ≡ pairs (record t { parts = parts })
  step [] = refl
  step (p ∷ parts) = pairs_noted 1 m note parts same

module _ (m : ℕ) (note : Participant → Participant) (t : Transaction) (w : Work) (found : transaction_of t.key w.state ≡ Some t) (apart : AreApart w) (ready : Ready t w.state) where
  still_stored : (phase : Phase) → is_going phase ≡ true → (phase ≡ Committed → Unchanged note) → (r : Option Row) → is_stored_as phase t r ≡ true → is_stored_as phase (noting (suc m) note t) r ≡ true
  still_stored Active can same r is = is
  still_stored Asking can same r is = is
  still_stored Aborted can same r is = is
  still_stored Prepared can same r is = absurd (cc)
  still_stored Committed can same (Some (row.Committed branches subordinates)) is = subst (λ ps. are_same_pairs subordinates ps ≡ true) (sym (same_pairs_noted m note t (same refl))) is
  still_stored Committed can same (Some (row.Prepared address superior branches subordinates)) is = absurd (cc)
  still_stored Committed can same None is = absurd (cc)

  waits_still : (parts : List Participant) → local_waits t.phase t.place parts ≡ true → local_waits t.phase t.place (changed_at (suc m) note parts) ≡ true
  waits_still [] is = is
  waits_still (p ∷ parts) is = is

  pub noted_onward : is_going t.phase ≡ true → (t.phase ≡ Committed → Unchanged note) → AllOnward t.key w (proceed t.key (alter t.key (noting (suc m) note) w))
  noted_onward can same =
      let v = alter t.key (noting (suc m) note) w in
      let first = alters t.key None (of_none t.key) w (noting (suc m) note) t (λ t. refl) found (turned_to (λ r. r) t (noting (suc m) note t) refl refl (λ is. is) (still_stored t.phase can same)) (λ word is. is) in
      onward_after t.key w v (proceed t.key v) first (proceed_onward (noting (suc m) note t) v (found_altered t.key w.state (noting (suc m) note) (λ t. refl) t found) (first.keys apart) (record { own = own_as w.state t (noting (suc m) note t) t.place refl ∙ ready.own; waits = waits_still t.parts ready.waits }))

-- A CONNECTION FAILS

-- each open transaction is ready
abbrev pub AllReady : State → Type 0
AllReady s = (t : Transaction) → transaction_of t.key s ≡ Some t → Ready t s

abbrev pub Goes : Option Change → Work → Work → Type 0
Goes change w v = (key : Key) × Onward change key w v

module _ (v : Work) (apart : AreApart v) (ready : AllReady v.state) where
  same_goes : Goes None v v
  same_goes = (record { epoch = 0; connection = 0; number = 0 }, beside (record { epoch = 0; connection = 0; number = 0 }) v v refl refl refl refl (speaks_not None (record { epoch = 0; connection = 0; number = 0 }) v))

  stopped : (t : Transaction) → transaction_of t.key v.state ≡ Some t → is_stoppable t.phase ≡ true → Goes None v (abort t.key v)
  stopped t found can = (t.key, stop_onward t.key v t found apart (owns_here v.state t (ready t found).own) can)

  superior_goes : (t : Transaction) → transaction_of t.key v.state ≡ Some t → (phase : Phase) → t.phase ≡ phase → Goes None v (superior_lost phase t.key v)
  superior_goes t found Active is = stopped t found (ap is_stoppable is)
  superior_goes t found Asking is = stopped t found (ap is_stoppable is)
  superior_goes t found Aborted is = stopped t found (ap is_stoppable is)
  superior_goes t found Prepared is = same_goes
  superior_goes t found Committed is = same_goes

  unanswered_goes : (m : ℕ) (t : Transaction) → transaction_of t.key v.state ≡ Some t → is_stoppable t.phase ≡ true → Goes None v (lost_unanswered m t v)
  unanswered_goes m t found can = step (is_some (answer_at t.parts m)) where
    noted : Work
    noted = alter t.key (noting m (answered Lost)) v

    step : (b : Bool) → Goes None v (cond b v (abort t.key noted))
    step true = same_goes
    step false =
        let first = alters t.key None (of_none t.key) v (noting m (answered Lost)) t (λ t. refl) found (turned_to (λ r. r) t (noting m (answered Lost) t) refl refl (λ is. is) (λ r fits. none_row t.phase can r fits)) (λ word is. is) in
        (t.key, then t.key None v noted (abort t.key noted) first (stop_onward t.key noted (noting m (answered Lost) t) (found_altered t.key v.state (noting m (answered Lost)) (λ t. refl) t found) (first.keys apart) (owns_here noted.state (noting m (answered Lost) t) (own_as v.state t (noting m (answered Lost) t) t.place refl ∙ (ready t found).own)) can)) where
          none_row : (phase : Phase) → is_stoppable phase ≡ true → (r : Option Row) → is_stored_as phase t r ≡ true → is_stored_as phase (noting m (answered Lost) t) r ≡ true
          none_row Active can r is = is
          none_row Asking can r is = is
          none_row Aborted can r is = is
          none_row Prepared can r is = absurd (cc)
          none_row Committed can r is = absurd (cc)

  part_goes : (m : ℕ) (t : Transaction) → transaction_of t.key v.state ≡ Some t → (phase : Phase) → t.phase ≡ phase → Goes None v (part_lost phase m t v)
  part_goes m t found Active is = unanswered_goes m t found (ap is_stoppable is)
  part_goes m t found Asking is = unanswered_goes m t found (ap is_stoppable is)
  part_goes m t found Prepared is = same_goes
  part_goes m t found Committed is = same_goes
  part_goes m t found Aborted is = stopped t found (ap is_stoppable is)

  above_found : (key : Key) (found : Option Transaction) → transaction_of key v.state ≡ found → Goes None v (on found (λ (t : Transaction). superior_lost t.phase key) v)
  above_found key None is = same_goes
  above_found key (Some t) is = let same = key_found key t v.state is in subst (λ k. Goes None v (superior_lost t.phase k v)) (sym same) (superior_goes t (subst (λ k. transaction_of k v.state ≡ Some t) same is) t.phase refl)

  part_found : (key : Key) (m : ℕ) (found : Option Transaction) → transaction_of key v.state ≡ found → Goes None v (on found (λ (t : Transaction). part_lost t.phase m t) v)
  part_found key m None is = same_goes
  part_found key m (Some t) is = part_goes m t (subst (λ k. transaction_of k v.state ≡ Some t) (key_found key t v.state is) is) t.phase refl

  pub missed_goes : (role : Option Role) → Goes None v (missed role v)
  missed_goes None = same_goes
  missed_goes (Some (Superior key)) = above_found key (transaction_of key v.state) refl
  missed_goes (Some (Subordinate key m)) = part_found key m (transaction_of key v.state) refl
