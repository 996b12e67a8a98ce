-- A realm that starts again stays true to its word.
use Rattle.std.proofs.Common.{◌≡◌, Bool, true, false, ℕ, ◌+◌, List, [], ◌∷◌, ◌++◌, Option, Some, None, cond, refl, ap, subst, sym, arith, ◌∙◌, ◌⊎◌, inl, inr}
use Rattle.std.specs.Prelude.{◌==◌, find, flat_map, is_some, map, not}
use Rattle.std.specs.List.{list_all, list_any}
use Rattle.std.specs.Option.{option_map_or}
use Rattle.std.specs.Str.{bytes_eq}
use Rattle.std.proofs.lemmas.Bool.{and_from, and_parts, both_ways, cases_Bool, not-true, or_cases, or_left, or_right, not_from_false, false_from_ne_true}
use Rattle.std.proofs.lemmas.Option.{same_Some}
use Rattle.tip_branch.specs.Members.{is_active}
use Rattle.tip_branch.specs.Notes.{PartyNotes}
use Rattle.tip_branch.specs.declared.branch.Badge.{Badge}
use Rattle.tip_branch.specs.declared.member.Errand.{Errand}
use Rattle.tip_branch.specs.declared.member.Errand.TheVariants as errand
use Rattle.tip_rows.specs.Keys.{Key}
use Rattle.tip_rows.specs.Logs.{row_at}
use Rattle.tip_rows.specs.declared.row.Row.{Row}
use Rattle.tip_rows.specs.declared.row.Row.TheVariants as row
use Rattle.tip_rows.proofs.MemoryLemmas.{same_text}
use Rattle.tip_txn.specs.declared.answer.Ballot.{Ballot}
use Rattle.tip_txn.specs.declared.answer.Ballot.TheVariants.{Yes, No, ReadOnly, Lost}
use Rattle.tip_txn.specs.declared.answer.Phase.{Phase}
use Rattle.tip_txn.specs.declared.answer.Phase.TheVariants.{Active, Asking, Prepared, Committed, Aborted}
use Rattle.tip_machine.specs.Agreement.Verdicts.{Verdict, is_abort, is_commit, told}
use Rattle.tip_machine.specs.Answers.{identifier}
use Rattle.tip_machine.specs.Given.{was_given}
use Rattle.tip_machine.specs.Honest.{can_start}
use Rattle.tip_machine.specs.Invariants.{IsSound}
use Rattle.tip_machine.specs.Invariants.Bounds.{is_spelled}
use Rattle.tip_machine.specs.Invariants.Parties.{is_due, is_its_own}
use Rattle.tip_machine.specs.Invariants.Phases.{is_party}
use Rattle.tip_machine.specs.Invariants.Stored.{is_stored_as}
use Rattle.tip_machine.specs.Moves.{World, drops_at, drops_here, loaded, restarted_from}
use Rattle.tip_machine.specs.Outputs.{Output}
use Rattle.tip_machine.specs.Recovery.{Loaded, reopened}
use Rattle.tip_machine.specs.States.{State, transaction_of}
use Rattle.tip_machine.specs.Steps.{entered}
use Rattle.tip_machine.specs.Transactions.{has_id, has_key, has_ready}
use Rattle.tip_machine.specs.Types.{PartyPlace, Transaction}
use Rattle.tip_machine.specs.declared.head.Head.{Head}
use Rattle.tip_machine.specs.declared.transaction.PartyPlace.TheVariants.{Here, Out, Spent}
use Rattle.tip_machine.proofs.Identifiers.{given_later}
use Rattle.tip_machine.proofs.Lists.{find_any}
use Rattle.tip_machine.proofs.Walks.{found_passes}
use Rattle.tip_agreement.specs.Truth.{IsTrueTo, Word, fits, fits_in, verdict_of, will_tell, IsOurs}
use Rattle.tip_agreement.proofs.Apart.{all_found}
use Rattle.tip_agreement.proofs.Bounded.{AreSpelled, in_bounds, spelled_at}
use Rattle.tip_agreement.proofs.Closing.{is_stoppable}
use Rattle.tip_agreement.proofs.Concluding.{ready_of}
use Rattle.tip_agreement.proofs.Events.{entered_whole}
use Rattle.tip_agreement.proofs.Moving.{sound_whole}
use Rattle.tip_agreement.proofs.Onward.{says}
use Rattle.tip_agreement.proofs.Parting.{is_given_there, votes_for}
use Rattle.tip_agreement.proofs.Restarts.{restarts_sound}
use Rattle.tip_agreement.proofs.Returned.{said_at}
use Rattle.tip_agreement.proofs.Rows.{to_says}
use Rattle.tip_agreement.proofs.Sound.{found_by}
use Rattle.tip_agreement.proofs.Speaking.{stopped_fits}
use Rattle.tip_agreement.proofs.Spelling.{keys_told}
use Rattle.tip_agreement.proofs.Spoken.{has_word}
use Rattle.tip_agreement.proofs.Telling.{any_told, are_told, drops_told, told_either, IsRolledBack}
use Rattle.tip_agreement.proofs.Truthful.{word_by, any_verdict, is_named}

-- What a row makes is in doubt, or committed

is_lasting : Phase → Bool
is_lasting Prepared = true
is_lasting Committed = true
is_lasting Active = false
is_lasting Asking = false
is_lasting Aborted = false

all_lasting : (head : Head) (boxes : Key → List Badge) (rows : List (Key × Row)) → list_all (λ (t : Transaction). is_lasting t.phase) (map (λ (l : Loaded). reopened head l.key l.boxes l.row) (loaded boxes rows)) ≡ true
unfolding is_lasting
all_lasting head boxes [] = refl
all_lasting head boxes ((k, row.Prepared address superior branches subordinates) ∷ rows) = all_lasting head boxes rows
all_lasting head boxes ((k, row.Committed branches subordinates) ∷ rows) = all_lasting head boxes rows

-- a row says one phase
one_phase : (f g : Phase) (t u : Transaction) (r : Option Row) → is_stored_as f t r ≡ true → is_stored_as g u r ≡ true → is_lasting g ≡ true → f ≡ g
unfolding is_lasting
one_phase Prepared Prepared t u r this that lasts = refl
one_phase Committed Committed t u r this that lasts = refl
one_phase f Active t u r this that lasts = absurd (cc)
one_phase f Asking t u r this that lasts = absurd (cc)
one_phase f Aborted t u r this that lasts = absurd (cc)
one_phase Prepared Committed t u None this that lasts = absurd (cc)
one_phase Prepared Committed t u (Some (row.Prepared address superior branches subordinates)) this that lasts = absurd (cc)
one_phase Prepared Committed t u (Some (row.Committed branches subordinates)) this that lasts = absurd (cc)
one_phase Committed Prepared t u None this that lasts = absurd (cc)
one_phase Committed Prepared t u (Some (row.Prepared address superior branches subordinates)) this that lasts = absurd (cc)
one_phase Committed Prepared t u (Some (row.Committed branches subordinates)) this that lasts = absurd (cc)
one_phase Active Prepared t u None this that lasts = absurd (cc)
one_phase Active Prepared t u (Some r) this that lasts = absurd (cc)
one_phase Active Committed t u None this that lasts = absurd (cc)
one_phase Active Committed t u (Some r) this that lasts = absurd (cc)
one_phase Asking Prepared t u None this that lasts = absurd (cc)
one_phase Asking Prepared t u (Some r) this that lasts = absurd (cc)
one_phase Asking Committed t u None this that lasts = absurd (cc)
one_phase Asking Committed t u (Some r) this that lasts = absurd (cc)
one_phase Aborted Prepared t u None this that lasts = absurd (cc)
one_phase Aborted Prepared t u (Some r) this that lasts = absurd (cc)
one_phase Aborted Committed t u None this that lasts = absurd (cc)
one_phase Aborted Committed t u (Some r) this that lasts = absurd (cc)

-- one that has no row can be stopped
rowless : (phase : Phase) (t : Transaction) → is_stored_as phase t None ≡ true → is_stoppable phase ≡ true
rowless Active t is = refl
rowless Asking t is = refl
rowless Aborted t is = refl
rowless Prepared t is = absurd (cc)
rowless Committed t is = absurd (cc)

-- a party that is here with an active branch is of one that can be stopped
active_here : (phase : Phase) (party : PartyNotes) (answer : Option Ballot) → is_party phase (Here party) answer ≡ true → list_any is_active party.members ≡ true → is_stoppable phase ≡ true
active_here Active party answer is active = refl
active_here Asking party answer is active = refl
active_here Aborted party answer is active = refl
active_here Prepared party (Some Yes) is active = absurd (both_ways (list_any is_active party.members) (not-true _ (and_parts (not (list_any is_active party.members)) (has_ready party) is).0) active)
active_here Prepared party (Some ReadOnly) is active = absurd (both_ways (list_any is_active party.members) (not-true _ (and_parts (not (list_any is_active party.members)) (not (has_ready party)) is).0) active)
active_here Prepared party None is active = absurd (cc)
active_here Prepared party (Some No) is active = absurd (cc)
active_here Prepared party (Some Lost) is active = absurd (cc)
active_here Committed party (Some Yes) is active = absurd (both_ways (list_any is_active party.members) (not-true _ (and_parts (not (list_any is_active party.members)) (has_ready party) is).0) active)
active_here Committed party (Some ReadOnly) is active = absurd (cc)
active_here Committed party None is active = absurd (cc)
active_here Committed party (Some No) is active = absurd (cc)
active_here Committed party (Some Lost) is active = absurd (cc)

-- a transaction that can be stopped
record Stoppable (k : Key) (s : State) : Type 0 where
  transaction : Transaction
  found : transaction_of k s ≡ Some transaction
  can : is_stoppable transaction.phase ≡ true

module _ (boxes : Key → List Badge) (world : World) (sound : IsSound world) (can : can_start boxes world ≡ true) (shown : List Output) (true_to : IsTrueTo shown world) where
  abbrev now : ℕ
  now = world.state.head.epoch

  abbrev id_at : Key → List ℕ
  id_at k = identifier world.state.head.name k

  abbrev later : List Output
  later = shown ++ drops_here world.state

  abbrev next : State
  next = restarted_from boxes world

  abbrev old_word : Key → Word
  old_word k = word_by world.state.head.name now world.errands shown (id_at k)

  abbrev new_word : Key → Word
  new_word k = word_by world.state.head.name (now + 1) world.errands later (id_at k)

  spelled_all : AreSpelled world.state
  spelled_all = (in_bounds world.state sound.bounded).spelled

  -- Branches that are rolled back at the start

  abbrev is_dropped : (Verdict → Bool) → List ℕ → Transaction → Bool
  is_dropped test id t = are_told test world.state.head.name id (drops_at t.place)

  dropped_any : (test : Verdict → Bool) (id : List ℕ) (ts : List Transaction) → are_told test world.state.head.name id (flat_map (λ (t : Transaction). drops_at t.place) ts) ≡ true → list_any (is_dropped test id) ts ≡ true
  dropped_any test id [] is = is
  dropped_any test id (t ∷ ts) is = elim (told_either test world.state.head.name id (drops_at t.place) (flat_map (λ (t : Transaction). drops_at t.place) ts) is) [
    | inl first ↦ or_left (is_dropped test id t) _ first
    | inr rest ↦ or_right (is_dropped test id t) _ (dropped_any test id ts rest)
  ]

  -- the transaction whose party is here
  record Dropped (test : Verdict → Bool) (id : List ℕ) : Type 0 where
    transaction : Transaction
    found : transaction_of transaction.key world.state ≡ Some transaction
    party : PartyNotes
    here : transaction.place ≡ Here party
    rolled : IsRolledBack test world.state.head.name id party

  dropped_place : (test : Verdict → Bool) (id : List ℕ) (t : Transaction) → transaction_of t.key world.state ≡ Some t → (place : PartyPlace) → t.place ≡ place → are_told test world.state.head.name id (drops_at place) ≡ true → Dropped test id
  dropped_place test id t found (Out e) at is = absurd (cc)
  dropped_place test id t found Spent at is = absurd (cc)
  dropped_place test id t found (Here party) at is = record { transaction = t; found = found; party = party; here = at; rolled = drops_told test world.state.head.name id party is }

  dropped : (test : Verdict → Bool) (id : List ℕ) → are_told test world.state.head.name id (drops_here world.state) ≡ true → Dropped test id
  dropped test id is = step (find (is_dropped test id) world.state.transactions) refl (find_any (is_dropped test id) world.state.transactions) where
    any : list_any (is_dropped test id) world.state.transactions ≡ true
    any = dropped_any test id world.state.transactions is

    step : (found : Option Transaction) → find (is_dropped test id) world.state.transactions ≡ found → is_some (find (is_dropped test id) world.state.transactions) ≡ list_any (is_dropped test id) world.state.transactions → Dropped test id
    step None is same = absurd (let wrong : false ≡ true = sym (ap is_some is) ∙ (same ∙ any) in cc)
    step (Some t) is same = dropped_place test id t (found_by (is_dropped test id) world.state t (sound_whole world sound) is) t.place refl (found_passes (is_dropped test id) world.state.transactions t is)

  -- its identifier is that of the transaction
  dropped_id : (test : Verdict → Bool) (id : List ℕ) (d : Dropped test id) → ((d.party.epoch == now) ≡ true) × (has_id world.state.head.name d.party.id d.transaction ≡ true) × (id ≡ id_at d.transaction.key)
  dropped_id test id d =
      let own : is_its_own world.state d.transaction (Here d.party) ≡ true = subst (λ p. is_its_own world.state d.transaction p ≡ true) d.here (ready_of world.state d.transaction (sound_whole world sound) d.found).own in
      let its = and_parts (d.party.epoch == now) (has_id world.state.head.name d.party.id d.transaction) own in
      (its.0, its.1, same_text id d.party.id d.rolled.id_is ∙ same_text d.party.id (id_at d.transaction.key) its.1)

  dropped_so : (test : Verdict → Bool) (k : Key) → is_spelled k ≡ true → are_told test world.state.head.name (id_at k) (drops_here world.state) ≡ true → (test Verdict.Abort ≡ true) × Stoppable k world.state
  dropped_so test k fine is =
      let d = dropped test (id_at k) is in
      let t = d.transaction in
      let its = dropped_id test (id_at k) d in
      let same : k ≡ t.key = keys_told world.state.head.name k t.key fine (spelled_at world.state t spelled_all d.found) its.2 in
      let said = said_at d.party t (entered world.state) (entered_whole world.state (sound_whole world sound)) d.found (record { epoch = its.0; id = its.1 }) (Here d.party) d.here in
      (d.rolled.aborts, record { transaction = t; found = subst (λ x. transaction_of x world.state ≡ Some t) (sym same) d.found; can = active_here t.phase d.party said.0 said.1 d.rolled.active })

  dropped_ours : (id : List ℕ) → are_told any_verdict world.state.head.name id (drops_here world.state) ≡ true → IsOurs world.state.head.name id
  dropped_ours id is =
      let d = dropped any_verdict id is in
      (d.transaction.key, spelled_at world.state d.transaction spelled_all d.found, (dropped_id any_verdict id d).2)

  -- Parties that stay out

  commit_stays : (k : Key) (ps : List PartyNotes) → list_any (will_tell is_commit (now + 1) (id_at k)) ps ≡ true → list_any (will_tell is_commit now (id_at k)) ps ≡ true
  commit_stays k [] is = is
  commit_stays k (p ∷ ps) is = elim (or_cases (will_tell is_commit (now + 1) (id_at k) p) (list_any (will_tell is_commit (now + 1) (id_at k)) ps) is) [
    | inl first ↦ let parts = and_parts (bytes_eq (id_at k) p.id) _ first in or_left (will_tell is_commit now (id_at k) p) _ (and_from _ _ parts.0 (step p.errand parts.1))
    | inr rest ↦ or_right (will_tell is_commit now (id_at k) p) _ (commit_stays k ps rest)
  ] where
    voting : (b c : Bool) → option_map_or is_commit (cond b None (Some Verdict.Abort)) false ≡ true → option_map_or is_commit (cond c None (Some Verdict.Abort)) false ≡ true
    voting true c is = absurd (cc)
    voting false c is = absurd (cc)

    step : (e : Errand) → option_map_or is_commit (verdict_of (now + 1) e p.epoch) false ≡ true → option_map_or is_commit (verdict_of now e p.epoch) false ≡ true
    step errand.Idle is = is
    step errand.Commit is = is
    step errand.Abort is = is
    step errand.Vote is = voting (p.epoch == now + 1) (p.epoch == now) is

  abort_stays : (k : Key) → is_spelled k ≡ true → (ps : List PartyNotes) → list_all (is_due world.state) ps ≡ true → list_any (will_tell is_abort (now + 1) (id_at k)) ps ≡ true → (list_any (will_tell is_abort now (id_at k)) ps ≡ true) ⊎ Stoppable k world.state
  abort_stays k fine [] due is = inl is
  abort_stays k fine (p ∷ ps) due is =
      let dues = and_parts (is_due world.state p) (list_all (is_due world.state) ps) due in
      elim (or_cases (will_tell is_abort (now + 1) (id_at k) p) (list_any (will_tell is_abort (now + 1) (id_at k)) ps) is) [
        | inr rest ↦ elim (abort_stays k fine ps dues.1 rest) [
          | inl old ↦ inl (or_right (will_tell is_abort now (id_at k) p) _ old)
          | inr stops ↦ inr stops
        ]
        | inl first ↦ let parts = and_parts (bytes_eq (id_at k) p.id) _ first in elim (step p.errand refl parts.1 parts.0 dues.0) [
          | inl old ↦ inl (or_left (will_tell is_abort now (id_at k) p) _ (and_from _ _ parts.0 old))
          | inr stops ↦ inr stops
        ]
      ] where
        step : (e : Errand) → p.errand ≡ e → option_map_or is_abort (verdict_of (now + 1) e p.epoch) false ≡ true → bytes_eq (id_at k) p.id ≡ true → is_due world.state p ≡ true → (option_map_or is_abort (verdict_of now p.errand p.epoch) false ≡ true) ⊎ Stoppable k world.state
        step errand.Idle at is named due = absurd (cc)
        step errand.Commit at is named due = absurd (cc)
        step errand.Abort at is named due = inl (subst (λ e. option_map_or is_abort (verdict_of now e p.epoch) false ≡ true) (sym at) refl)
        step errand.Vote at is named due = elim (cases_Bool (p.epoch == now)) [
          | inr earlier ↦ inl (subst (λ e. option_map_or is_abort (verdict_of now e p.epoch) false ≡ true) (sym at) (rw earlier refl))
          | inl here ↦
              let votes = votes_for world sound k fine p due (and_from _ _ named (and_from _ _ here (rw at refl))) in
              inr (record { transaction = votes.transaction; found = votes.found; can = elim votes.phase [ inl asking ↦ ap is_stoppable asking | inr aborted ↦ ap is_stoppable aborted ] })
        ]

  -- The word after it

  commit_less : (k : Key) → is_spelled k ≡ true → (new_word k).commit ≡ true → (old_word k).commit ≡ true
  commit_less k fine is = elim (or_cases (list_any is_commit (told world.state.head.name (id_at k) later)) (list_any (will_tell is_commit (now + 1) (id_at k)) world.errands) is) [
    | inr will ↦ or_right (list_any is_commit (told world.state.head.name (id_at k) shown)) _ (commit_stays k world.errands will)
    | inl said ↦ elim (told_either is_commit world.state.head.name (id_at k) shown (drops_here world.state) (sym (any_told is_commit world.state.head.name (id_at k) later) ∙ said)) [
      | inl before ↦ or_left (list_any is_commit (told world.state.head.name (id_at k) shown)) _ (any_told is_commit world.state.head.name (id_at k) shown ∙ before)
      | inr dropped ↦ absurd (let wrong : false ≡ true = (dropped_so is_commit k fine dropped).0 in cc)
    ]
  ]

  abort_less : (k : Key) → is_spelled k ≡ true → (new_word k).abort ≡ true → ((old_word k).abort ≡ true) ⊎ Stoppable k world.state
  abort_less k fine is = elim (or_cases (list_any is_abort (told world.state.head.name (id_at k) later)) (list_any (will_tell is_abort (now + 1) (id_at k)) world.errands) is) [
    | inr will ↦ elim (abort_stays k fine world.errands (and_parts _ (list_all (is_due world.state) world.errands) sound.out).1 will) [
      | inl old ↦ inl (or_right (list_any is_abort (told world.state.head.name (id_at k) shown)) _ old)
      | inr stops ↦ inr stops
    ]
    | inl said ↦ elim (told_either is_abort world.state.head.name (id_at k) shown (drops_here world.state) (sym (any_told is_abort world.state.head.name (id_at k) later) ∙ said)) [
      | inl before ↦ inl (or_left (list_any is_abort (told world.state.head.name (id_at k) shown)) _ (any_told is_abort world.state.head.name (id_at k) shown ∙ before))
      | inr dropped ↦ inr (dropped_so is_abort k fine dropped).1
    ]
  ]

  -- Each transaction

  not_from : (b : Bool) → (b ≡ true → ⊥) → not b ≡ true
  not_from b never = not_from_false b (false_from_ne_true b never)

  clash : (b : Bool) → not b ≡ true → b ≡ true → ⊥
  clash b is on = both_ways b (not-true b is) on

  says_old : (k : Key) → says (transaction_of k world.state) (row_at k world.rows) ≡ true
  says_old k = (to_says world.state world.rows sound.stored).1 k

  says_new : (k : Key) → says (transaction_of k next) (row_at k world.rows) ≡ true
  says_new k = (to_says next world.rows (restarts_sound boxes world world.errands sound sound.out can).stored).1 k

  gone_now : (k : Key) → is_spelled k ≡ true → (found : Option Transaction) → transaction_of k world.state ≡ found → says found (row_at k world.rows) ≡ true → says None (row_at k world.rows) ≡ true → fits None (new_word k) ≡ true
  gone_now k fine None is this that = not_from _ (λ both. let parts = and_parts (new_word k).commit (new_word k).abort both in elim (abort_less k fine parts.1) [
    | inl old ↦ clash _ (subst (λ o. fits o (old_word k) ≡ true) is (true_to.fits k fine)) (and_from _ _ (commit_less k fine parts.0) old)
    | inr stops ↦ let wrong : false ≡ true = sym (ap is_some is) ∙ ap is_some stops.found in cc
  ])
  gone_now k fine (Some t) is this that =
      let none : row_at k world.rows ≡ None = no_row (row_at k world.rows) that in
      let can_stop = rowless t.phase t (subst (λ r. is_stored_as t.phase t r ≡ true) none this) in
      let silent : not (old_word k).commit ≡ true = stopped_fits t can_stop (old_word k) (subst (λ o. fits o (old_word k) ≡ true) is (true_to.fits k fine)) in
      not_from _ (λ both. clash _ silent (commit_less k fine (and_parts (new_word k).commit (new_word k).abort both).0)) where
        no_row : (r : Option Row) → says None r ≡ true → r ≡ None
        no_row None is = refl
        no_row (Some r) is = absurd (cc)

  lasts_now : (k : Key) → is_spelled k ≡ true → (u : Transaction) → is_lasting u.phase ≡ true → (found : Option Transaction) → transaction_of k world.state ≡ found → says found (row_at k world.rows) ≡ true → is_stored_as u.phase u (row_at k world.rows) ≡ true → fits (Some u) (new_word k) ≡ true
  unfolding is_lasting
  lasts_now k fine u lasts None is this that = absurd (never u.phase (row_at k world.rows) lasts this that) where
    never : (phase : Phase) (r : Option Row) → is_lasting phase ≡ true → says None r ≡ true → is_stored_as phase u r ≡ true → ⊥
    never Prepared None lasts this that = cc
    never Committed None lasts this that = cc
    never Active r lasts this that = cc
    never Asking r lasts this that = cc
    never Aborted r lasts this that = cc
    never Prepared (Some r) lasts this that = cc
    never Committed (Some r) lasts this that = cc
  lasts_now k fine u lasts (Some t) is this that =
      let same = one_phase t.phase u.phase t u (row_at k world.rows) this that lasts in
      step u.phase lasts same (subst (λ f. fits_in f t.place (old_word k) ≡ true) same (subst (λ o. fits o (old_word k) ≡ true) is (true_to.fits k fine))) where
        never_stops : (phase : Phase) → is_lasting phase ≡ true → t.phase ≡ phase → Stoppable k world.state → ⊥
        never_stops phase lasts at stops = wrong phase lasts (subst (λ f. is_stoppable f ≡ true) (ap (λ (x : Transaction). x.phase) (same_Some stops.transaction t (sym stops.found ∙ is)) ∙ at) stops.can) where
          wrong : (phase : Phase) → is_lasting phase ≡ true → is_stoppable phase ≡ true → ⊥
          wrong Prepared lasts can = cc
          wrong Committed lasts can = cc
          wrong Active lasts can = cc
          wrong Asking lasts can = cc
          wrong Aborted lasts can = cc

        no_abort : (phase : Phase) → is_lasting phase ≡ true → t.phase ≡ phase → not (old_word k).abort ≡ true → not (new_word k).abort ≡ true
        no_abort phase lasts at none = not_from _ (λ aborts. elim (abort_less k fine aborts) [ inl old ↦ clash _ none old | inr stops ↦ never_stops phase lasts at stops ])

        step : (phase : Phase) → is_lasting phase ≡ true → t.phase ≡ phase → fits_in phase t.place (old_word k) ≡ true → fits_in phase u.place (new_word k) ≡ true
        step Committed lasts at old = no_abort Committed lasts at old
        step Prepared lasts at old =
            let parts = and_parts (not (old_word k).commit) (not (old_word k).abort) old in
            and_from _ _ (not_from _ (λ commits. clash _ parts.0 (commit_less k fine commits))) (no_abort Prepared lasts at parts.1)
        step Active lasts at old = absurd (cc)
        step Asking lasts at old = absurd (cc)
        step Aborted lasts at old = absurd (cc)

  fits_now : (k : Key) → is_spelled k ≡ true → fits (transaction_of k next) (new_word k) ≡ true
  fits_now k fine = step (transaction_of k next) refl (says_new k) where
    step : (found : Option Transaction) → transaction_of k next ≡ found → says (transaction_of k next) (row_at k world.rows) ≡ true → fits (transaction_of k next) (new_word k) ≡ true
    step None is says_it = subst (λ o. fits o (new_word k) ≡ true) (sym is) (gone_now k fine (transaction_of k world.state) refl (says_old k) (subst (λ o. says o (row_at k world.rows) ≡ true) is says_it))
    step (Some u) is says_it = subst (λ o. fits o (new_word k) ≡ true) (sym is) (lasts_now k fine u (all_found (λ (t : Transaction). is_lasting t.phase) (has_key k) next.transactions u (all_lasting next.head boxes world.rows) is) (transaction_of k world.state) refl (says_old k) (subst (λ o. says o (row_at k world.rows) ≡ true) is says_it))

  pub given_before : (k : Key) → is_spelled k ≡ true → has_word (new_word k) ≡ true → was_given world.state k ≡ true
  given_before k fine is = elim (or_cases (new_word k).commit (new_word k).abort is) [
    | inl commit ↦ true_to.given k fine (or_left (old_word k).commit _ (commit_less k fine commit))
    | inr abort ↦ elim (abort_less k fine abort) [
      | inl old ↦ true_to.given k fine (or_right (old_word k).commit _ old)
      | inr stops ↦ is_given_there world sound k (ap is_some stops.found)
    ]
  ]

  ours_now : (id : List ℕ) → is_named world.state.head.name world.errands later id ≡ true → IsOurs world.state.head.name id
  ours_now id is = elim (or_cases (list_any any_verdict (told world.state.head.name id later)) (list_any (λ (party : PartyNotes). bytes_eq id party.id) world.errands) is) [
    | inr out ↦ true_to.ours id (or_right (list_any any_verdict (told world.state.head.name id shown)) _ out)
    | inl said ↦ elim (told_either any_verdict world.state.head.name id shown (drops_here world.state) (sym (any_told any_verdict world.state.head.name id later) ∙ said)) [
      | inl before ↦ true_to.ours id (or_left (list_any any_verdict (told world.state.head.name id shown)) _ (any_told any_verdict world.state.head.name id shown ∙ before))
      | inr rolled ↦ dropped_ours id rolled
    ]
  ]

  pub renewed_true : IsTrueTo later (record { state = next; rows = world.rows; errands = world.errands })
  renewed_true = record {
    fits = fits_now;
    given = λ k fine is. given_later world.state next k (omega arith) (given_before k fine is);
    uncalled = true_to.uncalled;
    ours = ours_now;
  }
