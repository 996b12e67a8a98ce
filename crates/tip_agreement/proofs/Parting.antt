-- A realm stays true to its word where a party that was out is let go, or is here again.
use Rattle.std.proofs.Common.{◌≡◌, Bool, true, false, ℕ, List, [], ◌∷◌, Option, Some, None, cond, refl, ap, subst, sym, ◌∙◌, ◌⊎◌, inl, inr}
use Rattle.std.specs.Prelude.{◌&&◌, ◌||◌, ◌==◌, filter, not, is_some, map}
use Rattle.std.specs.List.{list_all, list_any}
use Rattle.std.specs.Str.{bytes_eq}
use Rattle.std.proofs.lemmas.Bool.{and_from, and_left, and_parts, and_right, both_ways, cases_Bool, not-true, or_cases, or_from, or_left, or_parts, or_right}
use Rattle.tip_branch.specs.Notes.{PartyNotes}
use Rattle.tip_branch.specs.declared.member.Errand.{Errand}
use Rattle.tip_branch.specs.declared.member.Errand.TheVariants as errand
use Rattle.tip_rows.specs.Keys.{Key, is_same}
use Rattle.tip_rows.proofs.MemoryLemmas.{same_text, bytes_eq-self}
use Rattle.tip_rows.proofs.OrderLemmas.{same_key}
use Rattle.tip_txn.specs.declared.answer.Ballot.{Ballot}
use Rattle.tip_txn.specs.declared.answer.Phase.{Phase}
use Rattle.tip_txn.specs.declared.answer.Phase.TheVariants.{Active, Asking, Prepared, Committed, Aborted}
use Rattle.tip_machine.specs.Agreement.Verdicts.{Verdict, is_abort, is_commit, told}
use Rattle.tip_machine.specs.Answers.{identifier}
use Rattle.tip_machine.specs.Given.{was_given}
use Rattle.tip_machine.specs.Invariants.{IsSound, are_keyed}
use Rattle.tip_machine.specs.Invariants.Bounds.{is_spelled}
use Rattle.tip_machine.specs.Invariants.Links.{are_distinct}
use Rattle.tip_machine.specs.Invariants.Parties.{are_out, is_due, is_of_this_start}
use Rattle.tip_machine.specs.Invariants.Phases.{is_party}
use Rattle.tip_machine.specs.Moves.{World}
use Rattle.tip_machine.specs.Outputs.{Output}
use Rattle.tip_machine.specs.States.{State, transaction_of}
use Rattle.tip_machine.specs.Steps.{entered}
use Rattle.tip_machine.specs.Transactions.{has_key, standing_at}
use Rattle.tip_machine.specs.Types.{Transaction, PartyPlace}
use Rattle.tip_machine.specs.declared.transaction.PartyPlace.TheVariants.{Out, Here}
use Rattle.std.proofs.lemmas.Option.{same_Some}
use Rattle.tip_table.specs.Lists.{changed}
use Rattle.tip_agreement.proofs.Owned.{key_found}
use Rattle.tip_agreement.proofs.Errands.{first_due}
use Rattle.tip_agreement.proofs.Around.{found_altered, other_found}
use Rattle.tip_agreement.specs.Truth.{IsTrueTo, Word, fits, fits_in, is_lost, is_to_vote, is_uncalled, will_tell, will_vote, IsOurs}
use Rattle.tip_agreement.proofs.Apart.{all_found}
use Rattle.tip_agreement.proofs.Bounded.{AreSpelled, in_bounds, spelled_at}
use Rattle.tip_agreement.proofs.Events.{entered_whole}
use Rattle.tip_agreement.proofs.Moving.{sound_whole}
use Rattle.tip_agreement.proofs.Returned.{said_at, Owns}
use Rattle.tip_agreement.proofs.Spelling.{keys_told}
use Rattle.tip_agreement.proofs.Spoken.{has_word}
use Rattle.tip_agreement.proofs.Telling.{any_told, are_told}
use Rattle.tip_agreement.proofs.Truthful.{word_by, any_verdict, is_named}
use Rattle.tip_agreement.proofs.Waiting.{waits_for}
use Rattle.tip_agreement.proofs.Wording.{Less, fits_less, not_less}

-- Each open transaction's key was given
pub given_in : (s : State) → are_keyed s ≡ true → (k : Key) → is_some (transaction_of k s) ≡ true → was_given s k ≡ true
given_in s keyed k = step (transaction_of k s) refl where
  step : (found : Option Transaction) → transaction_of k s ≡ found → is_some found ≡ true → was_given s k ≡ true
  step None is there = absurd (cc)
  step (Some t) is there = subst (λ x. was_given s x ≡ true) (sym (key_found k t s is)) (all_found (λ (u : Transaction). was_given s u.key) (has_key k) s.transactions t (and_parts (are_distinct is_same (map (λ (u : Transaction). u.key) s.transactions)) _ keyed).1 is)

-- A vote that is out is of a transaction that asks, or was aborted
voting_phase : (phase : Phase) (answer : Option Ballot) → is_party phase (Out errand.Vote) answer ≡ true → (phase ≡ Asking) ⊎ (phase ≡ Aborted)
voting_phase Asking answer is = inl refl
voting_phase Aborted answer is = inr refl
voting_phase Active answer is = absurd (cc)
voting_phase Prepared answer is = absurd (cc)
voting_phase Committed answer is = absurd (cc)

voting_errand : (e : Errand) → is_to_vote e ≡ true → e ≡ errand.Vote
voting_errand errand.Vote is = refl
voting_errand errand.Idle is = absurd (cc)
voting_errand errand.Commit is = absurd (cc)
voting_errand errand.Abort is = absurd (cc)

-- the transaction that a party of this start votes for
pub record Votes (k : Key) (s : State) : Type 0 where
  pub transaction : Transaction
  pub found : transaction_of k s ≡ Some transaction
  pub out : transaction.place ≡ Out errand.Vote
  pub phase : (transaction.phase ≡ Asking) ⊎ (transaction.phase ≡ Aborted)

module _ (world : World) (sound : IsSound world) where
  abbrev now : ℕ
  now = world.state.head.epoch

  abbrev id_at : Key → List ℕ
  id_at k = identifier world.state.head.name k

  spelled_all : AreSpelled world.state
  spelled_all = (in_bounds world.state sound.bounded).spelled

  pub is_given_there : (k : Key) → is_some (transaction_of k world.state) ≡ true → was_given world.state k ≡ true
  is_given_there = given_in world.state sound.keyed

  pub votes_for : (k : Key) → is_spelled k ≡ true → (party : PartyNotes) → is_due world.state party ≡ true → will_vote now (id_at k) party ≡ true → Votes k world.state
  votes_for k fine party due will =
      let a = and_parts (bytes_eq (id_at k) party.id) ((party.epoch == now) && is_to_vote party.errand) will in
      let b = and_parts (party.epoch == now) (is_to_vote party.errand) a.1 in
      let waits = waits_for world.state party (sound_whole world sound).keys due b.0 in
      let t = waits.transaction in
      let same : k ≡ t.key = keys_told world.state.head.name k t.key fine (spelled_at world.state t spelled_all waits.found) (same_text (id_at k) party.id a.0 ∙ same_text party.id (id_at t.key) waits.id) in
      let out : t.place ≡ Out errand.Vote = waits.out ∙ ap Out (voting_errand party.errand b.1) in
      let said = said_at party t (entered world.state) (entered_whole world.state (sound_whole world sound)) waits.found (record { epoch = b.0; id = waits.id }) (Out errand.Vote) out in
      record { transaction = t; found = subst (λ x. transaction_of x world.state ≡ Some t) (sym same) waits.found; out = out; phase = voting_phase t.phase said.0 said.1 }

  -- no other party votes for it
  none_votes : (id : List ℕ) (party : PartyNotes) → id ≡ party.id → (qs : List PartyNotes) → list_any (λ (q : PartyNotes). bytes_eq party.id q.id) (filter (is_of_this_start world.state) qs) ≡ false → list_any (will_vote now id) qs ≡ false
  none_votes id party same [] none = refl
  none_votes id party same (q ∷ qs) none = step (is_of_this_start world.state q) refl none (none_votes id party same qs) where
    step : (b : Bool) → is_of_this_start world.state q ≡ b → list_any (λ (q : PartyNotes). bytes_eq party.id q.id) (cond b (q ∷ filter (is_of_this_start world.state) qs) (filter (is_of_this_start world.state) qs)) ≡ false → (list_any (λ (q : PartyNotes). bytes_eq party.id q.id) (filter (is_of_this_start world.state) qs) ≡ false → list_any (will_vote now id) qs ≡ false) → list_any (will_vote now id) (q ∷ qs) ≡ false
    step true here none later = let parts = or_parts (bytes_eq party.id q.id) (list_any (λ (q : PartyNotes). bytes_eq party.id q.id) (filter (is_of_this_start world.state) qs)) none in or_from _ _ (and_left _ _ (subst (λ x. bytes_eq x q.id ≡ false) (sym same) parts.0)) (later parts.1)
    step false other none later = or_from _ _ (and_right _ _ (and_left _ _ other)) (later none)

  -- ONE IS LET GO, and the state stays
  module _ (shown later : List Output) (party : PartyNotes) (rest : List PartyNotes) (is_out : are_out world.state (party ∷ rest) ≡ true)
      (heard : (test : Verdict → Bool) (id : List ℕ) → are_told test world.state.head.name id later ≡ true → (are_told test world.state.head.name id shown ≡ true) ⊎ ((will_tell test now id party ≡ true) ⊎ ((test Verdict.Abort ≡ true) × (will_vote now id party ≡ true))))
      (true_to : IsTrueTo shown (record { state = world.state; rows = world.rows; errands = party ∷ rest })) where
    abbrev old_word : Key → Word
    old_word k = word_by world.state.head.name now (party ∷ rest) shown (id_at k)

    abbrev new_word : Key → Word
    new_word k = word_by world.state.head.name now rest later (id_at k)

    due : is_due world.state party ≡ true
    due = first_due world.state party rest is_out

    commit_less : (k : Key) → (new_word k).commit ≡ true → (old_word k).commit ≡ true
    commit_less k is = elim (or_cases (list_any is_commit (told world.state.head.name (id_at k) later)) (list_any (will_tell is_commit now (id_at k)) rest) is) [
      | inl said ↦ elim (heard is_commit (id_at k) (sym (any_told is_commit world.state.head.name (id_at k) later) ∙ said)) [
        | inl before ↦ or_left (list_any is_commit (told world.state.head.name (id_at k) shown)) _ (any_told is_commit world.state.head.name (id_at k) shown ∙ before)
        | inr here ↦ elim here [
          | inl will ↦ or_right (list_any is_commit (told world.state.head.name (id_at k) shown)) _ (or_left (will_tell is_commit now (id_at k) party) _ will)
          | inr vote ↦ absurd (let wrong : false ≡ true = vote.0 in cc)
        ]
      ]
      | inr will ↦ or_right (list_any is_commit (told world.state.head.name (id_at k) shown)) _ (or_right (will_tell is_commit now (id_at k) party) _ will)
    ]

    abort_less : (k : Key) → (new_word k).abort ≡ true → ((old_word k).abort ≡ true) ⊎ (will_vote now (id_at k) party ≡ true)
    abort_less k is = elim (or_cases (list_any is_abort (told world.state.head.name (id_at k) later)) (list_any (will_tell is_abort now (id_at k)) rest) is) [
      | inl said ↦ elim (heard is_abort (id_at k) (sym (any_told is_abort world.state.head.name (id_at k) later) ∙ said)) [
        | inl before ↦ inl (or_left (list_any is_abort (told world.state.head.name (id_at k) shown)) _ (any_told is_abort world.state.head.name (id_at k) shown ∙ before))
        | inr here ↦ elim here [
          | inl will ↦ inl (or_right (list_any is_abort (told world.state.head.name (id_at k) shown)) _ (or_left (will_tell is_abort now (id_at k) party) _ will))
          | inr vote ↦ inr vote.1
        ]
      ]
      | inr will ↦ inl (or_right (list_any is_abort (told world.state.head.name (id_at k) shown)) _ (or_right (will_tell is_abort now (id_at k) party) _ will))
    ]

    awaited_less : (k : Key) → (new_word k).awaited ≡ true → (old_word k).awaited ≡ true
    awaited_less k is = or_right (will_vote now (id_at k) party) _ is

    plain_less : (k : Key) → will_vote now (id_at k) party ≡ false → Less (new_word k) (old_word k)
    plain_less k none = record {
      commit = commit_less k;
      abort = λ is. elim (abort_less k is) [ inl old ↦ old | inr vote ↦ absurd (both_ways (will_vote now (id_at k) party) none vote) ];
      awaited = awaited_less k;
    }

    -- nobody votes for it then
    lost_now : (k : Key) → will_vote now (id_at k) party ≡ true → (new_word k).awaited ≡ false
    lost_now k will =
        let a = and_parts (bytes_eq (id_at k) party.id) ((party.epoch == now) && is_to_vote party.errand) will in
        let here = (and_parts (party.epoch == now) (is_to_vote party.errand) a.1).0 in
        let apart = (and_parts (are_distinct (λ (this that : PartyNotes). bytes_eq this.id that.id) (filter (is_of_this_start world.state) (party ∷ rest))) (list_all (is_due world.state) (party ∷ rest)) is_out).0 in
        let first = subst (λ b. are_distinct (λ (this that : PartyNotes). bytes_eq this.id that.id) (cond b (party ∷ filter (is_of_this_start world.state) rest) (filter (is_of_this_start world.state) rest)) ≡ true) here apart in
        none_votes (id_at k) party (same_text (id_at k) party.id a.0) rest (not-true _ (and_parts (not (list_any (λ (q : PartyNotes). bytes_eq party.id q.id) (filter (is_of_this_start world.state) rest))) (are_distinct (λ (this that : PartyNotes). bytes_eq this.id that.id) (filter (is_of_this_start world.state) rest)) first).0)

    no_commit : (k : Key) → not (old_word k).commit ≡ true → not (new_word k).commit ≡ true
    no_commit k = not_less (new_word k).commit (old_word k).commit (commit_less k)

    voted_fits : (k : Key) → will_vote now (id_at k) party ≡ true → Votes k world.state → fits (transaction_of k world.state) (old_word k) ≡ true → fits (transaction_of k world.state) (new_word k) ≡ true
    voted_fits k will votes is =
        let t = votes.transaction in
        let old : fits_in t.phase t.place (old_word k) ≡ true = subst (λ o. fits o (old_word k) ≡ true) votes.found is in
        subst (λ o. fits o (new_word k) ≡ true) (sym votes.found) (elim votes.phase [
          | inl asking ↦
              let parts = and_parts (not (old_word k).commit) (not (old_word k).abort || is_lost t.place (old_word k).awaited) (subst (λ f. fits_in f t.place (old_word k) ≡ true) asking old) in
              let lost : is_lost t.place (new_word k).awaited ≡ true = subst (λ p. is_lost p (new_word k).awaited ≡ true) (sym votes.out) (ap not (lost_now k will)) in
              subst (λ f. fits_in f t.place (new_word k) ≡ true) (sym asking) (and_from _ _ (no_commit k parts.0) (or_right (not (new_word k).abort) _ lost))
          | inr aborted ↦ subst (λ f. fits_in f t.place (new_word k) ≡ true) (sym aborted) (no_commit k (subst (λ f. fits_in f t.place (old_word k) ≡ true) aborted old))
        ])

    fits_now : (k : Key) → is_spelled k ≡ true → fits (transaction_of k world.state) (new_word k) ≡ true
    fits_now k fine = elim (cases_Bool (will_vote now (id_at k) party)) [
      | inr none ↦ fits_less (transaction_of k world.state) (new_word k) (old_word k) (plain_less k none) (true_to.fits k fine)
      | inl will ↦ voted_fits k will (votes_for k fine party due will) (true_to.fits k fine)
    ]

    given_now : (k : Key) → is_spelled k ≡ true → has_word (new_word k) ≡ true → was_given world.state k ≡ true
    given_now k fine is = elim (or_cases (new_word k).commit (new_word k).abort is) [
      | inl commit ↦ true_to.given k fine (or_left (old_word k).commit _ (commit_less k commit))
      | inr abort ↦ elim (abort_less k abort) [
        | inl old ↦ true_to.given k fine (or_right (old_word k).commit _ old)
        | inr will ↦ let votes = votes_for k fine party due will in is_given_there k (ap is_some votes.found)
      ]
    ]

    ours_now : (id : List ℕ) → is_named world.state.head.name rest later id ≡ true → IsOurs world.state.head.name id
    ours_now id is = true_to.ours id (elim (or_cases (list_any any_verdict (told world.state.head.name id later)) (list_any (λ (q : PartyNotes). bytes_eq id q.id) rest) is) [
      | inr out ↦ or_right (list_any any_verdict (told world.state.head.name id shown)) _ (or_right (bytes_eq id party.id) _ out)
      | inl said ↦ elim (heard any_verdict id (sym (any_told any_verdict world.state.head.name id later) ∙ said)) [
        | inl before ↦ or_left (list_any any_verdict (told world.state.head.name id shown)) _ (any_told any_verdict world.state.head.name id shown ∙ before)
        | inr here ↦ or_right (list_any any_verdict (told world.state.head.name id shown)) _ (or_left (bytes_eq id party.id) _ (elim here [
          | inl will ↦ (and_parts (bytes_eq id party.id) _ will).0
          | inr vote ↦ (and_parts (bytes_eq id party.id) _ vote.1).0
        ]))
      ]
    ])

    pub true_without : IsTrueTo later (record { state = world.state; rows = world.rows; errands = rest })
    true_without = record { fits = fits_now; given = given_now; uncalled = (and_parts (is_uncalled party) (list_all is_uncalled rest) true_to.uncalled).1; ours = ours_now }

  -- ONE IS HERE AGAIN: its transaction has it

  module _ (shown later : List Output) (party back : PartyNotes) (rest : List PartyNotes) (is_out : are_out world.state (party ∷ rest) ≡ true)
      (heard : (test : Verdict → Bool) (id : List ℕ) → are_told test world.state.head.name id later ≡ true → (are_told test world.state.head.name id shown ≡ true) ⊎ (will_tell test now id party ≡ true))
      (true_to : IsTrueTo shown (record { state = world.state; rows = world.rows; errands = party ∷ rest }))
      (t : Transaction) (found : transaction_of t.key world.state ≡ Some t) (its : Owns party world.state t) where
    abbrev first_word : Key → Word
    first_word k = word_by world.state.head.name now (party ∷ rest) shown (id_at k)

    abbrev next_word : Key → Word
    next_word k = word_by world.state.head.name now rest later (id_at k)

    told_less : (test : Verdict → Bool) (k : Key) → list_any test (told world.state.head.name (id_at k) later) || list_any (will_tell test now (id_at k)) rest ≡ true → list_any test (told world.state.head.name (id_at k) shown) || list_any (will_tell test now (id_at k)) (party ∷ rest) ≡ true
    told_less test k is = elim (or_cases (list_any test (told world.state.head.name (id_at k) later)) (list_any (will_tell test now (id_at k)) rest) is) [
      | inl said ↦ elim (heard test (id_at k) (sym (any_told test world.state.head.name (id_at k) later) ∙ said)) [
        | inl before ↦ or_left (list_any test (told world.state.head.name (id_at k) shown)) _ (any_told test world.state.head.name (id_at k) shown ∙ before)
        | inr will ↦ or_right (list_any test (told world.state.head.name (id_at k) shown)) _ (or_left (will_tell test now (id_at k) party) _ will)
      ]
      | inr will ↦ or_right (list_any test (told world.state.head.name (id_at k) shown)) _ (or_right (will_tell test now (id_at k) party) _ will)
    ]

    back_less : (k : Key) → Less (next_word k) (first_word k)
    back_less k = record { commit = told_less is_commit k; abort = told_less is_abort k; awaited = λ is. or_right (will_vote now (id_at k) party) _ is }

    -- it waited for this party
    was_out : t.place ≡ Out party.errand
    was_out =
        let waits = waits_for world.state party (sound_whole world sound).keys (first_due world.state party rest is_out) its.epoch in
        let u = waits.transaction in
        let same : u.key ≡ t.key = keys_told world.state.head.name u.key t.key (spelled_at world.state u spelled_all waits.found) (spelled_at world.state t spelled_all found) (sym (same_text party.id (id_at u.key) waits.id) ∙ same_text party.id (id_at t.key) its.id) in
        let one : u ≡ t = same_Some u t (sym (subst (λ x. transaction_of x world.state ≡ Some u) same waits.found) ∙ found) in
        subst (λ (x : Transaction). x.place ≡ Out party.errand) one waits.out

    -- so its vote was not lost
    not_lost : is_lost t.place (first_word t.key).awaited ≡ false
    not_lost = subst (λ p. is_lost p (first_word t.key).awaited ≡ false) (sym was_out) (step party.errand refl) where
      step : (e : Errand) → party.errand ≡ e → is_lost (Out e) (first_word t.key).awaited ≡ false
      step errand.Vote vote = ap not (or_left (will_vote now (id_at t.key) party) _ (and_from _ _ (subst (λ x. bytes_eq x party.id ≡ true) (same_text party.id (id_at t.key) its.id) (bytes_eq-self party.id)) (and_from _ _ its.epoch (ap is_to_vote vote))))
      step errand.Idle at = refl
      step errand.Commit at = refl
      step errand.Abort at = refl

    at_here : (phase : Phase) (place : PartyPlace) (word : Word) → is_lost place word.awaited ≡ false → fits_in phase place word ≡ true → fits_in phase (Here back) word ≡ true
    at_here Active place word never is = is
    at_here Prepared place word never is = is
    at_here Committed place word never is = is
    at_here Aborted place word never is = is
    at_here Asking place word never is =
        let parts = and_parts (not word.commit) (not word.abort || is_lost place word.awaited) is in
        and_from _ _ parts.0 (elim (or_cases (not word.abort) (is_lost place word.awaited) parts.1) [
          | inl none ↦ or_left (not word.abort) _ none
          | inr lost ↦ absurd (both_ways (is_lost place word.awaited) never lost)
        ])

    abbrev here_state : State
    here_state = record world.state { transactions = changed (has_key t.key) (standing_at (Here back)) world.state.transactions }

    pub fits_here : (k : Key) → is_spelled k ≡ true → fits (transaction_of k here_state) (next_word k) ≡ true
    fits_here k fine = elim (cases_Bool (is_same t.key k)) [
      | inl same ↦
          let at = same_key t.key k same in
          let old = subst (λ o. fits o (first_word t.key) ≡ true) found (true_to.fits t.key (spelled_at world.state t spelled_all found)) in
          subst (λ x. fits (transaction_of x here_state) (next_word x) ≡ true) at (subst (λ o. fits o (next_word t.key) ≡ true) (sym (found_altered t.key world.state (standing_at (Here back)) (λ t. refl) t found)) (fits_less (Some (standing_at (Here back) t)) (next_word t.key) (first_word t.key) (back_less t.key) (at_here t.phase t.place (first_word t.key) not_lost old)))
      | inr differ ↦ subst (λ o. fits o (next_word k) ≡ true) (sym (other_found t.key world.state (standing_at (Here back)) (λ t. refl) k differ)) (fits_less (transaction_of k world.state) (next_word k) (first_word k) (back_less k) (true_to.fits k fine))
    ]

    pub given_here : (k : Key) → is_spelled k ≡ true → has_word (next_word k) ≡ true → was_given world.state k ≡ true
    given_here k fine is = true_to.given k fine (elim (or_cases (next_word k).commit (next_word k).abort is) [
      | inl commit ↦ or_left (first_word k).commit _ ((back_less k).commit commit)
      | inr abort ↦ or_right (first_word k).commit _ ((back_less k).abort abort)
    ])

    pub ours_here : (id : List ℕ) → is_named world.state.head.name rest later id ≡ true → IsOurs world.state.head.name id
    ours_here id is = true_to.ours id (elim (or_cases (list_any any_verdict (told world.state.head.name id later)) (list_any (λ (q : PartyNotes). bytes_eq id q.id) rest) is) [
      | inr out ↦ or_right (list_any any_verdict (told world.state.head.name id shown)) _ (or_right (bytes_eq id party.id) _ out)
      | inl said ↦ elim (heard any_verdict id (sym (any_told any_verdict world.state.head.name id later) ∙ said)) [
        | inl before ↦ or_left (list_any any_verdict (told world.state.head.name id shown)) _ (any_told any_verdict world.state.head.name id shown ∙ before)
        | inr will ↦ or_right (list_any any_verdict (told world.state.head.name id shown)) _ (or_left (bytes_eq id party.id) _ (and_parts (bytes_eq id party.id) _ will).0)
      ]
    ])
