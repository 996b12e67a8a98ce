-- A party that comes back from its errand leaves a realm whole.
use Rattle.std.proofs.Common.{◌≡◌, Bool, true, false, ℕ, ◌+◌, List, [], ◌∷◌, Option, Some, None, cond, refl, subst, sym}
use Rattle.std.specs.Prelude.{◌==◌, find, length, not}
use Rattle.std.specs.List.{list_any}
use Rattle.std.proofs.lemmas.Bool.{and_from, and_parts, not-true, not_from_false}
use Rattle.std.proofs.lemmas.Option.{none-some}
use Rattle.tip_branch.specs.Members.{is_active}
use Rattle.tip_branch.specs.Notes.{PartyNotes}
use Rattle.tip_branch.specs.declared.member.Errand.{Errand}
use Rattle.tip_branch.specs.declared.member.Errand.TheVariants as errand
use Rattle.tip_rows.specs.Keys.{Key}
use Rattle.tip_txn.specs.Parts.{answered, changed_at}
use Rattle.tip_txn.specs.declared.answer.Ballot.{Ballot}
use Rattle.tip_txn.specs.declared.answer.Ballot.TheVariants.{Yes, No, ReadOnly, Lost}
use Rattle.tip_txn.specs.declared.answer.Decision.TheVariants as decisions
use Rattle.tip_txn.specs.declared.answer.Phase.{Phase}
use Rattle.tip_txn.specs.declared.answer.Phase.TheVariants.{Active, Asking, Prepared, Committed, Aborted}
use Rattle.tip_txn.specs.declared.part.Participant.{Participant}
use Rattle.tip_machine.specs.Changes.{alter, on}
use Rattle.tip_machine.specs.Connections.{is_superior_of}
use Rattle.tip_machine.specs.Invariants.Links.{Link, link}
use Rattle.tip_machine.specs.Invariants.Parties.{are_unasked, is_its_own, is_out_for, is_sent}
use Rattle.tip_machine.specs.Invariants.Phases.{has_come_to, is_part_in, is_party, is_superior, is_transaction}
use Rattle.tip_machine.specs.Proceeding.{dispatch, dispatched, let_go, proceed}
use Rattle.tip_machine.specs.Requests.{owner, settled, settled_for, voted, voted_for}
use Rattle.tip_machine.specs.Returns.{Back, back_of}
use Rattle.tip_machine.specs.States.{State, Work, identified_by, transaction_of}
use Rattle.tip_machine.specs.Transactions.{decision_of, has_id, has_key, has_ready, noting, party_answer, standing_at}
use Rattle.tip_machine.specs.Types.{Connection, PartyPlace, Transaction}
use Rattle.tip_machine.specs.declared.transaction.PartyPlace.TheVariants.{Here, Out, Spent}
use Rattle.tip_machine.proofs.Walks.{found_passes}
use Rattle.tip_agreement.proofs.Aborting.{may_abort_part, may_abort_party}
use Rattle.tip_agreement.proofs.Apart.{all_found}
use Rattle.tip_agreement.proofs.Around.{Around, Whole, alter_around, around_of, found_altered, le_self}
use Rattle.tip_agreement.proofs.Closing.{noted_length, stoppable_above, stoppable_parts}
use Rattle.tip_agreement.proofs.Deciding.{may_commit_part}
use Rattle.tip_agreement.proofs.Owned.{InPhase, have_parts, in_phase, parts_from}
use Rattle.tip_agreement.proofs.Proceeding.{AllWhole, may_ask_part, may_ask_party, proceed_whole}
use Rattle.tip_agreement.proofs.Proceeding.Follows.{OfAsking, OfCommitted, OfAborted}
use Rattle.tip_agreement.proofs.Responding.{before_part, commit_agreed}
use Rattle.tip_agreement.proofs.Sound.{found_by}
use Rattle.tip_agreement.proofs.Voting.{committed_none, voted_so}

-- whose party it is
pub record Owns (party : PartyNotes) (s : State) (t : Transaction) : Type 0 where
  pub epoch : (party.epoch == s.head.epoch) ≡ true
  pub id : has_id s.head.name party.id t ≡ true

pub owns : (party : PartyNotes) (s : State) (t : Transaction) → owner party s ≡ Some t → Owns party s t
owns party s t is = step (party.epoch == s.head.epoch) refl is where
  step : (b : Bool) → (party.epoch == s.head.epoch) ≡ b → cond b (identified_by party.id s) None ≡ Some t → Owns party s t
  step true epoch is = record { epoch = epoch; id = found_passes (has_id s.head.name party.id) s.transactions t is }
  step false epoch is = absurd (none-some t is)

pub owner_found : (party : PartyNotes) (s : State) (t : Transaction) → Whole s → owner party s ≡ Some t → transaction_of t.key s ≡ Some t
owner_found party s t whole is = step (party.epoch == s.head.epoch) is where
  step : (b : Bool) → cond b (identified_by party.id s) None ≡ Some t → transaction_of t.key s ≡ Some t
  step true is = found_by (has_id s.head.name party.id) s t whole is
  step false is = absurd (none-some t is)

-- In which phase a party is out, and what its answer was

pub out_to_commit : (phase : Phase) (answer : Option Ballot) → is_party phase (Out errand.Commit) answer ≡ true → (phase ≡ Committed) × (answer ≡ Some Yes)
out_to_commit Committed (Some Yes) is = (refl, refl)
out_to_commit Committed None is = absurd (cc)
out_to_commit Committed (Some No) is = absurd (cc)
out_to_commit Committed (Some ReadOnly) is = absurd (cc)
out_to_commit Committed (Some Lost) is = absurd (cc)
out_to_commit Active answer is = absurd (cc)
out_to_commit Asking answer is = absurd (cc)
out_to_commit Prepared answer is = absurd (cc)
out_to_commit Aborted answer is = absurd (cc)

pub out_to_abort : (phase : Phase) (answer : Option Ballot) → is_party phase (Out errand.Abort) answer ≡ true → phase ≡ Aborted
out_to_abort Aborted answer is = refl
out_to_abort Active answer is = absurd (cc)
out_to_abort Asking answer is = absurd (cc)
out_to_abort Prepared answer is = absurd (cc)
out_to_abort Committed answer is = absurd (cc)

-- with another local answer, and the party elsewhere
parts_anew : (f : Participant → Participant) (table table' : Link → Participant → Bool) (party party' : PartyPlace → Option Ballot → Bool) (place place' : PartyPlace) (parts : List Participant) (key : Key) (cs : List Connection) → ((l : Link) (p : Participant) → table l p ≡ true → table' l p ≡ true) → ((p : Participant) → party place p.answer ≡ true → party' place' (f p).answer ≡ true) → have_parts table party place parts key cs ≡ true → have_parts table' party' place' (changed_at 0 f parts) key cs ≡ true
parts_anew f table table' party party' place place' [] key cs more local all = absurd (cc)
parts_anew f table table' party party' place place' (p ∷ parts) key cs more local all = let both = and_parts (party place p.answer) (parts_from table 1 parts key cs) all in and_from _ _ (local p both.0) (beyond 1 parts both.1) where
  beyond : (start : ℕ) (parts : List Participant) → parts_from table start parts key cs ≡ true → parts_from table' start parts key cs ≡ true
  beyond start [] all = refl
  beyond start (q ∷ parts) all = let both = and_parts (table _ q) (parts_from table (start + 1) parts key cs) all in and_from _ _ (more _ q both.0) (beyond (start + 1) parts both.1)

module _ (party : PartyNotes) (t : Transaction) (w : Work) (whole : Whole w.state) (found : transaction_of t.key w.state ≡ Some t) (its : Owns party w.state t) where
  known : InPhase t.key t w.state
  known = in_phase t.key t w.state found (all_found (is_transaction w.state) (has_key t.key) w.state.transactions t whole.transactions found)

  abbrev here : Work
  here = alter t.key (standing_at (Here party)) w

  around_here : Around t.key here.state
  around_here = alter_around t.key w.state (standing_at (Here party)) (λ t. refl) (λ t. le_self (length t.parts)) (around_of t.key w.state whole)

  found_here : transaction_of t.key here.state ≡ Some (standing_at (Here party) t)
  found_here = found_altered t.key w.state (standing_at (Here party)) (λ t. refl) t found

  own_here : is_its_own w.state t (Here party) ≡ true
  own_here = and_from _ _ its.epoch its.id

  -- VOTED

  abbrev answered_now : Work
  answered_now = alter t.key (noting 0 (answered (party_answer party))) here

  around_answered : Around t.key answered_now.state
  around_answered = alter_around t.key here.state (noting 0 (answered (party_answer party))) (λ t. refl) (λ t. noted_length 0 (answered (party_answer party)) t.parts) around_here

  abbrev answered_one : Transaction
  answered_one = noting 0 (answered (party_answer party)) (standing_at (Here party) t)

  found_answered : transaction_of t.key answered_now.state ≡ Some answered_one
  found_answered = found_altered t.key here.state (noting 0 (answered (party_answer party))) (λ t. refl) (standing_at (Here party) t) found_here

  voted_asking : may_ask_party (Here party) (Some (party_answer party)) ≡ true → t.phase ≡ Asking → AllWhole (proceed t.key answered_now)
  voted_asking may asking = proceed_whole t.key answered_one answered_now found_answered around_answered (OfAsking asking (record {
    found = found_answered;
    above = subst (λ f. is_superior f t.origin (link (find (is_superior_of t.key) w.state.connections)) ≡ true) asking known.owned.above;
    parts = parts_anew (answered (party_answer party)) (is_part_in t.phase) may_ask_part (is_party t.phase) may_ask_party t.place (Here party) t.parts t.key w.state.connections (λ l p fits. before_part Asking refl l p (subst (λ f. is_part_in f l p ≡ true) asking fits)) (λ p fits. may) known.owned.parts;
    own = own_here;
  }))

  voted_aborted : t.phase ≡ Aborted → AllWhole (proceed t.key answered_now)
  voted_aborted aborted = proceed_whole t.key answered_one answered_now found_answered around_answered (OfAborted aborted (record {
    found = found_answered;
    above = stoppable_above Aborted refl t.origin _ (subst (λ f. is_superior f t.origin (link (find (is_superior_of t.key) w.state.connections)) ≡ true) aborted known.owned.above);
    parts = parts_anew (answered (party_answer party)) (is_part_in t.phase) may_abort_part (is_party t.phase) may_abort_party t.place (Here party) t.parts t.key w.state.connections (λ l p fits. stoppable_parts Aborted refl l p (subst (λ f. is_part_in f l p ≡ true) aborted fits)) (λ p fits. refl) known.owned.parts;
    own = own_here;
  }))

  -- SETTLED

  commit_here : (place : PartyPlace) → ((answer : Option Ballot) → is_party Committed (Out errand.Commit) answer ≡ true → is_party Committed place answer ≡ true) → t.place ≡ Out errand.Commit → t.phase ≡ Committed → have_parts may_commit_part (is_party Committed) place t.parts t.key w.state.connections ≡ true
  commit_here place fits at committed = party_there (λ l p fits. before_part Committed refl l p (subst (λ f. is_part_in f l p ≡ true) committed fits)) (λ answer is. fits answer (subst (λ q. is_party Committed q answer ≡ true) at (subst (λ f. is_party f t.place answer ≡ true) committed is))) t.parts known.owned.parts where
    party_there : ((l : Link) (p : Participant) → is_part_in t.phase l p ≡ true → may_commit_part l p ≡ true) → ((answer : Option Ballot) → is_party t.phase t.place answer ≡ true → is_party Committed place answer ≡ true) → (parts : List Participant) → have_parts (is_part_in t.phase) (is_party t.phase) t.place parts t.key w.state.connections ≡ true → have_parts may_commit_part (is_party Committed) place parts t.key w.state.connections ≡ true
    party_there more local [] all = absurd (cc)
    party_there more local (p ∷ parts) all = parts_anew (λ p. p) (is_part_in t.phase) may_commit_part (is_party t.phase) (is_party Committed) t.place place (p ∷ parts) t.key w.state.connections more (λ p. local p.answer) all

  agreed_still : t.phase ≡ Committed → decision_of t ≡ decisions.Commit
  agreed_still committed = commit_agreed (decision_of t) (subst (λ f. has_come_to f (decision_of t) ≡ true) committed known.come)

  above_committed : t.phase ≡ Committed → is_superior Committed t.origin (link (find (is_superior_of t.key) w.state.connections)) ≡ true
  above_committed committed = subst (λ f. is_superior f t.origin (link (find (is_superior_of t.key) w.state.connections)) ≡ true) committed known.owned.above

  -- a branch asked to be told again
  told_later : has_ready party ≡ true → list_any is_active party.members ≡ false → t.place ≡ Out errand.Commit → t.phase ≡ Committed → AllWhole (proceed t.key here)
  told_later ready settled at committed = proceed_whole t.key (standing_at (Here party) t) here found_here around_here (OfCommitted committed (agreed_still committed) (record {
    found = found_here;
    above = above_committed committed;
    parts = commit_here (Here party) (λ answer is. promised answer (out_to_commit Committed answer is).1) at committed;
    own = own_here;
  })) where
    promised : (answer : Option Ballot) → answer ≡ Some Yes → is_party Committed (Here party) answer ≡ true
    promised answer is = rw is (and_from _ _ (not_from_false _ settled) ready)

  abbrev spent : Work
  spent = let_go party t.key here

  let_off : t.place ≡ Out errand.Commit → t.phase ≡ Committed → AllWhole (proceed t.key spent)
  let_off at committed =
      let gone = found_altered t.key here.state (standing_at Spent) (λ t. refl) (standing_at (Here party) t) found_here in
      proceed_whole t.key (standing_at Spent (standing_at (Here party) t)) spent gone (alter_around t.key here.state (standing_at Spent) (λ t. refl) (λ t. le_self (length t.parts)) around_here) (OfCommitted committed (agreed_still committed) (record {
        found = gone;
        above = above_committed committed;
        parts = commit_here Spent (λ answer is. rw (out_to_commit Committed answer is).1 refl) at committed;
        own = refl;
      }))

  pub dispatched_so : has_ready party ≡ false → dispatch t.key here ≡ spent
  unfolding dispatch
  dispatched_so none = subst (λ o. on o (λ (u : Transaction). dispatched u.place u.phase t.key) here ≡ spent) (sym found_here) (rw none refl)

  settled_commit : list_any is_active party.members ≡ false → t.place ≡ Out errand.Commit → t.phase ≡ Committed → AllWhole (settled_for (Out errand.Commit) party t w)
  settled_commit settled at committed = step (has_ready party) refl where
    step : (b : Bool) → has_ready party ≡ b → AllWhole (proceed t.key (cond b here (dispatch t.key here)))
    step true ready = told_later ready settled at committed
    step false none = subst (λ v. AllWhole (proceed t.key v)) (sym (dispatched_so none)) (let_off at committed)

  settled_abort : t.phase ≡ Aborted → AllWhole (proceed t.key here)
  settled_abort aborted = proceed_whole t.key (standing_at (Here party) t) here found_here around_here (OfAborted aborted (record {
    found = found_here;
    above = stoppable_above Aborted refl t.origin _ (subst (λ f. is_superior f t.origin (link (find (is_superior_of t.key) w.state.connections)) ≡ true) aborted known.owned.above);
    parts = abort_there t.parts known.owned.parts;
    own = own_here;
  })) where
    abort_there : (parts : List Participant) → have_parts (is_part_in t.phase) (is_party t.phase) t.place parts t.key w.state.connections ≡ true → have_parts may_abort_part may_abort_party (Here party) parts t.key w.state.connections ≡ true
    abort_there [] all = absurd (cc)
    abort_there (p ∷ parts) all = parts_anew (λ p. p) (is_part_in t.phase) may_abort_part (is_party t.phase) may_abort_party t.place (Here party) (p ∷ parts) t.key w.state.connections (λ l p fits. stoppable_parts Aborted refl l p (subst (λ f. is_part_in f l p ≡ true) aborted fits)) (λ p fits. refl) all

  -- as its place says
  abbrev pub IsParty : PartyPlace → Type 0
  IsParty place = (answer : Option Ballot) × (is_party t.phase place answer ≡ true)

  party_said : IsParty t.place
  party_said = of_parts t.parts known.owned.parts where
    of_parts : (parts : List Participant) → have_parts (is_part_in t.phase) (is_party t.phase) t.place parts t.key w.state.connections ≡ true → IsParty t.place
    of_parts [] all = absurd (cc)
    of_parts (p ∷ parts) all = (p.answer, (and_parts (is_party t.phase t.place p.answer) (parts_from (is_part_in t.phase) 1 parts t.key w.state.connections) all).0)

  pub said_at : (place : PartyPlace) → t.place ≡ place → IsParty place
  said_at place at = subst IsParty at party_said

  voted_in : may_ask_party (Here party) (Some (party_answer party)) ≡ true → (phase : Phase) → t.phase ≡ phase → (answer : Option Ballot) → is_party phase (Out errand.Vote) answer ≡ true → AllWhole (proceed t.key answered_now)
  voted_in may Asking is answer fits = voted_asking may is
  voted_in may Aborted is answer fits = voted_aborted is
  voted_in may Active is answer fits = absurd (cc)
  voted_in may Prepared is answer fits = absurd (cc)
  voted_in may Committed is answer fits = absurd (cc)

  pub voted_at : may_ask_party (Here party) (Some (party_answer party)) ≡ true → (place : PartyPlace) → t.place ≡ place → AllWhole (voted_for place party t w)
  voted_at may (Out errand.Vote) at = let so = said_at (Out errand.Vote) at in voted_in may t.phase refl so.0 so.1
  voted_at may (Out errand.Idle) at = whole
  voted_at may (Out errand.Commit) at = whole
  voted_at may (Out errand.Abort) at = whole
  voted_at may (Here p) at = whole
  voted_at may Spent at = whole

  pub settled_at : (t.place ≡ Out errand.Commit → list_any is_active party.members ≡ false) → (place : PartyPlace) → t.place ≡ place → AllWhole (settled_for place party t w)
  settled_at settled (Out errand.Commit) at = let so = said_at (Out errand.Commit) at in settled_commit (settled at) at (out_to_commit t.phase so.0 so.1).0
  settled_at settled (Out errand.Abort) at = let so = said_at (Out errand.Abort) at in settled_abort (out_to_abort t.phase so.0 so.1)
  settled_at settled (Out errand.Vote) at = whole
  settled_at settled (Out errand.Idle) at = whole
  settled_at settled (Here p) at = whole
  settled_at settled Spent at = whole

-- A party that was sent, and is awaited

pub record IsAwaited (party : PartyNotes) (s : State) : Type 0 where
  pub sent : is_sent party.errand party ≡ true
  pub due : (t : Transaction) → owner party s ≡ Some t → is_out_for party.errand t.place ≡ true

pub awaited_at : (e : Errand) (at : Errand) → is_out_for e (Out at) ≡ true → e ≡ at
awaited_at errand.Vote errand.Vote is = refl
awaited_at errand.Commit errand.Commit is = refl
awaited_at errand.Abort errand.Abort is = refl
awaited_at e at is = absurd (cc)

module _ (party : PartyNotes) (back : Back) (w : Work) (whole : Whole w.state) (awaited : IsAwaited party w.state) where
  pub voted_whole : party.errand ≡ errand.Vote → AllWhole (voted (owner (back_of party back) w.state) (back_of party back) w)
  unfolding voted
  voted_whole vote = step (owner (back_of party back) w.state) refl where
    unasked : are_unasked party ≡ true
    unasked = subst (λ e. is_sent e party ≡ true) vote awaited.sent

    step : (found : Option Transaction) → owner (back_of party back) w.state ≡ found → AllWhole (voted found (back_of party back) w)
    step None is = whole
    step (Some t) is = voted_at (back_of party back) t w whole (owner_found (back_of party back) w.state t whole is) (owns (back_of party back) w.state t is) (voted_so party back vote unasked) t.place refl

  -- one that was told to commit has no active branch
  pub told_none : (t : Transaction) → owner party w.state ≡ Some t → t.place ≡ Out errand.Commit → list_any is_active (back_of party back).members ≡ false
  told_none t is at =
      let same = awaited_at party.errand errand.Commit (subst (λ p. is_out_for party.errand p ≡ true) at (awaited.due t is)) in
      committed_none party back same (not-true _ (and_parts (not (list_any is_active party.members)) (has_ready party) (subst (λ e. is_sent e party ≡ true) same awaited.sent)).0)

  pub settled_whole : AllWhole (settled (owner (back_of party back) w.state) (back_of party back) w)
  unfolding settled
  settled_whole = step (owner (back_of party back) w.state) refl where
    step : (found : Option Transaction) → owner (back_of party back) w.state ≡ found → AllWhole (settled found (back_of party back) w)
    step None is = whole
    step (Some t) is = settled_at (back_of party back) t w whole (owner_found (back_of party back) w.state t whole is) (owns (back_of party back) w.state t is) (told_none t is) t.place refl
