-- How transactions go on where a party comes back.
use Rattle.std.proofs.Common.{◌≡◌, Bool, true, false, List, [], ◌∷◌, Option, Some, None, cond, refl, ap, subst, sym, ◌∙◌, ◌⊎◌, inl, inr}
use Rattle.std.proofs.lemmas.Bool.{and_from, cases_Bool}
use Rattle.std.proofs.lemmas.Option.{same_Some}
use Rattle.tip_branch.specs.Notes.{PartyNotes}
use Rattle.tip_branch.specs.declared.member.Errand.{Errand}
use Rattle.tip_branch.specs.declared.member.Errand.TheVariants as errand
use Rattle.tip_rows.specs.Keys.{Key, is_same}
use Rattle.tip_rows.specs.declared.row.Row.{Row}
use Rattle.tip_rows.specs.declared.row.Row.TheVariants as row
use Rattle.tip_txn.specs.Parts.{answered, changed_at}
use Rattle.tip_txn.specs.declared.answer.Phase.{Phase}
use Rattle.tip_txn.specs.declared.answer.Phase.TheVariants.{Active, Asking, Prepared, Committed, Aborted}
use Rattle.tip_txn.specs.declared.part.Participant.{Participant}
use Rattle.tip_machine.specs.Changes.{alter}
use Rattle.tip_machine.specs.Invariants.Parties.{is_its_own}
use Rattle.tip_machine.specs.Invariants.Phases.{is_party}
use Rattle.tip_machine.specs.Invariants.Stored.{is_stored_as}
use Rattle.tip_machine.specs.Proceeding.{dispatch, let_go, proceed}
use Rattle.tip_machine.specs.Invariants.Parties.{is_sent}
use Rattle.tip_machine.specs.Returns.{Back, back_of}
use Rattle.tip_rows.specs.Logs.{row_at}
use Rattle.tip_rows.proofs.OrderLemmas.{same_key}
use Rattle.tip_table.specs.Lists.{changed}
use Rattle.tip_branch.specs.Members.{is_active}
use Rattle.std.specs.List.{list_any}
use Rattle.tip_agreement.proofs.Commanded.{EndsGo, all_go}
use Rattle.tip_agreement.proofs.Known.{KnownApart, same_twice}
use Rattle.tip_agreement.proofs.Rows.{Says}
use Rattle.tip_agreement.proofs.Voting.{voted_so}
use Rattle.tip_machine.specs.Requests.{owner, settled, settled_for, strange, voted, voted_for}
use Rattle.tip_machine.specs.States.{Attempt, State, Work, transaction_of}
use Rattle.tip_machine.specs.Transactions.{has_key, has_ready, is_undecided, noting, party_answer, standing_at}
use Rattle.tip_machine.specs.Types.{PartyPlace, Transaction}
use Rattle.tip_machine.specs.declared.transaction.PartyPlace.TheVariants.{Here, Out, Spent}
use Rattle.tip_agreement.proofs.Around.{Whole, found_altered, other_found}
use Rattle.tip_agreement.proofs.Concluding.{Ready, proceed_onward, ready_of}
use Rattle.tip_agreement.proofs.Following.{AllOnward, AreApart, onward_after, turned_to}
use Rattle.tip_agreement.proofs.Keys.{keys_changed}
use Rattle.tip_agreement.proofs.Onward.{alters, lets, of_none, placed_row, says}
use Rattle.tip_agreement.proofs.Proceeding.{local_waits, may_ask_party}
use Rattle.tip_agreement.proofs.Returned.{IsAwaited, Owns, dispatched_so, out_to_abort, out_to_commit, owner_found, owns, said_at, told_none}

-- The party is here again

module _ (party : PartyNotes) (t : Transaction) (w : Work) (found : transaction_of t.key w.state ≡ Some t) (apart : AreApart w) (ready : Ready t w.state) (its : Owns party w.state t) where
  abbrev pub here : Work
  here = alter t.key (standing_at (Here party)) w

  pub found_here : transaction_of t.key here.state ≡ Some (standing_at (Here party) t)
  found_here = found_altered t.key w.state (standing_at (Here party)) (λ t. refl) t found

  apart_here : AreApart here
  apart_here = rw (keys_changed (λ u. has_key t.key u) (standing_at (Here party)) w.state.transactions (λ u. refl)) apart

  own_here : is_its_own here.state (standing_at (Here party) t) (Here party) ≡ true
  own_here = and_from _ _ its.epoch its.id

  -- it voted
  noted : Transaction
  noted = noting 0 (answered (party_answer party)) (standing_at (Here party) t)

  votes_stored : (phase : Phase) (parts : List Participant) (r : Option Row) → is_stored_as phase (record (standing_at (Here party) t) { parts = parts }) r ≡ true → is_stored_as phase (record (standing_at (Here party) t) { parts = changed_at 0 (answered (party_answer party)) parts }) r ≡ true
  votes_stored phase [] r is = is
  votes_stored phase (p ∷ parts) r is = same phase r is where
    same : (phase : Phase) (r : Option Row) → is_stored_as phase (record (standing_at (Here party) t) { parts = p ∷ parts }) r ≡ true → is_stored_as phase (record (standing_at (Here party) t) { parts = answered (party_answer party) p ∷ parts }) r ≡ true
    same Active r is = is
    same Asking r is = is
    same Aborted r is = is
    same Prepared (Some (row.Prepared address superior branches subordinates)) is = is
    same Prepared (Some (row.Committed branches subordinates)) is = is
    same Prepared None is = is
    same Committed (Some (row.Committed branches subordinates)) is = is
    same Committed (Some (row.Prepared address superior branches subordinates)) is = is
    same Committed None is = is

  waits_noted : may_ask_party (Here party) (Some (party_answer party)) ≡ true → (phase : Phase) (parts : List Participant) → local_waits phase t.place parts ≡ true → (phase ≡ Active → ⊥) → local_waits phase (Here party) (changed_at 0 (answered (party_answer party)) parts) ≡ true
  waits_noted may phase [] waits not = absurd (cc)
  waits_noted may Active (p ∷ parts) waits not = absurd (not refl)
  waits_noted may Asking (p ∷ parts) waits not = may
  waits_noted may Prepared (p ∷ parts) waits not = refl
  waits_noted may Committed (p ∷ parts) waits not = refl
  waits_noted may Aborted (p ∷ parts) waits not = refl

  waits_here : (phase : Phase) (parts : List Participant) → local_waits phase t.place parts ≡ true → (phase ≡ Committed) ⊎ (phase ≡ Aborted) → (place : PartyPlace) → local_waits phase place parts ≡ true
  waits_here phase [] waits which place = absurd (cc)
  waits_here Committed (p ∷ parts) waits which place = refl
  waits_here Aborted (p ∷ parts) waits which place = refl
  waits_here Active (p ∷ parts) waits (inl is) place = absurd (cc)
  waits_here Active (p ∷ parts) waits (inr is) place = absurd (cc)
  waits_here Asking (p ∷ parts) waits (inl is) place = absurd (cc)
  waits_here Asking (p ∷ parts) waits (inr is) place = absurd (cc)
  waits_here Prepared (p ∷ parts) waits which place = refl

  pub voted_onward : may_ask_party (Here party) (Some (party_answer party)) ≡ true → (t.phase ≡ Active → ⊥) → AllOnward t.key here (proceed t.key (alter t.key (noting 0 (answered (party_answer party))) here))
  unfolding noted
  voted_onward may not =
      let v = alter t.key (noting 0 (answered (party_answer party))) here in
      let first = alters t.key None (of_none t.key) here (noting 0 (answered (party_answer party))) (standing_at (Here party) t) (λ t. refl) found_here (turned_to (λ r. r) (standing_at (Here party) t) noted refl refl (λ is. is) (votes_stored t.phase t.parts)) (λ word is. is) in
      onward_after t.key here v (proceed t.key v) first (proceed_onward noted v (found_altered t.key here.state (noting 0 (answered (party_answer party))) (λ t. refl) (standing_at (Here party) t) found_here) (first.keys apart_here) (record { own = own_here; waits = waits_noted may t.phase t.parts ready.waits not }))

  -- it was told
  pub told_onward : (t.phase ≡ Committed) ⊎ (t.phase ≡ Aborted) → AllOnward t.key here (proceed t.key here)
  told_onward which = proceed_onward (standing_at (Here party) t) here found_here apart_here (record { own = own_here; waits = waits_here t.phase t.parts ready.waits which (Here party) })

  pub let_off_onward : list_any is_active party.members ≡ false → t.phase ≡ Committed → AllOnward t.key here (proceed t.key (let_go party t.key here))
  let_off_onward none committed =
      let v = let_go party t.key here in
      let first = lets t.key here (standing_at (Here party) t) party found_here refl own_here (inr none) in
      onward_after t.key here v (proceed t.key v) first (proceed_onward (standing_at Spent (standing_at (Here party) t)) v (found_altered t.key here.state (standing_at Spent) (λ t. refl) (standing_at (Here party) t) found_here) (first.keys apart_here) (record { own = refl; waits = waits_here t.phase t.parts ready.waits (inl committed) Spent }))

-- WHAT IT COMES TO: a stranger changes nothing; the party of a transaction is here again first

pub record CameHome (party back : PartyNotes) (w : Work) (a : Attempt) : Type 0 where
  pub transaction : Transaction
  pub found : transaction_of transaction.key w.state ≡ Some transaction
  pub its : Owns party w.state transaction
  pub goes : EndsGo (alter transaction.key (standing_at (Here back)) w) a

abbrev pub BackGoes : PartyNotes → PartyNotes → Work → Attempt → Type 0
BackGoes party back w a = (a ≡ strange back w) ⊎ CameHome party back w a

module _ (party : PartyNotes) (back : Back) (w : Work) (whole : Whole w.state) (awaited : IsAwaited party w.state) where
  stranger : BackGoes party (back_of party back) w (strange (back_of party back) w)
  stranger = inl refl

  module _ (t : Transaction) (is : owner (back_of party back) w.state ≡ Some t) where
    there : transaction_of t.key w.state ≡ Some t
    there = owner_found (back_of party back) w.state t whole is

    its : Owns (back_of party back) w.state t
    its = owns (back_of party back) w.state t is

    ready : Ready t w.state
    ready = ready_of w.state t whole there

    home : (a : Attempt) → AllOnward t.key (alter t.key (standing_at (Here (back_of party back))) w) a → BackGoes party (back_of party back) w a
    home a onward = inr (record { transaction = t; found = there; its = owns party w.state t is; goes = all_go t.key (alter t.key (standing_at (Here (back_of party back))) w) a onward })

    never_active : (place : PartyPlace) (parts : List Participant) (e : Errand) → place ≡ Out e → local_waits Active place parts ≡ true → ⊥
    never_active place [] e at waits = cc
    never_active place (q ∷ parts) e at waits = let no : is_party Active (Out e) q.answer ≡ true = subst (λ x. is_party Active x q.answer ≡ true) at waits in cc

    votes_at : party.errand ≡ errand.Vote → (place : PartyPlace) → t.place ≡ place → BackGoes party (back_of party back) w (voted_for place (back_of party back) t w)
    votes_at vote (Out errand.Vote) at = home (voted_for (Out errand.Vote) (back_of party back) t w) (voted_onward (back_of party back) t w there whole.keys ready its (voted_so party back vote (subst (λ e. is_sent e party ≡ true) vote awaited.sent)) (λ active. never_active t.place t.parts errand.Vote at (subst (λ f. local_waits f t.place t.parts ≡ true) active ready.waits)))
    votes_at vote (Out errand.Idle) at = stranger
    votes_at vote (Out errand.Commit) at = stranger
    votes_at vote (Out errand.Abort) at = stranger
    votes_at vote (Here q) at = stranger
    votes_at vote Spent at = stranger

    settles_at : (place : PartyPlace) → t.place ≡ place → BackGoes party (back_of party back) w (settled_for place (back_of party back) t w)
    settles_at (Out errand.Commit) at =
        let said = said_at (back_of party back) t w whole there its (Out errand.Commit) at in
        home (settled_for (Out errand.Commit) (back_of party back) t w) (step (out_to_commit t.phase said.0 said.1).0 (has_ready (back_of party back)) refl) where
          step : t.phase ≡ Committed → (b : Bool) → has_ready (back_of party back) ≡ b → AllOnward t.key (alter t.key (standing_at (Here (back_of party back))) w) (proceed t.key (cond b (alter t.key (standing_at (Here (back_of party back))) w) (dispatch t.key (alter t.key (standing_at (Here (back_of party back))) w))))
          step committed true ready_now = told_onward (back_of party back) t w there whole.keys ready its (inl committed)
          step committed false idle = subst (λ v. AllOnward t.key (alter t.key (standing_at (Here (back_of party back))) w) (proceed t.key v)) (sym (dispatched_so (back_of party back) t w whole there its idle)) (let_off_onward (back_of party back) t w there whole.keys ready its (told_none party back w whole awaited t is at) committed)
    settles_at (Out errand.Abort) at =
        let said = said_at (back_of party back) t w whole there its (Out errand.Abort) at in
        home (settled_for (Out errand.Abort) (back_of party back) t w) (told_onward (back_of party back) t w there whole.keys ready its (inr (out_to_abort t.phase said.0 said.1)))
    settles_at (Out errand.Vote) at = stranger
    settles_at (Out errand.Idle) at = stranger
    settles_at (Here q) at = stranger
    settles_at Spent at = stranger

  pub votes_back : party.errand ≡ errand.Vote → BackGoes party (back_of party back) w (voted (owner (back_of party back) w.state) (back_of party back) w)
  unfolding voted
  votes_back vote = step (owner (back_of party back) w.state) refl where
    step : (found : Option Transaction) → owner (back_of party back) w.state ≡ found → BackGoes party (back_of party back) w (voted found (back_of party back) w)
    step None is = stranger
    step (Some t) is = votes_at t is vote t.place refl

  pub settles_back : BackGoes party (back_of party back) w (settled (owner (back_of party back) w.state) (back_of party back) w)
  unfolding settled
  settles_back = step (owner (back_of party back) w.state) refl where
    step : (found : Option Transaction) → owner (back_of party back) w.state ≡ found → BackGoes party (back_of party back) w (settled found (back_of party back) w)
    step None is = stranger
    step (Some t) is = settles_at t is t.place refl

-- It is here: its row, and what is known

module _ (t : Transaction) (place : PartyPlace) (s : State) (found : transaction_of t.key s ≡ Some t) where
  abbrev pub placed : State
  placed = record s { transactions = changed (has_key t.key) (standing_at place) s.transactions }

  record Was (k : Key) (u : Transaction) : Type 0 where
    old : Transaction
    found_old : transaction_of k s ≡ Some old
    origin : old.origin ≡ u.origin
    phase : old.phase ≡ u.phase

  was_so : (k : Key) (u : Transaction) → transaction_of k placed ≡ Some u → Was k u
  was_so k u is = elim (cases_Bool (is_same t.key k)) [
    | inl same ↦
        let at = same_key t.key k same in
        let now = same_Some (standing_at place t) u (sym (found_altered t.key s (standing_at place) (λ t. refl) t found) ∙ subst (λ x. transaction_of x placed ≡ Some u) (sym at) is) in
        record { old = t; found_old = subst (λ x. transaction_of x s ≡ Some t) at found; origin = ap (λ (x : Transaction). x.origin) now; phase = ap (λ (x : Transaction). x.phase) now }
    | inr differ ↦ record { old = u; found_old = sym (other_found t.key s (standing_at place) (λ t. refl) k differ) ∙ is; origin = refl; phase = refl }
  ]

  pub placed_known : KnownApart s → KnownApart placed
  placed_known known k l x y differ this that first second =
      let a = was_so k x this in
      let b = was_so l y that in
      same_twice x a.old b.old y.origin (sym a.origin) b.origin (known k l a.old b.old differ a.found_old b.found_old (subst (λ f. is_undecided f ≡ true) (sym a.phase) first) (subst (λ f. is_undecided f ≡ true) (sym b.phase) second))

  pub placed_says : (rows : List (Key × Row)) → Says s rows → Says placed rows
  placed_says rows says_all k = elim (cases_Bool (is_same t.key k)) [
    | inl same ↦ subst (λ x. says (transaction_of x placed) (row_at x rows) ≡ true) (same_key t.key k same) (subst (λ o. says o (row_at t.key rows) ≡ true) (sym (found_altered t.key s (standing_at place) (λ t. refl) t found)) (placed_row place t t.phase (row_at t.key rows) (subst (λ o. says o (row_at t.key rows) ≡ true) found (says_all t.key))))
    | inr differ ↦ subst (λ o. says o (row_at k rows) ≡ true) (sym (other_found t.key s (standing_at place) (λ t. refl) k differ)) (says_all k)
  ]
