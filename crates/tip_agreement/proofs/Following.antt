-- How transactions go on over the rules of two-phase commit.
use Rattle.std.proofs.Common.{◌≡◌, Bool, true, false, ℕ, List, [], ◌∷◌, Option, Some, None, cond, refl, ap, subst, sym, ◌∙◌, inl, inr}
use Rattle.std.specs.Prelude.{◌&&◌, not, is_none, is_some}
use Rattle.std.specs.List.{list_any}
use Rattle.std.proofs.lemmas.Bool.{and_from, and_parts, both_ways, not_from_false}
use Rattle.std.proofs.lemmas.Option.{none-some, same_Some}
use Rattle.tip_branch.specs.Members.{is_active}
use Rattle.tip_branch.specs.Notes.{PartyNotes}
use Rattle.tip_branch.specs.declared.member.Errand.{Errand}
use Rattle.tip_rows.specs.Keys.{Key, is_same}
use Rattle.tip_rows.specs.declared.row.Row.{Row}
use Rattle.tip_rows.proofs.MemoryLemmas.{bytes_eq-self}
use Rattle.tip_rows.proofs.OrderLemmas.{same_key}
use Rattle.tip_txn.specs.declared.answer.Phase.{Phase}
use Rattle.tip_txn.specs.declared.answer.Phase.TheVariants.{Active, Asking, Prepared, Committed, Aborted}
use Rattle.tip_machine.specs.Agreement.Verdicts.{is_commit}
use Rattle.tip_machine.specs.Answers.{identifier}
use Rattle.tip_machine.specs.Changes.{end, on}
use Rattle.tip_machine.specs.Connections.{is_on}
use Rattle.tip_machine.specs.Invariants.Links.{are_distinct}
use Rattle.tip_machine.specs.Invariants.Parties.{is_its_own}
use Rattle.tip_machine.specs.Invariants.Stored.{are_same_pairs, is_stored_as}
use Rattle.tip_machine.specs.Proceeding.{abort, commit, dispatch, enter, finish, leave, promise, release}
use Rattle.tip_machine.specs.Reactions.{Reaction, aborts, commits, needs_nothing, promises, react}
use Rattle.tip_machine.specs.States.{Attempt, State, Work, transaction_of}
use Rattle.tip_machine.specs.Transactions.{comes_from, entering, has_ready, is_done, is_spent, is_undecided, pairs, row_committed, row_in_doubt, standing_at}
use Rattle.tip_machine.specs.Types.{PartyPlace, Transaction}
use Rattle.tip_machine.specs.declared.event.Change.{Change}
use Rattle.tip_machine.specs.declared.event.Change.TheVariants.{Put, Remove}
use Rattle.tip_machine.specs.declared.transaction.Origin.TheVariants as origin
use Rattle.tip_machine.specs.declared.transaction.PartyPlace.TheVariants.{Here, Out}
use Rattle.tip_agreement.proofs.Around.{found_altered}
use Rattle.tip_agreement.proofs.Closing.{is_stoppable}
use Rattle.tip_agreement.proofs.Keys.{key_self, keys_of}
use Rattle.tip_agreement.proofs.Onward.{IsOf, Onward, Speaks, Turns, alters, before, beside, committed_row, dispatches, ends, of_none, of_put, of_remove, row_in, says, speaks_not, then}
use Rattle.tip_agreement.proofs.Proceeding.{HasLeft}
use Rattle.tip_agreement.proofs.Speaking.{IsSilent, StillFits, aborts_fits, aborts_only, aborts_ours, commits_backed, commits_fits, commits_ours, ids_differ, mute_commits, needs_nothing_silent, promises_silent, silent_fits, silent_ours, stopped_fits}

-- The row of one transaction

-- it turns to one with the same party, from the same place
pub turned_to : (store : Option Row → Option Row) (t u : Transaction) → u.place ≡ t.place → u.origin ≡ t.origin → (is_undecided u.phase ≡ true → is_undecided t.phase ≡ true) → ((r : Option Row) → is_stored_as t.phase t r ≡ true → is_stored_as u.phase u (store r) ≡ true) → Turns store (Some t) (Some u)
turned_to store t u place from live rows = record {
  rows = rows;
  was = λ is. refl;
  out = λ x e is at. (u, refl, place ∙ (ap (λ (y : Transaction). y.place) (same_Some t x is) ∙ at));
  known = λ x is unsettled. (t, refl, live (subst (λ (y : Transaction). is_undecided y.phase ≡ true) (sym (same_Some u x is)) unsettled), sym from ∙ ap (λ (y : Transaction). y.origin) (same_Some u x is));
}

-- it is over
pub turned_off : (store : Option Row → Option Row) (t : Transaction) → ((e : Errand) → t.place ≡ Out e → ⊥) → ((r : Option Row) → is_stored_as t.phase t r ≡ true → is_none (store r) ≡ true) → Turns store (Some t) None
turned_off store t within rows = record {
  rows = rows;
  was = λ is. absurd (cc);
  out = λ x e is at. absurd (within e (ap (λ (y : Transaction). y.place) (same_Some t x is) ∙ at));
  known = λ x is unsettled. absurd (none-some x is);
}

pub none_stored : (phase : Phase) → is_stoppable phase ≡ true → (t : Transaction) (r : Option Row) → is_stored_as phase t r ≡ true → is_none r ≡ true
none_stored Active can t r is = is
none_stored Asking can t r is = is
none_stored Aborted can t r is = is
none_stored Prepared can t r is = absurd (cc)
none_stored Committed can t r is = absurd (cc)

same_pairs : (ps : List (List ℕ × List ℕ)) → are_same_pairs ps ps ≡ true
same_pairs [] = refl
same_pairs (p ∷ ps) = and_from _ _ (and_from _ _ (bytes_eq-self p.0) (bytes_eq-self p.1)) (same_pairs ps)

-- its own party, where it is here
abbrev pub OwnsHere : State → Transaction → Type 0
OwnsHere s t = (party : PartyNotes) → t.place ≡ Here party → is_its_own s t (Here party) ≡ true

pub owns_here : (s : State) (t : Transaction) → is_its_own s t t.place ≡ true → OwnsHere s t
owns_here s t own party at = subst (λ p. is_its_own s t p ≡ true) at own

-- no branch of it is active
abbrev pub HasNoneActive : Transaction → Type 0
HasNoneActive t = (party : PartyNotes) → t.place ≡ Here party → list_any is_active party.members ≡ false

abbrev pub AreApart : Work → Type 0
AreApart w = are_distinct is_same (keys_of w.state.transactions) ≡ true

spent_within : (place : PartyPlace) → is_spent place ≡ true → (e : Errand) → place ≡ Out e → ⊥
spent_within place spent e at = let s : is_spent (Out e) ≡ true = subst (λ p. is_spent p ≡ true) at spent in cc

module _ (key : Key) where
  -- what a rule comes to
  abbrev pub AllOnward : Work → Attempt → Type 0
  AllOnward w (Attempt.Done v) = Onward None key w v
  AllOnward w (Attempt.Asks change stored refused) = Onward (Some change) key w stored × Onward None key w refused

  pub onward_after : (u w : Work) (a : Attempt) → Onward None key u w → AllOnward w a → AllOnward u a
  onward_after u w (Attempt.Done v) first rest = then key None u w v first rest
  onward_after u w (Attempt.Asks change stored refused) first rest = (before key (Some change) u w stored first rest.0, then key None u w refused first rest.1)

  pub reacts_onward : (reaction : Reaction) (w : Work) → Speaks None key w (react reaction key w) → Onward None key w (react reaction key w)
  unfolding react
  reacts_onward reaction w says = beside key w (react reaction key w) refl refl refl refl says

  -- where a reaction tells no verdict
  pub reacts_silently : (reaction : Reaction) (w : Work) → IsSilent reaction → Onward None key w (react reaction key w)
  unfolding react
  reacts_silently reaction w silent = reacts_onward reaction w (record { fits = λ spelled k fine before. silent_fits reaction silent key w k before; ours = λ test realm id at is. inl (silent_ours reaction silent key w test realm id is); backed = λ spelled k fine row fits is. inl (mute_commits reaction key w k (silent is_commit w.state.head.name (identifier w.state.head.name k) key) is) })

  -- where one is committed already
  pub commits_again : (w : Work) (t : Transaction) → transaction_of key w.state ≡ Some t → t.phase ≡ Committed → Onward None key w (react commits key w)
  unfolding react
  commits_again w t found committed = reacts_onward commits w (record {
    fits = λ spelled. commits_fits key w t found (spelled (ap is_some found)) committed;
    ours = λ test realm id at is. elim (commits_ours key w test realm id is) [ inl before ↦ inl before | inr now ↦ inr (now, ap is_some found) ];
    backed = λ spelled k fine row fits is. elim (commits_backed key w k (λ there. ids_differ w.state.head.name key k (spelled (ap is_some found)) fine there) is) [
      | inl told ↦ inl told
      | inr same ↦ inr (inl (committed_row t row (subst (λ f. is_stored_as f t row ≡ true) committed (subst (λ o. says o row ≡ true) found (subst (λ x. says (transaction_of x w.state) row ≡ true) (sym (same_key key k same)) fits)))))
    ];
  })

  module _ (w : Work) (t : Transaction) (found : transaction_of key w.state ≡ Some t) (apart : AreApart w) (own : OwnsHere w.state t) where
    -- the phase is entered, with what is stored
    enters : (phase : Phase) (change : Option Change) → IsOf key change → (is_undecided phase ≡ true → is_undecided t.phase ≡ true) → ((r : Option Row) → is_stored_as t.phase t r ≡ true → is_stored_as phase (entering phase t) (row_in change key r) ≡ true) → StillFits t (entering phase t) → Onward change key w (enter phase key w)
    enters phase change of live rows may = alters key change of w (entering phase) t (λ t. refl) found (turned_to (row_in change key) t (entering phase t) refl refl live rows) may

    found_entered : (phase : Phase) → transaction_of key (enter phase key w).state ≡ Some (entering phase t)
    found_entered phase = found_altered key w.state (entering phase) (λ t. refl) t found

    abbrev entered_in : Phase → Reaction → Work
    entered_in phase reaction = react reaction key (enter phase key w)

    found_in : (phase : Phase) (reaction : Reaction) → transaction_of key (entered_in phase reaction).state ≡ Some (entering phase t)
    unfolding react
    found_in phase reaction = found_altered key w.state (entering phase) (λ t. refl) t found

    tells_aborts : Onward None key (enter Aborted key w) (entered_in Aborted aborts)
    unfolding react
    tells_aborts = reacts_onward aborts (enter Aborted key w) (record { fits = λ spelled. aborts_fits key (enter Aborted key w) (entering Aborted t) (found_entered Aborted) (spelled (ap is_some (found_entered Aborted))) refl; ours = λ test realm id at is. elim (aborts_ours key (enter Aborted key w) test realm id is) [ inl before ↦ inl before | inr now ↦ inr (now, ap is_some (found_entered Aborted)) ]; backed = λ spelled k fine row fits is. inl (mute_commits aborts key (enter Aborted key w) k (aborts_only w.state.head.name (identifier w.state.head.name k) key) is) })

    own_in : (phase : Phase) (reaction : Reaction) → OwnsHere (entered_in phase reaction).state (entering phase t)
    unfolding react
    own_in phase reaction = own

    -- ABORT: no row is there any more
    pub abort_onward : (change : Option Change) → IsOf key change → ((r : Option Row) → is_stored_as t.phase t r ≡ true → is_none (row_in change key r) ≡ true) → StillFits t (entering Aborted t) → Onward change key w (abort key w)
    unfolding abort release
    abort_onward change of none may =
        let first = enters Aborted change of (λ live. absurd (cc)) none may in
        let told = then key change w (enter Aborted key w) (entered_in Aborted aborts) first tells_aborts in
        let gone = dispatches key (entered_in Aborted aborts) (entering Aborted t) (found_in Aborted aborts) (λ party at. record { own = own_in Aborted aborts party at; can = λ ready. refl; may = λ ready. refl; lets = λ none. inl refl }) in
        let sent = then key change w (entered_in Aborted aborts) (dispatch key (entered_in Aborted aborts)) told gone.onward in
        let d = dispatch key (entered_in Aborted aborts) in
        then key change w d (release key d) sent (subst (λ o. Onward None key d (on o (λ (u : Transaction) (v : Work). cond (is_spent u.place && not (list_any (is_on key) v.state.connections)) (end key v) v) d)) (sym gone.found) (step d gone.place gone.found (sent.keys apart) (is_spent gone.place && not (list_any (is_on key) d.state.connections)) refl)) where
          step : (d : Work) (place : PartyPlace) → transaction_of key d.state ≡ Some (standing_at place (entering Aborted t)) → AreApart d → (b : Bool) → (is_spent place && not (list_any (is_on key) d.state.connections)) ≡ b → Onward None key d (cond b (end key d) d)
          step d place there keys true is = ends key None (of_none key) d (standing_at place (entering Aborted t)) keys there (turned_off (λ r. r) (standing_at place (entering Aborted t)) (spent_within place (and_parts (is_spent place) _ is).0) (λ r fits. fits))
          step d place there keys false is = beside key d d refl refl refl refl (speaks_not None key d)

    pub stop_onward : is_stoppable t.phase ≡ true → Onward None key w (abort key w)
    stop_onward can = abort_onward None (of_none key) (none_stored t.phase can t) (stopped_fits t can)

    -- COMMIT
    commit_stored : (r : Option Row) → is_stored_as Committed (entering Committed t) (row_in (Some (Put key (row_committed t))) key r) ≡ true
    commit_stored r = subst (λ b. is_stored_as Committed (entering Committed t) (cond b (Some (row_committed t)) r) ≡ true) (sym (key_self key)) (same_pairs (pairs t))

    pub commit_onward : HasNoneActive t → StillFits t (entering Committed t) → Onward (Some (Put key (row_committed t))) key w (commit key w)
    unfolding commit
    commit_onward none may =
        let change = Some (Put key (row_committed t)) in
        let first = enters Committed change (of_put key (row_committed t)) (λ live. absurd (cc)) (λ r fits. commit_stored r) may in
        let told = then key change w (enter Committed key w) (entered_in Committed commits) first (commits_again (enter Committed key w) (entering Committed t) (found_entered Committed) refl) in
        let gone = dispatches key (entered_in Committed commits) (entering Committed t) (found_in Committed commits) (λ party at. record { own = own_in Committed commits party at; can = λ ready. and_from _ _ (not_from_false _ (none party at)) ready; may = λ ready. refl; lets = λ idle. inr (none party at) }) in
        then key change w (entered_in Committed commits) (dispatch key (entered_in Committed commits)) told gone.onward

    -- the promise
    promise_stored : (address superior : List ℕ) → t.origin ≡ origin.Subordinate (Some address) superior → (r : Option Row) → is_stored_as Prepared (entering Prepared t) (row_in (Some (Put key (row_in_doubt address superior t))) key r) ≡ true
    promise_stored address superior from r = subst (λ b. is_stored_as Prepared (entering Prepared t) (cond b (Some (row_in_doubt address superior t)) r) ≡ true) (sym (key_self key)) (and_from _ _ (subst (λ o. comes_from (Some address) superior o ≡ true) (sym from) (and_from _ _ (bytes_eq-self address) (bytes_eq-self superior))) (same_pairs (pairs t)))

    pub promise_onward : (address superior : List ℕ) → t.origin ≡ origin.Subordinate (Some address) superior → is_undecided t.phase ≡ true → StillFits t (entering Prepared t) → Onward (Some (Put key (row_in_doubt address superior t))) key w (promise key w)
    unfolding promise
    promise_onward address superior from live may =
        let change = Some (Put key (row_in_doubt address superior t)) in
        then key change w (enter Prepared key w) (entered_in Prepared promises) (enters Prepared change (of_put key (row_in_doubt address superior t)) (λ is. live) (λ r fits. promise_stored address superior from r) may) (reacts_silently promises (enter Prepared key w) promises_silent)

    -- READ-ONLY
    pub leave_onward : is_stoppable t.phase ≡ true → HasLeft t.place → Onward None key w (leave key w)
    unfolding leave react
    leave_onward can left =
        let told = react needs_nothing key w in
        let gone = dispatches key told t found (λ party at. record { own = own party at; can = λ ready. absurd (both_ways (has_ready party) (left.left party at) ready); may = λ ready. absurd (both_ways (has_ready party) (left.left party at) ready); lets = λ idle. inr (left.settled party at) }) in
        let sent = then key None w told (dispatch key told) (reacts_silently needs_nothing w needs_nothing_silent) gone.onward in
        then key None w (dispatch key told) (end key (dispatch key told)) sent (ends key None (of_none key) (dispatch key told) (standing_at gone.place t) (sent.keys apart) gone.found (turned_off (λ r. r) (standing_at gone.place t) (gone.stays_in left.within left.left) (λ r fits. none_stored t.phase can (standing_at gone.place t) r fits)))

    -- the end of a committed transaction
    pub finish_onward : t.key ≡ key → AllOnward w (finish t w)
    unfolding finish
    finish_onward same = step (is_done t) refl where
      removed : (r : Option Row) → is_none (row_in (Some (Remove t.key)) key r) ≡ true
      removed r = subst (λ k. is_none (row_in (Some (Remove k)) key r) ≡ true) (sym same) (subst (λ b. is_none (cond b None r) ≡ true) (sym (key_self key)) refl)

      step : (b : Bool) → is_done t ≡ b → AllOnward w (cond b (Attempt.Asks (Remove t.key) (end t.key w) w) (Attempt.Done w))
      step true done = (subst (λ k. Onward (Some (Remove k)) key w (end k w)) (sym same) (ends key (Some (Remove key)) (of_remove key) w t apart found (subst (λ k. Turns (row_in (Some (Remove k)) key) (Some t) None) same (turned_off (row_in (Some (Remove t.key)) key) t (spent_within t.place (and_parts (is_spent t.place) _ done).0) (λ r fits. removed r)))), beside key w w refl refl refl refl (speaks_not None key w))
      step false not = beside key w w refl refl refl refl (speaks_not None key w)
