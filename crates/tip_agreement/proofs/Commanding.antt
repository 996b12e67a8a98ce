-- PREPARE, COMMIT and ABORT of a superior leave a realm whole.
use Rattle.std.proofs.Common.{◌≡◌, Bool, true, false, ℕ, List, [], ◌∷◌, Option, Some, None, cond, refl, ap, subst, sym, ◌∙◌}
use Rattle.std.specs.Prelude.{◌||◌, ◌==◌}
use Rattle.std.proofs.lemmas.Bool.{and_from, both_ways, or_left}
use Rattle.tip_conn.specs.declared.state.Side.TheVariants.{Secondary}
use Rattle.tip_conn.specs.declared.state.State.{State as ConnectionState}
use Rattle.tip_conn.specs.declared.state.State.TheVariants as state
use Rattle.tip_line.specs.declared.command.CommandName.{CommandName}
use Rattle.tip_line.specs.declared.command.CommandName.TheVariants as command
use Rattle.tip_table.specs.Lists.{changed, without}
use Rattle.tip_txn.specs.declared.answer.Ballot.{Ballot}
use Rattle.tip_txn.specs.declared.answer.Ballot.TheVariants.{Yes, ReadOnly}
use Rattle.tip_txn.specs.declared.answer.Decision.{Decision}
use Rattle.tip_txn.specs.declared.answer.Decision.TheVariants as decisions
use Rattle.tip_txn.specs.declared.answer.Phase.{Phase}
use Rattle.tip_txn.specs.declared.answer.Phase.TheVariants.{Active, Asking, Prepared, Committed, Aborted}
use Rattle.tip_txn.specs.declared.part.Participant.{Participant}
use Rattle.tip_machine.specs.Changes.{change, tell}
use Rattle.tip_machine.specs.Commands.{decide_abort, decide_commit, prepare}
use Rattle.tip_machine.specs.Connections.{has_number, owing}
use Rattle.tip_machine.specs.Failing.{closed, fail, gone, missed}
use Rattle.tip_machine.specs.Invariants.Links.{Link}
use Rattle.tip_machine.specs.Invariants.Links.Link.{Gone, Owes, Awaits}
use Rattle.tip_machine.specs.Invariants.Phases.{has_come_to, has_its_address, is_same_address, is_part, is_part_in, is_party, is_superior}
use Rattle.tip_machine.specs.States.{Work, connection_of, transaction_of}
use Rattle.tip_machine.specs.Transactions.{decision_of}
use Rattle.tip_machine.specs.Types.{Connection, PartyPlace, Transaction}
use Rattle.tip_machine.specs.declared.answer.Item.TheVariants.{Close}
use Rattle.tip_machine.specs.declared.connection.Role.TheVariants.{Superior}
use Rattle.tip_machine.specs.declared.transaction.Origin.{Origin}
use Rattle.tip_machine.specs.declared.transaction.Origin.TheVariants as origin
use Rattle.tip_machine.specs.declared.transaction.PartyPlace.TheVariants.{Here, Out, Spent}
use Rattle.tip_agreement.proofs.Aborting.{aborted_whole, may_abort, may_abort_above, may_abort_part, may_abort_party}
use Rattle.tip_agreement.proofs.Around.{Whole}
use Rattle.tip_agreement.proofs.Closing.{above_there, closed_whole, in_table, is_stoppable}
use Rattle.tip_agreement.proofs.Deciding.{commit_whole, may_commit, may_commit_above, may_commit_part}
use Rattle.tip_agreement.proofs.Obeying.{abort_from, abort_owed, aborted_from, active_ask_part, active_from, around_owed, ask_whole, is_enlisted_state, link_was, prepare_from, owed, owned_owed, was}
use Rattle.tip_agreement.proofs.Proceeding.{AllWhole, may_ask_part}

-- Where it hangs up after all, nothing is owed any more

pub same_without : (n : ℕ) (f : Connection → Connection) (cs : List Connection) → ((c : Connection) → (f c).number ≡ c.number) → without (has_number n) (changed (has_number n) f cs) ≡ without (has_number n) cs
same_without n f [] same = refl
same_without n f (c ∷ cs) same = step (has_number n c) refl (same_without n f cs same) where
  step : (b : Bool) → has_number n c ≡ b → without (has_number n) (changed (has_number n) f cs) ≡ without (has_number n) cs → without (has_number n) (cond b (f c ∷ cs) (c ∷ changed (has_number n) f cs)) ≡ cond b cs (c ∷ without (has_number n) cs)
  step true is rest = subst (λ b. cond b cs (f c ∷ without (has_number n) cs) ≡ cs) (sym (ap (λ m. m == n) (same c) ∙ is)) refl
  step false is rest = rw is (ap (λ ds. c ∷ ds) rest)

closed_after : (c : Connection) (name : CommandName) (w : Work) → closed c (change c.number (owing name) w) ≡ closed c w
unfolding closed fail gone
closed_after c name w = ap (missed c.role) (λ i. record (gone c (tell c.number Close w)) { state = record w.state { connections = same_without c.number (owing name) w.state.connections (λ d. refl) i } })

-- In doubt

prepared_commit : (link : Link) (answer : Option Ballot) → is_part Prepared link answer ≡ true → (may_commit link answer ≡ true) × (may_abort link answer ≡ true)
prepared_commit (Awaits state.Prepared None) (Some Yes) is = (refl, refl)
prepared_commit Gone (Some Yes) is = (refl, refl)
prepared_commit Gone (Some ReadOnly) is = (refl, refl)
prepared_commit link answer is = absurd (cc)

told_none : (b : Bool) → b || false ≡ true → b ≡ true
told_none true is = refl
told_none false is = is

doubt_commits : (link : Link) (part : Participant) → is_part_in Prepared link part ≡ true → may_commit_part link part ≡ true
doubt_commits link part is = let a = in_table Prepared link part is in and_from _ _ (and_from _ _ (prepared_commit link part.answer a.fits).0 (or_left _ _ (told_none _ a.told))) a.named

pub doubt_aborts : (link : Link) (part : Participant) → is_part_in Prepared link part ≡ true → may_abort_part link part ≡ true
doubt_aborts link part is = let a = in_table Prepared link part is in and_from _ _ (and_from _ _ (prepared_commit link part.answer a.fits).1 (told_none _ a.told)) a.named

pub doubt_party : (place : PartyPlace) (answer : Option Ballot) → is_party Prepared place answer ≡ true → may_abort_party place answer ≡ true
doubt_party (Here party) answer is = refl
doubt_party Spent answer is = refl
doubt_party (Out errand) answer is = absurd (cc)

doubt_from : (from : Origin) (at : ConnectionState) (owed : Option CommandName) → is_superior Prepared from (Owes at owed) ≡ true → (may_commit_above from (Owes at (Some command.Commit)) ≡ true) × (may_abort_above from (Owes at (Some command.Abort)) ≡ true)
doubt_from (origin.Subordinate (Some address) superior) state.Prepared None is = (refl, refl)
doubt_from from at owed is = absurd (cc)

doubt_apart : (from : Origin) (at : ConnectionState) (owed : Option CommandName) → is_superior Prepared from (Owes at owed) ≡ true → is_enlisted_state at ≡ false
doubt_apart (origin.Subordinate (Some address) superior) state.Prepared None is = refl
doubt_apart from at owed is = absurd (cc)

doubt_agreed : (d : Decision) → has_come_to Prepared d ≡ true → d ≡ decisions.Commit
doubt_agreed decisions.Commit is = refl
doubt_agreed decisions.Wait is = absurd (cc)
doubt_agreed decisions.Abort is = absurd (cc)
doubt_agreed decisions.ReadOnly is = absurd (cc)

never_asking : (from : Origin) (at : ConnectionState) → is_superior Asking from (Owes at None) ≡ true → ⊥
never_asking origin.Root state.Begun is = cc
never_asking (origin.Subordinate (Some address) superior) state.Enlisted is = cc
never_asking (origin.Subordinate address superior) state.Enlisted is = cc
never_asking from at is = cc

never_committed : (from : Origin) (at : ConnectionState) (owed : Option CommandName) → is_superior Committed from (Owes at owed) ≡ true → ⊥
never_committed from at owed is = cc

module _ (t : Transaction) (c : Connection) (w : Work) (whole : Whole w.state) (there : connection_of c.number w.state ≡ Some c) (found : transaction_of t.key w.state ≡ Some t) (on : c.role ≡ Some (Superior t.key)) (side : c.side ≡ Secondary) (silent : c.owed ≡ None) where
  above_as : (name : CommandName) (phase : Phase) → t.phase ≡ phase → is_superior phase t.origin (Owes c.state c.owed) ≡ true
  above_as name phase is = subst (λ f. is_superior f t.origin (Owes c.state c.owed) ≡ true) is (link_was t.key t c w whole there found on side name)

  hangs_up : (name : CommandName) → Whole (closed c (owed t.key t c w whole there found on side name)).state
  hangs_up name = subst (λ v. Whole v.state) (sym (closed_after c name w)) (closed_whole c w whole there)

  pub commit_obeyed : (phase : Phase) → t.phase ≡ phase → AllWhole (decide_commit phase c t (owed t.key t c w whole there found on side command.Commit))
  commit_obeyed Active is =
      let from = abort_from c.state t.origin (active_from t.origin c.state c.owed (above_as command.Commit Active is)) in
      ask_whole t (owed t.key t c w whole there found on side command.Commit) (is_superior Asking t.origin) (around_owed t.key t c w whole there found on side command.Commit) (λ l fits. fits)
      (owned_owed t.key t c w whole there found on side command.Commit (is_superior Asking t.origin) may_ask_part (is_party Active) from.2 (λ l p fits. active_ask_part l p (subst (λ f. is_part_in f l p ≡ true) is fits)) (λ answer fits. subst (λ f. is_party f t.place answer ≡ true) is fits))
  commit_obeyed Asking is = absurd (never_asking t.origin c.state (subst (λ o. is_superior Asking t.origin (Owes c.state o) ≡ true) silent (above_as command.Commit Asking is)))
  commit_obeyed Prepared is = (
    commit_whole t.key t (owed t.key t c w whole there found on side command.Commit) (doubt_agreed (decision_of t) (subst (λ f. has_come_to f (decision_of t) ≡ true) is (was t.key t c w whole there found on side command.Commit).come)) (around_owed t.key t c w whole there found on side command.Commit)
        (owned_owed t.key t c w whole there found on side command.Commit (may_commit_above t.origin) may_commit_part (is_party Prepared) (doubt_from t.origin c.state c.owed (above_as command.Commit Prepared is)).0 (λ l p fits. doubt_commits l p (subst (λ f. is_part_in f l p ≡ true) is fits)) (λ answer fits. subst (λ f. is_party f t.place answer ≡ true) is fits)),
    hangs_up command.Commit,
  )
  commit_obeyed Committed is = absurd (never_committed t.origin c.state c.owed (above_as command.Commit Committed is))
  commit_obeyed Aborted is = abort_owed t.key t c w whole there found on side command.Commit (ap is_stoppable is) (abort_from c.state t.origin (aborted_from t.origin c.state c.owed (above_as command.Commit Aborted is))).1

  pub abort_obeyed : (phase : Phase) → t.phase ≡ phase → AllWhole (decide_abort phase c t (owed t.key t c w whole there found on side command.Abort))
  abort_obeyed Active is = abort_owed t.key t c w whole there found on side command.Abort (ap is_stoppable is) (abort_from c.state t.origin (active_from t.origin c.state c.owed (above_as command.Abort Active is))).0
  abort_obeyed Asking is = absurd (never_asking t.origin c.state (subst (λ o. is_superior Asking t.origin (Owes c.state o) ≡ true) silent (above_as command.Abort Asking is)))
  abort_obeyed Prepared is = (
    aborted_whole t.key t (owed t.key t c w whole there found on side command.Abort) (around_owed t.key t c w whole there found on side command.Abort)
        (owned_owed t.key t c w whole there found on side command.Abort (may_abort_above t.origin) may_abort_part may_abort_party (doubt_from t.origin c.state c.owed (above_as command.Abort Prepared is)).1 (λ l p fits. doubt_aborts l p (subst (λ f. is_part_in f l p ≡ true) is fits)) (λ answer fits. doubt_party t.place answer (subst (λ f. is_party f t.place answer ≡ true) is fits))),
    hangs_up command.Abort,
  )
  abort_obeyed Committed is = absurd (never_committed t.origin c.state c.owed (above_as command.Abort Committed is))
  abort_obeyed Aborted is = abort_owed t.key t c w whole there found on side command.Abort (ap is_stoppable is) (abort_from c.state t.origin (aborted_from t.origin c.state c.owed (above_as command.Abort Aborted is))).0

  -- PREPARE: one that nobody could reach again is not promised to
  prepare_asks : (from : Origin) (at : ConnectionState) (owed : Option CommandName) (peer : Option (List ℕ)) (address : List ℕ) → peer ≡ Some address → is_superior Active from (Owes at owed) ≡ true → is_enlisted_state at ≡ true → (d : Connection) → d.peer ≡ peer → has_its_address Active from (Some d) ≡ true → is_superior Asking from (Owes at (Some command.Prepare)) ≡ true
  prepare_asks (origin.Subordinate (Some x) superior) state.Enlisted owed peer address is fits here d same at = refl
  prepare_asks (origin.Subordinate None superior) state.Enlisted owed peer address is fits here d same at = absurd (let e : is_same_address None (Some address) ≡ true = subst (λ p. is_same_address None p ≡ true) (same ∙ is) at in cc)
  prepare_asks origin.Root state.Enlisted owed peer address is fits here d same at = absurd (cc)
  prepare_asks from at owed peer address is fits here d same so = absurd (cc)

  pub prepare_obeyed : is_enlisted_state c.state ≡ true → (phase : Phase) → t.phase ≡ phase → (peer : Option (List ℕ)) → c.peer ≡ peer → AllWhole (prepare phase peer c t (owed t.key t c w whole there found on side command.Prepare))
  prepare_obeyed here Active is (Some address) peer =
      let address_was : has_its_address Active t.origin (Some c) ≡ true = subst (λ f. has_its_address f t.origin (Some c) ≡ true) is (subst (λ o. has_its_address t.phase t.origin o ≡ true) (above_there t.key t c w whole there found on) (was t.key t c w whole there found on side command.Prepare).address) in
      let fits = prepare_asks t.origin c.state c.owed (Some address) address refl (above_as command.Prepare Active is) here c peer address_was in
      ask_whole t (owed t.key t c w whole there found on side command.Prepare) (is_superior Asking t.origin) (around_owed t.key t c w whole there found on side command.Prepare) (λ l fits. fits)
      (owned_owed t.key t c w whole there found on side command.Prepare (is_superior Asking t.origin) may_ask_part (is_party Active) fits (λ l p fits. active_ask_part l p (subst (λ f. is_part_in f l p ≡ true) is fits)) (λ answer fits. subst (λ f. is_party f t.place answer ≡ true) is fits))
  prepare_obeyed here Active is None peer = abort_owed t.key t c w whole there found on side command.Prepare (ap is_stoppable is) (prepare_from c.state t.origin (active_from t.origin c.state c.owed (above_as command.Prepare Active is)) here)
  prepare_obeyed here Asking is peer same = absurd (never_asking t.origin c.state (subst (λ o. is_superior Asking t.origin (Owes c.state o) ≡ true) silent (above_as command.Prepare Asking is)))
  prepare_obeyed here Prepared is peer same = absurd (both_ways (is_enlisted_state c.state) (doubt_apart t.origin c.state c.owed (above_as command.Prepare Prepared is)) here)
  prepare_obeyed here Committed is peer same = absurd (never_committed t.origin c.state c.owed (above_as command.Prepare Committed is))
  prepare_obeyed here Aborted is peer same = abort_owed t.key t c w whole there found on side command.Prepare (ap is_stoppable is) (prepare_from c.state t.origin (aborted_from t.origin c.state c.owed (above_as command.Prepare Aborted is)) here)
