-- A committed transaction that is resumed leaves a realm whole.
use Rattle.std.proofs.Common.{◌≡◌, Bool, true, false, Option, Some, None, cond, refl, ap, subst, sym, ◌∙◌}
use Rattle.tip_branch.specs.Notes.{PartyNotes}
use Rattle.tip_line.specs.declared.refusal.Refusal.TheVariants.{Busy, NotActive}
use Rattle.tip_txn.specs.declared.answer.Ballot.{Ballot}
use Rattle.tip_txn.specs.declared.answer.Ballot.TheVariants.{Yes, No, ReadOnly, Lost}
use Rattle.tip_txn.specs.declared.answer.Decision.TheVariants as decisions
use Rattle.tip_txn.specs.declared.answer.Phase.{Phase}
use Rattle.tip_txn.specs.declared.answer.Phase.TheVariants.{Active, Asking, Prepared, Committed, Aborted}
use Rattle.tip_machine.specs.Changes.{refuse}
use Rattle.tip_machine.specs.Invariants.Phases.{has_come_to, is_part_in, is_party, is_superior, is_transaction}
use Rattle.tip_machine.specs.Proceeding.{dispatch, finish}
use Rattle.tip_machine.specs.Requests.{resume, resume_in}
use Rattle.tip_machine.specs.States.{Attempt, Work, transaction_of}
use Rattle.tip_machine.specs.Transactions.{decision_of, entering, has_key, is_committed, is_done}
use Rattle.tip_machine.specs.Types.{PartyPlace, Transaction}
use Rattle.tip_machine.specs.declared.transaction.PartyPlace.TheVariants.{Here, Out, Spent}
use Rattle.tip_agreement.proofs.Aborting.{party_now}
use Rattle.tip_agreement.proofs.Apart.{all_found}
use Rattle.tip_agreement.proofs.Around.{Around, Whole, around_of}
use Rattle.tip_agreement.proofs.Deciding.{Entered, committed_whole, dispatched_whole}
use Rattle.tip_agreement.proofs.Owned.{Owned, in_phase}
use Rattle.tip_agreement.proofs.Proceeding.{AllWhole, finished}
use Rattle.tip_agreement.proofs.Responding.{commit_agreed}

-- a party that is here goes as one in doubt would
here_so : (party : PartyNotes) (answer : Option Ballot) → is_party Committed (Here party) answer ≡ true → is_party Prepared (Here party) answer ≡ true
here_so party (Some Yes) is = is
here_so party None is = absurd (cc)
here_so party (Some No) is = absurd (cc)
here_so party (Some ReadOnly) is = absurd (cc)
here_so party (Some Lost) is = absurd (cc)

module _ (t : Transaction) (w : Work) (whole : Whole w.state) (found : transaction_of t.key w.state ≡ Some t) (committed : t.phase ≡ Committed) where
  here_around : Around t.key w.state
  here_around = around_of t.key w.state whole

  agreed : decision_of t ≡ decisions.Commit
  agreed = commit_agreed (decision_of t) (subst (λ f. has_come_to f (decision_of t) ≡ true) committed (in_phase t.key t w.state found (all_found (is_transaction w.state) (has_key t.key) w.state.transactions t whole.transactions found)).come)

  here_owned : Owned (is_superior Committed t.origin) (is_part_in Committed) (is_party Committed) t.key t w.state
  here_owned = subst (λ f. Owned (is_superior f t.origin) (is_part_in f) (is_party f) t.key t w.state) committed (in_phase t.key t w.state found (all_found (is_transaction w.state) (has_key t.key) w.state.transactions t whole.transactions found)).owned

  same_phase : entering Committed t ≡ t
  same_phase = λ i. record t { phase = (sym committed) i }

  -- its party is told again
  told_again : (party : PartyNotes) → t.place ≡ Here party → Whole (dispatch t.key w).state
  told_again party at =
      dispatched_whole t.key t w (is_superior Committed t.origin) (is_part_in Committed) known
      (λ u s parts from is. committed_whole t.key u s (ap (λ ps. decision_of (record u { parts = ps })) parts ∙ agreed) (subst (λ o. Entered Committed (is_superior Committed o) (is_part_in Committed) (is_party Committed) t.key u s) (sym from) is)) where
        owned : Owned (is_superior Committed t.origin) (is_part_in Committed) (is_party Prepared) t.key t w.state
        owned = record {
          found = here_owned.found;
          above = here_owned.above;
          parts = party_now (is_part_in Committed) (is_party Committed) (is_party Prepared) t.place t.place t.parts t.key w.state.connections (λ answer is. subst (λ p. is_party Prepared p answer ≡ true) (sym at) (here_so party answer (subst (λ p. is_party Committed p answer ≡ true) at is))) here_owned.parts;
          own = here_owned.own;
        }

        known : Entered Committed (is_superior Committed t.origin) (is_part_in Committed) (is_party Prepared) t.key t w.state
        known = record { around = here_around; owned = subst (λ u. Owned (is_superior Committed t.origin) (is_part_in Committed) (is_party Prepared) t.key u w.state) (sym same_phase) owned }

  resumed_in : (place : PartyPlace) → t.place ≡ place → AllWhole (resume_in place t w)
  resumed_in (Here party) at = told_again party at
  resumed_in (Out errand) at = whole
  resumed_in Spent at = step (is_done t) where
    step : (b : Bool) → AllWhole (cond b (finish t w) (Attempt.Done (refuse Busy w)))
    step true = finished t w committed agreed here_around here_owned
    step false = whole

pub only_committed : (phase : Phase) → is_committed phase ≡ true → phase ≡ Committed
only_committed Committed is = refl
only_committed Active is = absurd (cc)
only_committed Asking is = absurd (cc)
only_committed Prepared is = absurd (cc)
only_committed Aborted is = absurd (cc)

pub resumed : (found : Option Transaction) (w : Work) → Whole w.state → ((t : Transaction) → found ≡ Some t → transaction_of t.key w.state ≡ Some t) → AllWhole (resume found w)
unfolding resume
resumed None w whole there = whole
resumed (Some t) w whole there = step (is_committed t.phase) refl where
  step : (b : Bool) → is_committed t.phase ≡ b → AllWhole (cond b (resume_in t.place t w) (Attempt.Done (refuse NotActive w)))
  step true is = resumed_in t w whole (there t refl) (only_committed t.phase is) t.place refl
  step false is = whole
