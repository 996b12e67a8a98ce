-- What follows for a transaction, case by case: the change of its row, and how it goes on.
use Rattle.std.proofs.Common.{◌≡◌, ◌≢◌, Bool, true, false, cond, ◌&&◌, ◌||◌, ◌+◌, ◌++◌, ◌∷◌, [], ℕ, List, Option, Some, None, refl, ap, sym, ◌∙◌, ◌⊎◌, inl, inr}
use Rattle.std.specs.Prelude.{drop, filter, not}
use Rattle.std.specs.List.{flat_map, list_all}
use Rattle.std.proofs.lemmas.Option.{none-some}
use Rattle.tip_line.specs.declared.command.CommandName.{CommandName}
use Rattle.tip_line.specs.declared.command.CommandName.TheVariants as command
use Rattle.tip_txn.specs.Parts.{is_settled, is_yes}
use Rattle.tip_txn.specs.declared.answer.Decision.{Decision}
use Rattle.tip_txn.specs.declared.answer.Decision.TheVariants as decision
use Rattle.tip_txn.specs.declared.answer.Phase.{Phase}
use Rattle.tip_txn.specs.declared.answer.Phase.TheVariants.{Active, Asking, Prepared, Committed, Aborted}
use Rattle.tip_txn.specs.declared.part.Participant.{Participant}
use Rattle.tip_machine.specs.Changes.{attempt_on, end}
use Rattle.tip_machine.specs.Proceeding.{abort, agree, conclude, finish, owed_to_superior, proceed, proceed_in, wait}
use Rattle.tip_machine.specs.Reactions.{commits, react}
use Rattle.tip_machine.specs.States.{Attempt, Work, transaction_of}
use Rattle.tip_machine.specs.Steps.{chosen}
use Rattle.tip_machine.specs.Transactions.{is_done, is_spent, pair_of, willing_from}
use Rattle.tip_machine.specs.Types.{Transaction}
use Rattle.tip_machine.specs.declared.event.Change.{Change}
use Rattle.tip_machine.specs.declared.event.Change.TheVariants.{Put, Remove}
use Rattle.tip_machine.specs.declared.event.Outcome.{Outcome}
use Rattle.tip_machine.specs.declared.event.Outcome.TheVariants.{NoChange, Refused, Stored}
use Rattle.tip_machine.specs.declared.transaction.Origin.{Origin}
use Rattle.tip_machine.specs.declared.transaction.Origin.TheVariants as origin
use Rattle.tip_outlook.specs.Endings.{Agrees, Concludes, Follows, Reminds, done, ended, ending_on, waiting}
use Rattle.tip_outlook.specs.Wanting.{Outlook, agreed_change, committed_of, concluded, finished, in_doubt_of, is_over, outlook, pair_at, pairs_of, wished_in}
use Rattle.tip_outlook.specs.declared.next.Ending.{Ending}
use Rattle.tip_outlook.specs.declared.next.Ending.TheVariants as ending
use Rattle.tip_outlook.specs.declared.next.Endings.{Endings}
use Rattle.tip_outlook.specs.declared.next.Next.{Next}

-- The parts, of the whole list and of an outlook

-- who said yes and has not acknowledged
pub acknowledged_all : (part : ℕ) (parts : List Participant) → list_all (λ s. s.1.acknowledged) (willing_from part parts) ≡ list_all is_settled parts
acknowledged_all part [] = refl
acknowledged_all part (p ∷ parts) = step (is_yes p.answer) (acknowledged_all (part + 1) parts) where
  step : (yes : Bool) → list_all (λ s. s.1.acknowledged) (willing_from (part + 1) parts) ≡ list_all is_settled parts → list_all (λ s. s.1.acknowledged) (cond yes ((part, p) ∷ willing_from (part + 1) parts) (willing_from (part + 1) parts)) ≡ ((not yes || p.acknowledged) && list_all is_settled parts)
  step true rest = ap (λ b. p.acknowledged && b) rest
  step false rest = rest

pub over_done : (t : Transaction) → is_done t ≡ is_over (outlook t)
over_done t = ap (λ b. is_spent t.place && b) (acknowledged_all 1 (drop 1 t.parts))

pub pairs_from : (part : ℕ) (parts : List Participant) → flat_map (λ s. pair_of s.1.address s.1.id) (willing_from part parts) ≡ pairs_of parts
pairs_from part [] = refl
pairs_from part (p ∷ parts) = step (is_yes p.answer) (pairs_from (part + 1) parts) where
  step : (yes : Bool) → flat_map (λ s. pair_of s.1.address s.1.id) (willing_from (part + 1) parts) ≡ pairs_of parts →
      flat_map (λ s. pair_of s.1.address s.1.id) (cond yes ((part, p) ∷ willing_from (part + 1) parts) (willing_from (part + 1) parts)) ≡ flat_map pair_at (cond yes (p ∷ filter (λ part. is_yes part.answer) parts) (filter (λ part. is_yes part.answer) parts))
  step true rest = ap (λ pairs. pair_of p.address p.id ++ pairs) rest
  step false rest = rest

-- By the phase

module _ (o : Outlook) (owed : Option CommandName) (endings : Endings) (phase : Phase) (is : o.phase ≡ phase)
    (each : (t : Transaction) (w : Work) (outcome : Outcome) → outlook t ≡ o → owed_to_superior t.key w.state ≡ owed → chosen (proceed_in phase t w) outcome ≡ ended t.key (ending_on outcome endings) w) where
  proceeds : (t : Transaction) (w : Work) (outcome : Outcome) → outlook t ≡ o → owed_to_superior t.key w.state ≡ owed → transaction_of t.key w.state ≡ Some t → chosen (proceed t.key w) outcome ≡ ended t.key (ending_on outcome endings) w
  unfolding proceed
  proceeds t w outcome so owes found =
      ap (λ f. chosen (attempt_on f (λ t. proceed_in t.phase t) w) outcome) found
      ∙ ap (λ p. chosen (proceed_in p t w) outcome) (ap (λ (q : Outlook). q.phase) so ∙ is)
      ∙ each t w outcome so owes

module _ (o : Outlook) (owed : Option CommandName) (next : Next) where
  decides_in : Concludes o owed next → (t : Transaction) (w : Work) (outcome : Outcome) → outlook t ≡ o → owed_to_superior t.key w.state ≡ owed → chosen (conclude (outlook t).decision t w) outcome ≡ ended t.key (ending_on outcome next.endings) w
  decides_in then t w outcome so owes = ap (λ d. chosen (conclude d t w) outcome) (ap (λ (q : Outlook). q.decision) so) ∙ then.endings t w outcome so owes

  pub follows_open : (o.phase ≡ Active) ⊎ (o.phase ≡ Asking) → Concludes o owed next → Follows o owed next
  follows_open (inl is) then = record { change = then.change ∙ sym (ap (λ p. wished_in p owed o) is); endings = proceeds o owed next.endings Active is (decides_in then) }
  follows_open (inr is) then = record { change = then.change ∙ sym (ap (λ p. wished_in p owed o) is); endings = proceeds o owed next.endings Asking is (decides_in then) }

  pub follows_committed : o.phase ≡ Committed → Reminds o next → Follows o owed next
  follows_committed is then = record { change = then.change ∙ sym (ap (λ p. wished_in p owed o) is); endings = proceeds o owed next.endings Committed is (λ t w outcome so owes. then.endings t w outcome so) }

-- one ending is as the other where nothing is asked for
same_end : (how : Ending) (outcome : Outcome) → ending_on outcome (done how).endings ≡ how
same_end how Stored = refl
same_end how Refused = refl
same_end how NoChange = refl

done_so : (how : Ending) (t : Transaction) (w v : Work) (outcome : Outcome) → v ≡ ended t.key how w → v ≡ ended t.key (ending_on outcome (done how).endings) w
done_so how t w v outcome is = is ∙ sym (ap (λ e. ended t.key e w) (same_end how outcome))

module _ (o : Outlook) (owed : Option CommandName) where
  pub follows_prepared : o.phase ≡ Prepared → Follows o owed (done ending.Nothing)
  follows_prepared is = record { change = sym (ap (λ p. wished_in p owed o) is); endings = proceeds o owed (done ending.Nothing).endings Prepared is (λ t w outcome so owes. done_so ending.Nothing t w w outcome refl) }

  pub follows_aborted : o.phase ≡ Aborted → Follows o owed (done ending.Abort)
  follows_aborted is = record { change = sym (ap (λ p. wished_in p owed o) is); endings = proceeds o owed (done ending.Abort).endings Aborted is (λ t w outcome so owes. done_so ending.Abort t w (abort t.key w) outcome refl) }

-- By the decision

module _ (o : Outlook) (owed : Option CommandName) where
  concludes_done : (how : Ending) (d : Decision) → o.decision ≡ d → concluded d owed o ≡ None → ((t : Transaction) (w : Work) (outcome : Outcome) → outlook t ≡ o → chosen (conclude d t w) outcome ≡ ended t.key how w) → Concludes o owed (done how)
  concludes_done how d is none each = record {
    change = sym none ∙ sym (ap (λ e. concluded e owed o) is);
    endings = λ t w outcome so owes. done_so how t w (chosen (conclude o.decision t w) outcome) outcome (ap (λ e. chosen (conclude e t w) outcome) is ∙ each t w outcome so);
  }

  waits : (phase : Phase) (t : Transaction) (w : Work) → wait phase t.key w ≡ ended t.key (waiting phase) w
  waits Active t w = refl
  waits Asking t w = refl
  waits Prepared t w = refl
  waits Committed t w = refl
  waits Aborted t w = refl

  pub concludes_wait : (how : Ending) → how ≡ waiting o.phase → o.decision ≡ decision.Wait → Concludes o owed (done how)
  concludes_wait how same is = concludes_done how decision.Wait is refl (λ t w outcome so. waits t.phase t w ∙ ap (λ (e : Ending). ended t.key e w) (ap (λ (q : Outlook). waiting q.phase) so ∙ sym same))

  pub concludes_agreed : (next : Next) → o.decision ≡ decision.Commit → Agrees o owed next → Concludes o owed next
  concludes_agreed next is agrees = record {
    change = agrees.change ∙ sym (ap (λ e. concluded e owed o) is);
    endings = λ t w outcome so owes. ap (λ e. chosen (conclude e t w) outcome) is ∙ ap (λ e. chosen (agree e t.origin t w) outcome) owes ∙ agrees.endings t w outcome so;
  }

  pub concludes_abort : o.decision ≡ decision.Abort → Concludes o owed (done ending.Abort)
  concludes_abort is = concludes_done ending.Abort decision.Abort is refl (λ t w outcome so. refl)

  pub concludes_leave : o.decision ≡ decision.ReadOnly → Concludes o owed (done ending.Leave)
  concludes_leave is = concludes_done ending.Leave decision.ReadOnly is refl (λ t w outcome so. refl)

pub ruleset concluding = (concludes_wait, concludes_agreed, concludes_abort, concludes_leave)

-- All agree

abbrev pub commit_or_abort : Endings
commit_or_abort = record { stored = ending.Commit; refused = ending.Abort }

abbrev pub promise_or_abort : Endings
promise_or_abort = record { stored = ending.Promise; refused = ending.Abort }

agrees_done : (o : Outlook) (owed : Option CommandName) → agreed_change owed o.origin o ≡ None → ((t : Transaction) (w : Work) (outcome : Outcome) → outlook t ≡ o → chosen (agree owed t.origin t w) outcome ≡ w) → Agrees o owed (done ending.Nothing)
agrees_done o owed none each = record { change = sym none; endings = λ t w outcome so. done_so ending.Nothing t w (chosen (agree owed t.origin t w) outcome) outcome (each t w outcome so) }

module _ (o : Outlook) where
  pub agrees_commit : Agrees o (Some command.Commit) (record { change = Some (Put o.key (committed_of o)); endings = commit_or_abort })
  agrees_commit = record { change = refl; endings = λ t w outcome so. by t w outcome } where
    by : (t : Transaction) (w : Work) (outcome : Outcome) → chosen (agree (Some command.Commit) t.origin t w) outcome ≡ ended t.key (ending_on outcome commit_or_abort) w
    by t w Stored = refl
    by t w Refused = refl
    by t w NoChange = refl

  pub agrees_unasked : (owed : Option CommandName) → owed ≢ Some command.Prepare → owed ≢ Some command.Commit → Agrees o owed (done ending.Nothing)
  agrees_unasked None prepare commit' = agrees_done o None refl (λ t w outcome so. refl)
  agrees_unasked (Some command.Identify) prepare commit' = agrees_done o (Some command.Identify) refl (λ t w outcome so. refl)
  agrees_unasked (Some command.Begin) prepare commit' = agrees_done o (Some command.Begin) refl (λ t w outcome so. refl)
  agrees_unasked (Some command.Push) prepare commit' = agrees_done o (Some command.Push) refl (λ t w outcome so. refl)
  agrees_unasked (Some command.Pull) prepare commit' = agrees_done o (Some command.Pull) refl (λ t w outcome so. refl)
  agrees_unasked (Some command.Prepare) prepare commit' = absurd (prepare refl)
  agrees_unasked (Some command.Commit) prepare commit' = absurd (commit' refl)
  agrees_unasked (Some command.Abort) prepare commit' = agrees_done o (Some command.Abort) refl (λ t w outcome so. refl)
  agrees_unasked (Some command.Query) prepare commit' = agrees_done o (Some command.Query) refl (λ t w outcome so. refl)
  agrees_unasked (Some command.Reconnect) prepare commit' = agrees_done o (Some command.Reconnect) refl (λ t w outcome so. refl)
  agrees_unasked (Some command.Multiplex) prepare commit' = agrees_done o (Some command.Multiplex) refl (λ t w outcome so. refl)
  agrees_unasked (Some command.Tls) prepare commit' = agrees_done o (Some command.Tls) refl (λ t w outcome so. refl)
  agrees_unasked (Some command.Error) prepare commit' = agrees_done o (Some command.Error) refl (λ t w outcome so. refl)

pub ruleset agreeing = (agrees_commit, agrees_unasked)

module _ (o : Outlook) where
  from_origin : (from : Origin) → o.origin ≡ from → (t : Transaction) (w : Work) (outcome : Outcome) → outlook t ≡ o → chosen (agree (Some command.Prepare) t.origin t w) outcome ≡ chosen (agree (Some command.Prepare) from t w) outcome
  from_origin from is t w outcome so = ap (λ f. chosen (agree (Some command.Prepare) f t w) outcome) (ap (λ (q : Outlook). q.origin) so ∙ is)

  pub promises_to : (address superior : List ℕ) → o.origin ≡ origin.Subordinate (Some address) superior → Agrees o (Some command.Prepare) (record { change = Some (Put o.key (in_doubt_of address superior o)); endings = promise_or_abort })
  promises_to address superior is = record {
    change = sym (ap (λ f. agreed_change (Some command.Prepare) f o) is);
    endings = λ t w outcome so. from_origin (origin.Subordinate (Some address) superior) is t w outcome so ∙ by t w outcome;
  } where
    by : (t : Transaction) (w : Work) (outcome : Outcome) → chosen (agree (Some command.Prepare) (origin.Subordinate (Some address) superior) t w) outcome ≡ ended t.key (ending_on outcome promise_or_abort) w
    by t w Stored = refl
    by t w Refused = refl
    by t w NoChange = refl

  promises_nobody : (from : Origin) → o.origin ≡ from → agreed_change (Some command.Prepare) from o ≡ None → ((t : Transaction) (w : Work) (outcome : Outcome) → chosen (agree (Some command.Prepare) from t w) outcome ≡ w) → Agrees o (Some command.Prepare) (done ending.Nothing)
  promises_nobody from is none each = agrees_done o (Some command.Prepare) (ap (λ f. agreed_change (Some command.Prepare) f o) is ∙ none) (λ t w outcome so. from_origin from is t w outcome so ∙ each t w outcome)

  pub promises_none : (superior : List ℕ) → o.origin ≡ origin.Subordinate None superior → Agrees o (Some command.Prepare) (done ending.Nothing)
  promises_none superior is = promises_nobody (origin.Subordinate None superior) is refl (λ t w outcome. refl)

  pub promises_root : o.origin ≡ origin.Root → Agrees o (Some command.Prepare) (done ending.Nothing)
  promises_root is = promises_nobody origin.Root is refl (λ t w outcome. refl)

pub ruleset promising = (promises_to, promises_none, promises_root)

-- Committed

module _ (o : Outlook) where
  -- what follows of a transaction that is over, or is not
  over_so : (over : Bool) (t : Transaction) (w : Work) (outcome : Outcome) → is_over o ≡ over → outlook t ≡ o →
      chosen (finish t (react commits t.key w)) outcome ≡ chosen (cond over (Attempt.Asks (Remove t.key) (end t.key (react commits t.key w)) (react commits t.key w)) (Attempt.Done (react commits t.key w))) outcome
  unfolding finish
  over_so over t w outcome is so = ap (λ b. chosen (cond b (Attempt.Asks (Remove t.key) (end t.key (react commits t.key w)) (react commits t.key w)) (Attempt.Done (react commits t.key w))) outcome) (over_done t ∙ ap is_over so ∙ is)

  abbrev pub finish_or_remind : Endings
  finish_or_remind = record { stored = ending.Finish; refused = ending.Remind }

  pub reminds_over : (change : Change) → finished o ≡ Some change → Reminds o (record { change = Some change; endings = finish_or_remind })
  reminds_over change is = record { change = sym is; endings = λ t w outcome so. by (is_over o) refl is t w outcome so } where
    by : (over : Bool) → is_over o ≡ over → cond over (Some (Remove o.key)) None ≡ Some change → (t : Transaction) (w : Work) (outcome : Outcome) → outlook t ≡ o → chosen (finish t (react commits t.key w)) outcome ≡ ended t.key (ending_on outcome finish_or_remind) w
    by true over some t w Stored so = over_so true t w Stored over so
    by true over some t w Refused so = over_so true t w Refused over so
    by true over some t w NoChange so = over_so true t w NoChange over so
    by false over some t w outcome so = absurd (none-some change some)

  pub reminds_more : finished o ≡ None → Reminds o (done ending.Remind)
  reminds_more is = record { change = sym is; endings = λ t w outcome so. by (is_over o) refl is t w outcome so } where
    by : (over : Bool) → is_over o ≡ over → cond over (Some (Remove o.key)) None ≡ None → (t : Transaction) (w : Work) (outcome : Outcome) → outlook t ≡ o → chosen (finish t (react commits t.key w)) outcome ≡ ended t.key (ending_on outcome (done ending.Remind).endings) w
    by true over none t w outcome so = absurd (cc)
    by false over none t w outcome so = over_so false t w outcome over so ∙ done_so ending.Remind t w (react commits t.key w) outcome refl

pub ruleset reminding = (reminds_over, reminds_more)
