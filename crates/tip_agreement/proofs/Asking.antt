-- The answers to our QUERY leave a realm whole.
use Rattle.std.proofs.Common.{◌≡◌, Bool, true, false, Option, Some, None, cond, refl, ap, subst, sym, ◌∙◌}
use Rattle.std.specs.Prelude.{not}
use Rattle.std.specs.List.{list_any}
use Rattle.std.proofs.lemmas.Bool.{and_parts, not-true}
use Rattle.tip_rows.specs.Keys.{Key}
use Rattle.tip_conn.specs.Table.{next_of}
use Rattle.tip_conn.specs.declared.state.Side.TheVariants.{Primary}
use Rattle.tip_conn.specs.declared.state.State.{State as ConnectionState}
use Rattle.tip_conn.specs.declared.state.State.TheVariants as state
use Rattle.tip_conn.specs.declared.state.Turn.TheVariants.{Original}
use Rattle.tip_line.specs.declared.command.CommandName.TheVariants as command
use Rattle.tip_line.specs.declared.response.ResponseName.{ResponseName}
use Rattle.tip_line.specs.declared.response.ResponseName.TheVariants as response
use Rattle.tip_machine.specs.Changes.{attempt_on, change, tell}
use Rattle.tip_machine.specs.Connections.{advanced, advanced_to, is_superior_of}
use Rattle.tip_machine.specs.Failing.{closed, fail, gone, missed}
use Rattle.tip_machine.specs.Invariants.Links.{is_on_none, link, link_on}
use Rattle.tip_machine.specs.Invariants.Links.Link.{Awaits}
use Rattle.tip_machine.specs.Invariants.Phases.{is_part_in, is_party, is_transaction}
use Rattle.tip_machine.specs.Proceeding.{abort}
use Rattle.tip_machine.specs.Responses.{go_on, is_in_doubt, presume_abort}
use Rattle.tip_machine.specs.States.{Attempt, Work, connection_of, transaction_of}
use Rattle.tip_machine.specs.Transactions.{has_key, is_prepared}
use Rattle.tip_machine.specs.Types.{Connection, Transaction}
use Rattle.tip_machine.specs.declared.answer.Item.TheVariants.{Close}
use Rattle.tip_machine.specs.declared.connection.Awaited.TheVariants as awaited
use Rattle.tip_machine.specs.declared.event.Change.TheVariants.{Remove}
use Rattle.tip_machine.proofs.RuleWalks.{advanced-number}
use Rattle.tip_agreement.proofs.Aborting.{aborted_whole, may_abort_above, may_abort_part, may_abort_party}
use Rattle.tip_agreement.proofs.Alone.{alone_set}
use Rattle.tip_agreement.proofs.Apart.{all_found}
use Rattle.tip_agreement.proofs.Around.{Whole, around_of, stands}
use Rattle.tip_agreement.proofs.Closing.{closed_whole, gone_may_abort, have_same}
use Rattle.tip_agreement.proofs.Commanding.{doubt_aborts, doubt_party, same_without}
use Rattle.tip_agreement.proofs.Found.{none_there}
use Rattle.tip_agreement.proofs.Loose.{loose, on_none, querying}
use Rattle.tip_agreement.proofs.Owned.{in_phase, key_found}
use Rattle.tip_agreement.proofs.Proceeding.{AllWhole}
use Rattle.tip_agreement.proofs.Reacting.{idle}
use Rattle.tip_agreement.proofs.Reaching.{only_prepared}

-- A connection that awaits the answer to QUERY is on no transaction

query_state : (key : Key) (at : ConnectionState) → is_on_none (Awaits at (Some (awaited.Query key))) ≡ true → at ≡ state.Idle
query_state key state.Idle is = refl
query_state key at is = absurd (cc)

-- Where it hangs up, it makes no difference what became of the connection
pub closed_anyway : (c : Connection) (f : Connection → Connection) (w : Work) → ((d : Connection) → (f d).number ≡ d.number) → closed c (change c.number f w) ≡ closed c w
unfolding closed fail gone
closed_anyway c f w same = ap (missed c.role) (λ i. record (gone c (tell c.number Close w)) { state = record w.state { connections = same_without c.number f w.state.connections same i } })

exists_next : next_of command.Query state.Idle response.QueriedExists ≡ Some (state.Idle, Original)
unfolding next_of
exists_next = refl

not_found_next : next_of command.Query state.Idle response.QueriedNotFound ≡ Some (state.Idle, Original)
unfolding next_of
not_found_next = refl

module _ (asked : Key) (c : Connection) (w : Work) (whole : Whole w.state) (there : connection_of c.number w.state ≡ Some c) (side : c.side ≡ Primary) (waits : c.awaited ≡ Some (awaited.Query asked)) where
  awaits_now : link_on c.side c ≡ Awaits c.state (Some (awaited.Query asked))
  awaits_now = ap (λ s. link_on s c) side ∙ ap (Awaits c.state) waits

  alone : c.role ≡ None
  alone = loose (Awaits c.state (Some (awaited.Query asked))) (querying asked c.state) c w whole there awaits_now

  idle_now : c.state ≡ state.Idle
  idle_now = query_state asked c.state (on_none (Awaits c.state (Some (awaited.Query asked))) (querying asked c.state) c w whole there awaits_now)

  gone_on : (response : ResponseName) → next_of command.Query state.Idle response ≡ Some (state.Idle, Original) → Whole (go_on command.Query response c w).state
  gone_on response next =
      let is : advanced command.Query response c ≡ advanced_to (Some (state.Idle, Original)) c = ap (λ place. advanced_to place c) (ap (λ s. next_of command.Query s response) idle_now ∙ next) in
      alone_set (advanced command.Query response) c w there alone (ap (λ (d : Connection). d.role) is) (ap (stands w.state) is ∙ idle w.state c) whole

  pub exists_whole : Whole (go_on command.Query response.QueriedExists c w).state
  exists_whole = gone_on response.QueriedExists exists_next

  abbrev after : Work
  after = go_on command.Query response.QueriedNotFound c w

  -- the transaction is in doubt, and nobody else could end it
  doubt_ends : (t : Transaction) → transaction_of t.key after.state ≡ Some t → is_in_doubt after.state t ≡ true → Whole (abort t.key after).state
  doubt_ends t found doubt =
      let whole_after = gone_on response.QueriedNotFound not_found_next in
      let parts = and_parts (is_prepared t.phase) (not (list_any (is_superior_of t.key) after.state.connections)) doubt in
      let prepared = only_prepared t.phase parts.0 in
      let was = (in_phase t.key t after.state found (all_found (is_transaction after.state) (has_key t.key) after.state.transactions t whole_after.transactions found)).owned in
      let none = none_there (is_superior_of t.key) after.state.connections (not-true _ parts.1) in
      aborted_whole t.key t after (around_of t.key after.state whole_after) (record {
        found = found;
        above = ap (λ o. may_abort_above t.origin (link o)) none ∙ gone_may_abort t.origin;
        parts = have_same t.key after.state.connections after.state.connections 0 (is_part_in t.phase) may_abort_part (λ place differs. refl) (λ l p fits. doubt_aborts l p (subst (λ f. is_part_in f l p ≡ true) prepared fits)) (is_party t.phase) may_abort_party t.place t.parts refl (λ answer fits. doubt_party t.place answer (subst (λ f. is_party f t.place answer ≡ true) prepared fits)) was.parts;
        own = was.own;
      })

  presumed : (t : Transaction) → transaction_of t.key after.state ≡ Some t → AllWhole (presume_abort c t after)
  presumed t found = step (is_in_doubt after.state t) refl where
    step : (b : Bool) → is_in_doubt after.state t ≡ b → AllWhole (cond b (Attempt.Asks (Remove t.key) (abort t.key after) (closed c after)) (Attempt.Done after))
    step true doubt = (doubt_ends t found doubt, subst (λ v. Whole v.state) (sym (closed_anyway c (advanced command.Query response.QueriedNotFound) w (advanced-number command.Query response.QueriedNotFound))) (closed_whole c w whole there))
    step false doubt = gone_on response.QueriedNotFound not_found_next

  pub not_found_whole : AllWhole (attempt_on (transaction_of asked after.state) (presume_abort c) after)
  not_found_whole = step (transaction_of asked after.state) refl where
    step : (found : Option Transaction) → transaction_of asked after.state ≡ found → AllWhole (attempt_on found (presume_abort c) after)
    step None is = gone_on response.QueriedNotFound not_found_next
    step (Some t) is = presumed t (subst (λ k. transaction_of k after.state ≡ Some t) (key_found asked t after.state is) is)
