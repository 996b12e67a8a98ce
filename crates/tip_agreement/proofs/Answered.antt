-- How transactions go on over responses, over requests of the host, and over parties that come back.
use Rattle.std.proofs.Common.{◌≡◌, Bool, true, false, ℕ, suc, List, Option, Some, None, cond, refl, subst, sym, inl, inr}
use Rattle.std.specs.Prelude.{◌&&◌, find, length, nat_le, not, take}
use Rattle.std.proofs.lemmas.Bool.{and_from, and_parts, not_from_false}
use Rattle.tip_branch.specs.Notes.{PartyNotes}
use Rattle.tip_conn.specs.declared.state.Side.TheVariants.{Primary}
use Rattle.tip_line.specs.declared.command.CommandName.{CommandName}
use Rattle.tip_line.specs.declared.command.CommandName.TheVariants as command
use Rattle.tip_line.specs.declared.response.Response.{Response}
use Rattle.tip_line.specs.declared.response.Response.TheVariants.{Error, Identified, NeedTls, Pulled, NotPulled, QueriedExists, QueriedNotFound, Pushed, AlreadyPushed, NotPushed, Prepared, ReadOnly, Committed, Aborted, Reconnected, NotReconnected}
use Rattle.tip_line.specs.declared.response.ResponseName.{ResponseName}
use Rattle.tip_line.specs.declared.response.ResponseName.TheVariants as response
use Rattle.tip_line.specs.declared.refusal.Refusal.{Refusal}
use Rattle.tip_line.specs.declared.refusal.Refusal.TheVariants.{Busy, Full, Known, NotActive}
use Rattle.tip_rows.specs.Keys.{Key}
use Rattle.tip_txn.specs.Parts.{acknowledged, answered, enlisted, named}
use Rattle.tip_txn.specs.declared.answer.Ballot.TheVariants as answer
use Rattle.tip_txn.specs.declared.answer.Phase.TheVariants as phase
use Rattle.tip_txn.specs.declared.part.Participant.{Participant}
use Rattle.tip_machine.specs.Changes.{alter, attempt_on, change, refuse, send}
use Rattle.tip_machine.specs.Commands.{make}
use Rattle.tip_machine.specs.Connections.{advanced, is_free, taking}
use Rattle.tip_machine.specs.Failing.{closed, wrong}
use Rattle.tip_machine.specs.Invariants.Bounds.{is_spelled}
use Rattle.tip_machine.specs.Invariants.Links.Link.{Awaits}
use Rattle.tip_machine.specs.Invariants.Phases.{is_part, is_part_in, is_superior}
use Rattle.tip_machine.specs.Proceeding.{abort, errand_in, finish, proceed}
use Rattle.tip_machine.specs.Requests.{ask_pull, ask_push, pull_if, pull_new, push_part, resume, resume_in}
use Rattle.tip_machine.specs.Responses.{abort_as, ask_superior, go_on, greeted, is_in_doubt, is_owed_commit, note_as, presume_abort, proceed_as, pursue, query_for, reach, reach_by, reconnect_for, responded}
use Rattle.tip_machine.specs.States.{Attempt, Work, connection_of, has_room, identified_by, transaction_of}
use Rattle.tip_machine.specs.Transactions.{begun, enlisting, has_id, is_active, is_committed, is_decided_at, is_done, is_known, next_key, noting, subordinate_of, is_prepared}
use Rattle.tip_machine.specs.Types.{Connection, PartyPlace, Transaction}
use Rattle.tip_machine.specs.declared.answer.Asked.TheVariants as asked
use Rattle.tip_machine.specs.declared.connection.Awaited.{Awaited}
use Rattle.tip_machine.specs.declared.connection.Awaited.TheVariants.{Identify, Query, Pull, Push, Prepare, Commit, Abort, Reconnect}
use Rattle.tip_machine.specs.declared.connection.Purpose.{Purpose}
use Rattle.tip_machine.specs.declared.connection.Purpose.TheVariants as purpose
use Rattle.tip_machine.specs.declared.connection.Role.TheVariants.{Subordinate}
use Rattle.tip_machine.specs.declared.event.Change.TheVariants.{Remove}
use Rattle.tip_machine.specs.declared.transaction.Origin.{Origin}
use Rattle.tip_machine.specs.declared.transaction.Origin.TheVariants as origin
use Rattle.tip_machine.specs.declared.transaction.PartyPlace.TheVariants.{Here, Out, Spent}
use Rattle.tip_machine.proofs.Walks.{either}
use Rattle.tip_agreement.proofs.Answering.{PartOf, aborted_next, already_next, commit_goes, committed_next, is_partly, link_now, never_asked, never_pushed, not_reconnected_next, part_now, prepare_goes, push_goes, reconnect_goes}
use Rattle.tip_agreement.proofs.Around.{Whole}
use Rattle.tip_agreement.proofs.Closing.{in_table}
use Rattle.tip_agreement.proofs.Commanded.{Beside, EndsGo, all_go, apart_beside, aside, beside_goes, closed_goes, either_goes, ends_from, enlists_on, goes_from, goes_wrong, hangs_up, ready, ready_beside, removes, settled_here, unknown_of, wrong_goes}
use Rattle.tip_agreement.proofs.Concluding.{Goes, Ready, Unchanged, noted_onward, proceed_onward, ready_of}
use Rattle.tip_agreement.proofs.Enlisting.{only_active}
use Rattle.tip_agreement.proofs.Following.{finish_onward, owns_here, stop_onward}
use Rattle.tip_agreement.proofs.Speaking.{may_go}
use Rattle.tip_agreement.proofs.Wording.{Quiet, asks_more, silent}
use Rattle.tip_agreement.proofs.Onward.{CanGo, MayBeSent, dispatches}
use Rattle.tip_agreement.proofs.Owned.{key_found}
use Rattle.tip_agreement.proofs.Pulling.{awaits_now, link_before, pull_rows, pulls}
use Rattle.tip_agreement.proofs.Reaching.{only_prepared}
use Rattle.tip_agreement.proofs.Responding.{is_going}
use Rattle.tip_agreement.proofs.Resuming.{only_committed}
use Rattle.tip_agreement.proofs.Sound.{found_by}

-- RESPONSES

module _ (c : Connection) (w : Work) (whole : Whole w.state) (there : connection_of c.number w.state ≡ Some c) (side : c.side ≡ Primary) where
  went_on : (command : CommandName) (response : ResponseName) → Beside w (go_on command response c w)
  went_on command response = record { epoch = refl; name = refl; transactions = refl; work = refl; spent = refl; said = silent w.answer.sent }

  goes_on : (command : CommandName) (response : ResponseName) → EndsGo w (Attempt.Done (go_on command response c w))
  goes_on command response = inl (beside_goes w (go_on command response c w) (went_on command response))

  -- of the part whose connection it is
  module _ (a : Awaited) (waits : c.awaited ≡ Some a) (partly : is_partly a ≡ true) (command : CommandName) (response : ResponseName) where
    part : PartOf c w.state
    part = part_now c w whole there a side waits partly

    fits : is_part part.transaction.phase (Awaits c.state (Some a)) part.held.part.answer ≡ true
    fits = (in_table part.transaction.phase (Awaits c.state (Some a)) part.held.part (subst (λ l. is_part_in part.transaction.phase l part.held.part ≡ true) (link_now c w whole there a side waits partly) part.held.holds)).fits

    v : Work
    v = go_on command response c w

    ready_then : Ready part.transaction v.state
    unfolding v
    ready_then = ready_beside w (go_on command response c w) (went_on command response) (ready c w whole) part.transaction part.found

    proceeds : EndsGo w (proceed_as c.role v)
    unfolding v
    proceeds = subst (λ r. EndsGo w (proceed_as r (go_on command response c w))) (sym part.on) (ends_from w (go_on command response c w) (proceed part.transaction.key (go_on command response c w)) (went_on command response)
        (all_go part.transaction.key (go_on command response c w) (proceed part.transaction.key (go_on command response c w)) (proceed_onward part.transaction (go_on command response c w) part.found whole.keys ready_then)))

    notes : (note : Participant → Participant) → is_going part.transaction.phase ≡ true → (part.transaction.phase ≡ phase.Committed → Unchanged note) → EndsGo w (note_as c.role note v)
    unfolding v
    notes note can same = subst (λ r. EndsGo w (note_as r note (go_on command response c w))) (sym part.on) (ends_from w (go_on command response c w) (proceed part.transaction.key (alter part.transaction.key (noting (suc part.place) note) (go_on command response c w))) (went_on command response)
        (all_go part.transaction.key (go_on command response c w) (proceed part.transaction.key (alter part.transaction.key (noting (suc part.place) note) (go_on command response c w))) (noted_onward part.place note part.transaction (go_on command response c w) part.found whole.keys ready_then can same)))

  pushed_goes : (waits : c.awaited ≡ Some Push) (said : ResponseName) (note : Participant → Participant) → EndsGo w (note_as c.role note (go_on command.Push said c w))
  unfolding v
  pushed_goes waits said note =
      let at = fits Push waits refl command.Push said in
      let p = part Push waits refl command.Push said in
      notes Push waits refl command.Push said note (push_goes response.AlreadyPushed already_next p.transaction.phase c.state p.held.part.answer at).1 (λ is. absurd (never_pushed c.state p.held.part.answer (subst (λ f. is_part f (Awaits c.state (Some Push)) p.held.part.answer ≡ true) is at)))

  prepared_goes : (waits : c.awaited ≡ Some Prepare) (said : ResponseName) (note : Participant → Participant) → EndsGo w (note_as c.role note (go_on command.Prepare said c w))
  unfolding v
  prepared_goes waits said note =
      let at = fits Prepare waits refl command.Prepare said in
      let p = part Prepare waits refl command.Prepare said in
      notes Prepare waits refl command.Prepare said note (prepare_goes response.Aborted aborted_next p.transaction.phase c.state p.held.part.answer at).1 (λ is. absurd (never_asked c.state p.held.part.answer (subst (λ f. is_part f (Awaits c.state (Some Prepare)) p.held.part.answer ≡ true) is at)))

  told : Unchanged acknowledged
  told p = (refl, refl, refl)

  committed_goes : (waits : c.awaited ≡ Some Commit) → EndsGo w (note_as c.role acknowledged (go_on command.Commit response.Committed c w))
  unfolding v
  committed_goes waits =
      let at = fits Commit waits refl command.Commit response.Committed in
      let p = part Commit waits refl command.Commit response.Committed in
      notes Commit waits refl command.Commit response.Committed acknowledged (commit_goes committed_next p.transaction.phase c.state p.held.part.answer at).1 (λ is. told)

  not_reconnected_goes : (waits : c.awaited ≡ Some Reconnect) → EndsGo w (note_as c.role acknowledged (go_on command.Reconnect response.NotReconnected c w))
  unfolding v
  not_reconnected_goes waits =
      let at = fits Reconnect waits refl command.Reconnect response.NotReconnected in
      let p = part Reconnect waits refl command.Reconnect response.NotReconnected in
      notes Reconnect waits refl command.Reconnect response.NotReconnected acknowledged (reconnect_goes not_reconnected_next p.transaction.phase c.state p.held.part.answer at).1 (λ is. told)

  proceeds_so : (a : Awaited) → c.awaited ≡ Some a → is_partly a ≡ true → (command : CommandName) (response : ResponseName) → EndsGo w (proceed_as c.role (go_on command response c w))
  unfolding v
  proceeds_so a waits partly command response = proceeds a waits partly command response

  -- NOTPULLED
  not_pulled_goes : c.awaited ≡ Some Pull → EndsGo w (Attempt.Done (abort_as c.role (go_on command.Pull response.NotPulled c w)))
  not_pulled_goes waits =
      let it = pulls c w whole there side waits in
      let t = it.transaction in
      let u = go_on command.Pull response.NotPulled c w in
      let row = pull_rows t.phase t.origin c.state (subst (λ l. is_superior t.phase t.origin l ≡ true) (awaits_now c w whole there side waits) (link_before t c w whole there it.found it.on)) in
      subst (λ r. EndsGo w (Attempt.Done (abort_as r u))) (sym it.on) (inl (goes_from None w u (abort t.key u) (went_on command.Pull response.NotPulled) (t.key, stop_onward t.key u t it.found whole.keys (owns_here u.state t (ready_beside w u (went_on command.Pull response.NotPulled) (ready c w whole) t it.found).own) row.1)))

  -- QUERIEDNOTFOUND
  presumes : (t : Transaction) → transaction_of t.key w.state ≡ Some t → EndsGo w (presume_abort c t (go_on command.Query response.QueriedNotFound c w))
  presumes t found =
      let u = go_on command.Query response.QueriedNotFound c w in
      let is = went_on command.Query response.QueriedNotFound in
      ends_from w u (presume_abort c t u) is (step u is (is_in_doubt u.state t) (λ doubt. only_prepared t.phase (and_parts (is_prepared t.phase) _ doubt).0)) where
        step : (u : Work) → Beside w u → (b : Bool) → (b ≡ true → t.phase ≡ phase.Prepared) → EndsGo u (cond b (Attempt.Asks (Remove t.key) (abort t.key u) (closed c u)) (Attempt.Done u))
        step u is true doubt = (removes c w whole t u is found (doubt refl), closed_goes c u (apart_beside w u is whole.keys) (ready_beside w u is (ready c w whole)))
        step u is false doubt = inl (beside_goes u u (record { epoch = refl; name = refl; transactions = refl; work = refl; spent = refl; said = silent u.answer.sent }))

  not_found_goes : (key : Key) → EndsGo w (attempt_on (transaction_of key w.state) (presume_abort c) (go_on command.Query response.QueriedNotFound c w))
  not_found_goes key = step (transaction_of key w.state) refl where
    step : (found : Option Transaction) → transaction_of key w.state ≡ found → EndsGo w (attempt_on found (presume_abort c) (go_on command.Query response.QueriedNotFound c w))
    step None is = goes_on command.Query response.QueriedNotFound
    step (Some t) is = presumes t (subst (λ k. transaction_of k w.state ≡ Some t) (key_found key t w.state is) is)

  -- IDENTIFIED

  abbrev after : Work
  after = change c.number (advanced command.Identify response.Identified) w

  greeted_beside : Beside w after
  greeted_beside = record { epoch = refl; name = refl; transactions = refl; work = refl; spent = refl; said = silent w.answer.sent }

  leaves_it : Goes None w (closed c after)
  leaves_it = goes_from None w after (closed c after) greeted_beside (closed_goes c after (apart_beside w after greeted_beside whole.keys) (ready_beside w after greeted_beside (ready c w whole)))

  -- a question is asked
  only : (u : Work) → u.state.head.epoch ≡ w.state.head.epoch → u.state.head.name ≡ w.state.head.name → u.state.transactions ≡ w.state.transactions → u.answer.work ≡ w.answer.work → u.answer.spent ≡ w.answer.spent → Quiet w.answer.sent u.answer.sent → Goes None w u
  only u epoch name transactions work spent said = beside_goes w u (record { epoch = epoch; name = name; transactions = transactions; work = work; spent = spent; said = said })

  asks_goes : (from : Origin) (key : Key) → Goes None w (ask_superior from key c after)
  unfolding send
  asks_goes origin.Root key = leaves_it
  asks_goes (origin.Subordinate address superior) key = only (ask_superior (origin.Subordinate address superior) key c after) refl refl refl refl refl (asks_more w c.number (asked.Query superior) (λ realm id. refl))

  which : (b : Bool) (this that : Work) → Goes None w this → Goes None w that → Goes None w (cond b this that)
  which b this that e f = either (Goes None w) b this that e f

  query_goes : (found : Option Transaction) → Goes None w (query_for found c after)
  query_goes None = leaves_it
  query_goes (Some t) = which (is_in_doubt after.state t && is_decided_at c.peer t.origin) (ask_superior t.origin t.key c after) (closed c after) (asks_goes t.origin t.key) leaves_it

  by_id_goes : (id : Option (List ℕ)) (m : ℕ) (key : Key) → Goes None w (reach_by id m key c after)
  unfolding send
  by_id_goes None m key = leaves_it
  by_id_goes (Some id) m key = only (reach_by (Some id) m key c after) refl refl refl refl refl (asks_more w c.number (asked.Reconnect id) (λ realm id. refl))

  reach_goes : (s : Option (ℕ × Participant)) (key : Key) → Goes None w (reach s key c after)
  reach_goes None key = leaves_it
  reach_goes (Some s) key = which (is_owed_commit c.peer key after.state s) (reach_by s.1.id s.0 key c after) (closed c after) (by_id_goes s.1.id s.0 key) leaves_it

  reconnect_goes_for : (found : Option Transaction) (place : ℕ) → Goes None w (reconnect_for found place c after)
  reconnect_goes_for None place = leaves_it
  reconnect_goes_for (Some t) place = which (is_committed t.phase) (reach (subordinate_of place t) t.key c after) (closed c after) (reach_goes (subordinate_of place t) t.key) leaves_it

  pursue_goes : (wanted : Purpose) → Goes None w (pursue wanted c after)
  pursue_goes purpose.Plain = beside_goes w after greeted_beside
  pursue_goes (purpose.Query id) = query_goes (identified_by id after.state)
  pursue_goes (purpose.Reconnect id place) = reconnect_goes_for (identified_by id after.state) place

  greeted_goes : (version : ℕ) (wanted : Purpose) → EndsGo w (Attempt.Done (greeted version wanted c w))
  greeted_goes version wanted = inl (which (nat_le 3 version) (pursue wanted c after) (wrong c w) (pursue_goes wanted) (wrong_goes c w whole.keys (ready c w whole)))

  pub responds_goes : (a : Awaited) (response : Response) → c.awaited ≡ Some a → EndsGo w (responded a response c w)
  responds_goes (Identify wanted) (Identified version) waits = greeted_goes version wanted
  responds_goes Push (Pushed id) waits = pushed_goes waits response.Pushed (named id)
  responds_goes Push (AlreadyPushed id) waits = pushed_goes waits response.AlreadyPushed (answered answer.ReadOnly)
  responds_goes Push NotPushed waits = pushed_goes waits response.NotPushed (answered answer.ReadOnly)
  responds_goes Pull Pulled waits = goes_on command.Pull response.Pulled
  responds_goes Pull NotPulled waits = not_pulled_goes waits
  responds_goes Prepare Prepared waits = prepared_goes waits response.Prepared (answered answer.Yes)
  responds_goes Prepare Aborted waits = prepared_goes waits response.Aborted (answered answer.No)
  responds_goes Prepare ReadOnly waits = prepared_goes waits response.ReadOnly (answered answer.ReadOnly)
  responds_goes Commit Committed waits = committed_goes waits
  responds_goes Abort Aborted waits = proceeds_so Abort waits refl command.Abort response.Aborted
  responds_goes (Query key) QueriedExists waits = goes_on command.Query response.QueriedExists
  responds_goes (Query key) QueriedNotFound waits = not_found_goes key
  responds_goes Reconnect Reconnected waits = proceeds_so Reconnect waits refl command.Reconnect response.Reconnected
  responds_goes Reconnect NotReconnected waits = not_reconnected_goes waits
  responds_goes a NeedTls waits = hangs_up c w whole
  responds_goes a Error waits = hangs_up c w whole
  responds_goes a response waits = goes_wrong c w whole

-- REQUESTS OF THE HOST

module _ (c : Connection) (w : Work) (whole : Whole w.state) where
  pushes_to : (found : Option Transaction) (peer : Option (List ℕ)) → ((t : Transaction) → found ≡ Some t → transaction_of t.key w.state ≡ Some t) → EndsGo w (Attempt.Done (push_part found peer c.number w))
  unfolding send
  pushes_to None peer there = aside c w whole (refuse NotActive w) refl refl refl refl refl (silent w.answer.sent)
  pushes_to (Some t) None there = aside c w whole (refuse NotActive w) refl refl refl refl refl (silent w.answer.sent)
  pushes_to (Some t) (Some address) there = step (is_active t.phase) refl where
    step : (b : Bool) → is_active t.phase ≡ b → EndsGo w (Attempt.Done (cond b (change c.number (taking (Subordinate t.key (length t.parts))) (alter t.key (enlisting (enlisted address None)) (send c.number Push (asked.Push t.key) w))) (refuse NotActive w)))
    step true active = inl (enlists_on c w whole t (enlisted address None) (send c.number Push (asked.Push t.key) w) (there t refl) (only_active t.phase active) (record { epoch = refl; name = refl; transactions = refl; work = refl; spent = refl; said = asks_more w c.number (asked.Push t.key) (λ realm id. refl) }))
    step false not = aside c w whole (refuse NotActive w) refl refl refl refl refl (silent w.answer.sent)

  pulls_new : is_spelled (next_key w.state.head c) ≡ true → (superior : List ℕ) → find (is_known c.peer superior) w.state.transactions ≡ None → EndsGo w (Attempt.Done (pull_new superior c w))
  unfolding send make
  pulls_new spelled superior none = either_goes w (has_room c w.state) (send c.number Pull (asked.Pull superior (next_key w.state.head c)) (make (origin.Subordinate c.peer superior) c w)) (refuse Full w)
      (inr (record { new = begun w.state.head (next_key w.state.head c) (origin.Subordinate c.peer superior) (take (length w.state.head.branches) c.boxes); epoch = refl; name = refl; transactions = refl; work = refl; spent = refl; said = asks_more w c.number (asked.Pull superior (next_key w.state.head c)) (λ realm id. refl); active = refl; spelled = spelled; unknown = unknown_of c w whole superior none }))
      (aside c w whole (refuse Full w) refl refl refl refl refl (silent w.answer.sent))

  pulls_if : is_spelled (next_key w.state.head c) ≡ true → (known : Option Transaction) (superior : List ℕ) → find (is_known c.peer superior) w.state.transactions ≡ known → EndsGo w (Attempt.Done (pull_if known superior c w))
  pulls_if spelled None superior is = pulls_new spelled superior is
  pulls_if spelled (Some t) superior is = aside c w whole (refuse Known w) refl refl refl refl refl (silent w.answer.sent)

  pub ask_push_goes : (id : List ℕ) → EndsGo w (Attempt.Done (ask_push (Some c) id w))
  unfolding ask_push
  ask_push_goes id = either_goes w (is_free c) (push_part (identified_by id w.state) c.peer c.number w) (refuse Busy w) (pushes_to (identified_by id w.state) c.peer (λ t is. found_by (has_id w.state.head.name id) w.state t whole is)) (aside c w whole (refuse Busy w) refl refl refl refl refl (silent w.answer.sent))

  pub ask_pull_goes : is_spelled (next_key w.state.head c) ≡ true → (superior : List ℕ) → EndsGo w (Attempt.Done (ask_pull (Some c) superior w))
  unfolding ask_pull
  ask_pull_goes spelled superior = either_goes w (is_free c) (pull_if (find (is_known c.peer superior) w.state.transactions) superior c w) (refuse Busy w) (pulls_if spelled (find (is_known c.peer superior) w.state.transactions) superior refl) (aside c w whole (refuse Busy w) refl refl refl refl refl (silent w.answer.sent))

-- A committed transaction is resumed

module _ (w : Work) (whole : Whole w.state) where
  quiet : EndsGo w (Attempt.Done w)
  quiet = inl (beside_goes w w (record { epoch = refl; name = refl; transactions = refl; work = refl; spent = refl; said = silent w.answer.sent }))

  refused : (why : Refusal) → EndsGo w (Attempt.Done (refuse why w))
  refused why = inl (beside_goes w (refuse why w) (record { epoch = refl; name = refl; transactions = refl; work = refl; spent = refl; said = silent w.answer.sent }))

  module _ (t : Transaction) (found : transaction_of t.key w.state ≡ Some t) (committed : t.phase ≡ phase.Committed) where
    known : Ready t w.state
    known = ready_of w.state t whole found

    told_again : (party : PartyNotes) → t.place ≡ Here party → MayBeSent w t party
    told_again party at =
        let none = settled_here w.state t whole found (inr committed) party at in
        record {
          own = owns_here w.state t known.own party at;
          can = λ ready. subst (λ f. CanGo (errand_in f) party) (sym committed) (and_from _ _ (not_from_false _ none) ready);
          may = λ ready. subst (λ f. may_go f (errand_in f) ≡ true) (sym committed) refl;
          lets = λ idle. inr none;
        }

    resumes_in : (place : PartyPlace) → EndsGo w (resume_in place t w)
    resumes_in (Here party) = inl (t.key, (dispatches t.key w t found told_again).onward)
    resumes_in (Out e) = refused Busy
    resumes_in Spent = step (is_done t) where
      step : (b : Bool) → EndsGo w (cond b (finish t w) (Attempt.Done (refuse Busy w)))
      step true = all_go t.key w (finish t w) (finish_onward t.key w t found whole.keys (owns_here w.state t known.own) refl)
      step false = refused Busy

  pub resume_goes : (found : Option Transaction) → ((t : Transaction) → found ≡ Some t → transaction_of t.key w.state ≡ Some t) → EndsGo w (resume found w)
  unfolding resume
  resume_goes None there = refused NotActive
  resume_goes (Some t) there = step (is_committed t.phase) refl where
    step : (b : Bool) → is_committed t.phase ≡ b → EndsGo w (cond b (resume_in t.place t w) (Attempt.Done (refuse NotActive w)))
    step true is = resumes_in t (there t refl) (only_committed t.phase is) t.place
    step false not = refused NotActive
