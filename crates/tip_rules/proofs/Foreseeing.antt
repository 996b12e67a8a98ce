-- What an event wants is what reading alone foresees.
use Rattle.std.proofs.Common.{◌≡◌, ◌==◌, Bool, true, false, cond, ℕ, List, [], ◌∷◌, Option, Some, None, refl, ap, sym, ◌∙◌}
use Rattle.std.specs.Prelude.{drop, find}
use Rattle.std.specs.Option.{option_and_then, option_map_or}
use Rattle.std.proofs.lemmas.Option.{none-some, same_Some}
use Rattle.std.specs.Str.{bytes_eq}
use Rattle.tip_branch.specs.Notes.{PartyNotes}
use Rattle.tip_branch.specs.declared.member.Errand.TheVariants as errand
use Rattle.tip_conn.specs.Table.{admit_of}
use Rattle.tip_conn.specs.declared.state.Admit.{Admit}
use Rattle.tip_conn.specs.declared.state.Admit.TheVariants.{Serve, Wrong}
use Rattle.tip_conn.specs.declared.state.Side.{Side}
use Rattle.tip_conn.specs.declared.state.Side.TheVariants.{Primary, Secondary}
use Rattle.tip_line.specs.Command.{name_of}
use Rattle.tip_line.specs.declared.command.Command.{Command as ACommand}
use Rattle.tip_line.specs.declared.command.Command.TheVariants as commands
use Rattle.tip_line.specs.declared.command.CommandName.{CommandName}
use Rattle.tip_line.specs.declared.command.CommandName.TheVariants as command
use Rattle.tip_line.specs.Response.{name_of as response_name}
use Rattle.tip_line.specs.declared.response.Response.{Response as AResponse}
use Rattle.tip_line.specs.declared.response.ResponseName.{ResponseName}
use Rattle.tip_line.specs.declared.response.ResponseName.TheVariants as names
use Rattle.tip_line.specs.declared.refusal.Refusal.TheVariants.{Busy, NotActive}
use Rattle.tip_rows.proofs.OrderLemmas.{same_key}
use Rattle.tip_rows.specs.Keys.{Key, is_same}
use Rattle.tip_rows.specs.declared.row.Row.TheVariants as row
use Rattle.tip_txn.specs.Parts.{answered}
use Rattle.tip_txn.specs.declared.answer.Decision.{Decision}
use Rattle.tip_txn.specs.declared.answer.Decision.TheVariants as decision
use Rattle.tip_txn.specs.declared.answer.Phase.{Phase}
use Rattle.tip_txn.specs.declared.answer.Phase.TheVariants.{Active, Asking, Prepared, Committed, Aborted}
use Rattle.tip_machine.proofs.Walks.{found_changed, found_passes, seated_there, there_by_key}
use Rattle.tip_machine.specs.Answers.{identifier}
use Rattle.tip_machine.specs.Changes.{alter, attempt_on, change, end, refuse}
use Rattle.tip_machine.specs.Commands.{commanded, decide_abort, decide_commit, obey, prepare, serve_if, superior_role}
use Rattle.tip_machine.specs.Connections.{may_take, owing}
use Rattle.tip_machine.specs.Proceeding.{abort, agree, ask, asked_for_votes, conclude, dispatch, enter, errand_in, finish, give_out, let_go, owed_to_superior, proceed, proceed_in}
use Rattle.tip_machine.specs.Reactions.{commits, react}
use Rattle.tip_machine.specs.Requests.{hear, line, owner, resume, resume_in, settled, settled_for, voted, voted_for}
use Rattle.tip_machine.specs.Failing.{closed}
use Rattle.tip_machine.specs.Responses.{go_on, is_in_doubt, presume_abort}
use Rattle.tip_machine.specs.States.{Attempt, State, Work, connection_of, identified_by, seated, transaction_of}
use Rattle.tip_machine.specs.Steps.{attempt, entered, is_open, wanted, wants}
use Rattle.tip_machine.specs.Transactions.{decision_of, entering, has_id, has_key, has_ready, is_committed, is_done, noting, party_answer, standing_at}
use Rattle.tip_machine.specs.Types.{Connection, Event, PartyPlace, Transaction}
use Rattle.tip_machine.specs.declared.event.Event.TheVariants.{AskPull, AskPush, Dial, Line, Lost, Open, Resume, Settled, Voted}
use Rattle.tip_machine.specs.declared.event.Change.{Change}
use Rattle.tip_machine.specs.declared.event.Change.TheVariants.{Put, Remove}
use Rattle.tip_machine.specs.declared.event.Heard.{Heard}
use Rattle.tip_machine.specs.declared.event.Heard.TheVariants.{Command, Malformed, Response}
use Rattle.tip_machine.specs.declared.connection.Awaited.{Awaited}
use Rattle.tip_machine.specs.declared.connection.Awaited.TheVariants as awaited
use Rattle.tip_machine.specs.declared.connection.Purpose.{Purpose}
use Rattle.tip_machine.specs.declared.connection.Purpose.TheVariants as purposes
use Rattle.tip_machine.specs.declared.connection.Role.{Role}
use Rattle.tip_machine.specs.declared.connection.Role.TheVariants.{Subordinate, Superior}
use Rattle.tip_machine.specs.declared.transaction.Origin.{Origin}
use Rattle.tip_machine.specs.declared.transaction.Origin.TheVariants as origin
use Rattle.tip_machine.specs.declared.transaction.PartyPlace.TheVariants.{Here, Out, Spent}
use Rattle.tip_rules.proofs.Owing.{altered_there, none_altered, not_both, owed_after, owed_now, same_self}
use Rattle.tip_rules.proofs.Proceeding.{dispatch_some}
use Rattle.tip_rules.proofs.Responses.{hears_identified, hears_nothing, hears_part, hears_pull, hears_query, hears_to_ask, hears_to_reach, noting_nobody, noting_part_of}
use Rattle.tip_outlook.specs.Noting.{awaits_of, exists_of, identifying, note_of, noted, noting_as, part_of, pulled_of, pulling, querying, responding, version_of}
use Rattle.tip_outlook.specs.declared.noting.Awaits.{Awaits}
use Rattle.tip_outlook.specs.declared.noting.Awaits.TheVariants as awaits
use Rattle.tip_outlook.specs.Endings.{Meets}
use Rattle.tip_outlook.specs.Wanting.{Course, abort_for, abort_wanted, agreed_change, answer_wanted, asked, asking_for, away, change_of, command_wanted, commit_for, commit_wanted, concluded, finished, foreseen, forgotten, is_admitted, line_wanted, of_superior, outlook, owed_then, prepare_for, prepare_wanted, presume_wanted, promised_of, query_wanted, resume_wanted, resumed_at, said_wanted, settled_wanted, taken_wanted, vote_wanted, wanted_noting, wanted_of_part, wished, wished_in}
use Rattle.tip_outlook.specs.declared.next.Next.{Next}
use Rattle.tip_outlook.proofs.Nexts.{over_done, pairs_from}
use Rattle.tip_outlook.specs.declared.noting.Note.{Note}

-- What follows

finish_wants : (t : Transaction) (w : Work) → wanted (finish t w) ≡ finished (outlook t)
unfolding finish
finish_wants t w = step (is_done t) ∙ ap (λ b. cond b (Some (Remove t.key)) None) (over_done t) where
  step : (b : Bool) → wanted (cond b (Attempt.Asks (Remove t.key) (end t.key w) w) (Attempt.Done w)) ≡ cond b (Some (Remove t.key)) None
  step true = refl
  step false = refl

module _ (t : Transaction) (w : Work) where
  agree_wants : (owed : Option CommandName) (from : Origin) → wanted (agree owed from t w) ≡ agreed_change owed from (outlook t)
  agree_wants None from = refl
  agree_wants (Some command.Identify) from = refl
  agree_wants (Some command.Begin) from = refl
  agree_wants (Some command.Push) from = refl
  agree_wants (Some command.Pull) from = refl
  agree_wants (Some command.Prepare) origin.Root = refl
  agree_wants (Some command.Prepare) (origin.Subordinate None superior) = refl
  agree_wants (Some command.Prepare) (origin.Subordinate (Some address) superior) = ap (λ pairs. Some (Put t.key (row.Prepared address superior (promised_of (outlook t)) pairs))) (pairs_from 1 (drop 1 t.parts))
  agree_wants (Some command.Commit) from = ap (λ pairs. Some (Put t.key (row.Committed (promised_of (outlook t)) pairs))) (pairs_from 1 (drop 1 t.parts))
  agree_wants (Some command.Abort) from = refl
  agree_wants (Some command.Query) from = refl
  agree_wants (Some command.Reconnect) from = refl
  agree_wants (Some command.Multiplex) from = refl
  agree_wants (Some command.Tls) from = refl
  agree_wants (Some command.Error) from = refl

  conclude_wants : (d : Decision) → wanted (conclude d t w) ≡ concluded d (owed_to_superior t.key w.state) (outlook t)
  conclude_wants decision.Wait = refl
  conclude_wants decision.Commit = agree_wants (owed_to_superior t.key w.state) t.origin
  conclude_wants decision.Abort = refl
  conclude_wants decision.ReadOnly = refl

  phase_wants : (phase : Phase) → wanted (proceed_in phase t w) ≡ wished_in phase (owed_to_superior t.key w.state) (outlook t)
  phase_wants Active = conclude_wants (decision_of t)
  phase_wants Asking = conclude_wants (decision_of t)
  phase_wants Prepared = refl
  phase_wants Committed = finish_wants t (react commits t.key w)
  phase_wants Aborted = refl

proceed_wants : (key : Key) (w : Work) (t : Transaction) → transaction_of key w.state ≡ Some t → wanted (proceed key w) ≡ wished (owed_to_superior t.key w.state) (outlook t)
unfolding proceed
proceed_wants key w t found = ap (λ o. wanted (attempt_on o (λ t. proceed_in t.phase t) w)) found ∙ phase_wants t w t.phase

-- Asking

ask_wants : (t : Transaction) (w : Work) → transaction_of t.key w.state ≡ Some t → wanted (ask t w) ≡ wished (owed_to_superior t.key w.state) (outlook (asked t))
unfolding ask
ask_wants t w found = step t.place refl where
  there : transaction_of t.key (enter Asking t.key w).state ≡ Some (entering Asking t)
  there = altered_there t (entering Asking) (λ u. refl) w found

  step : (place : PartyPlace) → t.place ≡ place → wanted (proceed t.key (asked_for_votes place t.key (enter Asking t.key w))) ≡ wished (owed_to_superior t.key w.state) (outlook (record t { phase = Asking; place = away place }))
  step (Here party) is = proceed_wants t.key (give_out errand.Vote party t.key (enter Asking t.key w)) (standing_at (Out errand.Vote) (entering Asking t)) (altered_there (entering Asking t) (standing_at (Out errand.Vote)) (λ u. refl) (enter Asking t.key w) there)
  step (Out errand) is = proceed_wants t.key (enter Asking t.key w) (entering Asking t) there ∙ ap (λ p. wished (owed_to_superior t.key w.state) (outlook (record t { phase = Asking; place = p }))) is
  step Spent is = proceed_wants t.key (enter Asking t.key w) (entering Asking t) there ∙ ap (λ p. wished (owed_to_superior t.key w.state) (outlook (record t { phase = Asking; place = p }))) is

-- Commands

module _ (w : Work) (c : Connection) (there : connection_of c.number w.state ≡ Some c) where
  prepare_wants : (key : Key) (t : Transaction) → c.role ≡ Some (Superior key) → transaction_of key w.state ≡ Some t → wanted (prepare t.phase c.peer c t (change c.number (owing command.Prepare) w)) ≡ change_of (prepare_for c.peer c.number w.state t)
  prepare_wants key t on found = step t.phase c.peer where
    step : (phase : Phase) (peer : Option (List ℕ)) → wanted (prepare phase peer c t (change c.number (owing command.Prepare) w)) ≡ change_of (prepare_wanted phase peer (owed_then command.Prepare c.number t.key w.state) t)
    step Active (Some address) = ask_wants t (change c.number (owing command.Prepare) w) (there_by_key key w.state.transactions t found) ∙ ap (λ owed. wished owed (outlook (asked t))) (owed_now w c there command.Prepare key t on found)
    step Active None = refl
    step Asking peer = refl
    step Prepared peer = refl
    step Committed peer = refl
    step Aborted peer = refl

  commit_wants : (key : Key) (t : Transaction) → c.role ≡ Some (Superior key) → transaction_of key w.state ≡ Some t → wanted (decide_commit t.phase c t (change c.number (owing command.Commit) w)) ≡ change_of (commit_for c.number w.state t)
  commit_wants key t on found = step t.phase where
    step : (phase : Phase) → wanted (decide_commit phase c t (change c.number (owing command.Commit) w)) ≡ change_of (commit_wanted phase (owed_then command.Commit c.number t.key w.state) t)
    step Active = ask_wants t (change c.number (owing command.Commit) w) (there_by_key key w.state.transactions t found) ∙ ap (λ owed. wished owed (outlook (asked t))) (owed_now w c there command.Commit key t on found)
    step Asking = refl
    step Prepared = ap (λ pairs. Some (Put t.key (row.Committed (promised_of (outlook t)) pairs))) (pairs_from 1 (drop 1 t.parts))
    step Committed = refl
    step Aborted = refl

  abort_wants : (t : Transaction) (v : Work) → wanted (decide_abort t.phase c t v) ≡ change_of (abort_for t)
  abort_wants t v = step t.phase where
    step : (phase : Phase) → wanted (decide_abort phase c t v) ≡ change_of (abort_wanted phase t)
    step Active = refl
    step Asking = refl
    step Prepared = refl
    step Committed = refl
    step Aborted = refl

  -- a rule of the transaction whose superior is on the connection
  module _ (name : CommandName) (rule : Transaction → Work → Attempt) (wants : Transaction → Course)
      (each : (key : Key) (t : Transaction) → c.role ≡ Some (Superior key) → transaction_of key w.state ≡ Some t → wanted (rule t (change c.number (owing name) w)) ≡ change_of (wants t)) where
    obey_wants : wanted (obey name rule c w) ≡ change_of (of_superior wants c w.state)
    obey_wants = at c.role refl where
      found_at : (key : Key) → c.role ≡ Some (Superior key) → (found : Option Transaction) → transaction_of key w.state ≡ found → wanted (attempt_on found rule (change c.number (owing name) w)) ≡ change_of (option_map_or wants found Course.Stays)
      found_at key on None is = refl
      found_at key on (Some t) is = each key t on is

      at : (role : Option Role) → c.role ≡ role → wanted (attempt_on (option_and_then (λ key. transaction_of key w.state) (superior_role role)) rule (change c.number (owing name) w)) ≡ change_of (option_map_or (λ key. option_map_or wants (transaction_of key w.state) Course.Stays) (superior_role role) Course.Stays)
      at None on = refl
      at (Some (Superior key)) on = found_at key on (transaction_of key w.state) refl
      at (Some (Subordinate key part)) on = refl

  served_wants : (line : ACommand) → wanted (serve_if Serve line c w) ≡ change_of (command_wanted line c w.state)
  served_wants (commands.Identify lowest highest primary secondary) = refl
  served_wants commands.Begin = refl
  served_wants (commands.Push superior) = refl
  served_wants (commands.Pull superior subordinate) = refl
  served_wants commands.Prepare = obey_wants command.Prepare (λ t. prepare t.phase c.peer c t) (prepare_for c.peer c.number w.state) prepare_wants
  served_wants commands.Commit = obey_wants command.Commit (λ t. decide_commit t.phase c t) (commit_for c.number w.state) commit_wants
  served_wants commands.Abort = obey_wants command.Abort (λ t. decide_abort t.phase c t) abort_for (λ key t on found. abort_wants t (change c.number (owing command.Abort) w))
  served_wants (commands.Query superior) = refl
  served_wants (commands.Reconnect subordinate) = refl
  served_wants (commands.Multiplex protocol) = refl
  served_wants commands.Tls = refl
  served_wants commands.Error = refl

  admitted_wants : (admit : Admit) (line : ACommand) → wanted (serve_if admit line c w) ≡ change_of (cond (is_admitted admit) (command_wanted line c w.state) Course.Stays)
  admitted_wants Serve line = served_wants line
  admitted_wants Wrong line = refl

  primary_wants : (line : ACommand) → wanted (hear Primary (Command line) c w) ≡ None
  primary_wants (commands.Identify lowest highest primary secondary) = refl
  primary_wants commands.Begin = refl
  primary_wants (commands.Push superior) = refl
  primary_wants (commands.Pull superior subordinate) = refl
  primary_wants commands.Prepare = refl
  primary_wants commands.Commit = refl
  primary_wants commands.Abort = refl
  primary_wants (commands.Query superior) = refl
  primary_wants (commands.Reconnect subordinate) = refl
  primary_wants (commands.Multiplex protocol) = refl
  primary_wants commands.Tls = refl
  primary_wants commands.Error = refl

  -- we hear commands as the secondary
  hear_wants : (side : Side) → (line : ACommand) → wanted (hear side (Command line) c w) ≡ change_of (taken_wanted side (Command line) c w.state)
  unfolding commanded
  hear_wants Primary line = primary_wants line
  hear_wants Secondary line = admitted_wants (admit_of c.state c.side (name_of line)) line

-- what is no line wants nothing
quiet_line : (side : Side) (c : Connection) (w : Work) → wanted (hear side Malformed c w) ≡ change_of (taken_wanted side Malformed c w.state)
quiet_line Primary c w = refl
quiet_line Secondary c w = refl

-- Responses

proceed_none : (key : Key) (w : Work) → transaction_of key w.state ≡ None → wanted (proceed key w) ≡ None
unfolding proceed
proceed_none key w none = ap (λ o. wanted (attempt_on o (λ t. proceed_in t.phase t) w)) none

module _ (w : Work) (c : Connection) (there : connection_of c.number w.state ≡ Some c) where
  noted_wants : (n : Note) (name : CommandName) (said : ResponseName) → wanted (noting_as n c.role (go_on name said c w)) ≡ change_of (wanted_of_part n (part_of c.role) w.state)
  noted_wants n name said = step (part_of c.role) refl where
    -- the transaction of the part
    on : (key : Key) (part : ℕ) → part_of c.role ≡ Some (key, part) → (found : Option Transaction) → transaction_of key w.state ≡ found → wanted (proceed key (alter key (noting part (noted n)) (go_on name said c w))) ≡ change_of (option_map_or (wanted_noting n part w.state) found Course.Stays)
    on key part is None none = proceed_none key _ (none_altered key (noting part (noted n)) (go_on name said c w) none)
    on key part is (Some t) found =
        proceed_wants key _ (noting part (noted n) t) (found_changed key (noting part (noted n)) w.state.transactions t found (found_passes (has_key key) w.state.transactions t found))
        ∙ ap (λ owed. wished owed (outlook (noting part (noted n) t))) (owed_after w c there name said t.key (key, part) is)

    step : (place : Option (Key × ℕ)) → part_of c.role ≡ place → wanted (noting_as n c.role (go_on name said c w)) ≡ change_of (wanted_of_part n place w.state)
    step None is = ap wanted (noting_nobody n c.role (go_on name said c w) is)
    step (Some place) is = ap wanted (noting_part_of n c.role place.0 place.1 (go_on name said c w) is) ∙ on place.0 place.1 is (transaction_of place.0 w.state) refl

  responding_wants : (n : Option Note) (name : CommandName) (said : AResponse) → wanted (responding n name said c w) ≡ change_of (answer_wanted n c w.state)
  responding_wants None name said = refl
  responding_wants (Some n) name said = noted_wants n name (response_name said)

  pulling_wants : (pulled : Option Bool) (said : AResponse) → wanted (pulling pulled said c w) ≡ None
  pulling_wants None said = refl
  pulling_wants (Some true) said = refl
  pulling_wants (Some false) said = refl

  identifying_wants : (purpose : Purpose) (version : Option ℕ) (said : AResponse) → wanted (identifying version purpose said c w) ≡ None
  identifying_wants purpose None said = refl
  identifying_wants purpose (Some version) said = refl

  querying_wants : (exists : Option Bool) (key : Key) (said : AResponse) → wanted (querying exists key said c w) ≡ change_of (query_wanted exists key c w.state)
  querying_wants None key said = refl
  querying_wants (Some true) key said = refl
  querying_wants (Some false) key said = by (transaction_of key w.state) where
    by : (found : Option Transaction) → wanted (attempt_on found (presume_abort c) (go_on command.Query names.QueriedNotFound c w)) ≡ change_of (option_map_or (presume_wanted (forgotten c w.state)) found Course.Stays)
    by None = refl
    by (Some t) = step (is_in_doubt (forgotten c w.state) t) where
      step : (b : Bool) → wanted (cond b (Attempt.Asks (Remove t.key) (abort t.key (go_on command.Query names.QueriedNotFound c w)) (closed c (go_on command.Query names.QueriedNotFound c w))) (Attempt.Done (go_on command.Query names.QueriedNotFound c w))) ≡ change_of (cond b (Course.Asks (Remove t.key)) Course.Stays)
      step true = refl
      step false = refl

  said_wants : (said : AResponse) → wanted (hear Primary (Response said) c w) ≡ change_of (said_wanted (awaits_of c.awaited) said c w.state)
  said_wants said = step c.awaited refl where
    of_part : (a : Option Awaited) → c.awaited ≡ a → (name : CommandName) → awaits_of a ≡ awaits.OfPart name → wanted (hear Primary (Response said) c w) ≡ change_of (said_wanted (awaits_of c.awaited) said c w.state)
    of_part a is name so = ap wanted (hears_part said c w name (ap awaits_of is ∙ so)) ∙ responding_wants (note_of c.awaited said) name said ∙ sym (ap (λ k. change_of (said_wanted k said c w.state)) (ap awaits_of is ∙ so))

    step : (a : Option Awaited) → c.awaited ≡ a → wanted (hear Primary (Response said) c w) ≡ change_of (said_wanted (awaits_of c.awaited) said c w.state)
    step None is = ap wanted (hears_nothing said c w is) ∙ ap (λ b. change_of (said_wanted (awaits_of b) said c w.state)) (sym is)
    step (Some (awaited.Identify purposes.Plain)) is = ap wanted (hears_identified said c w (ap awaits_of is)) ∙ identifying_wants purposes.Plain (version_of said) said ∙ ap (λ b. change_of (said_wanted (awaits_of b) said c w.state)) (sym is)
    step (Some (awaited.Identify (purposes.Query id))) is = ap wanted (hears_to_ask said c w (ap awaits_of is)).1.1 ∙ identifying_wants (purposes.Query (hears_to_ask said c w (ap awaits_of is)).0) (version_of said) said ∙ ap (λ b. change_of (said_wanted (awaits_of b) said c w.state)) (sym is)
    step (Some (awaited.Identify (purposes.Reconnect id place))) is = let heard = hears_to_reach said c w (ap awaits_of is) in ap wanted heard.1.1 ∙ identifying_wants (purposes.Reconnect heard.0.0 heard.0.1) (version_of said) said ∙ ap (λ b. change_of (said_wanted (awaits_of b) said c w.state)) (sym is)
    step (Some awaited.Push) is = of_part (Some awaited.Push) is command.Push refl
    step (Some awaited.Pull) is = ap wanted (hears_pull said c w (ap awaits_of is)) ∙ pulling_wants (pulled_of said) said ∙ ap (λ b. change_of (said_wanted (awaits_of b) said c w.state)) (sym is)
    step (Some awaited.Prepare) is = of_part (Some awaited.Prepare) is command.Prepare refl
    step (Some awaited.Commit) is = of_part (Some awaited.Commit) is command.Commit refl
    step (Some awaited.Abort) is = of_part (Some awaited.Abort) is command.Abort refl
    step (Some (awaited.Query key)) is = ap wanted (hears_query said c w key (ap awaits_of is)) ∙ querying_wants (exists_of said) key said ∙ ap (λ b. change_of (said_wanted (awaits_of b) said c w.state)) (sym is)
    step (Some awaited.Reconnect) is = of_part (Some awaited.Reconnect) is command.Reconnect refl

  -- we hear responses as the primary
  heard_wants : (side : Side) → (said : AResponse) → wanted (hear side (Response said) c w) ≡ change_of (taken_wanted side (Response said) c w.state)
  heard_wants Primary said = said_wants said
  heard_wants Secondary said = refl

-- Lines

module _ (w : Work) (c : Connection) (there : connection_of c.number w.state ≡ Some c) where
  taken_wants : (heard : Heard) → wanted (hear c.side heard c w) ≡ change_of (taken_wanted c.side heard c w.state)
  taken_wants (Command line) = hear_wants w c there c.side line
  taken_wants (Response said) = heard_wants w c there c.side said
  taken_wants Malformed = quiet_line c.side c w

line_wants : (heard : Heard) (w : Work) (found : Option Connection) → ((c : Connection) → found ≡ Some c → connection_of c.number w.state ≡ Some c) → wanted (line found heard w) ≡ change_of (option_map_or (λ c. line_wanted heard c w.state) found Course.Stays)
unfolding line
line_wants heard w None there = refl
line_wants heard w (Some c) there = step (may_take c) where
  step : (b : Bool) → wanted (cond b (hear c.side heard c w) (Attempt.Done (refuse Busy w))) ≡ change_of (cond b (taken_wanted c.side heard c w.state) Course.Stays)
  step true = taken_wants w c (there c refl) heard
  step false = refl

-- Parties that come back

-- the first transaction of an identifier is the first of its key
pub by_id : (realm id : List ℕ) (ts : List Transaction) (t : Transaction) → find (has_id realm id) ts ≡ Some t → find (has_key t.key) ts ≡ Some t
by_id realm id [] t is = absurd (none-some t is)
by_id realm id (x ∷ xs) t is = step (has_id realm id x) refl (has_key t.key x) refl is (λ later. by_id realm id xs t later) where
  step : (named : Bool) → has_id realm id x ≡ named → (keyed : Bool) → has_key t.key x ≡ keyed → cond named (Some x) (find (has_id realm id) xs) ≡ Some t → (find (has_id realm id) xs ≡ Some t → find (has_key t.key) xs ≡ Some t) → cond keyed (Some x) (find (has_key t.key) xs) ≡ Some t
  step true named true keyed here later = here
  step true named false keyed here later = not_both (has_key t.key x) (ap (λ (u : Transaction). is_same t.key u.key) (same_Some x t here) ∙ same_self t.key) keyed
  step false unnamed true keyed there later = not_both (has_id realm id x) (ap (λ k. bytes_eq id (identifier realm k)) (sym (same_key t.key x.key keyed)) ∙ found_passes (has_id realm id) xs t there) unnamed
  step false unnamed false keyed there later = later there

owned_there : (party : PartyNotes) (state : State) (t : Transaction) → owner party state ≡ Some t → transaction_of t.key state ≡ Some t
owned_there party state t is = step (party.epoch == state.head.epoch) is where
  step : (b : Bool) → cond b (identified_by party.id state) None ≡ Some t → transaction_of t.key state ≡ Some t
  step true found = by_id state.head.name party.id state.transactions t found
  step false found = absurd (none-some t found)

module _ (party : PartyNotes) (w : Work) (t : Transaction) (found : transaction_of t.key w.state ≡ Some t) where
  back_there : transaction_of t.key (alter t.key (standing_at (Here party)) w).state ≡ Some (standing_at (Here party) t)
  back_there = altered_there t (standing_at (Here party)) (λ u. refl) w found

  vote_wants : (place : PartyPlace) → wanted (voted_for place party t w) ≡ change_of (vote_wanted place party t w.state)
  vote_wants (Here other) = refl
  vote_wants (Out errand.Idle) = refl
  vote_wants (Out errand.Vote) = proceed_wants t.key _ (noting 0 (answered (party_answer party)) (standing_at (Here party) t)) (altered_there (standing_at (Here party) t) (noting 0 (answered (party_answer party))) (λ u. refl) (alter t.key (standing_at (Here party)) w) back_there)
  vote_wants (Out errand.Commit) = refl
  vote_wants (Out errand.Abort) = refl
  vote_wants Spent = refl

  told_wants : (ready : Bool) → has_ready party ≡ ready → wanted (proceed t.key (cond ready (alter t.key (standing_at (Here party)) w) (dispatch t.key (alter t.key (standing_at (Here party)) w)))) ≡ wished (owed_to_superior t.key w.state) (outlook (standing_at (cond ready (Here party) Spent) t))
  told_wants true is = proceed_wants t.key (alter t.key (standing_at (Here party)) w) (standing_at (Here party) t) back_there
  told_wants false is =
      ap (λ v. wanted (proceed t.key v)) (dispatch_some t.key (alter t.key (standing_at (Here party)) w) (standing_at (Here party) t) back_there
      ∙ ap (λ b. cond b (give_out (errand_in t.phase) party t.key (alter t.key (standing_at (Here party)) w)) (let_go party t.key (alter t.key (standing_at (Here party)) w))) is)
      ∙ proceed_wants t.key (let_go party t.key (alter t.key (standing_at (Here party)) w)) (standing_at Spent t) (altered_there (standing_at (Here party) t) (standing_at Spent) (λ u. refl) (alter t.key (standing_at (Here party)) w) back_there)

  settled_wants : (place : PartyPlace) → wanted (settled_for place party t w) ≡ change_of (settled_wanted place party t w.state)
  settled_wants (Here other) = refl
  settled_wants (Out errand.Idle) = refl
  settled_wants (Out errand.Vote) = refl
  settled_wants (Out errand.Commit) = told_wants (has_ready party) refl
  settled_wants (Out errand.Abort) = proceed_wants t.key (alter t.key (standing_at (Here party)) w) (standing_at (Here party) t) back_there
  settled_wants Spent = refl

module _ (party : PartyNotes) (w : Work) where
  voted_wants : (found : Option Transaction) → owner party w.state ≡ found → wanted (voted found party w) ≡ change_of (option_map_or (λ t. vote_wanted t.place party t w.state) found Course.Stays)
  unfolding voted
  voted_wants None is = refl
  voted_wants (Some t) is = vote_wants party w t (owned_there party w.state t is) t.place

  settled_all : (found : Option Transaction) → owner party w.state ≡ found → wanted (settled found party w) ≡ change_of (option_map_or (λ t. settled_wanted t.place party t w.state) found Course.Stays)
  unfolding settled
  settled_all None is = refl
  settled_all (Some t) is = settled_wants party w t (owned_there party w.state t is) t.place

-- What is tried again

asked_for : (change : Option Change) → change ≡ change_of (asking_for change)
asked_for None = refl
asked_for (Some change) = refl

resumes : (found : Option Transaction) (w : Work) → wanted (resume found w) ≡ change_of (option_map_or resume_wanted found Course.Stays)
unfolding resume
resumes None w = refl
resumes (Some t) w = step (is_committed t.phase) where
  over : (done : Bool) → is_done t ≡ done → wanted (cond done (finish t w) (Attempt.Done (refuse Busy w))) ≡ change_of (asking_for (finished (outlook t)))
  over true is = finish_wants t w ∙ asked_for (finished (outlook t))
  over false is = sym (ap (λ b. change_of (asking_for (cond b (Some (Remove t.key)) None))) (sym (over_done t) ∙ is))

  at : (place : PartyPlace) → wanted (resume_in place t w) ≡ change_of (resumed_at place t)
  at (Here party) = refl
  at (Out errand) = refl
  at Spent = over (is_done t) refl

  step : (b : Bool) → wanted (cond b (resume_in t.place t w) (Attempt.Done (refuse NotActive w))) ≡ change_of (cond b (resumed_at t.place t) Course.Stays)
  step true = at t.place
  step false = refl

-- Any event

attempt_wants : (event : Event) (w : Work) → wanted (attempt event w) ≡ change_of (foreseen event w.state)
attempt_wants (Open boxes) w = refl
attempt_wants (Dial address purpose boxes) w = refl
attempt_wants (Line seat heard) w = line_wants heard w (seated seat w.state) (seated_there seat w.state)
attempt_wants (Voted party) w = voted_wants party w (owner party w.state) refl
attempt_wants (Settled party) w = settled_all party w (owner party w.state) refl
attempt_wants (Lost seat) w = refl
attempt_wants (AskPush seat id) w = refl
attempt_wants (AskPull seat superior) w = refl
attempt_wants (Resume id) w = resumes (identified_by id w.state) w

-- reading sees neither entries nor the answer
module _ (state : State) where
  command_before : (line : ACommand) (c : Connection) → command_wanted line c (entered state).state ≡ command_wanted line c state
  command_before (commands.Identify lowest highest primary secondary) c = refl
  command_before commands.Begin c = refl
  command_before (commands.Push superior) c = refl
  command_before (commands.Pull superior subordinate) c = refl
  command_before commands.Prepare c = refl
  command_before commands.Commit c = refl
  command_before commands.Abort c = refl
  command_before (commands.Query superior) c = refl
  command_before (commands.Reconnect subordinate) c = refl
  command_before (commands.Multiplex protocol) c = refl
  command_before commands.Tls c = refl
  command_before commands.Error c = refl

  part_before : (n : Note) (place : Option (Key × ℕ)) → wanted_of_part n place (entered state).state ≡ wanted_of_part n place state
  part_before n None = refl
  part_before n (Some place) = refl

  answer_before : (n : Option Note) (c : Connection) → answer_wanted n c (entered state).state ≡ answer_wanted n c state
  answer_before None c = refl
  answer_before (Some n) c = part_before n (part_of c.role)

  query_before : (exists : Option Bool) (key : Key) (c : Connection) → query_wanted exists key c (entered state).state ≡ query_wanted exists key c state
  query_before None key c = refl
  query_before (Some true) key c = refl
  query_before (Some false) key c = refl

  said_before : (kind : Awaits) (said : AResponse) (c : Connection) → said_wanted kind said c (entered state).state ≡ said_wanted kind said c state
  said_before awaits.Nothing said c = refl
  said_before (awaits.OfPart name) said c = answer_before (note_of c.awaited said) c
  said_before awaits.Identified said c = refl
  said_before awaits.ToAsk said c = refl
  said_before awaits.ToReach said c = refl
  said_before awaits.Pulled said c = refl
  said_before (awaits.Queried key) said c = query_before (exists_of said) key c

  taken_before : (side : Side) (heard : Heard) (c : Connection) → taken_wanted side heard c (entered state).state ≡ taken_wanted side heard c state
  taken_before Secondary (Command line) c = ap (λ course. cond (is_admitted (admit_of c.state c.side (name_of line))) course Course.Stays) (command_before line c)
  taken_before Primary (Command line) c = refl
  taken_before Secondary (Response said) c = refl
  taken_before Primary (Response said) c = said_before (awaits_of c.awaited) said c
  taken_before Secondary Malformed c = refl
  taken_before Primary Malformed c = refl

  vote_before : (place : PartyPlace) (party : PartyNotes) (t : Transaction) → vote_wanted place party t (entered state).state ≡ vote_wanted place party t state
  vote_before (Here other) party t = refl
  vote_before (Out errand.Idle) party t = refl
  vote_before (Out errand.Vote) party t = refl
  vote_before (Out errand.Commit) party t = refl
  vote_before (Out errand.Abort) party t = refl
  vote_before Spent party t = refl

  settled_before : (place : PartyPlace) (party : PartyNotes) (t : Transaction) → settled_wanted place party t (entered state).state ≡ settled_wanted place party t state
  settled_before (Here other) party t = refl
  settled_before (Out errand.Idle) party t = refl
  settled_before (Out errand.Vote) party t = refl
  settled_before (Out errand.Commit) party t = refl
  settled_before (Out errand.Abort) party t = refl
  settled_before Spent party t = refl

  pub seen_before : (event : Event) → foreseen event (entered state).state ≡ foreseen event state
  seen_before (Open boxes) = refl
  seen_before (Dial address purpose boxes) = refl
  seen_before (Line seat heard) = by (seated seat state) where
    by : (found : Option Connection) → option_map_or (λ c. line_wanted heard c (entered state).state) found Course.Stays ≡ option_map_or (λ c. line_wanted heard c state) found Course.Stays
    by None = refl
    by (Some c) = ap (λ course. cond (may_take c) course Course.Stays) (taken_before c.side heard c)
  seen_before (Voted party) = by (owner party state) where
    by : (found : Option Transaction) → option_map_or (λ t. vote_wanted t.place party t (entered state).state) found Course.Stays ≡ option_map_or (λ t. vote_wanted t.place party t state) found Course.Stays
    by None = refl
    by (Some t) = vote_before t.place party t
  seen_before (Settled party) = by (owner party state) where
    by : (found : Option Transaction) → option_map_or (λ t. settled_wanted t.place party t (entered state).state) found Course.Stays ≡ option_map_or (λ t. settled_wanted t.place party t state) found Course.Stays
    by None = refl
    by (Some t) = settled_before t.place party t
  seen_before (Lost seat) = refl
  seen_before (AskPush seat id) = refl
  seen_before (AskPull seat superior) = refl
  seen_before (Resume id) = refl

-- the change of what was read ahead is the one that is wanted
pub wants_here : (state : State) (event : Event) (next : Next) → is_open state ≡ true → Meets (foreseen event state) next → next.change ≡ wants state event
wants_here state event next is meets = sym (ap (λ b. cond b (wanted (attempt event (entered state))) None) is ∙ attempt_wants event (entered state) ∙ ap change_of (seen_before state event) ∙ sym meets.change)

pub wants_frozen : (state : State) (event : Event) → is_open state ≡ false → wants state event ≡ None
wants_frozen state event is = ap (λ b. cond b (wanted (attempt event (entered state))) None) is

pub ruleset wanting = (wants_frozen)
