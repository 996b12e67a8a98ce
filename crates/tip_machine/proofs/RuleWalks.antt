-- Each rule keeps what each single change keeps.
use Rattle.std.proofs.Common.{◌≡◌, Bool, true, false, ℕ, List, Option, Some, None, cond, refl}
use Rattle.std.specs.Prelude.{◌&&◌, nat_le, not, find, is_some}
use Rattle.std.specs.List.{list_any}
use Rattle.std.specs.Option.{IfSome, option_and_then, option_map_or}
use Rattle.std.proofs.lemmas.Option.{none-some}
use Rattle.tip_branch.specs.declared.member.Errand.TheVariants as errand
use Rattle.tip_line.specs.Command.{name_of}
use Rattle.tip_line.specs.declared.command.Command.{Command}
use Rattle.tip_line.specs.declared.command.Command.TheVariants.{Identify, Begin, Push, Pull, Prepare, Commit, Abort, Query, Reconnect, Multiplex, Tls, Error}
use Rattle.tip_line.specs.declared.command.CommandName.{CommandName}
use Rattle.tip_line.specs.declared.command.CommandName.TheVariants as command
use Rattle.tip_line.specs.declared.response.ResponseName.{ResponseName}
use Rattle.tip_conn.specs.Table.{admit_of, next_of}
use Rattle.tip_conn.specs.declared.state.Admit.{Admit}
use Rattle.tip_conn.specs.declared.state.Admit.TheVariants.{Serve, Wrong}
use Rattle.tip_conn.specs.declared.state.State.{State as ConnectionState}
use Rattle.tip_conn.specs.declared.state.Turn.{Turn}
use Rattle.tip_rows.specs.Keys.{Key}
use Rattle.tip_txn.specs.Parts.{answer_at, answered, is_enlisted}
use Rattle.tip_txn.specs.declared.answer.Ballot.TheVariants.{Lost}
use Rattle.tip_txn.specs.declared.answer.Decision.{Decision}
use Rattle.tip_txn.specs.declared.answer.Decision.TheVariants as decision
use Rattle.tip_txn.specs.declared.answer.Phase.{Phase}
use Rattle.tip_txn.specs.declared.answer.Phase.TheVariants as phase
use Rattle.tip_txn.specs.declared.part.Participant.{Participant}
use Rattle.tip_machine.specs.Types.{Connection, PartyPlace, Transaction}
use Rattle.tip_machine.specs.Answers.{key_asked, key_said, response_name}
use Rattle.tip_machine.specs.Connections.{is_on, is_superior_of, key_of, advanced, advanced_to, identified, awaiting, owing, taking}
use Rattle.tip_machine.specs.Transactions.{decision_of, enlisting, entering, has_key, has_ready, is_active, is_done, is_known, is_prepared, is_spent, next_key, noting}
use Rattle.tip_machine.specs.States.{Attempt, State, Work, connection_of, has_room, identified_by, transaction_of}
use Rattle.tip_machine.specs.Changes.{alter, change, end, reply, send, tell}
use Rattle.tip_machine.specs.Reactions.{aborts, asks, commits, needs_nothing, promises, react}
use Rattle.tip_machine.specs.Proceeding.{abort, agree, ask, asked_for_votes, commit, conclude, dispatch, dispatched, enter, errand_in, finish, give_out, leave, let_go, owed_to_superior, promise, release, proceed, proceed_in, wait}
use Rattle.tip_machine.specs.Failing.{closed, fail, gone, lost_unanswered, missed, part_lost, superior_lost, wrong}
use Rattle.tip_machine.specs.Commands.{begin, commanded, decide_abort, decide_commit, exists, identify, make, obey, prepare, pull, pull_into, push, push_new, query, reconnect, reconnect_to, serve, serve_if, superior_role, take_over}
use Rattle.tip_machine.specs.declared.answer.Asked.{Asked}
use Rattle.tip_machine.specs.declared.answer.Item.TheVariants.{Say, Ask, Close}
use Rattle.tip_machine.specs.declared.answer.Said.{Said}
use Rattle.tip_machine.specs.declared.answer.Said.TheVariants as said
use Rattle.tip_machine.specs.declared.connection.Awaited.{Awaited}
use Rattle.tip_machine.specs.declared.connection.Role.{Role}
use Rattle.tip_machine.specs.declared.connection.Role.TheVariants.{Superior, Subordinate}
use Rattle.tip_machine.specs.declared.transaction.Origin.{Origin}
use Rattle.tip_machine.specs.declared.transaction.Origin.TheVariants as origin
use Rattle.tip_machine.specs.declared.transaction.PartyPlace.TheVariants.{Here, Out, Spent}
use Rattle.tip_machine.proofs.Walks.{AtOne, Closed, EndsAtOne, EndsOn, Is, IsHere, IsPlain, at_one, attempt_on_each, either, either_attempt, found_changed, found_passes, is_or_any, more_on, on_asked, on_each, on_found, or_any, there_by_key}

advanced_to-number : (place : Option (ConnectionState × Turn)) (c : Connection) → (advanced_to place c).number ≡ c.number
advanced_to-number None c = refl
advanced_to-number (Some place) c = refl

pub advanced-number : (command : CommandName) (response : ResponseName) (c : Connection) → (advanced command response c).number ≡ c.number
advanced-number command response c = advanced_to-number (next_of command c.state response) c

advanced_to-made : (place : Option (ConnectionState × Turn)) (c : Connection) → (advanced_to place c).made ≡ c.made
advanced_to-made None c = refl
advanced_to-made (Some place) c = refl

pub advanced-made : (command : CommandName) (response : ResponseName) (c : Connection) → (advanced command response c).made ≡ c.made
advanced-made command response c = advanced_to-made (next_of command c.state response) c

-- Each reaction is plain

plain_asks : IsPlain asks
plain_asks = record { owed = λ command. tt; enlisted = λ key. refl; prepared = λ key. tt }

plain_promises : IsPlain promises
plain_promises = record { owed = λ command. refl; enlisted = λ key. tt; prepared = λ key. tt }

plain_leaves : (command : CommandName) → IfSome (needs_nothing.owed command) (λ said. key_said said ≡ None)
plain_leaves command.Prepare = refl
plain_leaves command.Commit = refl
plain_leaves other = tt

plain_needs_nothing : IsPlain needs_nothing
plain_needs_nothing = record { owed = plain_leaves; enlisted = λ key. tt; prepared = λ key. tt }

plain_commits : IsPlain commits
plain_commits = record { owed = λ command. refl; enlisted = λ key. tt; prepared = λ key. refl }

plain_aborts : IsPlain aborts
plain_aborts = record { owed = λ command. refl; enlisted = λ key. refl; prepared = λ key. refl }

module _ (R : Work → Work → Type 0) (May : ℕ → Type 0) (On : Key → Type 0) (k : Closed R May On) where
  -- Steps of work

  reply-keeps : (n : ℕ) (command : CommandName) (said : Said) (w : Work) → May n → IfSome (key_said said) On → R w (reply n command said w)
  unfolding reply
  reply-keeps n command said w may of = k.then w _ _ (k.tells n (Say said) w may of) (k.changes n (advanced command (response_name said)) _ may (advanced-number command (response_name said)) (advanced-made command (response_name said)))

  pub send-keeps : (n : ℕ) (awaited : Awaited) (asked : Asked) (w : Work) → May n → IfSome (key_asked asked) On → R w (send n awaited asked w)
  unfolding send
  send-keeps n awaited asked w may of = k.then w _ _ (k.tells n (Ask asked) w may of) (k.changes n (awaiting awaited) _ may (λ c. refl) (λ c. refl))

  pub taking-keeps : (n : ℕ) (role : Role) (w : Work) → May n → R w (change n (taking role) w)
  taking-keeps n role w may = k.changes n (taking role) w may (λ c. refl) (λ c. refl)

  pub noting-keeps : (part : ℕ) (note : Participant → Participant) (key : Key) (w : Work) → On key → R w (alter key (noting part note) w)
  noting-keeps part note key w on = k.alters key (noting part note) w on (λ t. refl) (λ t. refl)

  pub enlisting-keeps : (part : Participant) (key : Key) (w : Work) → On key → R w (alter key (enlisting part) w)
  enlisting-keeps part key w on = k.alters key (enlisting part) w on (λ t. refl) (λ t. refl)

  -- Two-phase commit

  enter-keeps : (phase : Phase) (key : Key) (w : Work) → On key → R w (enter phase key w)
  enter-keeps phase key w on = k.alters key (entering phase) w on (λ t. refl) (λ t. refl)

  dispatched-keeps : (t : Transaction) (place : PartyPlace) (key : Key) (w : Work) → On key → transaction_of key w.state ≡ Some t → t.place ≡ place → R w (dispatched place t.phase key w)
  dispatched-keeps t (Here party) key w on is at =
      let here : IsHere key party w.state = record { transaction = t; found = is; place = at } in
      either (R w) (has_ready party) (give_out (errand_in t.phase) party key w) (let_go party key w) (k.gives (errand_in t.phase) party key w on here) (k.lets party key w on here)
  dispatched-keeps t (Out errand) key w on is at = k.same w
  dispatched-keeps t Spent key w on is at = k.same w

  pub dispatch-keeps : (key : Key) (w : Work) → On key → R w (dispatch key w)
  unfolding dispatch
  dispatch-keeps key w on = on_each (R w) (transaction_of key w.state) (λ t. dispatched t.place t.phase key) w (k.same w) (λ t is. dispatched-keeps t t.place key w on is refl)

  release-keeps : (key : Key) (w : Work) → On key → R w (release key w)
  unfolding release
  release-keeps key w on = on_each (R w) (transaction_of key w.state) _ w (k.same w) (λ t is. either (R w) (is_spent t.place && not (list_any (is_on key) w.state.connections)) (end key w) w (k.ends key w on) (k.same w))

  pub abort-keeps : (key : Key) (w : Work) → On key → R w (abort key w)
  unfolding abort
  abort-keeps key w on =
      let entered = enter phase.Aborted key w in
      let told = react aborts key entered in
      let sent = dispatch key told in
      k.then w entered _ (enter-keeps phase.Aborted key w on) (k.then entered told _ (k.reacts aborts key entered plain_aborts on) (k.then told sent _ (dispatch-keeps key told on) (release-keeps key sent on)))

  commit-keeps : (key : Key) (w : Work) → On key → R w (commit key w)
  unfolding commit
  commit-keeps key w on =
      let entered = enter phase.Committed key w in
      let told = react commits key entered in
      k.then w entered _ (enter-keeps phase.Committed key w on) (k.then entered told _ (k.reacts commits key entered plain_commits on) (dispatch-keeps key told on))

  promise-keeps : (key : Key) (w : Work) → On key → R w (promise key w)
  unfolding promise
  promise-keeps key w on = k.then w (enter phase.Prepared key w) _ (enter-keeps phase.Prepared key w on) (k.reacts promises key _ plain_promises on)

  leave-keeps : (key : Key) (w : Work) → On key → R w (leave key w)
  unfolding leave
  leave-keeps key w on =
      let told = react needs_nothing key w in
      k.then w told _ (k.reacts needs_nothing key w plain_needs_nothing on) (k.then told (dispatch key told) _ (dispatch-keeps key told on) (k.ends key _ on))

  agree-keeps : (owed : Option CommandName) (from : Origin) (t : Transaction) (w : Work) → On t.key → EndsOn On (R w) (agree owed from t w)
  agree-keeps (Some command.Prepare) (origin.Subordinate (Some address) superior) t w on = (on, promise-keeps t.key w on, abort-keeps t.key w on)
  agree-keeps (Some command.Commit) from t w on = (on, commit-keeps t.key w on, abort-keeps t.key w on)
  agree-keeps other from t w on = k.same w

  wait-keeps : (phase : Phase) (key : Key) (w : Work) → On key → R w (wait phase key w)
  wait-keeps phase.Asking key w on = k.reacts asks key w plain_asks on
  wait-keeps other key w on = k.same w

  conclude-keeps : (decision : Decision) (t : Transaction) (w : Work) → On t.key → EndsOn On (R w) (conclude decision t w)
  conclude-keeps decision.Wait t w on = wait-keeps t.phase t.key w on
  conclude-keeps decision.Commit t w on = agree-keeps (owed_to_superior t.key w.state) t.origin t w on
  conclude-keeps decision.Abort t w on = abort-keeps t.key w on
  conclude-keeps decision.ReadOnly t w on = leave-keeps t.key w on

  pub finish-keeps : (v : Work) (t : Transaction) (w : Work) → On t.key → R v w → EndsOn On (R v) (finish t w)
  unfolding finish
  finish-keeps v t w on r = either_attempt (EndsOn On (R v)) (is_done t) _ _ (on, k.then v w _ r (k.ends t.key w on), r) r

  proceed_in-keeps : (phase : Phase) (t : Transaction) (w : Work) → On t.key → EndsOn On (R w) (proceed_in phase t w)
  proceed_in-keeps phase.Active t w on = conclude-keeps (decision_of t) t w on
  proceed_in-keeps phase.Asking t w on = conclude-keeps (decision_of t) t w on
  proceed_in-keeps phase.Prepared t w on = k.same w
  proceed_in-keeps phase.Committed t w on = finish-keeps w t (react commits t.key w) on (k.reacts commits t.key w plain_commits on)
  proceed_in-keeps phase.Aborted t w on = abort-keeps t.key w on

  proceed-here : (key : Key) (w : Work) → On key → EndsOn On (R w) (proceed key w)
  unfolding proceed
  proceed-here key w on = attempt_on_each (EndsOn On (R w)) (transaction_of key w.state) (λ t. proceed_in t.phase t) w (k.same w) (λ t is. proceed_in-keeps t.phase t w (on_found On key w.state.transactions t is on))

  -- what keeps what was kept
  more : (a : Attempt) (v w : Work) → R v w → EndsOn On (R w) a → EndsOn On (R v) a
  more a v w r p = more_on On (R w) (R v) (λ u. k.then v w u r) a p

  pub proceed-keeps : (v : Work) (key : Key) (w : Work) → On key → R v w → EndsOn On (R v) (proceed key w)
  proceed-keeps v key w on r = more (proceed key w) v w r (proceed-here key w on)

  asked-keeps : (t : Transaction) (place : PartyPlace) (key : Key) (w : Work) → On key → transaction_of key w.state ≡ Some t → t.place ≡ place → R w (asked_for_votes place key w)
  asked-keeps t (Here party) key w on is at = k.gives errand.Vote party key w on (record { transaction = t; found = is; place = at })
  asked-keeps t (Out errand) key w on is at = k.same w
  asked-keeps t Spent key w on is at = k.same w

  ask-keeps : (t : Transaction) (w : Work) → On t.key → transaction_of t.key w.state ≡ Some t → EndsOn On (R w) (ask t w)
  unfolding ask
  ask-keeps t w on is =
      let entered = enter phase.Asking t.key w in
      let there : transaction_of t.key entered.state ≡ Some (entering phase.Asking t) = found_changed t.key (entering phase.Asking) w.state.transactions t is (found_passes (has_key t.key) w.state.transactions t is) in
      proceed-keeps w t.key (asked_for_votes t.place t.key entered) on (k.then w entered _ (enter-keeps phase.Asking t.key w on) (asked-keeps (entering phase.Asking t) t.place t.key entered on there refl))

  -- Failing and closing

  gone-keeps : (c : Connection) (w : Work) → May c.number → R w (gone c w)
  unfolding gone
  gone-keeps c w may = k.then w _ _ (k.takes c.number w may) (k.hands _ _)

  displaced-keeps : (key : Key) (c : Connection) (w v : Work) → On key → find (is_superior_of key) w.state.connections ≡ Some c → R w v → R w (gone c v)
  unfolding gone
  displaced-keeps key c w v on is r = k.then w _ _ (k.displaces key c w v on is r) (k.hands _ _)

  superior_lost-keeps : (phase : Phase) (key : Key) (w : Work) → On key → R w (superior_lost phase key w)
  superior_lost-keeps phase.Active key w on = abort-keeps key w on
  superior_lost-keeps phase.Asking key w on = abort-keeps key w on
  superior_lost-keeps phase.Prepared key w on = k.same w
  superior_lost-keeps phase.Committed key w on = k.same w
  superior_lost-keeps phase.Aborted key w on = abort-keeps key w on

  unanswered-keeps : (part : ℕ) (t : Transaction) (w : Work) → On t.key → R w (lost_unanswered part t w)
  unanswered-keeps part t w on =
      let noted = alter t.key (noting part (answered Lost)) w in
      either (R w) (is_some (answer_at t.parts part)) w (abort t.key noted) (k.same w) (k.then w noted _ (noting-keeps part (answered Lost) t.key w on) (abort-keeps t.key noted on))

  part_lost-keeps : (phase : Phase) (part : ℕ) (t : Transaction) (w : Work) → On t.key → R w (part_lost phase part t w)
  part_lost-keeps phase.Active part t w on = unanswered-keeps part t w on
  part_lost-keeps phase.Asking part t w on = unanswered-keeps part t w on
  part_lost-keeps phase.Prepared part t w on = k.same w
  part_lost-keeps phase.Committed part t w on = k.same w
  part_lost-keeps phase.Aborted part t w on = abort-keeps t.key w on

  missed-keeps : (role : Option Role) (w : Work) → IfSome (key_of role) On → R w (missed role w)
  missed-keeps None w on = k.same w
  missed-keeps (Some (Superior key)) w on = on_each (R w) (transaction_of key w.state) _ w (k.same w) (λ t is. superior_lost-keeps t.phase key w on)
  missed-keeps (Some (Subordinate key part)) w on = on_each (R w) (transaction_of key w.state) _ w (k.same w) (λ t is. part_lost-keeps t.phase part t w (on_found On key w.state.transactions t is on))

  -- where it may be gone, it may fail
  fail_from : (c : Connection) (v w : Work) → IfSome (key_of c.role) On → R v (gone c w) → R v (fail c w)
  unfolding fail
  fail_from c v w on r = k.then v (gone c w) _ r (missed-keeps c.role (gone c w) on)

  pub fail-keeps : (c : Connection) (w : Work) → May c.number → IfSome (key_of c.role) On → R w (fail c w)
  fail-keeps c w may on = fail_from c w w on (gone-keeps c w may)

  pub closed-keeps : (c : Connection) (w : Work) → May c.number → IfSome (key_of c.role) On → R w (closed c w)
  unfolding closed
  closed-keeps c w may on = k.then w _ _ (k.tells c.number Close w may tt) (fail-keeps c _ may on)

  closed_earlier : (key : Key) (c : Connection) (w v : Work) → On key → find (is_superior_of key) w.state.connections ≡ Some c → R w v → R w (closed c v)
  unfolding closed
  closed_earlier key c w v on is r =
      let told = tell c.number Close v in
      fail_from c w told (on_asked On key c.role (found_passes (is_superior_of key) w.state.connections c is) on) (displaced-keeps key c w told on is (k.dismisses key c w v on is r))

  pub wrong-keeps : (c : Connection) (w : Work) → May c.number → IfSome (key_of c.role) On → R w (wrong c w)
  unfolding wrong
  wrong-keeps c w may on = k.then w _ _ (k.tells c.number (Say said.Error) w may tt) (closed-keeps c _ may on)

  -- Commands

  pub identify-keeps : (lowest highest : ℕ) (peer : Option (List ℕ)) (c : Connection) (w : Work) → May c.number → IfSome (key_of c.role) On → R w (identify lowest highest peer c w)
  unfolding identify
  identify-keeps lowest highest peer c w may on = either (R w) (nat_le lowest 3 && nat_le 3 highest) _ (wrong c w) (k.then w _ _ (k.tells c.number (Say said.Identified) w may tt) (k.changes c.number (identified peer) _ may (advanced-number _ _) (advanced-made _ _))) (wrong-keeps c w may on)

  begin-keeps : (c : Connection) (w : Work) → May c.number → On (next_key w.state.head c) → connection_of c.number w.state ≡ Some c → R w (begin c w)
  unfolding begin
  begin-keeps c w may on is = either (R w) (has_room c w.state) _ _ (k.then w (make origin.Root c w) _ (k.makes origin.Root c w may on is) (reply-keeps c.number _ _ _ may on)) (reply-keeps c.number _ _ w may tt)

  push_new-keeps : (superior : List ℕ) (c : Connection) (w : Work) → May c.number → On (next_key w.state.head c) → connection_of c.number w.state ≡ Some c → R w (push_new superior c w)
  push_new-keeps superior c w may on is = either (R w) (has_room c w.state) _ _ (k.then w (make (origin.Subordinate c.peer superior) c w) _ (k.makes _ c w may on is) (reply-keeps c.number _ _ _ may on)) (reply-keeps c.number _ _ w may tt)

  known-keeps : (t : Transaction) (c : Connection) (w : Work) → May c.number → On t.key → R w (reply c.number command.Push (said.AlreadyPushed t.key) w)
  known-keeps t c w may on = reply-keeps c.number command.Push (said.AlreadyPushed t.key) w may on

  pull_into-keeps : (found : Option Transaction) (peer : Option (List ℕ)) (subordinate : List ℕ) (n : ℕ) (w : Work) → May n → IfSome found (λ t. On t.key) → R w (pull_into found peer subordinate n w)
  pull_into-keeps (Some t) (Some address) subordinate n w may on =
      either (R w) (is_active t.phase && not (is_enlisted t.parts address (Some subordinate))) _ _
      (k.then w _ _ (reply-keeps n _ _ w may tt) (k.then _ _ _ (enlisting-keeps _ t.key _ on) (taking-keeps n _ _ may)))
      (reply-keeps n _ _ w may tt)
  pull_into-keeps None peer subordinate n w may on = reply-keeps n _ _ w may tt
  pull_into-keeps (Some t) None subordinate n w may on = reply-keeps n _ _ w may tt

  either_said : (b : Bool) → IfSome (key_said (cond b said.QueriedExists said.QueriedNotFound)) On
  either_said true = tt
  either_said false = tt

  pub query-keeps : (superior : List ℕ) (c : Connection) (w : Work) → May c.number → R w (query superior c w)
  unfolding query
  query-keeps superior c w may = reply-keeps c.number _ _ w may (either_said (option_map_or exists (identified_by superior w.state) false))

  reconnected-keeps : (key : Key) (n : ℕ) (w : Work) → May n → R w (change n (taking (Superior key)) (reply n command.Reconnect said.Reconnected w))
  reconnected-keeps key n w may = k.then w _ _ (reply-keeps n _ _ w may tt) (taking-keeps n _ _ may)

  take_over-keeps : (key : Key) (n : ℕ) (earlier : Option Connection) (w : Work) → find (is_superior_of key) w.state.connections ≡ earlier → May n → On key → R w (take_over key n earlier w)
  take_over-keeps key n None w is may on = reconnected-keeps key n w may
  take_over-keeps key n (Some c) w is may on = closed_earlier key c w _ on is (reconnected-keeps key n w may)

  pub reconnect_to-keeps : (found : Option Transaction) (n : ℕ) (w : Work) → May n → IfSome found (λ t. On t.key) → R w (reconnect_to found n w)
  reconnect_to-keeps None n w may on = reply-keeps n _ _ w may tt
  reconnect_to-keeps (Some t) n w may on = either (R w) (is_prepared t.phase) (take_over t.key n (find (is_superior_of t.key) w.state.connections) w) _ (take_over-keeps t.key n _ w refl may on) (reply-keeps n _ _ w may tt)

  pub prepare-keeps : (phase : Phase) (peer : Option (List ℕ)) (c : Connection) (t : Transaction) (w : Work) → On t.key → transaction_of t.key w.state ≡ Some t → EndsOn On (R w) (prepare phase peer c t w)
  prepare-keeps phase.Active (Some address) c t w on is = ask-keeps t w on is
  prepare-keeps phase.Active None c t w on is = abort-keeps t.key w on
  prepare-keeps phase.Asking peer c t w on is = k.same w
  prepare-keeps phase.Prepared peer c t w on is = k.same w
  prepare-keeps phase.Committed peer c t w on is = k.same w
  prepare-keeps phase.Aborted peer c t w on is = abort-keeps t.key w on

  pub decide_commit-keeps : (phase : Phase) (c : Connection) (t : Transaction) (w : Work) → May c.number → IfSome (key_of c.role) On → On t.key → transaction_of t.key w.state ≡ Some t → EndsOn On (R w) (decide_commit phase c t w)
  decide_commit-keeps phase.Active c t w may role on is = ask-keeps t w on is
  decide_commit-keeps phase.Asking c t w may role on is = k.same w
  decide_commit-keeps phase.Prepared c t w may role on is = (on, commit-keeps t.key w on, closed-keeps c w may role)
  decide_commit-keeps phase.Committed c t w may role on is = k.same w
  decide_commit-keeps phase.Aborted c t w may role on is = abort-keeps t.key w on

  pub decide_abort-keeps : (phase : Phase) (c : Connection) (t : Transaction) (w : Work) → May c.number → IfSome (key_of c.role) On → On t.key → EndsOn On (R w) (decide_abort phase c t w)
  decide_abort-keeps phase.Active c t w may role on = abort-keeps t.key w on
  decide_abort-keeps phase.Asking c t w may role on = k.same w
  decide_abort-keeps phase.Prepared c t w may role on = (on, abort-keeps t.key w on, closed-keeps c w may role)
  decide_abort-keeps phase.Committed c t w may role on = k.same w
  decide_abort-keeps phase.Aborted c t w may role on = abort-keeps t.key w on

  on_obeyed : (role : Option Role) (state : State) (t : Transaction) → option_and_then (λ key. transaction_of key state) (superior_role role) ≡ Some t → IfSome (key_of role) On → On t.key
  on_obeyed None state t is on = absurd (none-some t is)
  on_obeyed (Some (Superior key)) state t is on = on_found On key state.transactions t is on
  on_obeyed (Some (Subordinate key part)) state t is on = absurd (none-some t is)

  there_obeyed : (role : Option Role) (state : State) (t : Transaction) → option_and_then (λ key. transaction_of key state) (superior_role role) ≡ Some t → transaction_of t.key state ≡ Some t
  there_obeyed None state t is = absurd (none-some t is)
  there_obeyed (Some (Superior key)) state t is = there_by_key key state.transactions t is
  there_obeyed (Some (Subordinate key part)) state t is = absurd (none-some t is)

  pub obey-keeps : (command : CommandName) (rule : Transaction → Work → Attempt) (c : Connection) (w : Work) → May c.number → IfSome (key_of c.role) On → ((t : Transaction) (v : Work) → On t.key → transaction_of t.key v.state ≡ Some t → EndsOn On (R v) (rule t v)) → EndsOn On (R w) (obey command rule c w)
  obey-keeps command rule c w may on keeps =
      let owed = change c.number (owing command) w in
      more (obey command rule c w) w owed (k.changes c.number (owing command) w may (λ c. refl) (λ c. refl)) (attempt_on_each (EndsOn On (R owed)) (option_and_then (λ key. transaction_of key owed.state) (superior_role c.role)) rule owed (k.same owed) (λ t is. keeps t owed (on_obeyed c.role owed.state t is on) (there_obeyed c.role owed.state t is)))

-- Any command, where what is touched is the transaction of some one key
module _ (R : Key → Work → Work → Type 0) (May : ℕ → Type 0) (k : (key : Key) → Closed (R key) May (Is key)) where
  replied : (c : Connection) (command : CommandName) (said : Said) (w : Work) → May c.number → IfSome (key_said said) (Is (or_any None)) → AtOne R w (reply c.number command said w)
  replied c command said w may of = let key = or_any None in (key, reply-keeps (R key) May (Is key) (k key) c.number command said w may of)

  pub closes : (c : Connection) (w : Work) → May c.number → AtOne R w (closed c w)
  closes c w may = let key = or_any (key_of c.role) in (key, closed-keeps (R key) May (Is key) (k key) c w may (is_or_any (key_of c.role)))

  pub goes_wrong : (c : Connection) (w : Work) → May c.number → AtOne R w (wrong c w)
  goes_wrong c w may = let key = or_any (key_of c.role) in (key, wrong-keeps (R key) May (Is key) (k key) c w may (is_or_any (key_of c.role)))

  identifies : (lowest highest : ℕ) (peer : Option (List ℕ)) (c : Connection) (w : Work) → May c.number → AtOne R w (identify lowest highest peer c w)
  identifies lowest highest peer c w may = let key = or_any (key_of c.role) in (key, identify-keeps (R key) May (Is key) (k key) lowest highest peer c w may (is_or_any (key_of c.role)))

  begins : (c : Connection) (w : Work) → May c.number → connection_of c.number w.state ≡ Some c → AtOne R w (begin c w)
  begins c w may is = let key = next_key w.state.head c in (key, begin-keeps (R key) May (Is key) (k key) c w may refl is)

  pushes_to : (found : Option Transaction) (superior : List ℕ) (c : Connection) (w : Work) → May c.number → connection_of c.number w.state ≡ Some c → AtOne R w (option_map_or (λ t. reply c.number command.Push (said.AlreadyPushed t.key) w) found (push_new superior c w))
  pushes_to None superior c w may is = let key = next_key w.state.head c in (key, push_new-keeps (R key) May (Is key) (k key) superior c w may refl is)
  pushes_to (Some t) superior c w may is = (t.key, known-keeps (R t.key) May (Is t.key) (k t.key) t c w may refl)

  pushes : (superior : List ℕ) (c : Connection) (w : Work) → May c.number → connection_of c.number w.state ≡ Some c → AtOne R w (push superior c w)
  unfolding push
  pushes superior c w may is = pushes_to (find (is_known c.peer superior) w.state.transactions) superior c w may is

  -- what is done with the transaction that was found
  for_found : (found : Option Transaction) (w v : Work) → ((key : Key) → IfSome found (λ t. t.key ≡ key) → R key w v) → AtOne R w v
  for_found None w v keeps = let key = or_any None in (key, keeps key tt)
  for_found (Some t) w v keeps = (t.key, keeps t.key refl)

  pulls : (superior subordinate : List ℕ) (c : Connection) (w : Work) → May c.number → AtOne R w (pull superior subordinate c w)
  unfolding pull
  pulls superior subordinate c w may = let found = identified_by superior w.state in for_found found w _ (λ key on. pull_into-keeps (R key) May (Is key) (k key) found c.peer subordinate c.number w may on)

  reconnects : (subordinate : List ℕ) (c : Connection) (w : Work) → May c.number → AtOne R w (reconnect subordinate c w)
  unfolding reconnect
  reconnects subordinate c w may = let found = identified_by subordinate w.state in for_found found w _ (λ key on. reconnect_to-keeps (R key) May (Is key) (k key) found c.number w may on)

  -- a rule of the superior's transaction
  obeys : (command : CommandName) (rule : Transaction → Work → Attempt) (c : Connection) (w : Work) → May c.number → ((key : Key) → IfSome (key_of c.role) (Is key) → (t : Transaction) (v : Work) → t.key ≡ key → transaction_of t.key v.state ≡ Some t → EndsOn (Is key) (R key v) (rule t v)) → EndsAtOne R w (obey command rule c w)
  obeys command rule c w may keeps =
      let key = or_any (key_of c.role) in
      let on = is_or_any (key_of c.role) in
      at_one R w key (obey command rule c w) (obey-keeps (R key) May (Is key) (k key) command rule c w may on (keeps key on))

  serves : (command : Command) (c : Connection) (w : Work) → May c.number → connection_of c.number w.state ≡ Some c → EndsAtOne R w (serve command c w)
  serves (Identify lowest highest peer secondary) c w may is = identifies lowest highest peer c w may
  serves Begin c w may is = begins c w may is
  serves (Push superior) c w may is = pushes superior c w may is
  serves (Pull superior subordinate) c w may is = pulls superior subordinate c w may
  serves Prepare c w may is = obeys command.Prepare _ c w may (λ key role t v on is. prepare-keeps (R key) May (Is key) (k key) t.phase c.peer c t v on is)
  serves Commit c w may is = obeys command.Commit _ c w may (λ key role t v on is. decide_commit-keeps (R key) May (Is key) (k key) t.phase c t v may role on is)
  serves Abort c w may is = obeys command.Abort _ c w may (λ key role t v on is. decide_abort-keeps (R key) May (Is key) (k key) t.phase c t v may role on)
  serves (Query superior) c w may is = let key = or_any None in (key, query-keeps (R key) May (Is key) (k key) superior c w may)
  serves (Reconnect subordinate) c w may is = reconnects subordinate c w may
  serves (Multiplex protocol) c w may is = replied c _ _ w may tt
  serves Tls c w may is = replied c _ _ w may tt
  serves Error c w may is = closes c w may

  serves_if : (admit : Admit) (command : Command) (c : Connection) (w : Work) → May c.number → connection_of c.number w.state ≡ Some c → EndsAtOne R w (serve_if admit command c w)
  serves_if Serve command c w may is = serves command c w may is
  serves_if Wrong command c w may is = goes_wrong c w may

  pub is_commanded : (command : Command) (c : Connection) (w : Work) → May c.number → connection_of c.number w.state ≡ Some c → EndsAtOne R w (commanded command c w)
  unfolding commanded
  is_commanded command c w may is = serves_if (admit_of c.state c.side (name_of command)) command c w may is
