-- How transactions go on over each event: over commands, responses, requests of the host, and parties that come back.
use Rattle.std.proofs.Common.{◌≡◌, Bool, true, false, ℕ, List, [], ◌∷◌, ◌++◌, Option, Some, None, cond, refl, ap, subst, sym, ◌∙◌, ◌⊎◌, inl, inr}
use Rattle.std.specs.Prelude.{◌&&◌, find, length, nat_le, nat_lt, not, take}
use Rattle.std.specs.Option.{option_and_then, option_map_or}
use Rattle.std.proofs.lemmas.Bool.{and_parts}
use Rattle.std.proofs.lemmas.Option.{none-some, same_Some}
use Rattle.tip_branch.specs.Notes.{PartyNotes}
use Rattle.tip_branch.specs.declared.branch.Badge.{Badge}
use Rattle.tip_branch.specs.declared.member.Errand.{Errand}
use Rattle.tip_branch.specs.declared.member.Errand.TheVariants as errand
use Rattle.tip_conn.specs.Table.{admit_of}
use Rattle.tip_conn.specs.declared.state.Admit.{Admit}
use Rattle.tip_conn.specs.declared.state.Admit.TheVariants.{Serve, Wrong}
use Rattle.tip_conn.specs.declared.state.Side.{Side}
use Rattle.tip_conn.specs.declared.state.Side.TheVariants.{Primary, Secondary}
use Rattle.tip_line.specs.Command.{name_of}
use Rattle.tip_line.specs.declared.command.Command.{Command}
use Rattle.tip_line.specs.declared.command.Command.TheVariants as commands
use Rattle.tip_line.specs.declared.command.CommandName.{CommandName}
use Rattle.tip_line.specs.declared.command.CommandName.TheVariants as command
use Rattle.tip_line.specs.declared.refusal.Refusal.{Refusal}
use Rattle.tip_line.specs.declared.refusal.Refusal.TheVariants.{Busy, Full, Known, NotActive, Stale}
use Rattle.tip_line.specs.declared.response.Response.{Response}
use Rattle.tip_line.specs.declared.response.Response.TheVariants.{AlreadyPushed, Error, Identified, NeedTls, NotPulled, NotPushed, NotReconnected, Pulled, Pushed, QueriedExists, QueriedNotFound, ReadOnly, Reconnected}
use Rattle.tip_line.specs.declared.response.Response.TheVariants as responses
use Rattle.tip_line.specs.declared.response.ResponseName.{ResponseName}
use Rattle.tip_line.specs.declared.response.ResponseName.TheVariants as response
use Rattle.tip_rows.specs.Keys.{Key}
use Rattle.tip_txn.specs.Parts.{acknowledged, answered, enlisted, is_enlisted, named}
use Rattle.tip_txn.specs.declared.answer.Ballot.TheVariants as answer
use Rattle.tip_txn.specs.declared.answer.Phase.{Phase}
use Rattle.tip_txn.specs.declared.answer.Phase.TheVariants as phase
use Rattle.tip_txn.specs.declared.part.Participant.{Participant}
use Rattle.tip_machine.specs.Changes.{alter, attempt_on, change, refuse, reply, send}
use Rattle.tip_machine.specs.Commands.{begin, commanded, decide_abort, decide_commit, identify, make, obey, prepare, pull, pull_into, push, push_new, query, reconnect, reconnect_to, serve, serve_if, superior_role, take_over}
use Rattle.tip_machine.specs.Connections.{is_free, is_superior_of, may_take, owing, taking}
use Rattle.tip_machine.specs.Failing.{closed, wrong}
use Rattle.tip_machine.specs.Honest.{brings_no_party}
use Rattle.tip_machine.specs.Proceeding.{abort, ask, dispatch, finish, proceed}
use Rattle.tip_machine.specs.Requests.{added, ask_pull, ask_push, dial, hear, line, lost, opened, owner, pull_if, push_part, resume, resume_in, settled, settled_for, strange, voted, voted_for}
use Rattle.tip_machine.specs.Responses.{abort_as, answered_by, ask_superior, go_on, greeted, is_in_doubt, is_owed_commit, note_as, presume_abort, proceed_as, pursue, query_for, reach, reach_by, reconnect_for, responded}
use Rattle.tip_machine.specs.Returns.{Back, back_from, back_of, event_of}
use Rattle.tip_machine.specs.States.{Attempt, Work, has_place, has_room, identified_by, seated, transaction_of}
use Rattle.tip_machine.specs.Steps.{attempt}
use Rattle.tip_machine.specs.Transactions.{begun, enlisting, has_id, has_key, has_ready, is_active, is_committed, is_done, is_known, is_prepared, next_key, noting, party_answer, standing_at, subordinate_of}
use Rattle.tip_machine.specs.Transactions.{is_decided_at}
use Rattle.tip_machine.specs.Types.{Connection, Event, PartyPlace, Transaction}
use Rattle.tip_machine.specs.declared.answer.Asked.TheVariants as asked
use Rattle.tip_machine.specs.declared.answer.Said.{Said}
use Rattle.tip_machine.specs.declared.answer.Said.TheVariants as says
use Rattle.tip_machine.specs.declared.connection.Awaited.{Awaited}
use Rattle.tip_machine.specs.declared.connection.Awaited.TheVariants.{Abort, Commit, Identify, Prepare, Pull, Push, Query, Reconnect}
use Rattle.tip_machine.specs.declared.connection.Purpose.{Purpose}
use Rattle.tip_machine.specs.declared.connection.Purpose.TheVariants as purpose
use Rattle.tip_machine.specs.declared.connection.Role.{Role}
use Rattle.tip_machine.specs.declared.connection.Role.TheVariants.{Superior, Subordinate}
use Rattle.tip_machine.specs.declared.event.Change.{Change}
use Rattle.tip_machine.specs.declared.event.Change.TheVariants.{Remove}
use Rattle.tip_machine.specs.declared.event.Event.TheVariants.{AskPull, AskPush, Dial, Line, Lost, Open, Resume, Settled, Voted}
use Rattle.tip_machine.specs.declared.event.Heard.{Heard}
use Rattle.tip_machine.specs.declared.event.Heard.TheVariants.{Command as ACommand, Response as AResponse}
use Rattle.tip_machine.specs.declared.event.Seat.{Seat}
use Rattle.tip_machine.specs.declared.transaction.Origin.{Origin}
use Rattle.tip_machine.specs.declared.transaction.Origin.TheVariants as origin
use Rattle.tip_machine.specs.declared.transaction.PartyPlace.TheVariants.{Here, Out, Spent}
use Rattle.tip_machine.proofs.Walks.{there_by_key}
use Rattle.tip_agreement.proofs.Around.{Whole}
use Rattle.tip_agreement.proofs.Reaching.{only_prepared}
use Rattle.tip_agreement.proofs.Sound.{found_by}
use Rattle.tip_agreement.proofs.Walking.{Asked, In, ProceedsSo, Walks, aborts_so, alters, asks_so, closes, commits_so, dispatches, fails, finishes, goes_wrong, in_found, lasts_more, live_in, proceeds_after, proceeds_so, walks_beside, walks_same, walks_then}

-- WHAT AN EVENT COMES TO

-- a transaction was made, with a box for each of its branches
pub record Made (w v : Work) : Type 0 where
  pub from : Origin
  pub connection : Connection
  pub transactions : v.state.transactions ≡ w.state.transactions ++ begun w.state.head (next_key w.state.head connection) from (take (length w.state.head.branches) connection.boxes) ∷ []
  pub work : v.answer.work ≡ w.answer.work
  pub room : nat_le (length w.state.head.branches) (length connection.boxes) ≡ true

-- the row of one in doubt is to be removed
pub record Doubted (w : Work) (change : Change) : Type 0 where
  pub transaction : Transaction
  pub there : In transaction w.state.transactions
  pub doubt : transaction.phase ≡ phase.Prepared
  pub is : change ≡ Remove transaction.key

abbrev pub EndsSo : Work → Attempt → Type 0
EndsSo w (Attempt.Done v) = Walks w v ⊎ Made w v
EndsSo w (Attempt.Asks change stored refused) = Walks w stored × Walks w refused × (Asked w change ⊎ Doubted w change)

pub ends_so : (w : Work) (a : Attempt) → ProceedsSo w a → EndsSo w a
ends_so w (Attempt.Done v) walks = inl walks
ends_so w (Attempt.Asks change stored refused) walks = (walks.0, walks.1, inl walks.2)

-- where only connections, and what is told, differ
pub record Aside (w u : Work) : Type 0 where
  pub head : u.state.head ≡ w.state.head
  pub transactions : u.state.transactions ≡ w.state.transactions
  pub work : u.answer.work ≡ w.answer.work

pub walks_aside : (w u : Work) → Aside w u → Walks w u
walks_aside w u is = walks_beside w u is.transactions is.work

asked_aside : (w u : Work) (change : Change) → Aside w u → Asked u change → Asked w change
asked_aside w u change is asked = record { middle = asked.middle; walks = walks_then w u asked.middle (walks_aside w u is) asked.walks; transaction = asked.transaction; found = asked.found; why = asked.why }

ends_aside : (w u : Work) (a : Attempt) → Aside w u → EndsSo u a → EndsSo w a
ends_aside w u (Attempt.Done v) is (inl walks) = inl (walks_then w u v (walks_aside w u is) walks)
ends_aside w u (Attempt.Done v) is (inr made) = inr (record {
  from = made.from;
  connection = made.connection;
  transactions = made.transactions ∙ (λ i. is.transactions i ++ begun (is.head i) (next_key (is.head i) made.connection) made.from (take (length (is.head i).branches) made.connection.boxes) ∷ []);
  work = made.work ∙ is.work;
  room = subst (λ h. nat_le (length h.branches) (length made.connection.boxes) ≡ true) is.head made.room;
})
ends_aside w u (Attempt.Asks change stored refused) is goes = (
  walks_then w u stored (walks_aside w u is) goes.0,
  walks_then w u refused (walks_aside w u is) goes.1,
  elim goes.2 [
    | inl asked ↦ inl (asked_aside w u change is asked)
    | inr doubted ↦ inr (record { transaction = doubted.transaction; there = subst (In doubted.transaction) is.transactions doubted.there; doubt = doubted.doubt; is = doubted.is })
  ],
)

either_so : (w : Work) (b : Bool) (this that : Attempt) → EndsSo w this → EndsSo w that → EndsSo w (cond b this that)
either_so w true this that e f = e
either_so w false this that e f = f

either_done : (w : Work) (b : Bool) (this that : Work) → EndsSo w (Attempt.Done this) → EndsSo w (Attempt.Done that) → EndsSo w (Attempt.Done (cond b this that))
either_done w true this that e f = e
either_done w false this that e f = f

-- where there is room, a transaction is made
made_if : (w v other : Work) (c : Connection) (from : Origin) → v.state.transactions ≡ (make from c w).state.transactions → v.answer.work ≡ w.answer.work → EndsSo w (Attempt.Done other) → (b : Bool) → has_room c w.state ≡ b → EndsSo w (Attempt.Done (cond b v other))
unfolding make
made_if w v other c from same work e true room = inr (record { from = from; connection = c; transactions = same; work = work; room = (and_parts (nat_lt (length w.state.transactions) w.state.head.limits.transactions) (nat_le (length w.state.head.branches) (length c.boxes)) room).1 })
made_if w v other c from same work e false none = e

-- COMMANDS

module _ (c : Connection) (w : Work) where
  aside : (v : Work) → v.state.transactions ≡ w.state.transactions → v.answer.work ≡ w.answer.work → EndsSo w (Attempt.Done v)
  aside v same work = inl (walks_beside w v same work)

  replies : (name : CommandName) (said : Said) → EndsSo w (Attempt.Done (reply c.number name said w))
  unfolding reply
  replies name said = aside (reply c.number name said w) refl refl

  wrongs : EndsSo w (Attempt.Done (wrong c w))
  wrongs = inl (goes_wrong c w)

  identifies : (lowest highest : ℕ) (peer : Option (List ℕ)) → EndsSo w (Attempt.Done (identify lowest highest peer c w))
  unfolding identify
  identifies lowest highest peer = either_done w (nat_le lowest 3 && nat_le 3 highest) _ (wrong c w) (inl (walks_beside w _ refl refl)) wrongs

  begins : EndsSo w (Attempt.Done (begin c w))
  unfolding begin reply make
  begins = made_if w (reply c.number command.Begin (says.Begun (next_key w.state.head c)) (make origin.Root c w)) (reply c.number command.Begin says.NotBegun w) c origin.Root refl refl (inl (walks_beside w _ refl refl)) (has_room c w.state) refl

  pushes_new : (superior : List ℕ) → EndsSo w (Attempt.Done (push_new superior c w))
  unfolding reply make
  pushes_new superior = made_if w (reply c.number command.Push (says.Pushed (next_key w.state.head c)) (make (origin.Subordinate c.peer superior) c w)) (reply c.number command.Push says.NotPushed w) c (origin.Subordinate c.peer superior) refl refl (inl (walks_beside w _ refl refl)) (has_room c w.state) refl

  pushes : (superior : List ℕ) → EndsSo w (Attempt.Done (push superior c w))
  unfolding push
  pushes superior = step (find (is_known c.peer superior) w.state.transactions) where
    step : (known : Option Transaction) → EndsSo w (Attempt.Done (option_map_or (λ (t : Transaction). reply c.number command.Push (says.AlreadyPushed t.key) w) known (push_new superior c w)))
    step None = pushes_new superior
    step (Some t) = replies command.Push (says.AlreadyPushed t.key)

  -- a part more, on a connection
  enlists : (t : Transaction) (address : List ℕ) (id : Option (List ℕ)) (number : ℕ) (v : Work) → Aside w v → Walks w (change number (taking (Subordinate t.key (length t.parts))) (alter t.key (enlisting (enlisted address id)) v))
  enlists t address id number v is =
      let grown = alter t.key (enlisting (enlisted address id)) v in
      walks_then w grown (change number (taking (Subordinate t.key (length t.parts))) grown) (walks_then w v grown (walks_aside w v is) (alters t.key (enlisting (enlisted address id)) v (λ u. (refl, lasts_more (enlisted address id) u.parts refl, refl, refl)))) (walks_beside grown _ refl refl)

  pulls_into : (found : Option Transaction) (peer : Option (List ℕ)) (subordinate : List ℕ) → EndsSo w (Attempt.Done (pull_into found peer subordinate c.number w))
  unfolding reply
  pulls_into None peer subordinate = replies command.Pull says.NotPulled
  pulls_into (Some t) None subordinate = replies command.Pull says.NotPulled
  pulls_into (Some t) (Some address) subordinate = either_done w (is_active t.phase && not (is_enlisted t.parts address (Some subordinate))) _ (reply c.number command.Pull says.NotPulled w)
      (inl (enlists t address (Some subordinate) c.number (reply c.number command.Pull says.Pulled w) (record { head = refl; transactions = refl; work = refl })))
      (replies command.Pull says.NotPulled)

  pulls : (superior subordinate : List ℕ) → EndsSo w (Attempt.Done (pull superior subordinate c w))
  unfolding pull
  pulls superior subordinate = pulls_into (identified_by superior w.state) c.peer subordinate

  queries : (superior : List ℕ) → EndsSo w (Attempt.Done (query superior c w))
  unfolding query
  queries superior = replies command.Query _

  takes_over : (key : Key) (earlier : Option Connection) → EndsSo w (Attempt.Done (take_over key c.number earlier w))
  unfolding reply
  takes_over key None = aside (change c.number (taking (Superior key)) (reply c.number command.Reconnect says.Reconnected w)) refl refl
  takes_over key (Some e) =
      let u = change c.number (taking (Superior key)) (reply c.number command.Reconnect says.Reconnected w) in
      inl (walks_then w u (closed e u) (walks_beside w u refl refl) (closes e u))

  reconnects_to : (found : Option Transaction) → EndsSo w (Attempt.Done (reconnect_to found c.number w))
  reconnects_to None = replies command.Reconnect says.NotReconnected
  reconnects_to (Some t) = either_done w (is_prepared t.phase) (take_over t.key c.number (find (is_superior_of t.key) w.state.connections) w) _ (takes_over t.key (find (is_superior_of t.key) w.state.connections)) (replies command.Reconnect says.NotReconnected)

  reconnects : (subordinate : List ℕ) → EndsSo w (Attempt.Done (reconnect subordinate c w))
  unfolding reconnect
  reconnects subordinate = reconnects_to (identified_by subordinate w.state)

  -- Commands of a superior

  module _ (t : Transaction) (u : Work) (found : transaction_of t.key u.state ≡ Some t) where
    stays_so : EndsSo u (Attempt.Done u)
    stays_so = inl (walks_same u)

    prepares : (phase : Phase) → t.phase ≡ phase → (peer : Option (List ℕ)) → EndsSo u (prepare phase peer c t u)
    prepares phase.Active at (Some address) = ends_so u (ask t u) (asks_so t u found at)
    prepares phase.Active at None = inl (aborts_so t.key u)
    prepares phase.Aborted at peer = inl (aborts_so t.key u)
    prepares phase.Asking at peer = stays_so
    prepares phase.Prepared at peer = stays_so
    prepares phase.Committed at peer = stays_so

    commits_on : (phase : Phase) → t.phase ≡ phase → EndsSo u (decide_commit phase c t u)
    commits_on phase.Active at = ends_so u (ask t u) (asks_so t u found at)
    commits_on phase.Prepared at = (commits_so t.key u (live_in t u phase.Prepared found at (λ is. let wrong : phase.Prepared ≡ phase.Aborted = is in cc)), closes c u, inl (record { middle = u; walks = walks_same u; transaction = t; found = found; why = refl }))
    commits_on phase.Aborted at = inl (aborts_so t.key u)
    commits_on phase.Asking at = stays_so
    commits_on phase.Committed at = stays_so

    aborts_on : (phase : Phase) → t.phase ≡ phase → EndsSo u (decide_abort phase c t u)
    aborts_on phase.Active at = inl (aborts_so t.key u)
    aborts_on phase.Prepared at = (aborts_so t.key u, closes c u, inr (record { transaction = t; there = in_found (has_key t.key) u.state.transactions t found; doubt = at; is = refl }))
    aborts_on phase.Aborted at = inl (aborts_so t.key u)
    aborts_on phase.Asking at = stays_so
    aborts_on phase.Committed at = stays_so

  obeys : (name : CommandName) (rule : Transaction → Work → Attempt) → ((t : Transaction) (u : Work) → transaction_of t.key u.state ≡ Some t → EndsSo u (rule t u)) → EndsSo w (obey name rule c w)
  obeys name rule keeps = by_role c.role where
    is : Aside w (change c.number (owing name) w)
    is = record { head = refl; transactions = refl; work = refl }

    by_found : (key : Key) (found : Option Transaction) → transaction_of key w.state ≡ found → EndsSo w (attempt_on found rule (change c.number (owing name) w))
    by_found key None at = inl (walks_aside w (change c.number (owing name) w) is)
    by_found key (Some t) at = ends_aside w (change c.number (owing name) w) (rule t (change c.number (owing name) w)) is (keeps t (change c.number (owing name) w) (there_by_key key w.state.transactions t at))

    by_role : (role : Option Role) → EndsSo w (attempt_on (option_and_then (λ key. transaction_of key w.state) (superior_role role)) rule (change c.number (owing name) w))
    by_role None = inl (walks_aside w (change c.number (owing name) w) is)
    by_role (Some (Superior key)) = by_found key (transaction_of key w.state) refl
    by_role (Some (Subordinate key part)) = inl (walks_aside w (change c.number (owing name) w) is)

  serves : (line : Command) → EndsSo w (serve line c w)
  serves (commands.Identify lowest highest peer secondary) = identifies lowest highest peer
  serves commands.Begin = begins
  serves (commands.Push superior) = pushes superior
  serves (commands.Pull superior subordinate) = pulls superior subordinate
  serves commands.Prepare = obeys command.Prepare (λ t. prepare t.phase c.peer c t) (λ t u found. prepares t u found t.phase refl c.peer)
  serves commands.Commit = obeys command.Commit (λ t. decide_commit t.phase c t) (λ t u found. commits_on t u found t.phase refl)
  serves commands.Abort = obeys command.Abort (λ t. decide_abort t.phase c t) (λ t u found. aborts_on t u found t.phase refl)
  serves (commands.Query superior) = queries superior
  serves (commands.Reconnect subordinate) = reconnects subordinate
  serves (commands.Multiplex protocol) = replies command.Multiplex says.CantMultiplex
  serves commands.Tls = replies command.Tls says.CantTls
  serves commands.Error = inl (closes c w)

  serves_if : (admit : Admit) (line : Command) → EndsSo w (serve_if admit line c w)
  serves_if Serve line = serves line
  serves_if Wrong line = wrongs

  is_commanded : (line : Command) → EndsSo w (commanded line c w)
  unfolding commanded
  is_commanded line = serves_if (admit_of c.state c.side (name_of line)) line

-- RESPONSES: what is noted of a part

abbrev pub note_of : Awaited → Response → Option (Participant → Participant)
note_of Push (Pushed id) = Some (named id)
note_of Push (AlreadyPushed id) = Some (answered answer.ReadOnly)
note_of Push NotPushed = Some (answered answer.ReadOnly)
note_of Prepare responses.Prepared = Some (answered answer.Yes)
note_of Prepare responses.Aborted = Some (answered answer.No)
note_of Prepare ReadOnly = Some (answered answer.ReadOnly)
note_of Commit responses.Committed = Some acknowledged
note_of Reconnect NotReconnected = Some acknowledged
note_of awaited other = None

-- a part has said something, which is noted of it first
pub record Noted (c : Connection) (line : Heard) (w : Work) (a : Attempt) : Type 0 where
  pub key : Key
  pub part : ℕ
  pub on : c.role ≡ Some (Subordinate key part)
  pub awaited : Awaited
  pub waits : c.awaited ≡ Some awaited
  pub response : Response
  pub is : line ≡ AResponse response
  pub note : Participant → Participant
  pub so : note_of awaited response ≡ Some note
  pub goes : ProceedsSo (alter key (noting part note) w) a

-- nothing is noted of a part; or the response is taken for a wrong line
pub record Plain (c : Connection) (line : Heard) (w : Work) (a : Attempt) : Type 0 where
  pub goes : EndsSo w a
  pub wrongly : (response : Response) → line ≡ AResponse response → (key : Key) (part : ℕ) (awaited : Awaited) (note : Participant → Participant) → c.role ≡ Some (Subordinate key part) → c.awaited ≡ Some awaited → note_of awaited response ≡ Some note → a ≡ Attempt.Done (wrong c w)

abbrev pub HeardSo : Connection → Heard → Work → Attempt → Type 0
HeardSo c line w a = Plain c line w a ⊎ Noted c line w a

-- the response of a line
response_in : Response → Heard → Response
response_in other (AResponse response) = response
response_in other line = other

module _ (c : Connection) (w : Work) where
  went_on : (name : CommandName) (said : ResponseName) → Aside w (go_on name said c w)
  went_on name said = record { head = refl; transactions = refl; work = refl }

  -- where no note is made
  plain : (awaited : Awaited) (said : Response) (a : Attempt) → c.awaited ≡ Some awaited → note_of awaited said ≡ None → EndsSo w a → HeardSo c (AResponse said) w a
  unfolding response_in
  plain awaited said a waits none goes = inl (record { goes = goes; wrongly = λ response is key part other note on at so. absurd (never response is other note at so) }) where
    never : (response : Response) → AResponse said ≡ AResponse response → (other : Awaited) (note : Participant → Participant) → c.awaited ≡ Some other → note_of other response ≡ Some note → ⊥
    never response is other note at so =
        let same : awaited ≡ other = same_Some awaited other (sym waits ∙ at) in
        let said_so : said ≡ response = ap (response_in said) is in
        none-some note (sym none ∙ (λ i. note_of (same i) (said_so i)) ∙ so)

  notes : (awaited : Awaited) (said : Response) (note : Participant → Participant) → c.awaited ≡ Some awaited → note_of awaited said ≡ Some note → (name : CommandName) (answer : ResponseName) → HeardSo c (AResponse said) w (note_as c.role note (go_on name answer c w))
  notes awaited said note waits so name answer = by_role c.role refl where
    none_on : (role : Option Role) → c.role ≡ role → ((key : Key) (part : ℕ) → role ≡ Some (Subordinate key part) → ⊥) → (a : Attempt) → EndsSo w a → HeardSo c (AResponse said) w a
    none_on role at never a goes = inl (record { goes = goes; wrongly = λ response is key part other note' on waits' so'. absurd (never key part (sym at ∙ on)) })

    by_role : (role : Option Role) → c.role ≡ role → HeardSo c (AResponse said) w (note_as role note (go_on name answer c w))
    by_role None at = none_on None at (λ key part is. none-some (Subordinate key part) is) (Attempt.Done (go_on name answer c w)) (inl (walks_aside w (go_on name answer c w) (went_on name answer)))
    by_role (Some (Superior key)) at = none_on (Some (Superior key)) at (λ other part is. let wrong : Superior key ≡ Subordinate other part = same_Some _ _ is in cc) (Attempt.Done (go_on name answer c w)) (inl (walks_aside w (go_on name answer c w) (went_on name answer)))
    by_role (Some (Subordinate key part)) at =
        let noted = alter key (noting part note) (go_on name answer c w) in
        inr (record {
          key = key;
          part = part;
          on = at;
          awaited = awaited;
          waits = waits;
          response = said;
          is = refl;
          note = note;
          so = so;
          goes = proceeds_after (alter key (noting part note) w) noted (proceed key noted) (walks_beside (alter key (noting part note) w) noted refl refl) (proceeds_so key noted);
        })

  goes_on_so : (name : CommandName) (said : ResponseName) → EndsSo w (Attempt.Done (go_on name said c w))
  goes_on_so name said = inl (walks_aside w (go_on name said c w) (went_on name said))

  proceeds_as : (name : CommandName) (said : ResponseName) → EndsSo w (proceed_as c.role (go_on name said c w))
  proceeds_as name said = by_role c.role where
    goes : (key : Key) → EndsSo w (proceed key (go_on name said c w))
    goes key = ends_so w (proceed key (go_on name said c w)) (proceeds_after w (go_on name said c w) (proceed key (go_on name said c w)) (walks_aside w (go_on name said c w) (went_on name said)) (proceeds_so key (go_on name said c w)))

    by_role : (role : Option Role) → EndsSo w (proceed_as role (go_on name said c w))
    by_role None = goes_on_so name said
    by_role (Some (Superior key)) = goes_on_so name said
    by_role (Some (Subordinate key part)) = goes key

  aborts_as : (name : CommandName) (said : ResponseName) → EndsSo w (Attempt.Done (abort_as c.role (go_on name said c w)))
  aborts_as name said = by_role c.role where
    by_role : (role : Option Role) → EndsSo w (Attempt.Done (abort_as role (go_on name said c w)))
    by_role None = goes_on_so name said
    by_role (Some (Superior key)) = inl (walks_then w (go_on name said c w) (abort key (go_on name said c w)) (walks_aside w (go_on name said c w) (went_on name said)) (aborts_so key (go_on name said c w)))
    by_role (Some (Subordinate key part)) = inl (walks_then w (go_on name said c w) (abort key (go_on name said c w)) (walks_aside w (go_on name said c w) (went_on name said)) (aborts_so key (go_on name said c w)))

  not_found : (key : Key) → EndsSo w (attempt_on (transaction_of key w.state) (presume_abort c) (go_on command.Query response.QueriedNotFound c w))
  not_found key = step (transaction_of key w.state) refl where
    by_doubt : (t : Transaction) → transaction_of t.key w.state ≡ Some t → (b : Bool) → is_in_doubt (go_on command.Query response.QueriedNotFound c w).state t ≡ b → EndsSo w (cond b (Attempt.Asks (Remove t.key) (abort t.key (go_on command.Query response.QueriedNotFound c w)) (closed c (go_on command.Query response.QueriedNotFound c w))) (Attempt.Done (go_on command.Query response.QueriedNotFound c w)))
    by_doubt t found true doubt =
        let v = go_on command.Query response.QueriedNotFound c w in
        let is = walks_aside w v (went_on command.Query response.QueriedNotFound) in
        (walks_then w v (abort t.key v) is (aborts_so t.key v), walks_then w v (closed c v) is (closes c v), inr (record { transaction = t; there = in_found (has_key t.key) w.state.transactions t found; doubt = only_prepared t.phase (and_parts (is_prepared t.phase) _ doubt).0; is = refl }))
    by_doubt t found false not = goes_on_so command.Query response.QueriedNotFound

    step : (found : Option Transaction) → transaction_of key w.state ≡ found → EndsSo w (attempt_on found (presume_abort c) (go_on command.Query response.QueriedNotFound c w))
    step None is = goes_on_so command.Query response.QueriedNotFound
    step (Some t) is = by_doubt t (there_by_key key w.state.transactions t is) (is_in_doubt (go_on command.Query response.QueriedNotFound c w).state t) refl

  -- IDENTIFIED

  abbrev after : Work
  after = go_on command.Identify response.Identified c w

  hangs_up : Walks w (closed c after)
  hangs_up = walks_then w after (closed c after) (walks_aside w after (went_on command.Identify response.Identified)) (closes c after)

  asks_superior : (from : Origin) (key : Key) → Walks w (ask_superior from key c after)
  unfolding send
  asks_superior origin.Root key = hangs_up
  asks_superior (origin.Subordinate address superior) key = walks_beside w (ask_superior (origin.Subordinate address superior) key c after) refl refl

  either_walks : (b : Bool) (this that : Work) → Walks w this → Walks w that → Walks w (cond b this that)
  either_walks true this that e f = e
  either_walks false this that e f = f

  queries_for : (found : Option Transaction) → Walks w (query_for found c after)
  queries_for None = hangs_up
  queries_for (Some t) = either_walks (is_in_doubt after.state t && is_decided_at c.peer t.origin) (ask_superior t.origin t.key c after) (closed c after) (asks_superior t.origin t.key) hangs_up

  reaches_by : (id : Option (List ℕ)) (m : ℕ) (key : Key) → Walks w (reach_by id m key c after)
  unfolding send
  reaches_by None m key = hangs_up
  reaches_by (Some id) m key = walks_beside w (reach_by (Some id) m key c after) refl refl

  reaches : (s : Option (ℕ × Participant)) (key : Key) → Walks w (reach s key c after)
  reaches None key = hangs_up
  reaches (Some s) key = either_walks (is_owed_commit c.peer key after.state s) (reach_by s.1.id s.0 key c after) (closed c after) (reaches_by s.1.id s.0 key) hangs_up

  reconnects_for : (found : Option Transaction) (place : ℕ) → Walks w (reconnect_for found place c after)
  reconnects_for None place = hangs_up
  reconnects_for (Some t) place = either_walks (is_committed t.phase) (reach (subordinate_of place t) t.key c after) (closed c after) (reaches (subordinate_of place t) t.key) hangs_up

  pursues : (wanted : Purpose) → Walks w (pursue wanted c after)
  pursues purpose.Plain = walks_aside w after (went_on command.Identify response.Identified)
  pursues (purpose.Query id) = queries_for (identified_by id after.state)
  pursues (purpose.Reconnect id place) = reconnects_for (identified_by id after.state) place

  greets : (version : ℕ) (wanted : Purpose) → EndsSo w (Attempt.Done (greeted version wanted c w))
  greets version wanted = inl (either_walks (nat_le 3 version) (pursue wanted c after) (wrong c w) (pursues wanted) (goes_wrong c w))

  wrong_plain : (line : Heard) → HeardSo c line w (Attempt.Done (wrong c w))
  wrong_plain line = inl (record { goes = inl (goes_wrong c w); wrongly = λ response is key part awaited note on waits so. refl })

  responds : (a : Awaited) (said : Response) → c.awaited ≡ Some a → HeardSo c (AResponse said) w (responded a said c w)
  responds (Identify wanted) (Identified version) waits = plain (Identify wanted) (Identified version) (responded (Identify wanted) (Identified version) c w) waits refl (greets version wanted)
  responds Push (Pushed id) waits = notes Push (Pushed id) (named id) waits refl command.Push response.Pushed
  responds Push (AlreadyPushed id) waits = notes Push (AlreadyPushed id) (answered answer.ReadOnly) waits refl command.Push response.AlreadyPushed
  responds Push NotPushed waits = notes Push NotPushed (answered answer.ReadOnly) waits refl command.Push response.NotPushed
  responds Pull Pulled waits = plain Pull Pulled (responded Pull Pulled c w) waits refl (goes_on_so command.Pull response.Pulled)
  responds Pull NotPulled waits = plain Pull NotPulled (responded Pull NotPulled c w) waits refl (aborts_as command.Pull response.NotPulled)
  responds Prepare responses.Prepared waits = notes Prepare responses.Prepared (answered answer.Yes) waits refl command.Prepare response.Prepared
  responds Prepare responses.Aborted waits = notes Prepare responses.Aborted (answered answer.No) waits refl command.Prepare response.Aborted
  responds Prepare ReadOnly waits = notes Prepare ReadOnly (answered answer.ReadOnly) waits refl command.Prepare response.ReadOnly
  responds Commit responses.Committed waits = notes Commit responses.Committed acknowledged waits refl command.Commit response.Committed
  responds Abort responses.Aborted waits = plain Abort responses.Aborted (responded Abort responses.Aborted c w) waits refl (proceeds_as command.Abort response.Aborted)
  responds (Query key) QueriedExists waits = plain (Query key) QueriedExists (responded (Query key) QueriedExists c w) waits refl (goes_on_so command.Query response.QueriedExists)
  responds (Query key) QueriedNotFound waits = plain (Query key) QueriedNotFound (responded (Query key) QueriedNotFound c w) waits refl (not_found key)
  responds Reconnect Reconnected waits = plain Reconnect Reconnected (responded Reconnect Reconnected c w) waits refl (proceeds_as command.Reconnect response.Reconnected)
  responds Reconnect NotReconnected waits = notes Reconnect NotReconnected acknowledged waits refl command.Reconnect response.NotReconnected
  responds a NeedTls waits = plain a NeedTls (responded a NeedTls c w) waits refl (inl (closes c w))
  responds a Error waits = plain a Error (responded a Error c w) waits refl (inl (closes c w))
  responds a said waits = wrong_plain (AResponse said)

  answers_by : (awaited : Option Awaited) (said : Response) → c.awaited ≡ awaited → HeardSo c (AResponse said) w (answered_by awaited said c w)
  answers_by None said waits = inl (record { goes = inl (walks_same w); wrongly = λ response is key part awaited note on at so. absurd (none-some awaited (sym waits ∙ at)) })
  answers_by (Some a) said waits = responds a said waits

  no_response : Heard → Bool
  no_response (AResponse response) = false
  no_response line = true

  never_said : (line : Heard) (a : Attempt) → no_response line ≡ true → EndsSo w a → HeardSo c line w a
  unfolding no_response
  never_said line a none goes = inl (record { goes = goes; wrongly = λ response is key part awaited note on at so. absurd (let wrong : false ≡ true = sym (ap no_response is) ∙ none in cc) })

  pub hears : (side : Side) (line : Heard) → HeardSo c line w (hear side line c w)
  unfolding no_response
  hears Secondary (ACommand line) = never_said (ACommand line) (commanded line c w) refl (is_commanded c w line)
  hears Primary (ACommand commands.Error) = never_said (ACommand commands.Error) (Attempt.Done (closed c w)) refl (inl (closes c w))
  hears Primary (AResponse said) = answers_by c.awaited said refl
  hears side line = wrong_plain line

-- REQUESTS OF THE HOST, and other events

module _ (w : Work) where
  refused_so : (why : Refusal) → EndsSo w (Attempt.Done (refuse why w))
  refused_so why = inl (walks_beside w (refuse why w) refl refl)

  pushes_part : (c : Connection) (found : Option Transaction) (peer : Option (List ℕ)) → EndsSo w (Attempt.Done (push_part found peer c.number w))
  unfolding send
  pushes_part c None peer = refused_so NotActive
  pushes_part c (Some t) None = refused_so NotActive
  pushes_part c (Some t) (Some address) = either_done w (is_active t.phase) _ (refuse NotActive w) (inl (enlists c w t address None c.number (send c.number Push (asked.Push t.key) w) (record { head = refl; transactions = refl; work = refl }))) (refused_so NotActive)

  asks_push : (found : Option Connection) (id : List ℕ) → EndsSo w (Attempt.Done (ask_push found id w))
  unfolding ask_push
  asks_push None id = refused_so Stale
  asks_push (Some c) id = either_done w (is_free c) (push_part (identified_by id w.state) c.peer c.number w) (refuse Busy w) (pushes_part c (identified_by id w.state) c.peer) (refused_so Busy)

  pulls_if : (c : Connection) (known : Option Transaction) (superior : List ℕ) → EndsSo w (Attempt.Done (pull_if known superior c w))
  unfolding send make
  pulls_if c None superior = made_if w (send c.number Pull (asked.Pull superior (next_key w.state.head c)) (make (origin.Subordinate c.peer superior) c w)) (refuse Full w) c (origin.Subordinate c.peer superior) refl refl (refused_so Full) (has_room c w.state) refl
  pulls_if c (Some t) superior = refused_so Known

  asks_pull : (found : Option Connection) (superior : List ℕ) → EndsSo w (Attempt.Done (ask_pull found superior w))
  unfolding ask_pull
  asks_pull None superior = refused_so Stale
  asks_pull (Some c) superior = either_done w (is_free c) (pull_if (find (is_known c.peer superior) w.state.transactions) superior c w) (refuse Busy w) (pulls_if c (find (is_known c.peer superior) w.state.transactions) superior) (refused_so Busy)

  resumes_in : (t : Transaction) → transaction_of t.key w.state ≡ Some t → (place : PartyPlace) → EndsSo w (resume_in place t w)
  resumes_in t found (Here party) = inl (dispatches t.key w)
  resumes_in t found (Out e) = refused_so Busy
  resumes_in t found Spent = either_so w (is_done t) (finish t w) (Attempt.Done (refuse Busy w)) (ends_so w (finish t w) (finishes t w found)) (refused_so Busy)

  resumes : (found : Option Transaction) → ((t : Transaction) → found ≡ Some t → transaction_of t.key w.state ≡ Some t) → EndsSo w (resume found w)
  unfolding resume
  resumes None there = refused_so NotActive
  resumes (Some t) there = either_so w (is_committed t.phase) (resume_in t.place t w) (Attempt.Done (refuse NotActive w)) (resumes_in t (there t refl) t.place) (refused_so NotActive)

  opens : (boxes : List Badge) → EndsSo w (Attempt.Done (opened boxes w))
  unfolding opened added
  opens boxes = either_done w (has_place (length boxes) w.state) _ _ (inl (walks_beside w _ refl refl)) (inl (walks_beside w _ refl refl))

  dials_so : (address : List ℕ) (wanted : Purpose) (boxes : List Badge) → EndsSo w (Attempt.Done (dial address wanted boxes w))
  unfolding dial added
  dials_so address wanted boxes = either_done w (has_place (length boxes) w.state) _ _ (inl (walks_beside w _ refl refl)) (inl (walks_beside w _ refl refl))

  loses : (found : Option Connection) → EndsSo w (Attempt.Done (lost found w))
  unfolding lost
  loses None = refused_so Stale
  loses (Some c) = inl (fails c w)

-- EACH EVENT that brings no party

-- this line comes on this seat
abbrev pub line_on : Seat → Heard → Event
line_on seat heard = Line seat heard

-- a part has said something
pub record Says (event : Event) (w : Work) (a : Attempt) : Type 0 where
  pub seat : Seat
  pub line : Heard
  pub is : event ≡ Line seat line
  pub connection : Connection
  pub there : seated seat w.state ≡ Some connection
  pub noted : Noted connection line w a

-- no part has said anything that is noted; what one said was a wrong line, or came out of turn
pub record Quietly (event : Event) (w : Work) (a : Attempt) : Type 0 where
  pub goes : EndsSo w a
  pub wrongly : (seat : Seat) (said : Response) → event ≡ Line seat (AResponse said) → (c : Connection) → seated seat w.state ≡ Some c → (key : Key) (part : ℕ) (awaited : Awaited) (note : Participant → Participant) → c.role ≡ Some (Subordinate key part) → c.awaited ≡ Some awaited → note_of awaited said ≡ Some note → (a ≡ Attempt.Done (wrong c w)) ⊎ (a ≡ Attempt.Done (refuse Busy w))

abbrev pub HappensSo : Event → Work → Attempt → Type 0
HappensSo event w a = Quietly event w a ⊎ Says event w a

is_line : Event → Bool
is_line (Line seat heard) = true
is_line event = false

seat_in : Seat → Event → Seat
seat_in other (Line seat heard) = seat
seat_in other event = other

heard_in_event : Heard → Event → Heard
heard_in_event other (Line seat heard) = heard
heard_in_event other event = other

module _ (w : Work) (whole : Whole w.state) where
  no_line : (event : Event) (a : Attempt) → is_line event ≡ false → EndsSo w a → HappensSo event w a
  unfolding is_line
  no_line event a none goes = inl (record { goes = goes; wrongly = λ seat said is c there key part awaited note on waits so. absurd (let wrong : true ≡ false = sym (ap is_line is) ∙ none in cc) })

  lines : (seat : Seat) (heard : Heard) (found : Option Connection) → seated seat w.state ≡ found → HappensSo (Line seat heard) w (line found heard w)
  unfolding line seat_in heard_in_event
  lines seat heard None at = inl (record { goes = refused_so w Stale; wrongly = λ other said is c there key part awaited note on waits so. absurd (none-some c (sym at ∙ ap (λ s. seated s w.state) (ap (seat_in seat) is) ∙ there)) })
  lines seat heard (Some c) at = step (may_take c) where
    same_connection : (other : Seat) (said : Response) → line_on seat heard ≡ line_on other (AResponse said) → (d : Connection) → seated other w.state ≡ Some d → c ≡ d
    same_connection other said is d there = same_Some c d (sym at ∙ ap (λ s. seated s w.state) (ap (seat_in seat) is) ∙ there)

    step : (b : Bool) → HappensSo (Line seat heard) w (cond b (hear c.side heard c w) (Attempt.Done (refuse Busy w)))
    step false = inl (record { goes = refused_so w Busy; wrongly = λ other said is d there key part awaited note on waits so. inr refl })
    step true = elim (hears c w c.side heard) [
      | inl plain ↦ inl (record {
        goes = plain.goes;
        wrongly = λ other said is d there key part awaited note on waits so.
            let same = same_connection other said is d there in
            inl (plain.wrongly said (ap (heard_in_event heard) is) key part awaited note (ap (λ (x : Connection). x.role) same ∙ on) (ap (λ (x : Connection). x.awaited) same ∙ waits) so ∙ ap (λ x. Attempt.Done (wrong x w)) same);
      })
      | inr noted ↦ inr (record { seat = seat; line = heard; is = refl; connection = c; there = at; noted = noted })
    ]

  pub happens_so : (event : Event) → brings_no_party event ≡ true → HappensSo event w (attempt event w)
  unfolding is_line
  happens_so (Open boxes) is = no_line (Open boxes) (attempt (Open boxes) w) refl (opens w boxes)
  happens_so (Dial address wanted boxes) is = no_line (Dial address wanted boxes) (attempt (Dial address wanted boxes) w) refl (dials_so w address wanted boxes)
  happens_so (Line seat heard) is = lines seat heard (seated seat w.state) refl
  happens_so (Lost seat) is = no_line (Lost seat) (attempt (Lost seat) w) refl (loses w (seated seat w.state))
  happens_so (AskPush seat id) is = no_line (AskPush seat id) (attempt (AskPush seat id) w) refl (asks_push w (seated seat w.state) id)
  happens_so (AskPull seat superior) is = no_line (AskPull seat superior) (attempt (AskPull seat superior) w) refl (asks_pull w (seated seat w.state) superior)
  happens_so (Resume id) is = no_line (Resume id) (attempt (Resume id) w) refl (resumes w (identified_by id w.state) (λ t found. found_by (has_id w.state.head.name id) w.state t whole found))
  happens_so (Voted party) is = absurd (cc)
  happens_so (Settled party) is = absurd (cc)

-- A PARTY THAT COMES BACK is here again first; a stranger changes nothing

-- what it is here again for
abbrev pub again : Errand → PartyNotes → Transaction → Work → Work
again errand.Vote party t w = alter t.key (noting 0 (answered (party_answer party))) (alter t.key (standing_at (Here party)) w)
again e party t w = alter t.key (standing_at (Here party)) w

pub record Came (party : PartyNotes) (w : Work) (a : Attempt) : Type 0 where
  pub transaction : Transaction
  pub owned : owner party w.state ≡ Some transaction
  pub errand : Errand
  pub out : transaction.place ≡ Out errand
  pub goes : ProceedsSo (again errand party transaction w) a

abbrev pub ReturnsSo : PartyNotes → Work → Attempt → Type 0
ReturnsSo party w a = (a ≡ strange party w) ⊎ Came party w a

module _ (party : PartyNotes) (w : Work) where
  votes_at : (t : Transaction) → owner party w.state ≡ Some t → (place : PartyPlace) → t.place ≡ place → ReturnsSo party w (voted_for place party t w)
  votes_at t owned (Out errand.Vote) at = inr (record { transaction = t; owned = owned; errand = errand.Vote; out = at; goes = proceeds_so t.key (again errand.Vote party t w) })
  votes_at t owned (Out errand.Idle) at = inl refl
  votes_at t owned (Out errand.Commit) at = inl refl
  votes_at t owned (Out errand.Abort) at = inl refl
  votes_at t owned (Here p) at = inl refl
  votes_at t owned Spent at = inl refl

  settles_at : (t : Transaction) → owner party w.state ≡ Some t → (place : PartyPlace) → t.place ≡ place → ReturnsSo party w (settled_for place party t w)
  settles_at t owned (Out errand.Commit) at = inr (record { transaction = t; owned = owned; errand = errand.Commit; out = at; goes = by_ready (has_ready party) }) where
    by_ready : (b : Bool) → ProceedsSo (again errand.Commit party t w) (proceed t.key (cond b (again errand.Commit party t w) (dispatch t.key (again errand.Commit party t w))))
    by_ready true = proceeds_so t.key (again errand.Commit party t w)
    by_ready false = let here = again errand.Commit party t w in proceeds_after here (dispatch t.key here) (proceed t.key (dispatch t.key here)) (dispatches t.key here) (proceeds_so t.key (dispatch t.key here))
  settles_at t owned (Out errand.Abort) at = inr (record { transaction = t; owned = owned; errand = errand.Abort; out = at; goes = proceeds_so t.key (again errand.Abort party t w) })
  settles_at t owned (Out errand.Vote) at = inl refl
  settles_at t owned (Out errand.Idle) at = inl refl
  settles_at t owned (Here p) at = inl refl
  settles_at t owned Spent at = inl refl

  votes_so : ReturnsSo party w (voted (owner party w.state) party w)
  unfolding voted
  votes_so = step (owner party w.state) refl where
    step : (found : Option Transaction) → owner party w.state ≡ found → ReturnsSo party w (voted found party w)
    step None is = inl refl
    step (Some t) is = votes_at t is t.place refl

  settles_so : ReturnsSo party w (settled (owner party w.state) party w)
  unfolding settled
  settles_so = step (owner party w.state) refl where
    step : (found : Option Transaction) → owner party w.state ≡ found → ReturnsSo party w (settled found party w)
    step None is = inl refl
    step (Some t) is = settles_at t is t.place refl

-- with the event of its errand
pub returns_so : (party : PartyNotes) (back : Back) (w : Work) → ReturnsSo (back_of party back) w (attempt (event_of party back) w)
returns_so party back w = step party.errand where
  step : (e : Errand) → ReturnsSo (back_of party back) w (attempt (back_from e (back_of party back)) w)
  step errand.Vote = votes_so (back_of party back) w
  step errand.Commit = settles_so (back_of party back) w
  step errand.Abort = settles_so (back_of party back) w
  step errand.Idle = settles_so (back_of party back) w
