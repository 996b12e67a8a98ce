-- What commands come to, case by case.
use Rattle.std.proofs.Common.{◌≡◌, ◌<◌, ◌≤◌, ◌+◌, Bool, true, false, cond, ℕ, List, [], ◌∷◌, Option, Some, None, length, refl, ap, arith, sym, subst, ◌∙◌, ◌⊎◌, inl, inr}
use Rattle.std.specs.Prelude.{◌&&◌, filter, find, is_some, nat_le}
use Rattle.std.specs.Option.{option_and_then, option_map_or}
use Rattle.std.proofs.lemmas.Option.{same_Some}
use Rattle.tip_line.specs.Command.{name_of}
use Rattle.tip_line.specs.declared.command.Command.{Command as ACommand}
use Rattle.tip_line.specs.declared.command.Command.TheVariants as commands
use Rattle.tip_line.specs.declared.command.CommandName.{CommandName}
use Rattle.tip_line.specs.declared.command.CommandName.TheVariants as command
use Rattle.tip_rows.specs.Keys.{Key}
use Rattle.tip_table.specs.Kept.{StandsAt, item_at, with_item_at}
use Rattle.tip_table.specs.Lists.{changed}
use Rattle.tip_txn.specs.declared.answer.Phase.{Phase}
use Rattle.tip_txn.specs.declared.answer.Phase.TheVariants.{Active, Asking, Prepared, Committed, Aborted}
use Rattle.tip_machine.proofs.Walks.{found-number}
use Rattle.tip_machine.specs.Changes.{attempt_on, change, reply, tell}
use Rattle.tip_machine.specs.Commands.{decide_abort, decide_commit, exists, identify, obey, prepare, query, superior_role}
use Rattle.tip_machine.specs.Connections.{has_number, identified, is_on, owing}
use Rattle.tip_machine.specs.Failing.{closed, fail, gone, wrong}
use Rattle.tip_machine.specs.Proceeding.{abort, ask, commit, owed_to_superior}
use Rattle.tip_machine.specs.States.{Attempt, Work, connection_of, identified_by, transaction_of}
use Rattle.tip_machine.specs.Steps.{chosen}
use Rattle.tip_machine.specs.Transactions.{row_committed}
use Rattle.tip_machine.specs.Types.{Connection, Transaction}
use Rattle.tip_machine.specs.declared.answer.Item.TheVariants.{Say}
use Rattle.tip_machine.specs.declared.answer.Said.{Said}
use Rattle.tip_machine.specs.declared.answer.Said.TheVariants as said
use Rattle.tip_machine.specs.declared.connection.Role.{Role}
use Rattle.tip_machine.specs.declared.connection.Role.TheVariants.{Subordinate, Superior}
use Rattle.tip_machine.specs.declared.event.Change.TheVariants.{Put, Remove}
use Rattle.tip_machine.specs.declared.event.Outcome.{Outcome}
use Rattle.tip_outlook.specs.Endings.{EndsBy, EndsSo}
use Rattle.tip_conn.specs.Table.{admit_of}
use Rattle.tip_conn.specs.declared.state.Admit.{Admit}
use Rattle.tip_conn.specs.declared.state.Admit.TheVariants.{Serve}
use Rattle.tip_outlook.specs.Wanting.{Course, admitted_wanted, asked, command_wanted, commit_for, commit_wanted, is_admitted, of_superior, outlook, owed_then, prepare_for, prepare_wanted}
use Rattle.tip_rules.proofs.Owing.{owed_now}
use Rattle.tip_rules.specs.Works.{ContinuesAs, Does, Held, IsIdle, lines_as, lines_at, lines_for, work_of}
use Rattle.tip_rules.proofs.Beginnings.{giving_stands, standing_number}
use Rattle.tip_rules.proofs.Losing.{same_room}
use Rattle.tip_rules.proofs.Outcomes.{key_is}
use Rattle.tip_rules.proofs.Works.{changed_at, may_idle, nothing, then}

-- IDENTIFY

identifies_so : (lowest highest : ℕ) (peer : Option (List ℕ)) (connection : Connection) (w : Work) (spoken : Bool) → (nat_le lowest 3 && nat_le 3 highest) ≡ spoken → identify lowest highest peer connection w ≡ cond spoken (change connection.number (identified peer) (tell connection.number (Say said.Identified) w)) (wrong connection w)
unfolding identify
identifies_so lowest highest peer connection w spoken is = ap (λ b. cond b (change connection.number (identified peer) (tell connection.number (Say said.Identified) w)) (wrong connection w)) is

module _ (a : Held) (number lowest highest : ℕ) (peer : Option (List ℕ)) (connection : Connection) (found : connection_of number (work_of a).state ≡ Some connection) (spoken : Bool) (is : spoken ≡ (nat_le lowest 3 && nat_le 3 highest)) where
  pub greeted : (b c : Held) → spoken ≡ true → Does a b (tell number (Say said.Identified) (work_of a)) → Does b c (change number (identified peer) (work_of b)) → Does a c (identify lowest highest peer connection (work_of a))
  greeted b c so first second =
      subst (Does a c) (sym (identifies_so lowest highest peer connection (work_of a) true (sym is ∙ so)))
      (subst (λ n. Does a c (change n (identified peer) (tell n (Say said.Identified) (work_of a)))) (sym (found-number number (work_of a).state.connections connection found))
      (then a b c (change number (identified peer)) _ first second))

  pub not_spoken : (b : Held) → spoken ≡ false → Does a b (wrong connection (work_of a)) → Does a b (identify lowest highest peer connection (work_of a))
  not_spoken b so does = subst (Does a b) (sym (identifies_so lowest highest peer connection (work_of a) false (sym is ∙ so))) does

pub ruleset greeting = (greeted, not_spoken)

-- What is owed to a superior

pub owing_does : (old : Held) (number place : ℕ) (command : CommandName) (item : Connection) → StandsAt old.connections old.realm (has_number number) place → item_at old.connections place ≡ Some item →
    Does old (record old { connections = with_item_at old.connections place (record item { owed = Some command }) }) (change number (owing command) (work_of old))
owing_does old number place command item here is = changed_at old number (owing command) place item (record item { owed = Some command }) here is refl

pub owing_stands : (old : Held) (number place : ℕ) (command : CommandName) (item : Connection) → StandsAt old.connections old.realm (has_number number) place → item_at old.connections place ≡ Some item → StandsAt (with_item_at old.connections place (record item { owed = Some command })) old.realm (has_number number) place
owing_stands old number place command item here is = giving_stands old number place (record item { owed = Some command }) here (found-number number (work_of old).state.connections item (standing_number old number place item here is))

pub ruleset owing_one = (owing_does, owing_stands, standing_number, same_Some)

-- it is on the same transaction as before
on_owing : (key : Key) (number : ℕ) (command : CommandName) (connections : List Connection) → length (filter (is_on key) (changed (has_number number) (owing command) connections)) ≡ length (filter (is_on key) connections)
on_owing key number command [] = refl
on_owing key number command (x ∷ xs) = grind (arith, on_owing key number command xs)

owed_lines : (a b : Held) (number : ℕ) (command : CommandName) (key : Key) → Does a b (change number (owing command) (work_of a)) → lines_for key (work_of b).state ≡ lines_for key (work_of a).state
owed_lines a b number command key does = ap (λ w. lines_for key w.state) does.own ∙ on_owing key number command (work_of a).state.connections

pub owed_idle : (a b : Held) (number : ℕ) (command : CommandName) → IsIdle a.making.answer → Does a b (change number (owing command) (work_of a)) → IsIdle b.making.answer
owed_idle a b number command idle does = record { work = ap (λ w. w.answer.work) does.own ∙ idle.work; spent = ap (λ w. w.answer.spent) does.own ∙ idle.spent }

-- the connection that owes is the one that was there
found_owing : (number : ℕ) (command : CommandName) (connections : List Connection) (connection : Connection) → find (has_number number) connections ≡ Some connection → find (has_number number) (changed (has_number number) (owing command) connections) ≡ Some (owing command connection)
found_owing number command [] connection found = absurd (cc)
found_owing number command (x ∷ xs) connection found = step (has_number number x) refl found (found_owing number command xs connection) where
  step : (this : Bool) → has_number number x ≡ this → cond this (Some x) (find (has_number number) xs) ≡ Some connection → (find (has_number number) xs ≡ Some connection → find (has_number number) (changed (has_number number) (owing command) xs) ≡ Some (owing command connection)) →
      find (has_number number) (cond this (owing command x ∷ xs) (x ∷ changed (has_number number) (owing command) xs)) ≡ Some (owing command connection)
  step true is found rest = ap (λ b. cond b (Some (owing command x)) (find (has_number number) xs)) is ∙ ap (λ c. Some (owing command c)) (same_Some x connection found)
  step false is found rest = ap (λ b. cond b (Some x) (find (has_number number) (changed (has_number number) (owing command) xs))) is ∙ rest found

module _ (a b : Held) (number : ℕ) (command : CommandName) (connection : Connection) (found : connection_of number (work_of a).state ≡ Some connection) (first : Does a b (change number (owing command) (work_of a))) where
  pub owing_there : connection_of number (work_of b).state ≡ Some (owing command connection)
  owing_there = ap (λ w. connection_of number w.state) first.own ∙ found_owing number command (work_of a).state.connections connection found

  -- the lines of the transaction that it is on, and one for itself
  module _ (key : Key) (role : superior_role connection.role ≡ Some key) (enough : lines_at number (work_of a).state + 2 ≤ a.making.free) where
    lines_before : lines_at number (work_of a).state ≡ lines_for key (work_of a).state
    lines_before = ap (λ o. option_map_or (λ (c : Connection). lines_as c.role (work_of a).state) o 0) found ∙ step connection.role role where
      step : (r : Option Role) → superior_role r ≡ Some key → lines_as r (work_of a).state ≡ lines_for key (work_of a).state
      step None is = absurd (cc)
      step (Some (Superior other)) is = ap (λ k. lines_for k (work_of a).state) (same_Some other key is)
      step (Some (Subordinate other part)) is = absurd (cc)

    lines_after : lines_at number (work_of b).state ≡ lines_for key (work_of b).state
    lines_after = ap (λ o. option_map_or (λ (c : Connection). lines_as c.role (work_of b).state) o 0) owing_there ∙ step connection.role role where
      step : (r : Option Role) → superior_role r ≡ Some key → lines_as r (work_of b).state ≡ lines_for key (work_of b).state
      step None is = absurd (cc)
      step (Some (Superior other)) is = ap (λ k. lines_for k (work_of b).state) (same_Some other key is)
      step (Some (Subordinate other part)) is = absurd (cc)

    pub owed_for : lines_for key (work_of b).state ≤ b.making.free
    owed_for = let free = same_room a b (change number (owing command) (work_of a)) first refl in let same = owed_lines a b number command key first in let before = lines_before in omega (arith, free, same, before, enough)

    pub owed_at : lines_at number (work_of b).state + 1 ≤ b.making.free
    owed_at = let free = same_room a b (change number (owing command) (work_of a)) first refl in let same = owed_lines a b number command key first in let before = lines_before in let after = lines_after in omega (arith, free, same, before, after, enough)

  -- What the transaction's rule makes of it
  module _ (rule : Transaction → Work → Attempt) (key : Option Key) (is : key ≡ superior_role connection.role) where
    obeys_so : (d : Held) → Does b d (chosen (attempt_on (option_and_then (λ k. transaction_of k (work_of b).state) key) rule (work_of b)) b.outcome) → Does a d (chosen (obey command rule connection (work_of a)) a.outcome)
    obeys_so d second =
        subst (λ o. Does a d (chosen (obey command rule connection (work_of a)) o)) first.outcome
        (subst (λ n. Does a d (chosen (attempt_on (option_and_then (λ k. transaction_of k (change n (owing command) (work_of a)).state) (superior_role connection.role)) rule (change n (owing command) (work_of a))) b.outcome)) (sym (found-number number (work_of a).state.connections connection found))
        (subst (λ o. Does a d (chosen (attempt_on (option_and_then (λ k. transaction_of k (change number (owing command) (work_of a)).state) o) rule (change number (owing command) (work_of a))) b.outcome)) is
        (then a b d (λ w. chosen (attempt_on (option_and_then (λ k. transaction_of k w.state) key) rule w) b.outcome) _ first second)))

    pub obeys_nobody : key ≡ None → Does a b (chosen (obey command rule connection (work_of a)) a.outcome)
    obeys_nobody none = obeys_so b (subst (λ o. Does b b (chosen (attempt_on (option_and_then (λ k. transaction_of k (work_of b).state) o) rule (work_of b)) b.outcome)) (sym none) (nothing b))

    pub obeys_none : (k : Key) → key ≡ Some k → transaction_of k (work_of b).state ≡ None → Does a b (chosen (obey command rule connection (work_of a)) a.outcome)
    obeys_none k some none = obeys_so b (subst (λ o. Does b b (chosen (attempt_on (option_and_then (λ k. transaction_of k (work_of b).state) o) rule (work_of b)) b.outcome)) (sym some) (subst (λ t. Does b b (chosen (attempt_on t rule (work_of b)) b.outcome)) (sym none) (nothing b)))

    pub obeys_some : (k : Key) (t : Transaction) (d : Held) → key ≡ Some k → transaction_of k (work_of b).state ≡ Some t → Does b d (chosen (rule t (work_of b)) b.outcome) → Does a d (chosen (obey command rule connection (work_of a)) a.outcome)
    obeys_some k t d some there second = obeys_so d (subst (λ o. Does b d (chosen (attempt_on (option_and_then (λ k. transaction_of k (work_of b).state) o) rule (work_of b)) b.outcome)) (sym some) (subst (λ t. Does b d (chosen (attempt_on t rule (work_of b)) b.outcome)) (sym there) second))

-- What was decided of an active transaction, once its superior waits

module _ (a b : Held) (number : ℕ) (line : ACommand) (wants : Transaction → Course) (connection : Connection) (found : connection_of number (work_of a).state ≡ Some connection) (first : Does a b (change number (owing (name_of line)) (work_of a)))
    (is : command_wanted line connection (work_of a).state ≡ of_superior wants connection (work_of a).state) (next : EndsBy (command_wanted line connection (work_of a).state) a.endings) where
  there_itself : connection_of connection.number (work_of a).state ≡ Some connection
  there_itself = subst (λ n. connection_of n (work_of a).state ≡ Some connection) (sym (found-number number (work_of a).state.connections connection found)) found

  -- of the transaction whose superior it is
  wanted_there : (key : Key) (t : Transaction) → connection.role ≡ Some (Superior key) → transaction_of key (work_of a).state ≡ Some t → EndsBy (wants t) a.endings
  wanted_there key t role there =
      subst (λ o. EndsBy (option_map_or wants o Course.Stays) a.endings) there
      (subst (λ r. EndsBy (option_map_or (λ k. option_map_or wants (transaction_of k (work_of a).state) Course.Stays) (superior_role r) Course.Stays) a.endings) role
      (subst (λ course. EndsBy course a.endings) is next))

  owed_next : (key : Key) (t : Transaction) → connection.role ≡ Some (Superior key) → transaction_of key (work_of a).state ≡ Some t → wants t ≡ Course.GoesOn (outlook (asked t)) (owed_then (name_of line) connection.number t.key (work_of a).state) →
      EndsSo (outlook (asked t)) (owed_to_superior t.key (work_of b).state) b.endings
  owed_next key t role there so =
      let own : work_of b ≡ change connection.number (owing (name_of line)) (work_of a) = first.own ∙ ap (λ n. change n (owing (name_of line)) (work_of a)) (sym (found-number number (work_of a).state.connections connection found)) in
      let owed = owed_now (work_of a) connection there_itself (name_of line) key t role there in
      subst (λ e. EndsSo (outlook (asked t)) (owed_to_superior t.key (work_of b).state) e) (sym first.endings)
      (subst (λ o. EndsSo (outlook (asked t)) o a.endings) (sym (ap (λ w. owed_to_superior t.key w.state) own ∙ owed))
      (subst (λ course. EndsBy course a.endings) so (wanted_there key t role there)))

  -- as it is found behind the command
  asked_of : (key : Key) → superior_role connection.role ≡ Some key → (t : Transaction) → transaction_of key (work_of b).state ≡ Some t → wants t ≡ Course.GoesOn (outlook (asked t)) (owed_then (name_of line) connection.number t.key (work_of a).state) →
      ContinuesAs (transaction_of key (work_of b).state) asked b
  asked_of key role t there so = subst (λ o. ContinuesAs o asked b) (sym there) (owed_next key t (on_role connection.role role) (sym (ap (λ w. transaction_of key w.state) first.own) ∙ there) so) where
    on_role : (r : Option Role) → superior_role r ≡ Some key → r ≡ Some (Superior key)
    on_role None none = absurd (cc)
    on_role (Some (Superior other)) some = ap (λ k. Some (Superior k)) (same_Some other key some)
    on_role (Some (Subordinate other part)) none = absurd (cc)

-- of a command that is served
pub served_next : (held : Held) (number : ℕ) (line : ACommand) (admit : Admit) (here connection : Connection) → connection_of number (work_of held).state ≡ Some here → admit ≡ admit_of here.state here.side (name_of line) → admit ≡ Serve → connection_of number (work_of held).state ≡ Some connection →
    EndsBy (admitted_wanted line connection (work_of held).state) held.endings → EndsBy (command_wanted line connection (work_of held).state) held.endings
served_next held number line admit here connection there is serves found next =
    subst (λ a. EndsBy (cond (is_admitted a) (command_wanted line connection (work_of held).state) Course.Stays) held.endings) (ap (λ (c : Connection). admit_of c.state c.side (name_of line)) (same_Some connection here (sym found ∙ there)) ∙ sym is ∙ serves) next

pub commit_next : (a b : Held) (number : ℕ) (connection : Connection) → connection_of number (work_of a).state ≡ Some connection → Does a b (change number (owing command.Commit) (work_of a)) → EndsBy (command_wanted commands.Commit connection (work_of a).state) a.endings →
    (key : Key) → superior_role connection.role ≡ Some key → (t : Transaction) → transaction_of key (work_of b).state ≡ Some t → t.phase ≡ Active → ContinuesAs (transaction_of key (work_of b).state) asked b
commit_next a b number connection found first next key role t there active =
    asked_of a b number commands.Commit (commit_for connection.number (work_of a).state) connection found first refl next key role t there
    (ap (λ p. commit_wanted p (owed_then command.Commit connection.number t.key (work_of a).state) t) active)

pub prepare_next : (a b : Held) (number : ℕ) (connection : Connection) → connection_of number (work_of a).state ≡ Some connection → Does a b (change number (owing command.Prepare) (work_of a)) → EndsBy (command_wanted commands.Prepare connection (work_of a).state) a.endings →
    (key : Key) → superior_role connection.role ≡ Some key → (t : Transaction) → transaction_of key (work_of b).state ≡ Some t → t.phase ≡ Active → is_some connection.peer ≡ true → ContinuesAs (transaction_of key (work_of b).state) asked b
prepare_next a b number connection found first next key role t there active reachable =
    asked_of a b number commands.Prepare (prepare_for connection.peer connection.number (work_of a).state) connection found first refl next key role t there (by connection.peer reachable) where
      by : (peer : Option (List ℕ)) → is_some peer ≡ true → prepare_wanted t.phase peer (owed_then command.Prepare connection.number t.key (work_of a).state) t ≡ Course.GoesOn (outlook (asked t)) (owed_then command.Prepare connection.number t.key (work_of a).state)
      by None none = absurd (cc)
      by (Some address) some = ap (λ p. prepare_wanted p (Some address) (owed_then command.Prepare connection.number t.key (work_of a).state) t) active

-- hanging up asks nothing of what is owed
closed_owing : (command : CommandName) (connection : Connection) (w : Work) → closed (owing command connection) w ≡ closed connection w
unfolding closed fail gone
closed_owing command connection w = refl

-- PREPARE by the phase
module _ (b d : Held) (connection : Connection) (outcome : Outcome) (key : Key) (t : Transaction) (there : transaction_of key (work_of b).state ≡ Some t) where
  prepares_so : (phase : Phase) (peer : Option (List ℕ)) → t.phase ≡ phase → connection.peer ≡ peer → Does b d (chosen (prepare phase peer connection t (work_of b)) outcome) → Does b d (chosen (prepare t.phase connection.peer connection t (work_of b)) outcome)
  prepares_so phase peer is at does = subst (λ p. Does b d (chosen (prepare p connection.peer connection t (work_of b)) outcome)) (sym is) (subst (λ q. Does b d (chosen (prepare phase q connection t (work_of b)) outcome)) (sym at) does)

  pub prepares_reachable : t.phase ≡ Active → is_some connection.peer ≡ true → ((u : Transaction) → transaction_of key (work_of b).state ≡ Some u → Does b d (chosen (ask u (work_of b)) outcome)) → Does b d (chosen (prepare t.phase connection.peer connection t (work_of b)) outcome)
  prepares_reachable is reachable does = step connection.peer refl reachable where
    step : (peer : Option (List ℕ)) → connection.peer ≡ peer → is_some peer ≡ true → Does b d (chosen (prepare t.phase connection.peer connection t (work_of b)) outcome)
    step None at some = absurd (cc)
    step (Some address) at some = prepares_so Active (Some address) is at (does t there)

  pub prepares_nobody : t.phase ≡ Active → is_some connection.peer ≡ false → Does b d (abort key (work_of b)) → Does b d (chosen (prepare t.phase connection.peer connection t (work_of b)) outcome)
  prepares_nobody is reachable does = step connection.peer refl reachable where
    step : (peer : Option (List ℕ)) → connection.peer ≡ peer → is_some peer ≡ false → Does b d (chosen (prepare t.phase connection.peer connection t (work_of b)) outcome)
    step None at none = prepares_so Active None is at (subst (λ k. Does b d (abort k (work_of b))) (key_is b key t there) does)
    step (Some address) at none = absurd (cc)

  pub prepares_aborted : t.phase ≡ Aborted → Does b d (abort key (work_of b)) → Does b d (chosen (prepare t.phase connection.peer connection t (work_of b)) outcome)
  prepares_aborted is does = prepares_so Aborted connection.peer is refl (subst (λ k. Does b d (abort k (work_of b))) (key_is b key t there) does)

-- COMMIT and ABORT by the phase
module _ (b d : Held) (command : CommandName) (connection : Connection) (outcome : Outcome) (key : Key) (t : Transaction) (there : transaction_of key (work_of b).state ≡ Some t) where
  pub commits_active : t.phase ≡ Active → ((u : Transaction) → transaction_of key (work_of b).state ≡ Some u → Does b d (chosen (ask u (work_of b)) outcome)) → Does b d (chosen (decide_commit t.phase connection t (work_of b)) outcome)
  commits_active is does = subst (λ p. Does b d (chosen (decide_commit p connection t (work_of b)) outcome)) (sym is) (does t there)

  pub commits_prepared : t.phase ≡ Prepared → Does b d (chosen (Attempt.Asks (Put key (row_committed t)) (commit key (work_of b)) (closed (owing command connection) (work_of b))) outcome) → Does b d (chosen (decide_commit t.phase connection t (work_of b)) outcome)
  commits_prepared is does = subst (λ p. Does b d (chosen (decide_commit p connection t (work_of b)) outcome)) (sym is)
      (subst (λ k. Does b d (chosen (Attempt.Asks (Put k (row_committed t)) (commit k (work_of b)) (closed connection (work_of b))) outcome)) (key_is b key t there)
      (subst (λ w. Does b d (chosen (Attempt.Asks (Put key (row_committed t)) (commit key (work_of b)) w) outcome)) (closed_owing command connection (work_of b)) does))

  pub commits_aborted : t.phase ≡ Aborted → Does b d (abort key (work_of b)) → Does b d (chosen (decide_commit t.phase connection t (work_of b)) outcome)
  commits_aborted is does = subst (λ p. Does b d (chosen (decide_commit p connection t (work_of b)) outcome)) (sym is) (subst (λ k. Does b d (abort k (work_of b))) (key_is b key t there) does)

  pub aborts_open : (phase : Phase) → phase ≡ t.phase → (phase ≡ Active) ⊎ (phase ≡ Aborted) → Does b d (abort key (work_of b)) → Does b d (chosen (decide_abort t.phase connection t (work_of b)) outcome)
  aborts_open phase same (inl is) does = subst (λ p. Does b d (chosen (decide_abort p connection t (work_of b)) outcome)) (sym is ∙ same) (subst (λ k. Does b d (abort k (work_of b))) (key_is b key t there) does)
  aborts_open phase same (inr is) does = subst (λ p. Does b d (chosen (decide_abort p connection t (work_of b)) outcome)) (sym is ∙ same) (subst (λ k. Does b d (abort k (work_of b))) (key_is b key t there) does)

  pub aborts_prepared : t.phase ≡ Prepared → Does b d (chosen (Attempt.Asks (Remove key) (abort key (work_of b)) (closed (owing command connection) (work_of b))) outcome) → Does b d (chosen (decide_abort t.phase connection t (work_of b)) outcome)
  aborts_prepared is does = subst (λ p. Does b d (chosen (decide_abort p connection t (work_of b)) outcome)) (sym is)
      (subst (λ k. Does b d (chosen (Attempt.Asks (Remove k) (abort k (work_of b)) (closed connection (work_of b))) outcome)) (key_is b key t there)
      (subst (λ w. Does b d (chosen (Attempt.Asks (Remove key) (abort key (work_of b)) w) outcome)) (closed_owing command connection (work_of b)) does))

-- in the other phases it is never asked
pub prepares_never : (b : Held) (connection : Connection) (outcome : Outcome) (t : Transaction) (phase : Phase) → phase ≡ t.phase → (phase ≡ Asking) ⊎ ((phase ≡ Prepared) ⊎ (phase ≡ Committed)) → Does b b (chosen (prepare t.phase connection.peer connection t (work_of b)) outcome)
prepares_never b connection outcome t phase same (inl is) = subst (λ p. Does b b (chosen (prepare p connection.peer connection t (work_of b)) outcome)) (sym is ∙ same) (nothing b)
prepares_never b connection outcome t phase same (inr (inl is)) = subst (λ p. Does b b (chosen (prepare p connection.peer connection t (work_of b)) outcome)) (sym is ∙ same) (nothing b)
prepares_never b connection outcome t phase same (inr (inr is)) = subst (λ p. Does b b (chosen (prepare p connection.peer connection t (work_of b)) outcome)) (sym is ∙ same) (nothing b)

pub commits_never : (b : Held) (connection : Connection) (outcome : Outcome) (t : Transaction) (phase : Phase) → phase ≡ t.phase → (phase ≡ Asking) ⊎ (phase ≡ Committed) → Does b b (chosen (decide_commit t.phase connection t (work_of b)) outcome)
commits_never b connection outcome t phase same (inl is) = subst (λ p. Does b b (chosen (decide_commit p connection t (work_of b)) outcome)) (sym is ∙ same) (nothing b)
commits_never b connection outcome t phase same (inr is) = subst (λ p. Does b b (chosen (decide_commit p connection t (work_of b)) outcome)) (sym is ∙ same) (nothing b)

pub aborts_never : (b : Held) (connection : Connection) (outcome : Outcome) (t : Transaction) (phase : Phase) → phase ≡ t.phase → (phase ≡ Asking) ⊎ (phase ≡ Committed) → Does b b (chosen (decide_abort t.phase connection t (work_of b)) outcome)
aborts_never b connection outcome t phase same (inl is) = subst (λ p. Does b b (chosen (decide_abort p connection t (work_of b)) outcome)) (sym is ∙ same) (nothing b)
aborts_never b connection outcome t phase same (inr is) = subst (λ p. Does b b (chosen (decide_abort p connection t (work_of b)) outcome)) (sym is ∙ same) (nothing b)

pub ruleset obeying = (owed_idle, may_idle)

-- QUERY

module _ (a b : Held) (number : ℕ) (connection : Connection) (found : connection_of number (work_of a).state ≡ Some connection) (superior : List ℕ) where
  queries_so : (there : Bool) → option_map_or exists (identified_by superior (work_of a).state) false ≡ there → Does a b (reply number command.Query (cond there said.QueriedExists said.QueriedNotFound) (work_of a)) → Does a b (query superior connection (work_of a))
  unfolding query
  queries_so there is does =
      subst (λ n. Does a b (reply n command.Query (cond (option_map_or exists (identified_by superior (work_of a).state) false) said.QueriedExists said.QueriedNotFound) (work_of a))) (sym (found-number number (work_of a).state.connections connection found))
      (subst (λ t. Does a b (reply number command.Query (cond t said.QueriedExists said.QueriedNotFound) (work_of a))) (sym is) does)

  pub queried_there : (there : Bool) → there ≡ option_map_or exists (identified_by superior (work_of a).state) false → there ≡ true → Does a b (reply number command.Query said.QueriedExists (work_of a)) → Does a b (query superior connection (work_of a))
  queried_there there same is does = queries_so true (sym same ∙ is) does

  pub queried_none : (there : Bool) → there ≡ option_map_or exists (identified_by superior (work_of a).state) false → there ≡ false → Does a b (reply number command.Query said.QueriedNotFound (work_of a)) → Does a b (query superior connection (work_of a))
  queried_none there same is does = queries_so false (sym same ∙ is) does

pub ruleset querying = (queried_there, queried_none)

-- Any of them

-- the reply goes to the connection that was found
pub replied_there : (a b : Held) (number : ℕ) (connection : Connection) (command : CommandName) (said : Said) → connection_of number (work_of a).state ≡ Some connection → Does a b (reply number command said (work_of a)) → Does a b (reply connection.number command said (work_of a))
replied_there a b number connection command said found does = subst (λ n. Does a b (reply n command said (work_of a))) (sym (found-number number (work_of a).state.connections connection found)) does

-- one line is fewer than two
pub one_line : (held : Held) (number : ℕ) → lines_at number (work_of held).state + 2 ≤ held.making.free → 0 < held.making.free
one_line held number enough = omega (arith, enough)

pub one_more : (held : Held) (number : ℕ) → lines_at number (work_of held).state + 2 ≤ held.making.free → lines_at number (work_of held).state + 1 ≤ held.making.free
one_more held number enough = omega (arith, enough)

pub two_lines : (held : Held) (number : ℕ) → lines_at number (work_of held).state + 2 ≤ held.making.free → 2 ≤ held.making.free
two_lines held number enough = omega (arith, enough)

pub ruleset serving = (replied_there, one_line, one_more, two_lines)
