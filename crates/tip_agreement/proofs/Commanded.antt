-- How transactions go on over commands of others and requests of the host.
use Rattle.std.proofs.Common.{◌≡◌, Bool, true, false, ℕ, List, [], ◌∷◌, ◌++◌, Option, Some, None, cond, refl, ap, subst, sym, ◌∙◌, ◌⊎◌, inl, inr}
use Rattle.std.specs.Prelude.{◌&&◌, find, is_none, is_some, length, nat_le, not, take, ◌||◌}
use Rattle.std.specs.List.{list_any}
use Rattle.std.specs.Option.{option_and_then, option_map_or}
use Rattle.std.proofs.lemmas.Bool.{and_parts, and_right, not-true, or_from}
use Rattle.tip_branch.specs.Members.{is_active as is_member_active}
use Rattle.tip_branch.specs.Notes.{PartyNotes}
use Rattle.tip_line.specs.declared.command.Command.{Command}
use Rattle.tip_line.specs.declared.command.Command.TheVariants as commands
use Rattle.tip_line.specs.declared.command.CommandName.{CommandName}
use Rattle.tip_line.specs.declared.command.CommandName.TheVariants as command
use Rattle.tip_rows.specs.Keys.{Key, is_same}
use Rattle.tip_rows.specs.declared.row.Row.{Row}
use Rattle.tip_txn.specs.Parts.{enlisted, is_enlisted}
use Rattle.tip_txn.specs.declared.answer.Ballot.{Ballot}
use Rattle.tip_txn.specs.declared.answer.Ballot.TheVariants.{Yes, No, ReadOnly, Lost}
use Rattle.tip_txn.specs.declared.answer.Phase.{Phase}
use Rattle.tip_txn.specs.declared.answer.Phase.TheVariants.{Active, Asking, Prepared, Committed, Aborted}
use Rattle.tip_txn.specs.declared.part.Participant.{Participant}
use Rattle.tip_machine.specs.Agreement.Verdicts.{is_commit}
use Rattle.tip_machine.specs.Answers.{identifier}
use Rattle.tip_machine.specs.Changes.{alter, attempt_on, change, reply, tell}
use Rattle.tip_machine.specs.Commands.{begin, decide_abort, decide_commit, exists, identify, make, obey, prepare, pull, pull_into, push, push_new, query, reconnect, reconnect_to, serve, superior_role, take_over}
use Rattle.tip_machine.specs.Connections.{identified, is_superior_of, owing, taking}
use Rattle.tip_machine.specs.Failing.{closed, fail, gone, missed, wrong}
use Rattle.tip_machine.specs.Invariants.{came_twice}
use Rattle.tip_machine.specs.Invariants.Bounds.{is_spelled}
use Rattle.tip_machine.specs.Invariants.Links.{are_distinct}
use Rattle.tip_machine.specs.Invariants.Phases.{is_part_in, is_party, is_transaction}
use Rattle.tip_machine.specs.Invariants.Stored.{is_stored_as}
use Rattle.tip_machine.specs.Proceeding.{abort, ask}
use Rattle.tip_machine.specs.States.{Attempt, State, Work, has_room, identified_by, transaction_of}
use Rattle.tip_machine.specs.Transactions.{begun, enlisting, has_id, has_key, has_ready, is_active, is_known, is_prepared, is_undecided, next_key}
use Rattle.tip_machine.specs.Types.{Connection, Transaction}
use Rattle.tip_machine.specs.declared.answer.Item.TheVariants.{Close, Say}
use Rattle.tip_machine.specs.declared.answer.Said.{Said}
use Rattle.tip_machine.specs.declared.answer.Said.TheVariants as said
use Rattle.tip_machine.specs.declared.connection.Role.{Role}
use Rattle.tip_machine.specs.declared.connection.Role.TheVariants.{Superior, Subordinate}
use Rattle.tip_machine.specs.declared.event.Change.{Change}
use Rattle.tip_machine.specs.declared.event.Change.TheVariants.{Remove}
use Rattle.tip_machine.specs.declared.transaction.Origin.TheVariants as origin
use Rattle.tip_machine.specs.declared.transaction.PartyPlace.TheVariants.{Here}
use Rattle.tip_machine.proofs.Lists.{find_any}
use Rattle.tip_agreement.specs.Truth.{will_tell}
use Rattle.tip_agreement.proofs.Apart.{all_found}
use Rattle.tip_agreement.proofs.Around.{Whole}
use Rattle.tip_agreement.proofs.Closing.{is_stoppable}
use Rattle.tip_agreement.proofs.Concluding.{AllReady, Goes, Ready, ask_onward, missed_goes, ready_of}
use Rattle.tip_agreement.proofs.Enlisting.{only_active}
use Rattle.tip_agreement.proofs.Following.{AllOnward, AreApart, HasNoneActive, abort_onward, commit_onward, none_stored, owns_here, stop_onward, turned_to}
use Rattle.tip_agreement.proofs.Keys.{key_self, keys_of}
use Rattle.tip_agreement.proofs.Speaking.{doubt_aborts, doubt_commits}
use Rattle.tip_agreement.proofs.Wording.{Quiet, are_said, closes_more, fits_still, quiet_then, says_more, silent, is_of}
use Rattle.tip_agreement.proofs.Onward.{Speaks, alters, before, beside, of_none, of_remove, row_in, tells_commit, then}
use Rattle.tip_agreement.proofs.Owned.{have_parts, in_phase, own_still, parts_from}
use Rattle.tip_agreement.proofs.Sound.{found_by}

no_key : Key
no_key = record { epoch = 0; connection = 0; number = 0 }

-- what differs in connections and in what is told alone
pub record Beside (w u : Work) : Type 0 where
  pub epoch : u.state.head.epoch ≡ w.state.head.epoch
  pub name : u.state.head.name ≡ w.state.head.name
  pub transactions : u.state.transactions ≡ w.state.transactions
  pub work : u.answer.work ≡ w.answer.work
  pub spent : u.answer.spent ≡ w.answer.spent
  pub said : Quiet w.answer.sent u.answer.sent

abbrev said_in : List ℕ → ℕ → Key → Bool → Option PartyNotes → Bool
said_in realm now k said work = said || option_map_or (will_tell is_commit now (identifier realm k)) work false

-- no commit more is told
pub commits_still : (w u : Work) → u.state.head.epoch ≡ w.state.head.epoch → u.state.head.name ≡ w.state.head.name → u.answer.work ≡ w.answer.work → Quiet w.answer.sent u.answer.sent → (k : Key) → tells_commit k u ≡ true → tells_commit k w ≡ true
commits_still w u epoch name work said k told =
    (λ i. said_in (sym name i) (sym epoch i) k (are_said is_commit (sym name i) (identifier (sym name i) k) w.answer.sent) (sym work i))
    ∙ ((λ i. said_in u.state.head.name u.state.head.epoch k (sym (said is_commit u.state.head.name (identifier u.state.head.name k)) i) u.answer.work) ∙ told)

beside_says : (key : Key) (w u : Work) → Beside w u → Speaks None key w u
beside_says key w u is = record {
  fits = λ spelled k fine before. fits_still before k w u is.epoch is.name is.transactions is.work is.spent is.said;
  ours = λ test realm id at speaks. inl ((λ i. (sym (is.said test realm id)) i || is_of id ((sym is.spent) i)) ∙ speaks);
  backed = λ spelled k fine row fits told. inl (commits_still w u is.epoch is.name is.work is.said k told);
}

pub beside_goes : (w u : Work) → Beside w u → Goes None w u
beside_goes w u is = (no_key, beside no_key w u is.epoch is.name is.transactions is.work (beside_says no_key w u is))

pub goes_from : (change : Option Change) (w u v : Work) → Beside w u → Goes change u v → Goes change w v
goes_from change w u v is goes = (goes.0, before goes.0 change w u v (beside goes.0 w u is.epoch is.name is.transactions is.work (beside_says goes.0 w u is)) goes.1)

-- a transaction was made, which is not known
pub record Grown (w v : Work) : Type 0 where
  pub new : Transaction
  pub epoch : v.state.head.epoch ≡ w.state.head.epoch
  pub name : v.state.head.name ≡ w.state.head.name
  pub transactions : v.state.transactions ≡ w.state.transactions ++ new ∷ []
  pub work : v.answer.work ≡ w.answer.work
  pub spent : v.answer.spent ≡ w.answer.spent
  pub said : Quiet w.answer.sent v.answer.sent
  pub active : new.phase ≡ Active
  pub spelled : is_spelled new.key ≡ true
  pub unknown : list_any (λ (t : Transaction). is_undecided t.phase && came_twice t new.origin) w.state.transactions ≡ false

-- WHAT AN EVENT COMES TO
abbrev pub EndsGo : Work → Attempt → Type 0
EndsGo w (Attempt.Done v) = Goes None w v ⊎ Grown w v
EndsGo w (Attempt.Asks change stored refused) = Goes (Some change) w stored × Goes None w refused

pub done : (w v : Work) → Goes None w v → EndsGo w (Attempt.Done v)
done w v goes = inl goes

pub all_go : (key : Key) (w : Work) (a : Attempt) → AllOnward key w a → EndsGo w a
all_go key w (Attempt.Done v) onward = inl (key, onward)
all_go key w (Attempt.Asks change stored refused) onward = ((key, onward.0), (key, onward.1))

pub ends_from : (w u : Work) (a : Attempt) → Beside w u → EndsGo u a → EndsGo w a
ends_from w u (Attempt.Done v) is (inl goes) = inl (goes_from None w u v is goes)
ends_from w u (Attempt.Done v) is (inr grown) = inr (record {
  new = grown.new;
  epoch = grown.epoch ∙ is.epoch;
  name = grown.name ∙ is.name;
  transactions = grown.transactions ∙ ap (λ ts. ts ++ grown.new ∷ []) is.transactions;
  work = grown.work ∙ is.work;
  spent = grown.spent ∙ is.spent;
  said = quiet_then w.answer.sent u.answer.sent v.answer.sent is.said grown.said;
  active = grown.active;
  spelled = grown.spelled;
  unknown = subst (λ ts. list_any (λ (t : Transaction). is_undecided t.phase && came_twice t grown.new.origin) ts ≡ false) is.transactions grown.unknown;
})
ends_from w u (Attempt.Asks change stored refused) is ends = (goes_from (Some change) w u stored is ends.0, goes_from None w u refused is ends.1)

-- What is known of it in work that is beside
pub apart_beside : (w u : Work) → Beside w u → AreApart w → AreApart u
apart_beside w u is apart = subst (λ ts. are_distinct is_same (keys_of ts) ≡ true) (sym is.transactions) apart

pub ready_beside : (w u : Work) → Beside w u → AllReady w.state → AllReady u.state
ready_beside w u is ready t found = let known = ready t (subst (λ ts. find (has_key t.key) ts ≡ Some t) is.transactions found) in record { own = own_still w.state u.state t t.place is.epoch is.name ∙ known.own; waits = known.waits }

-- A connection that fails, or is closed

pub fail_goes : (c : Connection) (w : Work) → AreApart w → AllReady w.state → Goes None w (fail c w)
unfolding fail gone
fail_goes c w apart ready =
    let is : Beside w (gone c w) = record { epoch = refl; name = refl; transactions = refl; work = refl; spent = refl; said = silent w.answer.sent } in
    goes_from None w (gone c w) (missed c.role (gone c w)) is (missed_goes (gone c w) (apart_beside w (gone c w) is apart) (ready_beside w (gone c w) is ready) c.role)

pub closed_goes : (c : Connection) (w : Work) → AreApart w → AllReady w.state → Goes None w (closed c w)
unfolding closed
closed_goes c w apart ready =
    let u = tell c.number Close w in
    let is : Beside w u = record { epoch = refl; name = refl; transactions = refl; work = refl; spent = refl; said = closes_more w c.number } in
    goes_from None w u (fail c u) is (fail_goes c u (apart_beside w u is apart) (ready_beside w u is ready))

pub wrong_goes : (c : Connection) (w : Work) → AreApart w → AllReady w.state → Goes None w (wrong c w)
unfolding wrong
wrong_goes c w apart ready =
    let u = tell c.number (Say said.Error) w in
    let is : Beside w u = record { epoch = refl; name = refl; transactions = refl; work = refl; spent = refl; said = says_more w c.number said.Error } in
    goes_from None w u (closed c u) is (closed_goes c u (apart_beside w u is apart) (ready_beside w u is ready))

pub either_goes : (w : Work) (b : Bool) (this that : Work) → EndsGo w (Attempt.Done this) → EndsGo w (Attempt.Done that) → EndsGo w (Attempt.Done (cond b this that))
either_goes w true this that e f = e
either_goes w false this that e f = f

-- where it is decided, no branch of a party that is here is active
pub settled_here : (s : State) (t : Transaction) → Whole s → transaction_of t.key s ≡ Some t → (t.phase ≡ Prepared) ⊎ (t.phase ≡ Committed) → HasNoneActive t
settled_here s t whole found which party at = local t.parts (in_phase t.key t s found (all_found (is_transaction s) (has_key t.key) s.transactions t whole.transactions found)).owned.parts where
  prepared : (answer : Option Ballot) → is_party Prepared (Here party) answer ≡ true → list_any is_member_active party.members ≡ false
  prepared (Some Yes) is = not-true _ (and_parts (not (list_any is_member_active party.members)) (has_ready party) is).0
  prepared (Some ReadOnly) is = not-true _ (and_parts (not (list_any is_member_active party.members)) (not (has_ready party)) is).0
  prepared None is = absurd (cc)
  prepared (Some No) is = absurd (cc)
  prepared (Some Lost) is = absurd (cc)

  committed : (answer : Option Ballot) → is_party Committed (Here party) answer ≡ true → list_any is_member_active party.members ≡ false
  committed (Some Yes) is = not-true _ (and_parts (not (list_any is_member_active party.members)) (has_ready party) is).0
  committed (Some ReadOnly) is = absurd (cc)
  committed None is = absurd (cc)
  committed (Some No) is = absurd (cc)
  committed (Some Lost) is = absurd (cc)

  local : (parts : List Participant) → have_parts (is_part_in t.phase) (is_party t.phase) t.place parts t.key s.connections ≡ true → list_any is_member_active party.members ≡ false
  local [] all = absurd (cc)
  local (p ∷ parts) all =
      let fits = subst (λ place. is_party t.phase place p.answer ≡ true) at (and_parts (is_party t.phase t.place p.answer) (parts_from (is_part_in t.phase) 1 parts t.key s.connections) all).0 in
      elim which [
        | inl is ↦ prepared p.answer (subst (λ f. is_party f (Here party) p.answer ≡ true) is fits)
        | inr is ↦ committed p.answer (subst (λ f. is_party f (Here party) p.answer ≡ true) is fits)
      ]

-- A part more

module _ (t : Transaction) (w : Work) (found : transaction_of t.key w.state ≡ Some t) (active : t.phase ≡ Active) (p : Participant) where
  pub enlists : Goes None w (alter t.key (enlisting p) w)
  enlists = (t.key, alters t.key None (of_none t.key) w (enlisting p) t (λ t. refl) found (turned_to (λ r. r) t (enlisting p t) refl refl (λ is. is) (λ r fits. subst (λ f. is_stored_as f (enlisting p t) r ≡ true) (sym active) (none_stored t.phase (ap is_stoppable active) t r fits))) (λ word is. is))

goes_then : (w v u : Work) → Beside v u → Goes None w v → Goes None w u
goes_then w v u is goes = (goes.0, then goes.0 None w v u goes.1 (beside goes.0 v u is.epoch is.name is.transactions is.work (beside_says goes.0 v u is)))

-- COMMANDS

module _ (c : Connection) (w : Work) (whole : Whole w.state) where
  pub ready : AllReady w.state
  ready t found = ready_of w.state t whole found

  found_any : (test : Transaction → Bool) (t : Transaction) → find test w.state.transactions ≡ Some t → transaction_of t.key w.state ≡ Some t
  found_any test t is = found_by test w.state t whole is

  pub aside : (u : Work) → u.state.head.epoch ≡ w.state.head.epoch → u.state.head.name ≡ w.state.head.name → u.state.transactions ≡ w.state.transactions → u.answer.work ≡ w.answer.work → u.answer.spent ≡ w.answer.spent → Quiet w.answer.sent u.answer.sent → EndsGo w (Attempt.Done u)
  aside u epoch name transactions work spent said = inl (beside_goes w u (record { epoch = epoch; name = name; transactions = transactions; work = work; spent = spent; said = said }))

  pub goes_wrong : EndsGo w (Attempt.Done (wrong c w))
  goes_wrong = inl (wrong_goes c w whole.keys ready)

  pub hangs_up : EndsGo w (Attempt.Done (closed c w))
  hangs_up = inl (closed_goes c w whole.keys ready)

  replied : (name : CommandName) (said : Said) → EndsGo w (Attempt.Done (reply c.number name said w))
  unfolding reply
  replied name said = aside (reply c.number name said w) refl refl refl refl refl (says_more w c.number said)

  identifies : (lowest highest : ℕ) (peer : Option (List ℕ)) → EndsGo w (Attempt.Done (identify lowest highest peer c w))
  unfolding identify
  identifies lowest highest peer = either_goes w (nat_le lowest 3 && nat_le 3 highest) (change c.number (identified peer) (tell c.number (Say said.Identified) w)) (wrong c w) (aside (change c.number (identified peer) (tell c.number (Say said.Identified) w)) refl refl refl refl refl (says_more w c.number said.Identified)) goes_wrong

  none_root : (ts : List Transaction) → list_any (λ (t : Transaction). is_undecided t.phase && came_twice t origin.Root) ts ≡ false
  none_root [] = refl
  none_root (t ∷ ts) = or_from _ _ (and_right _ _ refl) (none_root ts)

  begins : is_spelled (next_key w.state.head c) ≡ true → EndsGo w (Attempt.Done (begin c w))
  unfolding begin reply make
  begins spelled = either_goes w (has_room c w.state) (reply c.number command.Begin (said.Begun (next_key w.state.head c)) (make origin.Root c w)) (reply c.number command.Begin said.NotBegun w)
      (inr (record { new = begun w.state.head (next_key w.state.head c) origin.Root (take (length w.state.head.branches) c.boxes); epoch = refl; name = refl; transactions = refl; work = refl; spent = refl; said = says_more w c.number (said.Begun (next_key w.state.head c)); active = refl; spelled = spelled; unknown = none_root w.state.transactions }))
      (replied command.Begin said.NotBegun)

  pub unknown_of : (superior : List ℕ) → find (is_known c.peer superior) w.state.transactions ≡ None → list_any (λ (t : Transaction). is_undecided t.phase && came_twice t (origin.Subordinate c.peer superior)) w.state.transactions ≡ false
  unknown_of superior none = sym (find_any (is_known c.peer superior) w.state.transactions) ∙ ap is_some none

  pushes_new : is_spelled (next_key w.state.head c) ≡ true → (superior : List ℕ) → find (is_known c.peer superior) w.state.transactions ≡ None → EndsGo w (Attempt.Done (push_new superior c w))
  unfolding reply make
  pushes_new spelled superior none = either_goes w (has_room c w.state) (reply c.number command.Push (said.Pushed (next_key w.state.head c)) (make (origin.Subordinate c.peer superior) c w)) (reply c.number command.Push said.NotPushed w)
      (inr (record { new = begun w.state.head (next_key w.state.head c) (origin.Subordinate c.peer superior) (take (length w.state.head.branches) c.boxes); epoch = refl; name = refl; transactions = refl; work = refl; spent = refl; said = says_more w c.number (said.Pushed (next_key w.state.head c)); active = refl; spelled = spelled; unknown = unknown_of superior none }))
      (replied command.Push said.NotPushed)

  pushes : is_spelled (next_key w.state.head c) ≡ true → (superior : List ℕ) → EndsGo w (Attempt.Done (push superior c w))
  unfolding push
  pushes spelled superior = step (find (is_known c.peer superior) w.state.transactions) refl where
    step : (known : Option Transaction) → find (is_known c.peer superior) w.state.transactions ≡ known → EndsGo w (Attempt.Done (option_map_or (λ (t : Transaction). reply c.number command.Push (said.AlreadyPushed t.key) w) known (push_new superior c w)))
    step None is = pushes_new spelled superior is
    step (Some t) is = replied command.Push (said.AlreadyPushed t.key)

  -- a part more, on this connection
  pub enlists_on : (t : Transaction) (p : Participant) (u : Work) → transaction_of t.key w.state ≡ Some t → t.phase ≡ Active → Beside w u → Goes None w (change c.number (taking (Subordinate t.key (length t.parts))) (alter t.key (enlisting p) u))
  enlists_on t p u found active is =
      let v = alter t.key (enlisting p) u in
      goes_then w v (change c.number (taking (Subordinate t.key (length t.parts))) v) (record { epoch = refl; name = refl; transactions = refl; work = refl; spent = refl; said = silent v.answer.sent })
      (goes_from None w u v is (enlists t u (subst (λ ts. find (has_key t.key) ts ≡ Some t) (sym is.transactions) found) active p))

  pulls_into : (found : Option Transaction) (peer : Option (List ℕ)) (subordinate : List ℕ) → ((t : Transaction) → found ≡ Some t → transaction_of t.key w.state ≡ Some t) → EndsGo w (Attempt.Done (pull_into found peer subordinate c.number w))
  unfolding reply
  pulls_into None peer subordinate there = replied command.Pull said.NotPulled
  pulls_into (Some t) None subordinate there = replied command.Pull said.NotPulled
  pulls_into (Some t) (Some address) subordinate there = step (is_active t.phase && not (is_enlisted t.parts address (Some subordinate))) refl where
    step : (b : Bool) → (is_active t.phase && not (is_enlisted t.parts address (Some subordinate))) ≡ b → EndsGo w (Attempt.Done (cond b (change c.number (taking (Subordinate t.key (length t.parts))) (alter t.key (enlisting (enlisted address (Some subordinate))) (reply c.number command.Pull said.Pulled w))) (reply c.number command.Pull said.NotPulled w)))
    step true may = inl (enlists_on t (enlisted address (Some subordinate)) (reply c.number command.Pull said.Pulled w) (there t refl) (only_active t.phase (and_parts (is_active t.phase) _ may).0) (record { epoch = refl; name = refl; transactions = refl; work = refl; spent = refl; said = says_more w c.number said.Pulled }))
    step false not = replied command.Pull said.NotPulled

  pulls : (superior subordinate : List ℕ) → EndsGo w (Attempt.Done (pull superior subordinate c w))
  unfolding pull
  pulls superior subordinate = pulls_into (identified_by superior w.state) c.peer subordinate (λ t is. found_any (has_id w.state.head.name superior) t is)

  queries : (superior : List ℕ) → EndsGo w (Attempt.Done (query superior c w))
  unfolding query
  queries superior = replied command.Query (cond (option_map_or exists (identified_by superior w.state) false) said.QueriedExists said.QueriedNotFound)

  takes_over : (key : Key) (earlier : Option Connection) → EndsGo w (Attempt.Done (take_over key c.number earlier w))
  unfolding reply
  takes_over key None = aside (change c.number (taking (Superior key)) (reply c.number command.Reconnect said.Reconnected w)) refl refl refl refl refl (says_more w c.number said.Reconnected)
  takes_over key (Some e) =
      let u = change c.number (taking (Superior key)) (reply c.number command.Reconnect said.Reconnected w) in
      let is : Beside w u = record { epoch = refl; name = refl; transactions = refl; work = refl; spent = refl; said = says_more w c.number said.Reconnected } in
      inl (goes_from None w u (closed e u) is (closed_goes e u (apart_beside w u is whole.keys) (ready_beside w u is ready)))

  reconnects_to : (found : Option Transaction) → EndsGo w (Attempt.Done (reconnect_to found c.number w))
  reconnects_to None = replied command.Reconnect said.NotReconnected
  reconnects_to (Some t) = either_goes w (is_prepared t.phase) (take_over t.key c.number (find (is_superior_of t.key) w.state.connections) w) (reply c.number command.Reconnect said.NotReconnected w) (takes_over t.key (find (is_superior_of t.key) w.state.connections)) (replied command.Reconnect said.NotReconnected)

  reconnects : (subordinate : List ℕ) → EndsGo w (Attempt.Done (reconnect subordinate c w))
  unfolding reconnect
  reconnects subordinate = reconnects_to (identified_by subordinate w.state)

  -- Commands of a superior

  module _ (t : Transaction) (u : Work) (is : Beside w u) (found : transaction_of t.key w.state ≡ Some t) where
    found_in : transaction_of t.key u.state ≡ Some t
    found_in = subst (λ ts. find (has_key t.key) ts ≡ Some t) (sym is.transactions) found

    apart_in : AreApart u
    apart_in = apart_beside w u is whole.keys

    ready_in : Ready t u.state
    ready_in = ready_beside w u is ready t found_in

    nothing : EndsGo u (Attempt.Done u)
    nothing = inl (beside_goes u u (record { epoch = refl; name = refl; transactions = refl; work = refl; spent = refl; said = silent u.answer.sent }))

    asks_all : t.phase ≡ Active → EndsGo u (ask t u)
    asks_all active = all_go t.key u (ask t u) (ask_onward t u found_in apart_in ready_in active)

    stops : is_stoppable t.phase ≡ true → EndsGo u (Attempt.Done (abort t.key u))
    stops can = inl (t.key, stop_onward t.key u t found_in apart_in (owns_here u.state t ready_in.own) can)

    hung_up : Goes None u (closed c u)
    hung_up = closed_goes c u apart_in (ready_beside w u is ready)

    prepares : (phase : Phase) → t.phase ≡ phase → (peer : Option (List ℕ)) → EndsGo u (prepare phase peer c t u)
    prepares Active at (Some address) = asks_all at
    prepares Active at None = stops (ap is_stoppable at)
    prepares Aborted at peer = stops (ap is_stoppable at)
    prepares Asking at peer = nothing
    prepares Prepared at peer = nothing
    prepares Committed at peer = nothing

    commits_on : (phase : Phase) → t.phase ≡ phase → EndsGo u (decide_commit phase c t u)
    commits_on Active at = asks_all at
    commits_on Prepared at = ((t.key, commit_onward t.key u t found_in apart_in (owns_here u.state t ready_in.own) (settled_here w.state t whole found (inl at)) (doubt_commits t at)), hung_up)
    commits_on Aborted at = stops (ap is_stoppable at)
    commits_on Asking at = nothing
    commits_on Committed at = nothing

    removed : (r : Option Row) → is_none (row_in (Some (Remove t.key)) t.key r) ≡ true
    removed r = subst (λ b. is_none (cond b None r) ≡ true) (sym (key_self t.key)) refl

    pub removes : t.phase ≡ Prepared → Goes (Some (Remove t.key)) u (abort t.key u)
    removes doubt = (t.key, abort_onward t.key u t found_in apart_in (owns_here u.state t ready_in.own) (Some (Remove t.key)) (of_remove t.key) (λ r fits. removed r) (doubt_aborts t doubt))

    aborts_on : (phase : Phase) → t.phase ≡ phase → EndsGo u (decide_abort phase c t u)
    aborts_on Active at = stops (ap is_stoppable at)
    aborts_on Prepared at = (removes at, hung_up)
    aborts_on Aborted at = stops (ap is_stoppable at)
    aborts_on Asking at = nothing
    aborts_on Committed at = nothing

  obeys : (name : CommandName) (rule : Transaction → Work → Attempt) → ((t : Transaction) (u : Work) → Beside w u → transaction_of t.key w.state ≡ Some t → EndsGo u (rule t u)) → EndsGo w (obey name rule c w)
  obeys name rule keeps = by_role c.role where
    u : Work
    u = change c.number (owing name) w

    is : Beside w u
    is = record { epoch = refl; name = refl; transactions = refl; work = refl; spent = refl; said = silent w.answer.sent }

    by_found : (found : Option Transaction) → ((t : Transaction) → found ≡ Some t → transaction_of t.key w.state ≡ Some t) → EndsGo w (attempt_on found rule u)
    by_found None there = aside u refl refl refl refl refl (silent w.answer.sent)
    by_found (Some t) there = ends_from w u (rule t u) is (keeps t u is (there t refl))

    by_role : (role : Option Role) → EndsGo w (attempt_on (option_and_then (λ key. transaction_of key u.state) (superior_role role)) rule u)
    by_role None = aside u refl refl refl refl refl (silent w.answer.sent)
    by_role (Some (Superior key)) = by_found (transaction_of key w.state) (λ t found. found_any (has_key key) t found)
    by_role (Some (Subordinate key part)) = aside u refl refl refl refl refl (silent w.answer.sent)

  pub serves_goes : is_spelled (next_key w.state.head c) ≡ true → (line : Command) → EndsGo w (serve line c w)
  serves_goes spelled (commands.Identify lowest highest peer secondary) = identifies lowest highest peer
  serves_goes spelled commands.Begin = begins spelled
  serves_goes spelled (commands.Push superior) = pushes spelled superior
  serves_goes spelled (commands.Pull superior subordinate) = pulls superior subordinate
  serves_goes spelled commands.Prepare = obeys command.Prepare (λ t. prepare t.phase c.peer c t) (λ t u is found. prepares t u is found t.phase refl c.peer)
  serves_goes spelled commands.Commit = obeys command.Commit (λ t. decide_commit t.phase c t) (λ t u is found. commits_on t u is found t.phase refl)
  serves_goes spelled commands.Abort = obeys command.Abort (λ t. decide_abort t.phase c t) (λ t u is found. aborts_on t u is found t.phase refl)
  serves_goes spelled (commands.Query superior) = queries superior
  serves_goes spelled (commands.Reconnect subordinate) = reconnects subordinate
  serves_goes spelled (commands.Multiplex protocol) = replied command.Multiplex said.CantMultiplex
  serves_goes spelled commands.Tls = replied command.Tls said.CantTls
  serves_goes spelled commands.Error = hangs_up
