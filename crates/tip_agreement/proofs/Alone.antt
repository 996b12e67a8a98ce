-- Commands that are answered at once, on a connection that is on no transaction, leave a realm whole.
use Rattle.std.proofs.Common.{◌≡◌, Bool, true, false, ℕ, List, Option, Some, None, cond, refl, ap, subst, ◌∙◌, inr}
use Rattle.std.specs.Prelude.{◌&&◌, is_some, nat_le}
use Rattle.std.specs.Option.{option_map_or}
use Rattle.std.proofs.lemmas.Bool.{and_from, both_ways, or_right}
use Rattle.tip_rows.specs.Keys.{Key}
use Rattle.tip_conn.specs.Table.{is_valid, next_of}
use Rattle.tip_conn.specs.declared.state.Side.TheVariants.{Secondary}
use Rattle.tip_conn.specs.declared.state.State.{State as ConnectionState}
use Rattle.tip_conn.specs.declared.state.State.TheVariants as state
use Rattle.tip_conn.specs.declared.state.Turn.TheVariants.{Keep, Original}
use Rattle.tip_line.specs.Command.{name_of}
use Rattle.tip_line.specs.declared.command.Command.{Command}
use Rattle.tip_line.specs.declared.command.Command.TheVariants as commands
use Rattle.tip_line.specs.declared.command.CommandName.{CommandName}
use Rattle.tip_line.specs.declared.command.CommandName.TheVariants as command
use Rattle.tip_line.specs.declared.response.ResponseName.TheVariants as response
use Rattle.tip_machine.specs.Failing.{wrong}
use Rattle.tip_machine.specs.declared.answer.Item.TheVariants.{Say}
use Rattle.tip_machine.proofs.Walks.{either}
use Rattle.tip_txn.specs.declared.answer.Phase.{Phase}
use Rattle.tip_txn.specs.declared.answer.Phase.TheVariants.{Active, Asking, Prepared, Committed, Aborted}
use Rattle.tip_machine.specs.Invariants.Links.{is_early}
use Rattle.tip_machine.specs.Answers.{response_name}
use Rattle.tip_machine.specs.Changes.{change, reply, tell}
use Rattle.tip_machine.specs.Commands.{exists, identify, query, serve}
use Rattle.tip_machine.specs.Connections.{advanced, advanced_to, asks_for, has_number, identified, is_on, is_part_of, is_superior_of, names, reaches}
use Rattle.tip_machine.specs.Invariants.Links.{has_its_side, is_on_none, link_on}
use Rattle.tip_machine.specs.Invariants.Links.Link.{Owes}
use Rattle.tip_machine.specs.Invariants.Phases.{is_superior}
use Rattle.tip_machine.specs.States.{Work, connection_of, identified_by, transaction_of}
use Rattle.tip_machine.specs.Types.{Connection, Transaction}
use Rattle.tip_machine.specs.declared.answer.Said.{Said}
use Rattle.tip_machine.specs.declared.answer.Said.TheVariants as said
use Rattle.tip_machine.specs.declared.connection.Role.{Role}
use Rattle.tip_machine.specs.declared.connection.Role.TheVariants.{Superior, Subordinate}
use Rattle.tip_machine.specs.declared.transaction.Origin.{Origin}
use Rattle.tip_machine.specs.declared.transaction.Origin.TheVariants as origin
use Rattle.tip_agreement.proofs.Around.{Whole, around_of, asks_as, beside, is_placed, set, stands}
use Rattle.tip_agreement.proofs.Closing.{closed_whole, whole_alike, wrong_whole, stands_there}
use Rattle.tip_agreement.proofs.Found.{any_apart, find_apart}
use Rattle.tip_agreement.proofs.Obeying.{link_was}
use Rattle.tip_agreement.proofs.Proceeding.{AllWhole}
use Rattle.tip_agreement.proofs.Reacting.{Standing, acts_free, idle}

-- what is answered at once, whatever the transactions are (section 13)
abbrev pub is_at_once : Command → Bool
is_at_once (commands.Identify lowest highest primary secondary) = true
is_at_once (commands.Query superior) = true
is_at_once (commands.Multiplex protocol) = true
is_at_once commands.Tls = true
is_at_once commands.Error = true
is_at_once other = false

-- A connection on no transaction changes, and stays on none

pub alone_set : (f : Connection → Connection) (c : Connection) (w : Work) → connection_of c.number w.state ≡ Some c → c.role ≡ None → (f c).role ≡ None → stands w.state (f c) ≡ true → Whole w.state → Whole (change c.number f w).state
alone_set f c w there none still stand whole =
    let key : Key = record { epoch = 0; connection = 0; number = 0 } in
    let v = (change c.number f w).state in
    let around = set key w.state c.number f c there (ap (beside key) none) (inr still) stand (around_of key w.state whole) in
    record {
      keys = around.keys;
      apart = around.apart;
      standing = around.standing;
      transactions = whole_alike w.state v refl (λ other. record {
        epoch = refl;
        name = refl;
        superior = find_apart (is_superior_of other) (has_number c.number) f w.state.connections c there (ap (asks_for other) none) (ap (asks_for other) still);
        part = λ place. find_apart (is_part_of other place) (has_number c.number) f w.state.connections c there (ap (reaches other place) none) (ap (reaches other place) still);
        on = any_apart (is_on other) (has_number c.number) f w.state.connections c there (ap (names other) none) (ap (names other) still);
      }) whole;
    }

-- An early connection whose secondary we are is on none

active_late : (from : Origin) (at : ConnectionState) (owed : Option CommandName) → is_superior Active from (Owes at owed) ≡ true → is_early at ≡ false
active_late origin.Root state.Begun None is = refl
active_late (origin.Subordinate address superior) state.Enlisted None is = refl
active_late from at owed is = absurd (cc)

asking_late : (from : Origin) (at : ConnectionState) (owed : Option CommandName) → is_superior Asking from (Owes at owed) ≡ true → is_early at ≡ false
asking_late origin.Root state.Begun (Some command.Commit) is = refl
asking_late (origin.Subordinate (Some address) superior) state.Enlisted (Some command.Prepare) is = refl
asking_late (origin.Subordinate address superior) state.Enlisted (Some command.Commit) is = refl
asking_late from at owed is = absurd (cc)

prepared_late : (from : Origin) (at : ConnectionState) (owed : Option CommandName) → is_superior Prepared from (Owes at owed) ≡ true → is_early at ≡ false
prepared_late (origin.Subordinate (Some address) superior) state.Prepared None is = refl
prepared_late from at owed is = absurd (cc)

aborted_late : (from : Origin) (at : ConnectionState) (owed : Option CommandName) → is_superior Aborted from (Owes at owed) ≡ true → is_early at ≡ false
aborted_late origin.Root state.Begun None is = refl
aborted_late (origin.Subordinate address superior) state.Enlisted None is = refl
aborted_late from at owed is = absurd (cc)

superior_late : (phase : Phase) (from : Origin) (at : ConnectionState) (owed : Option CommandName) → is_superior phase from (Owes at owed) ≡ true → is_early at ≡ false
superior_late Active from at owed is = active_late from at owed is
superior_late Asking from at owed is = asking_late from at owed is
superior_late Prepared from at owed is = prepared_late from at owed is
superior_late Committed from at owed is = absurd (cc)
superior_late Aborted from at owed is = aborted_late from at owed is

module _ (c : Connection) (w : Work) (whole : Whole w.state) (there : connection_of c.number w.state ≡ Some c) (side : c.side ≡ Secondary) (early : is_early c.state ≡ true) where
  known_there : Standing w.state c
  known_there = stands_there c w whole there

  of_none : (role : Option Role) → c.role ≡ role → is_placed w.state role ≡ true → c.role ≡ None
  of_none None role placed = role
  of_none (Some (Superior key)) role placed = absurd (step (transaction_of key w.state) refl placed) where
    step : (found : Option Transaction) → transaction_of key w.state ≡ found → is_some found ≡ true → ⊥
    step None found some = cc
    step (Some t) found some = both_ways (is_early c.state) (superior_late t.phase t.origin c.state c.owed (link_was key t c w whole there found role side command.Commit)) early
  of_none (Some (Subordinate key place)) role placed = absurd (let e : asks_as (Some (Subordinate key place)) Secondary ≡ true = subst (λ s. asks_as (Some (Subordinate key place)) s ≡ true) side (subst (λ r. asks_as r c.side ≡ true) role known_there.asks) in cc)

  pub role_none : c.role ≡ None
  role_none = of_none c.role refl known_there.placed

  -- it becomes idle
  pub replied_idle : (name : CommandName) (said : Said) → next_of name c.state (response_name said) ≡ Some (state.Idle, Original) → Whole (reply c.number name said w).state
  unfolding reply
  replied_idle name said next =
      let is : advanced name (response_name said) c ≡ advanced_to (Some (state.Idle, Original)) c = ap (λ place. advanced_to place c) next in
      alone_set (advanced name (response_name said)) c w there role_none (ap (λ (d : Connection). d.role) is) (ap (stands w.state) is ∙ idle w.state c) whole

-- QUERY and MULTIPLEX

query_at : (at : ConnectionState) → is_valid command.Query at ≡ true → at ≡ state.Idle
unfolding is_valid
query_at state.Idle valid = refl
query_at at valid = absurd (cc)

multiplex_at : (at : ConnectionState) → is_valid command.Multiplex at ≡ true → at ≡ state.Idle
unfolding is_valid
multiplex_at state.Idle valid = refl
multiplex_at at valid = absurd (cc)

query_next : (b : Bool) → next_of command.Query state.Idle (response_name (cond b said.QueriedExists said.QueriedNotFound)) ≡ Some (state.Idle, Original)
unfolding next_of
query_next true = refl
query_next false = refl

multiplex_next : next_of command.Multiplex state.Idle (response_name said.CantMultiplex) ≡ Some (state.Idle, Original)
unfolding next_of
multiplex_next = refl

pub query_whole : (superior : List ℕ) (c : Connection) (w : Work) → Whole w.state → connection_of c.number w.state ≡ Some c → c.side ≡ Secondary → is_valid command.Query c.state ≡ true → AllWhole (serve (commands.Query superior) c w)
unfolding query
query_whole superior c w whole there side valid =
    let at = query_at c.state valid in
    let b = option_map_or exists (identified_by superior w.state) false in
    replied_idle c w whole there side (ap is_early at) command.Query (cond b said.QueriedExists said.QueriedNotFound) (ap (λ s. next_of command.Query s (response_name (cond b said.QueriedExists said.QueriedNotFound))) at ∙ query_next b)

pub multiplex_whole : (protocol : List ℕ) (c : Connection) (w : Work) → Whole w.state → connection_of c.number w.state ≡ Some c → c.side ≡ Secondary → is_valid command.Multiplex c.state ≡ true → AllWhole (serve (commands.Multiplex protocol) c w)
multiplex_whole protocol c w whole there side valid =
    let at = multiplex_at c.state valid in
    replied_idle c w whole there side (ap is_early at) command.Multiplex said.CantMultiplex (ap (λ s. next_of command.Multiplex s (response_name said.CantMultiplex)) at ∙ multiplex_next)

-- TLS and IDENTIFY

tls_at : (at : ConnectionState) → is_valid command.Tls at ≡ true → at ≡ state.Initial
unfolding is_valid
tls_at state.Initial valid = refl
tls_at at valid = absurd (cc)

identify_at : (at : ConnectionState) → is_valid command.Identify at ≡ true → at ≡ state.Initial
unfolding is_valid
identify_at state.Initial valid = refl
identify_at at valid = absurd (cc)

tls_next : next_of command.Tls state.Initial (response_name said.CantTls) ≡ Some (state.Initial, Keep)
unfolding next_of
tls_next = refl

pub identify_next : next_of command.Identify state.Initial response.Identified ≡ Some (state.Idle, Original)
unfolding next_of
identify_next = refl

module _ (c : Connection) (w : Work) (whole : Whole w.state) (there : connection_of c.number w.state ≡ Some c) (side : c.side ≡ Secondary) where
  abbrev initial : Connection
  initial = record c { state = state.Initial; owed = None; awaited = None }

  initial_stands : c.state ≡ state.Initial → c.role ≡ None → stands w.state initial ≡ true
  initial_stands at none =
      let known = known_there c w whole there side (ap is_early at) in
      let its_side : has_its_side initial ≡ true = subst (λ s. has_its_side (record c { state = s }) ≡ true) at known.side in
      and_from _ _ (and_from _ _ (and_from _ _ (and_from _ _ (acts_free w.state c c.side state.Initial c.role) its_side) (or_right _ _ (ap (λ s. is_on_none (link_on s initial)) side))) known.asks) known.placed

  pub tls_whole : is_valid command.Tls c.state ≡ true → AllWhole (serve commands.Tls c w)
  unfolding reply
  tls_whole valid =
      let at = tls_at c.state valid in
      let none = role_none c w whole there side (ap is_early at) in
      let is : advanced command.Tls (response_name said.CantTls) c ≡ initial = ap (λ place. advanced_to place c) (ap (λ s. next_of command.Tls s (response_name said.CantTls)) at ∙ tls_next) in
      alone_set (advanced command.Tls (response_name said.CantTls)) c w there none (ap (λ (d : Connection). d.role) is ∙ none) (ap (stands w.state) is ∙ initial_stands at none) whole

  pub identify_whole : (lowest highest : ℕ) (peer secondary : Option (List ℕ)) → is_valid command.Identify c.state ≡ true → Whole (identify lowest highest peer c w).state
  unfolding identify
  identify_whole lowest highest peer secondary valid =
      let at = identify_at c.state valid in
      let none = role_none c w whole there side (ap is_early at) in
      let is : advanced command.Identify response.Identified c ≡ advanced_to (Some (state.Idle, Original)) c = ap (λ place. advanced_to place c) (ap (λ s. next_of command.Identify s response.Identified) at ∙ identify_next) in
      either (λ v. Whole v.state) (nat_le lowest 3 && nat_le 3 highest) (change c.number (identified peer) (tell c.number (Say said.Identified) w)) (wrong c w)
      (alone_set (identified peer) c (tell c.number (Say said.Identified) w) there none (ap (λ (d : Connection). d.role) is) (ap (λ (d : Connection). stands w.state (record d { peer = peer })) is ∙ idle w.state (record c { peer = peer })) whole) (wrong_whole c w whole there)

  -- each command that is answered at once
  pub at_once_whole : (line : Command) → is_at_once line ≡ true → is_valid (name_of line) c.state ≡ true → AllWhole (serve line c w)
  at_once_whole (commands.Identify lowest highest peer secondary) is valid = identify_whole lowest highest peer peer valid
  at_once_whole (commands.Query superior) is valid = query_whole superior c w whole there side valid
  at_once_whole (commands.Multiplex protocol) is valid = multiplex_whole protocol c w whole there side valid
  at_once_whole commands.Tls is valid = tls_whole valid
  at_once_whole commands.Error is valid = closed_whole c w whole there
  at_once_whole line is valid = absurd (cc)
