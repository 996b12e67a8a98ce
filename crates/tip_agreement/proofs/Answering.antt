-- The responses of a subordinate leave a realm whole.
use Rattle.std.proofs.Common.{◌≡◌, Bool, true, false, ℕ, suc, zero, List, [], ◌∷◌, Option, Some, None, cond, refl, ap, subst, sym, ◌∙◌, inl, inr}
use Rattle.std.specs.Prelude.{◌&&◌, ◌||◌, not, is_some, length, nat_le, nat_lt}
use Rattle.std.specs.Option.{option_map_or}
use Rattle.std.proofs.lemmas.Bool.{and_from, and_parts, both_ways, not_from_false, or_left, or_right}
use Rattle.tip_rows.specs.Keys.{Key}
use Rattle.tip_line.specs.declared.command.CommandName.{CommandName}
use Rattle.tip_line.specs.declared.command.CommandName.TheVariants as command
use Rattle.tip_line.specs.declared.response.ResponseName.{ResponseName}
use Rattle.tip_line.specs.declared.response.ResponseName.TheVariants as response
use Rattle.tip_conn.specs.Table.{next_of}
use Rattle.tip_conn.specs.declared.state.Side.TheVariants.{Primary}
use Rattle.tip_conn.specs.declared.state.State.{State as ConnectionState}
use Rattle.tip_conn.specs.declared.state.State.TheVariants as state
use Rattle.tip_conn.specs.declared.state.Turn.TheVariants.{Keep, Original}
use Rattle.tip_table.specs.Lists.{changed}
use Rattle.tip_txn.specs.Parts.{acknowledged, answered, is_yes, named}
use Rattle.tip_txn.specs.declared.answer.Ballot.{Ballot}
use Rattle.tip_txn.specs.declared.answer.Ballot.TheVariants.{Yes, No, ReadOnly}
use Rattle.tip_txn.specs.declared.answer.Phase.{Phase}
use Rattle.tip_txn.specs.declared.answer.Phase.TheVariants.{Active, Asking, Prepared, Committed, Aborted}
use Rattle.tip_txn.specs.declared.part.Participant.{Participant}
use Rattle.tip_machine.specs.Invariants.Links.{is_early}
use Rattle.tip_machine.specs.Connections.{advanced, advanced_to, is_part_of, reaches, role_in}
use Rattle.tip_machine.specs.Invariants.Links.{Link, is_on_none, link, link_on}
use Rattle.tip_machine.specs.Invariants.Links.Link.{Gone, Owes, Awaits}
use Rattle.tip_machine.specs.Invariants.Phases.{has_pair, is_named, is_part, is_part_in, is_party, is_superior, may_have_acknowledged}
use Rattle.tip_machine.specs.Changes.{alter}
use Rattle.tip_machine.specs.Proceeding.{proceed}
use Rattle.tip_machine.specs.Responses.{go_on, note_as, proceed_as}
use Rattle.tip_machine.specs.States.{State, Work, connection_of, transaction_of}
use Rattle.tip_machine.specs.Transactions.{has_key, noting}
use Rattle.tip_machine.specs.Types.{Connection, Transaction}
use Rattle.tip_machine.specs.declared.connection.Awaited.{Awaited}
use Rattle.tip_machine.specs.declared.connection.Awaited.TheVariants as awaited
use Rattle.tip_machine.specs.declared.connection.Role.{Role}
use Rattle.tip_machine.specs.declared.connection.Role.TheVariants.{Superior, Subordinate}
use Rattle.tip_machine.specs.declared.transaction.Origin.{Origin}
use Rattle.tip_machine.specs.declared.transaction.Origin.TheVariants as origin
use Rattle.tip_agreement.proofs.Aborting.{may_abort}
use Rattle.tip_agreement.proofs.Around.{Whole, is_placed}
use Rattle.tip_agreement.proofs.Closing.{InTable, above_there, changed_none, in_table, known, part_of, part_there, stands_there}
use Rattle.tip_agreement.proofs.Deciding.{may_commit}
use Rattle.tip_agreement.proofs.Keys.{key_self}
use Rattle.tip_agreement.proofs.Owned.{key_found, place_self}
use Rattle.tip_agreement.proofs.Proceeding.{AllWhole, may_ask}
use Rattle.tip_agreement.proofs.Reacting.{Standing, acts_free, idle}
use Rattle.tip_agreement.proofs.Responding.{Becomes, is_going, noted_whole, part_before}
use Rattle.tip_agreement.proofs.Sound.{PartAt, part_held}

-- what only a subordinate answers
abbrev pub is_partly : Awaited → Bool
is_partly (awaited.Identify purpose) = false
is_partly awaited.Push = true
is_partly awaited.Pull = false
is_partly awaited.Prepare = true
is_partly awaited.Commit = true
is_partly awaited.Abort = true
is_partly (awaited.Query key) = false
is_partly awaited.Reconnect = true

none_awaits : (at : ConnectionState) (a : Awaited) → is_on_none (Awaits at (Some a)) ≡ true → is_partly a ≡ false
none_awaits state.Initial (awaited.Identify purpose) is = refl
none_awaits state.Idle (awaited.Query key) is = refl
none_awaits at a is = absurd (cc)

abbrev awaits_part : Link → Bool
awaits_part (Awaits at (Some a)) = is_partly a
awaits_part other = false

active_awaits : (from : Origin) (link : Link) → is_superior Active from link ≡ true → awaits_part link ≡ false
active_awaits origin.Root (Owes state.Begun None) is = refl
active_awaits (origin.Subordinate address superior) (Awaits state.Idle (Some awaited.Pull)) is = refl
active_awaits (origin.Subordinate address superior) (Owes state.Enlisted None) is = refl
active_awaits from link is = absurd (cc)

asking_awaits : (from : Origin) (link : Link) → is_superior Asking from link ≡ true → awaits_part link ≡ false
asking_awaits origin.Root (Owes state.Begun (Some command.Commit)) is = refl
asking_awaits (origin.Subordinate (Some address) superior) (Owes state.Enlisted (Some command.Prepare)) is = refl
asking_awaits (origin.Subordinate address superior) (Owes state.Enlisted (Some command.Commit)) is = refl
asking_awaits from link is = absurd (cc)

prepared_awaits : (from : Origin) (link : Link) → is_superior Prepared from link ≡ true → awaits_part link ≡ false
prepared_awaits (origin.Subordinate (Some address) superior) (Owes state.Prepared None) is = refl
prepared_awaits (origin.Subordinate (Some address) superior) Gone is = refl
prepared_awaits from link is = absurd (cc)

committed_awaits : (from : Origin) (link : Link) → is_superior Committed from link ≡ true → awaits_part link ≡ false
committed_awaits from Gone is = refl
committed_awaits from link is = absurd (cc)

aborted_awaits : (from : Origin) (link : Link) → is_superior Aborted from link ≡ true → awaits_part link ≡ false
aborted_awaits origin.Root (Owes state.Begun None) is = refl
aborted_awaits (origin.Subordinate address superior) (Awaits state.Idle (Some awaited.Pull)) is = refl
aborted_awaits (origin.Subordinate address superior) (Owes state.Enlisted None) is = refl
aborted_awaits from Gone is = refl
aborted_awaits from link is = absurd (cc)

above_awaits : (phase : Phase) (from : Origin) (link : Link) → is_superior phase from link ≡ true → awaits_part link ≡ false
above_awaits Active from link is = active_awaits from link is
above_awaits Asking from link is = asking_awaits from link is
above_awaits Prepared from link is = prepared_awaits from link is
above_awaits Committed from link is = committed_awaits from link is
above_awaits Aborted from link is = aborted_awaits from link is

-- the part whose connection it is
pub record PartOf (c : Connection) (s : State) : Type 0 where
  pub transaction : Transaction
  pub place : ℕ
  pub found : transaction_of transaction.key s ≡ Some transaction
  pub on : c.role ≡ Some (Subordinate transaction.key (suc place))
  pub held : PartAt (is_part_in transaction.phase) (link (Some c))

module _ (c : Connection) (w : Work) (whole : Whole w.state) (there : connection_of c.number w.state ≡ Some c) (a : Awaited) (side : c.side ≡ Primary) (waits : c.awaited ≡ Some a) (partly : is_partly a ≡ true) where
  stood : Standing w.state c
  stood = stands_there c w whole there

  pub link_now : link (Some c) ≡ Awaits c.state (Some a)
  link_now = ap (λ side. link_on side c) side ∙ ap (Awaits c.state) waits

  never_alone : c.role ≡ None → ⊥
  never_alone none = both_ways (is_partly a) (none_awaits c.state a (subst (λ l. is_on_none l ≡ true) link_now (subst (λ r. is_some r || is_on_none (link_on c.side c) ≡ true) none stood.free))) partly

  never_above : (key : Key) (found : Option Transaction) → transaction_of key w.state ≡ found → is_some found ≡ true → c.role ≡ Some (Superior key) → ⊥
  never_above key None is some role = cc
  never_above key (Some t) is some role =
      let fits = (known key t c w whole there is).owned.above in
      let above : is_superior t.phase t.origin (Awaits c.state (Some a)) ≡ true = subst (λ l. is_superior t.phase t.origin l ≡ true) (ap link (above_there key t c w whole there is role) ∙ link_now) fits in
      both_ways (is_partly a) (above_awaits t.phase t.origin (Awaits c.state (Some a)) above) partly

  its_part : (key : Key) (place : ℕ) (found : Option Transaction) → transaction_of key w.state ≡ found → nat_le 1 place && option_map_or (λ (t : Transaction). nat_lt place (length t.parts)) found false ≡ true → c.role ≡ Some (Subordinate key place) → PartOf c w.state
  its_part key place None is range role = absurd (both_ways false refl (and_parts (nat_le 1 place) false range).1)
  its_part key zero (Some t) is range role = absurd (cc)
  its_part key (suc m) (Some t) is range role =
      let same = key_found key t w.state is in
      let found = subst (λ k. transaction_of k w.state ≡ Some t) same is in
      let on = subst (λ k. c.role ≡ Some (Subordinate k (suc m))) same role in
      let parts = and_parts (nat_le 1 (suc m)) (nat_lt (suc m) (length t.parts)) range in
      let held = part_held (is_part_in t.phase) (is_party t.phase) t.place (suc m) t.parts t.key w.state.connections parts.0 parts.1 (part_of m t c w whole there found on).owned.parts in
      record { transaction = t; place = m; found = found; on = on; held = subst (λ o. PartAt (is_part_in t.phase) (link o)) (part_there m t c w whole there found on) held }

  part_known : (role : Option Role) → c.role ≡ role → is_placed w.state role ≡ true → PartOf c w.state
  part_known None role placed = absurd (never_alone role)
  part_known (Some (Superior key)) role placed = absurd (never_above key (transaction_of key w.state) refl placed role)
  part_known (Some (Subordinate key place)) role placed = its_part key place (transaction_of key w.state) refl placed role

  pub part_now : PartOf c w.state
  part_now = part_known c.role refl stood.placed

either_true : (b : Bool) → b || false ≡ true → b ≡ true
either_true true is = refl
either_true false is = is

-- What becomes of a connection by the table

leaves : (c : Connection) (s : State) → Becomes s c (advanced_to (Some (state.Idle, Original)) c)
leaves c s = record { role = inr refl; stand = idle s c }

leave_link : (key : Key) (place : ℕ) (c d : Connection) → d ≡ advanced_to (Some (state.Idle, Original)) c → link (cond (is_part_of key place d) (Some d) None) ≡ Gone
leave_link key place c d is = subst (λ e. link (cond (is_part_of key place e) (Some e) None) ≡ Gone) (sym is) refl

-- A response with which the subordinate leaves
module _ (a : Awaited) (command : CommandName) (response : ResponseName) (note : Participant → Participant) (goes : (phase : Phase) (at : ConnectionState) (answer : Option Ballot) → is_part phase (Awaits at (Some a)) answer ≡ true → (next_of command at response ≡ Some (state.Idle, Original)) × (is_going phase ≡ true)) (fits : (phase : Phase) (at : ConnectionState) (part : Participant) → InTable phase (Awaits at (Some a)) part → part_before phase Gone (note part) ≡ true) (same : (answer : Option Ballot) (at : ConnectionState) → is_part Committed (Awaits at (Some a)) answer ≡ true → (p : Participant) → (note p).answer ≡ p.answer) where
  pub leaving_whole : (c : Connection) (w : Work) → Whole w.state → connection_of c.number w.state ≡ Some c → c.side ≡ Primary → c.awaited ≡ Some a → is_partly a ≡ true → AllWhole (note_as c.role note (go_on command response c w))
  leaving_whole c w whole there side waits partly =
      let part = part_now c w whole there a side waits partly in
      let t = part.transaction in
      let now = link_now c w whole there a side waits partly in
      let held = in_table t.phase (Awaits c.state (Some a)) part.held.part (subst (λ l. is_part_in t.phase l part.held.part ≡ true) now part.held.holds) in
      let row = goes t.phase c.state part.held.part.answer held.fits in
      let is : advanced command response c ≡ advanced_to (Some (state.Idle, Original)) c = ap (λ place. advanced_to place c) row.0 in
      subst (λ r. AllWhole (note_as r note (go_on command response c w))) (sym part.on)
      (noted_whole part.place t c w whole there part.found part.on (advanced command response) (subst (Becomes w.state c) (sym is) (leaves c w.state)) note Gone (leave_link t.key (suc part.place) c (advanced command response c) is) row.1
      (λ p is. fits t.phase c.state p (in_table t.phase (Awaits c.state (Some a)) p (subst (λ l. is_part_in t.phase l p ≡ true) now is)))
      (λ committed. same part.held.part.answer c.state (subst (λ f. is_part f (Awaits c.state (Some a)) part.held.part.answer ≡ true) committed held.fits)))

-- PUSH is refused, or was known

pub push_goes : (response : ResponseName) → next_of command.Push state.Idle response ≡ Some (state.Idle, Original) → (phase : Phase) (at : ConnectionState) (answer : Option Ballot) → is_part phase (Awaits at (Some awaited.Push)) answer ≡ true → (next_of command.Push at response ≡ Some (state.Idle, Original)) × (is_going phase ≡ true)
push_goes response next Active state.Idle None is = (next, refl)
push_goes response next Asking state.Idle None is = (next, refl)
push_goes response next Aborted state.Idle None is = (next, refl)
push_goes response next Prepared state.Idle answer is = absurd (cc)
push_goes response next Committed state.Idle answer is = absurd (cc)
push_goes response next phase at answer is = absurd (cc)

push_fits : (phase : Phase) (at : ConnectionState) (answer : Option Ballot) (part : Participant) → is_part phase (Awaits at (Some awaited.Push)) answer ≡ true → not part.acknowledged || may_have_acknowledged phase (Awaits at (Some awaited.Push)) answer ≡ true → part_before phase Gone (answered ReadOnly part) ≡ true
push_fits Active state.Idle None part is told = and_from _ _ told refl
push_fits Asking state.Idle None part is told = and_from _ _ (either_true (not part.acknowledged) told) refl
push_fits Aborted state.Idle None part is told = and_from _ _ (either_true (not part.acknowledged) told) refl
push_fits Prepared state.Idle answer part is told = absurd (cc)
push_fits Committed state.Idle answer part is told = absurd (cc)
push_fits phase at answer part is told = absurd (cc)

pub never_pushed : (at : ConnectionState) (answer : Option Ballot) → is_part Committed (Awaits at (Some awaited.Push)) answer ≡ true → ⊥
never_pushed state.Idle answer is = cc
never_pushed at answer is = cc

pub already_next : next_of command.Push state.Idle response.AlreadyPushed ≡ Some (state.Idle, Original)
unfolding next_of
already_next = refl

pub not_pushed_next : next_of command.Push state.Idle response.NotPushed ≡ Some (state.Idle, Original)
unfolding next_of
not_pushed_next = refl

pub already_pushed_whole : (c : Connection) (w : Work) → Whole w.state → connection_of c.number w.state ≡ Some c → c.side ≡ Primary → c.awaited ≡ Some awaited.Push → AllWhole (note_as c.role (answered ReadOnly) (go_on command.Push response.AlreadyPushed c w))
already_pushed_whole c w whole there side waits = leaving_whole awaited.Push command.Push response.AlreadyPushed (answered ReadOnly) (push_goes response.AlreadyPushed already_next) (λ phase at part in_it. push_fits phase at part.answer part in_it.fits in_it.told) (λ answer at is. absurd (never_pushed at answer is)) c w whole there side waits refl

pub not_pushed_whole : (c : Connection) (w : Work) → Whole w.state → connection_of c.number w.state ≡ Some c → c.side ≡ Primary → c.awaited ≡ Some awaited.Push → AllWhole (note_as c.role (answered ReadOnly) (go_on command.Push response.NotPushed c w))
not_pushed_whole c w whole there side waits = leaving_whole awaited.Push command.Push response.NotPushed (answered ReadOnly) (push_goes response.NotPushed not_pushed_next) (λ phase at part in_it. push_fits phase at part.answer part in_it.fits in_it.told) (λ answer at is. absurd (never_pushed at answer is)) c w whole there side waits refl

-- PREPARE is refused, or there is nothing to commit

pub prepare_goes : (response : ResponseName) → next_of command.Prepare state.Enlisted response ≡ Some (state.Idle, Original) → (phase : Phase) (at : ConnectionState) (answer : Option Ballot) → is_part phase (Awaits at (Some awaited.Prepare)) answer ≡ true → (next_of command.Prepare at response ≡ Some (state.Idle, Original)) × (is_going phase ≡ true)
prepare_goes response next Asking state.Enlisted None is = (next, refl)
prepare_goes response next Aborted state.Enlisted None is = (next, refl)
prepare_goes response next Active state.Idle answer is = absurd (cc)
prepare_goes response next Prepared state.Idle answer is = absurd (cc)
prepare_goes response next Committed state.Idle answer is = absurd (cc)
prepare_goes response next phase at answer is = absurd (cc)

prepare_fits : (ballot : Ballot) → may_ask Gone (Some ballot) ≡ true → is_yes (Some ballot) ≡ false → (phase : Phase) (at : ConnectionState) (answer : Option Ballot) (part : Participant) → is_part phase (Awaits at (Some awaited.Prepare)) answer ≡ true → not part.acknowledged || may_have_acknowledged phase (Awaits at (Some awaited.Prepare)) answer ≡ true → part_before phase Gone (answered ballot part) ≡ true
prepare_fits ballot asked other Asking state.Enlisted None part is told = and_from _ _ (and_from _ _ asked (either_true (not part.acknowledged) told)) (or_left _ _ (not_from_false _ other))
prepare_fits ballot asked other Aborted state.Enlisted None part is told = and_from _ _ (either_true (not part.acknowledged) told) (or_left _ _ (not_from_false _ other))
prepare_fits ballot asked other Active state.Idle answer part is told = absurd (cc)
prepare_fits ballot asked other Prepared state.Idle answer part is told = absurd (cc)
prepare_fits ballot asked other Committed state.Idle answer part is told = absurd (cc)
prepare_fits ballot asked other phase at answer part is told = absurd (cc)

pub never_asked : (at : ConnectionState) (answer : Option Ballot) → is_part Committed (Awaits at (Some awaited.Prepare)) answer ≡ true → ⊥
never_asked state.Idle answer is = cc
never_asked at answer is = cc

pub aborted_next : next_of command.Prepare state.Enlisted response.Aborted ≡ Some (state.Idle, Original)
unfolding next_of
aborted_next = refl

read_only_next : next_of command.Prepare state.Enlisted response.ReadOnly ≡ Some (state.Idle, Original)
unfolding next_of
read_only_next = refl

pub refused_whole : (c : Connection) (w : Work) → Whole w.state → connection_of c.number w.state ≡ Some c → c.side ≡ Primary → c.awaited ≡ Some awaited.Prepare → AllWhole (note_as c.role (answered No) (go_on command.Prepare response.Aborted c w))
refused_whole c w whole there side waits = leaving_whole awaited.Prepare command.Prepare response.Aborted (answered No) (prepare_goes response.Aborted aborted_next) (λ phase at part in_it. prepare_fits No refl refl phase at part.answer part in_it.fits in_it.told) (λ answer at is. absurd (never_asked at answer is)) c w whole there side waits refl

pub read_only_whole : (c : Connection) (w : Work) → Whole w.state → connection_of c.number w.state ≡ Some c → c.side ≡ Primary → c.awaited ≡ Some awaited.Prepare → AllWhole (note_as c.role (answered ReadOnly) (go_on command.Prepare response.ReadOnly c w))
read_only_whole c w whole there side waits = leaving_whole awaited.Prepare command.Prepare response.ReadOnly (answered ReadOnly) (prepare_goes response.ReadOnly read_only_next) (λ phase at part in_it. prepare_fits ReadOnly refl refl phase at part.answer part in_it.fits in_it.told) (λ answer at is. absurd (never_asked at answer is)) c w whole there side waits refl

-- COMMIT is acknowledged, or the subordinate knows no such transaction any more

told_gone : (part : Participant) → part.answer ≡ Some Yes → has_pair part ≡ true → part_before Committed Gone (acknowledged part) ≡ true
told_gone part same pair = and_from _ _ (and_from _ _ (ap (may_commit Gone) same) (ap (may_have_acknowledged Committed Gone) same)) (or_right _ _ pair)

pub commit_goes : next_of command.Commit state.Prepared response.Committed ≡ Some (state.Idle, Original) → (phase : Phase) (at : ConnectionState) (answer : Option Ballot) → is_part phase (Awaits at (Some awaited.Commit)) answer ≡ true → (next_of command.Commit at response.Committed ≡ Some (state.Idle, Original)) × (is_going phase ≡ true)
commit_goes next Committed state.Prepared (Some Yes) is = (next, refl)
commit_goes next Active state.Idle answer is = absurd (cc)
commit_goes next Asking state.Idle answer is = absurd (cc)
commit_goes next Prepared state.Idle answer is = absurd (cc)
commit_goes next Aborted state.Idle answer is = absurd (cc)
commit_goes next phase at answer is = absurd (cc)

commit_fits : (phase : Phase) (at : ConnectionState) (answer : Option Ballot) (part : Participant) → part.answer ≡ answer → is_part phase (Awaits at (Some awaited.Commit)) answer ≡ true → is_named (Awaits at (Some awaited.Commit)) part ≡ true → part_before phase Gone (acknowledged part) ≡ true
commit_fits Committed state.Prepared (Some Yes) part same is pair = told_gone part same pair
commit_fits Active state.Idle answer part same is pair = absurd (cc)
commit_fits Asking state.Idle answer part same is pair = absurd (cc)
commit_fits Prepared state.Idle answer part same is pair = absurd (cc)
commit_fits Aborted state.Idle answer part same is pair = absurd (cc)
commit_fits phase at answer part same is pair = absurd (cc)

pub reconnect_goes : next_of command.Reconnect state.Idle response.NotReconnected ≡ Some (state.Idle, Original) → (phase : Phase) (at : ConnectionState) (answer : Option Ballot) → is_part phase (Awaits at (Some awaited.Reconnect)) answer ≡ true → (next_of command.Reconnect at response.NotReconnected ≡ Some (state.Idle, Original)) × (is_going phase ≡ true)
reconnect_goes next Committed state.Idle (Some Yes) is = (next, refl)
reconnect_goes next Active state.Idle answer is = absurd (cc)
reconnect_goes next Asking state.Idle answer is = absurd (cc)
reconnect_goes next Prepared state.Idle answer is = absurd (cc)
reconnect_goes next Aborted state.Idle answer is = absurd (cc)
reconnect_goes next phase at answer is = absurd (cc)

reconnect_fits : (phase : Phase) (at : ConnectionState) (answer : Option Ballot) (part : Participant) → part.answer ≡ answer → is_part phase (Awaits at (Some awaited.Reconnect)) answer ≡ true → is_named (Awaits at (Some awaited.Reconnect)) part ≡ true → part_before phase Gone (acknowledged part) ≡ true
reconnect_fits Committed state.Idle (Some Yes) part same is pair = told_gone part same pair
reconnect_fits Active state.Idle answer part same is pair = absurd (cc)
reconnect_fits Asking state.Idle answer part same is pair = absurd (cc)
reconnect_fits Prepared state.Idle answer part same is pair = absurd (cc)
reconnect_fits Aborted state.Idle answer part same is pair = absurd (cc)
reconnect_fits phase at answer part same is pair = absurd (cc)

pub committed_next : next_of command.Commit state.Prepared response.Committed ≡ Some (state.Idle, Original)
unfolding next_of
committed_next = refl

pub not_reconnected_next : next_of command.Reconnect state.Idle response.NotReconnected ≡ Some (state.Idle, Original)
unfolding next_of
not_reconnected_next = refl

pub committed_so : (c : Connection) (w : Work) → Whole w.state → connection_of c.number w.state ≡ Some c → c.side ≡ Primary → c.awaited ≡ Some awaited.Commit → AllWhole (note_as c.role acknowledged (go_on command.Commit response.Committed c w))
committed_so c w whole there side waits = leaving_whole awaited.Commit command.Commit response.Committed acknowledged (commit_goes committed_next) (λ phase at part in_it. commit_fits phase at part.answer part refl in_it.fits in_it.named) (λ answer at is p. refl) c w whole there side waits refl

pub not_reconnected_whole : (c : Connection) (w : Work) → Whole w.state → connection_of c.number w.state ≡ Some c → c.side ≡ Primary → c.awaited ≡ Some awaited.Reconnect → AllWhole (note_as c.role acknowledged (go_on command.Reconnect response.NotReconnected c w))
not_reconnected_whole c w whole there side waits = leaving_whole awaited.Reconnect command.Reconnect response.NotReconnected acknowledged (reconnect_goes not_reconnected_next) (λ phase at part in_it. reconnect_fits phase at part.answer part refl in_it.fits in_it.named) (λ answer at is p. refl) c w whole there side waits refl

-- A response with which the subordinate stays

stay_link : (key : Key) (place : ℕ) (at : ConnectionState) (c d : Connection) → d ≡ record c { state = at; owed = None; awaited = None } → c.role ≡ Some (Subordinate key place) → c.side ≡ Primary → link (cond (is_part_of key place d) (Some d) None) ≡ Awaits at None
stay_link key place at c d is role side = subst (λ e. link (cond (is_part_of key place e) (Some e) None) ≡ Awaits at None) (sym is) (subst (λ b. link (cond b (Some (record c { state = at; owed = None; awaited = None })) None) ≡ Awaits at None) (sym (ap (reaches key place) role ∙ and_from _ _ (key_self key) (place_self place))) (ap (λ side. link_on side (record c { state = at; owed = None; awaited = None })) side))

module _ (a : Awaited) (command : CommandName) (response : ResponseName) (next : ConnectionState) (late : is_early next ≡ false) (lasting : (role : Option Role) → role_in next role ≡ role) (note : Participant → Participant) (goes : (phase : Phase) (at : ConnectionState) (answer : Option Ballot) → is_part phase (Awaits at (Some a)) answer ≡ true → (next_of command at response ≡ Some (next, Keep)) × (is_going phase ≡ true)) (fits : (phase : Phase) (at : ConnectionState) (part : Participant) → InTable phase (Awaits at (Some a)) part → part_before phase (Awaits next None) (note part) ≡ true) (same : (answer : Option Ballot) (at : ConnectionState) → is_part Committed (Awaits at (Some a)) answer ≡ true → (p : Participant) → (note p).answer ≡ p.answer) where
  stays_so : (c : Connection) (s : State) → Standing s c → is_some c.role ≡ true → Becomes s c (record c { state = next; owed = None; awaited = None })
  stays_so c s known on = record { role = inl refl; stand = and_from _ _ (and_from _ _ (and_from _ _ (and_from _ _ (acts_free s c c.side next c.role) (or_left _ _ (not_from_false _ late))) (or_left _ _ on)) known.asks) known.placed }

  pub staying_whole : (c : Connection) (w : Work) → Whole w.state → connection_of c.number w.state ≡ Some c → c.side ≡ Primary → c.awaited ≡ Some a → is_partly a ≡ true → AllWhole (note_as c.role note (go_on command response c w))
  staying_whole c w whole there side waits partly =
      let part = part_now c w whole there a side waits partly in
      let t = part.transaction in
      let now = link_now c w whole there a side waits partly in
      let held = in_table t.phase (Awaits c.state (Some a)) part.held.part (subst (λ l. is_part_in t.phase l part.held.part ≡ true) now part.held.holds) in
      let row = goes t.phase c.state part.held.part.answer held.fits in
      let is : advanced command response c ≡ record c { state = next; owed = None; awaited = None } = ap (λ place. advanced_to place c) row.0 ∙ ap (λ role. record c { state = next; owed = None; awaited = None; role = role }) (lasting c.role) in
      subst (λ r. AllWhole (note_as r note (go_on command response c w))) (sym part.on)
      (noted_whole part.place t c w whole there part.found part.on (advanced command response) (subst (Becomes w.state c) (sym is) (stays_so c w.state (stood c w whole there a side waits partly) (ap is_some part.on))) note (Awaits next None) (stay_link t.key (suc part.place) next c (advanced command response c) is part.on side) row.1
      (λ p is. fits t.phase c.state p (in_table t.phase (Awaits c.state (Some a)) p (subst (λ l. is_part_in t.phase l p ≡ true) now is)))
      (λ committed. same part.held.part.answer c.state (subst (λ f. is_part f (Awaits c.state (Some a)) part.held.part.answer ≡ true) committed held.fits)))

-- PUSHED: the part says its identifier

pushed_goes : next_of command.Push state.Idle response.Pushed ≡ Some (state.Enlisted, Keep) → (phase : Phase) (at : ConnectionState) (answer : Option Ballot) → is_part phase (Awaits at (Some awaited.Push)) answer ≡ true → (next_of command.Push at response.Pushed ≡ Some (state.Enlisted, Keep)) × (is_going phase ≡ true)
pushed_goes next Active state.Idle None is = (next, refl)
pushed_goes next Asking state.Idle None is = (next, refl)
pushed_goes next Aborted state.Idle None is = (next, refl)
pushed_goes next Prepared state.Idle answer is = absurd (cc)
pushed_goes next Committed state.Idle answer is = absurd (cc)
pushed_goes next phase at answer is = absurd (cc)

pushed_fits : (id : List ℕ) (phase : Phase) (at : ConnectionState) (answer : Option Ballot) (part : Participant) → part.answer ≡ answer → is_part phase (Awaits at (Some awaited.Push)) answer ≡ true → not part.acknowledged || may_have_acknowledged phase (Awaits at (Some awaited.Push)) answer ≡ true → is_named (Awaits at (Some awaited.Push)) part ≡ true → part_before phase (Awaits state.Enlisted None) (named id part) ≡ true
pushed_fits id Active state.Idle None part same is told address = and_from _ _ (and_from _ _ (ap (is_part Active (Awaits state.Enlisted None)) same) (or_left _ _ (either_true (not part.acknowledged) told))) (and_from _ _ address refl)
pushed_fits id Asking state.Idle None part same is told address = and_from _ _ (and_from _ _ (ap (may_ask (Awaits state.Enlisted None)) same) (either_true (not part.acknowledged) told)) (and_from _ _ address refl)
pushed_fits id Aborted state.Idle None part same is told address = and_from _ _ (and_from _ _ (ap (may_abort (Awaits state.Enlisted None)) same) (either_true (not part.acknowledged) told)) (and_from _ _ address refl)
pushed_fits id Prepared state.Idle answer part same is told address = absurd (cc)
pushed_fits id Committed state.Idle answer part same is told address = absurd (cc)
pushed_fits id phase at answer part same is told address = absurd (cc)

pub pushed_next : next_of command.Push state.Idle response.Pushed ≡ Some (state.Enlisted, Keep)
unfolding next_of
pushed_next = refl

pub pushed_whole : (id : List ℕ) (c : Connection) (w : Work) → Whole w.state → connection_of c.number w.state ≡ Some c → c.side ≡ Primary → c.awaited ≡ Some awaited.Push → AllWhole (note_as c.role (named id) (go_on command.Push response.Pushed c w))
pushed_whole id c w whole there side waits = staying_whole awaited.Push command.Push response.Pushed state.Enlisted refl (λ role. refl) (named id) (pushed_goes pushed_next) (λ phase at part in_it. pushed_fits id phase at part.answer part refl in_it.fits in_it.told in_it.named) (λ answer at is p. refl) c w whole there side waits refl

-- PREPARED: the part says yes

prepared_goes : next_of command.Prepare state.Enlisted response.Prepared ≡ Some (state.Prepared, Keep) → (phase : Phase) (at : ConnectionState) (answer : Option Ballot) → is_part phase (Awaits at (Some awaited.Prepare)) answer ≡ true → (next_of command.Prepare at response.Prepared ≡ Some (state.Prepared, Keep)) × (is_going phase ≡ true)
prepared_goes next Asking state.Enlisted None is = (next, refl)
prepared_goes next Aborted state.Enlisted None is = (next, refl)
prepared_goes next Active state.Idle answer is = absurd (cc)
prepared_goes next Prepared state.Idle answer is = absurd (cc)
prepared_goes next Committed state.Idle answer is = absurd (cc)
prepared_goes next phase at answer is = absurd (cc)

prepared_fits : (phase : Phase) (at : ConnectionState) (answer : Option Ballot) (part : Participant) → is_part phase (Awaits at (Some awaited.Prepare)) answer ≡ true → not part.acknowledged || may_have_acknowledged phase (Awaits at (Some awaited.Prepare)) answer ≡ true → is_named (Awaits at (Some awaited.Prepare)) part ≡ true → part_before phase (Awaits state.Prepared None) (answered Yes part) ≡ true
prepared_fits Asking state.Enlisted None part is told pair = and_from _ _ (either_true (not part.acknowledged) told) pair
prepared_fits Aborted state.Enlisted None part is told pair = and_from _ _ (either_true (not part.acknowledged) told) pair
prepared_fits Active state.Idle answer part is told pair = absurd (cc)
prepared_fits Prepared state.Idle answer part is told pair = absurd (cc)
prepared_fits Committed state.Idle answer part is told pair = absurd (cc)
prepared_fits phase at answer part is told pair = absurd (cc)

prepared_next : next_of command.Prepare state.Enlisted response.Prepared ≡ Some (state.Prepared, Keep)
unfolding next_of
prepared_next = refl

pub prepared_whole : (c : Connection) (w : Work) → Whole w.state → connection_of c.number w.state ≡ Some c → c.side ≡ Primary → c.awaited ≡ Some awaited.Prepare → AllWhole (note_as c.role (answered Yes) (go_on command.Prepare response.Prepared c w))
prepared_whole c w whole there side waits = staying_whole awaited.Prepare command.Prepare response.Prepared state.Prepared refl (λ role. refl) (answered Yes) (prepared_goes prepared_next) (λ phase at part in_it. prepared_fits phase at part.answer part in_it.fits in_it.told in_it.named) (λ answer at is. absurd (never_asked at answer is)) c w whole there side waits refl

-- ABORT is acknowledged, or a subordinate is there again: nothing is noted

noting_none : (m : ℕ) (t : Transaction) → noting m (λ p. p) t ≡ t
noting_none m t = λ i. record t { parts = changed_none m t.parts i }

changed_still : (test : Transaction → Bool) (f : Transaction → Transaction) (ts : List Transaction) → ((t : Transaction) → f t ≡ t) → changed test f ts ≡ ts
changed_still test f [] same = refl
changed_still test f (t ∷ ts) same = step (test t) (changed_still test f ts same) where
  step : (b : Bool) → changed test f ts ≡ ts → cond b (f t ∷ ts) (t ∷ changed test f ts) ≡ t ∷ ts
  step true rest = ap (λ u. u ∷ ts) (same t)
  step false rest = ap (λ us. t ∷ us) rest

alter_none : (key : Key) (m : ℕ) (w : Work) → alter key (noting m (λ p. p)) w ≡ w
alter_none key m w = λ i. record w { state = record w.state { transactions = changed_still (has_key key) (noting m (λ p. p)) w.state.transactions (noting_none m) i } }

-- what is noted as it was, goes on as it was
unnoted : (role : Option Role) (key : Key) (place : ℕ) (v : Work) → role ≡ Some (Subordinate key place) → AllWhole (note_as role (λ p. p) v) → AllWhole (proceed_as role v)
unnoted role key place v is whole = subst (λ r. AllWhole (proceed_as r v)) (sym is) (subst (λ u. AllWhole (proceed key u)) (alter_none key place v) (subst (λ r. AllWhole (note_as r (λ p. p) v)) is whole))

abort_goes : next_of command.Abort state.Enlisted response.Aborted ≡ Some (state.Idle, Original) → next_of command.Abort state.Prepared response.Aborted ≡ Some (state.Idle, Original) → (phase : Phase) (at : ConnectionState) (answer : Option Ballot) → is_part phase (Awaits at (Some awaited.Abort)) answer ≡ true → (next_of command.Abort at response.Aborted ≡ Some (state.Idle, Original)) × (is_going phase ≡ true)
abort_goes first last Aborted state.Enlisted None is = (first, refl)
abort_goes first last Aborted state.Prepared (Some Yes) is = (last, refl)
abort_goes first last Active state.Idle answer is = absurd (cc)
abort_goes first last Asking state.Idle answer is = absurd (cc)
abort_goes first last Prepared state.Idle answer is = absurd (cc)
abort_goes first last Committed state.Idle answer is = absurd (cc)
abort_goes first last phase at answer is = absurd (cc)

abort_fits : (phase : Phase) (at : ConnectionState) (answer : Option Ballot) (part : Participant) → part.answer ≡ answer → is_part phase (Awaits at (Some awaited.Abort)) answer ≡ true → not part.acknowledged || may_have_acknowledged phase (Awaits at (Some awaited.Abort)) answer ≡ true → is_named (Awaits at (Some awaited.Abort)) part ≡ true → part_before phase Gone part ≡ true
abort_fits Aborted state.Enlisted None part same is told pair = and_from _ _ (either_true (not part.acknowledged) told) (or_left _ _ (not_from_false _ (ap is_yes same)))
abort_fits Aborted state.Prepared (Some Yes) part same is told pair = and_from _ _ (either_true (not part.acknowledged) told) (or_right _ _ pair)
abort_fits Active state.Idle answer part same is told pair = absurd (cc)
abort_fits Asking state.Idle answer part same is told pair = absurd (cc)
abort_fits Prepared state.Idle answer part same is told pair = absurd (cc)
abort_fits Committed state.Idle answer part same is told pair = absurd (cc)
abort_fits phase at answer part same is told pair = absurd (cc)

abort_enlisted_next : next_of command.Abort state.Enlisted response.Aborted ≡ Some (state.Idle, Original)
unfolding next_of
abort_enlisted_next = refl

abort_prepared_next : next_of command.Abort state.Prepared response.Aborted ≡ Some (state.Idle, Original)
unfolding next_of
abort_prepared_next = refl

pub aborted_so : (c : Connection) (w : Work) → Whole w.state → connection_of c.number w.state ≡ Some c → c.side ≡ Primary → c.awaited ≡ Some awaited.Abort → AllWhole (proceed_as c.role (go_on command.Abort response.Aborted c w))
aborted_so c w whole there side waits =
    let part = part_now c w whole there awaited.Abort side waits refl in
    unnoted c.role part.transaction.key (suc part.place) (go_on command.Abort response.Aborted c w) part.on
    (leaving_whole awaited.Abort command.Abort response.Aborted (λ p. p) (abort_goes abort_enlisted_next abort_prepared_next) (λ phase at part in_it. abort_fits phase at part.answer part refl in_it.fits in_it.told in_it.named) (λ answer at is p. refl) c w whole there side waits refl)

reconnected_goes : next_of command.Reconnect state.Idle response.Reconnected ≡ Some (state.Prepared, Keep) → (phase : Phase) (at : ConnectionState) (answer : Option Ballot) → is_part phase (Awaits at (Some awaited.Reconnect)) answer ≡ true → (next_of command.Reconnect at response.Reconnected ≡ Some (state.Prepared, Keep)) × (is_going phase ≡ true)
reconnected_goes next Committed state.Idle (Some Yes) is = (next, refl)
reconnected_goes next Active state.Idle answer is = absurd (cc)
reconnected_goes next Asking state.Idle answer is = absurd (cc)
reconnected_goes next Prepared state.Idle answer is = absurd (cc)
reconnected_goes next Aborted state.Idle answer is = absurd (cc)
reconnected_goes next phase at answer is = absurd (cc)

reconnected_fits : (phase : Phase) (at : ConnectionState) (answer : Option Ballot) (part : Participant) → part.answer ≡ answer → is_part phase (Awaits at (Some awaited.Reconnect)) answer ≡ true → not part.acknowledged || may_have_acknowledged phase (Awaits at (Some awaited.Reconnect)) answer ≡ true → is_named (Awaits at (Some awaited.Reconnect)) part ≡ true → part_before phase (Awaits state.Prepared None) part ≡ true
reconnected_fits Committed state.Idle (Some Yes) part same is told pair = and_from _ _ (and_from _ _ (ap (may_commit (Awaits state.Prepared None)) same) (or_left _ _ (either_true (not part.acknowledged) told))) pair
reconnected_fits Active state.Idle answer part same is told pair = absurd (cc)
reconnected_fits Asking state.Idle answer part same is told pair = absurd (cc)
reconnected_fits Prepared state.Idle answer part same is told pair = absurd (cc)
reconnected_fits Aborted state.Idle answer part same is told pair = absurd (cc)
reconnected_fits phase at answer part same is told pair = absurd (cc)

pub reconnected_next : next_of command.Reconnect state.Idle response.Reconnected ≡ Some (state.Prepared, Keep)
unfolding next_of
reconnected_next = refl

pub reconnected_whole : (c : Connection) (w : Work) → Whole w.state → connection_of c.number w.state ≡ Some c → c.side ≡ Primary → c.awaited ≡ Some awaited.Reconnect → AllWhole (proceed_as c.role (go_on command.Reconnect response.Reconnected c w))
reconnected_whole c w whole there side waits =
    let part = part_now c w whole there awaited.Reconnect side waits refl in
    unnoted c.role part.transaction.key (suc part.place) (go_on command.Reconnect response.Reconnected c w) part.on
    (staying_whole awaited.Reconnect command.Reconnect response.Reconnected state.Prepared refl (λ role. refl) (λ p. p) (reconnected_goes reconnected_next) (λ phase at part in_it. reconnected_fits phase at part.answer part refl in_it.fits in_it.told in_it.named) (λ answer at is p. refl) c w whole there side waits refl)
