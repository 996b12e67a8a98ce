-- Each response and each request keeps what each single change keeps.
use Rattle.std.proofs.Common.{◌≡◌, ℕ, Bool, true, false, List, Option, Some, None, refl}
use Rattle.std.specs.Prelude.{◌&&◌, nat_le}
use Rattle.std.specs.Option.{IfSome}
use Rattle.tip_line.specs.declared.command.Command.TheVariants as commands
use Rattle.tip_line.specs.declared.command.CommandName.{CommandName}
use Rattle.tip_line.specs.declared.command.CommandName.TheVariants as command
use Rattle.tip_line.specs.declared.response.Response.{Response}
use Rattle.tip_line.specs.declared.response.Response.TheVariants.{Identified, NeedTls, Pushed, AlreadyPushed, NotPushed, Pulled, NotPulled, Prepared, ReadOnly, Committed, Aborted, QueriedExists, QueriedNotFound, Reconnected, NotReconnected, Error}
use Rattle.tip_line.specs.declared.response.ResponseName.{ResponseName}
use Rattle.tip_line.specs.declared.response.ResponseName.TheVariants as response
use Rattle.tip_conn.specs.declared.state.Side.{Side}
use Rattle.tip_conn.specs.declared.state.Side.TheVariants.{Primary, Secondary}
use Rattle.tip_rows.specs.Keys.{Key}
use Rattle.tip_txn.specs.declared.part.Participant.{Participant}
use Rattle.tip_machine.specs.Types.{Connection, Transaction}
use Rattle.tip_machine.specs.Connections.{advanced, key_of}
use Rattle.tip_machine.specs.Transactions.{is_committed, is_decided_at, noting, subordinate_of}
use Rattle.tip_machine.specs.States.{Work, connection_of, identified_by, transaction_of}
use Rattle.tip_machine.specs.Changes.{alter, change}
use Rattle.tip_machine.specs.Failing.{closed, wrong}
use Rattle.tip_machine.specs.Responses.{abort_as, answered_by, ask_superior, go_on, greeted, is_in_doubt, is_owed_commit, note_as, presume_abort, pursue, query_for, reach, reach_by, reconnect_for, responded, proceed_as}
use Rattle.tip_machine.specs.Requests.{hear}
use Rattle.tip_machine.specs.declared.connection.Awaited.{Awaited}
use Rattle.tip_machine.specs.declared.connection.Awaited.TheVariants.{Identify, Push, Pull, Prepare, Commit, Abort, Query, Reconnect}
use Rattle.tip_machine.specs.declared.connection.Purpose.{Purpose}
use Rattle.tip_machine.specs.declared.connection.Purpose.TheVariants as purpose
use Rattle.tip_machine.specs.declared.connection.Role.{Role}
use Rattle.tip_machine.specs.declared.connection.Role.TheVariants.{Superior, Subordinate}
use Rattle.tip_machine.specs.declared.event.Heard.{Heard}
use Rattle.tip_machine.specs.declared.event.Heard.TheVariants.{Command as ACommand, Response as AResponse}
use Rattle.tip_machine.specs.declared.transaction.Origin.{Origin}
use Rattle.tip_machine.specs.declared.transaction.Origin.TheVariants as origin
use Rattle.tip_machine.proofs.Walks.{AtOne, Closed, EndsAtOne, EndsOn, Is, at_one, attempt_on_each, either, either_attempt, is_or_any, or_any}
use Rattle.tip_machine.proofs.RuleWalks.{abort-keeps, closed-keeps, closes, goes_wrong, is_commanded, advanced-made, advanced-number, noting-keeps, send-keeps, proceed-keeps, taking-keeps, wrong-keeps}

-- does a response say that a transaction is not there?
abbrev pub is_denial : Response → Bool
is_denial QueriedNotFound = true
is_denial other = false

module _ (R : Work → Work → Type 0) (May : ℕ → Type 0) (On : Key → Type 0) (k : Closed R May On) where
  note_as-keeps : (v : Work) (role : Option Role) (note : Participant → Participant) (w : Work) → IfSome (key_of role) On → R v w → EndsOn On (R v) (note_as role note w)
  note_as-keeps v None note w on r = r
  note_as-keeps v (Some (Superior key)) note w on r = r
  note_as-keeps v (Some (Subordinate key part)) note w on r = proceed-keeps R May On k v key (alter key (noting part note) w) on (k.then v w _ r (noting-keeps R May On k part note key w on))

  proceed_as-keeps : (v : Work) (role : Option Role) (w : Work) → IfSome (key_of role) On → R v w → EndsOn On (R v) (proceed_as role w)
  proceed_as-keeps v None w on r = r
  proceed_as-keeps v (Some (Superior key)) w on r = r
  proceed_as-keeps v (Some (Subordinate key part)) w on r = proceed-keeps R May On k v key w on r

  abort_as-keeps : (role : Option Role) (w : Work) → IfSome (key_of role) On → R w (abort_as role w)
  abort_as-keeps None w on = k.same w
  abort_as-keeps (Some (Superior key)) w on = abort-keeps R May On k key w on
  abort_as-keeps (Some (Subordinate key part)) w on = abort-keeps R May On k key w on

  pub go_on-keeps : (command : CommandName) (response : ResponseName) (c : Connection) (w : Work) → May c.number → R w (go_on command response c w)
  go_on-keeps command response c w may = k.changes c.number (advanced command response) w may (advanced-number command response) (advanced-made command response)

  module _ (c : Connection) (may : May c.number) (on : IfSome (key_of c.role) On) where
    hang_up-keeps : (w : Work) → R w (closed c w)
    hang_up-keeps w = closed-keeps R May On k c w may on

    ask_superior-keeps : (from : Origin) (key : Key) (w : Work) → R w (ask_superior from key c w)
    ask_superior-keeps origin.Root key w = hang_up-keeps w
    ask_superior-keeps (origin.Subordinate address superior) key w = send-keeps R May On k c.number _ _ w may tt

    query_for-keeps : (found : Option Transaction) (w : Work) → R w (query_for found c w)
    query_for-keeps None w = hang_up-keeps w
    query_for-keeps (Some t) w = either (R w) (is_in_doubt w.state t && is_decided_at c.peer t.origin) (ask_superior t.origin t.key c w) (closed c w) (ask_superior-keeps t.origin t.key w) (hang_up-keeps w)

    reach_by-keeps : (id : Option (List ℕ)) (part : ℕ) (key : Key) (w : Work) → R w (reach_by id part key c w)
    reach_by-keeps None part key w = hang_up-keeps w
    reach_by-keeps (Some id) part key w = k.then w _ _ (send-keeps R May On k c.number _ _ w may tt) (taking-keeps R May On k c.number _ _ may)

    reach-keeps : (s : Option (ℕ × Participant)) (key : Key) (w : Work) → R w (reach s key c w)
    reach-keeps None key w = hang_up-keeps w
    reach-keeps (Some s) key w = either (R w) (is_owed_commit c.peer key w.state s) (reach_by s.1.id s.0 key c w) (closed c w) (reach_by-keeps s.1.id s.0 key w) (hang_up-keeps w)

    reconnect_for-keeps : (found : Option Transaction) (place : ℕ) (w : Work) → R w (reconnect_for found place c w)
    reconnect_for-keeps None place w = hang_up-keeps w
    reconnect_for-keeps (Some t) place w = either (R w) (is_committed t.phase) (reach (subordinate_of place t) t.key c w) (closed c w) (reach-keeps (subordinate_of place t) t.key w) (hang_up-keeps w)

    pursue-keeps : (purpose : Purpose) (w : Work) → R w (pursue purpose c w)
    pursue-keeps purpose.Plain w = k.same w
    pursue-keeps (purpose.Query id) w = query_for-keeps (identified_by id w.state) w
    pursue-keeps (purpose.Reconnect id place) w = reconnect_for-keeps (identified_by id w.state) place w

    greeted-keeps : (version : ℕ) (purpose : Purpose) (w : Work) → R w (greeted version purpose c w)
    greeted-keeps version purpose w =
        let gone_on = change c.number (advanced command.Identify response.Identified) w in
        either (R w) (nat_le 3 version) (pursue purpose c gone_on) (wrong c w) (k.then w gone_on _ (go_on-keeps command.Identify response.Identified c w may) (pursue-keeps purpose gone_on)) (wrong-keeps R May On k c w may on)

    noted-keeps : (command : CommandName) (response : ResponseName) (note : Participant → Participant) (w : Work) → EndsOn On (R w) (note_as c.role note (go_on command response c w))
    noted-keeps command response note w = note_as-keeps w c.role note _ on (go_on-keeps command response c w may)

    proceeded-keeps : (command : CommandName) (response : ResponseName) (w : Work) → EndsOn On (R w) (proceed_as c.role (go_on command response c w))
    proceeded-keeps command response w = proceed_as-keeps w c.role _ on (go_on-keeps command response c w may)

    -- a response is about the transaction of its connection, but where it denies one in doubt
    pub responded-keeps : (awaited : Awaited) (response : Response) (w : Work) → is_denial response ≡ false → EndsOn On (R w) (responded awaited response c w)
    responded-keeps (Identify purpose) (Identified version) w is = greeted-keeps version purpose w
    responded-keeps Push (Pushed id) w is = noted-keeps _ _ _ w
    responded-keeps Push (AlreadyPushed id) w is = noted-keeps _ _ _ w
    responded-keeps Push NotPushed w is = noted-keeps _ _ _ w
    responded-keeps Pull Pulled w is = go_on-keeps _ _ c w may
    responded-keeps Pull NotPulled w is = k.then w _ _ (go_on-keeps command.Pull response.NotPulled c w may) (abort_as-keeps c.role _ on)
    responded-keeps Prepare Prepared w is = noted-keeps _ _ _ w
    responded-keeps Prepare Aborted w is = noted-keeps _ _ _ w
    responded-keeps Prepare ReadOnly w is = noted-keeps _ _ _ w
    responded-keeps Commit Committed w is = noted-keeps _ _ _ w
    responded-keeps Abort Aborted w is = proceeded-keeps _ _ w
    responded-keeps (Query key) QueriedExists w is = go_on-keeps _ _ c w may
    responded-keeps (Query key) QueriedNotFound w is = absurd (cc)
    responded-keeps Reconnect Reconnected w is = proceeded-keeps _ _ w
    responded-keeps Reconnect NotReconnected w is = noted-keeps _ _ _ w
    responded-keeps awaited NeedTls w is = hang_up-keeps w
    responded-keeps awaited Error w is = hang_up-keeps w
    responded-keeps awaited other w is = wrong-keeps R May On k c w may on

-- Any response and any line, where what is touched is the transaction of some one key
module _ (R : Key → Work → Work → Type 0) (May : ℕ → Type 0) (k : (key : Key) → Closed (R key) May (Is key)) where
  module _ (c : Connection) (w : Work) (may : May c.number) where
    goes_on : (command : CommandName) (response : ResponseName) → AtOne R w (go_on command response c w)
    goes_on command response = let key = or_any None in (key, go_on-keeps (R key) May (Is key) (k key) command response c w may)

    -- the transaction in doubt where the removal is stored, and that of the connection where it is refused
    presumes_abort : (t : Transaction) → EndsAtOne R w (presume_abort c t (go_on command.Query response.QueriedNotFound c w))
    presumes_abort t =
        let gone_on = go_on command.Query response.QueriedNotFound c w in
        let on = or_any (key_of c.role) in
        either_attempt (EndsAtOne R w) (is_in_doubt gone_on.state t) _ _ (
          (t.key, (k t.key).then w gone_on _ (go_on-keeps (R t.key) May (Is t.key) (k t.key) command.Query response.QueriedNotFound c w may) (abort-keeps (R t.key) May (Is t.key) (k t.key) t.key gone_on refl)),
          refl,
          (on, (k on).then w gone_on _ (go_on-keeps (R on) May (Is on) (k on) command.Query response.QueriedNotFound c w may) (closed-keeps (R on) May (Is on) (k on) c gone_on may (is_or_any (key_of c.role)))),
        )
        (goes_on command.Query response.QueriedNotFound)

    undenied : (awaited : Awaited) (response : Response) → is_denial response ≡ false → EndsAtOne R w (responded awaited response c w)
    undenied awaited response is = let key = or_any (key_of c.role) in at_one R w key (responded awaited response c w) (responded-keeps (R key) May (Is key) (k key) c may (is_or_any (key_of c.role)) awaited response w is)

    responds : (awaited : Awaited) (response : Response) → EndsAtOne R w (responded awaited response c w)
    responds (Query key) QueriedNotFound =
        let gone_on = go_on command.Query response.QueriedNotFound c w in
        attempt_on_each (EndsAtOne R w) (transaction_of key gone_on.state) (presume_abort c) gone_on (goes_on _ _) (λ t is. presumes_abort t)
    responds awaited QueriedNotFound = goes_wrong R May k c w may
    responds awaited other = undenied awaited other refl

    is_answered : (awaited : Option Awaited) (response : Response) → EndsAtOne R w (answered_by awaited response c w)
    is_answered None response = let key = or_any None in (key, (k key).same w)
    is_answered (Some awaited) response = responds awaited response

    pub is_heard : (side : Side) (heard : Heard) → connection_of c.number w.state ≡ Some c → EndsAtOne R w (hear side heard c w)
    is_heard Secondary (ACommand command) is = is_commanded R May k command c w may is
    is_heard Primary (ACommand commands.Error) is = closes R May k c w may
    is_heard Primary (AResponse response) is = is_answered c.awaited response
    is_heard side other is = goes_wrong R May k c w may
