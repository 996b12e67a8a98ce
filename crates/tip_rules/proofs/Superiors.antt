-- A superior that comes back to its transaction.
use Rattle.std.proofs.Common.{◌≡◌, ◌≤◌, ◌+◌, arith, length, Bool, true, false, cond, ℕ, List, [], ◌∷◌, Option, Some, None, refl, ap, sym, subst, ◌∙◌}
use Rattle.std.specs.Prelude.{◌==◌, find, option_map}
use Rattle.std.proofs.lemmas.List.{length-append}
use Rattle.std.proofs.lemmas.Option.{none-some, same_Some}
use Rattle.tip_conn.specs.Table.{next_of}
use Rattle.tip_conn.specs.declared.state.State.{State as ConnectionState}
use Rattle.tip_conn.specs.declared.state.Turn.{Turn}
use Rattle.tip_line.specs.declared.command.CommandName.{CommandName}
use Rattle.tip_line.specs.declared.command.CommandName.TheVariants as command
use Rattle.tip_line.specs.declared.response.ResponseName.{ResponseName}
use Rattle.tip_rows.proofs.OrderLemmas.{same_key}
use Rattle.tip_rows.specs.Keys.{Key}
use Rattle.tip_table.proofs.Standing.{found as found_first}
use Rattle.tip_table.specs.Kept.{StandsAt, item_at}
use Rattle.tip_table.specs.Lists.{changed, without}
use Rattle.tip_txn.specs.declared.answer.Phase.{Phase}
use Rattle.tip_txn.specs.declared.answer.Phase.TheVariants as phase
use Rattle.tip_machine.proofs.Rising.{found_numbered}
use Rattle.tip_machine.proofs.RuleWalks.{advanced-number}
use Rattle.tip_machine.proofs.Walks.{found-number, found_passes}
use Rattle.tip_machine.specs.Answers.{response_name}
use Rattle.tip_machine.specs.Changes.{change, on, reply, tell}
use Rattle.tip_machine.specs.Commands.{reconnect, reconnect_to, take_over}
use Rattle.tip_machine.specs.Connections.{advanced, advanced_to, asks_for, has_number, is_superior_of, taking}
use Rattle.tip_machine.specs.Failing.{closed, fail, gone, missed, superior_lost}
use Rattle.tip_machine.specs.Given.{are_numbered}
use Rattle.tip_machine.specs.States.{Work, connection_of, identified_by, transaction_of}
use Rattle.tip_machine.specs.Transactions.{is_prepared}
use Rattle.tip_machine.specs.Types.{Connection, Transaction}
use Rattle.tip_machine.specs.declared.answer.Item.TheVariants.{Close, Say}
use Rattle.tip_machine.specs.declared.answer.Said.{Said}
use Rattle.tip_machine.specs.declared.answer.Said.TheVariants as said
use Rattle.tip_machine.specs.declared.connection.Role.{Role}
use Rattle.tip_machine.specs.declared.connection.Role.TheVariants.{Superior, Subordinate}
use Rattle.tip_rules.proofs.Outcomes.{key_is}
use Rattle.tip_rules.proofs.Works.{then}
use Rattle.tip_rules.specs.Works.{Does, Held, work_of}

-- The connection of a superior

module _ (held : Held) (key : Key) where
  pub superior_none : find (is_superior_of key) (work_of held).state.connections ≡ None → None ≡ option_map (λ (c : Connection). c.number) (find (is_superior_of key) (work_of held).state.connections)
  superior_none none = sym (ap (option_map (λ (c : Connection). c.number)) none)

  pub superior_there : (place : ℕ) (item : Connection) → StandsAt held.connections held.realm (is_superior_of key) place → item_at held.connections place ≡ Some item → Some item.number ≡ option_map (λ (c : Connection). c.number) (find (is_superior_of key) (work_of held).state.connections)
  superior_there place item here is = sym (ap (option_map (λ (c : Connection). c.number)) (found_first held.connections held.realm (is_superior_of key) place here ∙ is))

pub ruleset superiors = (superior_none, superior_there)

-- It is closed

pub hung_up : (a b c : Held) (number : ℕ) (connection : Connection) → Does a b (tell number Close (work_of a)) → Does b c (gone connection (work_of b)) → Does a c (gone connection (tell number Close (work_of a)))
hung_up a b c number connection first second = then a b c (gone connection) _ first second

pub ruleset hanging_up = (hung_up)

-- the response took one line
pub room_replied : (a b : Held) (number lines : ℕ) (command : CommandName) (said : Said) (role : Role) → Does a b (change number (taking role) (reply number command said (work_of a))) → lines + 1 ≤ a.making.free → lines ≤ b.making.free
unfolding reply
room_replied a b number lines command said role does enough =
    let count : length b.making.answer.sent ≡ length a.making.answer.sent + 1 = ap (λ w. length w.answer.sent) does.own ∙ length-append a.making.answer.sent (record { connection = number; item = Say said } ∷ []) in
    omega (arith, count, does.lines, enough)

-- what its failure means for a transaction in doubt
lost_in_doubt : (now : Phase) (key : Key) (w : Work) → is_prepared now ≡ true → superior_lost now key w ≡ w
lost_in_doubt phase.Active key w is = absurd (cc)
lost_in_doubt phase.Asking key w is = absurd (cc)
lost_in_doubt phase.Prepared key w is = refl
lost_in_doubt phase.Committed key w is = absurd (cc)
lost_in_doubt phase.Aborted key w is = absurd (cc)

module _ (key : Key) (w : Work) (doubt : (t : Transaction) → transaction_of key w.state ≡ Some t → is_prepared t.phase ≡ true) where
  missed_found : (found : Option Transaction) → transaction_of key w.state ≡ found → on found (λ t. superior_lost t.phase key) w ≡ w
  missed_found None is = refl
  missed_found (Some t) is = lost_in_doubt t.phase key w (doubt t is)

  missed_in_doubt : (role : Option Role) → asks_for key role ≡ true → missed role w ≡ w
  missed_in_doubt None is = absurd (cc)
  missed_in_doubt (Some (Superior other)) is = subst (λ k. missed (Some (Superior k)) w ≡ w) (same_key key other is) (missed_found (transaction_of key w.state) refl)
  missed_in_doubt (Some (Subordinate other part)) is = absurd (cc)

-- a connection of the same number and boxes
pub gone_alike : (e f : Connection) (w : Work) → f.number ≡ e.number → f.boxes ≡ e.boxes → gone f w ≡ gone e w
unfolding gone
gone_alike e f w number boxes =
    ap (λ n. record { state = record w.state { connections = without (has_number n) w.state.connections }; answer = record w.answer { unused = Some f.boxes } }) number
    ∙ ap (λ bs. record { state = record w.state { connections = without (has_number e.number) w.state.connections }; answer = record w.answer { unused = Some bs } }) boxes

-- The connection that was there, once another or itself was changed

pub record IsAlike (e f : Connection) : Type 0 where
  pub number : f.number ≡ e.number
  pub boxes : f.boxes ≡ e.boxes

module _ (number n : ℕ) (g : Connection → Connection) (same : (c : Connection) → IsAlike c (g c)) where
  pub alike_after : (cs : List Connection) (e : Connection) → find (has_number n) cs ≡ Some e → (f : Connection) × ((find (has_number n) (changed (has_number number) g cs) ≡ Some f) × IsAlike e f)
  alike_after [] e is = absurd (none-some e is)
  alike_after (x ∷ xs) e is = step (has_number number x) refl (has_number n x) refl is (λ later. alike_after xs e later) where
    step : (this : Bool) → has_number number x ≡ this → (that : Bool) → has_number n x ≡ that → cond that (Some x) (find (has_number n) xs) ≡ Some e →
        (find (has_number n) xs ≡ Some e → (f : Connection) × ((find (has_number n) (changed (has_number number) g xs) ≡ Some f) × IsAlike e f)) →
        (f : Connection) × ((find (has_number n) (cond this (g x ∷ xs) (x ∷ changed (has_number number) g xs)) ≡ Some f) × IsAlike e f)
    step true here true there found later = (g x, (ap (λ m. cond (m == n) (Some (g x)) (find (has_number n) xs)) (same x).number ∙ ap (λ b. cond b (Some (g x)) (find (has_number n) xs)) there, subst (λ d. IsAlike d (g x)) (same_Some x e found) (same x)))
    step true here false there found later = (e, (ap (λ m. cond (m == n) (Some (g x)) (find (has_number n) xs)) (same x).number ∙ ap (λ b. cond b (Some (g x)) (find (has_number n) xs)) there ∙ found, record { number = refl; boxes = refl }))
    step false here true there found later = (e, (ap (λ b. cond b (Some x) (find (has_number n) (changed (has_number number) g xs))) there ∙ found, record { number = refl; boxes = refl }))
    step false here false there found later = let after = later found in (after.0, (ap (λ b. cond b (Some x) (find (has_number n) (changed (has_number number) g xs))) there ∙ after.1.0, after.1.1))

advanced_to-boxes : (place : Option (ConnectionState × Turn)) (c : Connection) → (advanced_to place c).boxes ≡ c.boxes
advanced_to-boxes None c = refl
advanced_to-boxes (Some place) c = refl

pub advanced-alike : (command : CommandName) (response : ResponseName) (c : Connection) → IsAlike c (advanced command response c)
advanced-alike command response c = record { number = advanced-number command response c; boxes = advanced_to-boxes (next_of command c.state response) c }

-- Taking over

module _ (a b : Held) (key : Key) (number : ℕ) (numbered : are_numbered (work_of a).state ≡ true) (doubt : (t : Transaction) → transaction_of key (work_of a).state ≡ Some t → is_prepared t.phase ≡ true)
    (first : Does a b (change number (taking (Superior key)) (reply number command.Reconnect said.Reconnected (work_of a)))) where
  abbrev earlier : Option Connection
  earlier = find (is_superior_of key) (work_of a).state.connections

  pub nobody_before : None ≡ option_map (λ (c : Connection). c.number) earlier → Does a b (take_over key number earlier (work_of a))
  nobody_before none = step earlier none where
    step : (o : Option Connection) → None ≡ option_map (λ (c : Connection). c.number) o → Does a b (take_over key number o (work_of a))
    step None is = first
    step (Some e) is = absurd (none-some e.number is)

  still_doubt : (t : Transaction) → transaction_of key (work_of b).state ≡ Some t → is_prepared t.phase ≡ true
  unfolding reply
  still_doubt t found = doubt t (sym (ap (λ v. transaction_of key v.state) first.own) ∙ found)

  -- an earlier connection is there still
  there_after : (e : Connection) → earlier ≡ Some e → (f : Connection) × ((connection_of e.number (work_of b).state ≡ Some f) × IsAlike e f)
  unfolding reply
  there_after e at =
      let before : find (has_number e.number) (work_of a).state.connections ≡ Some e = found_numbered (is_superior_of key) (work_of a).state.connections (((work_of a).state.head.given + 1) ∷ []) e at numbered in
      let once = alike_after number e.number (advanced command.Reconnect (response_name said.Reconnected)) (advanced-alike command.Reconnect (response_name said.Reconnected)) (work_of a).state.connections e before in
      let twice = alike_after number e.number (taking (Superior key)) (λ c. record { number = refl; boxes = refl }) (changed (has_number number) (advanced command.Reconnect (response_name said.Reconnected)) (work_of a).state.connections) once.0 once.1.0 in
      (twice.0, (ap (λ v. connection_of e.number v.state) first.own ∙ twice.1.0, record { number = twice.1.1.number ∙ once.1.1.number; boxes = twice.1.1.boxes ∙ once.1.1.boxes }))

  closed_so : (e f : Connection) → earlier ≡ Some e → IsAlike e f → gone f (tell e.number Close (work_of b)) ≡ closed e (work_of b)
  unfolding closed fail gone
  closed_so e f at alike =
      gone_alike e f (tell e.number Close (work_of b)) alike.number alike.boxes
      ∙ sym (missed_after (found_passes (is_superior_of key) (work_of a).state.connections e at)) where
        missed_after : asks_for key e.role ≡ true → missed e.role (gone e (tell e.number Close (work_of b))) ≡ gone e (tell e.number Close (work_of b))
        missed_after asks = missed_in_doubt key (gone e (tell e.number Close (work_of b))) still_doubt e.role asks

  pub somebody_before : (d : Held) (n : ℕ) → Some n ≡ option_map (λ (c : Connection). c.number) earlier → ((connection : Connection) → connection_of n (work_of b).state ≡ Some connection → Does b d (gone connection (tell n Close (work_of b)))) → Does a d (take_over key number earlier (work_of a))
  somebody_before d n some second = step earlier refl some where
    step : (o : Option Connection) → earlier ≡ o → Some n ≡ option_map (λ (c : Connection). c.number) o → Does a d (take_over key number o (work_of a))
    step None at same = absurd (none-some n (sym same))
    step (Some e) at same =
        let is : n ≡ e.number = same_Some n e.number same in
        let after = there_after e at in
        let gone_after : Does b d (gone after.0 (tell e.number Close (work_of b))) = subst (λ m. Does b d (gone after.0 (tell m Close (work_of b)))) is (second after.0 (ap (λ m. connection_of m (work_of b).state) is ∙ after.1.0)) in
        then a b d (closed e) _ first (subst (Does b d) (closed_so e after.0 at after.1.1) gone_after)

pub ruleset taking_over = (nobody_before, somebody_before)

-- RECONNECT

module _ (a b : Held) (number : ℕ) (connection : Connection) (found : connection_of number (work_of a).state ≡ Some connection) (id : List ℕ) where
  reconnects_so : (known : Option Transaction) → identified_by id (work_of a).state ≡ known → Does a b (reconnect_to known number (work_of a)) → Does a b (reconnect id connection (work_of a))
  unfolding reconnect
  reconnects_so known is does =
      subst (λ n. Does a b (reconnect_to (identified_by id (work_of a).state) n (work_of a))) (sym (found-number number (work_of a).state.connections connection found))
      (subst (λ o. Does a b (reconnect_to o number (work_of a))) (sym is) does)

  pub reconnects_none : identified_by id (work_of a).state ≡ None → Does a b (reply number command.Reconnect said.NotReconnected (work_of a)) → Does a b (reconnect id connection (work_of a))
  reconnects_none none does = reconnects_so None none does

  module _ (key : Key) (t : Transaction) (same : identified_by id (work_of a).state ≡ transaction_of key (work_of a).state) (there : transaction_of key (work_of a).state ≡ Some t) where
    reconnects_if : (doubt : Bool) → is_prepared t.phase ≡ doubt → Does a b (cond doubt (take_over t.key number (find (is_superior_of t.key) (work_of a).state.connections) (work_of a)) (reply number command.Reconnect said.NotReconnected (work_of a))) → Does a b (reconnect id connection (work_of a))
    reconnects_if doubt is does = reconnects_so (Some t) (same ∙ there) (subst (λ d. Does a b (cond d (take_over t.key number (find (is_superior_of t.key) (work_of a).state.connections) (work_of a)) (reply number command.Reconnect said.NotReconnected (work_of a)))) (sym is) does)

    pub reconnects_doubt : is_prepared t.phase ≡ true → Does a b (take_over key number (find (is_superior_of key) (work_of a).state.connections) (work_of a)) → Does a b (reconnect id connection (work_of a))
    reconnects_doubt is does = reconnects_if true is (subst (λ k. Does a b (take_over k number (find (is_superior_of k) (work_of a).state.connections) (work_of a))) (key_is a key t there) does)

    pub reconnects_other : is_prepared t.phase ≡ false → Does a b (reply number command.Reconnect said.NotReconnected (work_of a)) → Does a b (reconnect id connection (work_of a))
    reconnects_other is does = reconnects_if false is does

-- the transaction that was found is the one in doubt
pub doubt_there : (held : Held) (key : Key) (here : Transaction) (doubt : Bool) → transaction_of key (work_of held).state ≡ Some here → doubt ≡ is_prepared here.phase → doubt ≡ true → (t : Transaction) → transaction_of key (work_of held).state ≡ Some t → is_prepared t.phase ≡ true
doubt_there held key here doubt there same is t found = subst (λ (u : Transaction). is_prepared u.phase ≡ true) (same_Some here t (sym there ∙ found)) (sym same ∙ is)

pub ruleset reconnecting = (reconnects_none, reconnects_doubt, reconnects_other, doubt_there)
