-- RECONNECT from the superior, and what a connection of ours was opened for, leave a realm whole.
use Rattle.std.proofs.Common.{◌≡◌, Bool, true, false, ℕ, ◌+◌, List, [], ◌∷◌, Option, Some, None, cond, refl, ap, subst, sym, arith, ◌∙◌, inl, inr}
use Rattle.std.specs.Prelude.{◌==◌, find, is_some, not}
use Rattle.std.specs.List.{list_any}
use Rattle.std.proofs.lemmas.Bool.{and_from, both_ways, cases_Bool}
use Rattle.std.proofs.lemmas.Bool.Decides.{nat_tests}
use Rattle.std.proofs.lemmas.Option.{none-some, same_Some}
use Rattle.tip_table.specs.Lists.{changed, without}
use Rattle.tip_conn.specs.Table.{is_valid, next_of}
use Rattle.tip_conn.specs.declared.state.Side.TheVariants.{Secondary}
use Rattle.tip_conn.specs.declared.state.State.{State as ConnectionState}
use Rattle.tip_conn.specs.declared.state.State.TheVariants as state
use Rattle.tip_line.specs.declared.command.CommandName.TheVariants as command
use Rattle.tip_line.specs.declared.response.ResponseName.TheVariants as response
use Rattle.tip_txn.specs.declared.answer.Phase.{Phase}
use Rattle.tip_txn.specs.declared.answer.Phase.TheVariants.{Active, Asking, Prepared, Committed, Aborted}
use Rattle.tip_machine.specs.Changes.{change, on, reply, tell}
use Rattle.tip_machine.specs.Commands.{reconnect, reconnect_to, take_over}
use Rattle.tip_machine.specs.Connections.{advanced, advanced_to, has_number, is_superior_of, taking}
use Rattle.tip_machine.specs.Failing.{closed, fail, gone, missed, superior_lost}
use Rattle.tip_machine.specs.Given.{are_numbered}
use Rattle.tip_machine.specs.Invariants.Links.{Link, is_connected, is_early, link}
use Rattle.tip_machine.specs.Invariants.Links.Link.{Owes}
use Rattle.tip_machine.specs.Invariants.Phases.{has_come_to, is_part_in, is_party, is_superior, is_transaction}
use Rattle.tip_machine.specs.States.{State, Work, connection_of, identified_by, transaction_of}
use Rattle.tip_machine.specs.Transactions.{decision_of, has_id, has_key, is_prepared}
use Rattle.tip_machine.specs.Types.{Connection, Transaction}
use Rattle.tip_machine.specs.declared.answer.Item.TheVariants.{Close}
use Rattle.tip_machine.specs.declared.answer.Said.TheVariants as said
use Rattle.tip_machine.specs.declared.connection.Role.{Role}
use Rattle.tip_machine.specs.declared.connection.Role.TheVariants.{Superior}
use Rattle.tip_machine.specs.declared.transaction.Origin.{Origin}
use Rattle.tip_machine.specs.declared.transaction.Origin.TheVariants as origin
use Rattle.tip_machine.proofs.Lists.{find_any}
use Rattle.tip_machine.proofs.RuleWalks.{advanced-number}
use Rattle.tip_machine.proofs.Walks.{found_passes}
use Rattle.tip_machine.proofs.Rising.{changed_twice, found_numbered}
use Rattle.tip_agreement.proofs.Alone.{replied_idle, role_none}
use Rattle.tip_agreement.proofs.Apart.{all_found}
use Rattle.tip_agreement.proofs.Around.{Whole, around_of, stands, whole_of}
use Rattle.tip_agreement.proofs.Closing.{have_same, superior_lost_whole}
use Rattle.tip_agreement.proofs.Found.{find_gone, find_left}
use Rattle.tip_agreement.proofs.Joining.{above_joined, around_above, joined, parts_beside}
use Rattle.tip_agreement.proofs.Owned.{InPhase, asked_by, from_as, in_phase, once_superior, own_still}
use Rattle.tip_agreement.proofs.Sound.{found_by}
use Rattle.tip_agreement.proofs.Answering.{not_reconnected_next, reconnected_next}

pub only_prepared : (phase : Phase) → is_prepared phase ≡ true → phase ≡ Prepared
only_prepared Prepared is = refl
only_prepared Active is = absurd (cc)
only_prepared Asking is = absurd (cc)
only_prepared Committed is = absurd (cc)
only_prepared Aborted is = absurd (cc)

reconnect_at : (at : ConnectionState) → is_valid command.Reconnect at ≡ true → at ≡ state.Idle
unfolding is_valid
reconnect_at state.Idle valid = refl
reconnect_at at valid = absurd (cc)

-- in doubt, the superior is gone or here
doubt_again : (from : Origin) (link : Link) → is_superior Prepared from link ≡ true → is_superior Prepared from (Owes state.Prepared None) ≡ true
doubt_again (origin.Subordinate (Some address) superior) link is = refl
doubt_again from link is = absurd (cc)

-- The superior of a transaction in doubt is here again, where none was

module _ (t : Transaction) (c : Connection) (w : Work) (whole : Whole w.state) (there : connection_of c.number w.state ≡ Some c) (found : transaction_of t.key w.state ≡ Some t) (doubt : t.phase ≡ Prepared) (none : c.role ≡ None) (idle : c.state ≡ state.Idle) (side : c.side ≡ Secondary) (free : list_any (is_superior_of t.key) w.state.connections ≡ false) where
  known : InPhase t.key t w.state
  known = in_phase t.key t w.state found (all_found (is_transaction w.state) (has_key t.key) w.state.transactions t whole.transactions found)

  pub returned : Connection → Connection
  returned d = taking (Superior t.key) (advanced command.Reconnect response.Reconnected d)

  pub back_again : Connection
  back_again = record c { state = state.Prepared; owed = None; awaited = None; role = Some (Superior t.key) }

  pub becomes : returned c ≡ back_again
  unfolding returned back_again
  becomes = ap (λ place. taking (Superior t.key) (advanced_to place c)) (ap (λ s. next_of command.Reconnect s response.Reconnected) idle ∙ reconnected_next)

  pub acts : is_connected back_again ≡ true
  unfolding back_again
  acts = rw side refl

  pub stands_again : stands w.state (returned c) ≡ true
  unfolding back_again
  stands_again = subst (λ d. stands w.state d ≡ true) (sym becomes) (and_from _ _ (and_from _ _ acts refl) (rw found refl))

  takes : (returned c).role ≡ Some (Superior t.key)
  unfolding returned
  takes = refl

  abbrev joined_in : State
  joined_in = joined t.key w.state returned c there none stands_again (around_of t.key w.state whole)

  above_now : find (is_superior_of t.key) joined_in.connections ≡ Some back_again
  above_now = above_joined t.key w.state returned c there none stands_again (around_of t.key w.state whole) takes free ∙ ap Some becomes

  link_now : link (Some back_again) ≡ Owes state.Prepared None
  unfolding back_again
  link_now = rw side refl

  is_still : is_transaction joined_in t ≡ true
  is_still = from_as Prepared t.key t joined_in doubt (record {
    found = found;
    above = rw (above_now, link_now) (doubt_again t.origin (link (find (is_superior_of t.key) w.state.connections)) (subst (λ f. is_superior f t.origin (link (find (is_superior_of t.key) w.state.connections)) ≡ true) doubt known.owned.above));
    parts = have_same t.key w.state.connections joined_in.connections 0 (is_part_in t.phase) (is_part_in Prepared) (λ place differs. parts_beside t.key w.state returned c there none stands_again (around_of t.key w.state whole) takes free place) (λ l p fits. subst (λ f. is_part_in f l p ≡ true) doubt fits) (is_party t.phase) (is_party Prepared) t.place t.parts refl (λ answer fits. subst (λ f. is_party f t.place answer ≡ true) doubt fits) known.owned.parts;
    own = own_still w.state joined_in t t.place refl refl ∙ known.owned.own;
  }) refl (subst (λ f. has_come_to f (decision_of t) ≡ true) doubt known.come) refl

  pub retaken_whole : Whole joined_in
  retaken_whole = whole_of t.key joined_in t found is_still (around_above t.key w.state returned c there none stands_again (around_of t.key w.state whole) takes free)

-- An earlier connection of it is closed

without_changed : (n m : ℕ) (f : Connection → Connection) (cs : List Connection) → ((c : Connection) → (f c).number ≡ c.number) → ((c : Connection) → has_number n c ≡ true → has_number m c ≡ false) → without (has_number m) (changed (has_number n) f cs) ≡ changed (has_number n) f (without (has_number m) cs)
without_changed n m f [] same apart = refl
without_changed n m f (c ∷ cs) same apart = step (has_number n c) (has_number m c) refl refl (without_changed n m f cs same apart) where
  step : (a b : Bool) → has_number n c ≡ a → has_number m c ≡ b → without (has_number m) (changed (has_number n) f cs) ≡ changed (has_number n) f (without (has_number m) cs) → without (has_number m) (cond a (f c ∷ cs) (c ∷ changed (has_number n) f cs)) ≡ changed (has_number n) f (cond b cs (c ∷ without (has_number m) cs))
  step true true here there rest = absurd (both_ways (has_number m c) (apart c here) there)
  step true false here there rest = rw (here, ap (λ k. k == m) (same c) ∙ there) refl
  step false true here there rest = rw there refl
  step false false here there rest = rw (here, there) (ap (λ ds. c ∷ ds) rest)

numbers_apart : (n m : ℕ) → (n == m) ≡ false → (c : Connection) → has_number m c ≡ true → has_number n c ≡ false
numbers_apart n m differ c here = grind (arith, nat_tests, differ, here)

module _ (t : Transaction) (c : Connection) (w : Work) (whole : Whole w.state) (numbered : are_numbered w.state ≡ true) (there : connection_of c.number w.state ≡ Some c) (found : transaction_of t.key w.state ≡ Some t) (doubt : t.phase ≡ Prepared) (none : c.role ≡ None) (idle : c.state ≡ state.Idle) (side : c.side ≡ Secondary) where
  over_again : Work
  over_again = change c.number (taking (Superior t.key)) (reply c.number command.Reconnect said.Reconnected w)

  module _ (e : Connection) (earlier : find (is_superior_of t.key) w.state.connections ≡ Some e) where
    asks : is_superior_of t.key e ≡ true
    asks = found_passes (is_superior_of t.key) w.state.connections e earlier

    e_there : connection_of e.number w.state ≡ Some e
    e_there = found_numbered (is_superior_of t.key) w.state.connections ((w.state.head.given + 1) ∷ []) e earlier numbered

    e_role : e.role ≡ Some (Superior t.key)
    e_role = asked_by t.key e.role asks

    apart : (e.number == c.number) ≡ false
    apart = elim (cases_Bool (e.number == c.number)) [
      | inl is ↦ let same : e.number ≡ c.number = grind (arith, nat_tests, is) in absurd (none-some (Superior t.key) (sym none ∙ ap (λ (d : Connection). d.role) (same_Some c e (sym there ∙ subst (λ n. connection_of n w.state ≡ Some e) same e_there)) ∙ e_role))
      | inr not ↦ not
    ]

    -- without it
    alone : Work
    alone = gone e w

    alone_so : Whole alone.state
    unfolding alone
    alone_so = superior_lost_whole t.key t e w whole e_there found e_role Prepared doubt

    c_there : connection_of c.number alone.state ≡ Some c
    unfolding alone gone
    c_there = find_left (has_number c.number) (has_number e.number) w.state.connections e e_there apart ∙ there

    found_there : transaction_of t.key alone.state ≡ Some t
    unfolding alone gone
    found_there = found

    free_there : list_any (is_superior_of t.key) alone.state.connections ≡ false
    unfolding alone gone
    free_there = sym (find_any (is_superior_of t.key) (without (has_number e.number) w.state.connections)) ∙ ap is_some (find_gone (is_superior_of t.key) (has_number e.number) w.state.connections e (once_superior t.key w.state.connections whole.apart) e_there asks)

    taken_over : Whole (closed e over_again).state
    unfolding over_again closed fail gone reply alone returned
    taken_over =
        let last = retaken_whole t c alone alone_so c_there found_there doubt none idle side free_there in
        let swap = without_changed c.number e.number (returned t c alone alone_so c_there found_there doubt none idle side free_there) w.state.connections (advanced-number command.Reconnect response.Reconnected) (numbers_apart e.number c.number apart) in
        let twice = changed_twice c.number (taking (Superior t.key)) (advanced command.Reconnect response.Reconnected) w.state.connections (advanced-number command.Reconnect response.Reconnected) in
        missed_none e.role e_role (subst (λ cs. Whole (record w.state { connections = cs })) (sym (ap (without (has_number e.number)) twice ∙ swap)) last) where
          missed_none : (role : Option Role) → role ≡ Some (Superior t.key) → Whole (gone e over_again).state → Whole (missed role (gone e (tell e.number Close over_again))).state
          missed_none role is so = subst (λ r. Whole (missed r (gone e (tell e.number Close over_again))).state) (sym is) (subst (λ o. Whole (on o (λ (u : Transaction). superior_lost u.phase t.key) (gone e (tell e.number Close over_again))).state) (sym found) (subst (λ f. Whole (superior_lost f t.key (gone e (tell e.number Close over_again))).state) (sym doubt) so))

-- RECONNECT

module _ (c : Connection) (w : Work) (whole : Whole w.state) (numbered : are_numbered w.state ≡ true) (there : connection_of c.number w.state ≡ Some c) (side : c.side ≡ Secondary) (valid : is_valid command.Reconnect c.state ≡ true) where
  idle_there : c.state ≡ state.Idle
  idle_there = reconnect_at c.state valid

  alone_there : c.role ≡ None
  alone_there = role_none c w whole there side (ap is_early idle_there)

  not_there : Whole (reply c.number command.Reconnect said.NotReconnected w).state
  not_there = replied_idle c w whole there side (ap is_early idle_there) command.Reconnect said.NotReconnected (ap (λ s. next_of command.Reconnect s response.NotReconnected) idle_there ∙ not_reconnected_next)

  took_over : (t : Transaction) (earlier : Option Connection) → find (is_superior_of t.key) w.state.connections ≡ earlier → transaction_of t.key w.state ≡ Some t → t.phase ≡ Prepared → Whole (take_over t.key c.number earlier w).state
  unfolding reply returned over_again
  took_over t None earlier found doubt =
      let free = sym (find_any (is_superior_of t.key) w.state.connections) ∙ ap is_some earlier in
      subst (λ cs. Whole (record w.state { connections = cs })) (sym (changed_twice c.number (taking (Superior t.key)) (advanced command.Reconnect response.Reconnected) w.state.connections (advanced-number command.Reconnect response.Reconnected))) (retaken_whole t c w whole there found doubt alone_there idle_there side free)
  took_over t (Some e) earlier found doubt = taken_over t c w whole numbered there found doubt alone_there idle_there side e earlier

  to_found : (found : Option Transaction) → ((t : Transaction) → found ≡ Some t → transaction_of t.key w.state ≡ Some t) → Whole (reconnect_to found c.number w).state
  to_found None is = not_there
  to_found (Some t) is = step (is_prepared t.phase) refl where
    step : (b : Bool) → is_prepared t.phase ≡ b → Whole (cond b (take_over t.key c.number (find (is_superior_of t.key) w.state.connections) w) (reply c.number command.Reconnect said.NotReconnected w)).state
    step true doubt = took_over t (find (is_superior_of t.key) w.state.connections) refl (is t refl) (only_prepared t.phase doubt)
    step false other = not_there

  pub reconnect_whole : (subordinate : List ℕ) → Whole (reconnect subordinate c w).state
  unfolding reconnect
  reconnect_whole subordinate = to_found (identified_by subordinate w.state) (λ t is. found_by (has_id w.state.head.name subordinate) w.state t whole is)
