-- A transaction that nobody is on any more is over, and all is whole.
use Rattle.std.proofs.Common.{◌≡◌, ◌≤◌, ◌<◌, Bool, true, false, ℕ, ◌+◌, suc, List, [], ◌∷◌, Option, Some, None, cond, refl, ap, subst, sym, arith, ◌∙◌, inl, inr}
use Rattle.std.specs.Prelude.{◌&&◌, ◌||◌, not, drop, find, length, nat_le, nat_lt, is_some}
use Rattle.std.specs.List.{list_all, list_any}
use Rattle.std.specs.Option.{option_map_or}
use Rattle.std.proofs.lemmas.Bool.{and_from, and_parts, both_ways, cases_eq}
use Rattle.std.proofs.lemmas.Bool.Decides.{nat_tests}
use Rattle.tip_rows.specs.Keys.{Key}
use Rattle.tip_rows.proofs.OrderLemmas.{same_key}
use Rattle.tip_conn.specs.Table.{next_of}
use Rattle.tip_conn.specs.declared.state.Side.{Side}
use Rattle.tip_conn.specs.declared.state.Side.TheVariants.{Primary, Secondary}
use Rattle.tip_conn.specs.declared.state.State.TheVariants as state
use Rattle.tip_line.specs.declared.command.CommandName.TheVariants as command
use Rattle.tip_txn.specs.declared.answer.Ballot.{Ballot}
use Rattle.tip_txn.specs.declared.answer.Ballot.TheVariants.{Yes}
use Rattle.tip_txn.specs.declared.answer.Phase.{Phase}
use Rattle.tip_txn.specs.declared.answer.Phase.TheVariants.{Committed}
use Rattle.tip_txn.specs.declared.part.Participant.{Participant}
use Rattle.tip_txn.specs.Parts.{is_yes}
use Rattle.tip_machine.specs.Connections.{asks_for, is_on, is_part_of, is_superior_of, names, reaches}
use Rattle.tip_machine.specs.Invariants.Links.{Link, link, link_on}
use Rattle.tip_machine.specs.Invariants.Links.Link.{Gone, Owes, Awaits}
use Rattle.tip_machine.specs.Invariants.Phases.{is_part, is_part_in, is_superior, is_named, may_have_acknowledged}
use Rattle.tip_machine.specs.Changes.{end, on}
use Rattle.tip_machine.specs.Proceeding.{dispatch, dispatched, errand_in, give_out, leave, let_go}
use Rattle.tip_machine.specs.Reactions.{needs_nothing, react}
use Rattle.tip_machine.specs.States.{State, Work, transaction_of}
use Rattle.tip_machine.specs.Transactions.{has_ready, is_done, is_spent, standing_at, subordinates, willing_from}
use Rattle.tip_machine.specs.Types.{Connection, PartyPlace, Transaction}
use Rattle.tip_machine.specs.declared.connection.Awaited.TheVariants as awaited
use Rattle.tip_machine.specs.declared.connection.Role.{Role}
use Rattle.tip_machine.specs.declared.connection.Role.TheVariants.{Superior, Subordinate}
use Rattle.tip_machine.specs.declared.transaction.Origin.{Origin}
use Rattle.tip_machine.specs.declared.transaction.Origin.TheVariants as origin
use Rattle.tip_machine.specs.declared.transaction.PartyPlace.TheVariants.{Here, Out, Spent}
use Rattle.tip_machine.proofs.Lists.{find_any, none-found}
use Rattle.tip_machine.proofs.Walks.{found_passes, on_each}
use Rattle.tip_agreement.proofs.Apart.{all_found}
use Rattle.tip_agreement.proofs.Around.{Around, Whole, alter_around, altered, end_whole, is_placed, stands, le_self}
use Rattle.tip_agreement.proofs.Owned.{Owned, above_after, have_parts, parts_from, part_after, place_self, react_owned}
use Rattle.tip_agreement.proofs.Reacting.{needs_nothing_so, react_around, standing}

-- No connection is left

abbrev pub is_gone : Link → Bool
is_gone Gone = true
is_gone link = false

abbrev pub is_gone_part : Link → Participant → Bool
is_gone_part link part = is_gone link

none_linked : (found : Option Connection) → is_gone (link found) ≡ true → found ≡ None
none_linked None gone = refl
none_linked (Some c) gone = absurd (step c.side gone) where
  step : (side : Side) → is_gone (link_on side c) ≡ true → ⊥
  step Primary is = cc
  step Secondary is = cc

none_any : (test : Connection → Bool) (cs : List Connection) → find test cs ≡ None → list_any test cs ≡ false
none_any test cs none = sym (find_any test cs) ∙ ap is_some none

module _ (key : Key) (cs : List Connection) where
  none_at : (start place : ℕ) (parts : List Participant) → start ≤ place → place < start + length parts → parts_from is_gone_part start parts key cs ≡ true → find (is_part_of key place) cs ≡ None
  none_at start place [] least most gone = absurd (omega (arith, least, most))
  none_at start place (p ∷ parts) least most gone =
      let both = and_parts (is_gone (link (find (is_part_of key start) cs))) (parts_from is_gone_part (start + 1) parts key cs) gone in
      elim (cases_eq start place) [
        | inl same ↦ subst (λ n. find (is_part_of key n) cs ≡ None) same (none_linked (find (is_part_of key start) cs) both.0)
        | inr differ ↦ none_at (start + 1) place parts (after differ) (later (length parts) most) both.1
      ] where
        after : ¬ (start ≡ place) → start + 1 ≤ place
        after differ = omega (arith, least, differ)

        later : (n : ℕ) → place < start + suc n → place < start + 1 + n
        later n most = omega (arith, most)

  module _ (s : State) (t : Transaction) (found : transaction_of key s ≡ Some t) where
    none_in_role : (role : Option Role) (c : Connection) → c.role ≡ role → names key role ≡ true → is_placed s role ≡ true → find (is_superior_of key) cs ≡ None → ((place : ℕ) → 1 ≤ place → place < length t.parts → find (is_part_of key place) cs ≡ None) → find (is_on key) cs ≡ Some c → ⊥
    none_in_role None c at on placed above below is = cc
    none_in_role (Some (Superior other)) c at on placed above below is = both_ways (is_superior_of key c) (none-found (is_superior_of key) (is_on key) cs c is (none_any (is_superior_of key) cs above)) (ap (asks_for key) at ∙ on)
    none_in_role (Some (Subordinate other place)) c at on placed above below is =
        let parts = and_parts (nat_le 1 place) (option_map_or (λ t. nat_lt place (length t.parts)) (transaction_of other s) false) placed in
        let same : other ≡ key = sym (same_key key other on) in
        let range : nat_lt place (length t.parts) ≡ true = subst (λ o. option_map_or (λ (t : Transaction). nat_lt place (length t.parts)) o false ≡ true) (ap (λ k. transaction_of k s) same ∙ found) parts.1 in
        let least : nat_le 1 place ≡ true = parts.0 in
        both_ways (is_part_of key place c) (none-found (is_part_of key place) (is_on key) cs c is (none_any (is_part_of key place) cs (below place (grind (arith, nat_tests, least)) (grind (arith, nat_tests, range))))) (ap (reaches key place) at ∙ and_from _ _ on (place_self place))

pub none_on : (key : Key) (t : Transaction) (s : State) (party : PartyPlace → Option Ballot → Bool) → Around key s → Owned is_gone is_gone_part party key t s → list_any (is_on key) s.connections ≡ false
none_on key t s party around owned = step (find (is_on key) s.connections) refl where
  below : (place : ℕ) → 1 ≤ place → place < length t.parts → find (is_part_of key place) s.connections ≡ None
  below place least most = parts t.parts owned.parts most where
    parts : (ps : List Participant) → have_parts is_gone_part party t.place ps key s.connections ≡ true → place < length ps → find (is_part_of key place) s.connections ≡ None
    parts [] all most = absurd (cc)
    parts (local ∷ ps) all most = none_at key s.connections 1 place ps least (further (length ps) most) (and_parts (party t.place local.answer) (parts_from is_gone_part 1 ps key s.connections) all).1 where
      further : (n : ℕ) → place < suc n → place < 1 + n
      further n most = omega (arith, most)

  step : (found : Option Connection) → find (is_on key) s.connections ≡ found → list_any (is_on key) s.connections ≡ false
  step None none = none_any (is_on key) s.connections none
  step (Some c) is = absurd (none_in_role key s.connections s t owned.found c.role c refl (found_passes (is_on key) s.connections c is) (standing s c (all_found (stands s) (is_on key) s.connections c around.standing is)).placed (none_linked (find (is_superior_of key) s.connections) owned.above) below is)

-- READ-ONLY

abbrev pub may_leave_above : Origin → Link → Bool
may_leave_above origin.Root (Owes state.Begun (Some command.Commit)) = true
may_leave_above (origin.Subordinate address superior) (Owes state.Enlisted (Some command.Prepare)) = true
may_leave_above (origin.Subordinate address superior) (Owes state.Enlisted (Some command.Commit)) = true
may_leave_above from link = false

above_gone : (from : Origin) (link : Link) → may_leave_above from link ≡ true → is_gone (above_after needs_nothing link) ≡ true
unfolding next_of
above_gone origin.Root (Owes state.Begun (Some command.Commit)) is = refl
above_gone (origin.Subordinate address superior) (Owes state.Enlisted (Some command.Prepare)) is = refl
above_gone (origin.Subordinate address superior) (Owes state.Enlisted (Some command.Commit)) is = refl
above_gone from link is = absurd (cc)

parts_gone : (link : Link) (part : Participant) → is_gone_part link part ≡ true → is_gone_part (part_after needs_nothing link) part ≡ true
parts_gone Gone part is = refl
parts_gone link part is = absurd (cc)

-- no connection is on the transaction, and all others are as they were
record IsOff (key : Key) (s : State) : Type 0 where
  around : Around key s
  off : list_any (is_on key) s.connections ≡ false

moved_off : (key : Key) (place : PartyPlace) (s : State) → IsOff key s → IsOff key (altered key s (standing_at place))
moved_off key place s is = record { around = alter_around key s (standing_at place) (λ t. refl) (λ t. le_self (length t.parts)) is.around; off = is.off }

dispatched_off : (key : Key) (place : PartyPlace) (phase : Phase) (w : Work) → IsOff key w.state → IsOff key (dispatched place phase key w).state
dispatched_off key (Here party) phase w is = step (has_ready party) where
  step : (b : Bool) → IsOff key (cond b (give_out (errand_in phase) party key w) (let_go party key w)).state
  step true = moved_off key (Out (errand_in phase)) w.state is
  step false = moved_off key Spent w.state is
dispatched_off key (Out errand) phase w is = is
dispatched_off key Spent phase w is = is

dispatch_off : (key : Key) (w : Work) → IsOff key w.state → IsOff key (dispatch key w).state
unfolding dispatch
dispatch_off key w is = on_each (λ v. IsOff key v.state) (transaction_of key w.state) _ w is (λ t found. dispatched_off key t.place t.phase w is)

pub leave_whole : (key : Key) (t : Transaction) (w : Work) (party : PartyPlace → Option Ballot → Bool) → Around key w.state → Owned (may_leave_above t.origin) is_gone_part party key t w.state → Whole (leave key w).state
unfolding leave react
leave_whole key t w party around owned =
    let v = react needs_nothing key w in
    let here = react_around w.state needs_nothing needs_nothing_so key around in
    let own = react_owned w.state needs_nothing needs_nothing_so key around (may_leave_above t.origin) is_gone is_gone_part is_gone_part party t (above_gone t.origin) parts_gone owned in
    let gone = dispatch_off key v (record { around = here; off = none_on key t v.state party here own }) in
    end_whole key (dispatch key v).state gone.off gone.around

-- DONE

gone_above : (from : Origin) (link : Link) → is_superior Committed from link ≡ true → is_gone link ≡ true
gone_above from Gone is = refl
gone_above from link is = absurd (cc)

waits_for_yes : (link : Link) (answer : Option Ballot) → is_part Committed link answer ≡ true → is_gone link ≡ false → is_yes answer ≡ true
waits_for_yes (Awaits state.Prepared (Some awaited.Commit)) (Some Yes) is here = refl
waits_for_yes (Awaits state.Idle (Some awaited.Reconnect)) (Some Yes) is here = refl
waits_for_yes Gone answer is here = absurd (cc)
waits_for_yes link answer is here = absurd (cc)

told_gone : (link : Link) (answer : Option Ballot) → not true || may_have_acknowledged Committed link answer ≡ true → is_gone link ≡ true
told_gone Gone answer may = refl
told_gone link answer may = absurd (cc)

-- who has acknowledged, or needs nothing, is gone
gone_part : (link : Link) (answer : Option Ballot) (told : Bool) → is_part Committed link answer ≡ true → not told || may_have_acknowledged Committed link answer ≡ true → (is_yes answer ≡ true → told ≡ true) → is_gone link ≡ true
gone_part link answer told is may done = step (is_gone link) refl where
  step : (b : Bool) → is_gone link ≡ b → b ≡ true
  step true gone = refl
  step false here = sym here ∙ told_gone link answer (subst (λ t. not t || may_have_acknowledged Committed link answer ≡ true) (done (waits_for_yes link answer is here)) may)

module _ (key : Key) (cs : List Connection) where
  all_gone : (place number : ℕ) (parts : List Participant) → list_all (λ (s : ℕ × Participant). s.1.acknowledged) (willing_from number parts) ≡ true → parts_from (is_part_in Committed) place parts key cs ≡ true → parts_from is_gone_part place parts key cs ≡ true
  all_gone place number [] told all = refl
  all_gone place number (p ∷ parts) told all =
      let l = link (find (is_part_of key place) cs) in
      let both = and_parts (is_part_in Committed l p) (parts_from (is_part_in Committed) (place + 1) parts key cs) all in
      let a = and_parts (is_part Committed l p.answer && (not p.acknowledged || may_have_acknowledged Committed l p.answer)) (is_named l p) both.0 in
      let b = and_parts (is_part Committed l p.answer) (not p.acknowledged || may_have_acknowledged Committed l p.answer) a.0 in
      let rest = told_rest (is_yes p.answer) told in
      and_from _ _ (gone_part l p.answer p.acknowledged b.0 b.1 (λ agreed. told_first (is_yes p.answer) agreed told)) (all_gone (place + 1) (number + 1) parts rest both.1) where
        told_first : (b : Bool) → b ≡ true → list_all (λ (s : ℕ × Participant). s.1.acknowledged) (cond b ((number, p) ∷ willing_from (number + 1) parts) (willing_from (number + 1) parts)) ≡ true → p.acknowledged ≡ true
        told_first true agreed told = (and_parts p.acknowledged _ told).0
        told_first false agreed told = absurd (cc)

        told_rest : (b : Bool) → list_all (λ (s : ℕ × Participant). s.1.acknowledged) (cond b ((number, p) ∷ willing_from (number + 1) parts) (willing_from (number + 1) parts)) ≡ true → list_all (λ (s : ℕ × Participant). s.1.acknowledged) (willing_from (number + 1) parts) ≡ true
        told_rest true told = (and_parts p.acknowledged _ told).1
        told_rest false told = told

-- a committed transaction that is done has no connection, and ends
pub done_whole : (key : Key) (t : Transaction) (w : Work) (party : PartyPlace → Option Ballot → Bool) → is_done t ≡ true → Around key w.state → Owned (is_superior Committed t.origin) (is_part_in Committed) party key t w.state → Whole (end key w).state
done_whole key t w party done around owned = end_whole key w.state (none_on key t w.state party around gone) around where
  told : list_all (λ (s : ℕ × Participant). s.1.acknowledged) (subordinates t) ≡ true
  told = (and_parts (is_spent t.place) (list_all (λ (s : ℕ × Participant). s.1.acknowledged) (subordinates t)) done).1

  parts : (ps : List Participant) → list_all (λ (s : ℕ × Participant). s.1.acknowledged) (willing_from 1 (drop 1 ps)) ≡ true → have_parts (is_part_in Committed) party t.place ps key w.state.connections ≡ true → have_parts is_gone_part party t.place ps key w.state.connections ≡ true
  parts [] told all = absurd (cc)
  parts (local ∷ ps) told all = let both = and_parts (party t.place local.answer) (parts_from (is_part_in Committed) 1 ps key w.state.connections) all in and_from _ _ both.0 (all_gone key w.state.connections 1 1 ps told both.1)

  gone : Owned is_gone is_gone_part party key t w.state
  gone = record { found = owned.found; above = gone_above t.origin _ owned.above; parts = parts t.parts told owned.parts; own = owned.own }
