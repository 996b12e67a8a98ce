-- All of a realm but one transaction, as a rule goes on that works on that one.
use Rattle.std.proofs.Common.{◌≡◌, Bool, true, false, ℕ, ◌+◌, List, [], ◌∷◌, Option, Some, None, cond, refl, ap, subst, sym, arith, ◌∙◌, ◌⊎◌, inl, inr}
use Rattle.std.specs.Prelude.{◌&&◌, ◌||◌, ◌==◌, not, find, length, nat_le, nat_lt, is_some}
use Rattle.std.specs.List.{list_all, list_any}
use Rattle.std.specs.Option.{option_map_or}
use Rattle.std.proofs.lemmas.Bool.{and_from, and_parts, both_ways, not-true, or_left, or_right, or_parts, cases_Bool}
use Rattle.std.proofs.lemmas.Bool.Decides.{nat_tests}
use Rattle.std.proofs.lemmas.Option.{same_Some}
use Rattle.tip_rows.specs.Keys.{Key, is_same}
use Rattle.tip_rows.proofs.OrderLemmas.{same_key}
use Rattle.tip_table.specs.Lists.{changed, without}
use Rattle.tip_conn.specs.declared.state.Side.{Side}
use Rattle.tip_txn.specs.declared.answer.Phase.{Phase}
use Rattle.tip_txn.specs.declared.answer.Phase.TheVariants as phase
use Rattle.tip_txn.specs.declared.part.Participant.{Participant}
use Rattle.tip_machine.specs.Connections.{asks_for, has_number, is_on, is_part_of, is_secondary, is_superior_of, names, reaches}
use Rattle.tip_machine.specs.Invariants.Links.{are_distinct, is_connected, is_role_in, is_same_role, link}
use Rattle.tip_machine.specs.Invariants.Parties.{is_its_own}
use Rattle.tip_machine.specs.Invariants.Phases.{are_parts, are_parts_from, has_come_to, has_its_address, is_over, is_part_in, is_party, is_superior, is_transaction}
use Rattle.tip_machine.specs.States.{State, connection_of, transaction_of}
use Rattle.tip_machine.specs.Transactions.{decision_of, has_key, is_spent}
use Rattle.tip_machine.specs.Types.{Connection, PartyPlace, Transaction}
use Rattle.tip_machine.specs.declared.connection.Role.{Role}
use Rattle.tip_machine.specs.declared.connection.Role.TheVariants.{Superior, Subordinate}
use Rattle.tip_machine.specs.declared.transaction.PartyPlace.TheVariants.{Here, Out, Spent}
use Rattle.tip_machine.proofs.Lists.{find-changed, find-without}
use Rattle.tip_machine.proofs.Walks.{found_changed, found_passes}
use Rattle.tip_agreement.proofs.Apart.{all_changed, all_of_none, all_more, all_without}
use Rattle.tip_agreement.proofs.Found.{any_apart, any_left, apart_less, apart_set, find_apart, find_left}
use Rattle.tip_agreement.proofs.Keys.{keys_changed, keys_of, apart_without}

pub le_self : (n : ℕ) → nat_le n n ≡ true
le_self n = grind (arith, nat_tests)

-- Roles

-- on one role
abbrev pub clash : Option Role → Option Role → Bool
clash None that = false
clash (Some this) None = false
clash (Some this) (Some that) = is_same_role this that

abbrev pub clashes : Connection → Connection → Bool
clashes c d = clash c.role d.role

-- a subordinate is asked by us
abbrev pub asks_as : Option Role → Side → Bool
asks_as None side = true
asks_as (Some (Superior key)) side = true
asks_as (Some (Subordinate key part)) side = not (is_secondary side)

abbrev pub is_placed : State → Option Role → Bool
is_placed state None = true
is_placed state (Some role) = is_role_in state role

-- a connection as it stands, on a transaction or on none
abbrev pub stands : State → Connection → Bool
stands state c = is_connected c && asks_as c.role c.side && is_placed state c.role

-- it is on this transaction, or on none
abbrev pub beside : Key → Option Role → Bool
beside key None = true
beside key (Some role) = names key (Some role)

abbrev pub is_other : Key → State → Transaction → Bool
is_other key state t = has_key key t || is_transaction state t

-- ALL BUT THE TRANSACTION OF THIS KEY
pub record Around (key : Key) (state : State) : Type 0 where
  pub keys : are_distinct is_same (keys_of state.transactions) ≡ true
  pub apart : are_distinct clashes state.connections ≡ true
  pub standing : list_all (stands state) state.connections ≡ true
  pub others : list_all (is_other key state) state.transactions ≡ true

-- what a transaction sees of a state is the same in both
pub record Alike (key : Key) (old new : State) : Type 0 where
  pub epoch : new.head.epoch ≡ old.head.epoch
  pub name : new.head.name ≡ old.head.name
  pub superior : find (is_superior_of key) new.connections ≡ find (is_superior_of key) old.connections
  pub part : (place : ℕ) → find (is_part_of key place) new.connections ≡ find (is_part_of key place) old.connections
  pub on : list_any (is_on key) new.connections ≡ list_any (is_on key) old.connections

module _ (old new : State) (t : Transaction) (alike : Alike t.key old new) where
  same_parts : (place : ℕ) (parts : List Participant) → are_parts_from place parts new t ≡ are_parts_from place parts old t
  same_parts place [] = refl
  same_parts place (part ∷ parts) = λ i. is_part_in t.phase (link (alike.part place i)) part && same_parts (place + 1) parts i

  same_all : (parts : List Participant) → are_parts parts new t ≡ are_parts parts old t
  same_all [] = refl
  same_all (local ∷ parts) = ap (λ b. is_party t.phase t.place local.answer && b) (same_parts 1 parts)

  same_own : (place : PartyPlace) → is_its_own new t place ≡ is_its_own old t place
  same_own (Here party) = rw (alike.epoch, alike.name) refl
  same_own (Out errand) = refl
  same_own Spent = refl

  same_over : (phase : Phase) → is_over phase new t ≡ is_over phase old t
  same_over phase.Active = refl
  same_over phase.Asking = refl
  same_over phase.Prepared = refl
  same_over phase.Committed = refl
  same_over phase.Aborted = ap (λ b. is_spent t.place && not b) alike.on

  pub same_transaction : is_transaction new t ≡ is_transaction old t
  same_transaction = λ i. is_superior t.phase t.origin (link (alike.superior i)) && has_its_address t.phase t.origin (alike.superior i) && same_own t.place i && same_all t.parts i && has_come_to t.phase (decision_of t) && not (same_over t.phase i)

pub turned_about : (key other : Key) → is_same key other ≡ false → is_same other key ≡ false
turned_about key other differ = grind (arith, nat_tests)

differs_from : (key other at : Key) → is_same key at ≡ true → is_same key other ≡ false → is_same other at ≡ false
differs_from key other at same differ = subst (λ k. is_same other k ≡ false) (same_key key at same) (turned_about key other differ)

-- one that is on this transaction, or on none, is not on another
pub on_no_other : (key other : Key) (role : Option Role) → beside key role ≡ true → is_same key other ≡ false → (asks_for other role ≡ false) × ((place : ℕ) → reaches other place role ≡ false) × (names other role ≡ false)
on_no_other key other None is differ = (refl, λ place. refl, refl)
on_no_other key other (Some (Superior at)) is differ = let apart = differs_from key other at is differ in (apart, λ place. refl, apart)
on_no_other key other (Some (Subordinate at part)) is differ = let apart = differs_from key other at is differ in (refl, λ place. ap (λ b. b && (place == part)) apart, apart)

pub others_still : (key : Key) (old new : State) (ts : List Transaction) → ((other : Key) → is_same key other ≡ false → Alike other old new) → list_all (is_other key old) ts ≡ true → list_all (is_other key new) ts ≡ true
others_still key old new ts alike all = all_more _ _ ts (λ t is. step t (is_same key t.key) refl is) all where
  step : (t : Transaction) (b : Bool) → is_same key t.key ≡ b → is_other key old t ≡ true → is_other key new t ≡ true
  step t true same is = or_left _ _ same
  step t false differs is = let e : is_other key old t ≡ is_transaction old t = rw differs refl in or_right _ _ (same_transaction old new t (alike t.key differs) ∙ (sym e ∙ is))

-- a role that names what is there names it still
abbrev pub RolesStay : State → State → Type 0
RolesStay old new = (role : Role) → is_role_in old role ≡ true → is_role_in new role ≡ true

placed_still : (old new : State) (role : Option Role) → RolesStay old new → is_placed old role ≡ true → is_placed new role ≡ true
placed_still old new None stay is = refl
placed_still old new (Some role) stay is = stay role is

pub stands_still : (old new : State) (c : Connection) → RolesStay old new → stands old c ≡ true → stands new c ≡ true
stands_still old new c stay is = let parts = and_parts (is_connected c && asks_as c.role c.side) (is_placed old c.role) is in and_from _ _ parts.0 (placed_still old new c.role stay parts.1)

pub all_stand_still : (old new : State) (cs : List Connection) → RolesStay old new → list_all (stands old) cs ≡ true → list_all (stands new) cs ≡ true
all_stand_still old new cs stay all = all_more (stands old) (stands new) cs (λ c. stands_still old new c stay) all

pub same_roles : (old new : State) → new.transactions ≡ old.transactions → RolesStay old new
same_roles old new same (Superior key) is = rw same is
same_roles old new same (Subordinate key part) is = rw same is

-- Single changes of connections

module _ (key : Key) (s : State) where
  abbrev pub with_connections : List Connection → State
  with_connections cs = record s { connections = cs }

  pub alike_set : (n : ℕ) (f : Connection → Connection) (c : Connection) → connection_of n s ≡ Some c → beside key c.role ≡ true → beside key (f c).role ≡ true → (other : Key) → is_same key other ≡ false → Alike other s (with_connections (changed (has_number n) f s.connections))
  alike_set n f c found before after other differ =
      let was = on_no_other key other c.role before differ in
      let is = on_no_other key other (f c).role after differ in
      record {
        epoch = refl;
        name = refl;
        superior = find_apart (is_superior_of other) (has_number n) f s.connections c found was.0 is.0;
        part = λ place. find_apart (is_part_of other place) (has_number n) f s.connections c found (was.1 place) (is.1 place);
        on = any_apart (is_on other) (has_number n) f s.connections c found was.2 is.2;
      }

  pub alike_taken : (n : ℕ) (c : Connection) → connection_of n s ≡ Some c → beside key c.role ≡ true → (other : Key) → is_same key other ≡ false → Alike other s (with_connections (without (has_number n) s.connections))
  alike_taken n c found before other differ =
      let was = on_no_other key other c.role before differ in
      record {
        epoch = refl;
        name = refl;
        superior = find_left (is_superior_of other) (has_number n) s.connections c found was.0;
        part = λ place. find_left (is_part_of other place) (has_number n) s.connections c found (was.1 place);
        on = any_left (is_on other) (has_number n) s.connections c found was.2;
      }

  pub stand_with : (cs : List Connection) → list_all (stands s) cs ≡ true → list_all (stands (with_connections cs)) cs ≡ true
  stand_with cs all = all_stand_still s (with_connections cs) cs (same_roles s (with_connections cs) refl) all

  -- a connection that is taken out
  pub taken : (n : ℕ) (c : Connection) → connection_of n s ≡ Some c → beside key c.role ≡ true → Around key s → Around key (with_connections (without (has_number n) s.connections))
  taken n c found on around = record {
    keys = around.keys;
    apart = apart_less clashes (has_number n) s.connections around.apart;
    standing = stand_with (without (has_number n) s.connections) (all_without (stands s) (has_number n) s.connections around.standing);
    others = others_still key s _ s.transactions (alike_taken n c found on) around.others;
  }

  implied : (b : Bool) → not b || b ≡ true
  implied true = refl
  implied false = refl

  clear : (r : Option Role) (b : Bool) → not (clash r None) || b ≡ true
  clear None b = refl
  clear (Some r) b = refl

  all_of : (p : Connection → Bool) → ((d : Connection) → p d ≡ true) → (cs : List Connection) → list_all p cs ≡ true
  all_of p each [] = refl
  all_of p each (d ∷ cs) = and_from _ _ (each d) (all_of p each cs)

  -- the connection that was found changes: it keeps its role, or leaves it
  pub set : (n : ℕ) (f : Connection → Connection) (c : Connection) → connection_of n s ≡ Some c → beside key c.role ≡ true → ((f c).role ≡ c.role) ⊎ ((f c).role ≡ None) → stands s (f c) ≡ true → Around key s → Around key (with_connections (changed (has_number n) f s.connections))
  set n f c found on role stand around = record {
    keys = around.keys;
    apart = apart_set clashes (has_number n) f s.connections c found (all_of _ (before role) s.connections) (all_of _ (behind role) s.connections) around.apart;
    standing = stand_with (changed (has_number n) f s.connections) (all_changed (stands s) (has_number n) f s.connections (λ d is was. subst (λ e. stands s (f e) ≡ true) (same_Some c d (sym found ∙ is)) stand) around.standing);
    others = others_still key s _ s.transactions (alike_set n f c found on (stays role)) around.others;
  } where
    before : ((f c).role ≡ c.role) ⊎ ((f c).role ≡ None) → (d : Connection) → not (clash d.role (f c).role) || clash d.role c.role ≡ true
    before (inl same) d = rw same (implied (clash d.role c.role))
    before (inr none) d = rw none (clear d.role (clash d.role c.role))

    behind : ((f c).role ≡ c.role) ⊎ ((f c).role ≡ None) → (d : Connection) → not (clash (f c).role d.role) || clash c.role d.role ≡ true
    behind (inl same) d = rw same (implied (clash c.role d.role))
    behind (inr none) d = rw none refl

    stays : ((f c).role ≡ c.role) ⊎ ((f c).role ≡ None) → beside key (f c).role ≡ true
    stays (inl same) = ap (beside key) same ∙ on
    stays (inr none) = ap (beside key) none

  -- it takes a role that none has
  pub take : (n : ℕ) (f : Connection → Connection) (c : Connection) (role : Role) → connection_of n s ≡ Some c → c.role ≡ None → (f c).role ≡ Some role → names key (Some role) ≡ true → list_any (λ (d : Connection). clash d.role (Some role)) s.connections ≡ false → list_any (λ (d : Connection). clash (Some role) d.role) s.connections ≡ false → stands s (f c) ≡ true → Around key s → Around key (with_connections (changed (has_number n) f s.connections))
  take n f c role found none takes on before behind stand around = record {
    keys = around.keys;
    apart = apart_set clashes (has_number n) f s.connections c found (all_of_none _ _ s.connections (λ d differs. rw (takes, differs) refl) before) (all_of_none _ _ s.connections (λ d differs. rw (takes, differs) refl) behind) around.apart;
    standing = stand_with (changed (has_number n) f s.connections) (all_changed (stands s) (has_number n) f s.connections (λ d is was. subst (λ e. stands s (f e) ≡ true) (same_Some c d (sym found ∙ is)) stand) around.standing);
    others = others_still key s _ s.transactions (alike_set n f c found (ap (beside key) none) (ap (beside key) takes ∙ on)) around.others;
  }

-- Single changes of the transaction

-- ALL OF A REALM
pub record Whole (state : State) : Type 0 where
  pub keys : are_distinct is_same (keys_of state.transactions) ≡ true
  pub apart : are_distinct clashes state.connections ≡ true
  pub standing : list_all (stands state) state.connections ≡ true
  pub transactions : list_all (is_transaction state) state.transactions ≡ true

pub around_of : (key : Key) (s : State) → Whole s → Around key s
around_of key s whole = record { keys = whole.keys; apart = whole.apart; standing = whole.standing; others = all_more _ _ s.transactions (λ t is. or_right _ _ is) whole.transactions }

module _ (key : Key) (s : State) where
  other_one : (t : Transaction) → has_key key t ≡ false → is_other key s t ≡ true → is_transaction s t ≡ true
  other_one t differs is = let e : is_other key s t ≡ is_transaction s t = rw differs refl in sym e ∙ is

  none_more : (at : Key) (ts : List Transaction) → key ≡ at → list_any (is_same at) (keys_of ts) ≡ false → list_all (is_other key s) ts ≡ true → list_all (is_transaction s) ts ≡ true
  none_more at [] same none all = refl
  none_more at (t ∷ ts) same none all =
      let parts = and_parts (is_other key s t) (list_all (is_other key s) ts) all in
      let apart = or_parts (is_same at t.key) (list_any (is_same at) (keys_of ts)) none in
      and_from _ _ (other_one t (ap (λ k. is_same k t.key) same ∙ apart.0) parts.0) (none_more at ts same apart.1 parts.1)

  whole_with : (ts : List Transaction) (t : Transaction) → find (has_key key) ts ≡ Some t → are_distinct is_same (keys_of ts) ≡ true → is_transaction s t ≡ true → list_all (is_other key s) ts ≡ true → list_all (is_transaction s) ts ≡ true
  whole_with [] t found apart is all = refl
  whole_with (u ∷ ts) t found apart is all =
      let keys = and_parts (not (list_any (is_same u.key) (keys_of ts))) (are_distinct is_same (keys_of ts)) apart in
      let parts = and_parts (is_other key s u) (list_all (is_other key s) ts) all in
      step (has_key key u) refl found (λ later. whole_with ts t later keys.1 is parts.1) (not-true _ keys.0) parts.0 parts.1 where
        step : (b : Bool) → has_key key u ≡ b → cond b (Some u) (find (has_key key) ts) ≡ Some t → (find (has_key key) ts ≡ Some t → list_all (is_transaction s) ts ≡ true) → list_any (is_same u.key) (keys_of ts) ≡ false → is_other key s u ≡ true → list_all (is_other key s) ts ≡ true → list_all (is_transaction s) (u ∷ ts) ≡ true
        step true here found later none first rest = and_from _ _ (subst (λ v. is_transaction s v ≡ true) (sym (same_Some u t found)) is) (none_more u.key ts (same_key key u.key here) none rest)
        step false differs found later none first rest = and_from _ _ (other_one u differs first) (later found)

  whole_without : (ts : List Transaction) → are_distinct is_same (keys_of ts) ≡ true → list_all (is_other key s) ts ≡ true → list_all (is_transaction s) (without (has_key key) ts) ≡ true
  whole_without [] apart all = refl
  whole_without (u ∷ ts) apart all =
      let keys = and_parts (not (list_any (is_same u.key) (keys_of ts))) (are_distinct is_same (keys_of ts)) apart in
      let parts = and_parts (is_other key s u) (list_all (is_other key s) ts) all in
      step (has_key key u) refl (whole_without ts keys.1 parts.1) (not-true _ keys.0) parts.0 parts.1 where
        step : (b : Bool) → has_key key u ≡ b → list_all (is_transaction s) (without (has_key key) ts) ≡ true → list_any (is_same u.key) (keys_of ts) ≡ false → is_other key s u ≡ true → list_all (is_other key s) ts ≡ true → list_all (is_transaction s) (cond b ts (u ∷ without (has_key key) ts)) ≡ true
        step true here later none first rest = none_more u.key ts (same_key key u.key here) none rest
        step false differs later none first rest = and_from _ _ (other_one u differs first) later

  pub whole_of : (t : Transaction) → transaction_of key s ≡ Some t → is_transaction s t ≡ true → Around key s → Whole s
  whole_of t found is around = record { keys = around.keys; apart = around.apart; standing = around.standing; transactions = whole_with s.transactions t found around.keys is around.others }

  abbrev pub with_transactions : List Transaction → State
  with_transactions ts = record s { transactions = ts }

  alike_self : (ts : List Transaction) (other : Key) → Alike other s (with_transactions ts)
  alike_self ts other = record { epoch = refl; name = refl; superior = refl; part = λ place. refl; on = refl }

  -- the transaction is altered

  abbrev pub altered : (Transaction → Transaction) → State
  altered f = with_transactions (changed (has_key key) f s.transactions)

  pub other_found : (f : Transaction → Transaction) → ((t : Transaction) → (f t).key ≡ t.key) → (other : Key) → is_same key other ≡ false → transaction_of other (altered f) ≡ transaction_of other s
  other_found f same other differ = find-changed (has_key other) (has_key key) f s.transactions (λ t here. let apart = differs_from key other t.key here differ in (apart, ap (is_same other) (same t) ∙ apart))

  pub found_altered : (f : Transaction → Transaction) → ((t : Transaction) → (f t).key ≡ t.key) → (t : Transaction) → transaction_of key s ≡ Some t → transaction_of key (altered f) ≡ Some (f t)
  found_altered f same t found = found_changed key f s.transactions t found (ap (is_same key) (same t) ∙ found_passes (has_key key) s.transactions t found)

  record Still (f : Transaction → Transaction) (other : Key) (t : Transaction) : Type 0 where
    now : Transaction
    found : transaction_of other (altered f) ≡ Some now
    longer : nat_le (length t.parts) (length now.parts) ≡ true

  still_found : (f : Transaction → Transaction) → ((t : Transaction) → (f t).key ≡ t.key) → ((t : Transaction) → nat_le (length t.parts) (length (f t).parts) ≡ true) → (other : Key) (t : Transaction) → transaction_of other s ≡ Some t → Still f other t
  still_found f same more other t found = elim (cases_Bool (is_same key other)) [
    | inl here ↦ let at = same_key key other here in record { now = f t; found = subst (λ k. transaction_of k (altered f) ≡ Some (f t)) at (found_altered f same t (subst (λ k. transaction_of k s ≡ Some t) (sym at) found)); longer = more t }
    | inr differ ↦ record { now = t; found = other_found f same other differ ∙ found; longer = le_self (length t.parts) }
  ]

  less_still : (part these those : ℕ) → nat_lt part these ≡ true → nat_le these those ≡ true → nat_lt part those ≡ true
  less_still part these those less le = grind (arith, nat_tests)

  roles_altered : (f : Transaction → Transaction) → ((t : Transaction) → (f t).key ≡ t.key) → ((t : Transaction) → nat_le (length t.parts) (length (f t).parts) ≡ true) → RolesStay s (altered f)
  roles_altered f same more (Superior other) is = step (transaction_of other s) refl is where
    step : (found : Option Transaction) → transaction_of other s ≡ found → is_some found ≡ true → is_some (transaction_of other (altered f)) ≡ true
    step None none is = absurd (cc)
    step (Some t) found is = ap is_some (still_found f same more other t found).found
  roles_altered f same more (Subordinate other part) is = step (transaction_of other s) refl is where
    step : (found : Option Transaction) → transaction_of other s ≡ found → nat_le 1 part && option_map_or (λ t. nat_lt part (length t.parts)) found false ≡ true → nat_le 1 part && option_map_or (λ t. nat_lt part (length t.parts)) (transaction_of other (altered f)) false ≡ true
    step None none is = absurd (both_ways false refl (and_parts (nat_le 1 part) false is).1)
    step (Some t) found is =
        let at = still_found f same more other t found in
        let parts = and_parts (nat_le 1 part) (nat_lt part (length t.parts)) is in
        rw at.found (and_from _ _ parts.0 (less_still part (length t.parts) (length at.now.parts) parts.1 at.longer))

  pub alter_around : (f : Transaction → Transaction) → ((t : Transaction) → (f t).key ≡ t.key) → ((t : Transaction) → nat_le (length t.parts) (length (f t).parts) ≡ true) → Around key s → Around key (altered f)
  alter_around f same more around = record {
    keys = rw (keys_changed (has_key key) f s.transactions same) around.keys;
    apart = around.apart;
    standing = all_stand_still s (altered f) s.connections (roles_altered f same more) around.standing;
    others = others_still key s (altered f) (changed (has_key key) f s.transactions) (λ other differ. alike_self _ other) (all_changed (is_other key s) (has_key key) f s.transactions (λ t found was. or_left _ _ (ap (is_same key) (same t) ∙ found_passes (has_key key) s.transactions t found)) around.others);
  }

  -- the transaction is over

  abbrev pub ended : State
  ended = with_transactions (without (has_key key) s.transactions)

  pub other_left : (other : Key) → is_same key other ≡ false → transaction_of other ended ≡ transaction_of other s
  other_left other differ = find-without (has_key other) (has_key key) s.transactions (λ t here. differs_from key other t.key here differ)

  role_left : (role : Option Role) → names key role ≡ false → is_placed s role ≡ true → is_placed ended role ≡ true
  role_left None off is = refl
  role_left (Some (Superior other)) off is = ap is_some (other_left other off) ∙ is
  role_left (Some (Subordinate other part)) off is = ap (λ found. nat_le 1 part && option_map_or (λ (t : Transaction). nat_lt part (length t.parts)) found false) (other_left other off) ∙ is

  off_stand : (cs : List Connection) → list_any (is_on key) cs ≡ false → list_all (stands s) cs ≡ true → list_all (stands ended) cs ≡ true
  off_stand [] off all = refl
  off_stand (c ∷ cs) off all =
      let none = or_parts (is_on key c) (list_any (is_on key) cs) off in
      let parts = and_parts (stands s c) (list_all (stands s) cs) all in
      let is = and_parts (is_connected c && asks_as c.role c.side) (is_placed s c.role) parts.0 in
      and_from _ _ (and_from _ _ is.0 (role_left c.role none.0 is.1)) (off_stand cs none.1 parts.1)

  pub end_whole : list_any (is_on key) s.connections ≡ false → Around key s → Whole ended
  end_whole off around = record {
    keys = apart_without (has_key key) s.transactions around.keys;
    apart = around.apart;
    standing = off_stand s.connections off around.standing;
    transactions = all_more _ _ (without (has_key key) s.transactions) (λ t is. same_transaction s ended t (alike_self _ t.key) ∙ is) (whole_without s.transactions around.keys around.others);
  }
