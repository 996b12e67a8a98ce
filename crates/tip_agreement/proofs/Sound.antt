-- A realm is whole where the invariants of its roles, its connections and its transactions hold.
use Rattle.std.proofs.Common.{◌≡◌, ◌≤◌, ◌<◌, Bool, true, false, ℕ, ◌+◌, suc, List, [], ◌∷◌, Option, Some, None, cond, refl, ap, subst, sym, arith, ◌∙◌, inl, inr}
use Rattle.std.specs.Prelude.{◌&&◌, ◌||◌, not, find, filter_map, is_some, length, nat_le, nat_lt}
use Rattle.std.specs.List.{list_all, list_any}
use Rattle.std.specs.Option.{option_map_or}
use Rattle.std.proofs.lemmas.Bool.{and_from, and_parts, both_ways, cases_eq, not-true, or_parts}
use Rattle.std.proofs.lemmas.Bool.Decides.{nat_tests}
use Rattle.std.proofs.lemmas.Option.{none-some, same_Some}
use Rattle.tip_rows.specs.Keys.{Key, is_same}
use Rattle.tip_rows.proofs.OrderLemmas.{same_key}
use Rattle.tip_conn.specs.declared.state.Side.{Side}
use Rattle.tip_conn.specs.declared.state.Side.TheVariants.{Primary, Secondary}
use Rattle.tip_conn.specs.declared.state.State.{State as ConnectionState}
use Rattle.tip_line.specs.declared.command.CommandName.{CommandName}
use Rattle.tip_txn.specs.declared.answer.Ballot.{Ballot}
use Rattle.tip_txn.specs.declared.answer.Phase.{Phase}
use Rattle.tip_txn.specs.declared.answer.Phase.TheVariants.{Active, Asking, Prepared, Committed, Aborted}
use Rattle.tip_txn.specs.declared.part.Participant.{Participant}
use Rattle.tip_machine.specs.Connections.{is_part_of}
use Rattle.tip_machine.specs.Invariants.Links.{Link, are_distinct, have_roles, is_connected, is_role_in, is_same_role, link, link_on, roles_of}
use Rattle.tip_machine.specs.Invariants.Links.Link.{Owes}
use Rattle.tip_machine.specs.Invariants.Phases.{is_part, is_part_in, is_party, is_transaction}
use Rattle.tip_machine.specs.States.{State, transaction_of}
use Rattle.tip_machine.specs.Transactions.{has_key}
use Rattle.tip_machine.specs.Types.{Connection, PartyPlace, Transaction}
use Rattle.tip_machine.specs.declared.connection.Role.{Role}
use Rattle.tip_machine.specs.declared.connection.Role.TheVariants.{Superior, Subordinate}
use Rattle.tip_machine.proofs.Lists.{find_any, none-found}
use Rattle.tip_machine.proofs.Walks.{found_passes}
use Rattle.tip_agreement.proofs.Apart.{all_both, all_found, all_more, all_of_none}
use Rattle.tip_agreement.proofs.Around.{Whole, asks_as, clash, clashes, is_placed, stands}
use Rattle.tip_agreement.proofs.Found.{Once}
use Rattle.tip_agreement.proofs.Keys.{keys_of}
use Rattle.tip_agreement.proofs.Keys.{key_self}
use Rattle.tip_agreement.proofs.Owned.{have_parts, in_phase, once_part, parts_from, place_self}

-- three of the invariants, which hold only together
pub record IsWhole (state : State) : Type 0 where
  pub roles : have_roles state ≡ true
  pub connections : list_all is_connected state.connections ≡ true
  pub transactions : list_all (is_transaction state) state.transactions ≡ true

-- Roles, as they are listed

any_role : (role : Role) (cs : List Connection) → list_any (is_same_role role) (filter_map (λ (c : Connection). c.role) cs) ≡ list_any (λ (c : Connection). clash (Some role) c.role) cs
any_role role [] = refl
any_role role (c ∷ cs) = step (any_role role cs) c.role refl where
  step : list_any (is_same_role role) (filter_map (λ (c : Connection). c.role) cs) ≡ list_any (λ (c : Connection). clash (Some role) c.role) cs → (at : Option Role) → c.role ≡ at → list_any (is_same_role role) (filter_map (λ (c : Connection). c.role) (c ∷ cs)) ≡ clash (Some role) c.role || list_any (λ (c : Connection). clash (Some role) c.role) cs
  step rest None at = rw at rest
  step rest (Some other) at = rw at (ap (λ b. is_same_role role other || b) rest)

none_clash : (cs : List Connection) → list_any (λ (c : Connection). clash None c.role) cs ≡ false
none_clash [] = refl
none_clash (c ∷ cs) = none_clash cs

roles_apart : (cs : List Connection) → are_distinct is_same_role (filter_map (λ (c : Connection). c.role) cs) ≡ are_distinct clashes cs
roles_apart [] = refl
roles_apart (c ∷ cs) = step (roles_apart cs) c.role refl where
  step : are_distinct is_same_role (filter_map (λ (c : Connection). c.role) cs) ≡ are_distinct clashes cs → (at : Option Role) → c.role ≡ at → are_distinct is_same_role (filter_map (λ (c : Connection). c.role) (c ∷ cs)) ≡ not (list_any (λ (d : Connection). clash c.role d.role) cs) && are_distinct clashes cs
  step rest None at = rw (at, none_clash cs) rest
  step rest (Some role) at = rw at (λ i. not (any_role role cs i) && rest i)

roles_placed : (s : State) (cs : List Connection) → list_all (is_role_in s) (filter_map (λ (c : Connection). c.role) cs) ≡ list_all (λ (c : Connection). is_placed s c.role) cs
roles_placed s [] = refl
roles_placed s (c ∷ cs) = step (roles_placed s cs) c.role refl where
  step : list_all (is_role_in s) (filter_map (λ (c : Connection). c.role) cs) ≡ list_all (λ (c : Connection). is_placed s c.role) cs → (at : Option Role) → c.role ≡ at → list_all (is_role_in s) (filter_map (λ (c : Connection). c.role) (c ∷ cs)) ≡ is_placed s c.role && list_all (λ (c : Connection). is_placed s c.role) cs
  step rest None at = rw at rest
  step rest (Some role) at = rw at (ap (λ b. is_role_in s role && b) rest)

-- One that is found by another test is the one that passes

pub found_once : (p q : Connection → Bool) (cs : List Connection) (c : Connection) → Once p cs → find q cs ≡ Some c → p c ≡ true → find p cs ≡ Some c
found_once p q [] c once is passes = absurd (none-some c is)
found_once p q (d ∷ cs) c once is passes = step (q d) (p d) refl once.0 is (found_once p q cs c once.1) where
  step : (b e : Bool) → p d ≡ e → (e ≡ true → list_any p cs ≡ false) → cond b (Some d) (find q cs) ≡ Some c → (find q cs ≡ Some c → p c ≡ true → find p cs ≡ Some c) → cond (p d) (Some d) (find p cs) ≡ Some c
  step true e here none is later = let same = same_Some d c is in subst (λ x. cond (p x) (Some x) (find p cs) ≡ Some c) (sym same) (rw passes refl)
  step false true here none is later = absurd (both_ways (p c) (none-found p q cs c is (none refl)) passes)
  step false false here none is later = rw here (later is passes)

-- A part of a transaction

pub record PartAt (table : Link → Participant → Bool) (link : Link) : Type 0 where
  pub part : Participant
  pub holds : table link part ≡ true

pub part_at : (table : Link → Participant → Bool) (start place : ℕ) (parts : List Participant) (key : Key) (cs : List Connection) → start ≤ place → place < start + length parts → parts_from table start parts key cs ≡ true → PartAt table (link (find (is_part_of key place) cs))
part_at table start place [] key cs least most all = absurd (omega (arith, least, most))
part_at table start place (p ∷ parts) key cs least most all =
    let both = and_parts (table (link (find (is_part_of key start) cs)) p) (parts_from table (start + 1) parts key cs) all in
    elim (cases_eq start place) [
      | inl same ↦ subst (λ n. PartAt table (link (find (is_part_of key n) cs))) same (record { part = p; holds = both.0 })
      | inr differ ↦ part_at table (start + 1) place parts key cs (after differ) (later (length parts) most) both.1
    ] where
      after : ¬ (start ≡ place) → start + 1 ≤ place
      after differ = omega (arith, least, differ)

      later : (n : ℕ) → place < start + suc n → place < start + 1 + n
      later n most = omega (arith, most)

pub part_held : (table : Link → Participant → Bool) (party : PartyPlace → Option Ballot → Bool) (at : PartyPlace) (place : ℕ) (parts : List Participant) (key : Key) (cs : List Connection) → nat_le 1 place ≡ true → nat_lt place (length parts) ≡ true → have_parts table party at parts key cs ≡ true → PartAt table (link (find (is_part_of key place) cs))
part_held table party at place [] key cs least most all = absurd (cc)
part_held table party at place (local ∷ parts) key cs least most all = part_at table 1 place parts key cs (grind (arith, nat_tests, least)) (further (length parts) most) (and_parts (party at local.answer) (parts_from table 1 parts key cs) all).1 where
  further : (n : ℕ) → nat_lt place (suc n) ≡ true → place < 1 + n
  further n most = grind (arith, nat_tests, most)

-- a part never owes
never_owes : (phase : Phase) (at : ConnectionState) (owed : Option CommandName) (answer : Option Ballot) → is_part phase (Owes at owed) answer ≡ true → ⊥
never_owes Active at owed answer is = cc
never_owes Asking at owed answer is = cc
never_owes Prepared at owed answer is = cc
never_owes Committed at owed answer is = cc
never_owes Aborted at owed answer is = cc

module _ (s : State) (apart : are_distinct clashes s.connections ≡ true) (placed : list_all (λ (c : Connection). is_placed s c.role) s.connections ≡ true) (transactions : list_all (is_transaction s) s.transactions ≡ true) where
  abbrev misplaced : Connection → Bool
  misplaced c = not (asks_as c.role c.side)

  none_misplaced : (c : Connection) (role : Option Role) (side : Side) → c.role ≡ role → c.side ≡ side → find misplaced s.connections ≡ Some c → is_placed s role ≡ true → asks_as role side ≡ false → ⊥
  none_misplaced c None side at on is fits never = cc
  none_misplaced c (Some (Superior key)) side at on is fits never = cc
  none_misplaced c (Some (Subordinate key place)) Primary at on is fits never = cc
  none_misplaced c (Some (Subordinate key place)) Secondary at on is fits never = step (transaction_of key s) refl both.1 where
    both : (nat_le 1 place ≡ true) × (option_map_or (λ (t : Transaction). nat_lt place (length t.parts)) (transaction_of key s) false ≡ true)
    both = and_parts (nat_le 1 place) (option_map_or (λ (t : Transaction). nat_lt place (length t.parts)) (transaction_of key s) false) fits

    there : find (is_part_of key place) s.connections ≡ Some c
    there = found_once (is_part_of key place) misplaced s.connections c (once_part key place s.connections apart) is (rw at (and_from _ _ (key_self key) (place_self place)))

    step : (found : Option Transaction) → transaction_of key s ≡ found → option_map_or (λ (t : Transaction). nat_lt place (length t.parts)) found false ≡ true → ⊥
    step None found range = cc
    step (Some t) found range =
        let known = in_phase key t s found (all_found (is_transaction s) (has_key key) s.transactions t transactions found) in
        let part = part_held (is_part_in t.phase) (is_party t.phase) t.place place t.parts key s.connections both.0 range known.owned.parts in
        let holds : is_part_in t.phase (link_on Secondary c) part.part ≡ true = subst (λ l. is_part_in t.phase l part.part ≡ true) (ap link there ∙ ap (λ side. link_on side c) on) part.holds in
        never_owes t.phase c.state c.owed part.part.answer (and_parts (is_part t.phase (link_on Secondary c) part.part.answer) _ (and_parts (is_part t.phase (link_on Secondary c) part.part.answer && _) _ holds).0).0

  all_placed : list_all (λ (c : Connection). asks_as c.role c.side) s.connections ≡ true
  all_placed = all_of_none (λ (c : Connection). asks_as c.role c.side) misplaced s.connections (λ c fits. true_of (asks_as c.role c.side) fits) (none (find misplaced s.connections) refl) where
    true_of : (b : Bool) → not b ≡ false → b ≡ true
    true_of true is = refl
    true_of false is = absurd (cc)

    none : (found : Option Connection) → find misplaced s.connections ≡ found → list_any misplaced s.connections ≡ false
    none None is = sym (find_any misplaced s.connections) ∙ ap is_some is
    none (Some c) is = absurd (none_misplaced c c.role c.side refl refl is (all_found (λ (c : Connection). is_placed s c.role) misplaced s.connections c placed is) (not-true (asks_as c.role c.side) (found_passes misplaced s.connections c is)))

-- THE SAME AS THE INVARIANTS

pub whole_from : (s : State) → are_distinct is_same (keys_of s.transactions) ≡ true → have_roles s ≡ true → list_all is_connected s.connections ≡ true → list_all (is_transaction s) s.transactions ≡ true → Whole s
whole_from s keys roles connections transactions =
    let parts = and_parts (list_all (is_role_in s) (roles_of s)) (are_distinct is_same_role (roles_of s)) roles in
    let apart = sym (roles_apart s.connections) ∙ parts.1 in
    let placed = sym (roles_placed s s.connections) ∙ parts.0 in
    record {
      keys = keys;
      apart = apart;
      standing = all_both (λ (c : Connection). is_connected c && asks_as c.role c.side) (λ (c : Connection). is_placed s c.role) s.connections (all_both is_connected (λ (c : Connection). asks_as c.role c.side) s.connections connections (all_placed s apart placed transactions)) placed;
      transactions = transactions;
    }

pub whole_to : (s : State) → Whole s → IsWhole s
whole_to s whole = record {
  roles = and_from _ _ (roles_placed s s.connections ∙ all_more (stands s) (λ (c : Connection). is_placed s c.role) s.connections (λ c is. (and_parts (is_connected c && asks_as c.role c.side) (is_placed s c.role) is).1) whole.standing) (roles_apart s.connections ∙ whole.apart);
  connections = all_more (stands s) is_connected s.connections (λ c is. (and_parts (is_connected c) (asks_as c.role c.side) (and_parts (is_connected c && asks_as c.role c.side) (is_placed s c.role) is).0).0) whole.standing;
  transactions = whole.transactions;
}

-- a transaction that is found by whatever test is the one of its key
pub found_own : (test : Transaction → Bool) (t : Transaction) (all : List Transaction) → are_distinct is_same (keys_of all) ≡ true → find test all ≡ Some t → find (has_key t.key) all ≡ Some t
found_own test t all apart is = step all apart is where
  step : (ts : List Transaction) → are_distinct is_same (keys_of ts) ≡ true → find test ts ≡ Some t → find (has_key t.key) ts ≡ Some t
  step [] apart is = absurd (none-some t is)
  step (u ∷ ts) apart is = first (test u) is (has_key t.key u) refl (step ts (and_parts (not (list_any (is_same u.key) (keys_of ts))) (are_distinct is_same (keys_of ts)) apart).1) (not-true _ (and_parts (not (list_any (is_same u.key) (keys_of ts))) (are_distinct is_same (keys_of ts)) apart).0) where
    absent : (us : List Transaction) → list_any (is_same u.key) (keys_of us) ≡ false → find test us ≡ Some t → is_same u.key t.key ≡ false
    absent [] none is = absurd (none-some t is)
    absent (v ∷ us) none is = let parts = or_parts (is_same u.key v.key) (list_any (is_same u.key) (keys_of us)) none in second (test v) is parts.0 (absent us parts.1) where
      second : (b : Bool) → cond b (Some v) (find test us) ≡ Some t → is_same u.key v.key ≡ false → (find test us ≡ Some t → is_same u.key t.key ≡ false) → is_same u.key t.key ≡ false
      second true is differs later = subst (λ x. is_same u.key x.key ≡ false) (same_Some v t is) differs
      second false is differs later = later is

    first : (b : Bool) → cond b (Some u) (find test ts) ≡ Some t → (e : Bool) → has_key t.key u ≡ e → (find test ts ≡ Some t → find (has_key t.key) ts ≡ Some t) → list_any (is_same u.key) (keys_of ts) ≡ false → cond (has_key t.key u) (Some u) (find (has_key t.key) ts) ≡ Some t
    first true is e here later none = let same = same_Some u t is in subst (λ x. cond (has_key x.key u) (Some u) (find (has_key x.key) ts) ≡ Some x) same (rw (key_self u.key) refl)
    first false is false here later none = rw here (later is)
    first false is true here later none = absurd (both_ways (is_same u.key t.key) (absent ts none is) (subst (λ k. is_same k t.key ≡ true) (same_key t.key u.key here) (key_self t.key)))

pub found_by : (test : Transaction → Bool) (s : State) (t : Transaction) → Whole s → find test s.transactions ≡ Some t → transaction_of t.key s ≡ Some t
found_by test s t whole is = found_own test t s.transactions whole.keys is
