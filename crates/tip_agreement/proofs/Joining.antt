-- A connection that was on no transaction comes to one.
use Rattle.std.proofs.Common.{◌≡◌, ◌<◌, Bool, true, false, ℕ, ◌+◌, List, [], ◌∷◌, ◌++◌, Option, Some, None, refl, ap, subst, sym, arith, ◌∙◌, suc, inl, inr}
use Rattle.std.specs.Prelude.{◌&&◌, ◌||◌, ◌==◌, find, length, nat_le, nat_lt}
use Rattle.std.specs.List.{list_all, list_any}
use Rattle.std.specs.Option.{option_map_or}
use Rattle.std.proofs.lemmas.Bool.{and_from, and_parts, and_right, both_ways, cases_Bool, or_from, or_parts}
use Rattle.std.proofs.lemmas.Bool.Decides.{nat_tests}
use Rattle.tip_rows.specs.Keys.{Key, is_same}
use Rattle.tip_rows.proofs.OrderLemmas.{same_key}
use Rattle.tip_table.specs.Lists.{changed}
use Rattle.tip_txn.specs.declared.answer.Ballot.{Ballot}
use Rattle.tip_txn.specs.declared.part.Participant.{Participant}
use Rattle.tip_machine.specs.Connections.{asks_for, has_number, is_part_of, is_superior_of, reaches}
use Rattle.tip_machine.specs.Invariants.Links.{Link, is_connected, is_role_in, is_same_role, link}
use Rattle.tip_machine.specs.States.{State, connection_of, transaction_of}
use Rattle.tip_machine.specs.Types.{Connection, PartyPlace, Transaction}
use Rattle.tip_machine.specs.declared.connection.Role.{Role}
use Rattle.tip_machine.specs.declared.connection.Role.TheVariants.{Superior, Subordinate}
use Rattle.tip_agreement.proofs.Apart.{none_of_all}
use Rattle.tip_agreement.proofs.Around.{Around, asks_as, clash, is_placed, stands, take, turned_about, with_connections}
use Rattle.tip_agreement.proofs.Found.{find_apart, find_new}
use Rattle.tip_agreement.proofs.Keys.{key_self}
use Rattle.tip_agreement.proofs.Owned.{have_parts, parts_from, place_self}

-- Nobody has the role

pub any_same : (p q : Connection → Bool) (cs : List Connection) → ((c : Connection) → p c ≡ q c) → list_any p cs ≡ list_any q cs
any_same p q [] same = refl
any_same p q (c ∷ cs) same = λ i. same c i || any_same p q cs same i

turned_role : (this that : Role) → is_same_role this that ≡ false → is_same_role that this ≡ false
turned_role (Superior key) (Superior other) differ = turned_about key other differ
turned_role (Superior key) (Subordinate other place) differ = refl
turned_role (Subordinate key part) (Superior other) differ = refl
turned_role (Subordinate key part) (Subordinate other place) differ = grind (arith, nat_tests, differ)

free_back : (role : Role) (cs : List Connection) → list_any (λ (d : Connection). clash (Some role) d.role) cs ≡ false → list_any (λ (d : Connection). clash d.role (Some role)) cs ≡ false
free_back role [] none = refl
free_back role (c ∷ cs) none = let parts = or_parts (clash (Some role) c.role) _ none in or_from _ _ (step c.role parts.0) (free_back role cs parts.1) where
  step : (at : Option Role) → clash (Some role) at ≡ false → clash at (Some role) ≡ false
  step None differ = refl
  step (Some that) differ = turned_role role that differ

above_clash : (key : Key) (role : Option Role) → clash (Some (Superior key)) role ≡ asks_for key role
above_clash key None = refl
above_clash key (Some (Superior other)) = refl
above_clash key (Some (Subordinate other part)) = refl

part_clash : (key : Key) (place : ℕ) (role : Option Role) → clash (Some (Subordinate key place)) role ≡ reaches key place role
part_clash key place None = refl
part_clash key place (Some (Superior other)) = refl
part_clash key place (Some (Subordinate other part)) = refl

-- a role that names no open transaction, or a part that it doesn't have, is of nobody
pub none_above : (key : Key) (s : State) → transaction_of key s ≡ None → list_all (stands s) s.connections ≡ true → list_any (is_superior_of key) s.connections ≡ false
none_above key s none all = none_of_all (stands s) (is_superior_of key) s.connections (λ c is. step c.role (and_parts (is_connected c && asks_as c.role c.side) (is_placed s c.role) is).1) all where
  step : (role : Option Role) → is_placed s role ≡ true → asks_for key role ≡ false
  step None placed = refl
  step (Some (Superior other)) placed = elim (cases_Bool (is_same key other)) [
    | inl same ↦ absurd (both_ways (is_role_in s (Superior other)) (subst (λ k. is_role_in s (Superior k) ≡ false) (same_key key other same) (rw none refl)) placed)
    | inr differ ↦ differ
  ]
  step (Some (Subordinate other part)) placed = refl

pub none_part : (key : Key) (t : Transaction) (s : State) → transaction_of key s ≡ Some t → list_all (stands s) s.connections ≡ true → list_any (is_part_of key (length t.parts)) s.connections ≡ false
none_part key t s found all = none_of_all (stands s) (is_part_of key (length t.parts)) s.connections (λ c is. step c.role (and_parts (is_connected c && asks_as c.role c.side) (is_placed s c.role) is).1) all where
  past : (n part : ℕ) → (n == part) ≡ true → nat_lt part n ≡ true → ⊥
  past n part same less = grind (arith, nat_tests, same, less)

  step : (role : Option Role) → is_placed s role ≡ true → reaches key (length t.parts) role ≡ false
  step None placed = refl
  step (Some (Superior other)) placed = refl
  step (Some (Subordinate other part)) placed = elim (cases_Bool (is_same key other && (length t.parts == part))) [
    | inl is ↦ absurd (past (length t.parts) part (and_parts (is_same key other) (length t.parts == part) is).1 (subst (λ o. option_map_or (λ (t : Transaction). nat_lt part (length t.parts)) o false ≡ true) (ap (λ k. transaction_of k s) (sym (same_key key other (and_parts (is_same key other) (length t.parts == part) is).0)) ∙ found) (and_parts (nat_le 1 part) _ placed).1))
    | inr not ↦ not
  ]

-- The connection has the role then

module _ (key : Key) (s : State) (f : Connection → Connection) (c : Connection) (there : connection_of c.number s ≡ Some c) (none : c.role ≡ None) (stand : stands s (f c) ≡ true) (around : Around key s) where
  abbrev pub joined : State
  joined = with_connections key s (changed (has_number c.number) f s.connections)

  module _ (takes : (f c).role ≡ Some (Superior key)) (free : list_any (is_superior_of key) s.connections ≡ false) where
    pub around_above : Around key joined
    around_above =
        let nobody = any_same (λ (d : Connection). clash (Some (Superior key)) d.role) (is_superior_of key) s.connections (λ d. above_clash key d.role) ∙ free in
        take key s c.number f c (Superior key) there none takes (key_self key) (free_back (Superior key) s.connections nobody) nobody stand around

    pub above_joined : find (is_superior_of key) joined.connections ≡ Some (f c)
    above_joined = find_new (is_superior_of key) (has_number c.number) f s.connections c free there (ap (asks_for key) takes ∙ key_self key)

    pub parts_beside : (place : ℕ) → find (is_part_of key place) joined.connections ≡ find (is_part_of key place) s.connections
    parts_beside place = find_apart (is_part_of key place) (has_number c.number) f s.connections c there (ap (reaches key place) none) (ap (reaches key place) takes)

  module _ (m : ℕ) (takes : (f c).role ≡ Some (Subordinate key m)) (free : list_any (is_part_of key m) s.connections ≡ false) where
    pub around_part : Around key joined
    around_part =
        let nobody = any_same (λ (d : Connection). clash (Some (Subordinate key m)) d.role) (is_part_of key m) s.connections (λ d. part_clash key m d.role) ∙ free in
        take key s c.number f c (Subordinate key m) there none takes (key_self key) (free_back (Subordinate key m) s.connections nobody) nobody stand around

    pub part_joined : find (is_part_of key m) joined.connections ≡ Some (f c)
    part_joined = find_new (is_part_of key m) (has_number c.number) f s.connections c free there (ap (reaches key m) takes ∙ and_from _ _ (key_self key) (place_self m))

    pub others_beside : (place : ℕ) → (place == m) ≡ false → find (is_part_of key place) joined.connections ≡ find (is_part_of key place) s.connections
    others_beside place differs = find_apart (is_part_of key place) (has_number c.number) f s.connections c there (ap (reaches key place) none) (ap (reaches key place) takes ∙ and_right _ _ differs)

    pub above_beside : find (is_superior_of key) joined.connections ≡ find (is_superior_of key) s.connections
    above_beside = find_apart (is_superior_of key) (has_number c.number) f s.connections c there (ap (asks_for key) none) (ap (asks_for key) takes)

-- A part more

module _ (table : Link → Participant → Bool) (key : Key) (old new : List Connection) (p : Participant) where
  parts_more : (start : ℕ) (parts : List Participant) → ((place : ℕ) → place < start + length parts → find (is_part_of key place) new ≡ find (is_part_of key place) old) → table (link (find (is_part_of key (start + length parts)) new)) p ≡ true → parts_from table start parts key old ≡ true → parts_from table start (parts ++ p ∷ []) key new ≡ true
  parts_more start [] same fits all = let e : start + 0 ≡ start = omega arith in and_from _ _ (subst (λ n. table (link (find (is_part_of key n) new)) p ≡ true) e fits) refl
  parts_more start (q ∷ parts) same fits all =
      let both = and_parts (table (link (find (is_part_of key start) old)) q) (parts_from table (start + 1) parts key old) all in
      and_from _ _ (ap (λ o. table (link o) q) (same start (here (length parts))) ∙ both.0) (parts_more (start + 1) parts (λ place less. same place (further place (length parts) less)) (subst (λ n. table (link (find (is_part_of key n) new)) p ≡ true) (moved (length parts)) fits) both.1) where
        here : (n : ℕ) → start < start + suc n
        here n = omega arith

        further : (place n : ℕ) → place < start + 1 + n → place < start + suc n
        further place n less = omega (arith, less)

        moved : (n : ℕ) → start + suc n ≡ start + 1 + n
        moved n = omega arith

  pub have_more : (party : PartyPlace → Option Ballot → Bool) (at : PartyPlace) (parts : List Participant) → ((place : ℕ) → place < length parts → find (is_part_of key place) new ≡ find (is_part_of key place) old) → table (link (find (is_part_of key (length parts)) new)) p ≡ true → have_parts table party at parts key old ≡ true → have_parts table party at (parts ++ p ∷ []) key new ≡ true
  have_more party at [] same fits all = absurd (cc)
  have_more party at (local ∷ parts) same fits all =
      let both = and_parts (party at local.answer) (parts_from table 1 parts key old) all in
      and_from _ _ both.0 (parts_more 1 parts (λ place less. same place (counted place (length parts) less)) (subst (λ n. table (link (find (is_part_of key n) new)) p ≡ true) (one_more (length parts)) fits) both.1) where
        counted : (place n : ℕ) → place < 1 + n → place < suc n
        counted place n less = omega (arith, less)

        one_more : (n : ℕ) → suc n ≡ 1 + n
        one_more n = omega arith
