-- What a rule knows of the transaction that it works on: tables of its superior, of its parts and of its party.
use Rattle.std.proofs.Common.{◌≡◌, Bool, true, false, ℕ, ◌+◌, List, [], ◌∷◌, Option, Some, None, cond, refl, ap, subst, sym, arith, ◌∙◌, inl, inr}
use Rattle.std.specs.Prelude.{◌&&◌, ◌==◌, not, find, map, is_none}
use Rattle.std.specs.Option.{option_map_or}
use Rattle.std.proofs.lemmas.Bool.{and_from, and_parts}
use Rattle.std.proofs.lemmas.Bool.Decides.{nat_tests}
use Rattle.tip_rows.specs.Keys.{Key, is_same}
use Rattle.tip_rows.proofs.OrderLemmas.{same_key}
use Rattle.tip_line.specs.declared.command.CommandName.{CommandName}
use Rattle.tip_conn.specs.Table.{next_of}
use Rattle.tip_conn.specs.declared.state.Side.{Side}
use Rattle.tip_conn.specs.declared.state.Side.TheVariants.{Primary, Secondary}
use Rattle.tip_conn.specs.declared.state.State.{State as ConnectionState}
use Rattle.tip_conn.specs.declared.state.State.TheVariants.{Idle, Prepared}
use Rattle.tip_conn.specs.declared.state.Turn.{Turn}
use Rattle.tip_conn.specs.declared.state.Turn.TheVariants.{Keep, Original}
use Rattle.tip_txn.specs.declared.answer.Ballot.{Ballot}
use Rattle.tip_txn.specs.declared.answer.Phase.{Phase}
use Rattle.tip_txn.specs.declared.part.Participant.{Participant}
use Rattle.tip_machine.specs.Answers.{response_name}
use Rattle.tip_machine.specs.Connections.{advanced_to, asks_for, awaiting, is_on, is_part_of, is_superior_of, names, reaches}
use Rattle.tip_machine.specs.Invariants.Links.{Link, acts_as, are_distinct, link, link_on}
use Rattle.tip_machine.specs.Invariants.Links.Link.{Gone, Owes, Awaits}
use Rattle.tip_machine.specs.Invariants.Parties.{is_its_own}
use Rattle.tip_machine.specs.Invariants.Phases.{are_parts, are_parts_from, has_come_to, has_its_address, is_over, is_part_in, is_party, is_superior, is_transaction, superior_of}
use Rattle.tip_machine.specs.Reactions.{Demand, Reacted, Reaction, answers, demanded, demanded_as, demands, reacts, stays}
use Rattle.tip_machine.specs.States.{State, transaction_of}
use Rattle.tip_machine.specs.Transactions.{decision_of, has_key}
use Rattle.tip_machine.specs.Types.{Connection, PartyPlace, Transaction}
use Rattle.tip_machine.specs.declared.answer.Said.{Said}
use Rattle.tip_machine.specs.declared.connection.Awaited.{Awaited}
use Rattle.tip_machine.specs.declared.connection.Role.{Role}
use Rattle.tip_machine.specs.declared.connection.Role.TheVariants.{Superior, Subordinate}
use Rattle.tip_machine.specs.declared.transaction.PartyPlace.TheVariants.{Here, Out, Spent}
use Rattle.tip_machine.proofs.Walks.{found_passes}
use Rattle.tip_agreement.proofs.Apart.{all_found}
use Rattle.tip_agreement.proofs.Around.{Around, altered, asks_as, clashes, found_altered, stands, with_connections}
use Rattle.tip_agreement.proofs.Found.{Once, find_mapped, once_of, turned}
use Rattle.tip_agreement.proofs.Keys.{key_self}
use Rattle.tip_agreement.proofs.Reacting.{IsOutcome, Standing, become, is_end, is_outcome, outcome_ends, role_reacted, standing}

-- Tables

-- each further part, by what its connection is
abbrev pub parts_from : (Link → Participant → Bool) → ℕ → List Participant → Key → List Connection → Bool
parts_from table place [] key cs = true
parts_from table place (part ∷ parts) key cs = table (link (find (is_part_of key place) cs)) part && parts_from table (place + 1) parts key cs

-- all parts, the local one by where the party is
abbrev pub have_parts : (Link → Participant → Bool) → (PartyPlace → Option Ballot → Bool) → PartyPlace → List Participant → Key → List Connection → Bool
have_parts table party place [] key cs = false
have_parts table party place (local ∷ parts) key cs = party place local.answer && parts_from table 1 parts key cs

pub record Owned (superior : Link → Bool) (part : Link → Participant → Bool) (party : PartyPlace → Option Ballot → Bool) (key : Key) (t : Transaction) (s : State) : Type 0 where
  pub found : transaction_of key s ≡ Some t
  pub above : superior (link (find (is_superior_of key) s.connections)) ≡ true
  pub parts : have_parts part party t.place t.parts key s.connections ≡ true
  pub own : is_its_own s t t.place ≡ true

-- Roles that are found

pub asked_by : (key : Key) (role : Option Role) → asks_for key role ≡ true → role ≡ Some (Superior key)
asked_by key None is = absurd (cc)
asked_by key (Some (Superior other)) is = ap (λ k. Some (Superior k)) (sym (same_key key other is))
asked_by key (Some (Subordinate other part)) is = absurd (cc)

pub reached_as : (key : Key) (place : ℕ) (role : Option Role) → reaches key place role ≡ true → role ≡ Some (Subordinate key place)
reached_as key place None is = absurd (cc)
reached_as key place (Some (Superior other)) is = absurd (cc)
reached_as key place (Some (Subordinate other part)) is =
    let parts = and_parts (is_same key other) (place == part) is in
    let same : (place == part) ≡ true = parts.1 in
    let at : place ≡ part = grind (arith, nat_tests, same) in
    λ i. Some (Subordinate ((sym (same_key key other parts.0)) i) ((sym at) i))

pub place_self : (place : ℕ) → (place == place) ≡ true
place_self place = grind (arith, nat_tests)

pub once_superior : (key : Key) (cs : List Connection) → are_distinct clashes cs ≡ true → Once (is_superior_of key) cs
once_superior key cs apart = once_of clashes (is_superior_of key) cs (λ c d here there. rw (asked_by key c.role here, asked_by key d.role there) (key_self key)) apart

pub once_part : (key : Key) (place : ℕ) (cs : List Connection) → are_distinct clashes cs ≡ true → Once (is_part_of key place) cs
once_part key place cs apart = once_of clashes (is_part_of key place) cs (λ c d here there. rw (reached_as key place c.role here, reached_as key place d.role there) (and_from _ _ (key_self key) (place_self place))) apart

pub own_still : (old new : State) (t : Transaction) (place : PartyPlace) → new.head.epoch ≡ old.head.epoch → new.head.name ≡ old.head.name → is_its_own new t place ≡ is_its_own old t place
own_still old new t (Here party) epoch name = rw (epoch, name) refl
own_still old new t (Out errand) epoch name = refl
own_still old new t Spent epoch name = refl

-- What a link becomes

-- the superior's, where it is answered
abbrev moved_on : ConnectionState → CommandName → Option (ConnectionState × Turn) → Link
moved_on state command None = Owes state (Some command)
moved_on state command (Some (Idle, turn)) = Gone
moved_on state command (Some (next, turn)) = Owes next None

abbrev said_on : ConnectionState → CommandName → Option Said → Link
said_on state command None = Owes state (Some command)
said_on state command (Some said) = moved_on state command (next_of command state (response_name said))

abbrev pub above_after : Reaction → Link → Link
above_after reaction (Owes state (Some command)) = said_on state command (reaction.owed command)
above_after reaction other = other

-- a part's, where it is asked
abbrev pub part_after : Reaction → Link → Link
part_after reaction (Awaits state None) = option_map_or (λ demand. Awaits state (Some demand.awaited)) (demanded reaction state) (Awaits state None)
part_after reaction other = other

turned_is : (test : Connection → Bool) (f : Connection → Connection) (c d : Connection) → f c ≡ d → test d ≡ true → turned test f (Some c) ≡ Some d
turned_is test f c d is holds = subst (λ e. cond (test e) (Some e) None ≡ Some d) (sym is) (rw holds refl)

turned_off : (test : Connection → Bool) (f : Connection → Connection) (c d : Connection) → f c ≡ d → test d ≡ false → turned test f (Some c) ≡ None
turned_off test f c d is fails = subst (λ e. cond (test e) (Some e) None ≡ None) (sym is) (rw fails refl)

primary_there : (key : Key) (place : ℕ) (role : Option Role) (side : Side) → role ≡ Some (Subordinate key place) → asks_as role side ≡ true → side ≡ Primary
primary_there key place role Primary at asks = refl
primary_there key place role Secondary at asks = absurd (let e : asks_as (Some (Subordinate key place)) Secondary ≡ true = subst (λ r. asks_as r Secondary ≡ true) at asks in cc)

owes_nothing : (c : Connection) (side : Side) → side ≡ Primary → acts_as side c ≡ true → c.owed ≡ None
owes_nothing c Primary at acts = none c.owed acts where
  none : (o : Option CommandName) → is_none o ≡ true → o ≡ None
  none None is = refl
  none (Some command) is = absurd (cc)
owes_nothing c Secondary at acts = absurd (cc)

owing_side : (c : Connection) (command : CommandName) (side : Side) → c.owed ≡ Some command → acts_as side c ≡ true → side ≡ Secondary
owing_side c command Secondary owed acts = refl
owing_side c command Primary owed acts = absurd (let e : is_none (Some command) ≡ true = subst (λ o. is_none o ≡ true) owed acts in cc)

on_taken : (b : Bool) (r : Reacted) (c : Connection) → b ≡ true → (cond b r (stays c)).connection ≡ r.connection
on_taken true r c on = refl
on_taken false r c on = absurd (cc)

module _ (s : State) (reaction : Reaction) (so : IsOutcome reaction) (key : Key) where
  on_becomes : (c : Connection) → is_on key c ≡ true → become s reaction so key c ≡ (reacts reaction key c.owed c).connection
  on_becomes c on = on_taken (is_on key c) (reacts reaction key c.owed c) c on

  module _ (place : ℕ) (c : Connection) (known : Standing s c) (there : is_part_of key place c ≡ true) where
    part_role : c.role ≡ Some (Subordinate key place)
    part_role = reached_as key place c.role there

    part_side : c.side ≡ Primary
    part_side = primary_there key place c.role c.side part_role known.asks

    part_owed : c.owed ≡ None
    part_owed = owes_nothing c c.side part_side known.acts

    part_becomes : become s reaction so key c ≡ (option_map_or (demands key c) (cond (is_none c.awaited) (demanded reaction c.state) None) (stays c)).connection
    part_becomes = on_becomes c (ap (names key) part_role ∙ key_self key) ∙ ap (λ o. (reacts reaction key o c).connection) part_owed ∙ ap (λ r. (option_map_or (demands key c) (demanded_as reaction r c) (stays c)).connection) part_role

    part_link : link (turned (is_part_of key place) (become s reaction so key) (Some c)) ≡ part_after reaction (link_on c.side c)
    part_link = step c.awaited refl where
      to_link : (d : Connection) → become s reaction so key c ≡ d → is_part_of key place d ≡ true → link (turned (is_part_of key place) (become s reaction so key) (Some c)) ≡ link_on d.side d
      to_link d is on = ap link (turned_is (is_part_of key place) (become s reaction so key) c d is on)

      asked : (demand : Option Demand) → demanded reaction c.state ≡ demand → c.awaited ≡ None → become s reaction so key c ≡ (option_map_or (demands key c) demand (stays c)).connection → link (turned (is_part_of key place) (become s reaction so key) (Some c)) ≡ part_after reaction (link_on c.side c)
      asked None none silent is = to_link c is there ∙ rw (part_side, silent, none) refl
      asked (Some demand) some silent is = to_link (awaiting demand.awaited c) is there ∙ rw (part_side, silent, some) refl

      step : (awaited : Option Awaited) → c.awaited ≡ awaited → link (turned (is_part_of key place) (become s reaction so key) (Some c)) ≡ part_after reaction (link_on c.side c)
      step (Some awaited) is = to_link c (part_becomes ∙ ap (λ (a : Option Awaited). (option_map_or (demands key c) (cond (is_none a) (demanded reaction c.state) None) (stays c)).connection) is) there ∙ rw (part_side, is) refl
      step None is = asked (demanded reaction c.state) refl is (part_becomes ∙ ap (λ (a : Option Awaited). (option_map_or (demands key c) (cond (is_none a) (demanded reaction c.state) None) (stays c)).connection) is)

  module _ (c : Connection) (known : Standing s c) (there : is_superior_of key c ≡ true) where
    above_role : c.role ≡ Some (Superior key)
    above_role = asked_by key c.role there

    above_becomes : become s reaction so key c ≡ (reacts reaction key c.owed c).connection
    above_becomes = on_becomes c (ap (names key) above_role ∙ key_self key)

    above_link : link (turned (is_superior_of key) (become s reaction so key) (Some c)) ≡ above_after reaction (link_on c.side c)
    above_link = step c.owed refl where
      to_link : (d : Connection) → become s reaction so key c ≡ d → is_superior_of key d ≡ true → link (turned (is_superior_of key) (become s reaction so key) (Some c)) ≡ link_on d.side d
      to_link d is on = ap link (turned_is (is_superior_of key) (become s reaction so key) c d is on)

      silent_side : (side : Side) → c.owed ≡ None → link_on side c ≡ above_after reaction (link_on side c)
      silent_side Primary none = refl
      silent_side Secondary none = rw none refl

      went : (command : CommandName) (said : Said) → c.owed ≡ Some command → reaction.owed command ≡ Some said → (place : Option (ConnectionState × Turn)) → next_of command c.state (response_name said) ≡ place → become s reaction so key c ≡ advanced_to place c → link (turned (is_superior_of key) (become s reaction so key) (Some c)) ≡ above_after reaction (link_on c.side c)
      went command said is some None none at = to_link c at there ∙ rw (owing_side c command c.side is known.acts, is, some, none) refl
      went command said is some (Some place) next at = ended place.0 place.1 (outcome_ends command c.state (response_name said) place out next) at next where
        out : is_outcome (response_name said) ≡ true
        out = subst (λ r. option_map_or (λ said. is_outcome (response_name said)) r true ≡ true) some (so command)

        ended : (state : ConnectionState) (turn : Turn) → is_end (state, turn) ≡ true → become s reaction so key c ≡ advanced_to (Some (state, turn)) c → next_of command c.state (response_name said) ≡ Some (state, turn) → link (turned (is_superior_of key) (become s reaction so key) (Some c)) ≡ above_after reaction (link_on c.side c)
        ended Idle Original is_so at next = ap link (turned_off (is_superior_of key) (become s reaction so key) c (advanced_to (Some (Idle, Original)) c) at refl) ∙ rw (owing_side c command c.side is known.acts, is, some, next) refl
        ended Prepared Keep is_so at next = to_link (advanced_to (Some (Prepared, Keep)) c) at there ∙ rw (owing_side c command c.side is known.acts, is, some, next) refl
        ended state turn is_so at next = absurd (cc)

      answered : (command : CommandName) (said : Option Said) → c.owed ≡ Some command → reaction.owed command ≡ said → become s reaction so key c ≡ (option_map_or (answers command c) said (stays c)).connection → link (turned (is_superior_of key) (become s reaction so key) (Some c)) ≡ above_after reaction (link_on c.side c)
      answered command None is none at = to_link c at there ∙ rw (owing_side c command c.side is known.acts, is, none) refl
      answered command (Some said) is some at = went command said is some (next_of command c.state (response_name said)) refl at

      step : (owed : Option CommandName) → c.owed ≡ owed → link (turned (is_superior_of key) (become s reaction so key) (Some c)) ≡ above_after reaction (link_on c.side c)
      step None none = to_link c (above_becomes ∙ ap (λ o. (reacts reaction key o c).connection) none ∙ ap (λ r. (option_map_or (demands key c) (demanded_as reaction r c) (stays c)).connection) above_role) there ∙ silent_side c.side none
      step (Some command) is = answered command (reaction.owed command) is refl (above_becomes ∙ ap (λ o. (reacts reaction key o c).connection) is)

  -- The transaction after a reaction

  stays_failing : (test : Option Role → Bool) → test None ≡ false → (c : Connection) → test c.role ≡ false → test (become s reaction so key c).role ≡ false
  stays_failing test none c fails = elim (role_reacted reaction key c) [
    | inl same ↦ ap test same ∙ fails
    | inr left ↦ ap test left ∙ none
  ]

  module _ (around : Around key s) where
    known_at : (test : Connection → Bool) (c : Connection) → find test s.connections ≡ Some c → Standing s c
    known_at test c found = standing s c (all_found (stands s) test s.connections c around.standing found)

    above_then : link (find (is_superior_of key) (map (become s reaction so key) s.connections)) ≡ above_after reaction (link (find (is_superior_of key) s.connections))
    above_then = ap link (find_mapped (is_superior_of key) (become s reaction so key) s.connections (once_superior key s.connections around.apart) (stays_failing (asks_for key) refl)) ∙ step (find (is_superior_of key) s.connections) refl where
      step : (found : Option Connection) → find (is_superior_of key) s.connections ≡ found → link (turned (is_superior_of key) (become s reaction so key) found) ≡ above_after reaction (link found)
      step None found = refl
      step (Some c) found = above_link c (known_at (is_superior_of key) c found) (found_passes (is_superior_of key) s.connections c found)

    part_then : (place : ℕ) → link (find (is_part_of key place) (map (become s reaction so key) s.connections)) ≡ part_after reaction (link (find (is_part_of key place) s.connections))
    part_then place = ap link (find_mapped (is_part_of key place) (become s reaction so key) s.connections (once_part key place s.connections around.apart) (stays_failing (reaches key place) refl)) ∙ step (find (is_part_of key place) s.connections) refl where
      step : (found : Option Connection) → find (is_part_of key place) s.connections ≡ found → link (turned (is_part_of key place) (become s reaction so key) found) ≡ part_after reaction (link found)
      step None found = refl
      step (Some c) found = part_link place c (known_at (is_part_of key place) c found) (found_passes (is_part_of key place) s.connections c found)

    parts_then : (old new : Link → Participant → Bool) → ((l : Link) (p : Participant) → old l p ≡ true → new (part_after reaction l) p ≡ true) → (place : ℕ) (parts : List Participant) → parts_from old place parts key s.connections ≡ true → parts_from new place parts key (map (become s reaction so key) s.connections) ≡ true
    parts_then old new goes place [] all = refl
    parts_then old new goes place (p ∷ parts) all =
        let both = and_parts (old (link (find (is_part_of key place) s.connections)) p) (parts_from old (place + 1) parts key s.connections) all in
        and_from _ _ (ap (λ l. new l p) (part_then place) ∙ goes _ p both.0) (parts_then old new goes (place + 1) parts both.1)

    have_then : (old new : Link → Participant → Bool) (party : PartyPlace → Option Ballot → Bool) (at : PartyPlace) (parts : List Participant) → ((l : Link) (p : Participant) → old l p ≡ true → new (part_after reaction l) p ≡ true) → have_parts old party at parts key s.connections ≡ true → have_parts new party at parts key (map (become s reaction so key) s.connections) ≡ true
    have_then old new party at [] goes all = absurd (cc)
    have_then old new party at (local ∷ parts) goes all = let both = and_parts (party at local.answer) (parts_from old 1 parts key s.connections) all in and_from _ _ both.0 (parts_then old new goes 1 parts both.1)

    pub react_owned : (above above' : Link → Bool) (part part' : Link → Participant → Bool) (party : PartyPlace → Option Ballot → Bool) (t : Transaction) → ((l : Link) → above l ≡ true → above' (above_after reaction l) ≡ true) → ((l : Link) (p : Participant) → part l p ≡ true → part' (part_after reaction l) p ≡ true) → Owned above part party key t s → Owned above' part' party key t (with_connections key s (map (become s reaction so key) s.connections))
    react_owned above above' part part' party t up down owned = record {
      found = owned.found;
      above = ap above' above_then ∙ up (link (find (is_superior_of key) s.connections)) owned.above;
      parts = have_then part part' party t.place t.parts down owned.parts;
      own = own_still s (with_connections key s (map (become s reaction so key) s.connections)) t t.place refl refl ∙ owned.own;
    }

-- The transaction is altered

pub alter_owned : (above above' : Link → Bool) (part part' : Link → Participant → Bool) (party party' : PartyPlace → Option Ballot → Bool) (key : Key) (f : Transaction → Transaction) (t : Transaction) (s : State) → ((t : Transaction) → (f t).key ≡ t.key) → ((l : Link) → above l ≡ true → above' l ≡ true) → have_parts part' party' (f t).place (f t).parts key s.connections ≡ true → is_its_own s (f t) (f t).place ≡ true → Owned above part party key t s → Owned above' part' party' key (f t) (altered key s f)
alter_owned above above' part part' party party' key f t s same up parts own owned = record {
  found = found_altered key s f same t owned.found;
  above = up _ owned.above;
  parts = parts;
  own = own_still s (altered key s f) (f t) (f t).place refl refl ∙ own;
}

-- From the invariants, and back

same_parts_from : (t : Transaction) (s : State) (place : ℕ) (parts : List Participant) → are_parts_from place parts s t ≡ parts_from (is_part_in t.phase) place parts t.key s.connections
same_parts_from t s place [] = refl
same_parts_from t s place (p ∷ parts) = ap (λ b. is_part_in t.phase (link (find (is_part_of t.key place) s.connections)) p && b) (same_parts_from t s (place + 1) parts)

same_have_parts : (t : Transaction) (s : State) (parts : List Participant) → are_parts parts s t ≡ have_parts (is_part_in t.phase) (is_party t.phase) t.place parts t.key s.connections
same_have_parts t s [] = refl
same_have_parts t s (local ∷ parts) = ap (λ b. is_party t.phase t.place local.answer && b) (same_parts_from t s 1 parts)

-- a transaction as its phase says, with what is said beside its tables
pub record InPhase (key : Key) (t : Transaction) (s : State) : Type 0 where
  pub owned : Owned (is_superior t.phase t.origin) (is_part_in t.phase) (is_party t.phase) key t s
  pub address : has_its_address t.phase t.origin (find (is_superior_of key) s.connections) ≡ true
  pub come : has_come_to t.phase (decision_of t) ≡ true
  pub over : not (is_over t.phase s t) ≡ true

pub key_found : (key : Key) (t : Transaction) (s : State) → transaction_of key s ≡ Some t → key ≡ t.key
key_found key t s found = same_key key t.key (found_passes (has_key key) s.transactions t found)

pub in_phase : (key : Key) (t : Transaction) (s : State) → transaction_of key s ≡ Some t → is_transaction s t ≡ true → InPhase key t s
in_phase key t s found is =
    let same = sym (key_found key t s found) in
    let superior = superior_of t s in
    let a = and_parts (is_superior t.phase t.origin (link superior) && has_its_address t.phase t.origin superior && is_its_own s t t.place && are_parts t.parts s t && has_come_to t.phase (decision_of t)) (not (is_over t.phase s t)) is in
    let b = and_parts (is_superior t.phase t.origin (link superior) && has_its_address t.phase t.origin superior && is_its_own s t t.place && are_parts t.parts s t) (has_come_to t.phase (decision_of t)) a.0 in
    let c = and_parts (is_superior t.phase t.origin (link superior) && has_its_address t.phase t.origin superior && is_its_own s t t.place) (are_parts t.parts s t) b.0 in
    let d = and_parts (is_superior t.phase t.origin (link superior) && has_its_address t.phase t.origin superior) (is_its_own s t t.place) c.0 in
    let e = and_parts (is_superior t.phase t.origin (link superior)) (has_its_address t.phase t.origin superior) d.0 in
    record {
      owned = record {
        found = found;
        above = subst (λ k. is_superior t.phase t.origin (link (find (is_superior_of k) s.connections)) ≡ true) same e.0;
        parts = subst (λ k. have_parts (is_part_in t.phase) (is_party t.phase) t.place t.parts k s.connections ≡ true) same (sym (same_have_parts t s t.parts) ∙ c.1);
        own = d.1;
      };
      address = subst (λ k. has_its_address t.phase t.origin (find (is_superior_of k) s.connections) ≡ true) same e.1;
      come = b.1;
      over = a.1;
    }

pub from_phase : (key : Key) (t : Transaction) (s : State) → InPhase key t s → is_transaction s t ≡ true
from_phase key t s in_it =
    let owned = in_it.owned in
    let same = key_found key t s owned.found in
    and_from _ _ (and_from _ _ (and_from _ _ (and_from _ _ (and_from _ _
    (subst (λ k. is_superior t.phase t.origin (link (find (is_superior_of k) s.connections)) ≡ true) same owned.above)
    (subst (λ k. has_its_address t.phase t.origin (find (is_superior_of k) s.connections) ≡ true) same in_it.address))
    owned.own)
    (same_have_parts t s t.parts ∙ subst (λ k. have_parts (is_part_in t.phase) (is_party t.phase) t.place t.parts k s.connections ≡ true) same owned.parts))
    in_it.come)
    in_it.over

-- the same of a phase that is known
pub from_as : (phase : Phase) (key : Key) (t : Transaction) (s : State) → t.phase ≡ phase → Owned (is_superior phase t.origin) (is_part_in phase) (is_party phase) key t s → has_its_address phase t.origin (find (is_superior_of key) s.connections) ≡ true → has_come_to phase (decision_of t) ≡ true → not (is_over phase s t) ≡ true → is_transaction s t ≡ true
from_as phase key t s is owned address come over = from_phase key t s (record {
  owned = subst (λ f. Owned (is_superior f t.origin) (is_part_in f) (is_party f) key t s) (sym is) owned;
  address = subst (λ f. has_its_address f t.origin (find (is_superior_of key) s.connections) ≡ true) (sym is) address;
  come = subst (λ f. has_come_to f (decision_of t) ≡ true) (sym is) come;
  over = subst (λ f. not (is_over f s t) ≡ true) (sym is) over;
})
