-- What a sound realm says of the parts of a transaction: what they may have answered, and which of them have a connection.
use Rattle.std.proofs.Common.{◌≡◌, Bool, true, false, ℕ, zero, suc, List, [], ◌∷◌, Option, Some, None, cond, refl, ap, subst, sym, arith, ◌∙◌, ◌⊎◌, inl, inr}
use Rattle.std.specs.Prelude.{◌==◌, filter_map, find, is_some, length, nat_le, nat_lt, slice_get}
use Rattle.std.specs.List.{cons_option, list_all, list_any}
use Rattle.std.specs.Option.{option_and_then, option_map_or}
use Rattle.std.specs.Str.{bytes_eq}
use Rattle.std.proofs.lemmas.Bool.{and_parts, or_cases, or_left, or_right}
use Rattle.std.proofs.lemmas.Bool.Decides.{nat_tests}
use Rattle.std.proofs.lemmas.Option.{none-some, same_Some}
use Rattle.tip_branch.specs.declared.member.Errand.TheVariants as errand
use Rattle.tip_conn.specs.declared.state.State.TheVariants as state
use Rattle.tip_rows.specs.Keys.{Key, is_same}
use Rattle.tip_rows.proofs.MemoryLemmas.{bytes_eq-self, same_text}
use Rattle.tip_rows.proofs.OrderLemmas.{same_key}
use Rattle.tip_txn.specs.Parts.{answer_at}
use Rattle.tip_txn.specs.declared.answer.Ballot.{Ballot}
use Rattle.tip_txn.specs.declared.answer.Ballot.TheVariants.{ReadOnly, Yes}
use Rattle.tip_txn.specs.declared.answer.Phase.{Phase}
use Rattle.tip_txn.specs.declared.answer.Phase.TheVariants.{Active, Asking, Prepared, Committed, Aborted}
use Rattle.tip_txn.specs.declared.part.Participant.{Participant}
use Rattle.tip_machine.specs.Agreement.{has_part, is_willing, part_of, parts_in, spells}
use Rattle.tip_machine.specs.Answers.{identifier}
use Rattle.tip_machine.specs.Connections.{is_part_of, reaches}
use Rattle.tip_machine.specs.Invariants.{IsSound}
use Rattle.tip_machine.specs.Invariants.Bounds.{is_spelled}
use Rattle.tip_machine.specs.Invariants.Links.{Link, is_role_in, link, roles_of}
use Rattle.tip_machine.specs.Invariants.Links.Link.{Awaits, Gone}
use Rattle.tip_machine.specs.Invariants.Phases.{is_part, is_part_in, is_party, is_transaction}
use Rattle.tip_machine.specs.Moves.{World}
use Rattle.tip_machine.specs.States.{transaction_of}
use Rattle.tip_machine.specs.Transactions.{has_key}
use Rattle.tip_machine.specs.Types.{Connection, PartyPlace, Transaction}
use Rattle.tip_machine.specs.declared.connection.Awaited.TheVariants as awaited
use Rattle.tip_machine.specs.declared.connection.Role.{Role}
use Rattle.tip_machine.specs.declared.connection.Role.TheVariants.{Superior, Subordinate}
use Rattle.tip_machine.specs.declared.transaction.PartyPlace.TheVariants.{Here, Out, Spent}
use Rattle.tip_machine.proofs.Walks.{found_passes}
use Rattle.tip_agreement.proofs.Bounded.{in_bounds}
use Rattle.tip_agreement.proofs.Closing.{in_table}
use Rattle.tip_agreement.proofs.Moving.{sound_whole}
use Rattle.tip_agreement.proofs.Owned.{have_parts, in_phase, key_found}
use Rattle.tip_agreement.proofs.Spelling.{keys_told}
use Rattle.tip_agreement.proofs.Bases.{there}
use Rattle.tip_agreement.proofs.Hearing.{behind_local}
use Rattle.tip_agreement.proofs.Keeping.{in_all, in_apart}
use Rattle.tip_agreement.proofs.Walking.{In, in_found}

-- Lists

module _ {X Y : Type 0} (f : X → Option Y) where
  in_mapped : (xs : List X) (y : Y) → In y (filter_map f xs) → (x : X) × (In x xs) × (f x ≡ Some y)
  in_mapped [] y is = absurd is
  in_mapped (x ∷ xs) y is = step (f x) refl is (λ later. in_mapped xs y later) where
    step : (o : Option Y) → f x ≡ o → In y (cons_option o (filter_map f xs)) → (In y (filter_map f xs) → (z : X) × (In z xs) × (f z ≡ Some y)) → (z : X) × ((z ≡ x) ⊎ In z xs) × (f z ≡ Some y)
    step None at is later = let of = later is in (of.0, inr of.1, of.2)
    step (Some z) at (inl same) later = (x, inl refl, at ∙ ap Some (sym same))
    step (Some z) at (inr is) later = let of = later is in (of.0, inr of.1, of.2)

  mapped_in : (xs : List X) (x : X) (y : Y) → In x xs → f x ≡ Some y → In y (filter_map f xs)
  mapped_in [] x y is at = absurd is
  mapped_in (z ∷ xs) x y is at = step (f z) refl is (λ later. mapped_in xs x y later at) where
    step : (o : Option Y) → f z ≡ o → (x ≡ z) ⊎ In x xs → (In x xs → In y (filter_map f xs)) → In y (cons_option o (filter_map f xs))
    step None here (inl same) later = absurd (none-some y (sym here ∙ (ap f (sym same) ∙ at)))
    step None here (inr is) later = later is
    step (Some v) here (inl same) later = inl (same_Some y v (sym at ∙ (ap f same ∙ here)))
    step (Some v) here (inr is) later = inr (later is)

pub number_is : (n m : ℕ) → (n == m) ≡ true → n ≡ m
number_is n m is = grind (arith, nat_tests, is)

pub number_self : (n : ℕ) → (n == n) ≡ true
number_self n = grind (arith, nat_tests)

pub in_numbers : (q : ℕ) (xs : List ℕ) → list_any (λ other. q == other) xs ≡ true → In q xs
in_numbers q [] is = let wrong : false ≡ true = is in absurd (cc)
in_numbers q (x ∷ xs) is = elim (or_cases (q == x) (list_any (λ other. q == other) xs) is) [ inl here ↦ inl (number_is q x here) | inr later ↦ inr (in_numbers q xs later) ]

numbers_in : (q : ℕ) (xs : List ℕ) → In q xs → list_any (λ other. q == other) xs ≡ true
numbers_in q [] is = absurd is
numbers_in q (x ∷ xs) (inl same) = or_left (q == x) _ (subst (λ n. (q == n) ≡ true) same (number_self q))
numbers_in q (x ∷ xs) (inr is) = or_right (q == x) _ (numbers_in q xs is)

some_at : (q : ℕ) (parts : List Participant) → nat_lt q (length parts) ≡ true → is_some (slice_get parts q) ≡ true
some_at q [] is = absurd (never q is) where
  never : (n : ℕ) → nat_lt n 0 ≡ true → ⊥
  never n is = grind (arith, nat_tests, is)
some_at zero (p ∷ parts) is = refl
some_at (suc q) (p ∷ parts) is = some_at q parts (less q (length parts) is) where
  less : (n m : ℕ) → nat_lt (suc n) (suc m) ≡ true → nat_lt n m ≡ true
  less n m is = grind (arith, nat_tests, is)

-- ANSWERS of one that is not aborted

active_well : (l : Link) (a : Ballot) → is_part Active l (Some a) ≡ true → is_willing a ≡ true
active_well Gone ReadOnly is = refl
active_well (Awaits state.Idle (Some awaited.Push)) a is = absurd (cc)
active_well (Awaits state.Enlisted None) a is = absurd (cc)
active_well l a is = absurd (cc)

asking_well : (l : Link) (a : Ballot) → is_part Asking l (Some a) ≡ true → is_willing a ≡ true
asking_well (Awaits state.Idle (Some awaited.Push)) a is = absurd (cc)
asking_well (Awaits state.Enlisted (Some awaited.Prepare)) a is = absurd (cc)
asking_well (Awaits state.Prepared None) Yes is = refl
asking_well Gone Yes is = refl
asking_well Gone ReadOnly is = refl
asking_well l a is = absurd (cc)

prepared_well : (l : Link) (a : Ballot) → is_part Prepared l (Some a) ≡ true → is_willing a ≡ true
prepared_well (Awaits state.Prepared None) Yes is = refl
prepared_well Gone Yes is = refl
prepared_well Gone ReadOnly is = refl
prepared_well l a is = absurd (cc)

committed_well : (l : Link) (a : Ballot) → is_part Committed l (Some a) ≡ true → is_willing a ≡ true
committed_well (Awaits state.Prepared (Some awaited.Commit)) Yes is = refl
committed_well (Awaits state.Idle (Some awaited.Reconnect)) Yes is = refl
committed_well Gone Yes is = refl
committed_well Gone ReadOnly is = refl
committed_well l a is = absurd (cc)

part_well : (phase : Phase) (l : Link) (a : Ballot) → (phase ≡ Aborted → ⊥) → is_part phase l (Some a) ≡ true → is_willing a ≡ true
part_well Active l a live is = active_well l a is
part_well Asking l a live is = asking_well l a is
part_well Prepared l a live is = prepared_well l a is
part_well Committed l a live is = committed_well l a is
part_well Aborted l a live is = absurd (live refl)

-- the same of the local party
asking_party_well : (place : PartyPlace) (a : Ballot) → is_party Asking place (Some a) ≡ true → is_willing a ≡ true
asking_party_well (Here party) Yes is = refl
asking_party_well (Here party) ReadOnly is = refl
asking_party_well (Out errand.Vote) a is = absurd (cc)
asking_party_well place a is = absurd (cc)

prepared_party_well : (place : PartyPlace) (a : Ballot) → is_party Prepared place (Some a) ≡ true → is_willing a ≡ true
prepared_party_well (Here party) Yes is = refl
prepared_party_well (Here party) ReadOnly is = refl
prepared_party_well Spent Yes is = refl
prepared_party_well place a is = absurd (cc)

committed_party_well : (place : PartyPlace) (a : Ballot) → is_party Committed place (Some a) ≡ true → is_willing a ≡ true
committed_party_well (Here party) Yes is = refl
committed_party_well (Out errand.Commit) Yes is = refl
committed_party_well Spent Yes is = refl
committed_party_well Spent ReadOnly is = refl
committed_party_well place a is = absurd (cc)

active_party_well : (place : PartyPlace) (a : Ballot) → is_party Active place (Some a) ≡ true → is_willing a ≡ true
active_party_well (Here party) a is = absurd (cc)
active_party_well place a is = absurd (cc)

party_well : (phase : Phase) (place : PartyPlace) (a : Ballot) → (phase ≡ Aborted → ⊥) → is_party phase place (Some a) ≡ true → is_willing a ≡ true
party_well Active place a live is = active_party_well place a is
party_well Asking place a live is = asking_party_well place a is
party_well Prepared place a live is = prepared_party_well place a is
party_well Committed place a live is = committed_party_well place a is
party_well Aborted place a live is = absurd (live refl)

-- who has not answered has a connection
unanswered_linked : (phase : Phase) → (phase ≡ Aborted → ⊥) → is_part phase Gone None ≡ true → ⊥
unanswered_linked Aborted live is = live refl
unanswered_linked Active live is = cc
unanswered_linked Asking live is = cc
unanswered_linked Prepared live is = cc
unanswered_linked Committed live is = cc

module _ (world : World) (sound : IsSound world) where
  abbrev realm : List ℕ
  realm = world.state.head.name

  spelled : list_all (λ (t : Transaction). is_spelled t.key) world.state.transactions ≡ true
  spelled = (in_bounds world.state sound.bounded).spelled

  module _ (t : Transaction) (listed : In t world.state.transactions) where
    abbrev id : List ℕ
    id = identifier realm t.key

    parts_so : have_parts (is_part_in t.phase) (is_party t.phase) t.place t.parts t.key world.state.connections ≡ true
    parts_so = (in_phase t.key t world.state (there world sound [] t listed) (in_all (is_transaction world.state) world.state.transactions t sound.transactions listed)).owned.parts

    at_place : (m : ℕ) (p : Participant) → slice_get t.parts (suc m) ≡ Some p → is_part_in t.phase (link (find (is_part_of t.key (suc m)) world.state.connections)) p ≡ true
    at_place m p is = behind_local (is_part_in t.phase) (is_party t.phase) t.place m t.parts t.key world.state.connections p parts_so is

    answered_there : (q : ℕ) (answer : Ballot) → answer_at t.parts q ≡ Some answer → (p : Participant) × (slice_get t.parts q ≡ Some p) × (p.answer ≡ Some answer)
    answered_there q answer is = step (slice_get t.parts q) refl is where
      step : (o : Option Participant) → slice_get t.parts q ≡ o → option_and_then (λ (p : Participant). p.answer) o ≡ Some answer → (p : Participant) × (slice_get t.parts q ≡ Some p) × (p.answer ≡ Some answer)
      step None at is = absurd (none-some answer is)
      step (Some p) at is = (p, at, is)

    pub answers_well : (t.phase ≡ Aborted → ⊥) → (q : ℕ) (a : Ballot) → nat_le 1 q ≡ true → answer_at t.parts q ≡ Some a → is_willing a ≡ true
    answers_well live zero a least is = absurd (let wrong : false ≡ true = least in cc)
    answers_well live (suc m) a least is =
        let of = answered_there (suc m) a is in
        let l = link (find (is_part_of t.key (suc m)) world.state.connections) in
        part_well t.phase l a live (subst (λ o. is_part t.phase l o ≡ true) of.2 (in_table t.phase l of.0 (at_place m of.0 of.1)).fits)

    pub party_answers_well : (t.phase ≡ Aborted → ⊥) → (a : Ballot) → answer_at t.parts 0 ≡ Some a → is_willing a ≡ true
    party_answers_well live a is = step t.parts is parts_so where
      step : (parts : List Participant) → answer_at parts 0 ≡ Some a → have_parts (is_part_in t.phase) (is_party t.phase) t.place parts t.key world.state.connections ≡ true → is_willing a ≡ true
      step [] is all = absurd (none-some a is)
      step (p ∷ parts) is all = party_well t.phase t.place a live (subst (λ o. is_party t.phase t.place o ≡ true) is (and_parts (is_party t.phase t.place p.answer) _ all).0)

    -- the part that a connection is
    is_its_part : (q : ℕ) (c : Connection) → In c world.state.connections → is_part_of t.key q c ≡ true → has_part realm id q world ≡ true
    is_its_part q c there is = numbers_in q (parts_in realm id world) (mapped_in (λ (x : Connection). part_of realm id x.role) world.state.connections c q there (by_role c.role is)) where
      by_role : (role : Option Role) → reaches t.key q role ≡ true → part_of realm id role ≡ Some q
      by_role None is = absurd (cc)
      by_role (Some (Superior key)) is = absurd (cc)
      by_role (Some (Subordinate key part)) is =
          let both = and_parts (is_same t.key key) (q == part) is in
          ap (λ b. cond b (Some part) None) (subst (λ k. bytes_eq id (identifier realm k) ≡ true) (same_key t.key key both.0) (bytes_eq-self id)) ∙ ap Some (sym (number_is q part both.1))

    pub is_connected : (t.phase ≡ Aborted → ⊥) → (q : ℕ) → nat_le 1 q ≡ true → is_some (slice_get t.parts q) ≡ true → answer_at t.parts q ≡ None → has_part realm id q world ≡ true
    is_connected live zero least is none = absurd (let wrong : false ≡ true = least in cc)
    is_connected live (suc m) least is none = by_part (slice_get t.parts (suc m)) refl is none where
      by_link : (p : Participant) → p.answer ≡ None → is_part t.phase (link (find (is_part_of t.key (suc m)) world.state.connections)) p.answer ≡ true → (found : Option Connection) → find (is_part_of t.key (suc m)) world.state.connections ≡ found → has_part realm id (suc m) world ≡ true
      by_link p none fits None at = absurd (unanswered_linked t.phase live (sym (λ i. is_part t.phase (link (at i)) (none i)) ∙ fits))
      by_link p none fits (Some c) at = is_its_part (suc m) c (in_found (is_part_of t.key (suc m)) world.state.connections c at) (found_passes (is_part_of t.key (suc m)) world.state.connections c at)

      by_part : (o : Option Participant) → slice_get t.parts (suc m) ≡ o → is_some o ≡ true → option_and_then (λ (p : Participant). p.answer) o ≡ None → has_part realm id (suc m) world ≡ true
      by_part None at is none = absurd (let wrong : false ≡ true = is in cc)
      by_part (Some p) at is none = by_link p none (in_table t.phase (link (find (is_part_of t.key (suc m)) world.state.connections)) p (at_place m p at)).fits (find (is_part_of t.key (suc m)) world.state.connections) refl

  -- a role is of a transaction that is here, and of a part that it has
  pub record Placed (key : Key) (part : ℕ) : Type 0 where
    pub transaction : Transaction
    pub found : transaction_of key world.state ≡ Some transaction
    pub least : nat_le 1 part ≡ true
    pub there : is_some (slice_get transaction.parts part) ≡ true

  pub placed_so : (c : Connection) → In c world.state.connections → (key : Key) (part : ℕ) → c.role ≡ Some (Subordinate key part) → Placed key part
  placed_so c is key part role =
      let placed = in_all (is_role_in world.state) (roles_of world.state) (Subordinate key part) (and_parts (list_all (is_role_in world.state) (roles_of world.state)) _ sound.roles).0 (mapped_in (λ (c : Connection). c.role) world.state.connections c (Subordinate key part) is role) in
      let both = and_parts (nat_le 1 part) (option_map_or (λ (t : Transaction). nat_lt part (length t.parts)) (transaction_of key world.state) false) placed in
      by_found (transaction_of key world.state) refl both.0 both.1 where
        by_found : (found : Option Transaction) → transaction_of key world.state ≡ found → nat_le 1 part ≡ true → option_map_or (λ (t : Transaction). nat_lt part (length t.parts)) found false ≡ true → Placed key part
        by_found None at least is = absurd (let wrong : false ≡ true = is in cc)
        by_found (Some t) at least is = record { transaction = t; found = at; least = least; there = some_at part t.parts is }

  -- the transaction of a connection is the one of its identifier
  pub role_of : (t : Transaction) → In t world.state.transactions → (c : Connection) → In c world.state.connections → (key : Key) (part : ℕ) → c.role ≡ Some (Subordinate key part) → bytes_eq (identifier realm t.key) (identifier realm key) ≡ true → (key ≡ t.key) × (transaction_of key world.state ≡ Some t)
  role_of t listed c is key part role spells =
      let placed = placed_so c is key part role in
      let y = placed.transaction in
      let y_listed = in_found (has_key key) world.state.transactions y placed.found in
      let key_is : key ≡ y.key = key_found key y world.state placed.found in
      let same = keys_told realm t.key y.key (in_all (λ (x : Transaction). is_spelled x.key) world.state.transactions t spelled listed) (in_all (λ (x : Transaction). is_spelled x.key) world.state.transactions y spelled y_listed) (same_text (identifier realm t.key) (identifier realm key) spells ∙ ap (identifier realm) key_is) in
      let one = in_apart world.state.transactions (sound_whole world sound).keys t y listed y_listed same in
      (key_is ∙ sym same, placed.found ∙ ap Some (sym one))

  -- A PART THAT IS SEEN is one of a transaction that is here
  pub record Seen (id : List ℕ) (q : ℕ) : Type 0 where
    pub transaction : Transaction
    pub listed : In transaction world.state.transactions
    pub named : id ≡ identifier realm transaction.key
    pub least : nat_le 1 q ≡ true
    pub there : is_some (slice_get transaction.parts q) ≡ true

  pub seen_so : (id : List ℕ) (q : ℕ) → In q (parts_in realm id world) → Seen id q
  seen_so id q is =
      let of = in_mapped (λ (c : Connection). part_of realm id c.role) world.state.connections q is in
      by_role of.0 of.1 of.0.role refl of.2 where
        by_key : (c : Connection) → In c world.state.connections → (key : Key) (part : ℕ) → c.role ≡ Some (Subordinate key part) → bytes_eq id (identifier realm key) ≡ true → part ≡ q → Seen id q
        by_key c there key part role spells same =
            let placed = placed_so c there key part role in
            record {
              transaction = placed.transaction;
              listed = in_found (has_key key) world.state.transactions placed.transaction placed.found;
              named = same_text id (identifier realm key) spells ∙ ap (identifier realm) (key_found key placed.transaction world.state placed.found);
              least = subst (λ n. nat_le 1 n ≡ true) same placed.least;
              there = subst (λ n. is_some (slice_get placed.transaction.parts n) ≡ true) same placed.there;
            }

        by_role : (c : Connection) → In c world.state.connections → (role : Option Role) → c.role ≡ role → part_of realm id role ≡ Some q → Seen id q
        by_role c there None at is = absurd (none-some q is)
        by_role c there (Some (Superior key)) at is = absurd (none-some q is)
        by_role c there (Some (Subordinate key part)) at is = step (bytes_eq id (identifier realm key)) refl is where
          step : (b : Bool) → bytes_eq id (identifier realm key) ≡ b → cond b (Some part) None ≡ Some q → Seen id q
          step true spells is = by_key c there key part at spells (same_Some part q is)
          step false differs is = absurd (none-some q is)
