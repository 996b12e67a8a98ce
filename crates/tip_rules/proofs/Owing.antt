-- What is owed to a superior, and what is found, once an event is noted.
use Rattle.std.proofs.Common.{◌≡◌, Bool, true, false, cond, ℕ, List, [], ◌∷◌, Option, Some, None, refl, ap, sym, ◌∙◌, arith}
use Rattle.std.specs.Prelude.{find, if◌then◌else◌}
use Rattle.std.specs.Option.{option_and_then}
use Rattle.std.proofs.lemmas.Bool.Decides.{nat_tests}
use Rattle.std.proofs.lemmas.Option.{none-some, same_Some}
use Rattle.tip_conn.specs.Table.{next_of}
use Rattle.tip_conn.specs.declared.state.State.{State as ConnectionState}
use Rattle.tip_conn.specs.declared.state.State.TheVariants as states
use Rattle.tip_conn.specs.declared.state.Turn.{Turn}
use Rattle.tip_line.specs.declared.command.CommandName.{CommandName}
use Rattle.tip_line.specs.declared.response.ResponseName.{ResponseName}
use Rattle.tip_rows.specs.Keys.{Key, is_same}
use Rattle.tip_table.proofs.Standing.{change_none}
use Rattle.tip_table.specs.Lists.{changed}
use Rattle.tip_machine.proofs.Walks.{found_changed, found_passes, on_found}
use Rattle.tip_machine.specs.Changes.{alter, change}
use Rattle.tip_machine.specs.Connections.{advanced, advanced_to, asks_for, has_number, is_superior_of, owing, role_in}
use Rattle.tip_machine.specs.Proceeding.{owed_to_superior}
use Rattle.tip_machine.specs.Responses.{go_on}
use Rattle.tip_machine.specs.States.{Work, connection_of, transaction_of}
use Rattle.tip_machine.specs.Transactions.{has_key}
use Rattle.tip_machine.specs.Types.{Connection, Transaction}
use Rattle.tip_machine.specs.declared.connection.Role.{Role}
use Rattle.tip_machine.specs.declared.connection.Role.TheVariants.{Subordinate, Superior}
use Rattle.tip_outlook.specs.Noting.{part_of}
use Rattle.tip_outlook.specs.Wanting.{owed_then}

-- What is found

pub same_self : (key : Key) → is_same key key ≡ true
same_self key = grind (arith, nat_tests)

-- a transaction that is there by its own key is there when it is altered
module _ (t : Transaction) (f : Transaction → Transaction) (keyed : (u : Transaction) → (f u).key ≡ u.key) where
  pub altered_there : (w : Work) → transaction_of t.key w.state ≡ Some t → transaction_of t.key (alter t.key f w).state ≡ Some (f t)
  altered_there w found = found_changed t.key f w.state.transactions t found (ap (is_same t.key) (keyed t) ∙ found_passes (has_key t.key) w.state.transactions t found)

pub none_altered : (key : Key) (f : Transaction → Transaction) (w : Work) → transaction_of key w.state ≡ None → transaction_of key (alter key f w).state ≡ None
none_altered key f w none = ap (find (has_key key)) (change_none (has_key key) f w.state.transactions none) ∙ none

-- What is owed once a command came

pub not_both : (b : Bool) → b ≡ true → b ≡ false → {T : Type 0} → T
not_both true is not = absurd (cc)
not_both false is not = absurd (cc)

first_owed : (command : CommandName) (number : ℕ) (key : Key) (cs : List Connection) (c : Connection) → find (has_number number) cs ≡ Some c → is_superior_of key c ≡ true →
    option_and_then (λ d. d.owed) (find (is_superior_of key) (changed (has_number number) (owing command) cs)) ≡ option_and_then (λ d. if has_number number d then Some command else d.owed) (find (is_superior_of key) cs)
first_owed command number key [] c is superior = absurd (none-some c is)
first_owed command number key (x ∷ xs) c is superior = at (has_number number x) refl (is_superior_of key x) refl is (λ later. first_owed command number key xs c later superior) where
  at : (there : Bool) → has_number number x ≡ there → (on : Bool) → is_superior_of key x ≡ on → cond there (Some x) (find (has_number number) xs) ≡ Some c →
      (find (has_number number) xs ≡ Some c → option_and_then (λ d. d.owed) (find (is_superior_of key) (changed (has_number number) (owing command) xs)) ≡ option_and_then (λ d. if has_number number d then Some command else d.owed) (find (is_superior_of key) xs)) →
      option_and_then (λ d. d.owed) (find (is_superior_of key) (cond there (owing command x ∷ xs) (x ∷ changed (has_number number) (owing command) xs))) ≡ option_and_then (λ d. if has_number number d then Some command else d.owed) (cond on (Some x) (find (is_superior_of key) xs))
  at true numbered true on here later = rw (on, numbered) refl
  at true numbered false off here later = not_both (is_superior_of key x) (ap (is_superior_of key) (same_Some x c here) ∙ superior) off
  at false other true on here later = rw (on, other) refl
  at false other false off here later = rw off (later here)

module _ (w : Work) (c : Connection) (there : connection_of c.number w.state ≡ Some c) where
  pub owed_now : (command : CommandName) (key : Key) (t : Transaction) → c.role ≡ Some (Superior key) → transaction_of key w.state ≡ Some t → owed_to_superior t.key (change c.number (owing command) w).state ≡ owed_then command c.number t.key w.state
  owed_now command key t on found =
      let same : key ≡ t.key = on_found (λ k. key ≡ k) key w.state.transactions t found refl in
      first_owed command c.number t.key w.state.connections c there (ap (asks_for t.key) on ∙ ap (is_same t.key) same ∙ same_self t.key)

-- Responses

-- the superior's connection is where it was, once another connection is changed
same_superior : (key : Key) (number : ℕ) (f : Connection → Connection) (cs : List Connection) (c : Connection) → find (has_number number) cs ≡ Some c → is_superior_of key c ≡ false → is_superior_of key (f c) ≡ false → find (is_superior_of key) (changed (has_number number) f cs) ≡ find (is_superior_of key) cs
same_superior key number f [] c is off later = absurd (none-some c is)
same_superior key number f (x ∷ xs) c is off later = at (has_number number x) refl is (same_superior key number f xs c) where
  at : (this : Bool) → has_number number x ≡ this → cond this (Some x) (find (has_number number) xs) ≡ Some c → (find (has_number number) xs ≡ Some c → is_superior_of key c ≡ false → is_superior_of key (f c) ≡ false → find (is_superior_of key) (changed (has_number number) f xs) ≡ find (is_superior_of key) xs) →
      find (is_superior_of key) (cond this (f x ∷ xs) (x ∷ changed (has_number number) f xs)) ≡ cond (is_superior_of key x) (Some x) (find (is_superior_of key) xs)
  at true so here rest =
      let same : x ≡ c = same_Some x c here in
      ap (λ b. cond b (Some (f x)) (find (is_superior_of key) xs)) (ap (λ d. is_superior_of key (f d)) same ∙ later) ∙ sym (ap (λ b. cond b (Some x) (find (is_superior_of key) xs)) (ap (is_superior_of key) same ∙ off))
  at false so there rest = ap (λ found. cond (is_superior_of key x) (Some x) found) (rest there off later)

kept_off : (key : Key) (at : ConnectionState) (role : Option Role) → asks_for key role ≡ false → asks_for key (role_in at role) ≡ false
kept_off key states.Initial role off = off
kept_off key states.Idle role off = refl
kept_off key states.Begun role off = off
kept_off key states.Enlisted role off = off
kept_off key states.Prepared role off = off
kept_off key states.Error role off = off

advanced_off : (key : Key) (to : Option (ConnectionState × Turn)) (c : Connection) → is_superior_of key c ≡ false → is_superior_of key (advanced_to to c) ≡ false
advanced_off key None c off = off
advanced_off key (Some place) c off = kept_off key place.0 c.role off

module _ (w : Work) (c : Connection) (there : connection_of c.number w.state ≡ Some c) where
  pub owed_after : (name : CommandName) (said : ResponseName) (key : Key) (place : Key × ℕ) → part_of c.role ≡ Some place → owed_to_superior key (go_on name said c w).state ≡ owed_to_superior key w.state
  owed_after name said key place is =
      let off : is_superior_of key c ≡ false = at c.role is in
      ap (option_and_then (λ d. d.owed)) (same_superior key c.number (advanced name said) w.state.connections c there off (advanced_off key (next_of name c.state said) c off)) where
        at : (role : Option Role) → part_of role ≡ Some place → asks_for key role ≡ false
        at None so = refl
        at (Some (Superior other)) so = absurd (none-some place so)
        at (Some (Subordinate other part)) so = refl
