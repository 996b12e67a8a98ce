-- A transaction that is made on a connection leaves a realm whole.
use Rattle.std.proofs.Common.{◌≡◌, Bool, true, false, ℕ, ◌+◌, List, [], ◌∷◌, ◌++◌, Option, Some, None, cond, refl, ap, subst, sym, arith, ◌∙◌}
use Rattle.std.specs.Prelude.{◌&&◌, ◌==◌, find, is_some, length, nat_le, nat_lt, take}
use Rattle.std.specs.List.{list_all, list_any}
use Rattle.std.specs.Option.{option_map_or}
use Rattle.std.proofs.lemmas.Bool.{and_from, and_parts, both_ways, not-true, or_left, or_parts, or_right}
use Rattle.std.proofs.lemmas.Bool.Decides.{nat_tests}
use Rattle.std.proofs.lemmas.Option.{none-some}
use Rattle.tip_branch.specs.Members.{fresh_members}
use Rattle.tip_branch.specs.declared.branch.Badge.{Badge}
use Rattle.tip_rows.specs.Keys.{Key}
use Rattle.tip_rows.proofs.MemoryLemmas.{bytes_eq-self}
use Rattle.tip_txn.specs.declared.answer.Phase.TheVariants.{Active}
use Rattle.tip_machine.specs.Answers.{identifier}
use Rattle.tip_machine.specs.Changes.{change}
use Rattle.tip_machine.specs.Commands.{make, making}
use Rattle.tip_machine.specs.Connections.{is_superior_of}
use Rattle.tip_machine.specs.Given.{was_given}
use Rattle.tip_machine.specs.Invariants.Links.{is_connected, link_on}
use Rattle.tip_machine.specs.Invariants.Parties.{is_unasked}
use Rattle.tip_machine.specs.Invariants.Phases.{has_its_address, is_superior, is_transaction}
use Rattle.tip_machine.specs.States.{State, Work, connection_of, transaction_of}
use Rattle.tip_machine.specs.Transactions.{begun, has_key, next_key}
use Rattle.tip_machine.specs.Types.{Connection, Transaction}
use Rattle.tip_machine.specs.declared.connection.Role.TheVariants.{Superior, Subordinate}
use Rattle.tip_machine.specs.declared.transaction.Origin.{Origin}
use Rattle.tip_machine.proofs.Rising.{changed_twice}
use Rattle.tip_agreement.proofs.Apart.{all_added, all_more, none_of_all}
use Rattle.tip_agreement.proofs.Around.{Around, RolesStay, Whole, all_stand_still, is_other, same_transaction, stands, turned_about, whole_of}
use Rattle.tip_agreement.proofs.Found.{none_there}
use Rattle.tip_agreement.proofs.Joining.{above_joined, around_above, joined, none_above}
use Rattle.tip_agreement.proofs.Keys.{apart_added, are_given, key_self, next_apart}
use Rattle.tip_agreement.proofs.Owned.{from_as}

fresh_unasked : (number : ℕ) (boxes : List Badge) → list_all is_unasked (fresh_members number boxes) ≡ true
fresh_unasked number [] = refl
fresh_unasked number (box ∷ boxes) = fresh_unasked (number + 1) boxes

-- what was found is found with one more behind it
pub found_before : (p : Transaction → Bool) (ts : List Transaction) (new t : Transaction) → find p ts ≡ Some t → find p (ts ++ new ∷ []) ≡ Some t
found_before p [] new t is = absurd (none-some t is)
found_before p (u ∷ ts) new t is = step (p u) is (found_before p ts new t) where
  step : (b : Bool) → cond b (Some u) (find p ts) ≡ Some t → (find p ts ≡ Some t → find p (ts ++ new ∷ []) ≡ Some t) → cond b (Some u) (find p (ts ++ new ∷ [])) ≡ Some t
  step true is later = is
  step false is later = later is

-- where nothing was found, the one behind it is, if it passes
pub found_new : (p : Transaction → Bool) (ts : List Transaction) (new : Transaction) → find p ts ≡ None → find p (ts ++ new ∷ []) ≡ cond (p new) (Some new) None
found_new p [] new none = refl
found_new p (u ∷ ts) new none = step (p u) none (found_new p ts new) where
  step : (b : Bool) → cond b (Some u) (find p ts) ≡ None → (find p ts ≡ None → find p (ts ++ new ∷ []) ≡ cond (p new) (Some new) None) → cond b (Some u) (find p (ts ++ new ∷ [])) ≡ cond (p new) (Some new) None
  step true is later = absurd (cc)
  step false is later = later is

pub found_last : (p : Transaction → Bool) (ts : List Transaction) (new : Transaction) → list_any p ts ≡ false → p new ≡ true → find p (ts ++ new ∷ []) ≡ Some new
found_last p [] new none is = rw is refl
found_last p (u ∷ ts) new none is = let parts = or_parts (p u) (list_any p ts) none in rw parts.0 (found_last p ts new parts.1 is)

module _ (from : Origin) (c : Connection) (w : Work) (whole : Whole w.state) (given : are_given w.state w.state.transactions ≡ true) (there : connection_of c.number w.state ≡ Some c) (none : c.role ≡ None) where
  abbrev pub made_key : Key
  made_key = next_key w.state.head c

  abbrev pub new_one : Transaction
  new_one = begun w.state.head made_key from (take (length w.state.head.branches) c.boxes)

  abbrev pub with_role : Connection → Connection
  with_role = making (length w.state.head.branches) made_key

  abbrev grown : State
  grown = record w.state { transactions = w.state.transactions ++ new_one ∷ [] }

  pub key_absent : list_any (has_key made_key) w.state.transactions ≡ false
  key_absent = none_of_all (λ (t : Transaction). was_given w.state t.key) (has_key made_key) w.state.transactions (λ t is. turned_about t.key made_key (not-true _ (next_apart c w.state t.key there is))) given

  new_found : transaction_of made_key grown ≡ Some new_one
  new_found = found_last (has_key made_key) w.state.transactions new_one key_absent (key_self made_key)

  roles_grow : RolesStay w.state grown
  roles_grow (Superior other) is = step (transaction_of other w.state) refl is where
    step : (found : Option Transaction) → transaction_of other w.state ≡ found → is_some found ≡ true → is_some (transaction_of other grown) ≡ true
    step None found is = absurd (cc)
    step (Some t) found is = ap is_some (found_before (has_key other) w.state.transactions new_one t found)
  roles_grow (Subordinate other part) is = step (transaction_of other w.state) refl is where
    step : (found : Option Transaction) → transaction_of other w.state ≡ found → nat_le 1 part && option_map_or (λ (t : Transaction). nat_lt part (length t.parts)) found false ≡ true → nat_le 1 part && option_map_or (λ (t : Transaction). nat_lt part (length t.parts)) (transaction_of other grown) false ≡ true
    step None found is = absurd (both_ways false refl (and_parts (nat_le 1 part) false is).1)
    step (Some t) found is = rw (found_before (has_key other) w.state.transactions new_one t found) is

  around_grown : Around made_key grown
  around_grown = record {
    keys = apart_added w.state.transactions new_one whole.keys (all_more _ _ w.state.transactions (λ t is. next_apart c w.state t.key there is) given);
    apart = whole.apart;
    standing = all_stand_still w.state grown w.state.connections roles_grow whole.standing;
    others = all_added (is_other made_key grown) w.state.transactions new_one (all_more (is_transaction w.state) (is_other made_key grown) w.state.transactions (λ t is. still t is) whole.transactions) (or_left _ _ (key_self made_key));
  } where
    still : (t : Transaction) → is_transaction w.state t ≡ true → is_other made_key grown t ≡ true
    still t is = or_right _ _ (same_transaction w.state grown t (record { epoch = refl; name = refl; superior = refl; part = λ place. refl; on = refl }) ∙ is)

  -- the connection becomes what the answer, or the question, makes of it
  module _ (g : Connection → Connection) (same : (d : Connection) → (g d).number ≡ d.number) (d : Connection) (becomes : g (with_role c) ≡ d) (role : d.role ≡ Some (Superior made_key)) (connected : is_connected d ≡ true) (above : is_superior Active from (link_on d.side d) ≡ true) (address : has_its_address Active from (Some d) ≡ true) where
    taken_up : Connection → Connection
    taken_up e = g (with_role e)

    becomes_so : taken_up c ≡ d
    unfolding taken_up
    becomes_so = becomes

    stands_up : stands grown (taken_up c) ≡ true
    stands_up = subst (λ e. stands grown e ≡ true) (sym becomes_so) (and_from _ _ (and_from _ _ connected (rw role refl)) (rw role (ap is_some new_found)))

    free_above : list_any (is_superior_of made_key) w.state.connections ≡ false
    free_above = none_above made_key w.state (none_there (has_key made_key) w.state.transactions key_absent) whole.standing

    takes_up : (taken_up c).role ≡ Some (Superior made_key)
    takes_up = ap (λ (e : Connection). e.role) becomes_so ∙ role

    abbrev settled_in : State
    settled_in = joined made_key grown taken_up c there none stands_up around_grown

    found_above : find (is_superior_of made_key) settled_in.connections ≡ Some d
    found_above = above_joined made_key grown taken_up c there none stands_up around_grown takes_up free_above ∙ ap Some becomes_so

    is_new : is_transaction settled_in new_one ≡ true
    is_new = from_as Active made_key new_one settled_in refl (record {
      found = new_found;
      above = rw found_above above;
      parts = and_from _ _ (fresh_unasked 1 (take (length w.state.head.branches) c.boxes)) refl;
      own = and_from _ _ (self w.state.head.epoch) (bytes_eq-self (identifier w.state.head.name made_key));
    }) (rw found_above address) refl refl where
      self : (n : ℕ) → (n == n) ≡ true
      self n = grind (arith, nat_tests)

    pub made_whole : Whole (change c.number g (make from c w)).state
    unfolding make taken_up
    made_whole = subst (λ cs. Whole (record grown { connections = cs })) (sym (changed_twice c.number g with_role w.state.connections (λ e. refl))) (whole_of made_key settled_in new_one new_found is_new (around_above made_key grown taken_up c there none stands_up around_grown takes_up free_above))
