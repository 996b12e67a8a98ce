-- A realm that starts again from its rows is sound.
use Rattle.std.proofs.Common.{◌≡◌, Bool, true, false, ℕ, ◌+◌, List, [], ◌∷◌, Option, Some, cond, refl, ap, arith, sym, ◌∙◌, subst}
use Rattle.std.specs.Prelude.{◌&&◌, ◌==◌, is_none, is_some, length, map, nat_le, nat_lt}
use Rattle.std.specs.List.{flat_map, list_all, list_any}
use Rattle.std.proofs.lemmas.Bool.{and_from, and_parts, not_from_false, or_from, or_left}
use Rattle.std.proofs.lemmas.Bool.Decides.{nat_tests}
use Rattle.tip_branch.specs.Members.{is_active, ready_members}
use Rattle.tip_branch.specs.Notes.{PartyNotes, idle_party}
use Rattle.tip_branch.specs.declared.branch.Badge.{Badge}
use Rattle.tip_rows.specs.Keys.{Key, comes_before, is_same}
use Rattle.tip_rows.specs.Logs.{is_rising, last_epoch, row_at}
use Rattle.tip_rows.specs.Rows.{branches_of}
use Rattle.tip_rows.specs.declared.row.Row.{Row}
use Rattle.tip_rows.specs.declared.row.Row.TheVariants as row
use Rattle.tip_rows.proofs.MemoryLemmas.{bytes_eq-self}
use Rattle.tip_txn.specs.Transactions.{willing}
use Rattle.tip_txn.specs.declared.answer.Ballot.TheVariants.{Yes}
use Rattle.tip_txn.specs.declared.part.Participant.{Participant}
use Rattle.tip_agreement.proofs.Keys.{key_self}
use Rattle.tip_agreement.proofs.Apart.{all_more}
use Rattle.tip_machine.proofs.Storing.{before_apart}
use Rattle.tip_machine.specs.Answers.{identifier}
use Rattle.tip_machine.specs.Given.{was_given}
use Rattle.tip_machine.specs.Heads.{are_allowed, is_within}
use Rattle.tip_machine.specs.Invariants.{IsSound, are_known_once}
use Rattle.tip_machine.specs.Invariants.Bounds.{is_spelled}
use Rattle.tip_machine.specs.Invariants.Links.{are_distinct}
use Rattle.tip_machine.specs.Invariants.Links.Link.{Gone}
use Rattle.tip_machine.specs.Invariants.Parties.{are_out, has_promised, is_its_own}
use Rattle.tip_machine.specs.Invariants.Phases.{are_parts_from, is_part_in, is_party, is_transaction}
use Rattle.tip_machine.specs.Invariants.Stored.{are_same_pairs, is_stored_as}
use Rattle.tip_machine.specs.Moves.{loaded}
use Rattle.tip_machine.specs.Recovery.{adopted, reopened, restarted}
use Rattle.tip_machine.specs.Starting.{are_adopted}
use Rattle.tip_machine.specs.States.{State, transaction_of}
use Rattle.tip_machine.specs.Transactions.{decision, has_key, pair_of, pairs, refuses, subordinates, willing_from}
use Rattle.tip_machine.specs.Types.{Transaction}
use Rattle.tip_machine.specs.declared.head.Head.{Head}
use Rattle.tip_txn.specs.declared.answer.Decision.TheVariants as decisions
use Rattle.tip_txn.specs.declared.answer.Phase.TheVariants.{Prepared, Committed}

-- Keys

pub skipped : (e : Key × Row) (rows : List (Key × Row)) (key : Key) → is_same e.0 key ≡ false → row_at key (e ∷ rows) ≡ row_at key rows
skipped e rows key apart = rw apart refl

-- Parties that were adopted

ready_numbers : (numbers : List ℕ) (boxes : List Badge) → list_any is_active (ready_members numbers boxes) ≡ false
ready_numbers [] boxes = refl
ready_numbers (n ∷ numbers) [] = refl
ready_numbers (n ∷ numbers) (b ∷ boxes) = ready_numbers numbers boxes

has_boxes : (name : List ℕ) (epoch : ℕ) (id : List ℕ) (branch : ℕ × List ℕ) (branches : List (ℕ × List ℕ)) (boxes : List Badge) → (length boxes == length (branch ∷ branches)) ≡ true → has_promised (idle_party name epoch id (ready_members (map (λ b. b.0) (branch ∷ branches)) boxes)) ≡ true
has_boxes name epoch id branch branches [] same = absurd (grind (arith, nat_tests, same))
has_boxes name epoch id branch branches (b ∷ boxes) same = rw (ready_numbers (map (λ b. b.0) branches) boxes) refl

module _ (head : Head) (key : Key) where
  prepared_party : (branches : List (ℕ × List ℕ)) (boxes : List Badge) → (length boxes == length branches) ≡ true → is_party Prepared (adopted head key branches boxes) (Some Yes) ≡ true
  prepared_party [] boxes same = refl
  prepared_party (branch ∷ branches) boxes same = has_boxes head.name head.epoch (identifier head.name key) branch branches boxes same

  committed_party : (branches : List (ℕ × List ℕ)) (boxes : List Badge) → (length boxes == length branches) ≡ true → is_party Committed (adopted head key branches boxes) (Some Yes) ≡ true
  committed_party [] boxes same = refl
  committed_party (branch ∷ branches) boxes same = has_boxes head.name head.epoch (identifier head.name key) branch branches boxes same

same_number : (n : ℕ) → (n == n) ≡ true
same_number n = grind (arith, nat_tests)

its_own : (state : State) (t : Transaction) (branches : List (ℕ × List ℕ)) (boxes : List Badge) → is_its_own state t (adopted state.head t.key branches boxes) ≡ true
its_own state t [] boxes = refl
its_own state t (branch ∷ branches) boxes = and_from _ _ (same_number state.head.epoch) (bytes_eq-self (identifier state.head.name t.key))

-- Parts that promised

none_refuses : (pairs : List (List ℕ × List ℕ)) → list_any refuses (map (λ part. part.answer) (map willing pairs)) ≡ false
none_refuses [] = refl
none_refuses (pair ∷ pairs) = none_refuses pairs

none_misses : (pairs : List (List ℕ × List ℕ)) → list_any is_none (map (λ part. part.answer) (map willing pairs)) ≡ false
none_misses [] = refl
none_misses (pair ∷ pairs) = none_misses pairs

none_less : (place : ℕ) (these : List (List ℕ × List ℕ)) → are_same_pairs these (flat_map (λ (s : ℕ × Participant). pair_of s.1.address s.1.id) (willing_from place (map willing these))) ≡ true
none_less place [] = refl
none_less place (this ∷ these) = and_from _ _ (and_from _ _ (bytes_eq-self this.0) (bytes_eq-self this.1)) (none_less (place + 1) these)

decided : (pairs : List (List ℕ × List ℕ)) → decision (Some Yes ∷ map (λ part. part.answer) (map willing pairs)) ≡ decisions.Commit
decided pairs = rw (none_refuses pairs, none_misses pairs) refl

-- counts that a head may have
abbrev pub has_bounds : Head → Bool
has_bounds head = is_within 1 last_epoch head.epoch && are_allowed head.limits && nat_le head.given head.entries && nat_le head.entries head.limits.entries

-- rows by rising key, of earlier epochs, with keys that fit
pub record AreBehind (epoch : ℕ) (rows : List (Key × Row)) : Type 0 where
  pub rising : is_rising rows ≡ true
  pub earlier : list_all (λ (stored : Key × Row). nat_lt stored.0.epoch epoch) rows ≡ true
  pub spelled : list_all (λ (stored : Key × Row). is_spelled stored.0) rows ≡ true

module _ (head : Head) (boxes : Key → List Badge) where
  abbrev pub again : List (Key × Row) → State
  again rows = restarted head (loaded boxes rows)

  abbrev pub back : Key × Row → Transaction
  back stored = reopened head stored.0 (boxes stored.0) stored.1

  abbrev pub backs : List (Key × Row) → List Transaction
  backs rows = map (λ l. reopened head l.key l.boxes l.row) (loaded boxes rows)

  back_key : (key : Key) (r : Row) → (back (key, r)).key ≡ key
  back_key key (row.Prepared address superior branches subordinates) = refl
  back_key key (row.Committed branches subordinates) = refl

  -- Keys

  key_behind : (key : Key) (rows : List (Key × Row)) → list_all (λ (other : Key × Row). comes_before key other.0) rows ≡ true → list_any (is_same key) (map (λ (t : Transaction). t.key) (backs rows)) ≡ false
  key_behind key [] before = refl
  key_behind key (e ∷ rows) before = let parts = and_parts (comes_before key e.0) _ before in or_from _ _ (rw (back_key e.0 e.1) (before_apart key e.0 parts.0)) (key_behind key rows parts.1)

  keys_apart : (rows : List (Key × Row)) → is_rising rows ≡ true → are_distinct is_same (map (λ (t : Transaction). t.key) (backs rows)) ≡ true
  keys_apart [] rising = refl
  keys_apart (e ∷ rows) rising = let parts = and_parts _ (is_rising rows) rising in and_from _ _ (not_from_false _ (rw (back_key e.0 e.1) (key_behind e.0 rows parts.0))) (keys_apart rows parts.1)

  -- what is so of each row's key
  each_back : (p : Key → Bool) (rows : List (Key × Row)) → list_all (λ (stored : Key × Row). p stored.0) rows ≡ true → list_all (λ (t : Transaction). p t.key) (backs rows) ≡ true
  each_back p [] all = refl
  each_back p (e ∷ rows) all = let parts = and_parts (p e.0) _ all in and_from _ _ (rw (back_key e.0 e.1) parts.0) (each_back p rows parts.1)

  keys_given : (state : State) (rows : List (Key × Row)) → list_all (λ (stored : Key × Row). nat_lt stored.0.epoch state.head.epoch) rows ≡ true → list_all (λ (t : Transaction). was_given state t.key) (backs rows) ≡ true
  keys_given state rows earlier = all_more _ _ (backs rows) (λ t less. or_left _ _ less) (each_back (λ key. nat_lt key.epoch state.head.epoch) rows earlier)

  -- Transactions

  parts_behind : (place : ℕ) (pairs : List (List ℕ × List ℕ)) (rows : List (Key × Row)) (t : Transaction) → ((pair : List ℕ × List ℕ) → is_part_in t.phase Gone (willing pair) ≡ true) → are_parts_from place (map willing pairs) (again rows) t ≡ true
  parts_behind place [] rows t each = refl
  parts_behind place (pair ∷ pairs) rows t each = and_from _ _ (each pair) (parts_behind (place + 1) pairs rows t each)

  sound_back : (rows : List (Key × Row)) (key : Key) (r : Row) → (length (boxes key) == length (branches_of r)) ≡ true → is_transaction (again rows) (back (key, r)) ≡ true
  sound_back rows key (row.Prepared address superior branches subordinates) same =
      let t = back (key, row.Prepared address superior branches subordinates) in
      and_from _ _ (and_from _ _ (and_from _ _ (its_own (again rows) t branches (boxes key)) (and_from _ _ (prepared_party head key branches (boxes key) same) (parts_behind 1 subordinates rows t (λ pair. refl)))) (rw (decided subordinates) refl)) refl
  sound_back rows key (row.Committed branches subordinates) same =
      let t = back (key, row.Committed branches subordinates) in
      and_from _ _ (and_from _ _ (and_from _ _ (its_own (again rows) t branches (boxes key)) (and_from _ _ (committed_party head key branches (boxes key) same) (parts_behind 1 subordinates rows t (λ pair. refl)))) (rw (decided subordinates) refl)) refl

  sound_backs : (all rows : List (Key × Row)) → are_adopted boxes rows ≡ true → list_all (is_transaction (again all)) (backs rows) ≡ true
  sound_backs all [] adopted = refl
  sound_backs all (e ∷ rows) adopted = let parts = and_parts (length (boxes e.0) == length (branches_of e.1)) _ adopted in and_from _ _ (sound_back all e.0 e.1 parts.0) (sound_backs all rows parts.1)

  -- Rows

  stored_back : (key : Key) (r : Row) → is_stored_as (back (key, r)).phase (back (key, r)) (Some r) ≡ true
  stored_back key (row.Prepared address superior branches subordinates) = and_from _ _ (and_from _ _ (bytes_eq-self address) (bytes_eq-self superior)) (none_less 1 subordinates)
  stored_back key (row.Committed branches subordinates) = none_less 1 subordinates

  abbrev is_stored_in : List (Key × Row) → Transaction → Bool
  is_stored_in rows t = is_stored_as t.phase t (row_at t.key rows)

  stored_behind : (e : Key × Row) (rows some : List (Key × Row)) → list_all (λ (other : Key × Row). comes_before e.0 other.0) some ≡ true → list_all (is_stored_in rows) (backs some) ≡ true → list_all (is_stored_in (e ∷ rows)) (backs some) ≡ true
  stored_behind e rows [] before all = refl
  stored_behind e rows (f ∷ some) before all =
      let first = and_parts (comes_before e.0 f.0) _ before in
      let parts = and_parts (is_stored_in rows (back f)) (list_all (is_stored_in rows) (backs some)) all in
      and_from _ _ (subst (λ r. is_stored_as (back f).phase (back f) r ≡ true) (sym (skipped e rows (back f).key (ap (is_same e.0) (back_key f.0 f.1) ∙ before_apart e.0 f.0 first.0))) parts.0) (stored_behind e rows some first.1 parts.1)

  stored_backs : (rows : List (Key × Row)) → is_rising rows ≡ true → list_all (is_stored_in rows) (backs rows) ≡ true
  stored_backs [] rising = refl
  stored_backs (e ∷ rows) rising =
      let parts = and_parts _ (is_rising rows) rising in
      and_from _ _ (rw (back_key e.0 e.1, key_self e.0) (stored_back e.0 e.1)) (stored_behind e rows rows parts.0 (stored_backs rows parts.1))

  opened_behind : (e : Key × Row) (rows some : List (Key × Row)) → list_all (λ (stored : Key × Row). is_some (transaction_of stored.0 (again rows))) some ≡ true → list_all (λ (stored : Key × Row). is_some (transaction_of stored.0 (again (e ∷ rows)))) some ≡ true
  opened_behind e rows some all = all_more _ _ some (λ f is. step (has_key f.0 (back e)) (transaction_of f.0 (again rows)) is) all where
    step : (b : Bool) (rest : Option Transaction) → is_some rest ≡ true → is_some (cond b (Some (back e)) rest) ≡ true
    step true rest is = refl
    step false rest is = is

  opened_backs : (rows : List (Key × Row)) → list_all (λ (stored : Key × Row). is_some (transaction_of stored.0 (again rows))) rows ≡ true
  opened_backs [] = refl
  opened_backs (e ∷ rows) = and_from _ _ (rw (back_key e.0 e.1, key_self e.0) refl) (opened_behind e rows rows (opened_backs rows))

  -- what is sound where a realm starts from rows of earlier epochs
  pub starts_sound : (rows : List (Key × Row)) (errands : List PartyNotes) → has_bounds head ≡ true → AreBehind head.epoch rows → are_adopted boxes rows ≡ true → are_known_once (again rows) ≡ true → are_out (again rows) errands ≡ true → IsSound (record { state = again rows; rows = rows; errands = errands })
  starts_sound rows errands bounds behind adopted once out = record {
    numbered = refl;
    bounded = and_from _ _ (and_from _ _ bounds refl) (each_back is_spelled rows behind.spelled);
    keyed = and_from _ _ (keys_apart rows behind.rising) (keys_given (again rows) rows behind.earlier);
    roles = refl;
    connections = refl;
    transactions = sound_backs rows rows adopted;
    out = out;
    known_once = once;
    stored = and_from _ _ (and_from _ _ behind.rising (stored_backs rows behind.rising)) (opened_backs rows);
  }
