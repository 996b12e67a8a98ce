-- Rows fit the transactions, key by key, and after a change that was stored.
use Rattle.std.proofs.Common.{◌≡◌, Bool, true, false, List, [], ◌∷◌, Option, Some, None, cond, refl, ap, subst, sym, ◌∙◌}
use Rattle.std.specs.Prelude.{◌&&◌, find, is_none, is_some, not, option_map}
use Rattle.std.specs.List.{list_all, list_any}
use Rattle.std.proofs.lemmas.Bool.{and_from, and_parts, both_ways, not-true, or_parts}
use Rattle.std.proofs.lemmas.Option.{none-some, same_Some}
use Rattle.tip_rows.specs.Keys.{Key, comes_before, is_same}
use Rattle.tip_rows.specs.Logs.{is_rising, row_at}
use Rattle.tip_rows.specs.declared.row.Row.{Row}
use Rattle.tip_rows.proofs.OrderLemmas.{same_key}
use Rattle.tip_machine.specs.Invariants.Links.{are_distinct}
use Rattle.tip_machine.specs.Invariants.Stored.{are_stored, is_stored_as}
use Rattle.tip_machine.specs.Moves.{stored}
use Rattle.tip_machine.specs.States.{State, transaction_of}
use Rattle.tip_machine.specs.Transactions.{has_key}
use Rattle.tip_machine.specs.Types.{Transaction}
use Rattle.tip_machine.specs.declared.event.Change.{Change}
use Rattle.tip_machine.specs.declared.event.Change.TheVariants.{Put, Remove}
use Rattle.tip_machine.proofs.Storing.{before_apart, put_at, removed_at, rising_put, rising_removed}
use Rattle.tip_machine.proofs.Walks.{found_passes}
use Rattle.tip_agreement.proofs.Apart.{all_found}
use Rattle.tip_agreement.proofs.Keys.{key_self, keys_of}
use Rattle.tip_agreement.proofs.Onward.{row_in, says}
use Rattle.tip_agreement.proofs.Around.{turned_about}

-- what is stored then
abbrev pub stored_by : Option Change → List (Key × Row) → List (Key × Row)
stored_by None rows = rows
stored_by (Some change) rows = stored change rows

pub rising_stored : (change : Option Change) (rows : List (Key × Row)) → is_rising rows ≡ true → is_rising (stored_by change rows) ≡ true
rising_stored None rows rising = rising
rising_stored (Some (Put key new)) rows rising = rising_put key new rows rising
rising_stored (Some (Remove key)) rows rising = rising_removed key rows rising

pub stored_at : (change : Option Change) (k : Key) (rows : List (Key × Row)) → is_rising rows ≡ true → row_at k (stored_by change rows) ≡ row_in change k (row_at k rows)
stored_at None k rows rising = refl
stored_at (Some (Put key new)) k rows rising = put_at key new k rows
stored_at (Some (Remove key)) k rows rising = removed_at key k rows rising

-- KEY BY KEY

-- the row of each key says what its transaction is
abbrev pub Says : State → List (Key × Row) → Type 0
Says s rows = (key : Key) → says (transaction_of key s) (row_at key rows) ≡ true

row_found : (key : Key) (rows : List (Key × Row)) (r : Row) → row_at key rows ≡ Some r → (e : Key × Row) × (find (λ (e : Key × Row). is_same e.0 key) rows ≡ Some e)
row_found key rows r is = step (find (λ (e : Key × Row). is_same e.0 key) rows) is where
  step : (found : Option (Key × Row)) → option_map (λ (e : Key × Row). e.1) found ≡ Some r → (e : Key × Row) × (found ≡ Some e)
  step None is = absurd (none-some r is)
  step (Some e) is = (e, refl)

pub to_says : (s : State) (rows : List (Key × Row)) → are_stored s rows ≡ true → (is_rising rows ≡ true) × Says s rows
to_says s rows is = (both.0, λ key. step key (transaction_of key s) refl) where
  a : (is_rising rows && list_all (λ (t : Transaction). is_stored_as t.phase t (row_at t.key rows)) s.transactions ≡ true) × (list_all (λ (e : Key × Row). is_some (transaction_of e.0 s)) rows ≡ true)
  a = and_parts _ _ is

  both : (is_rising rows ≡ true) × (list_all (λ (t : Transaction). is_stored_as t.phase t (row_at t.key rows)) s.transactions ≡ true)
  both = and_parts _ _ a.0

  absent : (key : Key) → transaction_of key s ≡ None → (r : Option Row) → row_at key rows ≡ r → is_none r ≡ true
  absent key none None at = refl
  absent key none (Some r) at =
      let e = row_found key rows r at in
      let there = all_found (λ (e : Key × Row). is_some (transaction_of e.0 s)) (λ (e : Key × Row). is_same e.0 key) rows e.0 a.1 e.1 in
      let same = same_key e.0.0 key (found_passes (λ (e : Key × Row). is_same e.0 key) rows e.0 e.1) in
      absurd (both_ways (is_some (transaction_of key s)) (ap is_some none) (subst (λ k. is_some (transaction_of k s) ≡ true) same there))

  step : (key : Key) (found : Option Transaction) → transaction_of key s ≡ found → says found (row_at key rows) ≡ true
  step key None none = absent key none (row_at key rows) refl
  step key (Some t) found = subst (λ k. is_stored_as t.phase t (row_at k rows) ≡ true) (sym (same_key key t.key (found_passes (has_key key) s.transactions t found))) (all_found (λ (t : Transaction). is_stored_as t.phase t (row_at t.key rows)) (has_key key) s.transactions t both.1 found)

-- who is behind another one is found by its key, and by no key of that one
module _ (u : Transaction) (ts : List Transaction) (none : list_any (is_same u.key) (keys_of ts) ≡ false) (t : Transaction) (is : find (has_key t.key) ts ≡ Some t) where
  pub other_key : is_same u.key t.key ≡ false
  other_key = step ts none is where
    step : (ts : List Transaction) → list_any (is_same u.key) (keys_of ts) ≡ false → find (has_key t.key) ts ≡ Some t → is_same u.key t.key ≡ false
    step [] none is = absurd (none-some t is)
    step (v ∷ ts) none is = let parts = or_parts (is_same u.key v.key) (list_any (is_same u.key) (keys_of ts)) none in first (has_key t.key v) is parts.0 (step ts parts.1) where
      first : (b : Bool) → cond b (Some v) (find (has_key t.key) ts) ≡ Some t → is_same u.key v.key ≡ false → (find (has_key t.key) ts ≡ Some t → is_same u.key t.key ≡ false) → is_same u.key t.key ≡ false
      first true is differs later = subst (λ (x : Transaction). is_same u.key x.key ≡ false) (same_Some v t is) differs
      first false is differs later = later is

  pub found_behind : find (has_key t.key) (u ∷ ts) ≡ Some t
  found_behind = rw (turned_about u.key t.key other_key) is

-- each of them is the one that is found by its key
pub each_found : (p : Transaction → Bool) (ts : List Transaction) → are_distinct is_same (keys_of ts) ≡ true → ((t : Transaction) → find (has_key t.key) ts ≡ Some t → p t ≡ true) → list_all p ts ≡ true
each_found p [] apart each = refl
each_found p (u ∷ ts) apart each = let parts = and_parts (not (list_any (is_same u.key) (keys_of ts))) (are_distinct is_same (keys_of ts)) apart in and_from _ _ (each u (rw (key_self u.key) refl)) (each_found p ts parts.1 (λ t is. each t (found_behind u ts (not-true _ parts.0) t is)))

pub from_says : (s : State) (rows : List (Key × Row)) → are_distinct is_same (keys_of s.transactions) ≡ true → is_rising rows ≡ true → Says s rows → are_stored s rows ≡ true
from_says s rows apart rising all = and_from _ _ (and_from _ _ rising (each_found (λ (t : Transaction). is_stored_as t.phase t (row_at t.key rows)) s.transactions apart (λ t found. subst (λ o. says o (row_at t.key rows) ≡ true) found (all t.key)))) (there rows rows rising (λ e at. at)) where
  opened : (key : Key) (r : Row) → row_at key rows ≡ Some r → is_some (transaction_of key s) ≡ true
  opened key r at = step (transaction_of key s) (subst (λ x. says (transaction_of key s) x ≡ true) at (all key)) where
    step : (found : Option Transaction) → says found (Some r) ≡ true → is_some found ≡ true
    step None is = absurd (cc)
    step (Some t) is = refl

  skips : (e : Key × Row) (some : List (Key × Row)) (k : Key) → is_same e.0 k ≡ false → row_at k (e ∷ some) ≡ row_at k some
  skips e some k differ = rw differ refl

  there : (whole some : List (Key × Row)) → is_rising some ≡ true → ((e : Key × Row) → row_at e.0 some ≡ Some e.1 → row_at e.0 rows ≡ Some e.1) → list_all (λ (e : Key × Row). is_some (transaction_of e.0 s)) some ≡ true
  there whole [] rising at = refl
  there whole (e ∷ some) rising at =
      let parts = and_parts (list_all (λ (f : Key × Row). comes_before e.0 f.0) some) (is_rising some) rising in
      and_from _ _ (opened e.0 e.1 (at e (rw (key_self e.0) refl))) (there whole some parts.1 (λ f is. at f (apart_from f some parts.0 is))) where
        apart_from : (f : Key × Row) (some : List (Key × Row)) → list_all (λ (f : Key × Row). comes_before e.0 f.0) some ≡ true → row_at f.0 some ≡ Some f.1 → row_at f.0 (e ∷ some) ≡ Some f.1
        apart_from f some before is =
            let found = row_found f.0 some f.1 is in
            let after = all_found (λ (f : Key × Row). comes_before e.0 f.0) (λ (g : Key × Row). is_same g.0 f.0) some found.0 before found.1 in
            let same = same_key found.0.0 f.0 (found_passes (λ (g : Key × Row). is_same g.0 f.0) some found.0 found.1) in
            skips e some f.0 (before_apart e.0 f.0 (subst (λ k. comes_before e.0 k ≡ true) same after)) ∙ is
