-- A row is put among the rows of a realm, or taken out: what stands at each key then, and that the keys rise still.
use Rattle.std.proofs.Common.{◌≡◌, Bool, true, false, List, [], ◌∷◌, Option, Some, None, cond, refl, ap, subst, sym, arith, ◌∙◌}
use Rattle.std.specs.Prelude.{find, map, option_map}
use Rattle.std.specs.List.{list_all}
use Rattle.std.proofs.lemmas.Bool.{and_from, and_parts, both_ways}
use Rattle.std.proofs.lemmas.Bool.Decides.{nat_tests}
use Rattle.std.proofs.lemmas.Option.{none-some, same_Some}
use Rattle.tip_rows.specs.Keys.{Key, comes_before, is_same}
use Rattle.tip_rows.specs.Logs.{is_rising, row_at}
use Rattle.tip_rows.specs.declared.row.Row.{Row}
use Rattle.tip_rows.proofs.OrderLemmas.{same_key}
use Rattle.tip_table.specs.Lists.{without}
use Rattle.tip_machine.specs.Moves.{row_put}

-- The order of keys

before_then : (a b c : Key) → comes_before a b ≡ true → comes_before b c ≡ true → comes_before a c ≡ true
before_then a b c first next = grind (arith, nat_tests)

pub before_apart : (a b : Key) → comes_before a b ≡ true → is_same a b ≡ false
before_apart a b before = grind (arith, nat_tests)

turned_about : (a b : Key) → is_same a b ≡ false → is_same b a ≡ false
turned_about a b differ = grind (arith, nat_tests)

before_or : (a b : Key) → is_same a b ≡ false → comes_before a b ≡ false → comes_before b a ≡ true
before_or a b differ not = grind (arith, nat_tests)

-- a key comes before all of a list
abbrev leads : Key → List (Key × Row) → Bool
leads key rows = list_all (λ f. comes_before key f.0) rows

leads_from : (a b : Key) (rows : List (Key × Row)) → comes_before a b ≡ true → leads b rows ≡ true → leads a rows ≡ true
leads_from a b [] before all = refl
leads_from a b (f ∷ rows) before all = let parts = and_parts (comes_before b f.0) (leads b rows) all in and_from _ _ (before_then a b f.0 before parts.0) (leads_from a b rows before parts.1)

leads_without : (a : Key) (test : Key × Row → Bool) (rows : List (Key × Row)) → leads a rows ≡ true → leads a (without test rows) ≡ true
leads_without a test [] all = refl
leads_without a test (f ∷ rows) all = let parts = and_parts (comes_before a f.0) (leads a rows) all in step (test f) parts.0 parts.1 (leads_without a test rows parts.1) where
  step : (b : Bool) → comes_before a f.0 ≡ true → leads a rows ≡ true → leads a (without test rows) ≡ true → leads a (cond b rows (f ∷ without test rows)) ≡ true
  step true first rest later = rest
  step false first rest later = and_from _ _ first later

-- A row is put, or taken out

pub put_at : (key : Key) (new : Row) (k : Key) (rows : List (Key × Row)) → row_at k (row_put key new rows) ≡ cond (is_same key k) (Some new) (row_at k rows)
put_at key new k [] = step (is_same key k) where
  step : (b : Bool) → option_map (λ (e : Key × Row). e.1) (cond b (Some (key, new)) None) ≡ cond b (Some new) None
  step true = refl
  step false = refl
put_at key new k (o ∷ rows) = step (is_same key o.0) (comes_before key o.0) refl (put_at key new k rows) where
  first : (b : Bool) (rest : Option (Key × Row)) → option_map (λ (e : Key × Row). e.1) (cond b (Some (key, new)) rest) ≡ cond b (Some new) (option_map (λ (e : Key × Row). e.1) rest)
  first true rest = refl
  first false rest = refl

  other : (b : Bool) (rest : Option (Key × Row)) → option_map (λ (e : Key × Row). e.1) (cond b (Some o) rest) ≡ cond b (Some o.1) (option_map (λ (e : Key × Row). e.1) rest)
  other true rest = refl
  other false rest = refl

  gone : (b : Bool) → is_same key k ≡ b → is_same key o.0 ≡ true → cond b (Some new) (row_at k rows) ≡ cond b (Some new) (row_at k (o ∷ rows))
  gone true at same = refl
  gone false at same = sym (ap (λ b. option_map (λ (e : Key × Row). e.1) (cond b (Some o) (find (λ (e : Key × Row). is_same e.0 k) rows))) (subst (λ x. is_same x k ≡ false) (same_key key o.0 same) at))

  swap : (b c : Bool) → is_same key k ≡ b → is_same o.0 k ≡ c → is_same key o.0 ≡ false → cond c (Some o.1) (cond b (Some new) (row_at k rows)) ≡ cond b (Some new) (cond c (Some o.1) (row_at k rows))
  swap true true at there differ = absurd (both_ways (is_same key o.0) differ (subst (λ x. is_same key x ≡ true) (sym (same_key o.0 k there)) at))
  swap true false at there differ = refl
  swap false true at there differ = refl
  swap false false at there differ = refl

  step : (a b : Bool) → is_same key o.0 ≡ a → row_at k (row_put key new rows) ≡ cond (is_same key k) (Some new) (row_at k rows) → row_at k (cond a ((key, new) ∷ rows) (cond b ((key, new) ∷ o ∷ rows) (o ∷ row_put key new rows))) ≡ cond (is_same key k) (Some new) (row_at k (o ∷ rows))
  step true b same rest = first (is_same key k) (find (λ (e : Key × Row). is_same e.0 k) rows) ∙ gone (is_same key k) refl same
  step false true differ rest = first (is_same key k) (find (λ (e : Key × Row). is_same e.0 k) (o ∷ rows))
  step false false differ rest = other (is_same o.0 k) (find (λ (e : Key × Row). is_same e.0 k) (row_put key new rows)) ∙ (ap (cond (is_same o.0 k) (Some o.1)) rest ∙ (swap (is_same key k) (is_same o.0 k) refl refl differ ∙ ap (cond (is_same key k) (Some new)) (sym (other (is_same o.0 k) (find (λ (e : Key × Row). is_same e.0 k) rows)))))

none_behind : (key : Key) (rows : List (Key × Row)) → leads key rows ≡ true → row_at key rows ≡ None
none_behind key [] all = refl
none_behind key (f ∷ rows) all = let parts = and_parts (comes_before key f.0) _ all in ap (λ b. option_map (λ (e : Key × Row). e.1) (cond b (Some f) (find (λ (e : Key × Row). is_same e.0 key) rows))) (turned_about key f.0 (before_apart key f.0 parts.0)) ∙ none_behind key rows parts.1

pub removed_at : (key k : Key) (rows : List (Key × Row)) → is_rising rows ≡ true → row_at k (without (λ (other : Key × Row). is_same key other.0) rows) ≡ cond (is_same key k) None (row_at k rows)
removed_at key k [] rising = step (is_same key k) (row_at k []) refl where
  step : (b : Bool) (found : Option Row) → found ≡ None → found ≡ cond b None found
  step true found is = is
  step false found is = refl
removed_at key k (o ∷ rows) rising = let parts = and_parts (leads o.0 rows) (is_rising rows) rising in step (is_same key o.0) refl parts.0 (removed_at key k rows parts.1) where
  other : (b : Bool) (rest : Option (Key × Row)) → option_map (λ (e : Key × Row). e.1) (cond b (Some o) rest) ≡ cond b (Some o.1) (option_map (λ (e : Key × Row). e.1) rest)
  other true rest = refl
  other false rest = refl

  gone : (b : Bool) → is_same key k ≡ b → is_same key o.0 ≡ true → leads o.0 rows ≡ true → row_at k rows ≡ cond b None (row_at k (o ∷ rows))
  gone true at same before = ap (λ x. row_at x rows) (sym (same_key key k at) ∙ same_key key o.0 same) ∙ none_behind o.0 rows before
  gone false at same before = sym (ap (λ b. option_map (λ (e : Key × Row). e.1) (cond b (Some o) (find (λ (e : Key × Row). is_same e.0 k) rows))) (subst (λ x. is_same x k ≡ false) (same_key key o.0 same) at))

  swap : (b c : Bool) → is_same key k ≡ b → is_same o.0 k ≡ c → is_same key o.0 ≡ false → cond c (Some o.1) (cond b None (row_at k rows)) ≡ cond b None (cond c (Some o.1) (row_at k rows))
  swap true true at there differ = absurd (both_ways (is_same key o.0) differ (subst (λ x. is_same key x ≡ true) (sym (same_key o.0 k there)) at))
  swap true false at there differ = refl
  swap false true at there differ = refl
  swap false false at there differ = refl

  step : (a : Bool) → is_same key o.0 ≡ a → leads o.0 rows ≡ true → row_at k (without (λ (other : Key × Row). is_same key other.0) rows) ≡ cond (is_same key k) None (row_at k rows) → row_at k (cond a rows (o ∷ without (λ (other : Key × Row). is_same key other.0) rows)) ≡ cond (is_same key k) None (row_at k (o ∷ rows))
  step true same before rest = gone (is_same key k) refl same before
  step false differ before rest = other (is_same o.0 k) (find (λ (e : Key × Row). is_same e.0 k) (without (λ (other : Key × Row). is_same key other.0) rows)) ∙ (ap (cond (is_same o.0 k) (Some o.1)) rest ∙ (swap (is_same key k) (is_same o.0 k) refl refl differ ∙ ap (cond (is_same key k) None) (sym (other (is_same o.0 k) (find (λ (e : Key × Row). is_same e.0 k) rows)))))

-- They rise still

before_put : (a key : Key) (new : Row) (rows : List (Key × Row)) → comes_before a key ≡ true → leads a rows ≡ true → leads a (row_put key new rows) ≡ true
before_put a key new [] first all = and_from _ _ first refl
before_put a key new (o ∷ rows) first all = let parts = and_parts (comes_before a o.0) _ all in step (is_same key o.0) (comes_before key o.0) parts.0 parts.1 (before_put a key new rows first parts.1) where
  step : (b c : Bool) → comes_before a o.0 ≡ true → leads a rows ≡ true → leads a (row_put key new rows) ≡ true → list_all (λ (f : Key × Row). comes_before a f.0) (cond b ((key, new) ∷ rows) (cond c ((key, new) ∷ o ∷ rows) (o ∷ row_put key new rows))) ≡ true
  step true c here rest later = and_from _ _ first rest
  step false true here rest later = and_from _ _ first (and_from _ _ here rest)
  step false false here rest later = and_from _ _ here later

pub rising_put : (key : Key) (new : Row) (rows : List (Key × Row)) → is_rising rows ≡ true → is_rising (row_put key new rows) ≡ true
rising_put key new [] rising = refl
rising_put key new (o ∷ rows) rising = let parts = and_parts (leads o.0 rows) (is_rising rows) rising in step (is_same key o.0) (comes_before key o.0) refl refl parts.0 parts.1 (rising_put key new rows parts.1) where
  step : (b c : Bool) → is_same key o.0 ≡ b → comes_before key o.0 ≡ c → leads o.0 rows ≡ true → is_rising rows ≡ true → is_rising (row_put key new rows) ≡ true → is_rising (cond b ((key, new) ∷ rows) (cond c ((key, new) ∷ o ∷ rows) (o ∷ row_put key new rows))) ≡ true
  step true c same is before rest later = and_from _ _ (subst (λ k. leads k rows ≡ true) (sym (same_key key o.0 same)) before) rest
  step false true differ is before rest later = and_from _ _ (and_from _ _ is (leads_from key o.0 rows is before)) (and_from _ _ before rest)
  step false false differ is before rest later = and_from _ _ (before_put o.0 key new rows (before_or key o.0 differ is) before) later

pub rising_removed : (key : Key) (rows : List (Key × Row)) → is_rising rows ≡ true → is_rising (without (λ (other : Key × Row). is_same key other.0) rows) ≡ true
rising_removed key [] rising = refl
rising_removed key (o ∷ rows) rising = let parts = and_parts (leads o.0 rows) (is_rising rows) rising in step (is_same key o.0) parts.0 parts.1 (rising_removed key rows parts.1) where
  step : (b : Bool) → leads o.0 rows ≡ true → is_rising rows ≡ true → is_rising (without (λ (other : Key × Row). is_same key other.0) rows) ≡ true → is_rising (cond b rows (o ∷ without (λ (other : Key × Row). is_same key other.0) rows)) ≡ true
  step true before rest later = rest
  step false before rest later = and_from _ _ (leads_without o.0 (λ (other : Key × Row). is_same key other.0) rows before) later

-- Rows that rise are known by what stands at each key

key_self : (key : Key) → is_same key key ≡ true
key_self key = grind (arith, nat_tests)

first_at : (e : Key × Row) (rows : List (Key × Row)) → row_at e.0 (e ∷ rows) ≡ Some e.1
first_at e rows = rw (key_self e.0) refl

passed_over : (e : Key × Row) (rows : List (Key × Row)) (key : Key) → is_same e.0 key ≡ false → row_at key (e ∷ rows) ≡ row_at key rows
passed_over e rows key apart = rw apart refl

-- what comes before all rows stands nowhere among them
absent_before : (key : Key) (f : Key × Row) (rows : List (Key × Row)) → comes_before key f.0 ≡ true → leads f.0 rows ≡ true → row_at key (f ∷ rows) ≡ None
absent_before key f rows before all = none_behind key (f ∷ rows) (and_from _ _ before (leads_from key f.0 rows before all))

same_rest : (e : Key × Row) (rows others : List (Key × Row)) → leads e.0 rows ≡ true → leads e.0 others ≡ true → ((key : Key) → row_at key (e ∷ rows) ≡ row_at key (e ∷ others)) → (key : Key) → row_at key rows ≡ row_at key others
same_rest e rows others all all' same key = step (is_same e.0 key) refl where
  step : (b : Bool) → is_same e.0 key ≡ b → row_at key rows ≡ row_at key others
  step true at = subst (λ k. row_at k rows ≡ row_at k others) (same_key e.0 key at) (none_behind e.0 rows all ∙ sym (none_behind e.0 others all'))
  step false apart = sym (passed_over e rows key apart) ∙ same key ∙ passed_over e others key apart

pub same_rows : (rows others : List (Key × Row)) → is_rising rows ≡ true → is_rising others ≡ true → ((key : Key) → row_at key rows ≡ row_at key others) → rows ≡ others
same_rows [] [] rising rising' same = refl
same_rows [] (f ∷ others) rising rising' same = absurd (none-some f.1 (same f.0 ∙ first_at f others))
same_rows (e ∷ rows) [] rising rising' same = absurd (none-some e.1 (sym (sym (first_at e rows) ∙ same e.0)))
same_rows (e ∷ rows) (f ∷ others) rising rising' same =
    let parts = and_parts (leads e.0 rows) (is_rising rows) rising in
    let parts' = and_parts (leads f.0 others) (is_rising others) rising' in
    step (is_same e.0 f.0) (comes_before e.0 f.0) refl refl parts.0 parts'.0 (same_rows rows others parts.1 parts'.1) where
      step : (b c : Bool) → is_same e.0 f.0 ≡ b → comes_before e.0 f.0 ≡ c → leads e.0 rows ≡ true → leads f.0 others ≡ true → (((key : Key) → row_at key rows ≡ row_at key others) → rows ≡ others) → e ∷ rows ≡ f ∷ others
      step true c at is all all' rest =
          let key : e.0 ≡ f.0 = same_key e.0 f.0 at in
          let row : e.1 ≡ f.1 = same_Some e.1 f.1 (sym (first_at e rows) ∙ same e.0 ∙ ap (λ k. row_at k (f ∷ others)) key ∙ first_at f others) in
          let one : e ≡ f = λ i. (key i, row i) in
          ap (λ x. x ∷ rows) one ∙ ap (λ l. f ∷ l) (rest (same_rest f rows others (subst (λ k. leads k rows ≡ true) key all) all' (subst (λ x. (k : Key) → row_at k (x ∷ rows) ≡ row_at k (f ∷ others)) one same)))
      step false true apart before all all' rest = absurd (none-some e.1 (sym (sym (first_at e rows) ∙ same e.0 ∙ absent_before e.0 f others before all')))
      step false false apart not all all' rest = absurd (none-some f.1 (sym (sym (first_at f others) ∙ sym (same f.0) ∙ absent_before f.0 e rows (before_or e.0 f.0 apart not) all)))

-- Each row stands at its key

abbrev AreAt : List (Key × Row) → List (Key × Row) → Type 0
AreAt all [] = Unit {0}
AreAt all (e ∷ rows) = (row_at e.0 all ≡ Some e.1) × AreAt all rows

at_behind : (e : Key × Row) (all rows : List (Key × Row)) → leads e.0 rows ≡ true → AreAt all rows → AreAt (e ∷ all) rows
at_behind e all [] before at = tt
at_behind e all (f ∷ rows) before at = let parts = and_parts (comes_before e.0 f.0) (leads e.0 rows) before in (passed_over e all f.0 (before_apart e.0 f.0 parts.0) ∙ at.0, at_behind e all rows parts.1 at.1)

all_at : (rows : List (Key × Row)) → is_rising rows ≡ true → AreAt rows rows
all_at [] rising = tt
all_at (e ∷ rows) rising = let parts = and_parts (leads e.0 rows) (is_rising rows) rising in (first_at e rows, at_behind e rows rows parts.0 (all_at rows parts.1))

found_each : {T : Type 0} (f : Key × Row → Option Row → T) (all rows : List (Key × Row)) → AreAt all rows → map (λ e. f e (row_at e.0 all)) rows ≡ map (λ e. f e (Some e.1)) rows
found_each f all [] at = refl
found_each f all (e ∷ rows) at = ap (λ found. f e found ∷ map (λ (x : Key × Row). f x (row_at x.0 all)) rows) at.0 ∙ ap (λ l. f e (Some e.1) ∷ l) (found_each f all rows at.1)

pub each_found : {T : Type 0} (f : Key × Row → Option Row → T) (rows : List (Key × Row)) → is_rising rows ≡ true → map (λ e. f e (row_at e.0 rows)) rows ≡ map (λ e. f e (Some e.1)) rows
each_found f rows rising = found_each f rows rows (all_at rows rising)
