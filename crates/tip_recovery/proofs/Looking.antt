-- Looking through rows, one after another.
use Rattle.std.proofs.Common.{◌≡◌, ℕ, zero, suc, ◌+◌, ◌<◌, ◌≤◌, Bool, true, false, cond, map, List, [], ◌∷◌, Option, None, Some, length, get_or, drop, refl, ap, arith, sym, subst, ◌∙◌}
use Rattle.std.specs.Prelude.{Err, IfErr, Ok, OnErr, OnOk, Result, find, slice_get, slice_set}
use Rattle.std.specs.Option.{option_map_or}
use Rattle.std.proofs.lemmas.List.{at_drop_all, at_drop_more}
use Rattle.std.proofs.lemmas.Option.{slice_get-get_or}
use Rattle.std.proofs.lemmas.Result.{IfErr-weaker, on_ok_weaker}
use Rattle.tip_branch.specs.declared.branch.Badge.{Badge}
use Rattle.tip_rows.specs.Keys.{Key}
use Rattle.tip_rows.specs.Logs.{is_rising}
use Rattle.tip_rows.specs.declared.row.Row.{Row}
use Rattle.tip_table.specs.Lists.{IsFirst, changed}
use Rattle.tip_table.proofs.Standing.{changed-first, find-first}
use Rattle.tip_recovery.specs.Adopting.{Unfinished, AreOf, IsWhole, adopting, fault_of, is_named, refusal_of, stored_of, unadopted}
use Rattle.tip_recovery.specs.declared.unfinished.AdoptFault.{AdoptFault}
use Rattle.tip_recovery.specs.declared.unfinished.AdoptFault.TheVariants.{NotInDoubt}

-- none before an index passes
pub record Skips {T : Type 0} (test : T → Bool) (i : ℕ) (xs : List T) : Type 0 where
  pub finds : find test (drop i xs) ≡ find test xs
  pub first : (at : ℕ) → IsFirst test (drop i xs) at → IsFirst test xs (at + i)

pub skips-none : {T : Type 0} (test : T → Bool) (xs : List T) → Skips test 0 xs
skips-none test xs = record { finds = refl; first = λ at is. let same : at ≡ at + 0 = omega arith in subst (IsFirst test xs) same is }

pub skips-more : {T : Type 0} (test : T → Bool) (i : ℕ) (xs : List T) (d : T) → i < length xs → test (get_or xs i d) ≡ false → Skips test i xs → Skips test (i + 1) xs
skips-more test i xs d less fails skips =
    let left : drop i xs ≡ get_or xs i d ∷ drop (i + 1) xs = at_drop_more (λ ys. ys) xs i d less in
    let here : find test (get_or xs i d ∷ drop (i + 1) xs) ≡ find test (drop (i + 1) xs) = rw fails refl in record {
      finds = sym here ∙ ap (find test) (sym left) ∙ skips.finds;
      first = λ at is.
          let first : IsFirst test (drop i xs) (suc at) = subst (λ ys. IsFirst test ys (suc at)) (sym left) (fails, is) in
          let same : suc at + i ≡ at + (i + 1) = omega arith in
          subst (IsFirst test xs) same (skips.first (suc at) first);
    }

pub skips-to : {T : Type 0} (test : T → Bool) (i : ℕ) (xs : List T) (d : T) → i < length xs → test (get_or xs i d) ≡ true → Skips test i xs → IsFirst test xs i
skips-to test i xs d less passes skips =
    let first : IsFirst test (drop i xs) 0 = subst (λ ys. IsFirst test ys 0) (sym (at_drop_more (λ ys. ys) xs i d less)) passes in
    let same : 0 + i ≡ i = omega arith in
    subst (IsFirst test xs) same (skips.first 0 first)

pub skips-all : {T : Type 0} (test : T → Bool) (i : ℕ) (xs : List T) → length xs ≤ i → Skips test i xs → find test xs ≡ None
skips-all test i xs past skips = sym skips.finds ∙ at_drop_all (find test) xs i past

-- it stands within
pub first-within : {T : Type 0} (test : T → Bool) (xs : List T) (i : ℕ) → IsFirst test xs i → i < length xs
first-within test [] i first = absurd first
first-within test (x ∷ xs) zero first = omega arith
first-within test (x ∷ xs) (suc i) first = let rest = first-within test xs i first.1 in omega arith

-- boxes for the row of an identifier
module _ (id : List ℕ) (boxes : List Badge) (rows : List Unfinished) (place : ℕ) (row : Unfinished) (first : IsFirst (is_named id) rows place) (is : row ≡ get_or rows place row) where
  there : slice_get rows place ≡ Some row
  there = slice_get-get_or rows place row (first-within (is_named id) rows place first) ∙ ap Some (sym is)

  refused : refusal_of id boxes rows ≡ fault_of boxes row
  refused = ap (λ (found : Option Unfinished). option_map_or (fault_of boxes) found (Some NotInDoubt)) (find-first (is_named id) rows place first ∙ there)

  pub given : {T E : Type 0} (result : Result T E) (after : Unfinished) → OnOk result ((fault_of boxes row ≡ None) × (after ≡ adopting boxes row)) → OnOk result ((refusal_of id boxes rows ≡ None) × (slice_set rows place after ≡ changed (is_named id) (adopting boxes) rows))
  given result after ok = on_ok_weaker result (λ both. (refused ∙ both.0, ap (slice_set rows place) both.1 ∙ changed-first (is_named id) (adopting boxes) rows place row first there)) ok

  pub handed_back : {T : Type 0} (result : Result T (AdoptFault × List Badge)) → IfErr result (λ fault. (fault_of boxes row ≡ Some fault.0) × (fault.1 ≡ boxes)) → IfErr result (λ fault. (refusal_of id boxes rows ≡ Some fault.0) × (fault.1 ≡ boxes))
  handed_back result err = IfErr-weaker result _ _ (λ fault both. (refused ∙ both.0, both.1)) err

pub nobody : (id : List ℕ) (boxes : List Badge) (rows : List Unfinished) → find (is_named id) rows ≡ None → refusal_of id boxes rows ≡ Some NotInDoubt
nobody id boxes rows none = ap (λ (found : Option Unfinished). option_map_or (fault_of boxes) found (Some NotInDoubt)) none

-- Rows of one realm

unadopted_of : (realm : List ℕ) (stored : List (Key × Row)) → AreOf realm (map (unadopted realm) stored)
unadopted_of realm [] = tt
unadopted_of realm (s ∷ stored) = (refl, unadopted_of realm stored)

pub stored-unadopted : (realm : List ℕ) (stored : List (Key × Row)) → stored_of (map (unadopted realm) stored) ≡ stored
stored-unadopted realm [] = refl
stored-unadopted realm (s ∷ stored) = ap (λ l. s ∷ l) (stored-unadopted realm stored)

-- what was loaded is whole
pub unadopted_whole : (realm : List ℕ) (stored : List (Key × Row)) → is_rising stored ≡ true → IsWhole realm (map (unadopted realm) stored)
unadopted_whole realm stored rising = record { own = unadopted_of realm stored; rising = ap is_rising (stored-unadopted realm stored) ∙ rising }

-- and stays so
pub still_whole : (realm : List ℕ) (old new : List Unfinished) → IsWhole realm old → (AreOf realm old → AreOf realm new) → stored_of new ≡ stored_of old → IsWhole realm new
still_whole realm old new whole own stored = record { own = own whole.own; rising = ap is_rising stored ∙ whole.rising }

adopted_of : (realm id : List ℕ) (boxes : List Badge) (rows : List Unfinished) → AreOf realm rows → AreOf realm (changed (is_named id) (adopting boxes) rows)
adopted_of realm id boxes [] own = tt
adopted_of realm id boxes (row ∷ rows) own = by (is_named id row) (adopted_of realm id boxes rows own.1) where
  by : (b : Bool) → AreOf realm (changed (is_named id) (adopting boxes) rows) → AreOf realm (cond b (adopting boxes row ∷ rows) (row ∷ changed (is_named id) (adopting boxes) rows))
  by true rest = own
  by false rest = (own.0, rest)

stored-adopted : (id : List ℕ) (boxes : List Badge) (rows : List Unfinished) → stored_of (changed (is_named id) (adopting boxes) rows) ≡ stored_of rows
stored-adopted id boxes [] = refl
stored-adopted id boxes (row ∷ rows) = by (is_named id row) (stored-adopted id boxes rows) where
  by : (b : Bool) → stored_of (changed (is_named id) (adopting boxes) rows) ≡ stored_of rows → stored_of (cond b (adopting boxes row ∷ rows) (row ∷ changed (is_named id) (adopting boxes) rows)) ≡ (row.key, row.row) ∷ stored_of rows
  by true rest = refl
  by false rest = ap (λ l. (row.key, row.row) ∷ l) rest

pub adopted_whole : {T E : Type 0} (result : Result T E) (realm id : List ℕ) (boxes : List Badge) (old new : List Unfinished) → IsWhole realm old → OnOk result ((refusal_of id boxes old ≡ None) × (new ≡ changed (is_named id) (adopting boxes) old)) → OnErr result (new ≡ old) → IsWhole realm new
adopted_whole (Ok x) realm id boxes old new whole ok err = rw ok.1 (still_whole realm old (changed (is_named id) (adopting boxes) old) whole (adopted_of realm id boxes old) (stored-adopted id boxes old))
adopted_whole (Err e) realm id boxes old new whole ok err = rw err whole
