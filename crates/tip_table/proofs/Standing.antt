-- What stands at a place, told by the test that it is the first to pass.
use Rattle.std.proofs.Common.{◌≡◌, ◌≢◌, ℕ, zero, suc, ◌+◌, List, [], ◌∷◌, ◌++◌, Some, None, Bool, true, false, refl, ap, arith, ◌∙◌, sym}
use Rattle.std.specs.Prelude.{◌==◌, IsSome, slice_get, slice_set, remove}
use Rattle.std.specs.List.{find}
use Rattle.std.specs.Option.{option_and_then}
use Rattle.std.proofs.lemmas.Bool.Decides.{nat_tests}
use Rattle.tip_table.specs.Lists.{IsFirst, changed, without}
use Rattle.tip_table.specs.Entries.{Item}
use Rattle.tip_table.specs.Kept.{Kept, StandsAt, capacity, of, places, item_at, with_item_at, written, taken_out}
use Rattle.tip_table.proofs.EntryLemmas.{items_in-written, length-written_in, standing_in-written}

-- a write takes no room
pub capacity-written : {T : Type 0} (kept : Kept T) (place : ℕ) (value : T) → capacity (with_item_at kept place value) ≡ capacity kept
unfolding with_item_at
capacity-written kept place value = ap (λ n. n + kept.free) (length-written_in kept.entries place value)

-- the first item of a list that passes
pub find-first : {T : Type 0} (test : T → Bool) (items : List T) (at : ℕ) → IsFirst test items at → find test items ≡ slice_get items at
find-first test [] at first = absurd first
find-first test (x ∷ xs) zero first = rw first refl
find-first test (x ∷ xs) (suc at) first = rw first.0 (find-first test xs at first.1)

pub found-first : {T : Type 0} (test : T → Bool) (items : List T) (at : ℕ) → IsFirst test items at → find test items ≡ None → ⊥
found-first test [] at first none = first
found-first test (x ∷ xs) zero first none = cc
found-first test (x ∷ xs) (suc at) first none = found-first test xs at first.1 (rw first.0 at none)

pub changed-first : {T : Type 0} (test : T → Bool) (change : T → T) (items : List T) (at : ℕ) (item : T) → IsFirst test items at → slice_get items at ≡ Some item → slice_set items at (change item) ≡ changed test change items
changed-first test change [] at item first is = absurd first
changed-first test change (x ∷ xs) zero item first is =
    let same : x ≡ item = grind (arith, is) in
    rw first (ap (λ y. change y ∷ xs) (sym same))
changed-first test change (x ∷ xs) (suc at) item first is = rw first.0 (ap (λ ys. x ∷ ys) (changed-first test change xs at item first.1 is))

without-first : {T : Type 0} (test : T → Bool) (items : List T) (at : ℕ) → IsFirst test items at → remove items at ≡ without test items
without-first test [] at first = absurd first
without-first test (x ∷ xs) zero first = rw first refl
without-first test (x ∷ xs) (suc at) first = rw first.0 (ap (λ ys. x ∷ ys) (without-first test xs at first.1))

-- it is there
pub stands : {T : Type 0} (kept : Kept T) (realm : ℕ) (test : T → Bool) (place : ℕ) → StandsAt kept realm test place → IsSome (places kept place)
stands kept realm test place here = rw here.there refl

-- it is the first that passes
pub found : {T : Type 0} (kept : Kept T) (realm : ℕ) (test : T → Bool) (place : ℕ) → StandsAt kept realm test place → find test (of kept realm) ≡ item_at kept place
found kept realm test place here = rw here.there (find-first test (of kept realm) here.at here.first)

-- what a write makes of each realm
pub of-written : {T : Type 0} (kept : Kept T) (place : ℕ) (value : T) (realm : ℕ) → of (with_item_at kept place value) realm ≡ written (places kept place) value realm (of kept realm)
unfolding of places with_item_at
of-written kept place value realm = items_in-written kept.entries place value realm

pub places-written : {T : Type 0} (kept : Kept T) (place : ℕ) (value : T) (other : ℕ) → places (with_item_at kept place value) other ≡ places kept other
unfolding places with_item_at
places-written kept place value other = standing_in-written kept.entries place value other

pub free-written : {T : Type 0} (kept : Kept T) (place : ℕ) (value : T) → (with_item_at kept place value).free ≡ kept.free
unfolding with_item_at
free-written kept place value = refl

pub write : {T : Type 0} (kept : Kept T) (realm : ℕ) (test : T → Bool) (change : T → T) (place : ℕ) (item value : T) → StandsAt kept realm test place → item_at kept place ≡ Some item → value ≡ change item → of (with_item_at kept place value) realm ≡ changed test change (of kept realm)
write kept realm test change place item value here is writes =
    let get : slice_get (of kept realm) here.at ≡ Some item = ap (λ o. option_and_then (λ i. slice_get (of kept i.realm) i.at) o) (sym here.there) ∙ is in
    let own : (realm == realm) ≡ true = grind (arith, nat_tests) in
    rw (of-written kept place value realm, here.there, own, writes) (changed-first test change (of kept realm) here.at item here.first get)

pub write_others : {T : Type 0} (kept : Kept T) (place : ℕ) (value : T) (other : ℕ) (item : Item) → places kept place ≡ Some item → item.realm ≢ other → of (with_item_at kept place value) other ≡ of kept other
write_others kept place value other item there differ =
    let no : (item.realm == other) ≡ false = grind (arith, nat_tests) in
    rw (of-written kept place value other, there, no) refl

-- what taking out makes of each realm
pub take_out : {T : Type 0} (kept : Kept T) (realm : ℕ) (test : T → Bool) (place : ℕ) → StandsAt kept realm test place → taken_out (places kept place) realm (of kept realm) ≡ without test (of kept realm)
take_out kept realm test place here =
    let own : (realm == realm) ≡ true = grind (arith, nat_tests) in
    rw (here.there, own) (without-first test (of kept realm) here.at here.first)

-- where none passes, nothing is changed and nothing taken out
pub change_none : {T : Type 0} (test : T → Bool) (change : T → T) (items : List T) → find test items ≡ None → changed test change items ≡ items
change_none test change [] none = refl
change_none test change (x ∷ xs) none = grind (arith, change_none test change xs)

pub take_out_none : {T : Type 0} (test : T → Bool) (items : List T) → find test items ≡ None → without test items ≡ items
take_out_none test [] none = refl
take_out_none test (x ∷ xs) none = grind (arith, take_out_none test xs)

-- it stands there still, where what is written passes too
first-set : {T : Type 0} (test : T → Bool) (items : List T) (at : ℕ) (value : T) → IsFirst test items at → test value ≡ true → IsFirst test (slice_set items at value) at
first-set test [] at value first passes = absurd first
first-set test (x ∷ xs) zero value first passes = passes
first-set test (x ∷ xs) (suc at) value first passes = (first.0, first-set test xs at value first.1 passes)

pub stands_written : {T : Type 0} (kept : Kept T) (realm : ℕ) (test : T → Bool) (place : ℕ) (value : T) → StandsAt kept realm test place → test value ≡ true → StandsAt (with_item_at kept place value) realm test place
stands_written kept realm test place value here passes =
    let own : (realm == realm) ≡ true = grind (arith, nat_tests) in record {
      at = here.at;
      there = places-written kept place value place ∙ here.there;
      first = rw (of-written kept place value realm, here.there, own) (first-set test (of kept realm) here.at value here.first passes);
    }

-- and where items are added
first-append : {T : Type 0} (test : T → Bool) (items more : List T) (at : ℕ) → IsFirst test items at → IsFirst test (items ++ more) at
first-append test [] more at first = absurd first
first-append test (x ∷ xs) more zero first = first
first-append test (x ∷ xs) more (suc at) first = (first.0, first-append test xs more at first.1)

pub stands_added : {T : Type 0} (old new : Kept T) (realm : ℕ) (test : T → Bool) (place : ℕ) (more : List T) → StandsAt old realm test place → ((there : Item) → places old place ≡ Some there → places new place ≡ Some there) → of new realm ≡ of old realm ++ more → StandsAt new realm test place
stands_added old new realm test place more here stay is = record {
  at = here.at;
  there = stay (record { realm = realm; at = here.at }) here.there;
  first = rw is (first-append test (of old realm) more here.at here.first);
}

-- what a caller needs that knows its items by tests
pub ruleset standing = (stands, found, write, write_others, places-written, free-written, take_out, change_none, take_out_none)
