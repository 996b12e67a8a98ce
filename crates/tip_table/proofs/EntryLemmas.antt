-- Lists of entries: what a change does to the items of each realm and to where they stand.
use Rattle.std.proofs.Common.{◌≡◌, ◌≢◌, ◌≤◌, ℕ, suc, List, [], ◌∷◌, ◌++◌, length, Option, Some, None, Bool, true, false, cond, refl, ap, arith, ◌∙◌, sym, inl, inr}
use Rattle.std.specs.Prelude.{◌+◌, option_map, ◌==◌, if◌then◌else◌, IsSome, insert, map, nat_lt, slice_get}
use Rattle.std.specs.Option.{option_and_then}
use Rattle.std.proofs.lemmas.Bool.{cases_Bool}
use Rattle.std.proofs.lemmas.Bool.Decides.{nat_tests}
use Rattle.tip_table.specs.Entries.{AreByRealm, AreFrom, IsVisited, Item, Placed, behind, count_below, items_in, standing_in, written_in}
use Rattle.tip_table.specs.Kept.{written, taken_out}

-- the item at a place
abbrev pub item_in : {T : Type 0} → List (Placed T) → ℕ → Option T
item_in [] place = None
item_in (entry ∷ entries) place = if entry.place == place then Some entry.item else item_in entries place

pub item-standing : {T : Type 0} (entries : List (Placed T)) (place : ℕ) → option_and_then (λ item. slice_get (items_in entries item.realm) item.at) (standing_in entries place) ≡ item_in entries place
item-standing [] place = refl
item-standing (x ∷ xs) place = elim (cases_Bool (x.place == place)) [
  | inl here ↦ let own : (x.realm == x.realm) ≡ true = grind (arith, nat_tests) in simp (here, own) refl
  | inr other ↦ simp other (step (standing_in xs place) (item-standing xs place))
] where
  step : (o : Option Item) → option_and_then (λ item. slice_get (items_in xs item.realm) item.at) o ≡ item_in xs place → option_and_then (λ item. slice_get (items_in (x ∷ xs) item.realm) item.at) (option_map (behind x.realm) o) ≡ item_in xs place
  step None ih = ih
  step (Some item) ih = grind (arith, nat_tests, ih)

-- an entry written
pub items_in-written : {T : Type 0} (entries : List (Placed T)) (place : ℕ) (value : T) (realm : ℕ) → items_in (written_in entries place value) realm ≡ written (standing_in entries place) value realm (items_in entries realm)
items_in-written [] place value realm = refl
items_in-written (x ∷ xs) place value realm = elim (cases_Bool (x.place == place)) [
  | inl here ↦ simp here (grind (arith, nat_tests))
  | inr other ↦ simp other (step (standing_in xs place) (items_in-written xs place value realm))
] where
  step : (o : Option Item) → items_in (written_in xs place value) realm ≡ written o value realm (items_in xs realm) → items_in (x ∷ written_in xs place value) realm ≡ written (option_map (behind x.realm) o) value realm (items_in (x ∷ xs) realm)
  step None ih = grind (arith, nat_tests, ih)
  step (Some item) ih = grind (arith, nat_tests, ih)

pub standing_in-written : {T : Type 0} (entries : List (Placed T)) (place : ℕ) (value : T) (other : ℕ) → standing_in (written_in entries place value) other ≡ standing_in entries other
standing_in-written [] place value other = refl
standing_in-written (x ∷ xs) place value other = elim (cases_Bool (x.place == place)) [
  | inl here ↦ simp here refl
  | inr apart ↦ simp apart (ap (λ o. if x.place == other then Some (record { realm = x.realm; at = 0 }) else option_map (behind x.realm) o) (standing_in-written xs place value other))
]

pub length-written_in : {T : Type 0} (entries : List (Placed T)) (place : ℕ) (value : T) → length (written_in entries place value) ≡ length entries
length-written_in [] place value = refl
length-written_in (x ∷ xs) place value = elim (cases_Bool (x.place == place)) [
  | inl here ↦ simp here refl
  | inr apart ↦ simp apart (ap suc (length-written_in xs place value))
]

-- an entry taken out
abbrev pub taken_in : {T : Type 0} → List (Placed T) → ℕ → List (Placed T)
taken_in [] place = []
taken_in (x ∷ xs) place = if x.place == place then xs else x ∷ taken_in xs place

pub items_in-taken : {T : Type 0} (entries : List (Placed T)) (place realm : ℕ) → items_in (taken_in entries place) realm ≡ taken_out (standing_in entries place) realm (items_in entries realm)
items_in-taken [] place realm = refl
items_in-taken (x ∷ xs) place realm = elim (cases_Bool (x.place == place)) [
  | inl here ↦ simp here (grind (arith, nat_tests))
  | inr apart ↦ simp apart (step (standing_in xs place) (items_in-taken xs place realm))
] where
  step : (o : Option Item) → items_in (taken_in xs place) realm ≡ taken_out o realm (items_in xs realm) → items_in (x ∷ taken_in xs place) realm ≡ taken_out (option_map (behind x.realm) o) realm (items_in (x ∷ xs) realm)
  step None ih = grind (arith, nat_tests, ih)
  step (Some item) ih = grind (arith, nat_tests, ih)

pub length-taken : {T : Type 0} (entries : List (Placed T)) (place : ℕ) → IsSome (standing_in entries place) → length entries ≡ suc (length (taken_in entries place))
length-taken [] place some = absurd (cc)
length-taken (x ∷ xs) place some = elim (cases_Bool (x.place == place)) [
  | inl here ↦ simp here refl
  | inr apart ↦ simp apart (ap suc (length-taken xs place (there (standing_in xs place) (simp apart at some))))
] where
  there : (o : Option Item) → IsSome (option_map (behind x.realm) o) → IsSome o
  there None some = some
  there (Some item) some = refl

-- ONE MORE, behind those of its realm and of all before it
abbrev pub added_in : {T : Type 0} → Placed T → List (Placed T) → List (Placed T)
added_in entry [] = entry ∷ []
added_in entry (x ∷ xs) = if nat_lt entry.realm x.realm then entry ∷ x ∷ xs else x ∷ added_in entry xs

pub none_below : {T : Type 0} (bound : ℕ) (entries : List (Placed T)) (realm : ℕ) → AreFrom realm entries → bound ≤ realm → count_below bound entries ≡ 0
none_below bound [] realm from_it below = refl
none_below bound (x ∷ xs) realm from_it below =
    let no : nat_lt x.realm bound ≡ false = grind (arith, nat_tests, from_it.0) in
    simp no (none_below bound xs realm from_it.1 below)

pub insert-added : {T : Type 0} (entry : Placed T) (entries : List (Placed T)) → AreByRealm entries → insert entries (count_below (entry.realm + 1) entries) entry ≡ added_in entry entries
insert-added entry [] by_realm = refl
insert-added entry (x ∷ xs) by_realm = elim (cases_Bool (nat_lt entry.realm x.realm)) [
  | inl later ↦
      let no : nat_lt x.realm (entry.realm + 1) ≡ false = grind (arith, nat_tests, later) in
      let none : count_below (entry.realm + 1) xs ≡ 0 = none_below (entry.realm + 1) xs x.realm by_realm.0 (grind (arith, nat_tests, later)) in
      simp (later, no, none) refl
  | inr no_later ↦
      let yes : nat_lt x.realm (entry.realm + 1) ≡ true = grind (arith, nat_tests, no_later) in
      simp (no_later, yes) (ap (λ ys. x ∷ ys) (insert-added entry xs by_realm.1))
]

none_own : {T : Type 0} (realm : ℕ) (entries : List (Placed T)) (later : ℕ) → AreFrom later entries → suc realm ≤ later → items_in entries realm ≡ []
none_own realm [] later from_it below = refl
none_own realm (x ∷ xs) later from_it below =
    let no : (x.realm == realm) ≡ false = grind (arith, nat_tests, from_it.0) in
    simp no (none_own realm xs later from_it.1 below)

pub items_in-added : {T : Type 0} (entry : Placed T) (entries : List (Placed T)) → AreByRealm entries → items_in (added_in entry entries) entry.realm ≡ items_in entries entry.realm ++ entry.item ∷ []
items_in-added entry [] by_realm = let own : (entry.realm == entry.realm) ≡ true = grind (arith, nat_tests) in simp own refl
items_in-added entry (x ∷ xs) by_realm = elim (cases_Bool (nat_lt entry.realm x.realm)) [
  | inl later ↦
      let own : (entry.realm == entry.realm) ≡ true = grind (arith, nat_tests) in
      let none : items_in (x ∷ xs) entry.realm ≡ [] = none_own entry.realm (x ∷ xs) x.realm ((let same : x.realm ≤ x.realm = omega arith in same), by_realm.0) (grind (arith, nat_tests, later)) in
      simp later (ap (λ ys. cond (entry.realm == entry.realm) (entry.item ∷ ys) ys) none ∙ simp own refl ∙ ap (λ ys. ys ++ entry.item ∷ []) (sym none))
  | inr no_later ↦ simp no_later (ap (λ ys. cond (x.realm == entry.realm) (x.item ∷ ys) ys) (items_in-added entry xs by_realm.1) ∙ either (x.realm == entry.realm) (items_in xs entry.realm))
] where
  either : (own : Bool) (ys : List _) → cond own (x.item ∷ ys ++ entry.item ∷ []) (ys ++ entry.item ∷ []) ≡ cond own (x.item ∷ ys) ys ++ entry.item ∷ []
  either true ys = refl
  either false ys = refl

pub others-added : {T : Type 0} (entry : Placed T) (entries : List (Placed T)) (other : ℕ) → other ≢ entry.realm → items_in (added_in entry entries) other ≡ items_in entries other
others-added entry [] other differs = let no : (entry.realm == other) ≡ false = grind (arith, nat_tests) in simp no refl
others-added entry (x ∷ xs) other differs = elim (cases_Bool (nat_lt entry.realm x.realm)) [
  | inl later ↦ let no : (entry.realm == other) ≡ false = grind (arith, nat_tests) in simp (later, no) refl
  | inr no_later ↦ simp no_later (ap (λ ys. cond (x.realm == other) (x.item ∷ ys) ys) (others-added entry xs other differs))
]

-- those of later realms stand where they stood
from_later : {T : Type 0} (entries : List (Placed T)) (later : ℕ) (place : ℕ) (item : Item) → AreFrom later entries → standing_in entries place ≡ Some item → later ≤ item.realm
from_later [] later place item from_it there = absurd (cc)
from_later (x ∷ xs) later place item from_it there = elim (cases_Bool (x.place == place)) [
  | inl here ↦ grind (arith, from_it.0, (simp here at there))
  | inr apart ↦ step (standing_in xs place) (λ before is. from_later xs later place before from_it.1 is) (simp apart at there)
] where
  step : (o : Option Item) → ((before : Item) → o ≡ Some before → later ≤ before.realm) → option_map (behind x.realm) o ≡ Some item → later ≤ item.realm
  step None ih some = absurd (cc)
  step (Some before) ih some = grind (arith, nat_tests, ih before refl, some)

pub standing_in-added : {T : Type 0} (entry : Placed T) (entries : List (Placed T)) (place : ℕ) (item : Item) → AreByRealm entries → (entry.place == place) ≡ false → standing_in entries place ≡ Some item → standing_in (added_in entry entries) place ≡ Some item
standing_in-added entry [] place item by_realm apart there = absurd (cc)
standing_in-added entry (x ∷ xs) place item by_realm apart there = elim (cases_Bool (nat_lt entry.realm x.realm)) [
  | inl later ↦
      let behind_it : x.realm ≤ item.realm = from_later (x ∷ xs) x.realm place item ((let same : x.realm ≤ x.realm = omega arith in same), by_realm.0) there in
      let no : (item.realm == entry.realm) ≡ false = grind (arith, nat_tests, later, behind_it) in
      simp (later, apart) (ap (option_map (behind entry.realm)) there ∙ simp no refl)
  | inr no_later ↦ simp no_later (elim (cases_Bool (x.place == place)) [
    | inl here ↦ simp here (simp here at there)
    | inr other ↦ simp other (step (standing_in xs place) (λ before is. standing_in-added entry xs place before by_realm.1 apart is) (simp other at there))
  ])
] where
  step : (o : Option Item) → ((before : Item) → o ≡ Some before → standing_in (added_in entry xs) place ≡ Some before) → option_map (behind x.realm) o ≡ Some item → option_map (behind x.realm) (standing_in (added_in entry xs) place) ≡ Some item
  step None ih some = absurd (cc)
  step (Some before) ih some = ap (option_map (behind x.realm)) (ih before refl) ∙ some

pub length-added : {T : Type 0} (entry : Placed T) (entries : List (Placed T)) → length (added_in entry entries) ≡ suc (length entries)
length-added entry [] = refl
length-added entry (x ∷ xs) = elim (cases_Bool (nat_lt entry.realm x.realm)) [
  | inl later ↦ simp later refl
  | inr no_later ↦ simp no_later (ap suc (length-added entry xs))
]

-- they stand by realm still
from_added : {T : Type 0} (entry : Placed T) (entries : List (Placed T)) (realm : ℕ) → AreFrom realm entries → realm ≤ entry.realm → AreFrom realm (added_in entry entries)
from_added entry [] realm from_it within = (within, tt)
from_added entry (x ∷ xs) realm from_it within = elim (cases_Bool (nat_lt entry.realm x.realm)) [
  | inl later ↦ simp later (within, from_it)
  | inr no_later ↦ simp no_later (from_it.0, from_added entry xs realm from_it.1 within)
]

pub from_more : {T : Type 0} (entries : List (Placed T)) (realm later : ℕ) → AreFrom later entries → realm ≤ later → AreFrom realm entries
from_more [] realm later from_it within = tt
from_more (x ∷ xs) realm later from_it within = ((let less = from_it.0 in omega arith), from_more xs realm later from_it.1 within)

pub by_realm-added : {T : Type 0} (entry : Placed T) (entries : List (Placed T)) → AreByRealm entries → AreByRealm (added_in entry entries)
by_realm-added entry [] by_realm = (tt, tt)
by_realm-added entry (x ∷ xs) by_realm = elim (cases_Bool (nat_lt entry.realm x.realm)) [
  | inl later ↦
      let less : entry.realm ≤ x.realm = grind (arith, nat_tests, later) in
      simp later ((less, from_more xs entry.realm x.realm by_realm.0 less), by_realm)
  | inr no_later ↦ simp no_later (from_added entry xs x.realm by_realm.0 (grind (arith, nat_tests, no_later)), by_realm-added entry xs by_realm.1)
]

from_taken : {T : Type 0} (entries : List (Placed T)) (place realm : ℕ) → AreFrom realm entries → AreFrom realm (taken_in entries place)
from_taken [] place realm from_it = tt
from_taken (x ∷ xs) place realm from_it = elim (cases_Bool (x.place == place)) [
  | inl here ↦ simp here from_it.1
  | inr apart ↦ simp apart (from_it.0, from_taken xs place realm from_it.1)
]

pub by_realm-taken : {T : Type 0} (entries : List (Placed T)) (place : ℕ) → AreByRealm entries → AreByRealm (taken_in entries place)
by_realm-taken [] place by_realm = tt
by_realm-taken (x ∷ xs) place by_realm = elim (cases_Bool (x.place == place)) [
  | inl here ↦ simp here by_realm.1
  | inr apart ↦ simp apart (from_taken xs place x.realm by_realm.0, by_realm-taken xs place by_realm.1)
]

from_written : {T : Type 0} (entries : List (Placed T)) (place : ℕ) (value : T) (realm : ℕ) → AreFrom realm entries → AreFrom realm (written_in entries place value)
from_written [] place value realm from_it = tt
from_written (x ∷ xs) place value realm from_it = elim (cases_Bool (x.place == place)) [
  | inl here ↦ simp here from_it
  | inr apart ↦ simp apart (from_it.0, from_written xs place value realm from_it.1)
]

pub by_realm-written : {T : Type 0} (entries : List (Placed T)) (place : ℕ) (value : T) → AreByRealm entries → AreByRealm (written_in entries place value)
by_realm-written [] place value by_realm = tt
by_realm-written (x ∷ xs) place value by_realm = elim (cases_Bool (x.place == place)) [
  | inl here ↦ simp here by_realm
  | inr apart ↦ simp apart (from_written xs place value x.realm by_realm.0, by_realm-written xs place value by_realm.1)
]

-- A VISIT of one realm's
module _ {T : Type 0} (left : T → T) (realm : ℕ) where
  -- the entry after it
  abbrev pub visited_entry : Placed T → Placed T
  visited_entry entry = if entry.realm == realm then record entry { item = left entry.item } else entry

  items_of : (entries : List (Placed T)) → items_in (map visited_entry entries) realm ≡ map left (items_in entries realm)
  items_of [] = refl
  items_of (x ∷ xs) = elim (cases_Bool (x.realm == realm)) [
    | inl own ↦ simp own (ap (λ ys. left x.item ∷ ys) (items_of xs))
    | inr apart ↦ simp apart (items_of xs)
  ]

  others_of : (entries : List (Placed T)) (other : ℕ) → other ≢ realm → items_in (map visited_entry entries) other ≡ items_in entries other
  others_of [] other differs = refl
  others_of (x ∷ xs) other differs = elim (cases_Bool (x.realm == realm)) [
    | inl own ↦
        let not_there : (x.realm == other) ≡ false = grind (arith, nat_tests, own) in
        simp (own, not_there) (others_of xs other differs)
    | inr apart ↦ simp apart (ap (λ ys. cond (x.realm == other) (x.item ∷ ys) ys) (others_of xs other differs))
  ]

  standing_of : (entries : List (Placed T)) (place : ℕ) → standing_in (map visited_entry entries) place ≡ standing_in entries place
  standing_of [] place = refl
  standing_of (x ∷ xs) place = elim (cases_Bool (x.realm == realm)) [
    | inl own ↦ rw own (ap (λ o. cond (x.place == place) (Some (record { realm = x.realm; at = 0 })) (option_map (behind x.realm) o)) (standing_of xs place))
    | inr apart ↦ rw apart (ap (λ o. cond (x.place == place) (Some (record { realm = x.realm; at = 0 })) (option_map (behind x.realm) o)) (standing_of xs place))
  ]

  count_of : (entries : List (Placed T)) → length (map visited_entry entries) ≡ length entries
  count_of [] = refl
  count_of (x ∷ xs) = ap suc (count_of xs)

  from_visited : (entries : List (Placed T)) (first : ℕ) → AreFrom first entries → AreFrom first (map visited_entry entries)
  from_visited [] first from_it = tt
  from_visited (x ∷ xs) first from_it = elim (cases_Bool (x.realm == realm)) [
    | inl own ↦ simp own (from_it.0, from_visited xs first from_it.1)
    | inr apart ↦ simp apart (from_it.0, from_visited xs first from_it.1)
  ]

  pub by_realm-visited : (entries : List (Placed T)) → AreByRealm entries → AreByRealm (map visited_entry entries)
  by_realm-visited [] by_realm = tt
  by_realm-visited (x ∷ xs) by_realm = elim (cases_Bool (x.realm == realm)) [
    | inl own ↦ simp own (from_visited xs x.realm by_realm.0, by_realm-visited xs by_realm.1)
    | inr apart ↦ simp apart (from_visited xs x.realm by_realm.0, by_realm-visited xs by_realm.1)
  ]

  pub visited_all : (old new : List (Placed T)) → new ≡ map visited_entry old → IsVisited left realm old new
  visited_all old new same = rw same (record { items = items_of old; others = others_of old; standing = standing_of old; count = count_of old })
