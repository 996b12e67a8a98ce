-- A realm's journals with one changed or one more, and the realms with one realm's journals changed.
use Rattle.std.proofs.Common.{◌≡◌, ◌≢◌, ℕ, zero, suc, ◌+◌, ◌-◌, ◌^◌, ◌<◌, List, [], ◌∷◌, ◌++◌, length, get_or, Option, Some, None, Result, Ok, Err, refl, sym, ap, ◌∙◌, subst, arith, inl, inr, length-append}
use Rattle.std.specs.Prelude.{slice_set, slice_get, map, take, drop, All, OnOk, OnErr, IsSomeAnd}
use Rattle.std.specs.declared.alloc.AllocError.{AllocError}
use Rattle.std.specs.List.Sorted.{IsStrictlyIncreasing}
use Rattle.std.specs.Option.{option_map}
use Rattle.std.proofs.lemmas.Bool.{cases_lt}
use Rattle.std.proofs.lemmas.Grind.{common_steps}
use Rattle.std.proofs.lemmas.List.{map-append, length-map, length-take, get_or_append_left, get_or-append_right, get_or-take}
use Rattle.std.proofs.lemmas.List.Elements.{All-cons, All-head, All-tail, All-push, All-take}
use Rattle.std.proofs.lemmas.Option.{slice_get_read, slice_get_within, slice_get-map, get_or_from_slice_get}
use Rattle.tip_journal.specs.Journal.{Written, with_room}
use Rattle.tip_journal.specs.Journals.{changed_at, last_of, with_last, current, room, room_of, entries_of, without_last, IsHistory}

-- what is written at an index, where it is the old element changed
pub changed_at-read : {A : Type 0} (xs : List A) (index : ℕ) (change : A → A) (x y : A) → x ≡ get_or xs index x → y ≡ change x → slice_set xs index y ≡ changed_at index change xs
changed_at-read [] index change x y read is = refl
changed_at-read (z ∷ xs) zero change x y read is = ap (λ w. w ∷ xs) (is ∙ ap change read)
changed_at-read (z ∷ xs) (suc index) change x y read is = ap (λ ws. z ∷ ws) (changed_at-read xs index change x y read is)

pub slice_get-changed_at : {A : Type 0} (xs : List A) (index : ℕ) (change : A → A) → slice_get (changed_at index change xs) index ≡ option_map change (slice_get xs index)
slice_get-changed_at [] index change = refl
slice_get-changed_at (x ∷ xs) zero change = refl
slice_get-changed_at (x ∷ xs) (suc index) change = slice_get-changed_at xs index change

pub slice_get-changed_other : {A : Type 0} (xs : List A) (index other : ℕ) (change : A → A) → other ≢ index → slice_get (changed_at index change xs) other ≡ slice_get xs other
slice_get-changed_other [] index other change differ = refl
slice_get-changed_other (x ∷ xs) zero zero change differ = absurd (differ refl)
slice_get-changed_other (x ∷ xs) zero (suc other) change differ = refl
slice_get-changed_other (x ∷ xs) (suc index) zero change differ = refl
slice_get-changed_other (x ∷ xs) (suc index) (suc other) change differ = slice_get-changed_other xs index other change (λ same. differ (ap suc same))

pub length-changed_at : {A : Type 0} (xs : List A) (index : ℕ) (change : A → A) → length (changed_at index change xs) ≡ length xs
length-changed_at [] index change = refl
length-changed_at (x ∷ xs) zero change = refl
length-changed_at (x ∷ xs) (suc index) change = ap suc (length-changed_at xs index change)

-- a change that keeps a part of each element keeps the list of those parts
map-changed_at : {A B : Type 0} (f : A → B) (xs : List A) (index : ℕ) (change : A → A) → ((x : A) → f (change x) ≡ f x) → map f (changed_at index change xs) ≡ map f xs
map-changed_at f [] index change keeps = refl
map-changed_at f (x ∷ xs) zero change keeps = ap (λ y. y ∷ map f xs) (keeps x)
map-changed_at f (x ∷ xs) (suc index) change keeps = ap (λ ys. f x ∷ ys) (map-changed_at f xs index change keeps)

pub All-changed_at : {A : Type 0} (P : A → Type 0) (xs : List A) (index : ℕ) (change : A → A) → All P xs → ((x : A) → slice_get xs index ≡ Some x → P (change x)) → All P (changed_at index change xs)
All-changed_at P [] index change all here = all
All-changed_at P (x ∷ xs) zero change all here = All-cons P (change x) xs (here x refl) (All-tail P x xs all)
All-changed_at P (x ∷ xs) (suc index) change all here = All-cons P x (changed_at index change xs) (All-head P x xs all) (All-changed_at P xs index change (All-tail P x xs all) here)

slice_get-set : {A : Type 0} (xs : List A) (index : ℕ) (y : A) → index < length xs → slice_get (slice_set xs index y) index ≡ Some y
slice_get-set [] index y within = absurd (omega arith)
slice_get-set (x ∷ xs) zero y within = refl
slice_get-set (x ∷ xs) (suc index) y within = slice_get-set xs index y (omega arith)

-- the last journal, read at its place
pub last_of-read : {S E : Type 0} (history : List (Written S E)) (place : ℕ) (x : Written S E) → place + 1 ≡ length history → x ≡ get_or history place x → last_of history ≡ Some x
last_of-read history place x end read =
    let last : length history - 1 ≡ place = omega arith in
    ap (slice_get history) last ∙ slice_get_read history (length history) place x refl (omega arith) read

-- and written there
pub last_of-set : {S E : Type 0} (history : List (Written S E)) (place : ℕ) (y : Written S E) → place + 1 ≡ length history → last_of (slice_set history place y) ≡ Some y
last_of-set history place y end =
    let last : length (slice_set history place y) - 1 ≡ place = grind (arith, common_steps) in
    ap (slice_get (slice_set history place y)) last ∙ slice_get-set history place y (omega arith)

pub with_last-read : {S E : Type 0} (history : List (Written S E)) (place : ℕ) (change : Written S E → Written S E) (x y : Written S E) → place + 1 ≡ length history → x ≡ get_or history place x → y ≡ change x → slice_set history place y ≡ with_last change history
with_last-read history place change x y end read is =
    let last : length history - 1 ≡ place = omega arith in
    changed_at-read history place change x y read is ∙ ap (λ n. changed_at n change history) (sym last)

-- the last journal, changed
pub last_of-with_last : {S E : Type 0} (history : List (Written S E)) (change : Written S E → Written S E) → last_of (with_last change history) ≡ option_map change (last_of history)
last_of-with_last history change =
    ap (λ n. slice_get (with_last change history) (n - 1)) (length-changed_at history (length history - 1) change) ∙ slice_get-changed_at history (length history - 1) change

pub entries_of-with_room : {S E : Type 0} (journal : Option (Written S E)) (free : ℕ) → entries_of (option_map (with_room free) journal) ≡ entries_of journal
entries_of-with_room None free = refl
entries_of-with_room (Some journal) free = refl

-- a realm that has room has a journal
pub length-room : {S E : Type 0} (history : List (Written S E)) → 0 < room_of (last_of history) → 0 < length history
length-room [] room = room
length-room (x ∷ xs) room = omega arith

pub within-room : {S E : Type 0} (journals : List (List (Written S E))) (realm : ℕ) → 0 < room journals realm → realm < length journals
within-room [] realm free = absurd (omega arith)
within-room (x ∷ xs) zero free = omega arith
within-room (x ∷ xs) (suc realm) free = let within = within-room xs realm free in omega arith

pub within-current : {S E : Type 0} (P : Written S E → Type 0) (journals : List (List (Written S E))) (realm : ℕ) → IsSomeAnd (current journals realm) P → realm < length journals
within-current P [] realm there = absurd there
within-current P (x ∷ xs) zero there = omega arith
within-current P (x ∷ xs) (suc realm) there = let within = within-current P xs realm there in omega arith

-- a realm's journals, read
pub current-read : {S E : Type 0} (journals : List (List (Written S E))) (realm : ℕ) (x : List (Written S E)) → realm < length journals → x ≡ get_or journals realm x → current journals realm ≡ last_of x
current-read journals realm x within read = rw (slice_get_read journals (length journals) realm x refl within read) refl

-- and written
pub current-set : {S E : Type 0} (journals : List (List (Written S E))) (realm : ℕ) (y : List (Written S E)) → realm < length journals → current (slice_set journals realm y) realm ≡ last_of y
current-set journals realm y within = rw (slice_get-set journals realm y within) refl

increasing-push : (xs : List ℕ) (y : ℕ) → IsStrictlyIncreasing xs → (0 < length xs → get_or xs (length xs - 1) 0 < y) → IsStrictlyIncreasing (xs ++ y ∷ [])
increasing-push xs y rises above k within =
    elim (cases_lt (k + 1) (length xs)) [
      | inl inside ↦
          rw (get_or_append_left xs (y ∷ []) 0 k (omega arith), get_or_append_left xs (y ∷ []) 0 (k + 1) inside) (rises k inside)
      | inr past ↦
          let long : length (xs ++ y ∷ []) ≡ length xs + 1 = length-append xs (y ∷ []) in
          let end : k + 1 ≡ length xs = omega (arith, long) in
          let before : length xs - 1 ≡ k = omega arith in
          let last : get_or (xs ++ y ∷ []) (k + 1) 0 ≡ y = get_or-append_right xs (y ∷ []) (length xs) (k + 1) 0 refl past ∙ ap (λ n. get_or (y ∷ []) n 0) (let none : (k + 1) - length xs ≡ 0 = omega arith in none) in
          rw (get_or_append_left xs (y ∷ []) 0 k (omega arith), last) (subst (λ n. get_or xs n 0 < y) before (above (omega arith)))
    ]

-- a change of the last journal that keeps its epoch keeps the history
pub is_history-with_last : {S E : Type 0} (history : List (Written S E)) (change : Written S E → Written S E) → IsHistory history → ((x : Written S E) → (change x).epoch ≡ x.epoch) → ((x : Written S E) → last_of history ≡ Some x → length (change x).entries < 2 ^ 32) → IsHistory (with_last change history)
is_history-with_last history change is keeps few = record {
  some = rw (length-changed_at history (length history - 1) change) is.some;
  rises = rw (map-changed_at (λ (x : Written _ _). x.epoch) history (length history - 1) change keeps) is.rises;
  numbered = All-changed_at (λ x. length x.entries < 2 ^ 32) history (length history - 1) change is.numbered few;
}

-- so does one journal more, of a later epoch
pub is_history-push : {S E : Type 0} (history : List (Written S E)) (last next : Written S E) → IsHistory history → last_of history ≡ Some last → last.epoch < next.epoch → next.entries ≡ [] → IsHistory (history ++ next ∷ [])
is_history-push history last next is at later empty =
    let epoch : Written _ _ → ℕ = λ x. x.epoch in
    let here : get_or (map epoch history) (length history - 1) 0 ≡ last.epoch = get_or_from_slice_get (map epoch history) (length history - 1) last.epoch 0 (slice_get-map epoch history (length history - 1) ∙ ap (option_map epoch) at) in
    record {
      some = omega (arith, length-append history (next ∷ []));
      rises = rw (map-append epoch history (next ∷ [])) (increasing-push (map epoch history) next.epoch is.rises (λ _. rw (length-map history epoch, here) later));
      numbered = All-push (λ x. length x.entries < 2 ^ 32) history next is.numbered (rw empty (omega arith));
    }

pub numbered-last : {S E : Type 0} (history : List (Written S E)) (last : Written S E) → IsHistory history → last_of history ≡ Some last → length last.entries < 2 ^ 32
numbered-last history last is at =
    subst (λ (x : Written _ _). length x.entries < 2 ^ 32) (get_or_from_slice_get history (length history - 1) last last at) (is.numbered (length history - 1) last (slice_get_within history (length history - 1) last at))

-- what a renewal leaves, with memory or without
pub is_history-renewed : {S E : Type 0} (old new : List (Written S E)) (next : Written S E) (result : Result (Unit {0}) AllocError) → IsHistory old → IsSomeAnd (last_of old) (λ last. last.epoch < next.epoch) → next.entries ≡ [] → OnOk result (new ≡ old ++ next ∷ []) → OnErr result (new ≡ old) → IsHistory new
is_history-renewed old new next (Err e) is later empty ok err = subst IsHistory (sym err) is
is_history-renewed old new next (Ok u) is later empty ok err = subst IsHistory (sym ok) (go (last_of old) refl later)
  where
    go : (last : Option (Written _ _)) → last_of old ≡ last → IsSomeAnd last (λ last. last.epoch < next.epoch) → IsHistory (old ++ next ∷ [])
    go None at later = absurd later
    go (Some last) at later = is_history-push old last next is at later empty

-- Taken back

map_take : {A B : Type 0} (f : A → B) (k : ℕ) (xs : List A) → map f (take k xs) ≡ take k (map f xs)
map_take f zero xs = refl
map_take f (suc k) [] = refl
map_take f (suc k) (x ∷ xs) = ap (λ ys. f x ∷ ys) (map_take f k xs)

increasing-take : (k : ℕ) (xs : List ℕ) → IsStrictlyIncreasing xs → IsStrictlyIncreasing (take k xs)
increasing-take k xs rises i within =
    rw (get_or-take k xs i 0 (omega (arith, length-take k xs, within)), get_or-take k xs (i + 1) 0 (omega (arith, length-take k xs, within))) (rises i (omega (arith, length-take k xs, within)))

-- without the last journal it is a history still, where an earlier one is there
pub is_history-withdrawn : {S E : Type 0} (history : List (Written S E)) → IsHistory history → 1 < length history → IsHistory (without_last history)
is_history-withdrawn history is earlier = record {
  some = omega (arith, length-take (length history - 1) history, earlier);
  rises = rw (map_take (λ (x : Written _ _). x.epoch) (length history - 1) history) (increasing-take (length history - 1) (map (λ (x : Written _ _). x.epoch) history) is.rises);
  numbered = All-take (λ x. length x.entries < 2 ^ 32) (length history - 1) history is.numbered;
}

-- without the oldest one it is a history still, where a later one is there
pub is_history-rest : {S E : Type 0} (history : List (Written S E)) → IsHistory history → 1 < length history → IsHistory (drop 1 history)
is_history-rest [] is later = absurd (omega arith)
is_history-rest (oldest ∷ rest) is later = record {
  some = omega (arith, later);
  rises = λ k within.
      let epochs = map (λ (x : Written _ _). x.epoch) rest in
      let next : suc k + 1 ≡ suc (k + 1) = omega arith in
      subst (λ n. get_or epochs k 0 < get_or (oldest.epoch ∷ epochs) n 0) next (is.rises (suc k) (omega (arith, within)));
  numbered = All-tail (λ x. length x.entries < 2 ^ 32) oldest rest is.numbered;
}

pub within_some : {A : Type 0} (P : A → Type 0) (xs : List A) (i : ℕ) → IsSomeAnd (slice_get xs i) P → i < length xs
within_some P [] i some = absurd some
within_some P (x ∷ xs) zero some = omega arith
within_some P (x ∷ xs) (suc i) some = omega (arith, within_some P xs i some)

pub some_at : {A : Type 0} (P : A → Type 0) (xs : List A) (i : ℕ) (x : A) → x ≡ get_or xs i x → IsSomeAnd (slice_get xs i) P → P x
some_at P xs i x read some = subst (λ o. IsSomeAnd o P) (slice_get_read xs (length xs) i x refl (within_some P xs i some) read) some
