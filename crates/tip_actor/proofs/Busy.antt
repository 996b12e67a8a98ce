-- Readers that are asked one after another, in the order of their places.
use Rattle.std.proofs.Common.{◌≡◌, ◌∙◌, ◌⊎◌, ◌++◌, ◌∷◌, ◌<◌, ◌≤◌, [], ℕ, Bool, true, false, List, Option, Some, None, length, cond, arith, refl, ap, sym, subst, inl, inr}
use Rattle.std.specs.Prelude.{◌||◌, slice_get, slice_set}
use Rattle.std.specs.BTreeMap.{is_at}
use Rattle.std.specs.BTreeSet.{BTreeSet, Updates}
use Rattle.std.specs.List.{AllByRecursion}
use Rattle.std.specs.List.Sorted.{IsStrictlySortedBy}
use Rattle.std.specs.Ordering.{nat_cmp}
use Rattle.std.specs.declared.cmp.Ordering.TheVariants.{Less}
use Rattle.std.proofs.lemmas.Bool.{cases_Bool, cases_eq}
use Rattle.std.proofs.lemmas.Bool.Decides.{nat_tests}
use Rattle.std.proofs.lemmas.List.{append_assoc}
use Rattle.std.proofs.lemmas.List.Folds.{list_any-append}
use Rattle.std.proofs.lemmas.Map.Keys.{sorted_head, sorted_tail}
use Rattle.std.proofs.lemmas.Option.{same_Some, slice_get_within}
use Rattle.tip_core.specs.Hosted.{Hosted, realm}
use Rattle.tip_machine.specs.States.{State}
use Rattle.tip_machine.specs.declared.event.Event.TheVariants as event
use Rattle.tip_machine.specs.declared.event.Heard.{Heard}
use Rattle.tip_actor.specs.Acting.{Reading, is_next}
use Rattle.tip_actor.specs.Listening.{AreBusyAt, IsIdle, IsIdleAt, gives, is_among}
use Rattle.tip_actor.specs.Standing.{AreReadings, FindsIn, GivesNext, IsReading, TakesFirst}
use Rattle.tip_actor.specs.declared.reader.Asked.{Asked}
use Rattle.tip_actor.specs.declared.reader.Asked.TheVariants as asked
use Rattle.tip_actor.specs.declared.reader.Reader.{Reader}
use Rattle.tip_actor.proofs.Lists.{get_set_other, get_set_same, partner, reading_at, readings_length}
use Rattle.tip_actor.proofs.Taking.{passes_on, position_none, takes_first, waits_not}

-- Places in order

at_same : (k x : ℕ) → is_at (nat_cmp k) x ≡ true → k ≡ x
at_same k x is = grind (arith, nat_tests, is)

at_itself : (k : ℕ) → is_at (nat_cmp k) k ≡ true
at_itself k = grind (arith, nat_tests)

less_so : (x y : ℕ) → nat_cmp x y ≡ Less → x < y
less_so x y is = grind (arith, nat_tests, is)

or_left : (a b : Bool) → a ≡ true → (a || b) ≡ true
or_left true b is = refl
or_left false b is = absurd (cc)

or_right : (a b : Bool) → b ≡ true → (a || b) ≡ true
or_right true b is = refl
or_right false b is = is

or_other : (a b : Bool) → (a || b) ≡ true → a ≡ false → b ≡ true
or_other true b is not = absurd (cc)
or_other false b is not = is

above : (x k : ℕ) (xs : List ℕ) → AllByRecursion (λ y. nat_cmp x y ≡ Less) xs → is_among xs k ≡ true → x < k
above x k [] all is = absurd (cc)
above x k (y ∷ ys) all is = elim (cases_Bool (is_at (nat_cmp k) y)) [
  | inl here ↦ subst (λ n. x < n) (sym (at_same k y here)) (less_so x y all.0)
  | inr other ↦ above x k ys all.1 (or_other (is_at (nat_cmp k) y) (is_among ys k) is other)
]

-- one of these is the first, or behind it
among_from : (x k : ℕ) (xs : List ℕ) → IsStrictlySortedBy nat_cmp (x ∷ xs) → is_among (x ∷ xs) k ≡ true → (k ≡ x) ⊎ ((x < k) × (is_among xs k ≡ true))
among_from x k xs sorted is = elim (cases_Bool (is_at (nat_cmp k) x)) [
  | inl here ↦ inl (at_same k x here)
  | inr other ↦ let rest = or_other (is_at (nat_cmp k) x) (is_among xs k) is other in inr (above x k xs (sorted_head nat_cmp x xs sorted) rest, rest)
]

among_front : (front : List ℕ) (x : ℕ) (rest : List ℕ) → is_among (front ++ x ∷ rest) x ≡ true
among_front front x rest = list_any-append (is_at (nat_cmp x)) front (x ∷ rest) ∙ or_right (is_among front x) (is_among (x ∷ rest) x) (or_left (is_at (nat_cmp x) x) (is_among rest x) (at_itself x))

-- Asking

-- readers are being asked: these of their places are left
pub record IsLooking (core : Hosted) (place : ℕ) (places rest : List ℕ) (old now : List Reader) (idle : Option ℕ) : Type 0 where
  pub busy : AreBusyAt places now
  pub idle_is : IsIdleAt idle now
  pub front : List ℕ
  pub whole : places ≡ front ++ rest
  pub sorted : IsStrictlySortedBy nat_cmp rest
  pub finds : (state : State) (readings : List Reading) → realm core place ≡ Some state → AreReadings old readings →
      AreReadings now readings × ((k : ℕ) (reading : Reading) → slice_get readings k ≡ Some reading → is_next state reading ≡ true → is_among rest k ≡ true)

not_both : (b : Bool) → b ≡ false → b ≡ true → ⊥
not_both b fails holds = let e : false ≡ true = sym fails ∙ holds in absurd (cc)

pub starts : (core : Hosted) (place : ℕ) (places : List ℕ) (readers : List Reader) → AreBusyAt places readers → IsStrictlySortedBy nat_cmp places → IsLooking core place places places readers readers None
starts core place places readers busy sorted = record {
  busy = busy;
  idle_is = tt;
  front = [];
  whole = refl;
  sorted = sorted;
  finds = λ state readings here are. (are, λ k reading at next. by state readings are k reading at next);
} where
  by : (state : State) (readings : List Reading) → AreReadings readers readings → (k : ℕ) (reading : Reading) → slice_get readings k ≡ Some reading → is_next state reading ≡ true → is_among places k ≡ true
  by state readings are k reading at next =
      let mate = partner readings readers k reading (sym (readings_length readers readings are)) at in
      elim (busy k mate.0 mate.1) [
        | inl among ↦ among
        | inr idle ↦ absurd (not_both (is_next state reading) (waits_not state mate.0 reading (reading_at readers readings k mate.0 reading are mate.1 at) idle) next)
      ]

-- no connection was given at a place
pub misses : (core : Hosted) (place : ℕ) (places : List ℕ) (index : ℕ) (rest : List ℕ) (old now : List Reader) (idle : Option ℕ) → IsLooking core place places (index ∷ rest) old now idle → length now ≤ index → IsLooking core place places rest old now idle
misses core place places index rest old now idle is past = record {
  busy = is.busy;
  idle_is = is.idle_is;
  front = is.front ++ index ∷ [];
  whole = is.whole ∙ sym (append_assoc is.front (index ∷ []) rest);
  sorted = sorted_tail nat_cmp index rest is.sorted;
  finds = λ state readings here are.
      let so = is.finds state readings here are in (
        so.0,
        λ k reading at next. elim (among_from index k rest is.sorted (so.1 k reading at next)) [
          | inl same ↦ absurd (let within = slice_get_within readings k reading at in let count = readings_length now readings so.0 in omega (arith, within, count, past, same))
          | inr behind ↦ behind.1
        ],
      );
}

-- where one was asked that has none
idle_now : Option ℕ → ℕ → Asked → Option ℕ
idle_now idle index (asked.Line heard) = idle
idle_now idle index asked.Held = idle
idle_now idle index asked.Nothing = Some index

still_idle : (now : List Reader) (index : ℕ) (reader reader' : Reader) (idle : Option ℕ) → slice_get now index ≡ Some reader → ((more : List ℕ) → gives reader' more ≡ gives reader more) → IsIdleAt idle now → IsIdleAt idle (slice_set now index reader')
still_idle now index reader reader' None here same is = tt
still_idle now index reader reader' (Some q) here same is = λ other at. elim (cases_eq q index) [
  | inl it ↦ subst IsIdle (same_Some reader' other (sym (get_set_same now index reader' reader here) ∙ ap (slice_get (slice_set now index reader')) (sym it) ∙ at)) (same [] ∙ is reader (ap (slice_get now) it ∙ here))
  | inr differ ↦ is other (sym (get_set_other now index q reader' differ) ∙ at)
]

busy_still : (places : List ℕ) (now : List Reader) (index : ℕ) (reader' : Reader) → is_among places index ≡ true → AreBusyAt places now → AreBusyAt places (slice_set now index reader')
busy_still places now index reader' among busy = λ p other at. elim (cases_eq p index) [
  | inl same ↦ inl (ap (is_among places) same ∙ among)
  | inr differ ↦ busy p other (sym (get_set_other now index p reader' differ) ∙ at)
]

true_anyhow : (b c : Bool) → c ≡ true → cond b true c ≡ true
true_anyhow true c is = refl
true_anyhow false c is = is

-- a place more, whatever becomes of its reader
pub fed_at : (set set' : BTreeSet ℕ) (readers : List Reader) (index : ℕ) (reader' : Reader) → Updates nat_cmp set set' index true → AreBusyAt set.keys readers → AreBusyAt set'.keys (slice_set readers index reader')
fed_at set set' readers index reader' updates busy = busy_still set'.keys readers index reader' updates.1 (λ place reader at. elim (busy place reader at) [
  | inl among ↦ inl (updates.0 place ∙ true_anyhow (is_at (nat_cmp index) place) (is_among set.keys place) among)
  | inr idle ↦ inr idle
])

-- its place is one of all
is_place : (core : Hosted) (place : ℕ) (places : List ℕ) (index : ℕ) (rest : List ℕ) (old now : List Reader) (idle : Option ℕ) → IsLooking core place places (index ∷ rest) old now idle → is_among places index ≡ true
is_place core place places index rest old now idle is = ap (λ ps. is_among ps index) is.whole ∙ among_front is.front index rest

-- whatever becomes of the reader at a place
pub busy_then : (core : Hosted) (place : ℕ) (places : List ℕ) (index : ℕ) (rest : List ℕ) (old now : List Reader) (idle : Option ℕ) (reader' : Reader) → IsLooking core place places (index ∷ rest) old now idle → AreBusyAt places (slice_set now index reader')
busy_then core place places index rest old now idle reader' is = busy_still places now index reader' (is_place core place places index rest old now idle is) is.busy

passes : (core : Hosted) (place : ℕ) (places : List ℕ) (index : ℕ) (rest : List ℕ) (old now : List Reader) (idle idle' : Option ℕ) (reader reader' : Reader) → IsLooking core place places (index ∷ rest) old now idle → slice_get now index ≡ Some reader →
    ((state : State) (reading : Reading) → realm core place ≡ Some state → IsReading reader reading → GivesNext state reader' reading None) → IsIdleAt idle' (slice_set now index reader') → IsLooking core place places rest old (slice_set now index reader') idle'
passes core place places index rest old now idle idle' reader reader' is here next idle_is = record {
  busy = busy_then core place places index rest old now idle reader' is;
  idle_is = idle_is;
  front = is.front ++ index ∷ [];
  whole = is.whole ∙ sym (append_assoc is.front (index ∷ []) rest);
  sorted = sorted_tail nat_cmp index rest is.sorted;
  finds = λ state readings there are.
      let so = is.finds state readings there are in
      let on = passes_on state now readings index reader reader' so.0 here (λ reading is_reading. next state reading there is_reading) in (
        on.0,
        λ k reading at is_so. elim (among_from index k rest is.sorted (so.1 k reading at is_so)) [
          | inl same ↦ absurd (not_both (is_next state reading) (on.1 reading (ap (slice_get readings) (sym same) ∙ at)) is_so)
          | inr behind ↦ behind.1
        ],
      );
}

pub held : (core : Hosted) (place : ℕ) (places : List ℕ) (index : ℕ) (rest : List ℕ) (old now : List Reader) (idle : Option ℕ) (reader reader' : Reader) → IsLooking core place places (index ∷ rest) old now idle → slice_get now index ≡ Some reader →
    ((state : State) (reading : Reading) → realm core place ≡ Some state → IsReading reader reading → GivesNext state reader' reading None) → ((more : List ℕ) → gives reader' more ≡ gives reader more) → IsLooking core place places rest old (slice_set now index reader') idle
held core place places index rest old now idle reader reader' is here next same = passes core place places index rest old now idle idle reader reader' is here next (still_idle now index reader reader' idle here same is.idle_is)

pub nothing : (core : Hosted) (place : ℕ) (places : List ℕ) (index : ℕ) (rest : List ℕ) (old now : List Reader) (idle : Option ℕ) (reader reader' : Reader) → IsLooking core place places (index ∷ rest) old now idle → slice_get now index ≡ Some reader →
    ((state : State) (reading : Reading) → realm core place ≡ Some state → IsReading reader reading → GivesNext state reader' reading None) → IsIdle reader' → IsLooking core place places rest old (slice_set now index reader') (Some index)
nothing core place places index rest old now idle reader reader' is here next quiet = passes core place places index rest old now idle (Some index) reader reader' is here next (λ other at. subst IsIdle (same_Some reader' other (sym (get_set_same now index reader' reader here) ∙ at)) quiet)

pub found : (core : Hosted) (place : ℕ) (places : List ℕ) (index : ℕ) (rest : List ℕ) (old now : List Reader) (idle : Option ℕ) (reader reader' : Reader) (heard : Heard) → IsLooking core place places (index ∷ rest) old now idle → slice_get now index ≡ Some reader →
    ((state : State) (reading : Reading) → realm core place ≡ Some state → IsReading reader reading → GivesNext state reader' reading (Some heard)) → (state : State) (readings : List Reading) → realm core place ≡ Some state → AreReadings old readings → TakesFirst state readings (slice_set now index reader') (event.Line reader'.seat heard)
found core place places index rest old now idle reader reader' heard is here next state readings there are =
    let so = is.finds state readings there are in
    takes_first state now readings index reader reader' heard (event.Line reader'.seat heard) so.0 here
    (λ k reading less at. elim (cases_Bool (is_next state reading)) [
      | inl is_so ↦ elim (among_from index k rest is.sorted (so.1 k reading at is_so)) [
        | inl same ↦ absurd (omega (arith, less, same))
        | inr behind ↦ absurd (let from = behind.0 in omega (arith, less, from))
      ]
      | inr not_so ↦ not_so
    ])
    (λ reading is_reading. next state reading there is_reading) refl

-- none was found
pub found_none : (core : Hosted) (place : ℕ) (places : List ℕ) (old now : List Reader) (idle : Option ℕ) → IsLooking core place places [] old now idle → (state : State) (readings : List Reading) → realm core place ≡ Some state → AreReadings old readings → FindsIn state readings now None
found_none core place places old now idle is state readings there are =
    let so = is.finds state readings there are in (
      position_none (is_next state) readings (λ k reading less at. elim (cases_Bool (is_next state reading)) [
        | inl is_so ↦ absurd (let e = so.1 k reading at is_so in let f : false ≡ true = e in cc)
        | inr not_so ↦ not_so
      ]),
      so.0,
    )
