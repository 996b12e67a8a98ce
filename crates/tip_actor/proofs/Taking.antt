-- Lines that are taken one after another.
use Rattle.std.proofs.Common.{◌≡◌, ◌∙◌, ◌++◌, ◌∷◌, [], ℕ, ◌<◌, suc, zero, nat_lt, Bool, true, false, not, List, Some, None, length, drop, arith, refl, ap, sym, subst}
use Rattle.std.specs.Prelude.{◌&&◌, Option, slice_get, slice_set}
use Rattle.std.specs.List.{position, position_or_len}
use Rattle.std.proofs.lemmas.Bool.Decides.{nat_tests}
use Rattle.std.proofs.lemmas.List.{append-nil, drop_all}
use Rattle.std.proofs.lemmas.Option.{none-some, same_Some, slice_get_within}
use Rattle.tip_core.specs.Hosted.{Hosted, must_wait_in, realm}
use Rattle.tip_line.specs.Reading.{Item, items_of}
use Rattle.tip_machine.specs.Requests.{must_wait_on}
use Rattle.tip_machine.specs.States.{State, seated}
use Rattle.tip_machine.specs.Types.{Event}
use Rattle.tip_machine.specs.declared.event.Event.TheVariants as event
use Rattle.tip_machine.specs.declared.event.Heard.{Heard}
use Rattle.tip_actor.specs.Acting.{Acting, Reading, happens, is_next, is_waiting, lines_of, said_by, takes_at, takes_from, takes_on}
use Rattle.tip_actor.specs.Listening.{IsIdle, Says, gives}
use Rattle.tip_actor.specs.Standing.{Actor, AreReadings, Finds, FindsIn, GivesNext, IsActor, IsReading, Owes, TakesFirst}
use Rattle.tip_actor.proofs.Lists.{partner, reading_at, readings_length, readings_set}
use Rattle.tip_actor.specs.declared.reader.Reader.{Reader}

same_cons : (x y : Item) (xs ys : List Item) → x ∷ xs ≡ y ∷ ys → (x ≡ y) × (xs ≡ ys)
same_cons x y xs ys e = (same_Some x y (ap (λ l. slice_get l 0) e), ap (drop 1) e)

no_lines : (heard : List ℕ) → lines_of heard [] ≡ []
no_lines heard = ap (λ o. drop (length (items_of heard)) (items_of o)) (append-nil heard) ∙ drop_all (length (items_of heard)) (items_of heard) (omega arith)

and_not_true : (b : Bool) → b && not true ≡ false
and_not_true true = refl
and_not_true false = refl

-- where a line must wait none is taken
pub waits : (core : Hosted) (place : ℕ) (state : State) (reader : Reader) (reading : Reading) → realm core place ≡ Some state → IsReading reader reading → true ≡ must_wait_in reader.seat (realm core place) → GivesNext state reader reading None
waits core place state reader reading here is waiting =
    let held : must_wait_on (seated reading.seat state) ≡ true = ap (λ s. must_wait_on (seated s state)) (sym is.0) ∙ sym (waiting ∙ ap (must_wait_in reader.seat) here) in
    (is, ap (λ b. is_waiting reading && not b) held ∙ and_not_true (is_waiting reading))

free : (core : Hosted) (place : ℕ) (state : State) (reader : Reader) (reading : Reading) → realm core place ≡ Some state → IsReading reader reading → false ≡ must_wait_in reader.seat (realm core place) → must_wait_on (seated reading.seat state) ≡ false
free core place state reader reading here is may = ap (λ s. must_wait_on (seated s state)) (sym is.0) ∙ sym (may ∙ ap (must_wait_in reader.seat) here)

pub nothing_left : (reader : Reader) (items : List Item) (heard : List ℕ) → Owes reader items heard → gives reader [] ≡ [] → items ≡ []
nothing_left reader [] heard owes none = refl
nothing_left reader (x ∷ rest) heard owes none = absurd (let e = ap length (sym (owes []) ∙ none) in omega arith)

pub waits_not : (state : State) (reader : Reader) (reading : Reading) → IsReading reader reading → IsIdle reader → is_next state reading ≡ false
waits_not state reader reading is idle = rw (nothing_left reader reading.waiting reading.heard is.1 idle) refl

-- one that gives the same is the same reading
pub same_reading : (reader reader' : Reader) (reading : Reading) → reader'.seat ≡ reader.seat → ((more : List ℕ) → gives reader' more ≡ gives reader more) → IsReading reader reading → IsReading reader' reading
same_reading reader reader' reading seat same is = (seat ∙ is.0, λ more. same more ∙ is.1 more)

-- where none has come none is taken
pub says_none : (core : Hosted) (place : ℕ) (state : State) (reader reader' : Reader) (reading : Reading) → realm core place ≡ Some state → IsReading reader reading → false ≡ must_wait_in reader.seat (realm core place) → reader'.seat ≡ reader.seat → Says reader None reader' → GivesNext state reader' reading None
says_none core place state reader reader' reading here is may seat says =
    ((seat ∙ is.0, λ more. says.1 more ∙ is.1 more), rw (nothing_left reader reading.waiting reading.heard is.1 says.0) refl)

-- the first of those that have come is taken
pub says_one : (core : Hosted) (place : ℕ) (state : State) (reader reader' : Reader) (reading : Reading) (heard : Heard) → realm core place ≡ Some state → IsReading reader reading → false ≡ must_wait_in reader.seat (realm core place) → reader'.seat ≡ reader.seat → Says reader (Some heard) reader' → GivesNext state reader' reading (Some heard)
says_one core place state reader reader' reading heard here is may seat says = by reading.waiting refl is.1 where
  by : (items : List Item) → reading.waiting ≡ items → Owes reader items reading.heard → GivesNext state reader' reading (Some heard)
  by [] waiting owes = absurd (let e = ap length (sym (says.2 []) ∙ owes [] ∙ no_lines reading.heard) in omega arith)
  by (x ∷ rest) waiting owes =
      let same = same_cons x says.0 (rest ++ lines_of reading.heard []) (gives reader' []) (sym (owes []) ∙ says.2 []) in (
        record {
          item = x;
          items = rest;
          waits = waiting;
          heard_is = says.1 ∙ ap said_by (sym same.0);
          stands = (seat ∙ is.0, λ more. sym (same_cons x says.0 (rest ++ lines_of reading.heard more) (gives reader' more) (sym (owes more) ∙ says.2 more)).1);
        },
        rw (waiting, free core place state reader reading here is may) refl,
      )

-- Among all connections

-- where the first item stands that passes
stands_first : {X : Type 0} (p : X → Bool) (xs : List X) (i : ℕ) (x : X) → slice_get xs i ≡ Some x → p x ≡ true → ((k : ℕ) (y : X) → k < i → slice_get xs k ≡ Some y → p y ≡ false) → position_or_len p xs ≡ i
stands_first p [] i x is passes before = absurd (none-some x is)
stands_first p (y ∷ xs) zero x is passes before = rw (ap p (same_Some y x is) ∙ passes) refl
stands_first p (y ∷ xs) (suc i) x is passes before = rw (before 0 y (omega arith) refl) (let more = stands_first p xs i x is passes (λ k z lt. before (suc k) z (omega arith)) in omega arith)

none_passes : {X : Type 0} (p : X → Bool) (xs : List X) → ((k : ℕ) (y : X) → k < length xs → slice_get xs k ≡ Some y → p y ≡ false) → position_or_len p xs ≡ length xs
none_passes p [] fails = refl
none_passes p (y ∷ xs) fails = rw (fails 0 y (omega arith) refl) (let more = none_passes p xs (λ k z lt. fails (suc k) z (omega arith)) in omega arith)

position_is : {X : Type 0} (p : X → Bool) (xs : List X) (i : ℕ) (x : X) → slice_get xs i ≡ Some x → p x ≡ true → ((k : ℕ) (y : X) → k < i → slice_get xs k ≡ Some y → p y ≡ false) → position p xs ≡ Some i
position_is p xs i x is passes before =
    let at = stands_first p xs i x is passes before in
    let within : nat_lt i (length xs) ≡ true = let lt = slice_get_within xs i x is in grind (arith, nat_tests) in
    rw (at, within) refl

pub position_none : {X : Type 0} (p : X → Bool) (xs : List X) → ((k : ℕ) (y : X) → k < length xs → slice_get xs k ≡ Some y → p y ≡ false) → position p xs ≡ None
position_none p xs fails =
    let at = none_passes p xs fails in
    let past : nat_lt (length xs) (length xs) ≡ false = grind (arith, nat_tests) in
    rw (at, past) refl

set_itself : {X : Type 0} (xs : List X) (i : ℕ) (x : X) → slice_get xs i ≡ Some x → slice_set xs i x ≡ xs
set_itself [] i x is = refl
set_itself (y ∷ xs) zero x is = ap (λ z. z ∷ xs) (sym (same_Some y x is))
set_itself (y ∷ xs) (suc i) x is = ap (λ l. y ∷ l) (set_itself xs i x is)

-- a reader more has no line that may be taken
pub passes_on : (state : State) (readers : List Reader) (readings : List Reading) (index : ℕ) (reader reader' : Reader) → AreReadings readers readings → slice_get readers index ≡ Some reader → ((reading : Reading) → IsReading reader reading → GivesNext state reader' reading None) →
    AreReadings (slice_set readers index reader') readings × ((reading : Reading) → slice_get readings index ≡ Some reading → is_next state reading ≡ false)
passes_on state readers readings index reader reader' are here gives_none =
    let mate = partner readers readings index reader (readings_length readers readings are) here in
    let none = gives_none mate.0 (reading_at readers readings index reader mate.0 are here mate.1) in (
      subst (AreReadings (slice_set readers index reader')) (set_itself readings index mate.0 mate.1) (readings_set readers readings index reader' mate.0 are none.0),
      λ reading at. ap (is_next state) (same_Some reading mate.0 (sym at ∙ mate.1)) ∙ none.1,
    )

-- the first connection with a line that may be taken
pub takes_first : (state : State) (readers : List Reader) (readings : List Reading) (index : ℕ) (reader reader' : Reader) (heard : Heard) (event_ : Event) → AreReadings readers readings → slice_get readers index ≡ Some reader → ((k : ℕ) (reading : Reading) → k < index → slice_get readings k ≡ Some reading → is_next state reading ≡ false) →
    ((reading : Reading) → IsReading reader reading → GivesNext state reader' reading (Some heard)) → event_ ≡ event.Line reader'.seat heard → TakesFirst state readings (slice_set readers index reader') event_
takes_first state readers readings index reader reader' heard event_ are here before gives_one event_is =
    let mate = partner readers readings index reader (readings_length readers readings are) here in
    let one = gives_one mate.0 (reading_at readers readings index reader mate.0 are here mate.1) in
    record {
      index = index;
      reading = mate.0;
      item = one.0.item;
      items = one.0.items;
      first = position_is (is_next state) readings index mate.0 mate.1 one.1 before;
      there = mate.1;
      waits = one.0.waits;
      event_is = event_is ∙ ap (λ s. event.Line s heard) one.0.stands.0 ∙ ap (event.Line mate.0.seat) one.0.heard_is;
      stands = readings_set readers readings index reader' (record mate.0 { waiting = one.0.items }) are one.0.stands;
    }

-- The realm, once its readers were asked

pub finds_all : (actor actor' : Actor) (acting : Acting) (found : Option Event) → IsActor actor acting → actor'.name ≡ actor.name → actor'.is_due ≡ actor.is_due → actor'.errands ≡ actor.errands → FindsIn acting.world.state acting.readings actor'.readers.items found → Finds actor' acting found
finds_all actor actor' acting None is name due errands finds =
    (ap (λ at. takes_at at acting) finds.0, record { name = name ∙ is.name; errands = ap (λ q. q.items) errands ∙ is.errands; due = due ∙ is.due; readings = finds.1 })
finds_all actor actor' acting (Some event_) is name due errands finds =
    let left = slice_set acting.readings finds.index (record finds.reading { waiting = finds.items }) in
    record {
      readings = left;
      stands = record { name = name ∙ is.name; errands = ap (λ q. q.items) errands ∙ is.errands; due = due ∙ is.due; readings = finds.stands };
      takes = ap (λ at. takes_at at acting) finds.first ∙ ap (λ r. takes_on finds.index r acting) finds.there ∙ ap (λ l. takes_from finds.index finds.reading l acting) finds.waits ∙ ap (λ e. Some (happens e (record acting { readings = left }))) (sym finds.event_is);
    }
