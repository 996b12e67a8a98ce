-- What happens to one connection of a realm.
use Rattle.tip_rows.specs.Logs.{Keeping}
use Rattle.std.proofs.Common.{◌≡◌, ◌≤◌, ◌∙◌, ◌++◌, ℕ, suc, zero, Bool, true, false, List, Option, Some, None, length, option_map, arith, refl, sym, ap, subst}
use Rattle.std.specs.Prelude.{slice_get, slice_set}
use Rattle.std.proofs.lemmas.List.{append_assoc, append-nil}
use Rattle.std.proofs.lemmas.Option.{none-some, same_Some}
use Rattle.tip_machine.specs.Types.{Event}
use Rattle.tip_machine.specs.declared.event.Seat.{Seat}
use Rattle.tip_actor.specs.Acting.{Acting, Done, Reading, feeds, forgets_on, happens, heard_more, on_connection, on_reading, lines_of, reading_on}
use Rattle.tip_actor.specs.Halting.{Halts, IsStoredAs, around}
use Rattle.tip_actor.specs.Listening.{gives}
use Rattle.tip_actor.specs.Standing.{Actor, AreReadings, StoredCore, IsActing, IsFed, IsReading, Tells}
use Rattle.tip_actor.specs.declared.reader.Reader.{Reader}
use Rattle.tip_actor.proofs.Doing.{stays}
use Rattle.tip_actor.proofs.Halting.{halts_as}
use Rattle.tip_actor.proofs.Hearing.{lines_behind}
use Rattle.tip_actor.proofs.Lists.{none_at, partner, reading_at, readings_length, readings_set}

-- Which connection it is

pub no_reading_past : (readers : List Reader) (readings : List Reading) (connection index : ℕ) → AreReadings readers readings → connection ≡ suc index → length readers ≤ index → reading_on connection readings ≡ None
no_reading_past readers readings connection index are number past = ap (λ n. reading_on n readings) number ∙ none_at readings index (let count = readings_length readers readings are in omega (arith, count))

pub no_reading_0 : (readings : List Reading) (connection : ℕ) → connection ≡ 0 → reading_on connection readings ≡ None
no_reading_0 readings connection number = ap (λ n. reading_on n readings) number

-- the reading of a reader
pub record Given (readers : List Reader) (readings : List Reading) (connection index : ℕ) (reader : Reader) : Type 0 where
  pub reading : Reading
  pub there : slice_get readings index ≡ Some reading
  pub found : reading_on connection readings ≡ Some reading
  pub is : IsReading reader reading

pub is_given : (readers : List Reader) (readings : List Reading) (connection index : ℕ) (reader : Reader) → AreReadings readers readings → connection ≡ suc index → slice_get readers index ≡ Some reader → Given readers readings connection index reader
is_given readers readings connection index reader are number here =
    let mate = partner readers readings index reader (readings_length readers readings are) here in
    record {
      reading = mate.0;
      there = mate.1;
      found = ap (λ n. reading_on n readings) number ∙ mate.1;
      is = reading_at readers readings index reader mate.0 are here mate.1;
    }

pub done_on : (f : ℕ → Reading → Acting → Done) (acting : Acting) (connection index : ℕ) (reading : Reading) → connection ≡ suc index → slice_get acting.readings index ≡ Some reading → on_connection f connection acting ≡ Some (f index reading acting)
done_on f acting connection index reading number there = ap (λ n. on_connection f n acting) number ∙ ap (λ r. on_reading f index r acting) there

pub not_done_on : (f : ℕ → Reading → Acting → Done) (acting : Acting) (connection : ℕ) → reading_on connection acting.readings ≡ None → on_connection f connection acting ≡ None
not_done_on f acting zero none = refl
not_done_on f acting (suc index) none = ap (λ r. on_reading f index r acting) none

pub not_told : {S : Type 0} (kept : Keeping S) (stored_core : StoredCore S) (place : ℕ) (actor : Actor) (printed : List ℕ) (acting : Acting) (f : ℕ → Reading → Acting → Done) (connection : ℕ) → reading_on connection acting.readings ≡ None → Tells kept stored_core stored_core place actor actor printed printed false (on_connection f connection acting)
not_told kept stored_core place actor printed acting f connection none = subst (Tells kept stored_core stored_core place actor actor printed printed false) (sym (not_done_on f acting connection none)) refl

-- Octets come

fed : (reader reader' : Reader) (reading : Reading) (octets : List ℕ) → IsReading reader reading → reader'.seat ≡ reader.seat → ((more : List ℕ) → gives reader' more ≡ gives reader (octets ++ more)) → IsReading reader' (record reading { heard = reading.heard ++ octets; waiting = reading.waiting ++ lines_of reading.heard octets })
fed reader reader' reading octets is seat behind = (
  seat ∙ is.0,
  λ more. behind more ∙ is.1 (octets ++ more) ∙ ap (λ l. reading.waiting ++ l) (lines_behind reading.heard octets more) ∙ sym (append_assoc reading.waiting (lines_of reading.heard octets) (lines_of (reading.heard ++ octets) more)),
)

pub has_fed : (readers readers' : List Reader) (readings : List Reading) (connection index : ℕ) (reader reader' : Reader) (octets : List ℕ) → AreReadings readers readings → connection ≡ suc index → slice_get readers index ≡ Some reader → reader'.seat ≡ reader.seat → ((more : List ℕ) → gives reader' more ≡ gives reader (octets ++ more)) →
    readers' ≡ slice_set readers index reader' → IsFed true connection octets readings readers'
has_fed readers readers' readings connection index reader reader' octets are number here seat behind set =
    let given = is_given readers readings connection index reader are number here in (
      index,
      given.reading,
      number,
      given.there,
      subst (λ r. AreReadings r (slice_set readings index (heard_more octets given.reading))) (sym set) (readings_set readers readings index reader' _ are (fed reader reader' given.reading octets given.is seat behind)),
    )

-- a realm to whose connection octets have come
pub feeds_so : {S : Type 0} (kept : Keeping S) (stored_core : StoredCore S) (place : ℕ) (actor actor' : Actor) (printed : List ℕ) (acting : Acting) (connection : ℕ) (octets : List ℕ) (told : Bool) → IsActing kept stored_core place actor acting → actor'.name ≡ actor.name → actor'.errands ≡ actor.errands → actor'.is_due ≡ actor.is_due →
    IsFed told connection octets acting.readings actor'.readers.items → Tells kept stored_core stored_core place actor actor' printed printed told (on_connection (feeds octets) connection acting)
feeds_so kept stored_core place actor actor' printed acting connection octets true is name errands due fed =
    subst (Tells kept stored_core stored_core place actor actor' printed printed true) (sym (done_on (feeds octets) acting connection fed.0 fed.1 fed.2 fed.3)) (record {
      own = record {
        served = is.served;
        stored = is.stored;
        named = is.named;
        own = record {
          name = name ∙ is.own.name;
          errands = ap (λ e. e.items) errands ∙ is.own.errands;
          due = due ∙ is.own.due;
          readings = fed.4;
        };
      };
      leaves = stays kept stored_core place actor.name;
      name = name;
      text = sym (append-nil printed);
    })
feeds_so kept stored_core place actor actor' printed acting connection octets false is name errands due fed = subst (Tells kept stored_core stored_core place actor actor' printed printed false) (sym (not_done_on (feeds octets) acting connection fed.0)) refl

-- What is done on a connection, however far it has come

-- this is the seat of a connection that the realm has given
pub record Seated (seat : Seat) (connection : ℕ) (acting : Acting) : Type 0 where
  pub index : ℕ
  pub reading : Reading
  pub number : connection ≡ suc index
  pub there : slice_get acting.readings index ≡ Some reading
  pub same : reading.seat ≡ seat

pub is_seated : (seat : Seat) (connection : ℕ) (acting : Acting) → Some seat ≡ option_map (λ (reading : Reading). reading.seat) (reading_on connection acting.readings) → Seated seat connection acting
is_seated seat zero acting is = absurd (none-some seat (sym is))
is_seated seat (suc index) acting is = by (slice_get acting.readings index) refl is where
  by : (found : Option Reading) → slice_get acting.readings index ≡ found → Some seat ≡ option_map (λ (reading : Reading). reading.seat) found → Seated seat (suc index) acting
  by None none is = absurd (none-some seat (sym is))
  by (Some reading) here is = record { index = index; reading = reading; number = refl; there = here; same = sym (same_Some seat reading.seat is) }

module _ {S : Type 0} (kept : Keeping S) where
  -- two are stored alike
  pub record Alike (store : S) (one other : Acting) : Type 0 where
    pub name : one.name ≡ other.name
    pub stored : IsStoredAs kept store one → IsStoredAs kept store other

  pub forgets_alike : (store : S) (forgets : Bool) (number : ℕ) (acting : Acting) → Alike store acting (forgets_on forgets number acting)
  forgets_alike store true number acting = record { name = refl; stored = λ s. s }
  forgets_alike store false number acting = record { name = refl; stored = λ s. s }

  pub halts_on : (old new : S) (name : List ℕ) (f : ℕ → Reading → Acting → Done) (event : Seat → Event) (seat : Seat) (connection : ℕ) (acting : Acting) → Seated seat connection acting → ((index : ℕ) (reading : Reading) → Alike new (happens (event reading.seat) acting).acting (f index reading acting).acting) → Halts kept old new name (around (Some (happens (event seat) acting)) acting) → Halts kept old new name (around (on_connection f connection acting) acting)
  halts_on old new name f event seat connection acting at alike halts =
      let same = alike at.index at.reading in
      subst (λ o. Halts kept old new name (around o acting)) (sym (done_on f acting connection at.index at.reading at.number at.there))
      (halts_as kept old new name name acting acting (happens (event at.reading.seat) acting) (f at.index at.reading acting) refl refl (λ s. s) same.name same.stored
      (subst (λ s. Halts kept old new name (around (Some (happens (event s) acting)) acting)) (sym at.same) halts))
