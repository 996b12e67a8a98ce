-- Readings, one for each reader, and lists with one item changed.
use Rattle.std.proofs.Common.{◌≡◌, ◌≢◌, ◌<◌, ◌≤◌, ◌++◌, ◌∷◌, [], ℕ, suc, zero, List, Option, Some, None, length, get_or, arith, refl, sym, ap, ◌∙◌, subst}
use Rattle.std.specs.Prelude.{slice_get, slice_set}
use Rattle.std.proofs.lemmas.Option.{same_Some, none-some, slice_get_past, slice_get-get_or}
use Rattle.tip_actor.specs.Acting.{Reading, forgotten, forgotten_at, lost_on, with_opened}
use Rattle.tip_actor.specs.Listening.{gives}
use Rattle.tip_actor.specs.Standing.{AreReadings, IsReading}
use Rattle.tip_actor.specs.declared.reader.Reader.{Reader}
use Rattle.tip_machine.specs.declared.event.Seat.{Seat}
use Rattle.tip_line.specs.Reading.{items_of}

-- Lists with one item changed

pub get_set_same : {X : Type 0} (xs : List X) (i : ℕ) (x y : X) → slice_get xs i ≡ Some y → slice_get (slice_set xs i x) i ≡ Some x
get_set_same [] i x y is = absurd (none-some y is)
get_set_same (z ∷ xs) zero x y is = refl
get_set_same (z ∷ xs) (suc i) x y is = get_set_same xs i x y is

pub get_set_other : {X : Type 0} (xs : List X) (i j : ℕ) (x : X) → j ≢ i → slice_get (slice_set xs i x) j ≡ slice_get xs j
get_set_other [] i j x differ = refl
get_set_other (z ∷ xs) zero zero x differ = absurd (differ refl)
get_set_other (z ∷ xs) zero (suc j) x differ = refl
get_set_other (z ∷ xs) (suc i) zero x differ = refl
get_set_other (z ∷ xs) (suc i) (suc j) x differ = get_set_other xs i j x (λ e. differ (ap suc e))

pub length_set : {X : Type 0} (xs : List X) (i : ℕ) (x : X) → length (slice_set xs i x) ≡ length xs
length_set [] i x = refl
length_set (z ∷ xs) zero x = refl
length_set (z ∷ xs) (suc i) x = ap suc (length_set xs i x)

-- Lists of equal length

pub partner : {X Y : Type 0} (xs : List X) (ys : List Y) (i : ℕ) (x : X) → length xs ≡ length ys → slice_get xs i ≡ Some x → (y : Y) × (slice_get ys i ≡ Some y)
partner [] ys i x count is = absurd (none-some x is)
partner (z ∷ xs) [] i x count is = absurd (omega arith)
partner (z ∷ xs) (y ∷ ys) zero x count is = (y, refl)
partner (z ∷ xs) (y ∷ ys) (suc i) x count is = partner xs ys i x (omega arith) is

-- What indexing tells of a list

pub some_at : {X : Type 0} (xs : List X) (i : ℕ) (x : X) → i < length xs → ((d : X) → x ≡ get_or xs i d) → slice_get xs i ≡ Some x
some_at xs i x within is = slice_get-get_or xs i x within ∙ ap Some (sym (is x))

pub none_at : {X : Type 0} (xs : List X) (i : ℕ) → length xs ≤ i → slice_get xs i ≡ None
none_at xs i past = slice_get_past xs i past

-- Readings

pub reading_at : (readers : List Reader) (readings : List Reading) (i : ℕ) (reader : Reader) (reading : Reading) → AreReadings readers readings → slice_get readers i ≡ Some reader → slice_get readings i ≡ Some reading → IsReading reader reading
reading_at [] readings i reader reading are is this = absurd (none-some reader is)
reading_at (r ∷ readers) [] i reader reading are is this = absurd are
reading_at (r ∷ readers) (x ∷ readings) zero reader reading are is this = subst (λ y. IsReading reader y) (same_Some _ _ this) (subst (λ s. IsReading s x) (same_Some _ _ is) are.0)
reading_at (r ∷ readers) (x ∷ readings) (suc i) reader reading are is this = reading_at readers readings i reader reading are.1 is this

pub readings_set : (readers : List Reader) (readings : List Reading) (i : ℕ) (reader : Reader) (reading : Reading) → AreReadings readers readings → IsReading reader reading → AreReadings (slice_set readers i reader) (slice_set readings i reading)
readings_set [] [] i reader reading are is = are
readings_set [] (x ∷ readings) i reader reading are is = absurd are
readings_set (r ∷ readers) [] i reader reading are is = absurd are
readings_set (r ∷ readers) (x ∷ readings) zero reader reading are is = (is, are.1)
readings_set (r ∷ readers) (x ∷ readings) (suc i) reader reading are is = (are.0, readings_set readers readings i reader reading are.1 is)

readings_push : (readers : List Reader) (readings : List Reading) (reader : Reader) (reading : Reading) → AreReadings readers readings → IsReading reader reading → AreReadings (readers ++ reader ∷ []) (readings ++ reading ∷ [])
readings_push [] [] reader reading are is = (is, tt)
readings_push [] (x ∷ readings) reader reading are is = absurd are
readings_push (r ∷ readers) [] reader reading are is = absurd are
readings_push (r ∷ readers) (x ∷ readings) reader reading are is = (are.0, readings_push readers readings reader reading are.1 is)

pub readings_length : (readers : List Reader) (readings : List Reading) → AreReadings readers readings → length readers ≡ length readings
readings_length [] [] are = refl
readings_length [] (x ∷ readings) are = absurd are
readings_length (r ∷ readers) [] are = absurd are
readings_length (r ∷ readers) (x ∷ readings) are = ap suc (readings_length readers readings are.1)

-- a reader that begins is that of a new connection
pub given : (readers readers' : List Reader) (readings : List Reading) (reader : Reader) (seat : Seat) (opened : Option Seat) → AreReadings readers readings → opened ≡ Some seat → reader.seat ≡ seat → ((more : List ℕ) → gives reader more ≡ items_of more) → readers' ≡ readers ++ reader ∷ [] → AreReadings readers' (with_opened opened readings)
given readers readers' readings reader seat opened are is seat_is anew more = rw (is, more) (readings_push readers readings reader (record { seat = seat; heard = []; waiting = [] }) are (seat_is, anew))

forgotten_there : (readers : List Reader) (readings : List Reading) (index : ℕ) (reader reader' : Reader) (found : Option Reading) → slice_get readings index ≡ found → AreReadings readers readings → slice_get readers index ≡ Some reader → reader'.seat ≡ reader.seat → ((more : List ℕ) → gives reader' more ≡ items_of more) → AreReadings (slice_set readers index reader') (forgotten_at index found readings)
forgotten_there readers readings index reader reader' None is are here seat anew =
    let mate = partner readers readings index reader (readings_length readers readings are) here in
    absurd (none-some mate.0 (sym is ∙ mate.1))
forgotten_there readers readings index reader reader' (Some reading) is are here seat anew = readings_set readers readings index reader' (forgotten reading) are (seat ∙ (reading_at readers readings index reader reading are here is).0, anew)

-- a reader that begins afresh is that of a connection that is lost
pub forgets : (readers : List Reader) (readings : List Reading) (connection index : ℕ) (reader reader' : Reader) → connection ≡ suc index → AreReadings readers readings → slice_get readers index ≡ Some reader → reader'.seat ≡ reader.seat → ((more : List ℕ) → gives reader' more ≡ items_of more) → AreReadings (slice_set readers index reader') (lost_on connection readings)
forgets readers readings connection index reader reader' number are here seat anew = rw number (forgotten_there readers readings index reader reader' (slice_get readings index) refl are here seat anew)

-- nothing is lost where no reader is
pub forgets_nothing : (readers : List Reader) (readings : List Reading) (connection index : ℕ) → connection ≡ suc index → AreReadings readers readings → length readers ≤ index → AreReadings readers (lost_on connection readings)
forgets_nothing readers readings connection index number are past = rw (number, none_at readings index (let count = readings_length readers readings are in omega arith)) are
