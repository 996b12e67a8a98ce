-- How many lines wait, and that each one that is taken makes them fewer.
use Rattle.std.proofs.Common.{◌≡◌, ◌≤◌, ◌<◌, ◌+◌, ◌++◌, ◌∷◌, [], ℕ, suc, zero, List, Option, Some, None, length, arith, refl, ap}
use Rattle.std.specs.Prelude.{slice_get, slice_set}
use Rattle.std.specs.List.{position}
use Rattle.std.proofs.lemmas.Option.{none-some, same_Some}
use Rattle.tip_line.specs.Reading.{Item}
use Rattle.tip_machine.specs.Types.{Event}
use Rattle.tip_machine.specs.declared.answer.Item as items
use Rattle.tip_machine.specs.declared.answer.Item.TheVariants.{Say, Ask, Close}
use Rattle.tip_machine.specs.declared.answer.Sent.{Sent}
use Rattle.tip_machine.specs.declared.event.Event.TheVariants as event
use Rattle.tip_machine.specs.declared.event.Seat.{Seat}
use Rattle.tip_actor.specs.Acting.{Acting, Done, Reading, after_item, after_sent, answer_in, count_of, forgotten, forgotten_at, happens, is_next, lost_on, said_by, takes_at, takes_from, takes_next, takes_on, with_opened}

count_append : (readings others : List Reading) → count_of (readings ++ others) ≡ count_of readings + count_of others
count_append [] others = omega arith
count_append (reading ∷ readings) others = let more = count_append readings others in omega (arith, more)

-- one reading changed
pub count_set : (readings : List Reading) (i : ℕ) (reading other : Reading) → slice_get readings i ≡ Some reading → count_of (slice_set readings i other) + length reading.waiting ≡ count_of readings + length other.waiting
count_set [] i reading other is = absurd (none-some reading is)
count_set (r ∷ readings) zero reading other is = let same = ap (λ (x : Reading). length x.waiting) (same_Some r reading is) in omega (arith, same)
count_set (r ∷ readings) (suc i) reading other is = let more = count_set readings i reading other is in omega (arith, more)

count_forgotten : (readings : List Reading) (i : ℕ) (found : Option Reading) → slice_get readings i ≡ found → count_of (forgotten_at i found readings) ≤ count_of readings
count_forgotten readings i None is = omega arith
count_forgotten readings i (Some reading) is = let set = count_set readings i reading (forgotten reading) is in omega (arith, set)

count_lost : (number : ℕ) (readings : List Reading) → count_of (lost_on number readings) ≤ count_of readings
count_lost zero readings = omega arith
count_lost (suc index) readings = count_forgotten readings index (slice_get readings index) refl

count_item : (number : ℕ) (item : items.Item) (readings : List Reading) → count_of (after_item number item readings) ≤ count_of readings
count_item number Close readings = count_lost number readings
count_item number (Say said) readings = omega arith
count_item number (Ask asked) readings = omega arith

count_sent : (all : List Sent) (readings : List Reading) → count_of (after_sent all readings) ≤ count_of readings
count_sent [] readings = omega arith
count_sent (sent ∷ more) readings =
    let here = count_item sent.connection sent.item readings in
    let then_ = count_sent more (after_item sent.connection sent.item readings) in
    omega (arith, here, then_)

count_opened : (opened : Option Seat) (readings : List Reading) → count_of (with_opened opened readings) ≡ count_of readings
count_opened None readings = refl
count_opened (Some seat) readings = let all = count_append readings (record { seat = seat; heard = []; waiting = [] } ∷ []) in omega (arith, all)

-- no event makes more lines wait
pub count_event : (e : Event) (acting : Acting) → count_of (happens e acting).acting.readings ≤ count_of acting.readings
count_event e acting =
    let opened = count_opened (answer_in acting e).opened (after_sent (answer_in acting e).sent acting.readings) in
    let sent = count_sent (answer_in acting e).sent acting.readings in
    omega (arith, opened, sent)

-- A line that is taken waits no more.

by_items : (index : ℕ) (reading : Reading) (items : List Item) (acting : Acting) (done : Done) → reading.waiting ≡ items → slice_get acting.readings index ≡ Some reading → takes_from index reading items acting ≡ Some done → count_of done.acting.readings < count_of acting.readings
by_items index reading [] acting done waiting is takes = absurd (none-some done takes)
by_items index reading (item ∷ items) acting done waiting is takes =
    let taken = record acting { readings = slice_set acting.readings index (record reading { waiting = items }) } in
    let set = count_set acting.readings index reading (record reading { waiting = items }) is in
    let one = ap length waiting in
    let event_ = count_event (event.Line reading.seat (said_by item)) taken in
    let same = ap (λ (d : Done). count_of d.acting.readings) (same_Some _ _ takes) in
    omega (arith, set, one, event_, same)

by_reading : (index : ℕ) (found : Option Reading) (acting : Acting) (done : Done) → slice_get acting.readings index ≡ found → takes_on index found acting ≡ Some done → count_of done.acting.readings < count_of acting.readings
by_reading index None acting done is takes = absurd (none-some done takes)
by_reading index (Some reading) acting done is takes = by_items index reading reading.waiting acting done refl is takes

by_place : (at : Option ℕ) (acting : Acting) (done : Done) → takes_at at acting ≡ Some done → count_of done.acting.readings < count_of acting.readings
by_place None acting done takes = absurd (none-some done takes)
by_place (Some index) acting done takes = by_reading index (slice_get acting.readings index) acting done refl takes

pub lowers : (acting : Acting) (done : Done) → takes_next acting ≡ Some done → count_of done.acting.readings < count_of acting.readings
lowers acting done takes = by_place (position (is_next acting.world.state) acting.readings) acting done takes
