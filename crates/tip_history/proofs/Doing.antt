-- What a realm of a script does is a run of its machine.
use Rattle.std.proofs.Common.{◌≡◌, arith, inl, inr, ◌+◌, ◌++◌, ◌∷◌, ◌==◌, ℕ, zero, suc, Bool, true, false, cond, List, [], Option, Some, None, map, length, append-nil, refl, ap, sym, subst, ◌∙◌}
use Rattle.std.specs.Prelude.{◌&&◌, ◌⊎◌, filter_map, is_none, nat_le, nat_lt, slice_get, slice_set}
use Rattle.std.specs.List.{flat_map, list_all, position}
use Rattle.std.specs.Option.{option_map_or}
use Rattle.std.proofs.lemmas.Bool.{and_from, and_parts}
use Rattle.std.proofs.lemmas.Bool.Decides.{nat_tests}
use Rattle.std.proofs.lemmas.List.Concat.{flat_map-cons}
use Rattle.std.proofs.lemmas.Grind.{flat_map-append}
use Rattle.std.proofs.lemmas.List.Elements.{filter_map-append}
use Rattle.std.proofs.lemmas.List.Folds.{flat_map-map, list_all-append}
use Rattle.std.proofs.lemmas.Option.{none-some, same_Some}
use Rattle.tip_branch.specs.Notes.{PartyNotes}
use Rattle.tip_line.specs.Reading.{Item}
use Rattle.tip_line.specs.Words.{is_address, is_word}
use Rattle.tip_line.specs.declared.refusal.Refusal.TheVariants.{EpochEnd, Frozen}
use Rattle.tip_machine.specs.Heads.{is_within}
use Rattle.tip_machine.specs.Honest.{brings_no_party, can_start, is_honest, is_run}
use Rattle.tip_machine.specs.Invariants.{IsSound}
use Rattle.tip_machine.specs.Moves.{Move, World, gone_for, led_to, lost_from, moved, picked, stepped}
use Rattle.tip_machine.specs.Outputs.{Output, drops_of}
use Rattle.tip_machine.specs.Returns.{can_answer, event_of}
use Rattle.tip_machine.specs.States.{State, Work}
use Rattle.tip_machine.specs.Steps.{entered, fits, frozen, is_open, returned, step, wants}
use Rattle.tip_machine.specs.declared.answer.Item as Said
use Rattle.tip_machine.specs.declared.answer.Item.TheVariants.{Close}
use Rattle.tip_machine.specs.declared.answer.Sent.{Sent}
use Rattle.tip_machine.specs.declared.event.Outcome.{Outcome}
use Rattle.tip_machine.proofs.Stepping.{Went, step-epoch, step-went}
use Rattle.tip_machine.proofs.Walks.{either}
use Rattle.tip_machine.specs.Types.{Event}
use Rattle.tip_machine.specs.declared.event.Change.{Change}
use Rattle.tip_machine.specs.declared.event.Event.TheVariants as event
use Rattle.tip_machine.specs.declared.event.Outcome.TheVariants.{Stored, Refused}
use Rattle.tip_agreement.proofs.Bounded.{in_bounds}
use Rattle.tip_agreement.proofs.Rows.{to_says}
use Rattle.tip_machine.proofs.Storing.{each_found}
use Rattle.tip_machine.specs.Starting.{are_adopted}
use Rattle.tip_rows.specs.Keys.{Key}
use Rattle.tip_rows.specs.Logs.{is_rising, last_epoch, row_at}
use Rattle.tip_rows.specs.Rows.{branches_of}
use Rattle.tip_rows.specs.declared.row.Row.{Row}
use Rattle.tip_transcript.specs.Printing.{refusal_text, shown_text, start_text}
use Rattle.tip_script.specs.Scripts as Script
use Rattle.tip_scene.specs.Scenes.{does, is_purpose}
use Rattle.tip_actor.specs.Acting.{Acting, Done, Reading, after_item, after_sent, answer_in, behind, boxes_in, boxes_of, count_of, drops_from, feeds, forgets_on, forgotten, forgotten_at, goes_for, goes_on, happens, heard_more, is_at_end, is_next, loses, lost_on, on_connection, on_reading, opening_text, outcome_in, outcome_of, pulls, pushes, reading_on, refuses, renewal, renewed, renews, restarts, said_by, settles, takes, takes_at, takes_from, takes_next, takes_on, willing, willing_boxes, with_opened}
use Rattle.tip_actor.specs.Promises.{answers_of, are_foretold}
use Rattle.tip_machine.specs.declared.event.Seat.{Seat}
use Rattle.tip_history.specs.Making.{IsAsked, IsEvent, IsLoss, IsMade, IsRenewal, IsReturn, is_line, seat_in}
use Rattle.tip_history.specs.Sayings.{Saying, Shows, Idles, Starts, Adopts, Ends, output_of, saying_text}
use Rattle.tip_history.proofs.Answering.{can_be_answered}
use Rattle.tip_agreement.proofs.Runs.{led_on, run_on, run_one, shows, shows_on, shows_one}

-- what is shown among what is said
abbrev pub outputs_of : List Saying → List Output
outputs_of said = filter_map output_of said

-- Connections are given one number after another

abbrev pub seats_of : List Reading → List Seat
seats_of readings = map (λ reading. reading.seat) readings

abbrev pub seats_from : ℕ → ℕ → ℕ → List Seat
seats_from epoch last zero = []
seats_from epoch last (suc count) = record { epoch = epoch; number = suc last } ∷ seats_from epoch (suc last) count

abbrev pub given_in : World → List Seat
given_in world = seats_from world.state.head.epoch 0 world.state.head.given

pub record IsNumbered (acting : Acting) : Type 0 where
  pub seats : seats_of acting.readings ≡ given_in acting.world

one_up : (epoch last count : ℕ) → seats_from epoch last (suc count) ≡ seats_from epoch last count ++ record { epoch = epoch; number = suc (last + count) } ∷ []
one_up epoch last zero = ap (λ n. record { epoch = epoch; number = suc n } ∷ []) (omega arith)
one_up epoch last (suc count) = ap (λ l. record { epoch = epoch; number = suc last } ∷ l) (one_up epoch (suc last) count) ∙ ap (λ n. record { epoch = epoch; number = suc last } ∷ (seats_from epoch (suc last) count ++ record { epoch = epoch; number = suc n } ∷ [])) (omega arith)

-- the seat at a place
seat_up : (epoch last count place : ℕ) (seat : Seat) → slice_get (seats_from epoch last count) place ≡ Some seat → seat ≡ record { epoch = epoch; number = suc (last + place) }
seat_up epoch last zero place seat is = absurd (none-some seat is)
seat_up epoch last (suc count) zero seat is = sym (same_Some (record { epoch = epoch; number = suc last }) seat is) ∙ ap (λ n. record { epoch = epoch; number = suc n }) (omega arith)
seat_up epoch last (suc count) (suc place) seat is = seat_up epoch (suc last) count place seat is ∙ ap (λ n. record { epoch = epoch; number = suc n }) (omega arith)

seat_there : (readings : List Reading) (index : ℕ) (reading : Reading) → slice_get readings index ≡ Some reading → slice_get (seats_of readings) index ≡ Some reading.seat
seat_there [] index reading is = absurd (none-some reading is)
seat_there (r ∷ readings) zero reading is = ap (λ (x : Reading). Some x.seat) (same_Some r reading is)
seat_there (r ∷ readings) (suc index) reading is = seat_there readings index reading is

seat_at : (acting : Acting) → IsNumbered acting → (index : ℕ) (reading : Reading) → slice_get acting.readings index ≡ Some reading → reading.seat ≡ seat_in acting.world (suc index)
seat_at acting is index reading here = seat_up acting.world.state.head.epoch 0 acting.world.state.head.given index reading.seat (ap (λ l. slice_get l index) (sym is.seats) ∙ seat_there acting.readings index reading here) ∙ ap (λ n. record { epoch = acting.world.state.head.epoch; number = suc n }) (omega arith)

set_same : (readings : List Reading) (index : ℕ) (old new : Reading) → slice_get readings index ≡ Some old → new.seat ≡ old.seat → seats_of (slice_set readings index new) ≡ seats_of readings
set_same [] index old new here same = refl
set_same (r ∷ readings) zero old new here same = ap (λ (s : Seat). s ∷ seats_of readings) (same ∙ ap (λ (x : Reading). x.seat) (sym (same_Some r old here)))
set_same (r ∷ readings) (suc index) old new here same = ap (λ l. r.seat ∷ l) (set_same readings index old new here same)

lost_same : (number : ℕ) (readings : List Reading) → seats_of (lost_on number readings) ≡ seats_of readings
lost_same zero readings = refl
lost_same (suc index) readings = at (slice_get readings index) refl where
  at : (found : Option Reading) → slice_get readings index ≡ found → seats_of (forgotten_at index found readings) ≡ seats_of readings
  at None is = refl
  at (Some reading) is = set_same readings index reading (forgotten reading) is refl

item_same : (number : ℕ) (item : Said.Item) (readings : List Reading) → seats_of (after_item number item readings) ≡ seats_of readings
item_same number Close readings = lost_same number readings
item_same number other readings = refl

sent_same : (sent : List Sent) (readings : List Reading) → seats_of (after_sent sent readings) ≡ seats_of readings
sent_same [] readings = refl
sent_same (one ∷ sent) readings = sent_same sent (after_item one.connection one.item readings) ∙ item_same one.connection one.item readings

one_more : (readings : List Reading) (reading : Reading) → seats_of (readings ++ reading ∷ []) ≡ seats_of readings ++ reading.seat ∷ []
one_more [] reading = refl
one_more (r ∷ readings) reading = ap (λ l. r.seat ∷ l) (one_more readings reading)

-- an event gives the next seat, or none
next_of : State → Seat
next_of state = record { epoch = state.head.epoch; number = state.head.given + 1 }

Counts : State → Work → Type 0
Counts state work = ((work.answer.opened ≡ None) × (work.state.head.given ≡ state.head.given)) ⊎ ((work.answer.opened ≡ Some (next_of state)) × (work.state.head.given ≡ state.head.given + 1))

went_counts : (state : State) (v : Work) → Went (entered state) v → Counts state v
unfolding Counts next_of
went_counts state v (inl goes) = inl (goes.opened, ap (λ h. h.given) goes.head)
went_counts state v (inr opens) = inr (opens.opened, ap (λ h. h.given) opens.head)

frozen_counts : (event : Event) (state : State) → Counts state (frozen event state)
unfolding Counts
frozen_counts happened state = inl (none happened, refl) where
  none : (e : Event) → (returned Frozen e).opened ≡ None
  none (event.Open boxes) = refl
  none (event.Dial address purpose boxes) = refl
  none (event.Voted party) = refl
  none (event.Settled party) = refl
  none other = refl

counts_step : (state : State) (event : Event) (outcome : Outcome) → Counts state (step state event outcome)
counts_step state event outcome = either (Counts state) (is_open state) _ (frozen event state) (went_counts state _ (step-went state event outcome)) (frozen_counts event state)

happens_numbered : (event : Event) (acting : Acting) → IsNumbered acting → IsNumbered (happens event acting).acting
unfolding Counts next_of stepped
happens_numbered event acting is = record { seats = at (counts_step state event outcome) } where
  state : State
  state = acting.world.state

  epoch : ℕ
  epoch = state.head.epoch

  outcome : Outcome
  outcome = outcome_in acting event

  after : Work
  after = step state event outcome

  heard : List Reading
  heard = after_sent after.answer.sent acting.readings

  at : Counts state after → seats_of (with_opened after.answer.opened heard) ≡ seats_from after.state.head.epoch 0 after.state.head.given
  at (inl same) =
      ap (λ o. seats_of (with_opened o heard)) same.0
      ∙ sent_same after.answer.sent acting.readings
      ∙ is.seats
      ∙ ap (λ e. seats_from e 0 state.head.given) (sym (step-epoch state event outcome))
      ∙ ap (seats_from after.state.head.epoch 0) (sym same.1)
  at (inr next) =
      ap (λ o. seats_of (with_opened o heard)) next.0
      ∙ one_more heard (record { seat = record { epoch = epoch; number = state.head.given + 1 }; heard = []; waiting = [] })
      ∙ ap (λ l. l ++ record { epoch = epoch; number = state.head.given + 1 } ∷ []) (sent_same after.answer.sent acting.readings ∙ is.seats)
      ∙ ap (λ n. seats_from epoch 0 state.head.given ++ record { epoch = epoch; number = n } ∷ []) (let more : state.head.given + 1 ≡ suc (0 + state.head.given) = omega arith in more)
      ∙ sym (one_up epoch 0 state.head.given)
      ∙ ap (seats_from epoch 0) (let more : suc state.head.given ≡ state.head.given + 1 = omega arith in more ∙ sym next.1)
      ∙ ap (λ e. seats_from e 0 after.state.head.given) (sym (step-epoch state event outcome))

-- such moves were made, what was printed says what they show, and the realm is where they lead
pub record Did (Made : List Move → Type 0) (acting : Acting) (done : Done) : Type 0 where
  pub moves : List Move
  pub made : Made moves
  pub said : List Saying
  pub run : is_run acting.world moves ≡ true
  pub led : done.acting.world ≡ led_to acting.world moves
  pub shown : outputs_of said ≡ shows acting.world moves
  pub text : done.printed ≡ flat_map (saying_text acting.name) said
  pub named : done.acting.name ≡ acting.name
  pub numbered : IsNumbered acting → IsNumbered done.acting

-- the same, where nothing but what has come differs
numbered_as : (acting then_ : Acting) → then_.world ≡ acting.world → seats_of then_.readings ≡ seats_of acting.readings → IsNumbered acting → IsNumbered then_
numbered_as acting then_ world seats is = record { seats = seats ∙ is.seats ∙ ap given_in (sym world) }

-- What is shown

pub shown_back : (outputs : List Output) → outputs_of (map Shows outputs) ≡ outputs
shown_back [] = refl
shown_back (output ∷ outputs) = ap (λ l. output ∷ l) (shown_back outputs)

pub shown_said : (name : List ℕ) (outputs : List Output) → shown_text name outputs ≡ flat_map (saying_text name) (map Shows outputs)
shown_said name outputs = sym (flat_map-map (saying_text name) Shows outputs)

-- Nothing, and one thing after another

pub did_nothing : {Made : List Move → Type 0} (acting : Acting) (then_ : Acting) → then_.world ≡ acting.world → then_.name ≡ acting.name → seats_of then_.readings ≡ seats_of acting.readings → Made [] → Did Made acting (record { printed = []; acting = then_ })
did_nothing acting then_ world name seats none = record { moves = []; made = none; said = []; run = refl; led = world; shown = refl; text = refl; named = name; numbered = numbered_as acting then_ world seats }

pub did_both : {First Second Made : List Move → Type 0} → ((moves more : List Move) → First moves → Second more → Made (moves ++ more)) → (acting : Acting) (first : Done) (second : Done) → Did First acting first → Did Second first.acting second → Did Made acting (behind first.printed second)
did_both joins acting first second one two =
    let on : (P : World → Type 0) → P first.acting.world → P (led_to acting.world one.moves) = λ P p. subst P one.led p in
    record {
      moves = one.moves ++ two.moves;
      made = joins one.moves two.moves one.made two.made;
      said = one.said ++ two.said;
      run = run_on acting.world one.moves two.moves one.run (on (λ w. is_run w two.moves ≡ true) two.run);
      led = on (λ w. second.acting.world ≡ led_to w two.moves) two.led ∙ sym (led_on acting.world one.moves two.moves);
      shown = filter_map-append output_of one.said two.said
          ∙ ap (λ l. l ++ outputs_of two.said) one.shown
          ∙ ap (λ l. shows acting.world one.moves ++ l) (on (λ w. outputs_of two.said ≡ shows w two.moves) two.shown)
          ∙ sym (shows_on acting.world one.moves two.moves);
      text = ap (λ l. l ++ second.printed) one.text
          ∙ ap (λ l. flat_map (saying_text acting.name) one.said ++ l) (subst (λ n. second.printed ≡ flat_map (saying_text n) two.said) one.named two.text)
          ∙ sym (flat_map-append (saying_text acting.name) one.said two.said);
      named = two.named ∙ one.named;
      numbered = λ is. two.numbered (one.numbered is);
    }

-- the same, where the realm that begins differs in what has come to it alone
pub did_from : {Made : List Move → Type 0} (acting from : Acting) (done : Done) → from.world ≡ acting.world → from.name ≡ acting.name → seats_of from.readings ≡ seats_of acting.readings → Did Made from done → Did Made acting done
did_from acting from done world name seats did = record {
  moves = did.moves;
  made = did.made;
  said = did.said;
  run = subst (λ w. is_run w did.moves ≡ true) world did.run;
  led = subst (λ w. done.acting.world ≡ led_to w did.moves) world did.led;
  shown = subst (λ w. outputs_of did.said ≡ shows w did.moves) world did.shown;
  text = subst (λ n. done.printed ≡ flat_map (saying_text n) did.said) name did.text;
  named = did.named ∙ name;
  numbered = λ is. did.numbered (numbered_as acting from world seats is);
}

-- One move that shows what is printed

pub did_move : {Made : List Move → Type 0} (move : Move) (acting : Acting) (then_ : Acting) → is_honest move acting.world ≡ true → then_.world ≡ (moved move acting.world).world → then_.name ≡ acting.name → Made (move ∷ []) → (IsNumbered acting → IsNumbered then_) → Did Made acting (record { printed = shown_text acting.name (moved move acting.world).shown; acting = then_ })
did_move move acting then_ honest world name one numbered = record {
  moves = move ∷ [];
  made = one;
  said = map Shows (moved move acting.world).shown;
  run = run_one acting.world move honest;
  led = world;
  shown = shown_back (moved move acting.world).shown ∙ sym (shows_one acting.world move);
  text = shown_said acting.name (moved move acting.world).shown;
  named = name;
  numbered = numbered;
}

-- Events

fits_due : (due : Bool) (change : Option Change) → fits change (outcome_of due change) ≡ true
fits_due due None = refl
fits_due true (Some change) = refl
fits_due false (Some change) = refl

pub did_happen : {Made : List Move → Type 0} (event : Event) (acting : Acting) → brings_no_party event ≡ true → Made (Move.Step event (outcome_in acting event) ∷ []) → Did Made acting (happens event acting)
did_happen event acting own one = did_move (Move.Step event (outcome_in acting event)) acting (happens event acting).acting (and_from (brings_no_party event) _ own (fits_due acting.due (wants acting.world.state event))) refl refl one (happens_numbered event acting)

-- this event
pub did_one : (event : Event) (acting : Acting) → brings_no_party event ≡ true → Did (IsEvent event) acting (happens event acting)
did_one event acting own = did_happen event acting own (outcome_in acting event, refl)

-- Lines that may be taken

abbrev pub AreLines : List Move → Type 0
AreLines moves = list_all is_line moves ≡ true

all_lines : (moves more : List Move) → AreLines moves → AreLines more → AreLines (moves ++ more)
all_lines moves more one two = list_all-append is_line moves more ∙ and_from (list_all is_line moves) (list_all is_line more) one two

did_take_from : (index : ℕ) (reading : Reading) (items : List Item) (acting : Acting) (done : Done) → slice_get acting.readings index ≡ Some reading → takes_from index reading items acting ≡ Some done → Did AreLines acting done
did_take_from index reading [] acting done here is = absurd (none-some done is)
did_take_from index reading (item ∷ items) acting done here is =
    let from = record acting { readings = slice_set acting.readings index (record reading { waiting = items }) } in
    subst (Did AreLines acting) (same_Some (happens (event.Line reading.seat (said_by item)) from) done is) (did_from acting from _ refl refl (set_same acting.readings index reading (record reading { waiting = items }) here refl) (did_happen (event.Line reading.seat (said_by item)) from refl refl))

did_take_on : (index : ℕ) (found : Option Reading) (acting : Acting) (done : Done) → slice_get acting.readings index ≡ found → takes_on index found acting ≡ Some done → Did AreLines acting done
did_take_on index None acting done here is = absurd (none-some done is)
did_take_on index (Some reading) acting done here is = did_take_from index reading reading.waiting acting done here is

did_take_at : (found : Option ℕ) (acting : Acting) (done : Done) → takes_at found acting ≡ Some done → Did AreLines acting done
did_take_at None acting done is = absurd (none-some done is)
did_take_at (Some index) acting done is = did_take_on index (slice_get acting.readings index) acting done refl is

did_take : (count : ℕ) (acting : Acting) → Did AreLines acting (takes count acting)
did_take zero acting = did_nothing acting acting refl refl refl refl
did_take (suc count) acting = at (takes_next acting) refl (λ then_. did_take count then_) where
  at : (next : Option Done) → takes_next acting ≡ next → ((then_ : Acting) → Did AreLines then_ (takes count then_)) → Did AreLines acting (goes_on next acting (takes count))
  at None is more = did_nothing acting acting refl refl refl refl
  at (Some done) is more = did_both all_lines acting done (takes count done.acting) (did_take_at (position (is_next acting.world.state) acting.readings) acting done is) (more done.acting)

pub did_settle : (line : Script.Move) (acting : Acting) (done : Done) → Did (IsAsked acting.world line) acting done → Did (IsMade acting.world line) acting (settles done)
did_settle line acting done did = did_both (λ moves more is lines. record { asked = moves; taken = more; is = is; lines = lines; all = refl }) acting done (takes (count_of done.acting.readings) done.acting) did (did_take (count_of done.acting.readings) done.acting)

-- On a connection

pub did_feed : (octets : List ℕ) (index : ℕ) (reading : Reading) (acting : Acting) → slice_get acting.readings index ≡ Some reading → Did (λ moves. moves ≡ []) acting (feeds octets index reading acting)
did_feed octets index reading acting here = did_nothing acting (feeds octets index reading acting).acting refl refl (set_same acting.readings index reading (heard_more octets reading) here refl) refl

-- an event of the connection
did_there : (event : Seat → Event) (index : ℕ) (reading : Reading) (acting : Acting) → IsNumbered acting → slice_get acting.readings index ≡ Some reading → brings_no_party (event reading.seat) ≡ true → Did (IsEvent (event (seat_in acting.world (suc index)))) acting (happens (event reading.seat) acting)
did_there event index reading acting numbered here own =
    let outcome = outcome_in acting (event reading.seat) in
    did_happen (event reading.seat) acting own (outcome, ap (λ seat. Move.Step (event seat) outcome ∷ []) (seat_at acting numbered index reading here))

did_lose : (index : ℕ) (reading : Reading) (acting : Acting) → IsNumbered acting → slice_get acting.readings index ≡ Some reading → Did (IsEvent (event.Lost (seat_in acting.world (suc index)))) acting (loses index reading acting)
did_lose index reading acting numbered here =
    let did = did_there event.Lost index reading acting numbered here refl in
    at (is_none (answer_in acting (event.Lost reading.seat)).refusal) did where
      Lost : List Move → Type 0
      Lost = IsEvent (event.Lost (seat_in acting.world (suc index)))

      at : (forgets : Bool) → Did Lost acting (happens (event.Lost reading.seat) acting) → Did Lost acting (record (happens (event.Lost reading.seat) acting) { acting = forgets_on forgets (suc index) (happens (event.Lost reading.seat) acting).acting })
      at true did = record { moves = did.moves; made = did.made; said = did.said; run = did.run; led = did.led; shown = did.shown; text = did.text; named = did.named; numbered = λ is. record { seats = lost_same (suc index) (happens (event.Lost reading.seat) acting).acting.readings ∙ (did.numbered is).seats } }
      at false did = did

did_push : (id : List ℕ) (index : ℕ) (reading : Reading) (acting : Acting) → IsNumbered acting → slice_get acting.readings index ≡ Some reading → Did (IsEvent (event.AskPush (seat_in acting.world (suc index)) id)) acting (pushes id index reading acting)
did_push id index reading acting numbered here = did_there (λ seat. event.AskPush seat id) index reading acting numbered here refl

did_pull : (superior : List ℕ) (index : ℕ) (reading : Reading) (acting : Acting) → IsNumbered acting → slice_get acting.readings index ≡ Some reading → Did (IsEvent (event.AskPull (seat_in acting.world (suc index)) superior)) acting (pulls superior index reading acting)
did_pull superior index reading acting numbered here = did_there (λ seat. event.AskPull seat superior) index reading acting numbered here refl

module _ (Made : ℕ → List Move → Type 0) (f : ℕ → Reading → Acting → Done) (acting : Acting) (did : (index : ℕ) (reading : Reading) → slice_get acting.readings index ≡ Some reading → Did (Made (suc index)) acting (f index reading acting)) where
  did_reading : (index : ℕ) (found : Option Reading) (done : Done) → slice_get acting.readings index ≡ found → on_reading f index found acting ≡ Some done → Did (Made (suc index)) acting done
  did_reading index None done here is = absurd (none-some done is)
  did_reading index (Some reading) done here is = subst (Did (Made (suc index)) acting) (same_Some (f index reading acting) done is) (did index reading here)

  pub did_on : (number : ℕ) (done : Done) → on_connection f number acting ≡ Some done → Did (Made number) acting done
  did_on zero done is = absurd (none-some done is)
  did_on (suc index) done is = did_reading index (reading_on (suc index) acting.readings) done refl is

-- Errands

did_go_from : (errands : List PartyNotes) (acting : Acting) (done : Done) → acting.world.errands ≡ errands → goes_for errands acting ≡ Some done → Did (IsReturn errands) acting done
did_go_from [] acting done none is = subst (Did (IsReturn []) acting) (same_Some _ done is) (record { moves = []; made = refl; said = Idles ∷ []; run = refl; led = refl; shown = refl; text = sym (flat_map-cons (saying_text acting.name) Idles [] ∙ append-nil _); named = refl; numbered = λ is. is })
did_go_from (party ∷ errands) acting done out is = at (are_foretold party) is where
  from : Acting
  from = record acting { world = record acting.world { errands = errands } }

  went : Done
  went = happens (event_of party (answers_of party)) from

  move : Move
  move = Move.Go 0 (answers_of party) (outcome_in from (event_of party (answers_of party)))

  goes : moved move acting.world ≡ stepped (event_of party (answers_of party)) (outcome_in from (event_of party (answers_of party))) from.world
  goes = ap (λ e. gone_for e (answers_of party) (outcome_in from (event_of party (answers_of party))) acting.world) (ap (picked 0) out)

  honest : is_honest move acting.world ≡ true
  honest = rw (ap (picked 0) out) (and_from (can_answer party.errand (answers_of party) party.members) _ (can_be_answered party) (fits_due acting.due (wants acting.world.state (event_of party (answers_of party)))))

  at : (told : Bool) → cond told (Some went) None ≡ Some done → Did (IsReturn (party ∷ errands)) acting done
  at true is = subst (Did (IsReturn (party ∷ errands)) acting) (same_Some went done is) (subst (λ m. Did (IsReturn (party ∷ errands)) acting (record { printed = shown_text acting.name m.shown; acting = went.acting })) goes (did_move move acting went.acting honest (sym (ap (λ m. m.world) goes)) refl (outcome_in from (event_of party (answers_of party)), refl) (λ is. happens_numbered (event_of party (answers_of party)) from (record { seats = is.seats }))))
  at false is = absurd (none-some done is)

pub did_go : (acting : Acting) (done : Done) → goes_for acting.world.errands acting ≡ Some done → Did (IsReturn acting.world.errands) acting done
did_go acting done is = did_go_from acting.world.errands acting done refl is

did_drop_from : (errands : List PartyNotes) (acting : Acting) → acting.world.errands ≡ errands → Did (IsLoss errands) acting (drops_from errands acting)
did_drop_from [] acting none = record { moves = []; made = refl; said = Idles ∷ []; run = refl; led = refl; shown = refl; text = sym (flat_map-cons (saying_text acting.name) Idles [] ∙ append-nil _); named = refl; numbered = λ is. is }
did_drop_from (party ∷ errands) acting out =
    let loses_it : moved (Move.Lose 0) acting.world ≡ record { shown = drops_of party; world = record acting.world { errands = errands } } = ap (λ e. lost_from e acting.world) (ap (picked 0) out) in
    subst (λ m. Did (IsLoss (party ∷ errands)) acting (record { printed = shown_text acting.name m.shown; acting = record acting { world = record acting.world { errands = errands } } })) loses_it
    (did_move (Move.Lose 0) acting (record acting { world = record acting.world { errands = errands } }) refl (sym (ap (λ m. m.world) loses_it)) refl refl (λ is. record { seats = is.seats }))

pub did_drop : (acting : Acting) → Did (IsLoss acting.world.errands) acting (drops_from acting.world.errands acting)
did_drop acting = did_drop_from acting.world.errands acting refl

-- Starts

willing_count : (n : ℕ) → length (willing n) ≡ n
willing_count zero = refl
willing_count (suc n) = ap suc (willing_count n)

all_mapped : {T : Type 0} (p : T → Bool) (xs : List T) → list_all p xs ≡ list_all (λ (b : Bool). b) (map p xs)
all_mapped p [] = refl
all_mapped p (x ∷ xs) = ap (λ b. p x && b) (all_mapped p xs)

-- as many boxes as a row found at its key has branches
abbrev are_enough : Key × Row → Option Row → Bool
are_enough stored found = length (option_map_or willing_boxes found []) == length (branches_of stored.1)

each_enough : (rows : List (Key × Row)) → list_all (λ (b : Bool). b) (map (λ stored. are_enough stored (Some stored.1)) rows) ≡ true
each_enough [] = refl
each_enough (stored ∷ rows) = and_from (are_enough stored (Some stored.1)) _ (enough (length (branches_of stored.1))) (each_enough rows) where
  enough : (n : ℕ) → (length (willing n) == n) ≡ true
  enough n = let same = willing_count n in grind (arith, nat_tests, same)

pub boxes_are_adopted : (rows : List (Key × Row)) → is_rising rows ≡ true → are_adopted (boxes_in rows) rows ≡ true
boxes_are_adopted rows rising =
    all_mapped (λ (stored : Key × Row). are_enough stored (row_at stored.0 rows)) rows
    ∙ ap (list_all (λ (b : Bool). b)) (each_found are_enough rows rising)
    ∙ each_enough rows

-- not after the last epoch
starts_again : (acting : Acting) → IsSound acting.world → is_at_end acting ≡ false → can_start (boxes_in acting.world.rows) acting.world ≡ true
starts_again acting sound not_last =
    let head = acting.world.state.head in
    let within : is_within 1 last_epoch head.epoch ≡ true = (in_bounds acting.world.state sound.bounded).epoch in
    let before : nat_lt head.epoch last_epoch ≡ true = let most : nat_le head.epoch last_epoch ≡ true = (and_parts (nat_le 1 head.epoch) (nat_le head.epoch last_epoch) within).1 in grind (arith, nat_tests, most, not_last) in
    and_from (nat_lt head.epoch last_epoch) _ before (boxes_are_adopted acting.world.rows (to_says acting.world.state acting.world.rows sound.stored).0)

-- what a realm says that has started
abbrev pub opening_said : Acting → List Saying
opening_said acting = Starts acting.world.state.head.epoch ∷ map Adopts acting.world.rows

pub opening_is : (acting : Acting) → opening_text acting ≡ flat_map (saying_text acting.name) (opening_said acting)
opening_is acting = sym (flat_map-cons (saying_text acting.name) (Starts acting.world.state.head.epoch) (map Adopts acting.world.rows) ∙ ap (λ l. start_text acting.name acting.world.state.head.epoch ++ l) (flat_map-map (saying_text acting.name) Adopts acting.world.rows))

adopts_nothing : (rows : List (Key × Row)) → outputs_of (map Adopts rows) ≡ []
adopts_nothing [] = refl
adopts_nothing (stored ∷ rows) = adopts_nothing rows

pub opening_shows : (acting : Acting) → outputs_of (opening_said acting) ≡ []
opening_shows acting = adopts_nothing acting.world.rows

-- a realm that has done something, and then started
did_open : {Made : List Move → Type 0} (acting : Acting) (done : Done) → Did Made acting done → Did Made acting (record { printed = done.printed ++ opening_text done.acting; acting = done.acting })
did_open {Made} acting done did = did_both {Second = λ more. more ≡ []} (λ moves more one none. subst Made (sym (append-nil moves) ∙ ap (λ l. moves ++ l) (sym none)) one) acting done (record { printed = opening_text done.acting; acting = done.acting }) did (record {
  moves = [];
  made = refl;
  said = opening_said done.acting;
  run = refl;
  led = refl;
  shown = opening_shows done.acting;
  text = opening_is done.acting;
  named = refl;
  numbered = λ is. is;
})

did_renewed : (due : Bool) (acting : Acting) → IsSound acting.world → is_at_end acting ≡ false → Did (IsRenewal false acting.world.rows) acting (renewed due acting)
did_renewed true acting sound not_last = did_move (Move.Renew (boxes_in acting.world.rows) Refused) acting (record acting { due = false }) (starts_again acting sound not_last) refl refl (Refused, refl) (λ is. record { seats = is.seats })
did_renewed false acting sound not_last =
    did_open acting (record { printed = shown_text acting.name (renewal Stored acting).shown; acting = record acting { world = (renewal Stored acting).world; readings = [] } })
    (did_move (Move.Renew (boxes_in acting.world.rows) Stored) acting (record acting { world = (renewal Stored acting).world; readings = [] }) (starts_again acting sound not_last) refl refl (Stored, refl) (λ is. record { seats = refl }))

pub did_renew : (acting : Acting) → IsSound acting.world → Did (IsRenewal (is_at_end acting) acting.world.rows) acting (renews acting)
did_renew acting sound = at (is_at_end acting) refl where
  at : (last : Bool) → is_at_end acting ≡ last → Did (IsRenewal last acting.world.rows) acting (cond last (record { printed = refusal_text acting.name EpochEnd; acting = acting }) (renewed acting.due acting))
  at true is = record { moves = []; made = refl; said = Ends ∷ []; run = refl; led = refl; shown = refl; text = sym (flat_map-cons (saying_text acting.name) Ends [] ∙ append-nil _); named = refl; numbered = λ is. is }
  at false is = did_renewed acting.due acting sound is

pub did_restart : (acting : Acting) → IsSound acting.world → is_at_end acting ≡ false → Did (IsMade acting.world Script.Restart) acting (restarts acting)
did_restart acting sound not_last = did_move (Move.Restart (boxes_in acting.world.rows)) acting (restarts acting).acting (starts_again acting sound not_last) refl refl (record { asked = Move.Restart (boxes_in acting.world.rows) ∷ []; taken = []; is = refl; lines = refl; all = refl }) (λ is. record { seats = refl })

-- A line of a realm

guarded : {Made : List Move → Type 0} (fits : Bool) (acting : Acting) (some : Option Done) (done : Done) → cond fits some None ≡ Some done → (some ≡ Some done → Did Made acting done) → Did Made acting done
guarded true acting some done is did = did is
guarded false acting some done is did = absurd (none-some done is)

pub did : (move : Script.Move) (acting : Acting) (done : Done) → IsSound acting.world → IsNumbered acting → does move acting ≡ Some done → Did (IsAsked acting.world move) acting done
did (Script.Declare name address branches limits) acting done sound numbered is = absurd (none-some done is)
did (Script.Label realm labels) acting done sound numbered is = absurd (none-some done is)
did (Script.Open realm plans) acting done sound numbered is = subst (Did (IsAsked acting.world (Script.Open realm plans)) acting) (same_Some _ done is) (did_one (event.Open (boxes_of plans)) acting refl)
did (Script.Dial realm address plans purpose) acting done sound numbered is = guarded (is_address address && is_purpose purpose) acting _ done is (λ here. subst (Did (IsAsked acting.world (Script.Dial realm address plans purpose)) acting) (same_Some _ done here) (did_one (event.Dial address purpose (boxes_of plans)) acting refl))
did (Script.Feed realm connection octets) acting done sound numbered is = did_on (λ number moves. moves ≡ []) (feeds octets) acting (λ index reading here. did_feed octets index reading acting here) connection done is
did (Script.Lose realm connection) acting done sound numbered is = did_on (λ number. IsEvent (event.Lost (seat_in acting.world number))) loses acting (λ index reading here. did_lose index reading acting numbered here) connection done is
did (Script.Push realm connection id) acting done sound numbered is = guarded (is_word id) acting _ done is (λ here. did_on (λ number. IsEvent (event.AskPush (seat_in acting.world number) id)) (pushes id) acting (λ index reading there. did_push id index reading acting numbered there) connection done here)
did (Script.Pull realm connection superior) acting done sound numbered is = guarded (is_word superior) acting _ done is (λ here. did_on (λ number. IsEvent (event.AskPull (seat_in acting.world number) superior)) (pulls superior) acting (λ index reading there. did_pull superior index reading acting numbered there) connection done here)
did (Script.Go realm) acting done sound numbered is = did_go acting done is
did (Script.Drop realm) acting done sound numbered is = subst (Did (IsAsked acting.world (Script.Drop realm)) acting) (same_Some _ done is) (did_drop acting)
did (Script.Resume realm id) acting done sound numbered is = guarded (is_word id) acting _ done is (λ here. subst (Did (IsAsked acting.world (Script.Resume realm id)) acting) (same_Some _ done here) (did_one (event.Resume id) acting refl))
did (Script.Refuse realm) acting done sound numbered is = subst (Did (IsAsked acting.world (Script.Refuse realm)) acting) (same_Some _ done is) (did_nothing acting (refuses acting).acting refl refl refl refl)
did (Script.Renew realm) acting done sound numbered is = subst (Did (IsAsked acting.world (Script.Renew realm)) acting) (same_Some _ done is) (did_renew acting sound)
did Script.Restart acting done sound numbered is = absurd (none-some done is)
