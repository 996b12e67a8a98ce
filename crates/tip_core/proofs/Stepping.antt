-- From the tables to the realms that they stand for.
use Rattle.std.proofs.Common.{◌≡◌, ℕ, ◌≢◌, ◌<◌, ◌≤◌, zero, suc, Bool, true, false, cond, List, [], ◌∷◌, ◌++◌, length, map, Option, Some, None, refl, ap, arith, ◌∙◌, sym, subst, inl, inr}
use Rattle.std.specs.Prelude.{slice_get, slice_index_or, option_map}
use Rattle.std.specs.List.{All}
use Rattle.std.proofs.lemmas.Option.{slice_get_past, slice_get-get_or, slice_get-map, same_Some, none-some}
use Rattle.std.proofs.lemmas.Bool.{cases_lt, cases_eq}
use Rattle.tip_line.specs.declared.refusal.Refusal.{Refusal}
use Rattle.tip_line.specs.declared.refusal.Refusal.TheVariants.{Frozen, NoRealm}
use Rattle.std.proofs.lemmas.List.{length-map}
use Rattle.std.proofs.lemmas.List.Elements.{All-head, All-nil, All-tail}
use Rattle.tip_machine.specs.Counts.{HasCounts, IsBelow}
use Rattle.tip_machine.specs.Given.{are_numbered}
use Rattle.tip_machine.specs.Heads.{starting}
use Rattle.tip_machine.specs.Order.{concerned, in_turn, ordered, turn}
use Rattle.tip_machine.specs.States.{State, started}
use Rattle.tip_machine.specs.Steps.{attempt, chosen, entered, frozen, is_open, nowhere, returned, step}
use Rattle.tip_machine.specs.Types.{Answer, Event}
use Rattle.tip_machine.specs.declared.event.Event.TheVariants.{AskPull, AskPush, Dial, Line, Lost, Open, Resume, Settled, Voted}
use Rattle.tip_machine.specs.declared.event.Outcome.{Outcome}
use Rattle.tip_machine.specs.declared.head.Head.{Head}
use Rattle.tip_machine.specs.declared.head.Start.{Start}
use Rattle.tip_machine.proofs.Concerning.{tells_those}
use Rattle.tip_machine.proofs.Counting.{counts_stay}
use Rattle.tip_machine.proofs.Identifiers.{none_numbered}
use Rattle.tip_table.specs.Kept.{of}
use Rattle.tip_outlook.proofs.Turning.{in_turn_of_state}
use Rattle.tip_core.specs.Hosted.{HasEpoch, Hosted, IsRoomFor, Steps, realm}
use Rattle.tip_core.specs.Ordering.{AreKnown}
use Rattle.tip_core.specs.Starting.{AreEmpty}
use Rattle.tip_rules.specs.Makings.{Made}
use Rattle.tip_rules.specs.Needs.{Granted, HasNeeds, Suits, happened}
use Rattle.tip_outlook.specs.Turns.{turn_in}
use Rattle.tip_outlook.specs.declared.turns.Turn.{Turn}
use Rattle.tip_outlook.specs.Endings.{EndsBy}
use Rattle.tip_outlook.specs.Wanting.{foreseen}
use Rattle.tip_outlook.specs.declared.next.Endings.{Endings}
use Rattle.tip_rules.specs.Works.{Does, HaveCounts, Realms, Tables, no_head, state_in, state_of, tables_in, working}

-- what the tables stand for, with room to note so many turns
abbrev pub hosted : Realms → ℕ → Hosted
hosted realms turns = record { heads = realms.heads.items; tables = realms.tables.items; turns = turns }

stands_in : Realms → ℕ → Head → State
stands_in realms place head = state_of place head (tables_in place realms)

-- a realm that is there
pub there : (realms : Realms) (turns place : ℕ) → place < length realms.heads.items → realm (hosted realms turns) place ≡ Some (state_in place realms)
unfolding stands_in
there realms turns place lt = ap (option_map (stands_in realms place)) (slice_get-get_or realms.heads.items place no_head lt)

pub past : (realms : Realms) (turns place : ℕ) → length realms.heads.items ≤ place → realm (hosted realms turns) place ≡ None
unfolding stands_in
past realms turns place le = ap (option_map (stands_in realms place)) (slice_get_past realms.heads.items place le)

-- a realm that is there is inside
pub inside : (realms : Realms) (turns place : ℕ) (state : State) → realm (hosted realms turns) place ≡ Some state → (place < length realms.heads.items) × (state ≡ state_in place realms)
inside realms turns place state is = elim (cases_lt place (length realms.heads.items)) [
  | inl less ↦ (less, same_Some state (state_in place realms) (sym is ∙ there realms turns place less))
  | inr more ↦ absurd (none-some state (sym (past realms turns place more) ∙ is))
]

-- and has its tables
pub within : (realms : Realms) (turns place : ℕ) → length realms.tables.items ≡ length realms.heads.items → realm (hosted realms turns) place ≢ None → place < length realms.tables.items
within realms turns place count here = elim (cases_lt place (length realms.heads.items)) [
  | inl less ↦ subst (λ n. place < n) (sym count) less
  | inr more ↦ absurd (here (past realms turns place more))
]

-- The step of a realm

-- an answer whose lines are put in order
abbrev pub in_order : List Turn → Answer → Answer
in_order turns answer = record answer { sent = in_turn (turn_in turns) answer.sent }

-- what is turned down tells nobody
returned_in_order : (turns : List Turn) (why : Refusal) (event : Event) → record (returned why event) { sent = in_turn (turn_in turns) (returned why event).sent } ≡ returned why event
returned_in_order turns why (Open boxes) = refl
returned_in_order turns why (Dial address purpose boxes) = refl
returned_in_order turns why (Line seat heard) = refl
returned_in_order turns why (Voted party) = refl
returned_in_order turns why (Settled party) = refl
returned_in_order turns why (Lost seat) = refl
returned_in_order turns why (AskPush seat id) = refl
returned_in_order turns why (AskPull seat superior) = refl
returned_in_order turns why (Resume id) = refl

module _ (state : State) (event : Event) (outcome : Outcome) where
  -- what the event tells is in turn by what is known of turns
  told_in_order : (turns : List Turn) → are_numbered state ≡ true → AreKnown state event turns → let told = (chosen (attempt event (entered state)) outcome).answer.sent in in_turn (turn_in turns) told ≡ in_turn (turn state) told
  told_in_order turns numbered known =
      let told = (chosen (attempt event (entered state)) outcome).answer.sent in
      ap (λ (notes : List Turn). in_turn (turn_in notes) told) known ∙ in_turn_of_state (concerned state event) state told numbered (tells_those state event outcome numbered)

  pub answers_in_order : (turns : List Turn) → are_numbered state ≡ true → AreKnown state event turns → in_order turns (happened state event outcome).answer ≡ (step state event outcome).answer
  unfolding ordered
  answers_in_order turns numbered known = by (is_open state) where
    by : (b : Bool) → in_order turns (cond b (chosen (attempt event (entered state)) outcome) (frozen event state)).answer ≡ (cond b (ordered state (chosen (attempt event (entered state)) outcome)) (frozen event state)).answer
    by true = ap (λ sent. record (chosen (attempt event (entered state)) outcome).answer { sent = sent }) (told_in_order turns numbered known)
    by false = returned_in_order turns Frozen event

  pub state_stays : (happened state event outcome).state ≡ (step state event outcome).state
  unfolding ordered
  state_stays = by (is_open state) where
    by : (b : Bool) → (cond b (chosen (attempt event (entered state)) outcome) (frozen event state)).state ≡ (cond b (ordered state (chosen (attempt event (entered state)) outcome)) (frozen event state)).state
    by true = refl
    by false = refl

-- where the tables did the work of an event, its realm went by its machine
module _ (old new : Realms) (place : ℕ) (event : Event) (outcome : Outcome) (endings : Endings) (made after : Made) (lt : place < length old.heads.items)
    (does : Does (working place outcome endings made old) (working place outcome endings after new) (happened (state_in place old) event outcome))
    (apart : (other : ℕ) → other ≢ place → tables_in other new ≡ tables_in other old) where
  -- every other realm stays
  other_stays : (other : ℕ) → other ≢ place → state_in other new ≡ state_in other old
  other_stays other differ =
      ap (λ (h : Head). state_of other h (tables_in other new)) (ap (λ (s : State). s.head) (does.others other differ))
      ∙ ap (λ (t : Tables). state_of other (slice_index_or old.heads.items other no_head) t) (apart other differ)

  went : state_in place new ≡ (step (state_in place old) event outcome).state
  went = ap (λ w. w.state) does.own ∙ state_stays (state_in place old) event outcome

  pub steps : HaveCounts old → (turns turns' : ℕ) (known : List Turn) (answer : Answer) → AreKnown (state_in place old) event known → answer ≡ in_order known after.answer → Steps (hosted old turns) (hosted new turns') place event outcome answer
  steps counts turns turns' known answer are is = record {
    own = λ state here.
        let same : state_in place old ≡ state = same_Some _ _ (sym (there old turns place lt) ∙ here) in (
          is ∙ ap (λ w. in_order known w.answer) does.own ∙ answers_in_order (state_in place old) event outcome known (counts place lt).numbered are ∙ ap (λ s. (step s event outcome).answer) same,
          there new turns' place (omega (arith, does.count, lt)) ∙ ap Some (went ∙ ap (λ s. (step s event outcome).state) same),
        );
    others = λ other differ. elim (cases_lt other (length old.heads.items)) [
      | inl less ↦ there new turns' other (omega (arith, does.count, less)) ∙ ap Some (other_stays other differ) ∙ sym (there old turns other less)
      | inr more ↦ past new turns' other (omega (arith, does.count, more)) ∙ sym (past old turns other more)
    ];
    absent = λ none. absurd (none-some (state_in place old) (sym none ∙ there old turns place lt));
  }

  pub counted : HaveCounts old → HaveCounts new
  counted before other less = elim (cases_eq other place) [
    | inl same ↦ subst (λ p. HasCounts (state_in p new)) (sym same) (subst HasCounts (sym went) (counts_stay (state_in place old) event outcome (before place lt)))
    | inr differ ↦ subst HasCounts (sym (other_stays other differ)) (before other (omega (arith, does.count, less)))
  ]

-- an event for a realm that is not there
pub turned_down : (turns : List Turn) (event : Event) (made answer : Answer) → made ≡ returned NoRealm event → answer ≡ record made { sent = in_turn (turn_in turns) made.sent } → answer ≡ nowhere event
turned_down turns event made answer is put = put ∙ ap (λ (a : Answer). record a { sent = in_turn (turn_in turns) a.sent }) is ∙ returned_in_order turns NoRealm event

pub nowhere_steps : (realms : Realms) (turns place : ℕ) (event : Event) (outcome : Outcome) (answer : Answer) → length realms.heads.items ≤ place → answer ≡ nowhere event → Steps (hosted realms turns) (hosted realms turns) place event outcome answer
nowhere_steps realms turns place event outcome answer le is = record {
  own = λ state here. absurd (none-some state (sym (past realms turns place le) ∙ here));
  others = λ other differ. refl;
  absent = λ none. (is, none);
}

-- Room

-- the room that was made is what the work of the event needs
pub needs : (realms : Realms) (place : ℕ) (outcome : Outcome) (endings : Endings) (made : Made) (event : Event) (room : Granted) → Suits (state_in place realms) (tables_in place realms).connections.free (tables_in place realms).transactions.free (of (tables_in place realms).transactions place) event room → made.free ≡ room.lines → made.room ≡ room.transaction → made.peer ≡ room.peer → made.ours ≡ room.ours → made.word ≡ room.word → endings ≡ room.endings → HasNeeds event (working place outcome endings made realms)
needs realms place outcome endings made event room suits lines transaction peer ours word ends = record {
  lines = omega (arith, suits.lines, lines);
  connections = suits.connections;
  transactions = suits.transactions;
  transaction = λ is. transaction ∙ suits.transaction is;
  part = suits.part;
  peer = peer ∙ suits.peer;
  ours = ours ∙ suits.ours;
  word = word ∙ suits.word;
  endings = λ is. subst (EndsBy (foreseen event (state_in place realms))) (sym ends) (suits.endings is);
}

pub room_for_it : (realms : Realms) (turns place : ℕ) (event : Event) (room : Granted) → place < length realms.heads.items → length (of (tables_in place realms).connections place) ≤ turns → Suits (state_in place realms) (tables_in place realms).connections.free (tables_in place realms).transactions.free (of (tables_in place realms).transactions place) event room → IsRoomFor (hosted realms turns) place event room
room_for_it realms turns place event room lt enough suits = record {
  suits = λ state here. subst (λ s. Suits s (tables_in place realms).connections.free (tables_in place realms).transactions.free (of (tables_in place realms).transactions place) event room) (sym (inside realms turns place state here).1) suits;
  turns = λ state here. subst (λ (s : State). length s.connections ≤ turns) (sym (inside realms turns place state here).1) enough;
  nothing = λ none. absurd (none-some (state_in place realms) (sym none ∙ there realms turns place lt));
}

-- realms that are as they were
module _ (old new : Realms) (heads : new.heads ≡ old.heads) (same : (place : ℕ) → state_in place new ≡ state_in place old) where
  pub alike : (turns turns' place : ℕ) → realm (hosted new turns') place ≡ realm (hosted old turns) place
  alike turns turns' place = elim (cases_lt place (length old.heads.items)) [
    | inl less ↦ there new turns' place (subst (λ (hs : List Head). place < length hs) (sym (ap (λ h. h.items) heads)) less) ∙ ap Some (same place) ∙ sym (there old turns place less)
    | inr more ↦ past new turns' place (subst (λ (hs : List Head). length hs ≤ place) (sym (ap (λ h. h.items) heads)) more) ∙ sym (past old turns place more)
  ]

  pub still_counted : HaveCounts old → HaveCounts new
  still_counted counts place lt = subst HasCounts (sym (same place)) (counts place (subst (λ (hs : List Head). place < length hs) (ap (λ h. h.items) heads) lt))

-- Realms at their start

starting_counts : (starts : List Start) (place : ℕ) → All HasEpoch starts → place < length starts → (state : State) → state.head ≡ slice_index_or (map starting starts) place no_head → state.connections ≡ [] → HasCounts state
starting_counts [] place epochs lt state head none = absurd (omega (arith, lt))
starting_counts (start ∷ starts) zero epochs lt state head none = record {
  epoch = subst (λ (h : Head). 0 < h.epoch) (sym head) (All-head HasEpoch start starts epochs);
  given = subst (λ (h : Head). h.given ≤ h.entries) (sym head) (omega arith);
  connections = subst (All (IsBelow state.head.entries)) (sym none) (All-nil (IsBelow state.head.entries));
  numbered = none_numbered state none;
}
starting_counts (start ∷ starts) (suc place) epochs lt state head none = starting_counts starts place (All-tail HasEpoch start starts epochs) (omega (arith, lt)) state head none

just_started : (start : Option Start) → option_map (λ head. record { head = head; connections = []; transactions = [] }) (option_map starting start) ≡ option_map (λ start. started (starting start)) start
just_started None = refl
just_started (Some start) = refl

module _ (starts : List Start) (realms : Realms) (heads : realms.heads.items ≡ map starting starts) (empty : AreEmpty realms.tables.items) where
  pub new_realm : (turns place : ℕ) → realm (hosted realms turns) place ≡ option_map (λ start. started (starting start)) (slice_get starts place)
  new_realm turns place = rw ((empty place place).0, (empty place place).1, heads, slice_get-map starting starts place) (just_started (slice_get starts place))

  pub new_counts : All HasEpoch starts → HaveCounts realms
  new_counts epochs place lt = starting_counts starts place epochs (omega (arith, lt, ap length heads, length-map starts starting)) (state_in place realms) (ap (λ hs. slice_index_or hs place no_head) heads) (empty place place).0

-- and where there are none
pub none_empty : AreEmpty []
unfolding of
none_empty place realm = (refl, refl)

-- one more that has nothing
pub empty_more : (tables : List Tables) (more : Tables) → AreEmpty tables → ((realm : ℕ) → of more.connections realm ≡ []) → ((realm : ℕ) → of more.transactions realm ≡ []) → AreEmpty (tables ++ more ∷ [])
empty_more [] more all connections transactions zero realm = (connections realm, transactions realm)
empty_more [] more all connections transactions (suc place) realm = none_empty place realm
empty_more (t ∷ tables) more all connections transactions zero realm = all zero realm
empty_more (t ∷ tables) more all connections transactions (suc place) realm = empty_more tables more (λ p. all (suc p)) connections transactions place realm
