-- An identifier is never made twice.
use Rattle.std.proofs.Common.{◌≡◌, ◌≤◌, ◌<◌, Bool, true, false, ℕ, ◌+◌, List, [], ◌∷◌, ◌++◌, Some, None, cond, refl, ap, arith, sym, ◌∙◌, subst, ◌⊎◌, inl, inr}
use Rattle.std.specs.Prelude.{◌&&◌, ◌||◌, ◌==◌, not, nat_le, nat_lt, find, length, map, is_some, IsSome, take}
use Rattle.std.specs.List.{list_all, list_any}
use Rattle.std.proofs.lemmas.Bool.{and_left, and_parts, and_right, or_from, true≢false}
use Rattle.std.proofs.lemmas.Bool.Decides.{nat_tests}
use Rattle.std.proofs.lemmas.Option.{same_Some}
use Rattle.tip_branch.specs.declared.branch.Badge.{Badge}
use Rattle.tip_line.specs.declared.refusal.Refusal.TheVariants.{Full}
use Rattle.tip_rows.specs.Keys.{Key, is_same}
use Rattle.tip_rows.proofs.OrderLemmas.{same_key}
use Rattle.tip_table.specs.Lists.{are_rising, changed, without}
use Rattle.tip_machine.specs.Types.{Connection, Event, PartyPlace, Transaction}
use Rattle.tip_machine.specs.Connections.{accepted, dialled, has_number}
use Rattle.tip_machine.specs.Transactions.{begun, has_key, next_key, standing_at}
use Rattle.tip_machine.specs.States.{State, Work, connection_of, has_place, seated, transaction_of}
use Rattle.tip_machine.specs.Changes.{refuse}
use Rattle.tip_machine.specs.Commands.{make, making}
use Rattle.tip_machine.specs.Order.{ordered}
use Rattle.tip_machine.specs.Reactions.{Reaction, react, reacted}
use Rattle.tip_machine.specs.Requests.{added, dial, hand_back, opened}
use Rattle.tip_machine.specs.Given.{are_numbered, is_to_make, numbers_of, was_given}
use Rattle.tip_machine.specs.Steps.{attempt, chosen, entered, frozen, is_open, step}
use Rattle.tip_machine.specs.declared.connection.Purpose.{Purpose}
use Rattle.tip_machine.specs.declared.event.Outcome.{Outcome}
use Rattle.tip_machine.specs.declared.transaction.Origin.{Origin}
use Rattle.tip_machine.specs.declared.transaction.PartyPlace.TheVariants.{Here, Out, Spent}
use Rattle.tip_machine.proofs.Walks.{Closed, Ends, Is, chosen_ends, either, from_one, or_any}
use Rattle.tip_machine.proofs.RuleWalks.{advanced-made}
use Rattle.tip_machine.proofs.AttemptWalks.{attempt-goes, each_event, is_opening}
use Rattle.tip_machine.proofs.Keeping.{any, each}
use Rattle.tip_machine.proofs.Lists.{find_any, none-added, none-changed, none-found, none-map, none-without}
use Rattle.tip_machine.proofs.Others.{number-reacted, reacted-keeps}
use Rattle.tip_machine.proofs.Rising.{found-below, none-behind, numbers-changed, numbers-map, rising-added, rising-without}

-- Connections

-- a key that was made on a connection was not to be made there again
still_made : (b : Bool) (m k : ℕ) → b && nat_lt m k ≡ false → b && nat_lt (m + 1) k ≡ false
still_made true m k off = grind (arith, nat_tests, off)
still_made false m k off = refl

-- after a key was made on the connection that was found, it is to be made on none, as numbers rise
made_there : (key : Key) (f : Connection → Connection) (cs : List Connection) (c : Connection) (last : ℕ) → find (has_number key.connection) cs ≡ Some c → are_rising (numbers_of cs ++ last ∷ []) ≡ true → nat_lt (f c).made key.number ≡ false → list_any (is_to_make key) (changed (has_number key.connection) f cs) ≡ false
made_there key f [] c last is rising counted = refl
made_there key f (d ∷ cs) c last is rising counted = let parts = and_parts _ _ rising in step (has_number key.connection d) refl is parts.0 (λ later. made_there key f cs c last later parts.1 counted) where
  step : (b : Bool) → has_number key.connection d ≡ b → cond b (Some d) (find (has_number key.connection) cs) ≡ Some c → list_all (nat_lt d.number) (numbers_of cs ++ last ∷ []) ≡ true → (find (has_number key.connection) cs ≡ Some c → list_any (is_to_make key) (changed (has_number key.connection) f cs) ≡ false) → list_any (is_to_make key) (cond b (f d ∷ cs) (d ∷ changed (has_number key.connection) f cs)) ≡ false
  step true same is behind later =
      or_from (is_to_make key (f d)) (list_any (is_to_make key) cs)
      (and_right (has_number key.connection (f d)) (nat_lt (f d).made key.number) (subst (λ e. nat_lt (f e).made key.number ≡ false) (sym (same_Some d c is)) counted))
      (none-behind last key cs (subst (λ n. list_all (nat_lt n) (numbers_of cs ++ last ∷ []) ≡ true) (grind (arith, nat_tests, same)) behind))
  step false differ is behind later =
      or_from (is_to_make key d) (list_any (is_to_make key) (changed (has_number key.connection) f cs))
      (and_left (has_number key.connection d) (nat_lt d.made key.number) differ)
      (later is)

-- a reaction makes no transaction
pub made-reacted : (key : Key) (reaction : Reaction) (c : Connection) → (reacted reaction key c).connection.made ≡ c.made
made-reacted key reaction c = reacted-keeps (λ d. d.made ≡ c.made) c refl reaction key (λ command response. advanced-made command response c) (λ awaited. refl)

-- Rules

abbrev IsAbsent : Key → State → Type 0
IsAbsent key state = list_any (has_key key) state.transactions ≡ false

-- the key was given in an earlier start, or in this one
abbrev pub IsGiven : Key → State → Type 0
IsGiven key state = (key.epoch < state.head.epoch) ⊎ ((key.epoch ≡ state.head.epoch) × (key.connection ≤ state.head.given) × (list_any (is_to_make key) state.connections ≡ false))

is_not : (b : Bool) → not b ≡ true → b ≡ false
is_not true is = absurd (cc)
is_not false is = refl

pub is_given : (key : Key) (state : State) → was_given state key ≡ true → IsGiven key state
is_given key state was = given (nat_lt key.epoch state.head.epoch) refl was where
  given : (b : Bool) → nat_lt key.epoch state.head.epoch ≡ b → b || ((key.epoch == state.head.epoch) && (nat_le key.connection state.head.given && not (list_any (is_to_make key) state.connections))) ≡ true → IsGiven key state
  given true less was = inl (grind (arith, nat_tests, less))
  given false more was =
      let here = and_parts (key.epoch == state.head.epoch) (nat_le key.connection state.head.given && not (list_any (is_to_make key) state.connections)) was in
      let there = and_parts (nat_le key.connection state.head.given) (not (list_any (is_to_make key) state.connections)) here.1 in
      let same : (key.epoch == state.head.epoch) ≡ true = here.0 in
      let le : nat_le key.connection state.head.given ≡ true = there.0 in
      inr (grind (arith, nat_tests, same), grind (arith, nat_tests, le), is_not (list_any (is_to_make key) state.connections) there.1)

pub is_given_so : (key : Key) (state : State) → IsGiven key state → was_given state key ≡ true
is_given_so key state (inl less) = grind (arith, nat_tests, less)
is_given_so key state (inr here) = let same = here.0 in let le = here.1 in let none = here.2 in grind (arith, nat_tests, same, le, none)

-- the key was not given before, and is given now
abbrev IsMade : Key → State → State → Type 0
IsMade key old new = (¬ IsGiven key old) × (are_numbered old ≡ true → IsGiven key new)

-- a key that was given stays so, and a transaction is made of one that was not
pub record Counts (key : Key) (old new : State) : Type 0 where
  pub stays : IsGiven key old → IsGiven key new
  pub numbered : are_numbered old ≡ true → are_numbered new ≡ true
  pub made : IsAbsent key old → IsAbsent key new ⊎ IsMade key old new

module _ (key : Key) where
  pub still : (s : State) → Counts key s s
  still s = record { stays = λ given. given; numbered = λ numbered. numbered; made = λ absent. inl absent }

  goes_on : (a b c : State) → Counts key a b → Counts key b c → Counts key a c
  goes_on a b c f g = record {
    stays = λ given. g.stays (f.stays given);
    numbered = λ numbered. g.numbered (f.numbered numbered);
    made = λ absent. later (f.made absent);
  } where
    last : IsAbsent key c ⊎ IsMade key b c → IsAbsent key c ⊎ IsMade key a c
    last (inl absent) = inl absent
    last (inr made) = inr ((λ given. made.0 (f.stays given)), (λ numbered. made.1 (f.numbered numbered)))

    later : IsAbsent key b ⊎ IsMade key a b → IsAbsent key c ⊎ IsMade key a c
    later (inl absent) = last (g.made absent)
    later (inr made) = inr (made.0, (λ numbered. g.stays (made.1 numbered)))

  transacts : (s : State) (ts : List Transaction) → (IsAbsent key s → list_any (has_key key) ts ≡ false) → Counts key s (record s { transactions = ts })
  transacts s ts absent = record { stays = λ given. given; numbered = λ numbered. numbered; made = λ none. inl (absent none) }

  given_in : (s : State) (cs : List Connection) → (list_any (is_to_make key) s.connections ≡ false → list_any (is_to_make key) cs ≡ false) → IsGiven key s → IsGiven key (record s { connections = cs })
  given_in s cs none (inl earlier) = inl earlier
  given_in s cs none (inr here) = inr (here.0, here.1, none here.2)

  connects : (s : State) (cs : List Connection) → (list_any (is_to_make key) s.connections ≡ false → list_any (is_to_make key) cs ≡ false) → (are_numbered s ≡ true → are_numbered (record s { connections = cs }) ≡ true) → Counts key s (record s { connections = cs })
  connects s cs none numbered = record { stays = given_in s cs none; numbered = numbered; made = λ absent. inl absent }

  -- connections that keep their numbers
  still_numbered : (s : State) (cs : List Connection) → numbers_of cs ≡ numbers_of s.connections → are_numbered s ≡ true → are_numbered (record s { connections = cs }) ≡ true
  still_numbered s cs same numbered = ap (λ ns. are_rising (ns ++ (s.head.given + 1) ∷ [])) same ∙ numbered

  to_make_alike : (f : Connection → Connection) → ((c : Connection) → (f c).number ≡ c.number) → ((c : Connection) → (f c).made ≡ c.made) → (c : Connection) → is_to_make key c ≡ false → is_to_make key (f c) ≡ false
  to_make_alike f same made c none = ap (λ m. (m == key.connection) && nat_lt (f c).made key.number) (same c) ∙ ap (λ m. has_number key.connection c && nat_lt m key.number) (made c) ∙ none

  changed_at : (n : ℕ) (f : Connection → Connection) (s : State) → ((c : Connection) → (f c).number ≡ c.number) → ((c : Connection) → is_to_make key c ≡ false → is_to_make key (f c) ≡ false) → Counts key s (record s { connections = changed (has_number n) f s.connections })
  changed_at n f s same none =
      connects s (changed (has_number n) f s.connections)
      (none-changed (is_to_make key) (has_number n) f s.connections (λ c is. none c))
      (still_numbered s _ (numbers-changed (has_number n) f s.connections same))

  taken : (n : ℕ) (s : State) → Counts key s (record s { connections = without (has_number n) s.connections })
  taken n s =
      connects s (without (has_number n) s.connections)
      (none-without (is_to_make key) (has_number n) s.connections)
      (rising-without (s.head.given + 1) (has_number n) s.connections)

  has_reacted : (reaction : Reaction) (on : Key) (s : State) → Counts key s (record s { connections = map (λ c. (reacted reaction on c).connection) s.connections })
  has_reacted reaction on s =
      let become = λ (c : Connection). (reacted reaction on c).connection in
      let same = number-reacted on reaction in
      connects s (map become s.connections)
      (none-map (is_to_make key) become s.connections (to_make_alike become same (made-reacted on reaction)))
      (still_numbered s _ (numbers-map become s.connections same))

-- the next key of a connection was not given before it is made
pub not_given : (c : Connection) (s : State) → connection_of c.number s ≡ Some c → ¬ IsGiven (next_key s.head c) s
not_given c s is (inl earlier) = omega (arith, earlier)
not_given c s is (inr here) = let none = none-found (is_to_make (next_key s.head c)) (has_number c.number) s.connections c is here.2 in grind (arith, nat_tests, none)

-- and is given then
pub given_then : (boxes : ℕ) (c : Connection) (s : State) → connection_of c.number s ≡ Some c → are_numbered s ≡ true → IsGiven (next_key s.head c) (record s { connections = changed (has_number c.number) (making boxes (next_key s.head c)) s.connections })
given_then boxes c s is numbered =
    let next = next_key s.head c in
    let below = found-below (s.head.given + 1) (has_number c.number) s.connections c is numbered in
    inr (refl, omega (arith, below), made_there next (making boxes next) s.connections c (s.head.given + 1) is numbered (grind (arith, nat_tests)))

module _ (key : Key) where
  has_made : (from : Origin) (c : Connection) (w : Work) → connection_of c.number w.state ≡ Some c → Counts key w.state (make from c w).state
  unfolding make
  has_made from c w is = record {
    stays = λ given. counted.stays given;
    numbered = λ numbered. counted.numbered numbered;
    made = λ absent. step (is_same key (next_key w.state.head c)) refl absent;
  } where
    counted : Counts key w.state (record w.state { connections = changed (has_number c.number) (making (length w.state.head.branches) (next_key w.state.head c)) w.state.connections })
    counted = changed_at key c.number (making (length w.state.head.branches) (next_key w.state.head c)) w.state (λ d. refl) (λ d off. still_made (has_number key.connection d) d.made key.number off)

    step : (b : Bool) → is_same key (next_key w.state.head c) ≡ b → IsAbsent key w.state → IsAbsent key (make from c w).state ⊎ IsMade key w.state (make from c w).state
    step true same absent = inr (subst (λ p. IsMade p w.state (make from c w).state) (sym (same_key key (next_key w.state.head c) same)) (not_given c w.state is, given_then (length w.state.head.branches) c w.state is))
    step false differ absent = inl (none-added (has_key key) w.state.transactions (begun w.state.head (next_key w.state.head c) from (take (length w.state.head.branches) c.boxes)) absent differ)

  stands : (at : Key) (place : PartyPlace) (s : State) → Counts key s (record s { transactions = changed (has_key at) (standing_at place) s.transactions })
  stands at place s = transacts key s (changed (has_key at) (standing_at place) s.transactions) (none-changed (has_key key) (has_key at) (standing_at place) s.transactions (λ t is none. none))

  pub closed_by_counts : (on : Key) → Closed (λ w v. Counts key w.state v.state) any (Is on)
  unfolding react
  closed_by_counts on = record {
    same = λ w. still key w.state;
    then = λ a b c f g. goes_on key a.state b.state c.state f g;
    tells = λ n item w may of. still key w.state;
    dismisses = λ at c w v is found counts. goes_on key w.state v.state _ counts (still key v.state);
    gives = λ errand party at w is here. stands at (Out errand) w.state;
    lets = λ party at w is here. stands at Spent w.state;
    returns = λ party t w is own. stands t.key (Here party) w.state;
    hands = λ w boxes. still key w.state;
    alters = λ at f w is same stays. transacts key w.state (changed (has_key at) f w.state.transactions) (none-changed (has_key key) (has_key at) f w.state.transactions (λ t is none. ap (is_same key) (same t) ∙ none));
    ends = λ at w is. transacts key w.state (without (has_key at) w.state.transactions) (none-without (has_key key) (has_key at) w.state.transactions);
    makes = λ from c w may is found. has_made from c w found;
    changes = λ n f w may same made. changed_at key n f w.state same (to_make_alike key f same made);
    reacts = λ reaction at w plain is. has_reacted key reaction at w.state;
    takes = λ n w may. taken key n w.state;
    displaces = λ at c w v is found counts. goes_on key w.state v.state _ counts (taken key c.number v.state);
  }

-- Events

-- a connection more, with the next number
pub added-counts : (key : Key) (new : ℕ → Connection) (state : State) → ((n : ℕ) → (new n).number ≡ n) → Counts key state (added new (entered state)).state
unfolding added
added-counts key new state is = record { stays = stays; numbered = rising-added (state.head.given + 1) (state.head.given + 1 + 1) state.connections (new (state.head.given + 1)) last (omega arith); made = λ absent. inl absent } where
  last : (new (state.head.given + 1)).number ≡ state.head.given + 1
  last = is (state.head.given + 1)

  stays : IsGiven key state → IsGiven key (added new (entered state)).state
  stays (inl earlier) = inl earlier
  stays (inr here) = let le = here.1 in inr (here.0, omega (arith, le), none-added (is_to_make key) state.connections (new (state.head.given + 1)) here.2 (and_left (has_number key.connection (new (state.head.given + 1))) (nat_lt (new (state.head.given + 1)).made key.number) (grind (arith, nat_tests, le, last))))

-- taking an entry changes neither connections nor transactions
went_in : (key : Key) (state : State) (v : Work) → Counts key (entered state).state v.state → Counts key state v.state
went_in key state v counts = record { stays = λ given. counts.stays given; numbered = λ numbered. counts.numbered numbered; made = λ absent. step (counts.made absent) } where
  step : IsAbsent key v.state ⊎ IsMade key (entered state).state v.state → IsAbsent key v.state ⊎ IsMade key state v.state
  step (inl absent) = inl absent
  step (inr made) = inr (made.0, λ numbered. made.1 numbered)

-- an event that is not taken changes neither
unchanged : (key : Key) (state : State) → Counts key state (entered state).state
unchanged key state = went_in key state (entered state) (still key (entered state).state)

abbrev CountsIn : Key → State → Work → Type 0
CountsIn key state v = Counts key state v.state

opened-counts : (key : Key) (boxes : List Badge) (state : State) → CountsIn key state (opened boxes (entered state))
unfolding opened
opened-counts key boxes state = either (CountsIn key state) (has_place (length boxes) (entered state).state) (added (accepted boxes) (entered state)) (hand_back boxes (refuse Full (entered state))) (added-counts key (accepted boxes) state (λ n. refl)) (unchanged key state)

dial-counts : (key : Key) (address : List ℕ) (purpose : Purpose) (boxes : List Badge) (state : State) → CountsIn key state (dial address purpose boxes (entered state))
unfolding dial
dial-counts key address purpose boxes state = either (CountsIn key state) (has_place (length boxes) (entered state).state) _ (hand_back boxes (refuse Full (entered state))) (added-counts key (dialled address purpose boxes) state (λ n. refl)) (unchanged key state)

others : (key : Key) (event : Event) (state : State) → is_opening event ≡ false → Ends (CountsIn key state) (attempt event (entered state))
others key event state not =
    attempt-goes (λ on w v. Counts key w.state v.state) any (closed_by_counts key) (entered state) (Ends (CountsIn key state)) (from_one (λ on w v. Counts key w.state v.state) (entered state) (CountsIn key state) (λ v counts. went_in key state v counts.1))
    (λ why. unchanged key state) (λ party. unchanged key state) event not
    (λ seat names. each (seated seat (entered state).state))

attempt-counts : (key : Key) (event : Event) (state : State) → Ends (CountsIn key state) (attempt event (entered state))
attempt-counts key event state =
    each_event (λ event. Ends (CountsIn key state) (attempt event (entered state)))
    (λ boxes. opened-counts key boxes state)
    (λ address purpose boxes. dial-counts key address purpose boxes state)
    (λ event not. others key event state not)
    event

went-counts : (key : Key) (state : State) (event : Event) (outcome : Outcome) → CountsIn key state (ordered state (chosen (attempt event (entered state)) outcome))
unfolding ordered
went-counts key state event outcome = chosen_ends (CountsIn key state) (attempt event (entered state)) outcome (attempt-counts key event state)

step-counts : (key : Key) (state : State) (event : Event) (outcome : Outcome) → CountsIn key state (step state event outcome)
step-counts key state event outcome = either (CountsIn key state) (is_open state) _ (frozen event state) (went-counts key state event outcome) (still key state)

pub given_stays : (state : State) (event : Event) (outcome : Outcome) (key : Key) → was_given state key ≡ true → was_given (step state event outcome).state key ≡ true
given_stays state event outcome key was = is_given_so key (step state event outcome).state ((step-counts key state event outcome).stays (is_given key state was))

pub given_later : (old new : State) (key : Key) → old.head.epoch < new.head.epoch → was_given old key ≡ true → was_given new key ≡ true
given_later old new key less was = is_given_so key new (inl (earlier (is_given key old was))) where
  earlier : IsGiven key old → key.epoch < new.head.epoch
  earlier (inl before) = omega (arith, less, before)
  earlier (inr here) = let same = here.0 in omega (arith, less, same)

pub none_numbered : (state : State) → state.connections ≡ [] → are_numbered state ≡ true
none_numbered state none = ap (λ cs. are_rising (numbers_of cs ++ (state.head.given + 1) ∷ [])) none

pub still_rising : (state : State) (event : Event) (outcome : Outcome) → are_numbered state ≡ true → are_numbered (step state event outcome).state ≡ true
still_rising state event outcome numbered = (step-counts (or_any None) state event outcome).numbered numbered

found_new : (key : Key) (old new : State) → Counts key old new → transaction_of key old ≡ None → IsSome (transaction_of key new) → IsMade key old new
found_new key old new counts none some = step (counts.made (sym (find_any (has_key key) old.transactions) ∙ ap is_some none)) where
  step : IsAbsent key new ⊎ IsMade key old new → IsMade key old new
  step (inl absent) = absurd (true≢false (sym some ∙ find_any (has_key key) new.transactions ∙ absent))
  step (inr made) = made

pub new_was_not_given : (state : State) (event : Event) (outcome : Outcome) (key : Key) → transaction_of key state ≡ None → IsSome (transaction_of key (step state event outcome).state) → was_given state key ≡ false
new_was_not_given state event outcome key none some = never (was_given state key) refl where
  never : (b : Bool) → was_given state key ≡ b → b ≡ false
  never true was = absurd ((found_new key state (step state event outcome).state (step-counts key state event outcome) none some).0 (is_given key state was))
  never false was = refl

pub new_is_given : (state : State) (event : Event) (outcome : Outcome) (key : Key) → are_numbered state ≡ true → transaction_of key state ≡ None → IsSome (transaction_of key (step state event outcome).state) → was_given (step state event outcome).state key ≡ true
new_is_given state event outcome key numbered none some = is_given_so key (step state event outcome).state ((found_new key state (step state event outcome).state (step-counts key state event outcome) none some).1 numbered)
