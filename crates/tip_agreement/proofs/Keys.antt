-- Numbers rise, and keys stay apart and given, at each step.
use Rattle.std.proofs.Common.{◌≡◌, Bool, true, false, ℕ, List, [], ◌∷◌, ◌++◌, Some, cond, refl, ap, sym, subst, arith}
use Rattle.std.specs.Prelude.{not, map, length, take}
use Rattle.std.specs.List.{list_all, list_any}
use Rattle.std.proofs.lemmas.Bool.{and_from, and_parts, not-true, not_from_false, or_from, or_parts}
use Rattle.std.proofs.lemmas.Bool.Decides.{nat_tests}
use Rattle.tip_branch.specs.declared.branch.Badge.{Badge}
use Rattle.tip_rows.specs.Keys.{Key, is_same}
use Rattle.tip_rows.proofs.OrderLemmas.{same_key}
use Rattle.tip_table.specs.Lists.{changed, without}
use Rattle.tip_machine.specs.Changes.{refuse}
use Rattle.tip_machine.specs.Commands.{make}
use Rattle.tip_machine.specs.Connections.{accepted, dialled}
use Rattle.tip_machine.specs.Given.{are_numbered, was_given}
use Rattle.tip_machine.specs.Invariants.{are_keyed}
use Rattle.tip_machine.specs.Invariants.Links.{are_distinct}
use Rattle.tip_machine.specs.Order.{ordered}
use Rattle.tip_machine.specs.Reactions.{react}
use Rattle.tip_machine.specs.Requests.{added, dial, hand_back, opened}
use Rattle.tip_machine.specs.States.{State, Work, connection_of, has_place, seated}
use Rattle.tip_machine.specs.Steps.{attempt, chosen, entered, frozen, is_open, step}
use Rattle.tip_machine.specs.Transactions.{begun, has_key, next_key, standing_at}
use Rattle.tip_machine.specs.Types.{Connection, Event, Transaction}
use Rattle.tip_machine.specs.declared.event.Outcome.{Outcome}
use Rattle.tip_machine.specs.declared.transaction.Origin.{Origin}
use Rattle.tip_machine.specs.declared.transaction.PartyPlace.TheVariants.{Here, Out, Spent}
use Rattle.tip_line.specs.declared.refusal.Refusal.TheVariants.{Full}
use Rattle.tip_machine.specs.declared.connection.Purpose.{Purpose}
use Rattle.tip_machine.proofs.AttemptWalks.{attempt-goes, each_event, is_opening}
use Rattle.tip_machine.proofs.Identifiers.{Counts, IsGiven, closed_by_counts, given_then, is_given, is_given_so, not_given, added-counts}
use Rattle.tip_machine.proofs.Keeping.{any, each, may}
use Rattle.tip_machine.proofs.Walks.{Closed, Ends, Is, chosen_ends, either, from_one}
use Rattle.tip_agreement.proofs.Apart.{all_added, all_changed, all_more, all_without}

abbrev pub keys_of : List Transaction → List Key
keys_of ts = map (λ (t : Transaction). t.key) ts

abbrev pub are_given : State → List Transaction → Bool
are_given s ts = list_all (λ (t : Transaction). was_given s t.key) ts

-- numbers rise, and keys are apart and were given
record Keyed (s : State) : Type 0 where
  numbered : are_numbered s ≡ true
  apart : are_distinct is_same (keys_of s.transactions) ≡ true
  given : are_given s s.transactions ≡ true

pub key_self : (key : Key) → is_same key key ≡ true
key_self key = grind (arith, nat_tests)

-- Lists of keys

pub keys_changed : (test : Transaction → Bool) (f : Transaction → Transaction) (ts : List Transaction) → ((t : Transaction) → (f t).key ≡ t.key) → keys_of (changed test f ts) ≡ keys_of ts
keys_changed test f [] same = refl
keys_changed test f (t ∷ ts) same = step (test t) (keys_changed test f ts same) where
  step : (b : Bool) → keys_of (changed test f ts) ≡ keys_of ts → keys_of (cond b (f t ∷ ts) (t ∷ changed test f ts)) ≡ t.key ∷ keys_of ts
  step true rest = ap (λ k. k ∷ keys_of ts) (same t)
  step false rest = ap (λ ks. t.key ∷ ks) rest

none_without : (key : Key) (test : Transaction → Bool) (ts : List Transaction) → list_any (is_same key) (keys_of ts) ≡ false → list_any (is_same key) (keys_of (without test ts)) ≡ false
none_without key test [] none = refl
none_without key test (t ∷ ts) none = let parts = or_parts (is_same key t.key) _ none in step (test t) parts.0 parts.1 (none_without key test ts parts.1) where
  step : (b : Bool) → is_same key t.key ≡ false → list_any (is_same key) (keys_of ts) ≡ false → list_any (is_same key) (keys_of (without test ts)) ≡ false → list_any (is_same key) (keys_of (cond b ts (t ∷ without test ts))) ≡ false
  step true first rest later = rest
  step false first rest later = or_from _ _ first later

pub apart_without : (test : Transaction → Bool) (ts : List Transaction) → are_distinct is_same (keys_of ts) ≡ true → are_distinct is_same (keys_of (without test ts)) ≡ true
apart_without test [] apart = refl
apart_without test (t ∷ ts) apart = let parts = and_parts _ (are_distinct is_same (keys_of ts)) apart in step (test t) (none_without t.key test ts (not-true _ parts.0)) parts.1 (apart_without test ts parts.1) where
  step : (b : Bool) → list_any (is_same t.key) (keys_of (without test ts)) ≡ false → are_distinct is_same (keys_of ts) ≡ true → are_distinct is_same (keys_of (without test ts)) ≡ true → are_distinct is_same (keys_of (cond b ts (t ∷ without test ts))) ≡ true
  step true none rest later = rest
  step false none rest later = and_from _ _ (not_from_false _ none) later

none_added : (key : Key) (ts : List Transaction) (t : Transaction) → list_any (is_same key) (keys_of ts) ≡ false → is_same key t.key ≡ false → list_any (is_same key) (keys_of (ts ++ t ∷ [])) ≡ false
none_added key [] t none differs = or_from _ _ differs refl
none_added key (u ∷ ts) t none differs = let parts = or_parts (is_same key u.key) _ none in or_from _ _ parts.0 (none_added key ts t parts.1 differs)

pub apart_added : (ts : List Transaction) (t : Transaction) → are_distinct is_same (keys_of ts) ≡ true → list_all (λ (u : Transaction). not (is_same u.key t.key)) ts ≡ true → are_distinct is_same (keys_of (ts ++ t ∷ [])) ≡ true
apart_added [] t apart differ = refl
apart_added (u ∷ ts) t apart differ =
    let parts = and_parts _ (are_distinct is_same (keys_of ts)) apart in
    let others = and_parts (not (is_same u.key t.key)) _ differ in
    and_from _ _ (not_from_false _ (none_added u.key ts t (not-true _ parts.0) (not-true _ others.0))) (apart_added ts t parts.1 others.1)

-- Each single change

given_still : (old new : State) (ts : List Transaction) → ((key : Key) → Counts key old new) → are_given old ts ≡ true → are_given new ts ≡ true
given_still old new ts counts given = all_more _ _ ts (λ t is. is_given_so t.key new ((counts t.key).stays (is_given t.key old is))) given

-- transactions stay
stays : (old new : State) → new.transactions ≡ old.transactions → ((key : Key) → Counts key old new) → Keyed old → Keyed new
stays old new same counts keyed = record {
  numbered = (counts (record { epoch = 0; connection = 0; number = 0 })).numbered keyed.numbered;
  apart = rw same keyed.apart;
  given = rw same (given_still old new old.transactions counts keyed.given);
}

alters : (at : Key) (f : Transaction → Transaction) (s : State) → ((t : Transaction) → (f t).key ≡ t.key) → Keyed s → Keyed (record s { transactions = changed (has_key at) f s.transactions })
alters at f s same keyed = record {
  numbered = keyed.numbered;
  apart = rw (keys_changed (has_key at) f s.transactions same) keyed.apart;
  given = all_changed (λ (t : Transaction). was_given s t.key) (has_key at) f s.transactions (λ t is given. subst (λ k. was_given s k ≡ true) (sym (same t)) given) keyed.given;
}

ends : (at : Key) (s : State) → Keyed s → Keyed (record s { transactions = without (has_key at) s.transactions })
ends at s keyed = record {
  numbered = keyed.numbered;
  apart = apart_without (has_key at) s.transactions keyed.apart;
  given = all_without _ (has_key at) s.transactions keyed.given;
}

-- the next key is none of those that were given
pub next_apart : (c : Connection) (s : State) (key : Key) → connection_of c.number s ≡ Some c → was_given s key ≡ true → not (is_same key (next_key s.head c)) ≡ true
next_apart c s key found given = step (is_same key (next_key s.head c)) refl where
  step : (b : Bool) → is_same key (next_key s.head c) ≡ b → not b ≡ true
  step false differs = refl
  step true same = absurd (not_given c s found (subst (λ k. IsGiven k s) (same_key key (next_key s.head c) same) (is_given key s given)))

abbrev StaysKeyed : Work → Work → Type 0
StaysKeyed w v = Keyed w.state → Keyed v.state

-- what is counted of the connections where a transaction is made, and of the new transaction
makes : (on : Key) (from : Origin) (c : Connection) (w : Work) → any c.number → next_key w.state.head c ≡ on → connection_of c.number w.state ≡ Some c → StaysKeyed w (make from c w)
unfolding make
makes on from c w may is found keyed =
    let next = next_key w.state.head c in
    let new = begun w.state.head next from (take (length w.state.head.branches) c.boxes) in
    let v = make from c w in
    let counts = λ (key : Key). (closed_by_counts key on).makes from c w may is found in
    let given = given_still w.state v.state w.state.transactions counts keyed.given in
    record {
      numbered = (counts next).numbered keyed.numbered;
      apart = apart_added w.state.transactions new keyed.apart (all_more _ _ w.state.transactions (λ t is. next_apart c w.state t.key found is) keyed.given);
      given = all_added _ w.state.transactions new given (is_given_so next v.state (given_then (length w.state.head.branches) c w.state found keyed.numbered));
    }

closed_by_keyed : (on : Key) → Closed StaysKeyed any (Is on)
unfolding react
closed_by_keyed on = record {
  same = λ w keyed. keyed;
  then = λ a b c f g keyed. g (f keyed);
  tells = λ n item w may of. stays w.state w.state refl (λ key. (closed_by_counts key on).same w);
  dismisses = λ at c w v is found keeps keyed. stays v.state v.state refl (λ key. (closed_by_counts key on).same v) (keeps keyed);
  gives = λ errand party at w is here. alters at (standing_at (Out errand)) w.state (λ t. refl);
  lets = λ party at w is here. alters at (standing_at Spent) w.state (λ t. refl);
  returns = λ party t w is own. alters t.key (standing_at (Here party)) w.state (λ t. refl);
  hands = λ w boxes keyed. keyed;
  alters = λ at f w is same stands. alters at f w.state same;
  ends = λ at w is. ends at w.state;
  makes = λ from c w may is found. makes on from c w may is found;
  changes = λ n f w may same made. stays w.state _ refl (λ key. (closed_by_counts key on).changes n f w may same made);
  reacts = λ reaction at w plain is. stays w.state _ refl (λ key. (closed_by_counts key on).reacts reaction at w plain is);
  takes = λ n w may. stays w.state _ refl (λ key. (closed_by_counts key on).takes n w may);
  displaces = λ at c w v is found keeps keyed. stays v.state _ refl (λ key. (closed_by_counts key on).takes c.number v (may c.number)) (keeps keyed);
}

-- Events

abbrev KeyedFrom : State → Work → Type 0
KeyedFrom state v = Keyed state → Keyed v.state

-- taking an entry changes nothing here
entered_keyed : (state : State) → KeyedFrom state (entered state)
entered_keyed state keyed = record { numbered = keyed.numbered; apart = keyed.apart; given = keyed.given }

added-keyed : (new : ℕ → Connection) (state : State) → ((n : ℕ) → (new n).number ≡ n) → KeyedFrom state (added new (entered state))
unfolding added
added-keyed new state is = stays state (added new (entered state)).state refl (λ key. added-counts key new state is)

opened-keyed : (boxes : List Badge) (state : State) → KeyedFrom state (opened boxes (entered state))
unfolding opened
opened-keyed boxes state = either (KeyedFrom state) (has_place (length boxes) (entered state).state) (added (accepted boxes) (entered state)) (hand_back boxes (refuse Full (entered state))) (added-keyed (accepted boxes) state (λ n. refl)) (entered_keyed state)

dial-keyed : (address : List ℕ) (purpose : Purpose) (boxes : List Badge) (state : State) → KeyedFrom state (dial address purpose boxes (entered state))
unfolding dial
dial-keyed address purpose boxes state = either (KeyedFrom state) (has_place (length boxes) (entered state).state) _ (hand_back boxes (refuse Full (entered state))) (added-keyed (dialled address purpose boxes) state (λ n. refl)) (entered_keyed state)

others : (event : Event) (state : State) → is_opening event ≡ false → Ends (KeyedFrom state) (attempt event (entered state))
others event state not =
    attempt-goes (λ on. StaysKeyed) any closed_by_keyed (entered state) (Ends (KeyedFrom state)) (from_one (λ on. StaysKeyed) (entered state) (KeyedFrom state) (λ v keeps keyed. keeps.1 (entered_keyed state keyed)))
    (λ why. entered_keyed state) (λ party. entered_keyed state) event not
    (λ seat names. each (seated seat (entered state).state))

attempt-keyed : (event : Event) (state : State) → Ends (KeyedFrom state) (attempt event (entered state))
attempt-keyed event state =
    each_event (λ event. Ends (KeyedFrom state) (attempt event (entered state)))
    (λ boxes. opened-keyed boxes state)
    (λ address purpose boxes. dial-keyed address purpose boxes state)
    (λ event not. others event state not)
    event

went-keyed : (state : State) (event : Event) (outcome : Outcome) → KeyedFrom state (ordered state (chosen (attempt event (entered state)) outcome))
unfolding ordered
went-keyed state event outcome = chosen_ends (KeyedFrom state) (attempt event (entered state)) outcome (attempt-keyed event state)

step-keyed : (state : State) (event : Event) (outcome : Outcome) → KeyedFrom state (step state event outcome)
step-keyed state event outcome = either (KeyedFrom state) (is_open state) _ (frozen event state) (went-keyed state event outcome) (λ keyed. keyed)

pub keys_kept : (state : State) (event : Event) (outcome : Outcome) → are_numbered state ≡ true → are_keyed state ≡ true → are_keyed (step state event outcome).state ≡ true
keys_kept state event outcome numbered keyed =
    let parts = and_parts (are_distinct is_same (keys_of state.transactions)) (are_given state state.transactions) keyed in
    let kept = step-keyed state event outcome (record { numbered = numbered; apart = parts.0; given = parts.1 }) in
    and_from _ _ kept.apart kept.given
