-- A realm's counts stay below its entries: an event takes one entry, and makes at most one transaction, of some one key.
use Rattle.std.proofs.Common.{◌≡◌, ◌<◌, true, false, ℕ, ◌+◌, List, Some, refl, ap, arith, sym, ◌∙◌, subst, ◌⊎◌, inl, inr}
use Rattle.std.specs.Prelude.{length, map}
use Rattle.std.specs.List.{All}
use Rattle.std.proofs.lemmas.List.Elements.{All-map, All-nil, All-push, All-weaker}
use Rattle.std.proofs.lemmas.Option.{same_Some}
use Rattle.tip_branch.specs.declared.branch.Badge.{Badge}
use Rattle.tip_line.specs.declared.refusal.Refusal.TheVariants.{Full}
use Rattle.tip_rows.specs.Keys.{Key}
use Rattle.tip_table.specs.Lists.{changed}
use Rattle.tip_machine.specs.Types.{Connection, Event}
use Rattle.tip_machine.specs.Given.{are_numbered}
use Rattle.tip_machine.specs.Heads.{IsCounted}
use Rattle.tip_machine.specs.Counts.{HasCounts, IsBelow}
use Rattle.tip_machine.specs.Connections.{accepted, dialled, has_number}
use Rattle.tip_machine.specs.Transactions.{next_key}
use Rattle.tip_machine.specs.States.{State, Work, connection_of, has_place, seated, started}
use Rattle.tip_machine.specs.Changes.{refuse}
use Rattle.tip_machine.specs.Commands.{make, making}
use Rattle.tip_machine.specs.Order.{ordered}
use Rattle.tip_machine.specs.Reactions.{Reaction, react, reacted}
use Rattle.tip_machine.specs.Requests.{added, dial, hand_back, opened}
use Rattle.tip_machine.specs.Steps.{attempt, chosen, entered, frozen, is_open, step}
use Rattle.tip_machine.specs.declared.connection.Purpose.{Purpose}
use Rattle.tip_machine.specs.declared.event.Outcome.{Outcome}
use Rattle.tip_machine.specs.declared.head.Head.{Head}
use Rattle.tip_machine.proofs.Walks.{Closed, Ends, Is, chosen_ends, either, from_one}
use Rattle.tip_machine.proofs.AttemptWalks.{attempt-goes, each_event, is_opening}
use Rattle.tip_machine.proofs.Identifiers.{made-reacted, none_numbered, still_rising}
use Rattle.tip_machine.proofs.Keeping.{any, each}
use Rattle.tip_machine.proofs.Lists.{all-changed, all-found, all-without}
use Rattle.tip_machine.proofs.Others.{number-reacted}
use Rattle.tip_machine.proofs.Stepping.{Went, step-went}

abbrev AreBelow : ℕ → Work → Type 0
AreBelow entries w = All (IsBelow entries) w.state.connections

-- a connection of the same counts
below_alike : (entries : ℕ) (c d : Connection) → d.number ≡ c.number → d.made ≡ c.made → IsBelow entries c → IsBelow entries d
below_alike entries c d number made below = record { number = rw number below.number; made = rw made below.made }

-- Rules

module _ (entries : ℕ) where
  -- the event makes the transaction of this key on the connection, or none there
  abbrev IsNear : Key → Connection → Type 0
  IsNear key c = IsBelow entries c ⊎ (IsBelow (entries + 1) c × (c.made ≡ key.number))

  abbrev StayNear : Key → Work → Work → Type 0
  StayNear key w v = All (IsNear key) w.state.connections → All (IsNear key) v.state.connections

  more : (c : Connection) → IsBelow entries c → IsBelow (entries + 1) c
  more c below = let le = below.made in record { number = below.number; made = omega (arith, le) }

  near_below : (key : Key) (c : Connection) → IsNear key c → IsBelow (entries + 1) c
  near_below key c (inl below) = more c below
  near_below key c (inr made) = made.0

  near_alike : (key : Key) (c d : Connection) → d.number ≡ c.number → d.made ≡ c.made → IsNear key c → IsNear key d
  near_alike key c d number made (inl below) = inl (below_alike entries c d number made below)
  near_alike key c d number made (inr now) = inr (below_alike (entries + 1) c d number made now.0, made ∙ now.1)

  -- the transaction of a key is made once
  near_making : (boxes : ℕ) (key at : Key) (c : Connection) → c.made + 1 ≡ key.number → IsNear key c → IsNear key (making boxes at c)
  near_making boxes key at c next (inl below) = let le = below.made in inr (record { number = below.number; made = omega (arith, le) }, next)
  near_making boxes key at c next (inr now) = let made = now.1 in absurd (omega (arith, next, made))

  -- the transaction is made on the connection that was found, whose next key it has
  near_made : (key : Key) (c : Connection) (w : Work) → next_key w.state.head c ≡ key → connection_of c.number w.state ≡ Some c → All (IsNear key) w.state.connections → All (IsNear key) (changed (has_number c.number) (making (length w.state.head.branches) (next_key w.state.head c)) w.state.connections)
  near_made key c w on is =
      let boxes = length w.state.head.branches in
      let next = next_key w.state.head c in
      let number = ap (λ (k : Key). k.number) on in
      all-changed (IsNear key) (has_number c.number) (making boxes next) w.state.connections
      (λ d found. near_making boxes key next d (subst (λ (e : Connection). e.made + 1 ≡ key.number) (same_Some c d (sym is ∙ found)) number))

  near_reacted : (key : Key) (reaction : Reaction) (at : Key) (cs : List Connection) → All (IsNear key) cs → All (IsNear key) (map (λ c. (reacted reaction at c).connection) cs)
  near_reacted key reaction at cs near =
      let become = λ (c : Connection). (reacted reaction at c).connection in
      All-map (IsNear key) become cs (All-weaker (IsNear key) (λ c. IsNear key (become c)) (λ c. near_alike key c (become c) (number-reacted at reaction c) (made-reacted at reaction c)) cs near)

  closed_by_near : (key : Key) → Closed (StayNear key) any (Is key)
  unfolding react make
  closed_by_near key = record {
    same = λ w near. near;
    then = λ a b c f g near. g (f near);
    tells = λ n item w may of near. near;
    dismisses = λ at c w v on found goes near. goes near;
    gives = λ errand party at w on here near. near;
    lets = λ party at w on here near. near;
    returns = λ party t w on own near. near;
    hands = λ w boxes near. near;
    alters = λ at f w on same stands near. near;
    ends = λ at w on near. near;
    makes = λ from c w may on is near. near_made key c w on is near;
    changes = λ n f w may same made near. all-changed (IsNear key) (has_number n) f w.state.connections (λ c found. near_alike key c (f c) (same c) (made c)) near;
    reacts = λ reaction at w plain on near. near_reacted key reaction at w.state.connections near;
    takes = λ n w may near. all-without (IsNear key) (has_number n) w.state.connections near;
    displaces = λ at c w v on found goes near. all-without (IsNear key) (has_number c.number) v.state.connections (goes near);
  }

  -- Events

  still_below : (w : Work) → AreBelow entries w → AreBelow (entries + 1) w
  still_below w = All-weaker (IsBelow entries) (IsBelow (entries + 1)) more w.state.connections

  went_near : (w v : Work) → AreBelow entries w → (key : Key) × StayNear key w v → AreBelow (entries + 1) v
  went_near w v below goes =
      let key = goes.0 in
      let before = All-weaker (IsBelow entries) (IsNear key) (λ c below. inl below) w.state.connections below in
      All-weaker (IsNear key) (IsBelow (entries + 1)) (near_below key) v.state.connections (goes.1 before)

  -- a connection more, on which nothing was made
  added-below : (new : ℕ → Connection) (w : Work) → ((n : ℕ) → (new n).number ≡ n) → ((n : ℕ) → (new n).made ≡ 0) → AreBelow entries w → AreBelow (entries + 1) (added new w)
  unfolding added
  added-below new w number made below =
      let next = w.state.head.given + 1 in
      let is = number next in
      let none = made next in
      All-push (IsBelow (entries + 1)) w.state.connections (new next) (still_below w below) (record { number = omega (arith, is); made = omega (arith, none) })

  opened-below : (boxes : List Badge) (w : Work) → AreBelow entries w → AreBelow (entries + 1) (opened boxes w)
  unfolding opened
  opened-below boxes w below = either (AreBelow (entries + 1)) (has_place (length boxes) w.state) (added (accepted boxes) w) (hand_back boxes (refuse Full w)) (added-below (accepted boxes) w (λ n. refl) (λ n. refl) below) (still_below w below)

  dial-below : (address : List ℕ) (purpose : Purpose) (boxes : List Badge) (w : Work) → AreBelow entries w → AreBelow (entries + 1) (dial address purpose boxes w)
  unfolding dial
  dial-below address purpose boxes w below = either (AreBelow (entries + 1)) (has_place (length boxes) w.state) _ (hand_back boxes (refuse Full w)) (added-below (dialled address purpose boxes) w (λ n. refl) (λ n. refl) below) (still_below w below)

  others : (event : Event) (w : Work) → AreBelow entries w → is_opening event ≡ false → Ends (AreBelow (entries + 1)) (attempt event w)
  others event w below not =
      attempt-goes StayNear any closed_by_near w (Ends (AreBelow (entries + 1))) (from_one StayNear w (AreBelow (entries + 1)) (λ v goes. went_near w v below goes))
      (λ why. still_below w below) (λ party. still_below w below) event not
      (λ seat names. each (seated seat w.state))

  attempt-below : (event : Event) (w : Work) → AreBelow entries w → Ends (AreBelow (entries + 1)) (attempt event w)
  attempt-below event w below =
      each_event (λ event. Ends (AreBelow (entries + 1)) (attempt event w))
      (λ boxes. opened-below boxes w below)
      (λ address purpose boxes. dial-below address purpose boxes w below)
      (λ event not. others event w below not)
      event

-- Steps

went-counts : (state : State) (v : Work) → HasCounts state → Went (entered state) v → AreBelow (state.head.entries + 1) v → are_numbered v.state ≡ true → HasCounts v.state
went-counts state v counts (inl goes) below numbered = let le = counts.given in record { epoch = rw goes.head counts.epoch; given = rw goes.head (omega (arith, le)); connections = rw goes.head below; numbered = numbered }
went-counts state v counts (inr opens) below numbered = let le = counts.given in record { epoch = rw opens.head counts.epoch; given = rw opens.head (omega (arith, le)); connections = rw opens.head below; numbered = numbered }

entered-counts : (state : State) (event : Event) (outcome : Outcome) → HasCounts state → are_numbered (ordered state (chosen (attempt event (entered state)) outcome)).state ≡ true → HasCounts (ordered state (chosen (attempt event (entered state)) outcome)).state
unfolding ordered
entered-counts state event outcome counts numbered =
    let entries = state.head.entries in
    let tried = attempt event (entered state) in
    went-counts state (ordered state (chosen tried outcome)) counts (step-went state event outcome) (chosen_ends (AreBelow (entries + 1)) tried outcome (attempt-below entries event (entered state) counts.connections)) numbered

pub counts_stay : (state : State) (event : Event) (outcome : Outcome) → HasCounts state → HasCounts (step state event outcome).state
counts_stay state event outcome counts = either (λ w. are_numbered w.state ≡ true → HasCounts w.state) (is_open state) _ (frozen event state) (entered-counts state event outcome counts) (λ numbered. counts) (still_rising state event outcome counts.numbered)

pub counts_start : (head : Head) → 0 < head.epoch → IsCounted head → HasCounts (started head)
counts_start head epoch given = record { epoch = epoch; given = given; connections = All-nil (IsBelow head.entries); numbered = none_numbered (started head) refl }

-- Connections that were found

pub found_below : (number : ℕ) (state : State) (connection : Connection) → HasCounts state → connection_of number state ≡ Some connection → IsBelow state.head.entries connection
found_below number state connection counts is = all-found (IsBelow state.head.entries) (has_number number) state.connections connection is counts.connections

-- the entry that the event took is there for a transaction
pub entered_below : (number : ℕ) (state : State) (connection : Connection) → HasCounts state → connection_of number (entered state).state ≡ Some connection → (connection.made < (entered state).state.head.entries) × (0 < connection.number)
entered_below number state connection counts is = let below = found_below number state connection counts is in let le = below.made in (omega (arith, le), below.number)
