-- What an event needs is counted on the tables.
use Rattle.std.proofs.Common.{◌≡◌, ◌≢◌, ◌<◌, ◌+◌, ◌==◌, ℕ, List, [], ◌∷◌, Bool, true, false, cond, Option, Some, None, inl, inr, map, refl, ap, arith, subst, sym, ◌∙◌}
use Rattle.std.specs.Prelude.{find, option_map}
use Rattle.std.specs.Option.{option_and_then}
use Rattle.std.proofs.lemmas.Bool.{cases_eq}
use Rattle.std.proofs.lemmas.Bool.Decides.{nat_tests}
use Rattle.std.proofs.lemmas.Option.{none-some, same_Some}
use Rattle.tip_branch.specs.Notes.{PartyNotes}
use Rattle.tip_rows.specs.Keys.{Key}
use Rattle.tip_table.specs.Kept.{StandsAt, item_at, of, with_item_at}
use Rattle.tip_table.specs.Lists.{changed}
use Rattle.tip_table.proofs.Standing.{write, write_others}
use Rattle.tip_table.proofs.Standing.{found as found_first}
use Rattle.tip_machine.specs.Connections.{has_number}
use Rattle.tip_machine.specs.Counts.{HasCounts}
use Rattle.tip_machine.specs.Requests.{owner}
use Rattle.tip_machine.specs.States.{connection_of, has_room, seated, transaction_of}
use Rattle.tip_machine.specs.declared.event.Seat.{Seat}
use Rattle.tip_machine.specs.Steps.{is_open}
use Rattle.tip_machine.specs.Transactions.{has_key, next_key}
use Rattle.tip_machine.specs.Types.{Connection, Event, Transaction, seen}
use Rattle.tip_rules.proofs.Beginnings.{standing_number}
use Rattle.tip_rules.proofs.Openings.{first_found}
use Rattle.tip_rules.proofs.Outcomes.{key_is}
use Rattle.tip_rules.proofs.Works.{find-seen}
use Rattle.tip_machine.proofs.Counting.{entered_below}
use Rattle.tip_machine.proofs.Walks.{found-number}
use Rattle.tip_rules.specs.Growing.{CanGrow}
use Rattle.tip_machine.specs.declared.event.Event.TheVariants.{AskPull, AskPush, Dial, Line, Lost, Open, Resume, Settled, Voted}
use Rattle.tip_rules.specs.Needs.{MayJoin, begins, begins_on, joined_by, number_in, own_of, room_needed, room_on}
use Rattle.tip_rules.specs.Rooms.{TransactionRoom, room_for}
use Rattle.tip_outlook.specs.Searches.{HeldTransaction, is_keyed, is_named}
use Rattle.tip_rules.specs.Works.{Held, lines_for, lines_of, work_of}

-- where the transaction of a key stands, it is open
pub keyed_there : (held : Held) (key : Key) (place : ℕ) → StandsAt held.transactions held.realm (is_keyed key) place → (t : Transaction) × (transaction_of key (work_of held).state ≡ Some t)
keyed_there held key place here = step (find (is_keyed key) (of held.transactions held.realm)) refl where
  step : (found : Option HeldTransaction) → find (is_keyed key) (of held.transactions held.realm) ≡ found → (t : Transaction) × (transaction_of key (work_of held).state ≡ Some t)
  step None none = absurd (first_found (is_keyed key) (of held.transactions held.realm) here.at here.first none)
  step (Some item) is = (seen item, find-seen seen (has_key key) (of held.transactions held.realm) ∙ ap (option_map seen) is)

pub lines_with_owner : (held : Held) (party : PartyNotes) (key : Key) (place : ℕ) → StandsAt held.transactions held.realm (is_keyed key) place → owner party (work_of held).state ≡ transaction_of key (work_of held).state → (lines : ℕ) → lines ≡ lines_for key (work_of held).state → lines ≡ lines_of (owner party (work_of held).state) (work_of held).state
lines_with_owner held party key place here same lines is =
    let found = keyed_there held key place here in
    is ∙ ap (λ k. lines_for k (work_of held).state) (key_is held key found.0 found.1) ∙ sym (ap (λ o. lines_of o (work_of held).state) (same ∙ found.1))

-- Where a part more may join

module _ (old : Held) (place : ℕ) (id : List ℕ) (item value : HeldTransaction) (here : StandsAt old.transactions old.realm (is_named (work_of old).state.head.name id) place) (is : item_at old.transactions place ≡ Some item) (same : value ≡ record item { txn = record item.txn { spare = value.txn.spare } }) where
  changed_alike : (ts : List HeldTransaction) → find (is_named (work_of old).state.head.name id) ts ≡ Some item → (map seen (changed (is_named (work_of old).state.head.name id) (λ _. value) ts) ≡ map seen ts) × (find (is_named (work_of old).state.head.name id) (changed (is_named (work_of old).state.head.name id) (λ _. value) ts) ≡ Some value)
  changed_alike [] found = absurd (none-some item found)
  changed_alike (t ∷ ts) found = step (is_named (work_of old).state.head.name id t) refl found (λ later. changed_alike ts later) where
    step : (this : Bool) → is_named (work_of old).state.head.name id t ≡ this → cond this (Some t) (find (is_named (work_of old).state.head.name id) ts) ≡ Some item →
        (find (is_named (work_of old).state.head.name id) ts ≡ Some item → (map seen (changed (is_named (work_of old).state.head.name id) (λ _. value) ts) ≡ map seen ts) × (find (is_named (work_of old).state.head.name id) (changed (is_named (work_of old).state.head.name id) (λ _. value) ts) ≡ Some value)) →
        (map seen (cond this (value ∷ ts) (t ∷ changed (is_named (work_of old).state.head.name id) (λ _. value) ts)) ≡ map seen (t ∷ ts)) × (find (is_named (work_of old).state.head.name id) (cond this (value ∷ ts) (t ∷ changed (is_named (work_of old).state.head.name id) (λ _. value) ts)) ≡ Some value)
    step true named at later =
        let own : t ≡ item = same_Some t item at in (
          ap (λ (u : HeldTransaction). seen u ∷ map seen ts) same ∙ ap (λ (u : HeldTransaction). seen u ∷ map seen ts) (sym own),
          ap (λ b. cond b (Some value) (find (is_named (work_of old).state.head.name id) ts)) (ap (λ (u : HeldTransaction). is_named (work_of old).state.head.name id u) same ∙ ap (λ (u : HeldTransaction). is_named (work_of old).state.head.name id u) (sym own) ∙ named),
        )
    step false named at later = let rest = later at in (ap (λ us. seen t ∷ us) rest.0, ap (λ b. cond b (Some t) (find (is_named (work_of old).state.head.name id) (changed (is_named (work_of old).state.head.name id) (λ _. value) ts))) named ∙ rest.1)

  own_list : of (with_item_at old.transactions place value) old.realm ≡ changed (is_named (work_of old).state.head.name id) (λ _. value) (of old.transactions old.realm)
  own_list = write old.transactions old.realm (is_named (work_of old).state.head.name id) (λ _. value) place item value here is refl

  own_alike : (map seen (changed (is_named (work_of old).state.head.name id) (λ _. value) (of old.transactions old.realm)) ≡ map seen (of old.transactions old.realm)) × (find (is_named (work_of old).state.head.name id) (changed (is_named (work_of old).state.head.name id) (λ _. value) (of old.transactions old.realm)) ≡ Some value)
  own_alike = changed_alike (of old.transactions old.realm) (found_first old.transactions old.realm (is_named (work_of old).state.head.name id) place here ∙ is)

  pub grown_seen : (realm : ℕ) → map seen (of (with_item_at old.transactions place value) realm) ≡ map seen (of old.transactions realm)
  grown_seen realm = elim (cases_eq realm old.realm) [
    | inl at ↦ subst (λ r. map seen (of (with_item_at old.transactions place value) r) ≡ map seen (of old.transactions r)) (sym at) (ap (map seen) own_list ∙ own_alike.0)
    | inr differ ↦ ap (map seen) (write_others old.transactions place value realm (record { realm = old.realm; at = here.at }) here.there (λ at. differ (sym at)))
  ]

  pub grown_room : 0 < value.txn.spare → CanGrow (work_of old).state.head.name id (of (with_item_at old.transactions place value) old.realm)
  grown_room room transaction found = subst (λ (t : HeldTransaction). 0 < t.txn.spare) (same_Some value transaction (sym own_alike.1 ∙ sym (ap (find (is_named (work_of old).state.head.name id)) own_list) ∙ found)) room

pub grown_nowhere : (held : Held) (id : List ℕ) → find (is_named (work_of held).state.head.name id) (of held.transactions held.realm) ≡ None → CanGrow (work_of held).state.head.name id (of held.transactions held.realm)
grown_nowhere held id none transaction found = absurd (none-some transaction (sym none ∙ found))

pub grown_part : (event : Event) (realm id : List ℕ) (transactions : List HeldTransaction) → joined_by event ≡ Some id → CanGrow realm id transactions → MayJoin event realm transactions
grown_part event realm id transactions is grows other also = subst (λ i. CanGrow realm i transactions) (same_Some id other (sym is ∙ also)) grows

pub ruleset growing = (grown_nowhere)

-- The connection that an event comes on

module _ (held : Held) (event : Event) where
  own_so : (number : Option ℕ) → number_in event ≡ number → own_of event (work_of held).state ≡ option_and_then (λ n. connection_of n (work_of held).state) number
  own_so number is = ap (option_and_then (λ n. connection_of n (work_of held).state)) is

  pub own_none : None ≡ number_in event → None ≡ own_of event (work_of held).state
  own_none none = sym (own_so None (sym none))

  pub own_nowhere : (number : ℕ) → Some number ≡ number_in event → connection_of number (work_of held).state ≡ None → None ≡ own_of event (work_of held).state
  own_nowhere number is none = sym (own_so (Some number) (sym is) ∙ none)

  pub own_there : (number place : ℕ) (item : Connection) → Some number ≡ number_in event → StandsAt held.connections held.realm (has_number number) place → item_at held.connections place ≡ Some item → Some item ≡ own_of event (work_of held).state
  own_there number place item is here at = sym (own_so (Some number) (sym is) ∙ standing_number held number place item here at)

pub ruleset owning = (own_none, own_nowhere, own_there)

-- it is the one of a seat of this start
module _ (held : Held) (seat : Seat) where
  pub seat_own : (own : Option Connection) → own ≡ connection_of seat.number (work_of held).state → seat.epoch ≡ (work_of held).state.head.epoch → own ≡ seated seat (work_of held).state
  seat_own own same at = same ∙ sym (ap (λ b. cond b (connection_of seat.number (work_of held).state) None) (let is : (seat.epoch == (work_of held).state.head.epoch) ≡ true = grind (arith, nat_tests, at) in is))

  pub seat_other : seat.epoch ≢ (work_of held).state.head.epoch → None ≡ seated seat (work_of held).state
  seat_other differ = sym (ap (λ b. cond b (connection_of seat.number (work_of held).state) None) (let is : (seat.epoch == (work_of held).state.head.epoch) ≡ false = grind (arith, nat_tests, differ) in is))

pub ruleset seating = (seat_own, seat_other)

-- it is the one on which a transaction may begin
begun_on : (event : Event) (number : ℕ) → begins_on event ≡ Some number → number_in event ≡ Some number
begun_on (Open boxes) number is = absurd (none-some number is)
begun_on (Dial address purpose boxes) number is = absurd (none-some number is)
begun_on (Line seat heard) number is = step (begins heard) is where
  step : (b : Bool) → cond b (Some seat.number) None ≡ Some number → Some seat.number ≡ Some number
  step true at = at
  step false at = absurd (none-some number at)
begun_on (Voted party) number is = absurd (none-some number is)
begun_on (Settled party) number is = absurd (none-some number is)
begun_on (Lost seat) number is = absurd (none-some number is)
begun_on (AskPush seat id) number is = absurd (none-some number is)
begun_on (AskPull seat superior) number is = is
begun_on (Resume id) number is = absurd (none-some number is)

pub begun_own : (held : Held) (event : Event) (number : ℕ) → begins_on event ≡ Some number → (own : Option Connection) → own ≡ own_of event (work_of held).state → connection_of number (work_of held).state ≡ own
begun_own held event number is own same = sym (own_so held event (Some number) (begun_on event number is)) ∙ sym same

-- A transaction that may begin

module _ (held : Held) (counts : HasCounts (work_of held).state) (number place : ℕ) (item : Connection) (here : connection_of number (work_of held).state ≡ Some item) where
  pub numbered_there : 0 < number
  numbered_there = subst (λ n. 0 < n) (found-number number (work_of held).state.connections item here) (entered_below number (work_of held).state item counts here).1

  pub made_there : is_open (work_of held).state ≡ true → item.made < (work_of held).state.head.limits.entries
  made_there open_is =
      let below = (entered_below number (work_of held).state item counts here).0 in
      let less : (work_of held).state.head.entries < (work_of held).state.head.limits.entries = grind (arith, nat_tests, open_is) in
      omega (arith, below, less)

module _ (held : Held) (event : Event) (number : ℕ) (begins : begins_on event ≡ Some number) where
  pub needed_nowhere : connection_of number (work_of held).state ≡ None → None ≡ room_needed event (work_of held).state
  needed_nowhere none = sym (ap (λ o. option_and_then (λ n. room_on n (work_of held).state) o) begins ∙ ap (λ o. option_and_then (λ c. cond (has_room c (work_of held).state) (Some (room_for (work_of held).state.head (next_key (work_of held).state.head c))) None) o) none)

  module _ (item : Connection) (here : connection_of number (work_of held).state ≡ Some item) where
    needed_so : (room : Bool) → has_room item (work_of held).state ≡ room → room_needed event (work_of held).state ≡ cond room (Some (room_for (work_of held).state.head (next_key (work_of held).state.head item))) None
    needed_so room is =
        ap (λ o. option_and_then (λ n. room_on n (work_of held).state) o) begins
        ∙ ap (λ o. option_and_then (λ c. cond (has_room c (work_of held).state) (Some (room_for (work_of held).state.head (next_key (work_of held).state.head c))) None) o) here
        ∙ ap (λ b. cond b (Some (room_for (work_of held).state.head (next_key (work_of held).state.head item))) None) is

    pub needed_full : has_room item (work_of held).state ≡ false → None ≡ room_needed event (work_of held).state
    needed_full is = sym (needed_so false is)

    pub needed_there : has_room item (work_of held).state ≡ true → (key : Key) → key ≡ record { epoch = (work_of held).state.head.epoch; connection = number; number = item.made + 1 } → (room : TransactionRoom) → room ≡ room_for (work_of held).state.head key → Some room ≡ room_needed event (work_of held).state
    needed_there is key next room made =
        ap Some (made ∙ ap (room_for (work_of held).state.head) (next ∙ ap (λ n. record { epoch = (work_of held).state.head.epoch; connection = n; number = item.made + 1 }) (sym (found-number number (work_of held).state.connections item here))))
        ∙ sym (needed_so true is)

pub needed_none : (held : Held) (event : Event) → begins_on event ≡ None → None ≡ room_needed event (work_of held).state
needed_none held event none = sym (ap (λ o. option_and_then (λ n. room_on n (work_of held).state) o) none)

pub ruleset beginning = (begun_own, numbered_there, made_there, needed_nowhere, needed_full, needed_there, needed_none)

pub ruleset counting = (lines_with_owner)
