-- The tables between two events.
use Rattle.std.proofs.Common.{◌≡◌, ◌≢◌, ℕ, ◌<◌, Bool, true, false, cond, not, List, Option, Some, None, length, ap, arith, sym, subst, ◌∙◌, inl, inr}
use Rattle.std.specs.Global.{Vec}
use Rattle.std.specs.Prelude.{◌==◌, find, map, slice_index_or}
use Rattle.std.specs.Option.{option_and_then}
use Rattle.std.proofs.lemmas.Bool.{cases_eq}
use Rattle.std.proofs.lemmas.Bool.Decides.{nat_tests}
use Rattle.std.proofs.lemmas.Option.{same_Some, slice_get-get_or}
use Rattle.tip_branch.specs.Notes.{PartyNotes}
use Rattle.tip_rows.specs.Keys.{Key}
use Rattle.tip_table.specs.Kept.{Kept, StandsAt, item_at, of}
use Rattle.tip_table.proofs.Standing.{found as found_first}
use Rattle.tip_machine.specs.Connections.{has_number, key_of, key_queried, may_take}
use Rattle.tip_machine.specs.Order.{key_found, key_on}
use Rattle.tip_machine.specs.Requests.{may_take_on, must_wait_on, owner}
use Rattle.tip_machine.specs.States.{State, connection_of, identified_by, seated}
use Rattle.tip_machine.specs.Transactions.{has_id}
use Rattle.tip_machine.specs.Types.{Connection, Transaction, seen}
use Rattle.tip_machine.specs.declared.event.Outcome.{Outcome}
use Rattle.tip_machine.specs.declared.event.Seat.{Seat}
use Rattle.tip_machine.specs.declared.head.Head.{Head}
use Rattle.tip_rules.specs.Standing.{standing_of, standing_on}
use Rattle.tip_outlook.specs.Searches.{HeldTransaction}
use Rattle.tip_rules.specs.Makings.{Made}
use Rattle.tip_outlook.specs.declared.next.Endings.{Endings}
use Rattle.tip_rules.specs.Works.{Held, Realms, Tables, connected, no_head, state_in, state_of, tables_in, working}
use Rattle.tip_rules.specs.declared.standing.Standing.{Standing}
use Rattle.tip_rules.specs.declared.standing.Standing.TheVariants.{Gone}

-- the head of a realm
head_of : (realms : Realms) (realm : ℕ) (head : Head) → realm < length realms.heads.items → head ≡ slice_index_or realms.heads.items realm head → head ≡ (state_in realm realms).head
head_of realms realm head inside is = is ∙ same_Some (slice_index_or realms.heads.items realm head) (slice_index_or realms.heads.items realm no_head) (sym (slice_get-get_or realms.heads.items realm head inside) ∙ slice_get-get_or realms.heads.items realm no_head inside)

module _ (realms : Realms) (realm : ℕ) (head : Head) (inside : realm < length realms.heads.items) (is : head ≡ slice_index_or realms.heads.items realm head) where
  pub identified_there : (transactions : Kept HeldTransaction) → transactions ≡ (tables_in realm realms).transactions → (id : List ℕ) (key : Option Key) → key ≡ key_found (find (has_id head.name id) (map seen (of transactions realm))) → key ≡ key_found (identified_by id (state_in realm realms))
  identified_there transactions are id key so =
      so ∙ ap (λ (t : Kept HeldTransaction). key_found (find (has_id head.name id) (map seen (of t realm)))) are
      ∙ ap (λ (h : Head). key_found (find (has_id h.name id) (map seen (of (tables_in realm realms).transactions realm)))) (head_of realms realm head inside is)

  pub owned_there : (party : PartyNotes) (key : Option Key) → party.epoch ≡ head.epoch → key ≡ key_found (identified_by party.id (state_in realm realms)) → key ≡ key_found (owner party (state_in realm realms))
  owned_there party key equal so =
      let same : head.epoch ≡ (state_in realm realms).head.epoch = ap (λ (h : Head). h.epoch) (head_of realms realm head inside is) in
      let own : (party.epoch == (state_in realm realms).head.epoch) ≡ true = grind (arith, nat_tests, same, equal) in
      so ∙ sym (ap (λ b. key_found (cond b (identified_by party.id (state_in realm realms)) None)) own)

  pub owned_nowhere : (party : PartyNotes) → party.epoch ≢ head.epoch → None ≡ key_found (owner party (state_in realm realms))
  owned_nowhere party differ =
      let same : head.epoch ≡ (state_in realm realms).head.epoch = ap (λ (h : Head). h.epoch) (head_of realms realm head inside is) in
      let not_own : (party.epoch == (state_in realm realms).head.epoch) ≡ false = grind (arith, nat_tests, same, differ) in
      sym (ap (λ b. key_found (cond b (identified_by party.id (state_in realm realms)) None)) not_own)

-- what a realm is, part by part
pub same_state : (s t : State) → s.head ≡ t.head → s.connections ≡ t.connections → s.transactions ≡ t.transactions → s ≡ t
same_state s t head connections transactions =
    ap (λ (h : Head). record s { head = h }) head
    ∙ ap (λ (cs : List Connection). record { head = t.head; connections = cs; transactions = s.transactions }) connections
    ∙ ap (λ (ts : List Transaction). record { head = t.head; connections = t.connections; transactions = ts }) transactions

-- tables that were lent, and in which no item has changed
module _ (old mid new : Realms) (realm : ℕ) (outcome : Outcome) (endings : Endings) (idle back : Made) (lent prepared : Held)
    (is_lent : lent ≡ working realm outcome endings idle old)
    (connections : (r : ℕ) → of prepared.connections r ≡ of lent.connections r)
    (transactions : (r : ℕ) → map seen (of prepared.transactions r) ≡ map seen (of lent.transactions r))
    (rest : prepared ≡ record lent { connections = prepared.connections; transactions = prepared.transactions })
    (taken : working prepared.realm prepared.outcome prepared.endings back new ≡ prepared)
    (lends : (other : ℕ) → other ≢ realm → tables_in other mid ≡ tables_in other old)
    (takes : (other : ℕ) → other ≢ prepared.realm → tables_in other new ≡ tables_in other mid) where
  own : prepared.realm ≡ realm
  own = ap (λ (w : Held). w.realm) rest ∙ ap (λ (w : Held). w.realm) is_lent

  heads_stay : new.heads ≡ old.heads
  heads_stay = ap (λ (w : Held). w.heads) taken ∙ ap (λ (w : Held). w.heads) rest ∙ ap (λ (w : Held). w.heads) is_lent

  head_stays : (place : ℕ) → (state_in place new).head ≡ (state_in place old).head
  head_stays place = ap (λ (hs : Vec Head). slice_index_or hs.items place no_head) heads_stay

  own_stays : state_in realm new ≡ state_in realm old
  own_stays = same_state (state_in realm new) (state_in realm old) (head_stays realm)
      (subst (λ r. of (tables_in r new).connections realm ≡ of prepared.connections realm) own (ap (λ (w : Held). of w.connections realm) taken) ∙ connections realm ∙ ap (λ (w : Held). of w.connections realm) is_lent)
      (subst (λ r. map seen (of (tables_in r new).transactions realm) ≡ map seen (of prepared.transactions realm)) own (ap (λ (w : Held). map seen (of w.transactions realm)) taken) ∙ transactions realm ∙ ap (λ (w : Held). map seen (of w.transactions realm)) is_lent)

  -- each realm is as it was
  pub prepared_stays : (place : ℕ) → state_in place new ≡ state_in place old
  prepared_stays place = elim (cases_eq place realm) [
    | inl same ↦ subst (λ p. state_in p new ≡ state_in p old) (sym same) own_stays
    | inr differ ↦
        ap (λ (h : Head). state_of place h (tables_in place new)) (head_stays place)
        ∙ ap (λ (t : Tables). state_of place (slice_index_or old.heads.items place no_head) t) (takes place (λ same. differ (same ∙ own)) ∙ lends place differ)
  ]

pub ruleset identifying = (identified_there)

pub ruleset owning = (owned_there, owned_nowhere)

module _ (realms : Realms) (realm : ℕ) (head : Head) (inside : realm < length realms.heads.items) (is : head ≡ slice_index_or realms.heads.items realm head)
    (connections : Kept Connection) (are : connections ≡ (tables_in realm realms).connections) (seat : Seat) where
  -- a realm's seats are those of its head and its connections
  seats : seated seat (state_in realm realms) ≡ seated seat (connected head connections realm)
  seats = ap (λ h. seated seat (connected h (tables_in realm realms).connections realm)) (sym (head_of realms realm head inside is)) ∙ ap (λ (c : Kept Connection). seated seat (connected head c realm)) (sym are)

  -- whatever is said of the connection of a seat
  there : {A : Type 0} (say : Option Connection → A) (place : ℕ) (item : Connection) → StandsAt connections realm (has_number seat.number) place → item_at connections place ≡ Some item → seated seat (connected head connections realm) ≡ connection_of seat.number (connected head connections realm) → say (seated seat (state_in realm realms)) ≡ say (Some item)
  there say place item here is_item same = ap say (seats ∙ same ∙ found_first connections realm (has_number seat.number) place here ∙ is_item)

  pub taken_there : (place : ℕ) (item : Connection) → StandsAt connections realm (has_number seat.number) place → item_at connections place ≡ Some item → seated seat (connected head connections realm) ≡ connection_of seat.number (connected head connections realm) → (takes : Bool) → takes ≡ may_take item → takes ≡ may_take_on (seated seat (state_in realm realms))
  taken_there place item here is_item same takes so = so ∙ sym (there may_take_on place item here is_item same)

  pub taken_nowhere : seated seat (connected head connections realm) ≡ None → false ≡ may_take_on (seated seat (state_in realm realms))
  taken_nowhere none = sym (ap may_take_on (seats ∙ none))

  pub waits_there : (place : ℕ) (item : Connection) → StandsAt connections realm (has_number seat.number) place → item_at connections place ≡ Some item → seated seat (connected head connections realm) ≡ connection_of seat.number (connected head connections realm) → (takes : Bool) → takes ≡ may_take item → not takes ≡ must_wait_on (seated seat (state_in realm realms))
  waits_there place item here is_item same takes so = ap not so ∙ sym (there must_wait_on place item here is_item same)

  pub waits_nowhere : seated seat (connected head connections realm) ≡ None → false ≡ must_wait_on (seated seat (state_in realm realms))
  waits_nowhere none = sym (ap must_wait_on (seats ∙ none))

  pub stands_there : (place : ℕ) (item : Connection) → StandsAt connections realm (has_number seat.number) place → item_at connections place ≡ Some item → seated seat (connected head connections realm) ≡ connection_of seat.number (connected head connections realm) → (stands : Standing) → stands ≡ standing_of item → stands ≡ standing_on (seated seat (state_in realm realms))
  stands_there place item here is_item same stands so = so ∙ sym (there standing_on place item here is_item same)

  pub stands_nowhere : seated seat (connected head connections realm) ≡ None → Gone ≡ standing_on (seated seat (state_in realm realms))
  stands_nowhere none = sym (ap standing_on (seats ∙ none))

  pub key_there : (place : ℕ) (item : Connection) → StandsAt connections realm (has_number seat.number) place → item_at connections place ≡ Some item → seated seat (connected head connections realm) ≡ connection_of seat.number (connected head connections realm) → (key : Option Key) → key ≡ key_of item.role → key ≡ key_on (seated seat (state_in realm realms))
  key_there place item here is_item same key so = so ∙ sym (there key_on place item here is_item same)

  pub key_nowhere : seated seat (connected head connections realm) ≡ None → None ≡ key_on (seated seat (state_in realm realms))
  key_nowhere none = sym (ap key_on (seats ∙ none))

  pub asked_there : (place : ℕ) (item : Connection) → StandsAt connections realm (has_number seat.number) place → item_at connections place ≡ Some item → seated seat (connected head connections realm) ≡ connection_of seat.number (connected head connections realm) → (key : Option Key) → key ≡ key_queried item.awaited → key ≡ option_and_then (λ connection. key_queried connection.awaited) (seated seat (state_in realm realms))
  asked_there place item here is_item same key so = so ∙ sym (there (option_and_then (λ connection. key_queried connection.awaited)) place item here is_item same)

  pub asked_nowhere : seated seat (connected head connections realm) ≡ None → None ≡ option_and_then (λ connection. key_queried connection.awaited) (seated seat (state_in realm realms))
  asked_nowhere none = sym (ap (option_and_then (λ (connection : Connection). key_queried connection.awaited)) (seats ∙ none))

pub ruleset being_on = (key_there, key_nowhere)

pub ruleset asking = (asked_there, asked_nowhere)

pub ruleset standing = (stands_there, stands_nowhere)

pub ruleset waiting = (waits_there, waits_nowhere)

pub ruleset seating = (taken_there, taken_nowhere)
