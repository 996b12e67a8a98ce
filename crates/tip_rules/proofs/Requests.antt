-- What the host asks to be pushed or pulled, case by case.
use Rattle.std.proofs.Common.{◌≡◌, ℕ, List, Bool, true, false, cond, Option, Some, None, length, ap, sym, subst, ◌∙◌}
use Rattle.std.specs.Prelude.{◌&&◌, find, not, option_map}
use Rattle.std.specs.Option.{option_and_then}
use Rattle.std.proofs.lemmas.Option.{none-some, same_Some}
use Rattle.tip_line.specs.declared.refusal.Refusal.TheVariants.{Busy, Full, Known, NotActive, Stale}
use Rattle.tip_rows.specs.Keys.{Key}
use Rattle.tip_txn.specs.Parts.{enlisted}
use Rattle.tip_machine.proofs.Walks.{found-number}
use Rattle.tip_machine.specs.Changes.{alter, change, refuse, send, tell}
use Rattle.tip_machine.specs.Commands.{make}
use Rattle.tip_machine.specs.Connections.{awaiting, is_free, taking}
use Rattle.tip_machine.specs.Requests.{ask_pull, ask_push, pull_if, pull_new, push_part}
use Rattle.tip_machine.specs.States.{Work, connection_of, has_room, identified_by, seated}
use Rattle.tip_machine.specs.Transactions.{enlisting, is_active, is_known, next_key}
use Rattle.tip_machine.specs.Types.{Connection, Transaction}
use Rattle.tip_machine.specs.declared.answer.Asked.{Asked}
use Rattle.tip_machine.specs.declared.answer.Asked.TheVariants as asked
use Rattle.tip_machine.specs.declared.answer.Item.TheVariants.{Ask}
use Rattle.tip_machine.specs.declared.connection.Awaited.{Awaited}
use Rattle.tip_machine.specs.declared.connection.Awaited.TheVariants as awaited
use Rattle.tip_machine.specs.declared.connection.Role.{Role}
use Rattle.tip_machine.specs.declared.connection.Role.TheVariants.{Subordinate}
use Rattle.tip_machine.specs.declared.event.Seat.{Seat}
use Rattle.tip_machine.specs.declared.transaction.Origin.TheVariants as origin
use Rattle.tip_rules.proofs.Works.{then}
use Rattle.tip_rules.specs.Growing.{joined_as, joining_part, key_in}
use Rattle.tip_rules.specs.Makings.{Made}
use Rattle.tip_rules.specs.Works.{Does, Held, MayMake, key_where_room, make_where_room, peer_of, work_of}

-- A command is said

pub sent : (a b c : Held) (number : ℕ) (awaits : Awaited) (asks : Asked) → Does a b (tell number (Ask asks) (work_of a)) → Does b c (change number (awaiting awaits) (work_of b)) → Does a c (send number awaits asks (work_of a))
unfolding send
sent a b c number awaits asks first second = then a b c (change number (awaiting awaits)) _ first second

pub ruleset sending = (sent)

pub sent_as : (a b c : Held) (number : ℕ) (awaits : Awaited) (asks : Asked) (role : Role) → Does a b (send number awaits asks (work_of a)) → Does b c (change number (taking role) (work_of b)) → Does a c (change number (taking role) (send number awaits asks (work_of a)))
sent_as a b c number awaits asks role first second = then a b c (change number (taking role)) _ first second

pub ruleset sending_as = (sent_as)

-- On a connection that is there and free

module _ (a b : Held) (seat : Seat) (text : List ℕ) where
  pub push_stale : seated seat (work_of a).state ≡ None → Does a b (refuse Stale (work_of a)) → Does a b (ask_push (seated seat (work_of a).state) text (work_of a))
  unfolding ask_push
  push_stale none does = subst (λ o. Does a b (ask_push o text (work_of a))) (sym none) does

  pub pull_stale : seated seat (work_of a).state ≡ None → Does a b (refuse Stale (work_of a)) → Does a b (ask_pull (seated seat (work_of a).state) text (work_of a))
  unfolding ask_pull
  pull_stale none does = subst (λ o. Does a b (ask_pull o text (work_of a))) (sym none) does

  module _ (c : Connection) (same : seated seat (work_of a).state ≡ connection_of seat.number (work_of a).state) (there : connection_of seat.number (work_of a).state ≡ Some c) where
    push_so : (free : Bool) → is_free c ≡ free → Does a b (cond free (push_part (identified_by text (work_of a).state) c.peer c.number (work_of a)) (refuse Busy (work_of a))) → Does a b (ask_push (seated seat (work_of a).state) text (work_of a))
    unfolding ask_push
    push_so free is does = subst (λ o. Does a b (ask_push o text (work_of a))) (sym (same ∙ there)) (subst (λ f. Does a b (cond f (push_part (identified_by text (work_of a).state) c.peer c.number (work_of a)) (refuse Busy (work_of a)))) (sym is) does)

    pub push_busy : is_free c ≡ false → Does a b (refuse Busy (work_of a)) → Does a b (ask_push (seated seat (work_of a).state) text (work_of a))
    push_busy is does = push_so false is does

    pub push_free : is_free c ≡ true → ((d : Connection) → connection_of seat.number (work_of a).state ≡ Some d → Does a b (push_part (identified_by text (work_of a).state) d.peer d.number (work_of a))) → Does a b (ask_push (seated seat (work_of a).state) text (work_of a))
    push_free is does = push_so true is (does c there)

    pull_so : (free : Bool) → is_free c ≡ free → Does a b (cond free (pull_if (find (is_known c.peer text) (work_of a).state.transactions) text c (work_of a)) (refuse Busy (work_of a))) → Does a b (ask_pull (seated seat (work_of a).state) text (work_of a))
    unfolding ask_pull
    pull_so free is does = subst (λ o. Does a b (ask_pull o text (work_of a))) (sym (same ∙ there)) (subst (λ f. Does a b (cond f (pull_if (find (is_known c.peer text) (work_of a).state.transactions) text c (work_of a)) (refuse Busy (work_of a)))) (sym is) does)

    pub pull_busy : is_free c ≡ false → Does a b (refuse Busy (work_of a)) → Does a b (ask_pull (seated seat (work_of a).state) text (work_of a))
    pull_busy is does = pull_so false is does

    pub pull_free : is_free c ≡ true → ((d : Connection) → connection_of seat.number (work_of a).state ≡ Some d → Does a b (pull_if (find (is_known d.peer text) (work_of a).state.transactions) text d (work_of a))) → Does a b (ask_pull (seated seat (work_of a).state) text (work_of a))
    pull_free is does = pull_so true is (does c there)

pub ruleset asking_push = (push_stale, push_busy, push_free)

pub ruleset asking_pull = (pull_stale, pull_busy, pull_free)

-- PUSH

module _ (a b c : Held) (number : ℕ) (connection : Connection) (there : connection_of number (work_of a).state ≡ Some connection) (id : List ℕ) (peer : Option (List ℕ)) (own : peer ≡ peer_of number (work_of a).state)
    (first : Does a b (joining_part (identified_by id (work_of a).state) peer None (work_of a))) where
  pushes_so : Does a c (push_part (identified_by id (work_of a).state) peer number (work_of a)) → Does a c (push_part (identified_by id (work_of a).state) connection.peer connection.number (work_of a))
  pushes_so does =
      subst (λ n. Does a c (push_part (identified_by id (work_of a).state) connection.peer n (work_of a))) (sym (found-number number (work_of a).state.connections connection there))
      (subst (λ p. Does a c (push_part (identified_by id (work_of a).state) p number (work_of a))) (own ∙ ap (λ o. option_and_then (λ (d : Connection). d.peer) o) there) does)

  module _ (t : Transaction) (address : List ℕ) where
    abbrev joined_if : Bool → Work → Work
    joined_if active work = cond (active && not false) (alter t.key (enlisting (enlisted address None)) work) work

    abbrev pushed_if : Bool → Work
    pushed_if active = cond active (change number (taking (Subordinate t.key (length t.parts))) (alter t.key (enlisting (enlisted address None)) (send number awaited.Push (asked.Push t.key) (work_of a)))) (refuse NotActive (work_of a))

    pushed_then : (active : Bool) (role : Role) → Some role ≡ cond (active && not false) (Some (Subordinate t.key (length t.parts))) None → Does a b (joined_if active (work_of a)) → Does b c (change number (taking role) (send number awaited.Push (asked.Push (key_in role)) (work_of b))) → Does a c (pushed_if active)
    unfolding send
    pushed_then true role is joins second = subst (λ r. Does a c (change number (taking r) (send number awaited.Push (asked.Push (key_in r)) (alter t.key (enlisting (enlisted address None)) (work_of a))))) (same_Some role _ is) (then a b c (λ w. change number (taking role) (send number awaited.Push (asked.Push (key_in role)) w)) _ joins second)
    pushed_then false role is joins second = absurd (none-some role (sym is))

    not_pushed_then : (active : Bool) → None ≡ cond (active && not false) (Some (Subordinate t.key (length t.parts))) None → Does a b (joined_if active (work_of a)) → Does b c (refuse NotActive (work_of b)) → Does a c (pushed_if active)
    not_pushed_then true is joins second = absurd (none-some _ is)
    not_pushed_then false is joins second = then a b c (refuse NotActive) _ joins second

  pub pushes : (role : Role) → Some role ≡ joined_as (identified_by id (work_of a).state) peer None → Does b c (change number (taking role) (send number awaited.Push (asked.Push (key_in role)) (work_of b))) → Does a c (push_part (identified_by id (work_of a).state) connection.peer connection.number (work_of a))
  pushes role is second = pushes_so (step (identified_by id (work_of a).state) peer is first) where
    step : (found : Option Transaction) (p : Option (List ℕ)) → Some role ≡ joined_as found p None → Does a b (joining_part found p None (work_of a)) → Does a c (push_part found p number (work_of a))
    step None p is joins = absurd (none-some role (sym is))
    step (Some t) None is joins = absurd (none-some role (sym is))
    step (Some t) (Some address) is joins = pushed_then t address (is_active t.phase) role is joins second

  pub pushes_not : None ≡ joined_as (identified_by id (work_of a).state) peer None → Does b c (refuse NotActive (work_of b)) → Does a c (push_part (identified_by id (work_of a).state) connection.peer connection.number (work_of a))
  pushes_not is second = pushes_so (step (identified_by id (work_of a).state) peer is first) where
    step : (found : Option Transaction) (p : Option (List ℕ)) → None ≡ joined_as found p None → Does a b (joining_part found p None (work_of a)) → Does a c (push_part found p number (work_of a))
    step None p is joins = then a b c (refuse NotActive) _ joins second
    step (Some t) None is joins = then a b c (refuse NotActive) _ joins second
    step (Some t) (Some address) is joins = not_pushed_then t address (is_active t.phase) is joins second

-- PULL

module _ (a b : Held) (number : ℕ) (superior : List ℕ) (here c : Connection) (at : connection_of number (work_of a).state ≡ Some here) (found : connection_of number (work_of a).state ≡ Some c) where
  known_of : Connection → Option Transaction
  known_of d = find (is_known d.peer superior) (work_of a).state.transactions

  same : here ≡ c
  same = same_Some here c (sym at ∙ found)

  pub pulled_known : (key : Key) → Some key ≡ option_map (λ t. t.key) (find (is_known here.peer superior) (work_of a).state.transactions) → Does a b (refuse Known (work_of a)) → Does a b (pull_if (find (is_known c.peer superior) (work_of a).state.transactions) superior c (work_of a))
  pulled_known key is does = step (find (is_known c.peer superior) (work_of a).state.transactions) (is ∙ ap (λ (d : Connection). option_map (λ (t : Transaction). t.key) (find (is_known d.peer superior) (work_of a).state.transactions)) same) where
    step : (o : Option Transaction) → Some key ≡ option_map (λ (t : Transaction). t.key) o → Does a b (pull_if o superior c (work_of a))
    step None so = absurd (none-some key (sym so))
    step (Some t) so = does

  pub pulled_unknown : None ≡ option_map (λ t. t.key) (find (is_known here.peer superior) (work_of a).state.transactions) → ((d : Connection) → connection_of number (work_of a).state ≡ Some d → Does a b (pull_new superior d (work_of a))) → Does a b (pull_if (find (is_known c.peer superior) (work_of a).state.transactions) superior c (work_of a))
  pulled_unknown none does = step (find (is_known c.peer superior) (work_of a).state.transactions) (none ∙ ap (λ (d : Connection). option_map (λ (t : Transaction). t.key) (find (is_known d.peer superior) (work_of a).state.transactions)) same) where
    step : (o : Option Transaction) → None ≡ option_map (λ (t : Transaction). t.key) o → Does a b (pull_if o superior c (work_of a))
    step None so = does c found
    step (Some t) so = absurd (none-some t.key so)

pub ruleset pulling_in = (pulled_known, pulled_unknown)

-- words were taken before
module _ (a : Held) (made : Made) (peer ours word : Option (List ℕ)) (left : made ≡ record a.making { peer = peer; ours = ours; word = word }) where
  pub still_able : (number : ℕ) → MayMake number a → MayMake number (record a { making = made })
  still_able number able = subst (λ m. MayMake number (record a { making = m })) (sym left) (λ connection found room. let can = able connection found room in record { made = can.made; number = can.number; epoch = can.epoch; place = can.place; room = can.room })

module _ (a b d : Held) (number : ℕ) (c : Connection) (found : connection_of number (work_of a).state ≡ Some c) (peer : Option (List ℕ)) (superior : List ℕ) (own : peer ≡ peer_of number (work_of a).state)
    (first : Does a b (make_where_room (origin.Subordinate peer superior) c (work_of a))) where
  from_peer : Does a b (make_where_room (origin.Subordinate c.peer superior) c (work_of a))
  from_peer = subst (λ p. Does a b (make_where_room (origin.Subordinate p superior) c (work_of a))) (own ∙ ap (λ o. option_and_then (λ (e : Connection). e.peer) o) found) first

  abbrev pulled_if : Bool → Work
  pulled_if room = cond room (send c.number awaited.Pull (asked.Pull superior (next_key (work_of a).state.head c)) (make (origin.Subordinate c.peer superior) c (work_of a))) (refuse Full (work_of a))

  pub pulls_made : (word : List ℕ) (key : Key) → word ≡ superior → Some key ≡ key_where_room c (work_of a).state → Does b d (send number awaited.Pull (asked.Pull word key) (work_of b)) → Does a d (pull_new superior c (work_of a))
  pulls_made word key same is second = step (has_room c (work_of a).state) is from_peer where
    step : (room : Bool) → Some key ≡ cond room (Some (next_key (work_of a).state.head c)) None → Does a b (cond room (make (origin.Subordinate c.peer superior) c (work_of a)) (work_of a)) → Does a d (pulled_if room)
    step true so makes =
        subst (λ n. Does a d (send n awaited.Pull (asked.Pull superior (next_key (work_of a).state.head c)) (make (origin.Subordinate c.peer superior) c (work_of a)))) (sym (found-number number (work_of a).state.connections c found))
        (subst (λ k. Does a d (send number awaited.Pull (asked.Pull superior k) (make (origin.Subordinate c.peer superior) c (work_of a)))) (same_Some key _ so)
        (subst (λ s. Does a d (send number awaited.Pull (asked.Pull s key) (make (origin.Subordinate c.peer superior) c (work_of a)))) same
        (then a b d (send number awaited.Pull (asked.Pull word key)) _ makes second)))
    step false so makes = absurd (none-some key (sym so))

  pub pulls_full : None ≡ key_where_room c (work_of a).state → Does b d (refuse Full (work_of b)) → Does a d (pull_new superior c (work_of a))
  pulls_full none second = step (has_room c (work_of a).state) none from_peer where
    step : (room : Bool) → None ≡ cond room (Some (next_key (work_of a).state.head c)) None → Does a b (cond room (make (origin.Subordinate c.peer superior) c (work_of a)) (work_of a)) → Does a d (pulled_if room)
    step true so makes = absurd (none-some _ so)
    step false so makes = then a b d (refuse Full) _ makes second
