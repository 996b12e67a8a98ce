-- What becomes of a realm where a transaction begins.
use Rattle.std.proofs.Common.{◌≡◌, ◌≤◌, ◌<◌, ◌+◌, Bool, true, false, cond, ℕ, suc, List, [], ◌∷◌, Option, Some, None, Fits, w32, get_or, length, map, refl, ap, arith, sym, subst, ◌∙◌}
use Rattle.std.specs.Prelude.{◌&&◌, drop, find, nat_le, nat_lt, option_map, take}
use Rattle.std.specs.Option.{option_and_then, option_map_or}
use Rattle.std.proofs.lemmas.Bool.Decides.{nat_tests}
use Rattle.std.proofs.lemmas.Option.{none-some, same_Some, slice_get-get_or}
use Rattle.tip_branch.specs.Members.{fresh_members}
use Rattle.tip_branch.specs.Notes.{PartyNotes, idle_party}
use Rattle.tip_line.specs.declared.command.CommandName.{CommandName}
use Rattle.tip_line.specs.declared.command.CommandName.TheVariants as command
use Rattle.tip_rows.specs.Keys.{Key}
use Rattle.tip_table.specs.Kept.{StandsAt, item_at, of, with_item_at}
use Rattle.tip_table.proofs.Standing.{stands_written}
use Rattle.tip_table.proofs.Standing.{found as found_first}
use Rattle.tip_machine.proofs.Walks.{found-number}
use Rattle.tip_machine.specs.Changes.{change, reply}
use Rattle.tip_machine.specs.Commands.{begin, make, making, push, push_new}
use Rattle.tip_machine.specs.Connections.{has_number}
use Rattle.tip_machine.specs.States.{Work, connection_of, has_room}
use Rattle.tip_machine.specs.Transactions.{begun, is_known, next_key}
use Rattle.tip_machine.specs.Types.{Connection, Transaction, seen}
use Rattle.tip_machine.specs.declared.answer.Said.{Said}
use Rattle.tip_machine.specs.declared.answer.Said.TheVariants as said
use Rattle.tip_machine.specs.declared.connection.Role.TheVariants.{Superior}
use Rattle.tip_machine.specs.declared.transaction.Origin.{Origin}
use Rattle.tip_machine.specs.declared.transaction.Origin.TheVariants as origin
use Rattle.tip_machine.specs.declared.transaction.PartyPlace.TheVariants.{Here}
use Rattle.tip_branch.specs.declared.branch.Badge.{Badge}
use Rattle.tip_machine.specs.Answers.{identifier}
use Rattle.tip_machine.specs.declared.head.Head.{Head}
use Rattle.tip_txn.specs.Transactions.{fresh}
use Rattle.tip_rules.specs.Makings.{Made}
use Rattle.tip_rules.specs.Rooms.{room_for, TransactionRoom}
use Rattle.tip_rules.proofs.Losing.{same_room}
use Rattle.tip_outlook.specs.Searches.{HeldTransaction}
use Rattle.tip_rules.specs.Works.{beginning, CanMake, Does, Held, MayMake, key_where_room, make_where_room, no_head, peer_of, work_of}
use Rattle.tip_rules.proofs.Works.{changed_at, nothing, then}

-- Room

count_seen : (items : List HeldTransaction) → length (map seen items) ≡ length items
count_seen [] = refl
count_seen (x ∷ xs) = ap suc (count_seen xs)

pub open_count : (held : Held) → length (work_of held).state.transactions ≡ length (of held.transactions held.realm)
open_count held = count_seen (of held.transactions held.realm)

-- the head that stands at the realm's place
pub head_there : (held : Held) (head : Head) → held.realm < length held.heads.items → head ≡ get_or held.heads.items held.realm head → head ≡ (work_of held).state.head
head_there held head inside is = is ∙ same_Some (get_or held.heads.items held.realm head) (get_or held.heads.items held.realm no_head) (sym (slice_get-get_or held.heads.items held.realm head inside) ∙ slice_get-get_or held.heads.items held.realm no_head inside)

pub made_fits : (held : Held) (head : Head) (made : ℕ) → made < (work_of held).state.head.limits.entries → held.realm < length held.heads.items → head ≡ get_or held.heads.items held.realm head → Fits w32 head.limits.entries → Fits w32 (made + 1)
made_fits held head made below inside is most =
    let same : head.limits.entries ≡ (work_of held).state.head.limits.entries = ap (λ (h : Head). h.limits.entries) (head_there held head inside is) in
    record { fits = omega (arith, below, same, most.fits) }

pub ruleset room = (open_count)

pub ruleset keys = (made_fits, head_there)

-- Boxes

-- a connection stands where it gave boxes
pub giving_stands : (old : Held) (number place : ℕ) (value : Connection) → StandsAt old.connections old.realm (has_number number) place → value.number ≡ number → StandsAt (with_item_at old.connections place value) old.realm (has_number number) place
giving_stands old number place value here is = stands_written old.connections old.realm (has_number number) place value here (grind (arith, nat_tests, is))

-- a connection gave its first boxes
pub gives_boxes : (old : Held) (number place boxes : ℕ) (key : Key) (item : Connection) (made : ℕ) (left : List Badge) → StandsAt old.connections old.realm (has_number number) place → item_at old.connections place ≡ Some item → made ≡ item.made + 1 → left ≡ drop boxes item.boxes →
    Does old (record old { connections = with_item_at old.connections place (record item { boxes = left; role = Some (Superior key); made = made }) }) (change number (making boxes key) (work_of old))
gives_boxes old number place boxes key item made left here is next rest = changed_at old number (making boxes key) place item (record item { boxes = left; role = Some (Superior key); made = made }) here is
    (ap (λ n. record item { boxes = left; role = Some (Superior key); made = n }) next ∙ ap (λ bs. record item { boxes = bs; role = Some (Superior key); made = item.made + 1 }) rest)

-- what stands there is what is found
pub standing_number : (held : Held) (number place : ℕ) (item : Connection) → StandsAt held.connections held.realm (has_number number) place → item_at held.connections place ≡ Some item → connection_of number (work_of held).state ≡ Some item
standing_number held number place item here is = found_first held.connections held.realm (has_number number) place here ∙ is

pub ruleset giving = (giving_stands, gives_boxes, standing_number, found-number, same_Some)

-- Transactions

-- what joins is what the definitions begin
pub begun_so : (head : Head) (key : Key) (from : Origin) (party : PartyNotes) (room : TransactionRoom) (boxes : List Badge) → room ≡ room_for head key → key.epoch ≡ head.epoch → party ≡ idle_party room.name key.epoch room.id (fresh_members 1 (take room.party boxes)) →
    seen (record { key = key; origin = from; place = Here party; branches = room.branches; txn = room.txn }) ≡ begun head key from (take (length head.branches) boxes)
begun_so head key from party room boxes is epoch noted =
    ap (λ p. seen (record { key = key; origin = from; place = Here p; branches = room.branches; txn = room.txn })) noted
    ∙ ap (λ (r : TransactionRoom). seen (record { key = key; origin = from; place = Here (idle_party r.name key.epoch r.id (fresh_members 1 (take r.party boxes))); branches = r.branches; txn = r.txn })) is
    ∙ ap (λ e. seen (record { key = key; origin = from; place = Here (idle_party head.name e (identifier head.name key) (fresh_members 1 (take (length head.branches) boxes))); branches = head.branches; txn = fresh })) epoch

pub made_all : (a b c : Held) (number : ℕ) (from : Origin) (connection : Connection) (key : Key) (transaction : HeldTransaction) → connection_of number (work_of a).state ≡ Some connection → key ≡ next_key (work_of a).state.head connection →
    seen transaction ≡ begun (work_of a).state.head key from (take (length (work_of a).state.head.branches) connection.boxes) →
    Does a b (change number (making (length (work_of a).state.head.branches) key) (work_of a)) → Does b c (beginning (seen transaction) (work_of b)) → Does a c (make from connection (work_of a))
unfolding make
made_all a b c number from connection key transaction found next is first second =
    let boxes = length (work_of a).state.head.branches in
    let both = then a b c (beginning (seen transaction)) _ first second in
    subst (λ k. Does a c (beginning (begun (work_of a).state.head k from (take boxes connection.boxes)) (change connection.number (making boxes k) (work_of a)))) next
    (subst (λ n. Does a c (beginning (begun (work_of a).state.head key from (take boxes connection.boxes)) (change n (making boxes key) (work_of a)))) (sym (found-number number (work_of a).state.connections connection found))
    (subst (λ t. Does a c (beginning t (change number (making boxes key) (work_of a)))) is both))

-- Where there is room

pub boxes_enough : (a : Held) (connection : Connection) → has_room connection (work_of a).state ≡ true → length (work_of a).state.head.branches ≤ length connection.boxes
boxes_enough a connection room = grind (arith, nat_tests, room)

-- making a transaction takes no line
pub room_made : (a b : Held) (from : Origin) (connection : Connection) → Does a b (make from connection (work_of a)) → b.making.free ≡ a.making.free
unfolding make
room_made a b from connection does = same_room a b (make from connection (work_of a)) does refl

module _ (a : Held) (from : Origin) (connection : Connection) (room : Bool) (is : has_room connection (work_of a).state ≡ room) where
  made_so : make_where_room from connection (work_of a) ≡ cond room (make from connection (work_of a)) (work_of a)
  made_so = ap (λ b. cond b (make from connection (work_of a)) (work_of a)) is

  key_so : key_where_room connection (work_of a).state ≡ cond room (Some (next_key (work_of a).state.head connection)) None
  key_so = ap (λ b. cond b (Some (next_key (work_of a).state.head connection)) None) is

  pub made_there : (b : Held) → room ≡ true → Does a b (make from connection (work_of a)) → Does a b (make_where_room from connection (work_of a))
  made_there b so does = subst (Does a b) (sym (made_so ∙ ap (λ r. cond r (make from connection (work_of a)) (work_of a)) so)) does

  pub made_nowhere : room ≡ false → Does a a (make_where_room from connection (work_of a))
  made_nowhere so = subst (Does a a) (sym (made_so ∙ ap (λ r. cond r (make from connection (work_of a)) (work_of a)) so)) (nothing a)

  pub key_there : (key : Key) → room ≡ true → key ≡ next_key (work_of a).state.head connection → Some key ≡ key_where_room connection (work_of a).state
  key_there key so same = ap Some same ∙ sym (key_so ∙ ap (λ r. cond r (Some (next_key (work_of a).state.head connection)) None) so)

  pub key_nowhere : room ≡ false → None ≡ key_where_room connection (work_of a).state
  key_nowhere so = sym (key_so ∙ ap (λ r. cond r (Some (next_key (work_of a).state.head connection)) None) so)

-- What is answered to BEGIN, and to PUSH of a transaction that is not known

module _ (a b c : Held) (number : ℕ) (connection : Connection) (found : connection_of number (work_of a).state ≡ Some connection) (command : CommandName) (made : Key → Said) (full : Said) (from : Origin)
    (first : Does a b (make_where_room from connection (work_of a))) where
  -- where there is room, or there is none
  abbrev answered : Bool → Work
  answered room = cond room (reply connection.number command (made (next_key (work_of a).state.head connection)) (make from connection (work_of a))) (reply connection.number command full (work_of a))

  pub answers_made : (key : Key) → Some key ≡ key_where_room connection (work_of a).state → Does b c (reply number command (made key) (work_of b)) → Does a c (answered (has_room connection (work_of a).state))
  answers_made key is second = step (has_room connection (work_of a).state) refl where
    step : (room : Bool) → has_room connection (work_of a).state ≡ room → Does a c (answered room)
    step true room =
        let same : key ≡ next_key (work_of a).state.head connection = same_Some key (next_key (work_of a).state.head connection) (is ∙ key_so a from connection true room) in
        subst (λ n. Does a c (reply n command (made (next_key (work_of a).state.head connection)) (make from connection (work_of a)))) (sym (found-number number (work_of a).state.connections connection found))
        (subst (λ k. Does a c (reply number command (made k) (make from connection (work_of a)))) same
        (then a b c (reply number command (made key)) _ (subst (Does a b) (made_so a from connection true room) first) second))
    step false room = absurd (none-some key (sym (is ∙ key_so a from connection false room)))

  pub answers_full : None ≡ key_where_room connection (work_of a).state → Does b c (reply number command full (work_of b)) → Does a c (answered (has_room connection (work_of a).state))
  answers_full is second = step (has_room connection (work_of a).state) refl where
    step : (room : Bool) → has_room connection (work_of a).state ≡ room → Does a c (answered room)
    step true room = absurd (none-some (next_key (work_of a).state.head connection) (is ∙ key_so a from connection true room))
    step false room =
        subst (λ n. Does a c (reply n command full (work_of a))) (sym (found-number number (work_of a).state.connections connection found))
        (then a b c (reply number command full) _ (subst (Does a b) (made_so a from connection false room) first) second)

module _ (a b c : Held) (number : ℕ) (connection : Connection) (found : connection_of number (work_of a).state ≡ Some connection) (first : Does a b (make_where_room origin.Root connection (work_of a))) where
  pub begins_made : (key : Key) → Some key ≡ key_where_room connection (work_of a).state → Does b c (reply number command.Begin (said.Begun key) (work_of b)) → Does a c (begin connection (work_of a))
  unfolding begin
  begins_made key is second = answers_made a b c number connection found command.Begin said.Begun said.NotBegun origin.Root first key is second

  pub begins_full : None ≡ key_where_room connection (work_of a).state → Does b c (reply number command.Begin said.NotBegun (work_of b)) → Does a c (begin connection (work_of a))
  unfolding begin
  begins_full is second = answers_full a b c number connection found command.Begin said.Begun said.NotBegun origin.Root first is second

module _ (a b c : Held) (number : ℕ) (connection : Connection) (found : connection_of number (work_of a).state ≡ Some connection) (peer : Option (List ℕ)) (superior : List ℕ) (there : peer ≡ peer_of number (work_of a).state) (first : Does a b (make_where_room (origin.Subordinate peer superior) connection (work_of a))) where
  from_peer : Does a b (make_where_room (origin.Subordinate connection.peer superior) connection (work_of a))
  from_peer = subst (λ p. Does a b (make_where_room (origin.Subordinate p superior) connection (work_of a))) (there ∙ ap (λ o. option_and_then (λ (d : Connection). d.peer) o) found) first

  pub pushes_made : (key : Key) → Some key ≡ key_where_room connection (work_of a).state → Does b c (reply number command.Push (said.Pushed key) (work_of b)) → Does a c (push_new superior connection (work_of a))
  pushes_made key is second = answers_made a b c number connection found command.Push said.Pushed said.NotPushed (origin.Subordinate connection.peer superior) from_peer key is second

  pub pushes_full : None ≡ key_where_room connection (work_of a).state → Does b c (reply number command.Push said.NotPushed (work_of b)) → Does a c (push_new superior connection (work_of a))
  pushes_full is second = answers_full a b c number connection found command.Push said.Pushed said.NotPushed (origin.Subordinate connection.peer superior) from_peer is second

-- the peer was taken before
module _ (a : Held) (made : Made) (left : made ≡ record a.making { peer = None }) where
  pub took_peer : (b : Held) (rule : Work → Work) → Does (record a { making = made }) b (rule (work_of (record a { making = made }))) → Does a b (rule (work_of a))
  took_peer b rule does =
      let d : Does (record a { making = record a.making { peer = None } }) b (rule (work_of a)) = subst (λ m. Does (record a { making = m }) b (rule (work_of (record a { making = m })))) left does in
      record { own = d.own; others = d.others; realm = d.realm; count = d.count; connections = d.connections; transactions = d.transactions; lines = d.lines; outcome = d.outcome; endings = d.endings }

  pub still_able : (number : ℕ) → MayMake number a → MayMake number (record a { making = made })
  still_able number able = subst (λ m. MayMake number (record a { making = m })) (sym left) (λ connection found room. let can = able connection found room in record { made = can.made; number = can.number; epoch = can.epoch; place = can.place; room = can.room })

-- PUSH

module _ (a b : Held) (number : ℕ) (connection : Connection) (found : connection_of number (work_of a).state ≡ Some connection) (here : Connection) (there : connection_of number (work_of a).state ≡ Some here) (superior : List ℕ) where
  abbrev known : Connection → Option Transaction
  known connection = find (is_known connection.peer superior) (work_of a).state.transactions

  push_so : (known_one : Option Transaction) → known connection ≡ known_one → Does a b (option_map_or (λ t. reply connection.number command.Push (said.AlreadyPushed t.key) (work_of a)) known_one (push_new superior connection (work_of a))) → Does a b (push superior connection (work_of a))
  unfolding push
  push_so known_one is does = subst (λ o. Does a b (option_map_or (λ t. reply connection.number command.Push (said.AlreadyPushed t.key) (work_of a)) o (push_new superior connection (work_of a)))) (sym is) does

  same_known : known here ≡ known connection
  same_known = ap known (same_Some here connection (sym there ∙ found))

  pub pushed_already : (key : Key) → Some key ≡ option_map (λ (t : Transaction). t.key) (known here) → Does a b (reply number command.Push (said.AlreadyPushed key) (work_of a)) → Does a b (push superior connection (work_of a))
  pushed_already key is does = step (known connection) refl (is ∙ ap (option_map (λ (t : Transaction). t.key)) same_known) where
    step : (o : Option Transaction) → known connection ≡ o → Some key ≡ option_map (λ (t : Transaction). t.key) o → Does a b (push superior connection (work_of a))
    step None at same = absurd (none-some key (sym same))
    step (Some t) at same = push_so (Some t) at
        (subst (λ n. Does a b (reply n command.Push (said.AlreadyPushed t.key) (work_of a))) (sym (found-number number (work_of a).state.connections connection found))
        (subst (λ k. Does a b (reply number command.Push (said.AlreadyPushed k) (work_of a))) (same_Some key t.key same) does))

  pub pushed_new : None ≡ option_map (λ (t : Transaction). t.key) (known here) → Does a b (push_new superior connection (work_of a)) → Does a b (push superior connection (work_of a))
  pushed_new is does = step (known connection) refl (is ∙ ap (option_map (λ (t : Transaction). t.key)) same_known) where
    step : (o : Option Transaction) → known connection ≡ o → None ≡ option_map (λ (t : Transaction). t.key) o → Does a b (push superior connection (work_of a))
    step None at same = push_so None at does
    step (Some t) at same = absurd (none-some t.key same)

pub ruleset pushes = (pushed_already, pushed_new)

-- there is room, and what it takes
module _ (a : Held) (number boxes : ℕ) (room : Bool) (here : Connection) (there : connection_of number (work_of a).state ≡ Some here) (counted : boxes ≡ length here.boxes)
    (is : room ≡ (nat_lt (length (work_of a).state.transactions) (work_of a).state.head.limits.transactions && nat_le (length (work_of a).state.head.branches) boxes)) (has : room ≡ true) (able : MayMake number a) where
  pub room_here : (connection : Connection) → connection_of number (work_of a).state ≡ Some connection → has_room connection (work_of a).state ≡ true
  room_here connection found = subst (λ (c : Connection). has_room c (work_of a).state ≡ true) (same_Some here connection (sym there ∙ found))
      (ap (λ n. nat_lt (length (work_of a).state.transactions) (work_of a).state.head.limits.transactions && nat_le (length (work_of a).state.head.branches) n) (sym counted) ∙ sym is ∙ has)

  pub can_make : CanMake a here
  can_make = able here there (room_here here there)

  pub number_there : 0 < number
  number_there = subst (λ n. 0 < n) (found-number number (work_of a).state.connections here there) can_make.number

module _ (a : Held) (number : ℕ) (here : Connection) (there : connection_of number (work_of a).state ≡ Some here) (key : Key) (is : key ≡ record { epoch = (work_of a).state.head.epoch; connection = number; number = here.made + 1 }) where
  pub next_there : (connection : Connection) → connection_of number (work_of a).state ≡ Some connection → key ≡ next_key (work_of a).state.head connection
  next_there connection found = subst (λ (c : Connection). key ≡ next_key (work_of a).state.head c) (same_Some here connection (sym there ∙ found))
      (is ∙ ap (λ n. record { epoch = (work_of a).state.head.epoch; connection = n; number = here.made + 1 }) (sym (found-number number (work_of a).state.connections here there)))

  pub room_there : CanMake a here → a.making.room ≡ Some (room_for (work_of a).state.head key)
  room_there can = can.room ∙ ap (λ k. Some (room_for (work_of a).state.head k)) (sym (next_there here there))

-- the room was taken before the boxes were given
pub took_room : (a b : Held) (made : Made) (number : ℕ) (key : Key) (room : TransactionRoom) → made ≡ record a.making { room = None } → room ≡ room_for (work_of a).state.head key →
    Does (record a { making = made }) b (change number (making room.party key) (work_of (record a { making = made }))) → Does a b (change number (making (length (work_of a).state.head.branches) key) (work_of a))
took_room a b made number key room left is does =
    let work = change number (making room.party key) (work_of a) in
    let d : Does (record a { making = record a.making { room = None } }) b work = subst (λ m. Does (record a { making = m }) b (change number (making room.party key) (work_of (record a { making = m })))) left does in
    subst (λ (r : TransactionRoom). Does a b (change number (making r.party key) (work_of a))) is
    (record { own = d.own; others = d.others; realm = d.realm; count = d.count; connections = d.connections; transactions = d.transactions; lines = d.lines; outcome = d.outcome; endings = d.endings })

pub ruleset making_where_room = (room_made, boxes_enough)
