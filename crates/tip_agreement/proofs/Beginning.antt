-- BEGIN, PUSH, PULL, and what the host asks for, leave a realm whole.
use Rattle.std.proofs.Common.{◌≡◌, Bool, true, false, ℕ, List, Option, Some, None, cond, refl, ap, subst, ◌∙◌}
use Rattle.std.specs.Prelude.{◌&&◌, ◌||◌, find, is_none, is_some, length, not}
use Rattle.std.specs.Option.{option_map_or}
use Rattle.std.proofs.lemmas.Bool.{and_from, and_parts, or_left}
use Rattle.tip_line.specs.declared.refusal.Refusal.TheVariants.{Busy, Full, NotActive}
use Rattle.tip_rows.proofs.MemoryLemmas.{bytes_eq-self}
use Rattle.tip_conn.specs.Table.{is_valid, next_of}
use Rattle.tip_conn.specs.declared.state.Side.{Side}
use Rattle.tip_conn.specs.declared.state.Side.TheVariants.{Primary, Secondary}
use Rattle.tip_conn.specs.declared.state.State.{State as ConnectionState}
use Rattle.tip_conn.specs.declared.state.State.TheVariants as state
use Rattle.tip_conn.specs.declared.state.Turn.TheVariants.{Keep, Original}
use Rattle.tip_line.specs.declared.command.CommandName.TheVariants as command
use Rattle.tip_line.specs.declared.response.ResponseName.TheVariants as response
use Rattle.tip_txn.specs.Parts.{enlisted, is_enlisted}
use Rattle.tip_txn.specs.declared.answer.Phase.TheVariants.{Active}
use Rattle.tip_machine.specs.Changes.{alter, change, refuse, reply, send}
use Rattle.tip_machine.specs.Commands.{begin, make, pull, pull_into, push, push_new}
use Rattle.tip_machine.specs.Connections.{advanced, advanced_to, awaiting, first_side, is_free, is_idle, opposite, taking}
use Rattle.tip_machine.specs.Invariants.Links.{acts_as, has_its_side, is_connected, is_early, is_same_side, link_on}
use Rattle.tip_machine.specs.Invariants.Links.Link.{Owes, Awaits}
use Rattle.tip_machine.specs.Invariants.Phases.{is_part_in, is_same_address}
use Rattle.tip_machine.specs.Requests.{ask_pull, ask_push, pull_if, pull_new, push_part}
use Rattle.tip_machine.specs.States.{Work, connection_of, has_room, identified_by, transaction_of}
use Rattle.tip_machine.specs.Transactions.{enlisting, has_id, is_active, is_known, next_key}
use Rattle.tip_machine.specs.Types.{Connection, Transaction}
use Rattle.tip_machine.specs.declared.answer.Said.TheVariants as said
use Rattle.tip_machine.specs.declared.answer.Asked.TheVariants as asked
use Rattle.tip_machine.specs.declared.connection.Awaited.{Awaited}
use Rattle.tip_machine.specs.declared.connection.Awaited.TheVariants as awaited
use Rattle.tip_machine.specs.declared.connection.Role.TheVariants.{Superior, Subordinate}
use Rattle.tip_machine.specs.declared.transaction.Origin.TheVariants as origin
use Rattle.tip_machine.proofs.RuleWalks.{advanced-number}
use Rattle.tip_machine.proofs.Walks.{either}
use Rattle.tip_agreement.proofs.Alone.{replied_idle, role_none}
use Rattle.tip_agreement.proofs.Around.{Whole, asks_as}
use Rattle.tip_agreement.proofs.Closing.{stands_there}
use Rattle.tip_agreement.proofs.Enlisting.{enlisted_whole, only_active}
use Rattle.tip_agreement.proofs.Keys.{are_given}
use Rattle.tip_agreement.proofs.Loose.{free, loose}
use Rattle.tip_agreement.proofs.Making.{made_key, made_whole, with_role}
use Rattle.tip_agreement.proofs.Sound.{found_by}
use Rattle.tip_agreement.proofs.Answering.{already_next, not_pushed_next, pushed_next}
use Rattle.tip_agreement.proofs.Pulling.{not_pulled_next, pulled_next}

-- Where these commands are valid, and what their answers make of the state

pub begin_at : (at : ConnectionState) → is_valid command.Begin at ≡ true → at ≡ state.Idle
unfolding is_valid
begin_at state.Idle valid = refl
begin_at at valid = absurd (cc)

pub push_at : (at : ConnectionState) → is_valid command.Push at ≡ true → at ≡ state.Idle
unfolding is_valid
push_at state.Idle valid = refl
push_at at valid = absurd (cc)

pub pull_at : (at : ConnectionState) → is_valid command.Pull at ≡ true → at ≡ state.Idle
unfolding is_valid
pull_at state.Idle valid = refl
pull_at at valid = absurd (cc)

begun_next : next_of command.Begin state.Idle response.Begun ≡ Some (state.Begun, Keep)
unfolding next_of
begun_next = refl

not_begun_next : next_of command.Begin state.Idle response.NotBegun ≡ Some (state.Idle, Original)
unfolding next_of
not_begun_next = refl

same_address : (address : Option (List ℕ)) → is_same_address address address ≡ true
same_address None = refl
same_address (Some address) = bytes_eq-self address

-- Commands on a connection that is idle

module _ (c : Connection) (w : Work) (whole : Whole w.state) (given : are_given w.state w.state.transactions ≡ true) (there : connection_of c.number w.state ≡ Some c) (side : c.side ≡ Secondary) (idle : c.state ≡ state.Idle) where
  alone : c.role ≡ None
  alone = role_none c w whole there side (ap is_early idle)

  -- it is a superior's then
  abbrev begun_on : ConnectionState → Connection
  begun_on at = record c { state = at; owed = None; awaited = None; role = Some (Superior (made_key origin.Root c w whole given there alone)); boxes = (with_role origin.Root c w whole given there alone c).boxes; made = (with_role origin.Root c w whole given there alone c).made }

  connected_on : (at : ConnectionState) → is_early at ≡ false → is_connected (begun_on at) ≡ true
  connected_on at late = rw (side, late) refl

  link_begun : (at : ConnectionState) → link_on c.side (begun_on at) ≡ Owes at None
  link_begun at = rw side refl

  made_root : Whole (reply c.number command.Begin (said.Begun (next_key w.state.head c)) (make origin.Root c w)).state
  unfolding reply
  made_root = made_whole origin.Root c w whole given there alone (advanced command.Begin response.Begun) (advanced-number command.Begin response.Begun) (begun_on state.Begun)
      (ap (λ place. advanced_to place (with_role origin.Root c w whole given there alone c)) (ap (λ s. next_of command.Begin s response.Begun) idle ∙ begun_next)) refl (connected_on state.Begun refl) (rw (link_begun state.Begun) refl) refl

  made_pushed : (superior : List ℕ) → Whole (reply c.number command.Push (said.Pushed (next_key w.state.head c)) (make (origin.Subordinate c.peer superior) c w)).state
  unfolding reply
  made_pushed superior = made_whole (origin.Subordinate c.peer superior) c w whole given there alone (advanced command.Push response.Pushed) (advanced-number command.Push response.Pushed) (begun_on state.Enlisted)
      (ap (λ place. advanced_to place (with_role origin.Root c w whole given there alone c)) (ap (λ s. next_of command.Push s response.Pushed) idle ∙ pushed_next)) refl (connected_on state.Enlisted refl) (rw (link_begun state.Enlisted) refl) (same_address c.peer)

  pub begin_whole : Whole (begin c w).state
  unfolding begin
  begin_whole = either (λ v. Whole v.state) (has_room c w.state) _ _ made_root (replied_idle c w whole there side (ap is_early idle) command.Begin said.NotBegun (ap (λ s. next_of command.Begin s response.NotBegun) idle ∙ not_begun_next))

  push_new_whole : (superior : List ℕ) → Whole (push_new superior c w).state
  push_new_whole superior = either (λ v. Whole v.state) (has_room c w.state) _ _ (made_pushed superior) (replied_idle c w whole there side (ap is_early idle) command.Push said.NotPushed (ap (λ s. next_of command.Push s response.NotPushed) idle ∙ not_pushed_next))

  pub push_whole : (superior : List ℕ) → Whole (push superior c w).state
  unfolding push
  push_whole superior = step (find (is_known c.peer superior) w.state.transactions) where
    step : (known : Option Transaction) → Whole (option_map_or (λ (t : Transaction). reply c.number command.Push (said.AlreadyPushed t.key) w) known (push_new superior c w)).state
    step None = push_new_whole superior
    step (Some t) = replied_idle c w whole there side (ap is_early idle) command.Push (said.AlreadyPushed t.key) (ap (λ s. next_of command.Push s response.AlreadyPushed) idle ∙ already_next)

  -- PULL: we are its primary then
  not_pulled : Whole (reply c.number command.Pull said.NotPulled w).state
  not_pulled = replied_idle c w whole there side (ap is_early idle) command.Pull said.NotPulled (ap (λ s. next_of command.Pull s response.NotPulled) idle ∙ not_pulled_next)

  pulled_into : (found : Option Transaction) (peer : Option (List ℕ)) (subordinate : List ℕ) → ((t : Transaction) → found ≡ Some t → transaction_of t.key w.state ≡ Some t) → Whole (pull_into found peer subordinate c.number w).state
  unfolding reply
  pulled_into None peer subordinate is = not_pulled
  pulled_into (Some t) None subordinate is = not_pulled
  pulled_into (Some t) (Some address) subordinate is = step (is_active t.phase && not (is_enlisted t.parts address (Some subordinate))) refl where
    turned : Connection
    turned = record c { state = state.Enlisted; side = Primary; owed = None; awaited = None; role = Some (Subordinate t.key (length t.parts)) }

    step : (b : Bool) → (is_active t.phase && not (is_enlisted t.parts address (Some subordinate))) ≡ b → Whole (cond b (change c.number (taking (Subordinate t.key (length t.parts))) (alter t.key (enlisting (enlisted address (Some subordinate))) (reply c.number command.Pull said.Pulled w))) (reply c.number command.Pull said.NotPulled w)).state
    step true may = enlisted_whole t c w whole there (is t refl) (only_active t.phase (and_parts (is_active t.phase) _ may).0) alone (enlisted address (Some subordinate)) (advanced command.Pull response.Pulled) (advanced-number command.Pull response.Pulled) turned (ap (λ place. taking (Subordinate t.key (length t.parts)) (advanced_to place c)) (ap (λ s. next_of command.Pull s response.Pulled) idle ∙ pulled_next) ∙ ap (λ s. record c { state = state.Enlisted; side = opposite s; owed = None; awaited = None; role = Some (Subordinate t.key (length t.parts)) }) side) refl refl refl refl
    step false not = not_pulled

  pub pull_whole : (superior subordinate : List ℕ) → Whole (pull superior subordinate c w).state
  unfolding pull
  pull_whole superior subordinate = pulled_into (identified_by superior w.state) c.peer subordinate (λ t is. found_by (has_id w.state.head.name superior) w.state t whole is)

-- Requests of the host, on a connection of ours that is free

connected_asking : (d : Connection) → d.side ≡ Primary → is_none d.owed ≡ true → d.state ≡ state.Idle → d.dialled ≡ true → is_some d.role ≡ true → is_connected d ≡ true
connected_asking d side owed idle dialled role =
    let acts : acts_as d.side d ≡ true = rw side owed in
    let its : has_its_side d ≡ true = rw (side, idle, dialled) refl in
    and_from _ _ (and_from _ _ acts its) (or_left _ _ role)

module _ (c : Connection) (w : Work) (whole : Whole w.state) (given : are_given w.state w.state.transactions ≡ true) (there : connection_of c.number w.state ≡ Some c) (is : is_free c ≡ true) where
  idle_now : c.state ≡ state.Idle
  idle_now = only_idle c.state (and_parts c.dialled (is_idle c.state) (and_parts (c.dialled && is_idle c.state) (is_none c.awaited) is).0).1 where
    only_idle : (at : ConnectionState) → is_idle at ≡ true → at ≡ state.Idle
    only_idle state.Idle is = refl
    only_idle at is = absurd (cc)

  nothing_awaited : c.awaited ≡ None
  nothing_awaited = nothing c.awaited (and_parts (c.dialled && is_idle c.state) (is_none c.awaited) is).1 where
    nothing : (o : Option Awaited) → is_none o ≡ true → o ≡ None
    nothing None is = refl
    nothing (Some a) is = absurd (cc)

  we_dialled : c.dialled ≡ true
  we_dialled = (and_parts c.dialled (is_idle c.state) (and_parts (c.dialled && is_idle c.state) (is_none c.awaited) is).0).0

  our_side : c.side ≡ Primary
  our_side = primary c.side (subst (λ d. is_same_side c.side (first_side d) ≡ true) we_dialled (subst (λ s. not (is_early s) || is_same_side c.side (first_side c.dialled) ≡ true) idle_now (stands_there c w whole there).side)) where
    primary : (side : Side) → is_same_side side Primary ≡ true → side ≡ Primary
    primary Primary is = refl
    primary Secondary is = absurd (cc)

  free_link : link_on c.side c ≡ Awaits state.Idle None
  free_link = rw (our_side, idle_now, nothing_awaited) refl

  nobody : c.role ≡ None
  nobody = loose (Awaits state.Idle None) free c w whole there free_link

  owes_nothing : is_none c.owed ≡ true
  owes_nothing = subst (λ s. acts_as s c ≡ true) our_side (stands_there c w whole there).acts

  -- AskPush
  asked_on : Awaited → Transaction → Connection
  asked_on a t = record c { awaited = Some a; role = Some (Subordinate t.key (length t.parts)) }

  pushed_to : (found : Option Transaction) (peer : Option (List ℕ)) → ((t : Transaction) → found ≡ Some t → transaction_of t.key w.state ≡ Some t) → Whole (push_part found peer c.number w).state
  unfolding send asked_on
  pushed_to None peer known = whole
  pushed_to (Some t) None known = whole
  pushed_to (Some t) (Some address) known = step (is_active t.phase) refl where
    asks_so : asks_as (Some (Subordinate t.key (length t.parts))) c.side ≡ true
    asks_so = rw our_side refl

    fits : is_part_in Active (link_on c.side (asked_on awaited.Push t)) (enlisted address None) ≡ true
    fits = rw (our_side, idle_now) refl

    step : (b : Bool) → is_active t.phase ≡ b → Whole (cond b (change c.number (taking (Subordinate t.key (length t.parts))) (alter t.key (enlisting (enlisted address None)) (send c.number awaited.Push (asked.Push t.key) w))) (refuse NotActive w)).state
    step true active = enlisted_whole t c w whole there (known t refl) (only_active t.phase active) nobody (enlisted address None) (awaiting awaited.Push) (λ d. refl) (asked_on awaited.Push t) refl refl
        (connected_asking (asked_on awaited.Push t) our_side owes_nothing idle_now we_dialled refl) asks_so fits
    step false other = whole

  -- AskPull
  superiors : List ℕ → Connection
  superiors superior = record c { awaited = Some awaited.Pull; role = Some (Superior (made_key (origin.Subordinate c.peer superior) c w whole given there nobody)); boxes = (with_role (origin.Subordinate c.peer superior) c w whole given there nobody c).boxes; made = (with_role (origin.Subordinate c.peer superior) c w whole given there nobody c).made }

  pulled_new : (superior : List ℕ) → Whole (pull_new superior c w).state
  unfolding send superiors
  pulled_new superior = either (λ v. Whole v.state) (has_room c w.state) _ (refuse Full w) (made_whole (origin.Subordinate c.peer superior) c w whole given there nobody (awaiting awaited.Pull) (λ d. refl) (superiors superior) refl refl
      (connected_asking (superiors superior) our_side owes_nothing idle_now we_dialled refl) (rw (our_side, idle_now) refl) (same_address c.peer)) whole

  pulled_if : (known : Option Transaction) (superior : List ℕ) → Whole (pull_if known superior c w).state
  pulled_if None superior = pulled_new superior
  pulled_if (Some t) superior = whole

pub ask_push_whole : (found : Option Connection) (id : List ℕ) (w : Work) → Whole w.state → are_given w.state w.state.transactions ≡ true → ((c : Connection) → found ≡ Some c → connection_of c.number w.state ≡ Some c) → Whole (ask_push found id w).state
unfolding ask_push
ask_push_whole None id w whole given there = whole
ask_push_whole (Some c) id w whole given there = step (is_free c) refl where
  step : (b : Bool) → is_free c ≡ b → Whole (cond b (push_part (identified_by id w.state) c.peer c.number w) (refuse Busy w)).state
  step true may = pushed_to c w whole given (there c refl) may (identified_by id w.state) c.peer (λ t is. found_by (has_id w.state.head.name id) w.state t whole is)
  step false not = whole

pub ask_pull_whole : (found : Option Connection) (superior : List ℕ) (w : Work) → Whole w.state → are_given w.state w.state.transactions ≡ true → ((c : Connection) → found ≡ Some c → connection_of c.number w.state ≡ Some c) → Whole (ask_pull found superior w).state
unfolding ask_pull
ask_pull_whole None superior w whole given there = whole
ask_pull_whole (Some c) superior w whole given there = step (is_free c) refl where
  step : (b : Bool) → is_free c ≡ b → Whole (cond b (pull_if (find (is_known c.peer superior) w.state.transactions) superior c w) (refuse Busy w)).state
  step true may = pulled_if c w whole given (there c refl) may (find (is_known c.peer superior) w.state.transactions) superior
  step false not = whole
