-- What an event comes to, by its kind.
use Rattle.std.proofs.Common.{◌≡◌, ◌≢◌, ◌<◌, ◌≤◌, ◌+◌, ℕ, List, Bool, true, false, cond, Option, Some, None, length, refl, ap, arith, sym, subst, ◌∙◌}
use Rattle.std.specs.Prelude.{find, is_some}
use Rattle.std.specs.Option.{option_and_then, option_map_or}
use Rattle.std.proofs.lemmas.Bool.Decides.{nat_tests}
use Rattle.std.proofs.lemmas.Option.{same_Some}
use Rattle.tip_conn.specs.declared.state.Side.{Side}
use Rattle.tip_conn.specs.declared.state.Side.TheVariants.{Primary}
use Rattle.tip_line.specs.declared.command.Command.{Command as ACommand}
use Rattle.tip_line.specs.declared.command.Command.TheVariants as commands
use Rattle.tip_line.specs.declared.command.CommandName.TheVariants as name
use Rattle.tip_line.specs.Command.{name_of}
use Rattle.tip_line.specs.declared.refusal.Refusal.TheVariants.{Busy, Stale}
use Rattle.tip_table.specs.Kept.{of}
use Rattle.tip_machine.specs.Answers.{silence}
use Rattle.tip_machine.specs.Changes.{refuse}
use Rattle.tip_machine.specs.Connections.{may_take}
use Rattle.tip_machine.specs.Counts.{HasCounts}
use Rattle.tip_machine.specs.Failing.{closed, wrong}
use Rattle.tip_machine.specs.Given.{are_numbered}
use Rattle.tip_machine.specs.Requests.{hear, line}
use Rattle.tip_machine.specs.States.{Attempt, State, connection_of, has_room, seated}
use Rattle.tip_machine.specs.Steps.{attempt, chosen, entered, frozen, is_open}
use Rattle.tip_machine.specs.Transactions.{next_key}
use Rattle.tip_machine.specs.Types.{Connection, Event}
use Rattle.tip_machine.specs.declared.connection.Awaited.{Awaited}
use Rattle.tip_machine.specs.declared.connection.Awaited.TheVariants as awaited
use Rattle.tip_machine.specs.declared.connection.Purpose.TheVariants as purpose
use Rattle.tip_machine.specs.declared.connection.Role.{Role}
use Rattle.tip_machine.specs.declared.connection.Role.TheVariants.{Subordinate, Superior}
use Rattle.tip_machine.specs.declared.event.Event.TheVariants.{AskPull, AskPush, Dial, Line, Lost, Open, Resume, Settled, Voted}
use Rattle.tip_machine.specs.declared.event.Heard.{Heard}
use Rattle.tip_machine.specs.declared.event.Heard.TheVariants.{Command}
use Rattle.tip_machine.specs.declared.event.Outcome.{Outcome}
use Rattle.tip_machine.specs.declared.event.Seat.{Seat}
use Rattle.tip_machine.proofs.Counting.{entered_below}
use Rattle.tip_rules.proofs.Works.{then}
use Rattle.tip_rules.specs.Growing.{CanGrow}
use Rattle.tip_rules.specs.Needs.{HasNeeds, IsReady, begins, begins_on, happened, joined, lines_needed, peer_needed, room_on, transactions_for, ours_needed, word_needed}
use Rattle.tip_outlook.specs.Endings.{EndsBy}
use Rattle.tip_outlook.specs.Wanting.{Course, foreseen, line_wanted, taken_wanted}
use Rattle.tip_rules.proofs.Foreseeing.{seen_before}
use Rattle.tip_rules.specs.Pursuing.{word_for}
use Rattle.tip_rules.specs.Rooms.{room_for}
use Rattle.tip_outlook.specs.Searches.{is_named}
use Rattle.tip_rules.specs.Works.{CanMake, Does, Held, MayMake, lines_as, lines_at, lines_queried, work_of}

-- As its primary we hear ERROR alone

module _ (a b : Held) (c : Connection) (outcome : Outcome) where
  pub primary_wrong : (command : ACommand) → name_of command ≢ name.Error → Does a b (wrong c (work_of a)) → Does a b (chosen (hear Primary (Command command) c (work_of a)) outcome)
  primary_wrong (commands.Identify lowest highest primary secondary) other does = does
  primary_wrong commands.Begin other does = does
  primary_wrong (commands.Push superior) other does = does
  primary_wrong (commands.Pull superior subordinate) other does = does
  primary_wrong commands.Prepare other does = does
  primary_wrong commands.Commit other does = does
  primary_wrong commands.Abort other does = does
  primary_wrong (commands.Query superior) other does = does
  primary_wrong (commands.Reconnect subordinate) other does = does
  primary_wrong (commands.Multiplex protocol) other does = does
  primary_wrong commands.Tls other does = does
  primary_wrong commands.Error other does = absurd (other refl)

  pub primary_closed : (command : ACommand) → name_of command ≡ name.Error → Does a b (closed c (work_of a)) → Does a b (chosen (hear Primary (Command command) c (work_of a)) outcome)
  primary_closed (commands.Identify lowest highest primary secondary) is does = absurd (cc)
  primary_closed commands.Begin is does = absurd (cc)
  primary_closed (commands.Push superior) is does = absurd (cc)
  primary_closed (commands.Pull superior subordinate) is does = absurd (cc)
  primary_closed commands.Prepare is does = absurd (cc)
  primary_closed commands.Commit is does = absurd (cc)
  primary_closed commands.Abort is does = absurd (cc)
  primary_closed (commands.Query superior) is does = absurd (cc)
  primary_closed (commands.Reconnect subordinate) is does = absurd (cc)
  primary_closed (commands.Multiplex protocol) is does = absurd (cc)
  primary_closed commands.Tls is does = absurd (cc)
  primary_closed commands.Error is does = does

pub ruleset hearing_as_primary = (primary_wrong, primary_closed)

-- Lines

module _ (a b : Held) (seat : Seat) (heard : Heard) (outcome : Outcome) where
  pub line_stale : seated seat (work_of a).state ≡ None → Does a b (refuse Stale (work_of a)) → Does a b (chosen (line (seated seat (work_of a).state) heard (work_of a)) outcome)
  unfolding line
  line_stale none does = subst (λ o. Does a b (chosen (line o heard (work_of a)) outcome)) (sym none) does

  module _ (c : Connection) (same : seated seat (work_of a).state ≡ connection_of seat.number (work_of a).state) (there : connection_of seat.number (work_of a).state ≡ Some c) where
    taken_so : (takes : Bool) → may_take c ≡ takes → Does a b (chosen (cond takes (hear c.side heard c (work_of a)) (Attempt.Done (refuse Busy (work_of a)))) outcome) → Does a b (chosen (line (seated seat (work_of a).state) heard (work_of a)) outcome)
    unfolding line
    taken_so takes is does = subst (λ o. Does a b (chosen (line o heard (work_of a)) outcome)) (sym (same ∙ there)) (subst (λ t. Does a b (chosen (cond t (hear c.side heard c (work_of a)) (Attempt.Done (refuse Busy (work_of a)))) outcome)) (sym is) does)

    pub line_busy : may_take c ≡ false → Does a b (refuse Busy (work_of a)) → Does a b (chosen (line (seated seat (work_of a).state) heard (work_of a)) outcome)
    line_busy is does = taken_so false is does

    pub line_heard : (side : Side) → may_take c ≡ true → c.side ≡ side → ((d : Connection) → connection_of seat.number (work_of a).state ≡ Some d → Does a b (chosen (hear side heard d (work_of a)) outcome)) → Does a b (chosen (line (seated seat (work_of a).state) heard (work_of a)) outcome)
    line_heard side is at does = taken_so true is (subst (λ s. Does a b (chosen (hear s heard c (work_of a)) outcome)) (sym at) (does c there))

-- what was decided of a line that is taken
pub line_next : (held : Held) (seat : Seat) (heard : Heard) (here : Connection) → seated seat (work_of held).state ≡ connection_of seat.number (work_of held).state → connection_of seat.number (work_of held).state ≡ Some here → may_take here ≡ true → (side : Side) → here.side ≡ side → EndsBy (foreseen (Line seat heard) (work_of held).state) held.endings →
    (c : Connection) → connection_of seat.number (work_of held).state ≡ Some c → EndsBy (taken_wanted side heard c (work_of held).state) held.endings
line_next held seat heard here same there takes side at ends c found =
    subst (λ (d : Connection). EndsBy (taken_wanted side heard d (work_of held).state) held.endings) (same_Some here c (sym there ∙ found))
    (subst (λ s. EndsBy (taken_wanted s heard here (work_of held).state) held.endings) at
    (subst (λ b. EndsBy (cond b (taken_wanted here.side heard here (work_of held).state) Course.Stays) held.endings) takes
    (subst (λ o. EndsBy (option_map_or (λ (d : Connection). line_wanted heard d (work_of held).state) o Course.Stays) held.endings) (same ∙ there) ends)))

pub ruleset lining = (line_stale, line_busy, line_heard, line_next)

-- Events

pub part_line : (held : Held) (seat : Seat) (heard : Heard) → IsReady (Line seat heard) held → (id : List ℕ) → joined heard ≡ Some id → CanGrow (work_of held).state.head.name id (of held.transactions held.realm)
part_line held seat heard ready id is = ready.part id is

pub able_line : (held : Held) (seat : Seat) (heard : Heard) → IsReady (Line seat heard) held → begins heard ≡ true → MayMake seat.number held
able_line held seat heard ready is = ready.able seat.number (ap (λ b. cond b (Some seat.number) None) is)

pub lines_line : (held : Held) (seat : Seat) (heard : Heard) → IsReady (Line seat heard) held → lines_at seat.number (work_of held).state + 2 ≤ held.making.free
lines_line held seat heard ready = let enough = ready.lines in omega (arith, enough)

pub queried_line : (held : Held) (seat : Seat) (heard : Heard) → IsReady (Line seat heard) held → lines_queried seat.number (work_of held).state ≤ held.making.free
queried_line held seat heard ready = let enough = ready.lines in omega (arith, enough)

pub able_pull : (held : Held) (seat : Seat) (superior : List ℕ) → IsReady (AskPull seat superior) held → MayMake seat.number held
able_pull held seat superior ready = ready.able seat.number refl

pub part_push : (held : Held) (seat : Seat) (id : List ℕ) → IsReady (AskPush seat id) held → CanGrow (work_of held).state.head.name id (of held.transactions held.realm)
part_push held seat id ready = ready.part id refl

pub ruleset happening = (able_line, able_pull, part_push, lines_line, queried_line)

-- The entry of an event changes nothing that it needs

lines_as_before : (role : Option Role) (state : State) → lines_as role (entered state).state ≡ lines_as role state
lines_as_before None state = refl
lines_as_before (Some (Superior key)) state = refl
lines_as_before (Some (Subordinate key part)) state = refl

lines_at_before : (number : ℕ) (state : State) → lines_at number (entered state).state ≡ lines_at number state
lines_at_before number state = step (connection_of number state) where
  step : (found : Option Connection) → option_map_or (λ c. lines_as c.role (entered state).state) found 0 ≡ option_map_or (λ c. lines_as c.role state) found 0
  step None = refl
  step (Some c) = lines_as_before c.role state

needed_before : (event : Event) (state : State) → lines_needed event (entered state).state ≡ lines_needed event state
needed_before (Open boxes) state = refl
needed_before (Dial address purpose boxes) state = refl
needed_before (Line seat heard) state = ap (λ n. n + (lines_queried seat.number state + 2)) (lines_at_before seat.number state)
needed_before (Voted party) state = refl
needed_before (Settled party) state = refl
needed_before (Lost seat) state = lines_at_before seat.number state
needed_before (AskPush seat id) state = refl
needed_before (AskPull seat superior) state = refl
needed_before (Resume id) state = refl

peer_before : (event : Event) (state : State) → peer_needed event (entered state).state ≡ peer_needed event state
peer_before (Open boxes) state = refl
peer_before (Dial address purpose boxes) state = refl
peer_before (Line seat heard) state = refl
peer_before (Voted party) state = refl
peer_before (Settled party) state = refl
peer_before (Lost seat) state = refl
peer_before (AskPush seat id) state = refl
peer_before (AskPull seat superior) state = refl
peer_before (Resume id) state = refl

ours_before : (event : Event) (state : State) → ours_needed event (entered state).state ≡ ours_needed event state
ours_before (Open boxes) state = refl
ours_before (Dial address purpose boxes) state = refl
ours_before (Line seat heard) state = refl
ours_before (Voted party) state = refl
ours_before (Settled party) state = refl
ours_before (Lost seat) state = refl
ours_before (AskPush seat id) state = refl
ours_before (AskPull seat superior) state = refl
ours_before (Resume id) state = refl

worded_before : (a : Option Awaited) (state : State) → word_for a (entered state).state ≡ word_for a state
worded_before None state = refl
worded_before (Some (awaited.Identify purpose.Plain)) state = refl
worded_before (Some (awaited.Identify (purpose.Query id))) state = refl
worded_before (Some (awaited.Identify (purpose.Reconnect id number))) state = refl
worded_before (Some awaited.Push) state = refl
worded_before (Some awaited.Pull) state = refl
worded_before (Some awaited.Prepare) state = refl
worded_before (Some awaited.Commit) state = refl
worded_before (Some awaited.Abort) state = refl
worded_before (Some (awaited.Query key)) state = refl
worded_before (Some awaited.Reconnect) state = refl

word_before : (event : Event) (state : State) → word_needed event (entered state).state ≡ word_needed event state
word_before (Open boxes) state = refl
word_before (Dial address purpose boxes) state = refl
word_before (Line seat heard) state = by (connection_of seat.number state) where
  by : (found : Option Connection) → option_and_then (λ (c : Connection). word_for c.awaited (entered state).state) found ≡ option_and_then (λ (c : Connection). word_for c.awaited state) found
  by None = refl
  by (Some c) = worded_before c.awaited state
word_before (Voted party) state = refl
word_before (Settled party) state = refl
word_before (Lost seat) state = refl
word_before (AskPush seat id) state = refl
word_before (AskPull seat superior) state = refl
word_before (Resume id) state = refl

module _ (a b : Held) (event : Event) (here : a.realm < length a.heads.items) (counts : HasCounts (work_of a).state) (silent : a.making.answer ≡ silence) (needs : HasNeeds event a) (open_is : is_open (work_of a).state ≡ true)
    (does : Does a b (entered (work_of a).state)) (rest : b ≡ record a { heads = b.heads; making = record a.making { answer = b.making.answer } }) where
  state_is : (work_of b).state ≡ (entered (work_of a).state).state
  state_is = ap (λ w. w.state) does.own

  able_at : (number : ℕ) → begins_on event ≡ Some number → (c : Connection) → connection_of number (entered (work_of a).state).state ≡ Some c → has_room c (entered (work_of a).state).state ≡ true → CanMake (record b { heads = b.heads }) c
  able_at number begins_there c there room =
      let below = entered_below number (work_of a).state c counts there in
      let made = below.0 in
      let less : (work_of a).state.head.entries < (work_of a).state.head.limits.entries = grind (arith, nat_tests, open_is) in
      let limits : (work_of b).state.head.limits.entries ≡ (work_of a).state.head.limits.entries = ap (λ (s : State). s.head.limits.entries) state_is in
      let one : transactions_for event ≡ 1 = ap (λ o. cond (is_some o) 1 0) begins_there in
      let free : b.transactions.free ≡ a.transactions.free = ap (λ (h : Held). h.transactions.free) rest in
      let enough = needs.transactions in record {
        made = omega (arith, made, less, limits);
        number = below.1;
        epoch = subst (λ (s : State). 0 < s.head.epoch) (sym state_is) counts.epoch;
        place = omega (arith, one, free, enough);
        room = ap (λ (h : Held). h.making.room) rest ∙ needs.transaction open_is
            ∙ ap (λ o. option_and_then (λ n. room_on n (work_of a).state) o) begins_there
            ∙ ap (λ o. option_and_then (λ d. cond (has_room d (work_of a).state) (Some (room_for (work_of a).state.head (next_key (work_of a).state.head d))) None) o) there
            ∙ ap (λ r. cond r (Some (room_for (work_of a).state.head (next_key (work_of a).state.head c))) None) room
            ∙ ap (λ (s : State). Some (room_for s.head (next_key s.head c))) (sym state_is);
      }

  pub ready : IsReady event b
  ready = record {
    here = omega (arith, here, does.realm, does.count);
    counted = subst (λ (s : State). s.head.given < s.head.entries) (sym state_is) (let le = counts.given in omega (arith, le));
    numbered = subst (λ (s : State). are_numbered s ≡ true) (sym state_is) counts.numbered;
    lines = let same = ap (lines_needed event) state_is ∙ needed_before event (work_of a).state in let free : b.making.free ≡ a.making.free = ap (λ (h : Held). h.making.free) rest in let enough = needs.lines in omega (arith, same, free, enough);
    connections = let free : b.connections.free ≡ a.connections.free = ap (λ (h : Held). h.connections.free) rest in let enough = needs.connections in omega (arith, free, enough);
    endings = subst (λ e. EndsBy (foreseen event (work_of b).state) e) (sym (ap (λ (h : Held). h.endings) rest)) (subst (λ course. EndsBy course a.endings) (sym (ap (foreseen event) state_is ∙ seen_before (work_of a).state event)) (needs.endings open_is));
    able = λ number begins_there c there room. able_at number begins_there c (sym (ap (connection_of number) state_is) ∙ there) (sym (ap (has_room c) state_is) ∙ room);
    part = λ id joins item found. needs.part id joins item (sym (ap (λ (h : Held). find (is_named (work_of a).state.head.name id) (of h.transactions h.realm)) rest) ∙ ap (λ (s : State). find (is_named s.head.name id) (of b.transactions b.realm)) (sym state_is) ∙ found);
    peer = ap (λ (h : Held). h.making.peer) rest ∙ needs.peer ∙ sym (peer_before event (work_of a).state) ∙ sym (ap (peer_needed event) state_is);
    ours = ap (λ (h : Held). h.making.ours) rest ∙ needs.ours ∙ sym (ours_before event (work_of a).state) ∙ sym (ap (ours_needed event) state_is);
    word = ap (λ (h : Held). h.making.word) rest ∙ needs.word ∙ sym (word_before event (work_of a).state) ∙ sym (ap (word_needed event) state_is);
    idle = record { work = ap (λ w. w.answer.work) does.own; spent = ap (λ w. w.answer.spent) does.own };
  }

-- The step

module _ (a : Held) (event : Event) (outcome : Outcome) where
  happens_so : (takes : Bool) → is_open (work_of a).state ≡ takes → happened (work_of a).state event outcome ≡ cond takes (chosen (attempt event (entered (work_of a).state)) outcome) (frozen event (work_of a).state)
  happens_so takes is = ap (λ b. cond b (chosen (attempt event (entered (work_of a).state)) outcome) (frozen event (work_of a).state)) is

  pub stepped_frozen : (b : Held) → is_open (work_of a).state ≡ false → Does a b (frozen event (work_of a).state) → Does a b (happened (work_of a).state event outcome)
  stepped_frozen b is does = subst (Does a b) (sym (happens_so false is)) does

  pub stepped : (b c : Held) → is_open (work_of a).state ≡ true → Does a b (entered (work_of a).state) → outcome ≡ b.outcome → Does b c (chosen (attempt event (work_of b)) b.outcome) → Does a c (happened (work_of a).state event outcome)
  stepped b c is first same second = subst (Does a c) (sym (happens_so true is))
      (subst (λ o. Does a c (chosen (attempt event (entered (work_of a).state)) o)) (sym same) (then a b c (λ w. chosen (attempt event w) b.outcome) _ first second))

pub ruleset stepping = (ready, stepped_frozen, stepped)
