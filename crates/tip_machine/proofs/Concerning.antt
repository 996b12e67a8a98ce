-- An event tells those alone whom it concerns.
use Rattle.std.proofs.Common.{◌≡◌, ◌⊎◌, inl, inr, Bool, true, false, ℕ, ◌+◌, List, [], ◌∷◌, Option, Some, None, cond, refl, ap, arith, sym, ◌∙◌, subst}
use Rattle.std.specs.Prelude.{◌&&◌, IsSome, find, length, map, nat_lt, not}
use Rattle.std.specs.List.{All, flat_map, list_all}
use Rattle.std.specs.Option.{IfSome, option_map_or}
use Rattle.std.proofs.lemmas.Bool.{and_parts, cases_Bool, or_left, or_right}
use Rattle.std.proofs.lemmas.Bool.Decides.{nat_tests}
use Rattle.std.proofs.lemmas.List.Elements.{All-append, All-cons, All-head, All-nil, All-push, All-tail}
use Rattle.std.proofs.lemmas.Option.{same_Some}
use Rattle.tip_branch.specs.Notes.{PartyNotes}
use Rattle.tip_branch.specs.declared.branch.Badge.{Badge}
use Rattle.tip_branch.specs.declared.member.Errand.TheVariants as errand
use Rattle.tip_conn.specs.Table.{admit_of}
use Rattle.tip_conn.specs.declared.state.Admit.{Admit}
use Rattle.tip_conn.specs.declared.state.Admit.TheVariants.{Serve, Wrong}
use Rattle.tip_conn.specs.declared.state.Side.{Side}
use Rattle.tip_conn.specs.declared.state.Side.TheVariants.{Primary, Secondary}
use Rattle.tip_line.specs.Command.{name_of}
use Rattle.tip_line.specs.declared.command.Command.{Command}
use Rattle.tip_line.specs.declared.command.Command.TheVariants as commands
use Rattle.tip_line.specs.declared.command.CommandName.{CommandName}
use Rattle.tip_line.specs.declared.command.CommandName.TheVariants as command
use Rattle.tip_line.specs.declared.response.Response.{Response}
use Rattle.tip_line.specs.declared.response.Response.TheVariants.{QueriedNotFound}
use Rattle.tip_line.specs.declared.response.ResponseName.TheVariants as response
use Rattle.tip_rows.specs.Keys.{Key}
use Rattle.tip_table.specs.Lists.{are_rising, without}
use Rattle.tip_txn.specs.Parts.{enlisted, is_enlisted}
use Rattle.tip_txn.specs.declared.answer.Phase.{Phase}
use Rattle.tip_machine.specs.Types.{Connection, Event, PartyPlace, Transaction}
use Rattle.tip_machine.specs.Answers.{response_name}
use Rattle.tip_machine.specs.Changes.{alter, change, reply, send, tell}
use Rattle.tip_machine.specs.Commands.{begin, commanded, make, making, obey, pull, pull_into, push, push_new, reconnect, reconnect_to, serve, serve_if}
use Rattle.tip_machine.specs.Connections.{advanced, awaiting, has_number, is_free, is_on, is_superior_of, key_of, may_take, names, taking}
use Rattle.tip_machine.specs.Failing.{closed, wrong}
use Rattle.tip_machine.specs.Given.{are_numbered, numbers_of}
use Rattle.tip_machine.specs.Order.{IsAmong, concerned, is_among, is_on_any, key_found, key_on, named_by}
use Rattle.tip_machine.specs.Proceeding.{dispatch, dispatched, finish, proceed}
use Rattle.tip_machine.specs.Reactions.{Reaction, react, reacted, reacts, sent_by, stays}
use Rattle.tip_machine.specs.Requests.{added, ask_pull, ask_push, dial, hear, line, lost, opened, owner, pull_if, push_part, resume, resume_in, settled, settled_for, voted, voted_for}
use Rattle.tip_machine.specs.Responses.{answered_by, go_on, is_in_doubt, presume_abort, responded}
use Rattle.tip_machine.specs.States.{Attempt, State, Work, connection_of, has_place, has_room, identified_by, seated, transaction_of}
use Rattle.tip_machine.specs.Steps.{attempt, chosen, entered}
use Rattle.tip_machine.specs.Transactions.{enlisting, has_ready, is_active, is_committed, is_done, is_known, standing_at}
use Rattle.tip_machine.specs.declared.answer.Asked.{Asked}
use Rattle.tip_machine.specs.declared.answer.Asked.TheVariants as asked
use Rattle.tip_machine.specs.declared.answer.Item.{Item}
use Rattle.tip_machine.specs.declared.answer.Item.TheVariants.{Ask, Close, Say}
use Rattle.tip_machine.specs.declared.answer.Said.{Said}
use Rattle.tip_machine.specs.declared.answer.Said.TheVariants as said
use Rattle.tip_machine.specs.declared.answer.Sent.{Sent}
use Rattle.tip_machine.specs.declared.connection.Awaited.{Awaited}
use Rattle.tip_machine.specs.declared.connection.Awaited.TheVariants.{Push, Query}
use Rattle.tip_machine.specs.declared.connection.Purpose.{Purpose}
use Rattle.tip_machine.specs.declared.connection.Role.{Role}
use Rattle.tip_machine.specs.declared.connection.Role.TheVariants.{Superior, Subordinate}
use Rattle.tip_machine.specs.declared.event.Concerned.{Concerned}
use Rattle.tip_machine.specs.declared.event.Event.TheVariants.{Open, Dial, Line, Voted, Settled, Lost, AskPush, AskPull, Resume}
use Rattle.tip_machine.specs.declared.event.Heard.{Heard}
use Rattle.tip_machine.specs.declared.event.Heard.TheVariants.{Command as ACommand, Response as AResponse}
use Rattle.tip_machine.specs.declared.event.Outcome.{Outcome}
use Rattle.tip_machine.specs.declared.event.Seat.{Seat}
use Rattle.tip_machine.specs.declared.transaction.Origin.{Origin}
use Rattle.tip_machine.specs.declared.transaction.PartyPlace.TheVariants.{Here, Out, Spent}
use Rattle.tip_machine.proofs.Walks.{Closed, Ends, EndsOn, attempt_on_each, chosen_ends, either, either_ends, found-number, found_passes, more_ends, on_each, on_found, seated_there, superior-on}
use Rattle.tip_machine.proofs.Lists.{all-changed, all-found, all-without}
use Rattle.tip_machine.proofs.RuleWalks.{abort-keeps, advanced-number, closed-keeps, decide_abort-keeps, decide_commit-keeps, dispatch-keeps, fail-keeps, identify-keeps, obey-keeps, prepare-keeps, proceed-keeps, query-keeps, reconnect_to-keeps, wrong-keeps}
use Rattle.tip_machine.proofs.EventWalks.{go_on-keeps, is_denial, responded-keeps}
use Rattle.tip_machine.proofs.Others.{number-reacted, stays_off}
use Rattle.tip_machine.proofs.Rising.{found-below, numbers_rise, own_number}

module _ (May : ℕ → Type 0) (On : Key → Type 0) where
  abbrev MayBeTold : Sent → Type 0
  MayBeTold sent = May sent.connection

  abbrev MayWhereOn : Key → Connection → Type 0
  MayWhereOn key c = is_on key c ≡ true → May c.number

  -- those alone were told so far that may be, and those on the transactions may be
  abbrev Heeds : Work → Type 0
  Heeds w = All MayBeTold w.answer.sent × ((key : Key) → On key → All (MayWhereOn key) w.state.connections)

  abbrev Keeps : Work → Work → Type 0
  Keeps w v = Heeds w → Heeds v

  either_way : (P : Work → Type 0) (a : Attempt) → EndsOn On P a → Ends P a
  either_way P (Attempt.Done w) p = p
  either_way P (Attempt.Asks change stored refused) p = (p.1, p.2)

  -- Each single change

  tells : (n : ℕ) (item : Item) (w : Work) → May n → Keeps w (tell n item w)
  tells n item w may heeds = (All-push MayBeTold w.answer.sent (record { connection = n; item = item }) heeds.0 may, heeds.1)

  changes : (n : ℕ) (f : Connection → Connection) (w : Work) → May n → ((c : Connection) → (f c).number ≡ c.number) → Keeps w (change n f w)
  changes n f w may same heeds = (heeds.0, λ key on. all-changed (MayWhereOn key) (has_number n) f w.state.connections (λ c found before there. subst May (sym (same c ∙ found-number n w.state.connections c found)) may) (heeds.1 key on))

  takes : (n : ℕ) (w : Work) → Keeps w (record w { state = record w.state { connections = without (has_number n) w.state.connections } })
  takes n w heeds = (heeds.0, λ key on. all-without (MayWhereOn key) (has_number n) w.state.connections (heeds.1 key on))

  -- a connection of a superior that was found
  superior_may : (key : Key) (c : Connection) (w : Work) → On key → find (is_superior_of key) w.state.connections ≡ Some c → Heeds w → May c.number
  superior_may key c w on found heeds = all-found (MayWhereOn key) (is_superior_of key) w.state.connections c found (heeds.1 key on) (superior-on key c.role (found_passes (is_superior_of key) w.state.connections c found))

  makes : (from : Origin) (c : Connection) (w : Work) → May c.number → Keeps w (make from c w)
  unfolding make
  makes from c w may heeds = changes c.number (making _ _) w may (λ d. refl) heeds

  module _ (reaction : Reaction) (key : Key) where
    lines_may : (c : Connection) (items : List Item) → May c.number → All MayBeTold (map (λ item. record { connection = c.number; item = item }) items)
    lines_may c [] may = All-nil MayBeTold
    lines_may c (item ∷ items) may = All-cons MayBeTold (record { connection = c.number; item = item }) _ may (lines_may c items may)

    sent_may : (c : Connection) → MayWhereOn key c → All MayBeTold (sent_by reaction key c)
    sent_may c may = step (is_on key c) refl where
      step : (b : Bool) → is_on key c ≡ b → All MayBeTold (map (λ item. record { connection = c.number; item = item }) (cond b (reacts reaction key c.owed c) (stays c)).items)
      step true on = lines_may c (reacts reaction key c.owed c).items (may on)
      step false off = All-nil MayBeTold

    all_sent_may : (cs : List Connection) → All (MayWhereOn key) cs → All MayBeTold (flat_map (sent_by reaction key) cs)
    all_sent_may [] all = All-nil MayBeTold
    all_sent_may (c ∷ cs) all = All-append MayBeTold (sent_by reaction key c) (flat_map (sent_by reaction key) cs) (sent_may c (All-head (MayWhereOn key) c cs all)) (all_sent_may cs (All-tail (MayWhereOn key) c cs all))

    abbrev become : Connection → Connection
    become c = (reacted reaction key c).connection

    become_may : (at : Key) (c : Connection) → MayWhereOn key c → MayWhereOn at c → MayWhereOn at (become c)
    become_may at c here there = elim (cases_Bool (is_on key c)) [
      | inl on ↦ λ is. subst May (sym (number-reacted key reaction c)) (here on)
      | inr off ↦ subst (MayWhereOn at) (sym (stays_off (is_on key c) (reacts reaction key c.owed c) c off)) there
    ]

    all_become_may : (at : Key) (cs : List Connection) → All (MayWhereOn key) cs → All (MayWhereOn at) cs → All (MayWhereOn at) (map become cs)
    all_become_may at [] here there = All-nil (MayWhereOn at)
    all_become_may at (c ∷ cs) here there = All-cons (MayWhereOn at) (become c) (map become cs) (become_may at c (All-head (MayWhereOn key) c cs here) (All-head (MayWhereOn at) c cs there)) (all_become_may at cs (All-tail (MayWhereOn key) c cs here) (All-tail (MayWhereOn at) c cs there))

  has_reacted : (reaction : Reaction) (key : Key) (w : Work) → On key → Keeps w (react reaction key w)
  unfolding react
  has_reacted reaction key w on heeds = (
    All-append MayBeTold w.answer.sent (flat_map (sent_by reaction key) w.state.connections) heeds.0 (all_sent_may reaction key w.state.connections (heeds.1 key on)),
    λ at on_it. all_become_may reaction key at w.state.connections (heeds.1 key on) (heeds.1 at on_it),
  )

  closed_by_keeps : Closed Keeps May On
  closed_by_keeps = record {
    same = λ w heeds. heeds;
    then = λ a b c first later heeds. later (first heeds);
    tells = λ n item w may of. tells n item w may;
    dismisses = λ key c w v on found keeps heeds. tells c.number Close v (superior_may key c w on found heeds) (keeps heeds);
    gives = λ errand party key w on here heeds. heeds;
    lets = λ party key w on here heeds. heeds;
    returns = λ party t w on own heeds. heeds;
    hands = λ w boxes heeds. heeds;
    alters = λ key f w on own place heeds. heeds;
    ends = λ key w on heeds. heeds;
    makes = λ from c w may on there. makes from c w may;
    changes = λ n f w may same made. changes n f w may same;
    reacts = λ reaction key w plain on. has_reacted reaction key w on;
    takes = λ n w may. takes n w;
    displaces = λ key c w v on found keeps heeds. takes c.number v (keeps heeds);
  }

  -- Rules that tell their own connection alone, whatever transaction they make or change

  replies : (n : ℕ) (command : CommandName) (said : Said) (w : Work) → May n → Keeps w (reply n command said w)
  unfolding reply
  replies n command said w may heeds = changes n (advanced command (response_name said)) (tell n (Say said) w) may (advanced-number command (response_name said)) (tells n (Say said) w may heeds)

  sends : (n : ℕ) (awaited : Awaited) (asked : Asked) (w : Work) → May n → Keeps w (send n awaited asked w)
  unfolding send
  sends n awaited asked w may heeds = changes n (awaiting awaited) (tell n (Ask asked) w) may (λ c. refl) (tells n (Ask asked) w may heeds)

  begins : (c : Connection) (w : Work) → May c.number → Keeps w (begin c w)
  unfolding begin
  begins c w may = either (Keeps w) (has_room c w.state) _ _ (λ heeds. replies c.number _ _ _ may (makes _ c w may heeds)) (replies c.number _ _ w may)

  pushes_new : (superior : List ℕ) (c : Connection) (w : Work) → May c.number → Keeps w (push_new superior c w)
  pushes_new superior c w may = either (Keeps w) (has_room c w.state) _ _ (λ heeds. replies c.number _ _ _ may (makes _ c w may heeds)) (replies c.number _ _ w may)

  pushes : (superior : List ℕ) (c : Connection) (w : Work) → May c.number → Keeps w (push superior c w)
  unfolding push
  pushes superior c w may = by (find (is_known c.peer superior) w.state.transactions) where
    by : (found : Option Transaction) → Keeps w (option_map_or (λ t. reply c.number command.Push (said.AlreadyPushed t.key) w) found (push_new superior c w))
    by None = pushes_new superior c w may
    by (Some t) = replies c.number _ _ w may

  -- what was told before, a connection takes its part
  joins : (key : Key) (part : ℕ) (f : Transaction → Transaction) (n : ℕ) (w v : Work) → May n → Keeps w v → Keeps w (change n (taking (Subordinate key part)) (alter key f v))
  joins key part f n w v may keeps heeds = changes n (taking (Subordinate key part)) (alter key f v) may (λ c. refl) (keeps heeds)

  pulls_into : (found : Option Transaction) (peer : Option (List ℕ)) (subordinate : List ℕ) (n : ℕ) (w : Work) → May n → Keeps w (pull_into found peer subordinate n w)
  pulls_into (Some t) (Some address) subordinate n w may = either (Keeps w) (is_active t.phase && not (is_enlisted t.parts address (Some subordinate))) _ _ (joins t.key (length t.parts) (enlisting (enlisted address (Some subordinate))) n w (reply n command.Pull said.Pulled w) may (replies n _ _ w may)) (replies n _ _ w may)
  pulls_into None peer subordinate n w may = replies n _ _ w may
  pulls_into (Some t) None subordinate n w may = replies n _ _ w may

  pulls : (superior subordinate : List ℕ) (c : Connection) (w : Work) → May c.number → Keeps w (pull superior subordinate c w)
  unfolding pull
  pulls superior subordinate c w may = pulls_into (identified_by superior w.state) c.peer subordinate c.number w may

  pushes_part : (found : Option Transaction) (peer : Option (List ℕ)) (n : ℕ) (w : Work) → May n → Keeps w (push_part found peer n w)
  pushes_part (Some t) (Some address) n w may = either (Keeps w) (is_active t.phase) _ _ (joins t.key (length t.parts) (enlisting (enlisted address None)) n w (send n Push (asked.Push t.key) w) may (sends n _ _ w may)) (λ heeds. heeds)
  pushes_part None peer n w may = λ heeds. heeds
  pushes_part (Some t) None n w may = λ heeds. heeds

  pulls_if : (found : Option Transaction) (superior : List ℕ) (c : Connection) (w : Work) → May c.number → Keeps w (pull_if found superior c w)
  pulls_if None superior c w may = either (Keeps w) (has_room c w.state) _ _ (λ heeds. sends c.number _ _ _ may (makes _ c w may heeds)) (λ heeds. heeds)
  pulls_if (Some t) superior c w may = λ heeds. heeds

  -- Lines

  module _ (c : Connection) (may : May c.number) (on : IfSome (key_of c.role) On) where
    obeys : (command : CommandName) (rule : Transaction → Work → Attempt) (w : Work) → ((t : Transaction) (v : Work) → On t.key → transaction_of t.key v.state ≡ Some t → EndsOn On (Keeps v) (rule t v)) → Ends (Keeps w) (obey command rule c w)
    obeys command rule w keeps = either_way (Keeps w) _ (obey-keeps Keeps May On closed_by_keeps command rule c w may on keeps)

    reconnects : (subordinate : List ℕ) (w : Work) → IfSome (key_found (identified_by subordinate w.state)) On → Keeps w (reconnect subordinate c w)
    unfolding reconnect
    reconnects subordinate w named = by (identified_by subordinate w.state) named where
      by : (found : Option Transaction) → IfSome (key_found found) On → Keeps w (reconnect_to found c.number w)
      by None named = reconnect_to-keeps Keeps May On closed_by_keeps None c.number w may tt
      by (Some t) named = reconnect_to-keeps Keeps May On closed_by_keeps (Some t) c.number w may named

    hangs_up : (w : Work) → Keeps w (closed c w)
    hangs_up w = closed-keeps Keeps May On closed_by_keeps c w may on

    goes_wrong : (w : Work) → Keeps w (wrong c w)
    goes_wrong w = wrong-keeps Keeps May On closed_by_keeps c w may on

    serves : (asked : Command) (w : Work) → IfSome (named_by (ACommand asked) (Some c) w.state) On → Ends (Keeps w) (serve asked c w)
    serves (commands.Identify lowest highest peer secondary) w named = identify-keeps Keeps May On closed_by_keeps lowest highest peer c w may on
    serves commands.Begin w named = begins c w may
    serves (commands.Push superior) w named = pushes superior c w may
    serves (commands.Pull superior subordinate) w named = pulls superior subordinate c w may
    serves commands.Prepare w named = obeys command.Prepare _ w (λ t v on_it is. prepare-keeps Keeps May On closed_by_keeps t.phase c.peer c t v on_it is)
    serves commands.Commit w named = obeys command.Commit _ w (λ t v on_it is. decide_commit-keeps Keeps May On closed_by_keeps t.phase c t v may on on_it is)
    serves commands.Abort w named = obeys command.Abort _ w (λ t v on_it is. decide_abort-keeps Keeps May On closed_by_keeps t.phase c t v may on on_it)
    serves (commands.Query superior) w named = query-keeps Keeps May On closed_by_keeps superior c w may
    serves (commands.Reconnect subordinate) w named = reconnects subordinate w named
    serves (commands.Multiplex protocol) w named = replies c.number _ _ w may
    serves commands.Tls w named = replies c.number _ _ w may
    serves commands.Error w named = hangs_up w

    serves_if : (admit : Admit) (asked : Command) (w : Work) → IfSome (named_by (ACommand asked) (Some c) w.state) On → Ends (Keeps w) (serve_if admit asked c w)
    serves_if Serve asked w named = serves asked w named
    serves_if Wrong asked w named = goes_wrong w

    is_commanded : (asked : Command) (w : Work) → IfSome (named_by (ACommand asked) (Some c) w.state) On → Ends (Keeps w) (commanded asked c w)
    unfolding commanded
    is_commanded asked w named = serves_if (admit_of c.state c.side (name_of asked)) asked w named

    presumes_abort : (t : Transaction) (w : Work) → On t.key → Ends (Keeps w) (presume_abort c t w)
    presumes_abort t w on_it = either_ends (Keeps w) (is_in_doubt w.state t) _ _ (abort-keeps Keeps May On closed_by_keeps t.key w on_it, hangs_up w) (λ heeds. heeds)

    denies : (key : Key) (w : Work) → On key → Ends (Keeps w) (responded (Query key) QueriedNotFound c w)
    denies key w on_it =
        let gone_on = go_on command.Query response.QueriedNotFound c w in
        let first = go_on-keeps Keeps May On closed_by_keeps command.Query response.QueriedNotFound c w may in
        attempt_on_each (Ends (Keeps w)) (transaction_of key gone_on.state) (presume_abort c) gone_on first
        (λ t is. more_ends (Keeps gone_on) (Keeps w) (λ v later heeds. later (first heeds)) _ (presumes_abort t gone_on (on_found On key gone_on.state.transactions t is on_it)))

    undenied : (awaited : Awaited) (response : Response) (w : Work) → is_denial response ≡ false → Ends (Keeps w) (responded awaited response c w)
    undenied awaited response w is = either_way (Keeps w) (responded awaited response c w) (responded-keeps Keeps May On closed_by_keeps c may on awaited response w is)

    responds : (awaited : Awaited) (response : Response) (w : Work) → IfSome (named_by (AResponse response) (Some (record c { awaited = Some awaited })) w.state) On → Ends (Keeps w) (responded awaited response c w)
    responds (Query key) QueriedNotFound w named = denies key w named
    responds awaited QueriedNotFound w named = goes_wrong w
    responds awaited other w named = undenied awaited other w refl

    is_answered : (awaited : Option Awaited) (response : Response) (w : Work) → IfSome (named_by (AResponse response) (Some (record c { awaited = awaited })) w.state) On → Ends (Keeps w) (answered_by awaited response c w)
    is_answered None response w named = λ heeds. heeds
    is_answered (Some awaited) response w named = responds awaited response w named

    is_heard : (side : Side) (heard : Heard) (w : Work) → IfSome (named_by heard (Some c) w.state) On → Ends (Keeps w) (hear side heard c w)
    is_heard Secondary (ACommand asked) w named = is_commanded asked w named
    is_heard Primary (ACommand commands.Error) w named = hangs_up w
    is_heard Primary (AResponse response) w named = is_answered c.awaited response w named
    is_heard side other w named = goes_wrong w

  -- Parties that come back

  module _ (t : Transaction) (on : On t.key) (w : Work) where
    goes_on : (v : Work) → Keeps w v → Ends (Keeps w) (proceed t.key v)
    goes_on v keeps = either_way (Keeps w) _ (proceed-keeps Keeps May On closed_by_keeps w t.key v on keeps)

    has_voted : (place : PartyPlace) (party : PartyNotes) → Ends (Keeps w) (voted_for place party t w)
    has_voted (Out errand.Vote) party = goes_on _ (λ heeds. heeds)
    has_voted place party = λ heeds. heeds

    has_settled : (place : PartyPlace) (party : PartyNotes) → Ends (Keeps w) (settled_for place party t w)
    has_settled (Out errand.Commit) party =
        let here = alter t.key (standing_at (Here party)) w in
        goes_on _ (either (Keeps w) (has_ready party) here (dispatch t.key here) (λ heeds. heeds) (dispatch-keeps Keeps May On closed_by_keeps t.key here on))
    has_settled (Out errand.Abort) party = goes_on _ (λ heeds. heeds)
    has_settled place party = λ heeds. heeds

  is_voted : (found : Option Transaction) (party : PartyNotes) (w : Work) → IfSome (key_found found) On → Ends (Keeps w) (voted found party w)
  unfolding voted
  is_voted None party w named = λ heeds. heeds
  is_voted (Some t) party w named = has_voted t named w t.place party

  is_settled : (found : Option Transaction) (party : PartyNotes) (w : Work) → IfSome (key_found found) On → Ends (Keeps w) (settled found party w)
  unfolding settled
  is_settled None party w named = λ heeds. heeds
  is_settled (Some t) party w named = has_settled t named w t.place party

  -- What is left of a committed transaction: its party is told, or its row removed, and no connection is told anything

  is_dispatched : (place : PartyPlace) (phase : Phase) (key : Key) (w : Work) → Keeps w (dispatched place phase key w)
  is_dispatched (Here party) phase key w = either (Keeps w) (has_ready party) _ _ (λ heeds. heeds) (λ heeds. heeds)
  is_dispatched (Out errand) phase key w = λ heeds. heeds
  is_dispatched Spent phase key w = λ heeds. heeds

  dispatches : (key : Key) (w : Work) → Keeps w (dispatch key w)
  unfolding dispatch
  dispatches key w = on_each (Keeps w) (transaction_of key w.state) _ w (λ heeds. heeds) (λ t is. is_dispatched t.place t.phase key w)

  finishes : (t : Transaction) (w : Work) → Ends (Keeps w) (finish t w)
  unfolding finish
  finishes t w = either_ends (Keeps w) (is_done t) _ _ (λ heeds. heeds, λ heeds. heeds) (λ heeds. heeds)

  resumes_in : (place : PartyPlace) (t : Transaction) (w : Work) → Ends (Keeps w) (resume_in place t w)
  resumes_in (Here party) t w = dispatches t.key w
  resumes_in (Out errand) t w = λ heeds. heeds
  resumes_in Spent t w = either_ends (Keeps w) (is_done t) (finish t w) _ (finishes t w) (λ heeds. heeds)

  resumes : (found : Option Transaction) (w : Work) → Ends (Keeps w) (resume found w)
  unfolding resume
  resumes None w = λ heeds. heeds
  resumes (Some t) w = either_ends (Keeps w) (is_committed t.phase) (resume_in t.place t w) _ (resumes_in t.place t w) (λ heeds. heeds)

  -- Events

  -- the connection that an event comes on may be told, and so may those on its transaction
  abbrev MayCome : Option Connection → Type 0
  MayCome found = (c : Connection) → found ≡ Some c → May c.number × IfSome (key_of c.role) On

  has_line : (found : Option Connection) (heard : Heard) (w : Work) → MayCome found → IfSome (named_by heard found w.state) On → Ends (Keeps w) (line found heard w)
  unfolding line
  has_line None heard w may named = λ heeds. heeds
  has_line (Some c) heard w may named = let own = may c refl in either_ends (Keeps w) (may_take c) (hear c.side heard c w) _ (is_heard c own.0 own.1 c.side heard w named) (λ heeds. heeds)

  is_lost : (found : Option Connection) (w : Work) → MayCome found → Keeps w (lost found w)
  unfolding lost
  is_lost None w may = λ heeds. heeds
  is_lost (Some c) w may = let own = may c refl in fail-keeps Keeps May On closed_by_keeps c w own.0 own.1

  asks_push : (found : Option Connection) (id : List ℕ) (w : Work) → MayCome found → Keeps w (ask_push found id w)
  unfolding ask_push
  asks_push None id w may = λ heeds. heeds
  asks_push (Some c) id w may = either (Keeps w) (is_free c) _ _ (pushes_part (identified_by id w.state) c.peer c.number w (may c refl).0) (λ heeds. heeds)

  asks_pull : (found : Option Connection) (superior : List ℕ) (w : Work) → MayCome found → Keeps w (ask_pull found superior w)
  unfolding ask_pull
  asks_pull None superior w may = λ heeds. heeds
  asks_pull (Some c) superior w may = either (Keeps w) (is_free c) _ _ (pulls_if (find (is_known c.peer superior) w.state.transactions) superior c w (may c refl).0) (λ heeds. heeds)

-- The transactions that are concerned

own_on : (role : Option Role) → IsSome role → option_map_or (λ key. names key role) (key_of role) false ≡ true
own_on None some = absurd (cc)
own_on (Some (Superior key)) some = grind (arith, nat_tests)
own_on (Some (Subordinate key part)) some = grind (arith, nat_tests)

-- each connection is found by its number
abbrev IsFound : List Connection → Connection → Type 0
IsFound cs c = find (has_number c.number) cs ≡ Some c

-- one before them, of a lower number, is no other
found_behind : (c : Connection) (cs ds : List Connection) → list_all (nat_lt c.number) (numbers_of ds) ≡ true → All (IsFound cs) ds → All (IsFound (c ∷ cs)) ds
found_behind c cs [] above all = All-nil (IsFound (c ∷ cs))
found_behind c cs (d ∷ ds) above all =
    let parts = and_parts (nat_lt c.number d.number) (list_all (nat_lt c.number) (numbers_of ds)) above in
    let less = parts.0 in
    let other : has_number d.number c ≡ false = grind (arith, nat_tests, less) in
    All-cons (IsFound (c ∷ cs)) d ds (rw other (All-head (IsFound cs) d ds all)) (found_behind c cs ds parts.1 (All-tail (IsFound cs) d ds all))

each_found : (cs : List Connection) → are_rising (numbers_of cs) ≡ true → All (IsFound cs) cs
each_found [] rising = All-nil (IsFound [])
each_found (c ∷ cs) rising =
    let parts = and_parts (list_all (nat_lt c.number) (numbers_of cs)) (are_rising (numbers_of cs)) rising in
    All-cons (IsFound (c ∷ cs)) c cs (rw (own_number c.number) refl) (found_behind c cs cs parts.0 (each_found cs parts.1))

abbrev IsThis : Concerned → Key → Type 0
IsThis these key = (these.own ≡ Some key) ⊎ (these.named ≡ Some key)

module _ (state : State) (numbered : are_numbered state ≡ true) (these : Concerned) where
  abbrev MayTell : ℕ → Type 0
  MayTell number = IsAmong these state number

  among : (key : Key) (c : Connection) → IsThis these key → is_on key c ≡ true → is_among these c ≡ true
  among key c (inl own) on = or_left (is_on_any these.own c) (is_on_any these.named c) (rw own on)
  among key c (inr named) on = or_right (is_on_any these.own c) (is_on_any these.named c) (rw named on)

  -- of the connections of a number there is one
  may_tell : (c : Connection) → connection_of c.number state ≡ Some c → (IsSome c.role → is_among these c ≡ true) → MayTell c.number
  may_tell c there is d found = subst (λ (e : Connection). IsSome e.role → is_among these e ≡ true) (same_Some c d (sym there ∙ found)) is

  may_on : (key : Key) → IsThis these key → (cs : List Connection) → All (IsFound state.connections) cs → All (MayWhereOn MayTell (IsThis these) key) cs
  may_on key this [] there = All-nil _
  may_on key this (c ∷ cs) there = All-cons (MayWhereOn MayTell (IsThis these) key) c cs (λ on. may_tell c (All-head (IsFound state.connections) c cs there) (λ some. among key c this on)) (may_on key this cs (All-tail (IsFound state.connections) c cs there))

  may_at_first : Heeds MayTell (IsThis these) (entered state)
  may_at_first = (All-nil _, λ key this. may_on key this state.connections (each_found state.connections (numbers_rise state numbered)))

  told : (a : Attempt) (outcome : Outcome) → Ends (Keeps MayTell (IsThis these) (entered state)) a → All (λ (sent : Sent). MayTell sent.connection) (chosen a outcome).answer.sent
  told a outcome ends = (chosen_ends (Keeps MayTell (IsThis these) (entered state)) a outcome ends may_at_first).0

  is_this : (found : Option Key) → (these.own ≡ found) ⊎ (these.named ≡ found) → IfSome found (IsThis these)
  is_this None is = tt
  is_this (Some key) is = is

  may_come : (seat : Seat) → these.own ≡ key_on (seated seat state) → MayCome MayTell (IsThis these) (seated seat state)
  may_come seat own c found =
      let is = own ∙ ap key_on found in (
        may_tell c (seated_there seat state c found) (λ some. or_left (is_on_any these.own c) (is_on_any these.named c) (rw is (own_on c.role some))),
        is_this (key_of c.role) (inl is),
      )

  may_be_new : MayTell (state.head.given + 1)
  may_be_new c found =
      let below = found-below (state.head.given + 1) (has_number (state.head.given + 1)) state.connections c found numbered in
      let number = found-number (state.head.given + 1) state.connections c found in
      absurd (omega (arith, below, number))

-- Connections that are opened

abbrev Tells : (ℕ → Type 0) → Work → Type 0
Tells P w = All (λ (sent : Sent). P sent.connection) w.answer.sent

opened_tells : (P : ℕ → Type 0) (boxes : List Badge) (w : Work) → Tells P w → Tells P (opened boxes w)
unfolding opened added
opened_tells P boxes w all = either (Tells P) (has_place (length boxes) w.state) _ _ all all

dial_tells : (P : ℕ → Type 0) (address : List ℕ) (purpose : Purpose) (boxes : List Badge) (w : Work) → Tells P w → P (w.state.head.given + 1) → Tells P (dial address purpose boxes w)
unfolding dial added
dial_tells P address purpose boxes w all new = either (Tells P) (has_place (length boxes) w.state) _ _ (All-push (λ (sent : Sent). P sent.connection) w.answer.sent _ all new) all

-- the entry of an event changes nobody that its line names
named_once_entered : (state : State) (found : Option Connection) (heard : Heard) → named_by heard found state ≡ named_by heard found (entered state).state
named_once_entered state found (ACommand (commands.Reconnect subordinate)) = refl
named_once_entered state found (AResponse QueriedNotFound) = refl
named_once_entered state found other = refl

pub tells_those : (state : State) (event : Event) (outcome : Outcome) → are_numbered state ≡ true → All (λ (sent : Sent). IsAmong (concerned state event) state sent.connection) (chosen (attempt event (entered state)) outcome).answer.sent
tells_those state (Open boxes) outcome numbered = opened_tells (IsAmong (concerned state (Open boxes)) state) boxes (entered state) (All-nil _)
tells_those state (Dial address purpose boxes) outcome numbered = let these = concerned state (Dial address purpose boxes) in dial_tells (IsAmong these state) address purpose boxes (entered state) (All-nil _) (may_be_new state numbered these)
tells_those state (Line seat heard) outcome numbered =
    let these = concerned state (Line seat heard) in
    told state numbered these (attempt (Line seat heard) (entered state)) outcome
    (has_line (IsAmong these state) (IsThis these) (seated seat state) heard (entered state) (may_come state numbered these seat refl) (is_this state numbered these (named_by heard (seated seat state) (entered state).state) (inr (named_once_entered state (seated seat state) heard))))
tells_those state (Voted party) outcome numbered =
    let these = concerned state (Voted party) in
    told state numbered these (attempt (Voted party) (entered state)) outcome (is_voted (IsAmong these state) (IsThis these) (owner party state) party (entered state) (is_this state numbered these (key_found (owner party state)) (inr refl)))
tells_those state (Settled party) outcome numbered =
    let these = concerned state (Settled party) in
    told state numbered these (attempt (Settled party) (entered state)) outcome (is_settled (IsAmong these state) (IsThis these) (owner party state) party (entered state) (is_this state numbered these (key_found (owner party state)) (inr refl)))
tells_those state (Lost seat) outcome numbered =
    let these = concerned state (Lost seat) in
    told state numbered these (attempt (Lost seat) (entered state)) outcome (is_lost (IsAmong these state) (IsThis these) (seated seat state) (entered state) (may_come state numbered these seat refl))
tells_those state (AskPush seat id) outcome numbered =
    let these = concerned state (AskPush seat id) in
    told state numbered these (attempt (AskPush seat id) (entered state)) outcome (asks_push (IsAmong these state) (IsThis these) (seated seat state) id (entered state) (may_come state numbered these seat refl))
tells_those state (AskPull seat superior) outcome numbered =
    let these = concerned state (AskPull seat superior) in
    told state numbered these (attempt (AskPull seat superior) (entered state)) outcome (asks_pull (IsAmong these state) (IsThis these) (seated seat state) superior (entered state) (may_come state numbered these seat refl))
tells_those state (Resume id) outcome numbered =
    let these = concerned state (Resume id) in
    told state numbered these (attempt (Resume id) (entered state)) outcome (resumes (IsAmong these state) (IsThis these) (identified_by id state) (entered state))
