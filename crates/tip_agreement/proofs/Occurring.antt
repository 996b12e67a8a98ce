-- What each event comes to: how the transactions of a sound world go on.
use Rattle.std.proofs.Common.{◌≡◌, true, ℕ, ◌+◌, List, Option, Some, None, refl, inl}
use Rattle.std.specs.Prelude.{length}
use Rattle.tip_conn.specs.declared.state.Admit.{Admit}
use Rattle.tip_conn.specs.declared.state.Admit.TheVariants.{Serve, Wrong}
use Rattle.tip_conn.specs.Table.{admit_of}
use Rattle.tip_conn.specs.declared.state.Side.{Side}
use Rattle.tip_conn.specs.declared.state.Side.TheVariants.{Primary, Secondary}
use Rattle.tip_branch.specs.Notes.{PartyNotes}
use Rattle.tip_branch.specs.declared.branch.Badge.{Badge}
use Rattle.tip_branch.specs.declared.member.Errand.{Errand}
use Rattle.tip_branch.specs.declared.member.Errand.TheVariants as errand
use Rattle.tip_line.specs.Command.{name_of}
use Rattle.tip_line.specs.declared.command.Command.{Command}
use Rattle.tip_line.specs.declared.command.Command.TheVariants as commands
use Rattle.tip_line.specs.declared.refusal.Refusal.TheVariants.{Busy, Full, Stale}
use Rattle.tip_line.specs.declared.response.Response.{Response}
use Rattle.tip_machine.specs.Changes.{refuse, tell}
use Rattle.tip_machine.specs.Commands.{commanded, serve_if}
use Rattle.tip_machine.specs.Connections.{accepted, dialled, may_take}
use Rattle.tip_machine.specs.Honest.{brings_no_party}
use Rattle.tip_machine.specs.Invariants.Bounds.{is_spelled}
use Rattle.tip_machine.specs.Requests.{added, ask_pull, ask_push, dial, hand_back, hear, line, lost, opened}
use Rattle.tip_machine.specs.Responses.{answered_by}
use Rattle.tip_machine.specs.Returns.{Back, back_from, back_of, event_of}
use Rattle.tip_machine.specs.States.{Attempt, Work, connection_of, has_place, identified_by, seated}
use Rattle.tip_machine.specs.Steps.{attempt}
use Rattle.tip_machine.specs.Transactions.{has_id, next_key}
use Rattle.tip_machine.specs.Types.{Connection, Event}
use Rattle.tip_machine.specs.declared.answer.Asked.TheVariants as asked
use Rattle.tip_machine.specs.declared.answer.Item.TheVariants.{Ask}
use Rattle.tip_machine.specs.declared.connection.Awaited.{Awaited}
use Rattle.tip_machine.specs.declared.connection.Purpose.{Purpose}
use Rattle.tip_machine.specs.declared.event.Event.TheVariants.{AskPull, AskPush, Dial, Line, Lost, Open, Resume, Settled, Voted}
use Rattle.tip_machine.specs.declared.event.Heard.{Heard}
use Rattle.tip_machine.specs.declared.event.Heard.TheVariants.{Command as ACommand, Malformed, Response as AResponse}
use Rattle.tip_machine.proofs.Walks.{either_attempt, seated_there}
use Rattle.tip_agreement.proofs.Answered.{ask_pull_goes, ask_push_goes, responds_goes, resume_goes}
use Rattle.tip_agreement.proofs.Around.{Whole}
use Rattle.tip_agreement.proofs.Commanded.{EndsGo, beside_goes, either_goes, fail_goes, goes_wrong, hangs_up, ready, serves_goes}
use Rattle.tip_agreement.proofs.Homecoming.{BackGoes, settles_back, votes_back}
use Rattle.tip_agreement.proofs.Returned.{IsAwaited}
use Rattle.tip_agreement.proofs.Sound.{found_by}
use Rattle.tip_agreement.proofs.Wording.{Quiet, asks_more, silent}

-- a connection's next transaction has a key that fits
abbrev pub IsNextSpelled : Work → Type 0
IsNextSpelled w = (c : Connection) → connection_of c.number w.state ≡ Some c → is_spelled (next_key w.state.head c) ≡ true

module _ (w : Work) (whole : Whole w.state) (spelled : IsNextSpelled w) where
  aside : (u : Work) → u.state.head.epoch ≡ w.state.head.epoch → u.state.head.name ≡ w.state.head.name → u.state.transactions ≡ w.state.transactions → u.answer.work ≡ w.answer.work → u.answer.spent ≡ w.answer.spent → Quiet w.answer.sent u.answer.sent → EndsGo w (Attempt.Done u)
  aside u epoch name transactions work spent said = inl (beside_goes w u (record { epoch = epoch; name = name; transactions = transactions; work = work; spent = spent; said = said }))

  opens : (boxes : List Badge) → EndsGo w (Attempt.Done (opened boxes w))
  unfolding opened added
  opens boxes = either_goes w (has_place (length boxes) w.state) (added (accepted boxes) w) (hand_back boxes (refuse Full w)) (aside (added (accepted boxes) w) refl refl refl refl refl (silent w.answer.sent)) (aside (hand_back boxes (refuse Full w)) refl refl refl refl refl (silent w.answer.sent))

  dials : (address : List ℕ) (purpose : Purpose) (boxes : List Badge) → EndsGo w (Attempt.Done (dial address purpose boxes w))
  unfolding dial added
  dials address purpose boxes = either_goes w (has_place (length boxes) w.state) (tell (w.state.head.given + 1) (Ask (asked.Identify w.state.head.address address)) (added (dialled address purpose boxes) w)) (hand_back boxes (refuse Full w)) (aside (tell (w.state.head.given + 1) (Ask (asked.Identify w.state.head.address address)) (added (dialled address purpose boxes) w)) refl refl refl refl refl (asks_more w (w.state.head.given + 1) (asked.Identify w.state.head.address address) (λ realm id. refl))) (aside (hand_back boxes (refuse Full w)) refl refl refl refl refl (silent w.answer.sent))

  -- Lines

  module _ (c : Connection) (there : connection_of c.number w.state ≡ Some c) where
    serves_if : (admit : Admit) (command : Command) → EndsGo w (serve_if admit command c w)
    serves_if Serve command = serves_goes c w whole (spelled c there) command
    serves_if Wrong command = goes_wrong c w whole

    commands_go : (command : Command) → EndsGo w (commanded command c w)
    unfolding commanded
    commands_go command = serves_if (admit_of c.state c.side (name_of command)) command

    answers_go : c.side ≡ Primary → (awaited : Option Awaited) (response : Response) → c.awaited ≡ awaited → EndsGo w (answered_by awaited response c w)
    answers_go side None response waits = aside w refl refl refl refl refl (silent w.answer.sent)
    answers_go side (Some a) response waits = responds_goes c w whole there side a response waits

    hears : (side : Side) (heard : Heard) → c.side ≡ side → EndsGo w (hear side heard c w)
    hears Secondary (ACommand command) side = commands_go command
    hears Primary (ACommand commands.Error) side = hangs_up c w whole
    hears Primary (AResponse response) side = answers_go side c.awaited response refl
    hears Secondary (AResponse response) side = goes_wrong c w whole
    hears Secondary Malformed side = goes_wrong c w whole
    hears Primary Malformed side = goes_wrong c w whole
    hears Primary (ACommand command) side = goes_wrong c w whole

  lines : (found : Option Connection) (heard : Heard) → ((c : Connection) → found ≡ Some c → connection_of c.number w.state ≡ Some c) → EndsGo w (line found heard w)
  unfolding line
  lines None heard there = aside (refuse Stale w) refl refl refl refl refl (silent w.answer.sent)
  lines (Some c) heard there = either_attempt (EndsGo w) (may_take c) (hear c.side heard c w) (Attempt.Done (refuse Busy w)) (hears c (there c refl) c.side heard refl) (aside (refuse Busy w) refl refl refl refl refl (silent w.answer.sent))

  loses : (found : Option Connection) → EndsGo w (Attempt.Done (lost found w))
  unfolding lost
  loses None = aside (refuse Stale w) refl refl refl refl refl (silent w.answer.sent)
  loses (Some c) = inl (fail_goes c w whole.keys (ready c w whole))

  asks_push : (found : Option Connection) (id : List ℕ) → EndsGo w (Attempt.Done (ask_push found id w))
  unfolding ask_push
  asks_push None id = aside (refuse Stale w) refl refl refl refl refl (silent w.answer.sent)
  asks_push (Some c) id = ask_push_goes c w whole id

  asks_pull : (found : Option Connection) (superior : List ℕ) → ((c : Connection) → found ≡ Some c → connection_of c.number w.state ≡ Some c) → EndsGo w (Attempt.Done (ask_pull found superior w))
  unfolding ask_pull
  asks_pull None superior there = aside (refuse Stale w) refl refl refl refl refl (silent w.answer.sent)
  asks_pull (Some c) superior there = ask_pull_goes c w whole (spelled c (there c refl)) superior

  pub event_goes : (event : Event) → brings_no_party event ≡ true → EndsGo w (attempt event w)
  event_goes (Open boxes) is = opens boxes
  event_goes (Dial address purpose boxes) is = dials address purpose boxes
  event_goes (Line seat heard) is = lines (seated seat w.state) heard (seated_there seat w.state)
  event_goes (Lost seat) is = loses (seated seat w.state)
  event_goes (AskPush seat id) is = asks_push (seated seat w.state) id
  event_goes (AskPull seat superior) is = asks_pull (seated seat w.state) superior (seated_there seat w.state)
  event_goes (Resume id) is = resume_goes w whole (identified_by id w.state) (λ t is. found_by (has_id w.state.head.name id) w.state t whole is)
  event_goes (Voted party) is = absurd (cc)
  event_goes (Settled party) is = absurd (cc)

  pub back_goes : (party : PartyNotes) (back : Back) → IsAwaited party w.state → BackGoes party (back_of party back) w (attempt (event_of party back) w)
  back_goes party back awaited = step party.errand refl where
    step : (e : Errand) → party.errand ≡ e → BackGoes party (back_of party back) w (attempt (back_from e (back_of party back)) w)
    step errand.Vote is = votes_back party back w whole awaited is
    step errand.Commit is = settles_back party back w whole awaited
    step errand.Abort is = settles_back party back w whole awaited
    step errand.Idle is = settles_back party back w whole awaited
