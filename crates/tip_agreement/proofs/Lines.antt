-- Each event that brings no party leaves a realm whole.
use Rattle.std.proofs.Common.{◌≡◌, Bool, true, false, Option, Some, None, cond, refl}
use Rattle.tip_conn.specs.Table.{is_valid}
use Rattle.tip_conn.specs.declared.state.Side.{Side}
use Rattle.tip_conn.specs.declared.state.Side.TheVariants.{Primary, Secondary}
use Rattle.tip_line.specs.Command.{name_of}
use Rattle.tip_line.specs.declared.command.Command.{Command}
use Rattle.tip_line.specs.declared.command.Command.TheVariants as commands
use Rattle.tip_line.specs.declared.refusal.Refusal.TheVariants.{Busy}
use Rattle.tip_line.specs.declared.response.Response.{Response}
use Rattle.tip_machine.specs.Changes.{refuse}
use Rattle.tip_machine.specs.Commands.{serve}
use Rattle.tip_machine.specs.Connections.{may_take}
use Rattle.tip_machine.specs.Given.{are_numbered}
use Rattle.tip_machine.specs.Honest.{brings_no_party}
use Rattle.tip_machine.specs.Requests.{hear, line}
use Rattle.tip_machine.specs.Responses.{answered_by}
use Rattle.tip_machine.specs.States.{Attempt, State, Work, connection_of, identified_by, seated}
use Rattle.tip_machine.specs.Steps.{attempt, entered}
use Rattle.tip_machine.specs.Transactions.{has_id}
use Rattle.tip_machine.specs.Types.{Connection, Event}
use Rattle.tip_machine.specs.declared.connection.Awaited.{Awaited}
use Rattle.tip_machine.specs.declared.event.Event.TheVariants.{AskPull, AskPush, Dial, Line, Lost, Open, Resume, Settled, Voted}
use Rattle.tip_machine.specs.declared.event.Heard.{Heard}
use Rattle.tip_machine.specs.declared.event.Heard.TheVariants.{Command as ACommand, Malformed, Response as AResponse}
use Rattle.tip_machine.proofs.Walks.{seated_there}
use Rattle.tip_agreement.proofs.Alone.{at_once_whole}
use Rattle.tip_agreement.proofs.Around.{Whole}
use Rattle.tip_agreement.proofs.Beginning.{ask_pull_whole, ask_push_whole, begin_at, begin_whole, pull_at, pull_whole, push_at, push_whole}
use Rattle.tip_agreement.proofs.Closing.{closed_whole, wrong_whole}
use Rattle.tip_agreement.proofs.Events.{dial_whole, entered_whole, lost_whole, opened_whole}
use Rattle.tip_agreement.proofs.Heard.{answered_whole}
use Rattle.tip_agreement.proofs.Keys.{are_given}
use Rattle.tip_agreement.proofs.Proceeding.{AllWhole}
use Rattle.tip_agreement.proofs.Reaching.{reconnect_whole}
use Rattle.tip_agreement.proofs.Resuming.{resumed}
use Rattle.tip_agreement.proofs.Sound.{found_by}
use Rattle.tip_agreement.proofs.Superiors.{abort_served, commit_served, nothing_owed, prepare_served, served_or_not}

module _ (c : Connection) (w : Work) (whole : Whole w.state) (given : are_given w.state w.state.transactions ≡ true) (numbered : are_numbered w.state ≡ true) (there : connection_of c.number w.state ≡ Some c) where
  module _ (side : c.side ≡ Secondary) (silent : c.owed ≡ None) where
    served : (line' : Command) → is_valid (name_of line') c.state ≡ true → AllWhole (serve line' c w)
    served (commands.Identify lowest highest peer secondary) valid = at_once_whole c w whole there side (commands.Identify lowest highest peer secondary) refl valid
    served commands.Begin valid = begin_whole c w whole given there side (begin_at c.state valid)
    served (commands.Push superior) valid = push_whole c w whole given there side (push_at c.state valid) superior
    served (commands.Pull superior subordinate) valid = pull_whole c w whole given there side (pull_at c.state valid) superior subordinate
    served commands.Prepare valid = prepare_served c w whole there side silent valid
    served commands.Commit valid = commit_served c w whole there side silent valid
    served commands.Abort valid = abort_served c w whole there side silent valid
    served (commands.Query superior) valid = at_once_whole c w whole there side (commands.Query superior) refl valid
    served (commands.Reconnect subordinate) valid = reconnect_whole c w whole numbered there side valid subordinate
    served (commands.Multiplex protocol) valid = at_once_whole c w whole there side (commands.Multiplex protocol) refl valid
    served commands.Tls valid = at_once_whole c w whole there side commands.Tls refl valid
    served commands.Error valid = at_once_whole c w whole there side commands.Error refl valid

  answered_so : (response : Response) (awaited : Option Awaited) → c.side ≡ Primary → c.awaited ≡ awaited → AllWhole (answered_by awaited response c w)
  answered_so response None side waits = whole
  answered_so response (Some a) side waits = answered_whole c w whole there side a response waits

  heard_so : (side : Side) (heard : Heard) → c.side ≡ side → may_take c ≡ true → AllWhole (hear side heard c w)
  heard_so Secondary (ACommand line') side turn = let silent = nothing_owed c turn in served_or_not c w whole there side silent line' (served side silent line')
  heard_so Primary (ACommand commands.Error) side turn = closed_whole c w whole there
  heard_so Primary (AResponse response) side turn = answered_so response c.awaited side refl
  heard_so Secondary (AResponse response) side turn = wrong_whole c w whole there
  heard_so Secondary Malformed side turn = wrong_whole c w whole there
  heard_so Primary Malformed side turn = wrong_whole c w whole there
  heard_so Primary (ACommand line') side turn = wrong_whole c w whole there

line_whole : (found : Option Connection) (heard : Heard) (w : Work) → Whole w.state → are_given w.state w.state.transactions ≡ true → are_numbered w.state ≡ true → ((c : Connection) → found ≡ Some c → connection_of c.number w.state ≡ Some c) → AllWhole (line found heard w)
unfolding line
line_whole None heard w whole given numbered there = whole
line_whole (Some c) heard w whole given numbered there = step (may_take c) refl where
  step : (b : Bool) → may_take c ≡ b → AllWhole (cond b (hear c.side heard c w) (Attempt.Done (refuse Busy w)))
  step true turn = heard_so c w whole given numbered (there c refl) c.side heard refl turn
  step false not = whole

module _ (s : State) (whole : Whole s) (given : are_given s s.transactions ≡ true) (numbered : are_numbered s ≡ true) where
  whole_now : Whole (entered s).state
  whole_now = entered_whole s whole

  pub event_whole : (event : Event) → brings_no_party event ≡ true → AllWhole (attempt event (entered s))
  event_whole (Open boxes) is = opened_whole boxes s whole
  event_whole (Dial address purpose boxes) is = dial_whole address purpose boxes s whole
  event_whole (Line seat heard) is = line_whole (seated seat (entered s).state) heard (entered s) whole_now given numbered (seated_there seat (entered s).state)
  event_whole (Lost seat) is = lost_whole (seated seat (entered s).state) s (seated_there seat (entered s).state) whole
  event_whole (AskPush seat id) is = ask_push_whole (seated seat (entered s).state) id (entered s) whole_now given (seated_there seat (entered s).state)
  event_whole (AskPull seat superior) is = ask_pull_whole (seated seat (entered s).state) superior (entered s) whole_now given (seated_there seat (entered s).state)
  event_whole (Resume id) is = resumed (identified_by id (entered s).state) (entered s) whole_now (λ t is. found_by (has_id s.head.name id) (entered s).state t whole_now is)
  event_whole (Voted party) is = absurd (cc)
  event_whole (Settled party) is = absurd (cc)
