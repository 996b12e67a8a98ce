-- Each response to a command of ours, and one that is none, leaves a realm whole.
use Rattle.std.proofs.Common.{◌≡◌, Some}
use Rattle.tip_line.specs.declared.response.Response.{Response}
use Rattle.tip_line.specs.declared.response.Response.TheVariants.{Error, Identified, NeedTls, Pulled, NotPulled, QueriedExists, QueriedNotFound, Pushed, AlreadyPushed, NotPushed, Prepared, ReadOnly, Committed, Aborted, Reconnected, NotReconnected}
use Rattle.tip_conn.specs.declared.state.Side.TheVariants.{Primary}
use Rattle.tip_machine.specs.Responses.{responded}
use Rattle.tip_machine.specs.States.{Work, connection_of}
use Rattle.tip_machine.specs.Types.{Connection}
use Rattle.tip_machine.specs.declared.connection.Awaited.{Awaited}
use Rattle.tip_machine.specs.declared.connection.Awaited.TheVariants.{Identify, Query, Pull, Push, Prepare, Commit, Abort, Reconnect}
use Rattle.tip_agreement.proofs.Answering.{aborted_so, already_pushed_whole, committed_so, not_pushed_whole, not_reconnected_whole, prepared_whole, pushed_whole, read_only_whole, reconnected_whole, refused_whole}
use Rattle.tip_agreement.proofs.Around.{Whole}
use Rattle.tip_agreement.proofs.Asking.{exists_whole, not_found_whole}
use Rattle.tip_agreement.proofs.Pulling.{not_pulled_whole, pulled_whole}
use Rattle.tip_agreement.proofs.Pursuing.{greeted_whole}
use Rattle.tip_agreement.proofs.Closing.{closed_whole, wrong_whole}
use Rattle.tip_agreement.proofs.Proceeding.{AllWhole}

module _ (c : Connection) (w : Work) (whole : Whole w.state) (there : connection_of c.number w.state ≡ Some c) (side : c.side ≡ Primary) where
  pub answered_whole : (a : Awaited) (response : Response) → c.awaited ≡ Some a → AllWhole (responded a response c w)
  answered_whole (Identify purpose) (Identified version) waits = greeted_whole purpose c w whole there side waits version
  answered_whole Push (Pushed id) waits = pushed_whole id c w whole there side waits
  answered_whole Push (AlreadyPushed id) waits = already_pushed_whole c w whole there side waits
  answered_whole Push NotPushed waits = not_pushed_whole c w whole there side waits
  answered_whole Pull Pulled waits = pulled_whole c w whole there side waits
  answered_whole Pull NotPulled waits = not_pulled_whole c w whole there side waits
  answered_whole Prepare Prepared waits = prepared_whole c w whole there side waits
  answered_whole Prepare Aborted waits = refused_whole c w whole there side waits
  answered_whole Prepare ReadOnly waits = read_only_whole c w whole there side waits
  answered_whole Commit Committed waits = committed_so c w whole there side waits
  answered_whole Abort Aborted waits = aborted_so c w whole there side waits
  answered_whole (Query key) QueriedExists waits = exists_whole key c w whole there side waits
  answered_whole (Query key) QueriedNotFound waits = not_found_whole key c w whole there side waits
  answered_whole Reconnect Reconnected waits = reconnected_whole c w whole there side waits
  answered_whole Reconnect NotReconnected waits = not_reconnected_whole c w whole there side waits
  answered_whole a NeedTls waits = closed_whole c w whole there
  answered_whole a Error waits = closed_whole c w whole there
  answered_whole a response waits = wrong_whole c w whole there
