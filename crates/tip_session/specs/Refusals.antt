-- The refusal that each fault of a desk, and each end of a session, is.
use Rattle.std.specs.Prelude.{Option, Some, None}
use Rattle.tip_line.specs.declared.refusal.Refusal.{Refusal}
use Rattle.tip_line.specs.declared.refusal.Refusal.TheVariants as refusal
use Rattle.tip_session.specs.declared.desk.DeskFault.{DeskFault}
use Rattle.tip_session.specs.declared.desk.DeskFault.TheVariants as fault
use Rattle.tip_session.specs.declared.session_end.SessionEnd.{SessionEnd}
use Rattle.tip_session.specs.declared.session_end.SessionEnd.TheVariants as session

abbrev pub refusal_of : DeskFault → Refusal
refusal_of fault.Stopped = refusal.Stopped
refusal_of fault.PassMismatch = refusal.PassMismatch
refusal_of fault.Frozen = refusal.Frozen
refusal_of fault.Memory = refusal.Memory

-- that the peer closed is none
abbrev pub refusal_in : SessionEnd → Option Refusal
refusal_in session.PeerClosed = None
refusal_in session.ReadFault = Some refusal.ReadFault
refusal_in session.WriteFault = Some refusal.WriteFault
refusal_in session.TurnLimit = Some refusal.TurnLimit
refusal_in session.HostStopped = Some refusal.HostStopped
refusal_in session.PassMismatch = Some refusal.PassMismatch
refusal_in session.Memory = Some refusal.Memory
