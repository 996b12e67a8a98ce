-- What a writer over a host that is shared has written.
use Rattle.std.proofs.Common.{◌++◌, ◌∷◌, [], ℕ, List, Option}
use Rattle.tip_session.specs.Desks.{Seen}
use Rattle.tip_session.specs.Written.{WritesOut}
use Rattle.tip_session.specs.declared.desk.Outgoing.{Outgoing}
use Rattle.tip_session.specs.declared.session_end.SessionEnd.{SessionEnd}
use Rattle.tip_session.specs.declared.session_end.SessionEnd.TheVariants as session
use Rattle.tip_shared.specs.Sessions.{HasWritten}

pub has_written : {D : Type 0} (gives : D → Outgoing → D → Type 0) (seen : D → Seen) (realm : List ℕ) (d e : D) (old new : Option (List ℕ)) (result : SessionEnd) → WritesOut gives seen realm d e old new result → HasWritten realm old new result
has_written gives seen realm d e old new session.PeerClosed writes = (writes.items, writes.lines, writes.ends.0)
has_written gives seen realm d e old new session.ReadFault writes = writes.ends
has_written gives seen realm d e old new session.WriteFault writes = (writes.items ++ writes.ends.0 ∷ [], writes.ends.4)
has_written gives seen realm d e old new session.TurnLimit writes = writes.ends
has_written gives seen realm d e old new session.HostStopped writes = (writes.items, writes.lines, writes.ends.0)
has_written gives seen realm d e old new session.PassMismatch writes = writes.ends
has_written gives seen realm d e old new session.Memory writes = (writes.items, writes.lines, writes.ends.4)
