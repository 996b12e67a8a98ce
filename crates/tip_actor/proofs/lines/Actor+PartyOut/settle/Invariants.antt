use Rattle.std.proofs.Common.{◌≡◌, false, string_bytes}
use Rattle.tip_actor.specs.Acting.{Acting}
use Rattle.tip_actor.specs.Standing.{IsActing}
use Rattle.tip_actor.proofs.Settling.{Settles}
use Rattle.tip_actor.proofs.lines.Actor+PartyOut.settle.Given as goal

-- some lines were taken, and those that may be are left
abbrev pub invariant-loop : goal.invariant-loop
invariant-loop g l = record {
  running : l.stored_core.is_stopped ≡ false;
  truth : g.S.RowLog.keeping.is_true l.stored_core.store → g.S.RowLog.keeping.is_true l.fn.stored_core.store;
  settles : (acting : Acting) → IsActing g.S.RowLog.keeping l.fn.stored_core l.place l.fn.self acting → Settles g.S.RowLog.keeping l.fn.stored_core l.stored_core l.place l.fn.self l.self (string_bytes l.fn.printed) (string_bytes l.printed) acting;
}
