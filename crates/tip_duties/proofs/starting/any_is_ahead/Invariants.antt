use Rattle.std.proofs.Common.{◌≡◌, take}
use Rattle.std.specs.List.{All}
use Rattle.tip_duties.specs.Starting.{IsAhead}
use Rattle.tip_rows.specs.Logs.{Log}
use Rattle.tip_duties.proofs.starting.any_is_ahead.Given as goal

abbrev pub invariant-loop-realm : goal.invariant-loop-realm
invariant-loop-realm g l = record {
  stands : (log : Log) → g.S.RowLog.keeping.stands l.initial.store log → g.S.RowLog.keeping.stands l.store log;
  truth : g.S.RowLog.keeping.is_true l.store → g.S.RowLog.keeping.is_true l.initial.store;
  counts : g.S.RowLog.keeping.faults l.store ≡ g.S.RowLog.keeping.faults l.initial.store;
  none : (log : Log) → g.S.RowLog.keeping.stands l.initial.store log → g.S.RowLog.keeping.is_true l.store → All (λ realm. ¬ IsAhead log realm) (take l.realm-index l.realms);
}
