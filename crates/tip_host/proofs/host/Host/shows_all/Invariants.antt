use Rattle.std.proofs.Common.{◌≡◌, ◌<◌, ℕ}
use Rattle.tip_core.specs.Hosted.{realm}
use Rattle.tip_kept.specs.Keeping.{rows_at}
use Rattle.tip_rows.specs.Logs.{Log}
use Rattle.tip_host.specs.Hosts.{IsShown}
use Rattle.tip_host.proofs.host.Host.shows_all.Given as goal

-- the store has shown the rows of the realms that were reached, and stands for what it stood for
abbrev pub invariant-loop-realm : goal.invariant-loop-realm
invariant-loop-realm g l = record {
  shown : (place : ℕ) → place < l.realm → IsShown g.S.RowLog.keeping l.fn.self.stored.store l.self.stored.store (realm l.fn.self.stored.core place) (rows_at l.fn.self.books.rows place);
  stands : (log : Log) → g.S.RowLog.keeping.stands l.fn.self.stored.store log → g.S.RowLog.keeping.stands l.self.stored.store log;
  read : g.S.RowLog.keeping.faults l.self.stored.store ≡ g.S.RowLog.keeping.faults l.fn.self.stored.store;
  rest : l.self ≡ record l.fn.self { stored = record l.fn.self.stored { store = l.self.stored.store } };
}
