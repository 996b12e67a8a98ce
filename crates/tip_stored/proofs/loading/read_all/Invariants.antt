use Rattle.std.proofs.Common.{◌≡◌, false, length, take, vec_capacity, vec_len}
use Rattle.tip_rows.specs.Logs.{IsSettled, Log}
use Rattle.tip_stored.specs.Loading.{AreTheirs, AreRead, Goes, Never, Stays}
use Rattle.tip_stored.proofs.loading.read_all.Given as goal

-- the first of them were read
abbrev pub invariant-loop-spec : goal.invariant-loop-spec
invariant-loop-spec g l = record {
  goes : Goes g.S.RowLog.keeping false Stays Never l.fn.store l.store;
  own : AreTheirs (take l.spec-index l.specs) l.realms.items;
  read : (log : Log) → g.S.RowLog.keeping.stands l.fn.store log → g.S.RowLog.keeping.is_true l.store → AreRead log (take l.spec-index l.specs) l.realms.items;
  settled : IsSettled g.S.RowLog.keeping l.fn.store → g.S.RowLog.keeping.is_true l.store → IsSettled g.S.RowLog.keeping l.store;
  count : vec_len l.realms ≡ l.spec-index;
  room : vec_capacity l.realms ≡ length l.specs;
}
