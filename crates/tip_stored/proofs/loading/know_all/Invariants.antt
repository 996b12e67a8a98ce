use Rattle.std.proofs.Common.{false, take}
use Rattle.tip_stored.specs.Loading.{AreKnown, Goes, IsKnown, names_of}
use Rattle.tip_stored.proofs.loading.know_all.Given as goal

-- the first of them are known
abbrev pub invariant-loop-spec : goal.invariant-loop-spec
invariant-loop-spec g l = Goes g.S.RowLog.keeping false (AreKnown (take l.spec-index (names_of l.specs))) (IsKnown (names_of l.specs)) l.fn.store l.store
