use Rattle.std.proofs.Common.{◌≡◌, ◌++◌}
use Rattle.tip_run.specs.Moves.{AreMade}
use Rattle.tip_run.specs.Running.{IsAtRest}
use Rattle.tip_run.proofs.running.Running.run.Given as goal

-- the first of them were made, of a host that was at rest
abbrev pub invariant-loop-next : goal.invariant-loop-next
invariant-loop-next g l = record {
  whole : l.yielded ++ l.next-iterator.rest.items ≡ l.fn.moves.items;
  made : AreMade g.S.RowLog.keeping l.fn.self l.yielded l.shown.items l.running;
  rest : IsAtRest l.fn.self.host;
}
