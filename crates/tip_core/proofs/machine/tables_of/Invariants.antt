use Rattle.std.proofs.Common.{◌≡◌, length}
use Rattle.tip_core.specs.Starting.{AreEmpty}
use Rattle.tip_core.proofs.machine.tables_of.Given as goal

-- so many were made, and have nothing
abbrev pub invariant-loop : goal.invariant-loop
invariant-loop g l = record {
  counted : length l.tables.items ≡ l.counter;
  empty : AreEmpty l.tables.items;
}
