use Rattle.std.proofs.Common.{◌≡◌, map, take, true}
use Rattle.tip_honest.specs.Honesty.{are_boxed}
use Rattle.tip_recovery.specs.Adopting.{are_adopted, loaded}
use Rattle.tip_host.proofs.opening.Opening.of.Given as goal

-- the rows that were reached, each with a box for each of its branches where none waits for boxes any more
abbrev pub invariant-loop-row : goal.invariant-loop-row
invariant-loop-row g l = record {
  same : l.opened.items ≡ map loaded (take l.row-index l.rows);
  boxed : are_adopted l.rows ≡ true → are_boxed l.opened.items ≡ true;
}
