use Rattle.std.proofs.Common.{◌≡◌, ◌++◌, map}
use Rattle.tip_recovery.specs.Adopting.{unadopted}
use Rattle.tip_recovery.proofs.recovery.rows_of.Given as goal

-- each row that was taken has its place
abbrev pub invariant-loop-key : goal.invariant-loop-key
invariant-loop-key g l = record {
  whole : l.yielded ++ l.key-iterator.rest.items ≡ l.fn.stored.items;
  made : l.rows.items ≡ map (unadopted l.realm) l.yielded;
}
