use Rattle.std.proofs.Common.{◌≡◌, ◌≢◌, ℕ, ◌+◌, ◌++◌, length, map}
use Rattle.tip_table.specs.Kept.{of}
use Rattle.tip_machine.specs.Types.{seen}
use Rattle.tip_machine.specs.declared.head.Head.{Head}
use Rattle.tip_recovery.specs.Adopting.{AreOf}
use Rattle.tip_core.specs.Recovering.{reopened_all}
use Rattle.tip_core.proofs.recovering.reopen_all.Given as goal

-- the transaction of each row that was taken has joined
abbrev pub invariant-loop-row : goal.invariant-loop-row
invariant-loop-row g l = record {
  whole : l.yielded ++ l.row-iterator.rest.items ≡ l.fn.rows.items;
  own : (head : Head) → AreOf head.name l.fn.rows.items → head.epoch ≡ l.epoch → map seen (of l.transactions l.realm) ≡ map seen (of l.fn.transactions l.realm) ++ reopened_all head l.yielded;
  others : (other : ℕ) → other ≢ l.realm → of l.transactions other ≡ of l.fn.transactions other;
  room : l.transactions.free + length l.yielded ≡ l.fn.transactions.free;
}
