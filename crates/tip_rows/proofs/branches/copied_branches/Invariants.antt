use Rattle.std.proofs.Common.{◌≡◌, take, length, vec_len, vec_capacity}
use Rattle.tip_rows.proofs.branches.copied_branches.Given as goal

abbrev pub invariant-loop-number : goal.invariant-loop-number
invariant-loop-number g l = record {
  so_far : l.items.items ≡ take l.number-index l.branches;
  count : vec_len l.items ≡ l.number-index;
  room : vec_capacity l.items ≡ length l.branches;
}
