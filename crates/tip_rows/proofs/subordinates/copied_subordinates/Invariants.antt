use Rattle.std.proofs.Common.{◌≡◌, take, length, vec_len, vec_capacity}
use Rattle.tip_rows.proofs.subordinates.copied_subordinates.Given as goal

abbrev pub invariant-loop-address : goal.invariant-loop-address
invariant-loop-address g l = record {
  so_far : l.items.items ≡ take l.address-index l.subordinates;
  count : vec_len l.items ≡ l.address-index;
  room : vec_capacity l.items ≡ length l.subordinates;
}
