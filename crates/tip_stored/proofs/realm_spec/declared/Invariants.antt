use Rattle.std.proofs.Common.{◌≡◌, map, take, length, vec_len, vec_capacity}
use Rattle.tip_stored.specs.Loading.{spec_of}
use Rattle.tip_stored.proofs.realm_spec.declared.Given as goal

abbrev pub invariant-loop-head : goal.invariant-loop-head
invariant-loop-head l = record {
  so_far : l.specs.items ≡ map spec_of (take l.head-index l.heads);
  count : vec_len l.specs ≡ l.head-index;
  room : vec_capacity l.specs ≡ length l.heads;
}
