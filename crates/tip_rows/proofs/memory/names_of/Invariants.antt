use Rattle.std.proofs.Common.{◌≡◌, map, take, length, vec_len, vec_capacity}
use Rattle.tip_rows.specs.declared.memory.Known.{Known}
use Rattle.tip_rows.proofs.memory.names_of.Given as goal

abbrev pub invariant-loop-k : goal.invariant-loop-k
invariant-loop-k g l = record {
  so_far : l.names.items ≡ map (λ (k : Known). k.realm) (take l.k-index l.known);
  count : vec_len l.names ≡ l.k-index;
  room : vec_capacity l.names ≡ length l.known;
}
