use Rattle.std.proofs.Common.{◌≡◌, map, take, length, vec_len, vec_capacity}
use Rattle.tip_rows.specs.Memory.{Stored}
use Rattle.tip_rows.proofs.memory.part_of.Given as goal

abbrev pub invariant-loop-stored : goal.invariant-loop-stored
invariant-loop-stored g l = record {
  so_far : l.entries.items ≡ map (λ (s : Stored). (s.key, s.row)) (take l.stored-index l.own);
  count : vec_len l.entries ≡ l.stored-index;
  room : vec_capacity l.entries ≡ length l.own;
}
