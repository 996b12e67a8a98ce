use Rattle.std.proofs.Common.{◌≡◌, ℕ, List, map, take, length, vec_len, vec_capacity}
use Rattle.tip_recovery.proofs.unfinished.numbers_of.Given as goal

abbrev pub invariant-loop-number : goal.invariant-loop-number
invariant-loop-number l = record {
  so_far : l.numbers.items ≡ map (λ (branch : ℕ × List ℕ). branch.0) (take l.number-index l.branches);
  count : vec_len l.numbers ≡ l.number-index;
  room : vec_capacity l.numbers ≡ length l.branches;
}
