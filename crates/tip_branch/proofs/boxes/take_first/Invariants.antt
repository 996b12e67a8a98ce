use Rattle.std.proofs.Common.{◌≡◌, ◌≤◌, reverse, length, take, drop, vec_len, vec_capacity}
use Rattle.tip_branch.specs.Members.{fresh_members}
use Rattle.tip_branch.proofs.boxes.take_first.Given as goal

abbrev pub invariant-loop-i : goal.invariant-loop-i
invariant-loop-i g l = record {
  noted : l.roll ≡ fresh_members 1 (take l.i (reverse l.initial.known.items));
  known_left : reverse l.known.items ≡ drop l.i (reverse l.initial.known.items);
  taken : l.into.items ≡ take l.i (reverse l.initial.from.items);
  left : reverse l.from.items ≡ drop l.i (reverse l.initial.from.items);
  counted : vec_len l.from ≡ vec_len l.known;
  enrolled : length l.roll ≡ l.i;
  filled : vec_len l.into ≡ l.i;
  room : l.count ≤ vec_capacity l.into;
}
