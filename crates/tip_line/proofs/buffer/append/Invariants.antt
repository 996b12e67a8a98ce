use Rattle.std.proofs.Common.{◌≡◌, ◌+◌, ◌++◌, take, vec_len, vec_capacity}
use Rattle.tip_line.proofs.buffer.append.Given as goal

abbrev pub invariant-loop-octet : goal.invariant-loop-octet
invariant-loop-octet g l = record {
  items : l.octets.items ≡ l.fn.octets.items ++ take l.octet-index l.piece;
  len : vec_len l.octets ≡ vec_len l.fn.octets + l.octet-index;
  capacity : vec_capacity l.octets ≡ vec_capacity l.fn.octets;
}
