use Rattle.std.proofs.Common.{◌≡◌, map, take, length, vec_len, vec_capacity}
use Rattle.tip_txn.specs.Transactions.{willing}
use Rattle.tip_txn.proofs.txn.Txn.of.Given as goal

abbrev pub invariant-loop-address : goal.invariant-loop-address
invariant-loop-address g l = record {
  so_far : l.others.items ≡ map willing (take l.address-index l.subordinates);
  count : vec_len l.others ≡ l.address-index;
  room : vec_capacity l.others ≡ length l.subordinates;
}
