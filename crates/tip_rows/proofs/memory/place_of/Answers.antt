use Rattle.std.proofs.Common.{rules}
use Rattle.std.proofs.lemmas.List.Sorted.{IsPartitionPoint-from_clause}
use Rattle.tip_rows.specs.Memory.{is_before}
use Rattle.tip_rows.proofs.PlaceLemmas.{parted-before}
use Rattle.tip_rows.proofs.memory.place_of.Goals as goal

pub returns-clause-between : goal.returns-clause-between
returns-clause-between g c = IsPartitionPoint-from_clause (is_before c.args.realm.now c.args.key) _ _ c.partition_point.ensures.partitioned (parted-before c.args.realm.now c.args.key c.args.rows.now c.requires) (λ a r q k. search rules)
