use Rattle.std.proofs.Common.{[], arith, rules}
use Rattle.std.proofs.lemmas.List.Sorted.{IsPartitionPoint-from_clause}
use Rattle.tip_rows.specs.Keys.{Key, comes_before}
use Rattle.tip_rows.specs.declared.row.Row.{Row}
use Rattle.tip_rows.specs.declared.row.Row.TheVariants.{Committed}
use Rattle.tip_kept.proofs.Placing.{counted, parted}
use Rattle.tip_kept.proofs.realm_rows.before.Goals as goal

pub returns-clause-count : goal.returns-clause-count
returns-clause-count c =
    let point = IsPartitionPoint-from_clause (λ stored. comes_before stored.0 c.args.key) _ _ c.partition_point.ensures.partitioned (parted c.args.key c.args.rows.now c.requires) (λ a r q k. search rules) in
    let nothing : Key × Row = (c.args.key, Committed [] []) in
    counted c.args.key c.args.rows.now c.partition_point.result nothing c.partition_point.ensures.bound (λ k less. point.0 k nothing (omega arith) less) (λ k from less. point.1 k nothing from less)
