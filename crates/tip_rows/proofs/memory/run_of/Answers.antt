use Rattle.std.proofs.Common.{◌∙◌, ap, rules, take}
use Rattle.std.proofs.lemmas.List.{take_rest}
use Rattle.std.proofs.lemmas.List.Sorted.{IsPartitionPoint-from_clause}
use Rattle.tip_rows.specs.Memory.{is_of, is_of_earlier}
use Rattle.tip_rows.proofs.PartLemmas.{parted-earlier, parted-own, run-own}
use Rattle.tip_rows.proofs.memory.run_of.Goals as goal

pub returns : goal.returns
returns g c =
    let realm = c.args.realm.now in
    let rows = c.args.rows.now in
    let start = c.partition_point-start.result in
    let len = c.partition_point-len.result in
    let whole = take_rest rows start in
    let front = IsPartitionPoint-from_clause (is_of_earlier realm) rows start c.partition_point-start.ensures.partitioned (parted-earlier realm rows c.requires) (λ a r q k. search rules) in
    let own = IsPartitionPoint-from_clause (is_of realm) _ len c.partition_point-len.ensures.partitioned (rw whole (parted-own realm rows start c.requires front)) (λ a r q k. search rules) in
    ap (take len) whole ∙ run-own realm rows start len front.0 (rw (← whole) own) (rw (← whole) c.partition_point-len.ensures.bound)
