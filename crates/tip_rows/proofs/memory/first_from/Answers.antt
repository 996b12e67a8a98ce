use Rattle.std.proofs.Common.{rules, sym, arith}
use Rattle.std.proofs.lemmas.List.Sorted.{IsPartitionPoint-from_clause}
use Rattle.tip_rows.proofs.KnownLemmas.{first_at, is_earlier, none_from, parted-known}
use Rattle.tip_rows.proofs.memory.first_from.Goals as goal

pub returns-then-place-known : goal.returns-then-place-known
returns-then-place-known c =
    let name = c.args.name.now in
    let known = c.args.known.now in
    let place = c.partition_point-place in
    let point = IsPartitionPoint-from_clause (is_earlier name) known place.result place.ensures.partitioned (parted-known name known c.requires) (λ a r q k. search rules) in
    sym (first_at name known place.result place.ensures.bound point c.if-place-known.true)

pub returns-else-place-known : goal.returns-else-place-known
returns-else-place-known c =
    let name = c.args.name.now in
    let known = c.args.known.now in
    let place = c.partition_point-place in
    let point = IsPartitionPoint-from_clause (is_earlier name) known place.result place.ensures.partitioned (parted-known name known c.requires) (λ a r q k. search rules) in
    let past = c.if-place-known.false in
    sym (none_from name known place.result place.ensures.bound point (omega (arith, past)))
