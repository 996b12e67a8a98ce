use Rattle.std.proofs.Common.{◌≡◌, ◌<◌, ◌∙◌, arith, ap, false, get_or, length, rules, sym}
use Rattle.std.proofs.lemmas.Bool.Decides.{nat_tests}
use Rattle.std.proofs.lemmas.List.Sorted.{IsPartitionPoint-from_clause}
use Rattle.slab.specs.Slab.{get}
use Rattle.tip_table.specs.Entries.{is_ranked}
use Rattle.tip_table.proofs.Halving.{first_there, is_before, is_there, missing, parted}
use Rattle.tip_table.proofs.order.key_ranked.Goals as goal

pub returns-then-is_ranked-clause-some : goal.returns-then-is_ranked-clause-some
returns-then-is_ranked-clause-some g c =
    let keys = c.args.keys.now in
    let lookup = c.in-Some.ensures.lookup in
    let within : c.in_line.result < length keys = (let less = lookup.0 in grind (arith, nat_tests, less)) in
    first_there c.args.slots.now (g.R.Rank.rank c.args.ranks.now) c.args.realm c.args.rank keys c.requires.there c.requires.by_realm c.requires.rising c.in_line.result c.in-Some.guess.now within lookup.1 (sym c.is_ranked.ensures ∙ c.if-is_ranked.true)

pub returns-in-Some-get-clause-some : goal.returns-in-Some-get-clause-some
returns-in-Some-get-clause-some g c =
    let keys = c.args.keys.now in
    let lookup = c.in-Some-get.ensures.lookup in
    let within : c.partition_point-at.result < length keys = (let less = lookup.0 in grind (arith, nat_tests, less)) in
    first_there c.args.slots.now (g.R.Rank.rank c.args.ranks.now) c.args.realm c.args.rank keys c.requires.there c.requires.by_realm c.requires.rising c.partition_point-at.result c.in-Some-get.key.now within lookup.1 (sym c.if-is_ranked-2.ensures)

pub returns-in_default-get-clause-none : goal.returns-in_default-get-clause-none
returns-in_default-get-clause-none g c =
    let rank = g.R.Rank.rank c.args.ranks.now in
    let slots = c.args.slots.now in
    let keys = c.args.keys.now in
    let at = c.partition_point-at.result in
    let key = c.in-Some-get.key.now in
    let point = IsPartitionPoint-from_clause (is_before slots rank c.args.realm c.args.rank) _ _ c.partition_point-at.ensures.partitioned (parted slots rank c.args.realm c.args.rank keys c.requires.there c.requires.by_realm c.requires.rising) (λ a r q k. search rules) in
    let not : is_there slots rank c.args.realm c.args.rank (get_or keys at key) ≡ false = ap (λ k. is_ranked rank c.args.realm c.args.rank (get slots k)) (sym c.in-Some-get.ensures.lookup.1) ∙ sym c.if-is_ranked-2.ensures in
    λ _. missing slots rank c.args.realm c.args.rank keys at key c.requires.there c.requires.by_realm c.requires.rising (λ k before within. point.0 k key (omega arith) before) (λ within. point.1 at key (omega arith) within) (λ within. not)

pub returns-in_default-get-2-clause-none : goal.returns-in_default-get-2-clause-none
returns-in_default-get-2-clause-none g c =
    let rank = g.R.Rank.rank c.args.ranks.now in
    let slots = c.args.slots.now in
    let keys = c.args.keys.now in
    let at = c.partition_point-at.result in
    let point = IsPartitionPoint-from_clause (is_before slots rank c.args.realm c.args.rank) _ _ c.partition_point-at.ensures.partitioned (parted slots rank c.args.realm c.args.rank keys c.requires.there c.requires.by_realm c.requires.rising) (λ a r q k. search rules) in
    λ _. missing slots rank c.args.realm c.args.rank keys at 0 c.requires.there c.requires.by_realm c.requires.rising (λ k before within. point.0 k 0 (omega arith) before) (λ within. point.1 at 0 (omega arith) within)
    (λ within. absurd (let there = c.get-2.ensures.lookup.0 in let none = c.in_default-get.is in grind (arith, nat_tests, there, none, within)))
