use Rattle.std.proofs.Common.{slice_index_or}
use Rattle.tip_table.proofs.Linking.{range-is, up_to-earlier}
use Rattle.tip_table.proofs.links.listed.Goals as goal

pub rank_past-requires-clause-before : goal.rank_past-requires-clause-before
rank_past-requires-clause-before g c = λ at less. up_to-earlier c.args.slots.now c.args.realm c.args.link (slice_index_or c.args.links.now at 0) (c.rank-start.ensures.before at less)

pub slice_bounds-result-count : goal.slice_bounds-result-count
slice_bounds-result-count g c = (range-is c.args.slots.now c.args.realm c.args.link c.args.links.now c.rank-start.result c.rank_past.result c.requires c.rank-start.ensures.within c.rank_past.ensures.within c.rank-start.ensures.before c.rank-start.ensures.behind c.rank_past.ensures.before c.rank_past.ensures.behind).0

pub returns : goal.returns
returns g c = (range-is c.args.slots.now c.args.realm c.args.link c.args.links.now c.rank-start.result c.rank_past.result c.requires c.rank-start.ensures.within c.rank_past.ensures.within c.rank-start.ensures.before c.rank-start.ensures.behind c.rank_past.ensures.before c.rank_past.ensures.behind).1
