use Rattle.std.proofs.Common.{subst}
use Rattle.tip_table.specs.Kept.{StandsAt}
use Rattle.tip_outlook.specs.Searches.{is_named}
use Rattle.tip_rules.proofs.Identifying.{key_there}
use Rattle.tip_rules.proofs.finding.key_named.Goals as goal

pub returns : goal.returns
returns g c =
    let transactions = c.args.transactions.now in
    let here : StandsAt transactions c.args.realm (is_named c.args.name.now c.args.id.now) c.in_ok-place.place = subst (λ q. StandsAt transactions c.args.realm (is_named q.realm q.id) c.in_ok-place.place) c.of-query.ensures c.in_ok-place.ensures.some in
    key_there transactions c.args.realm c.args.name.now c.args.id.now c.in_ok-place.place c.item.result.now here c.item.ensures
