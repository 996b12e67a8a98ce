use Rattle.tip_table.proofs.OwnLemmas.{own-range}
use Rattle.tip_table.proofs.order.own.Goals as goal

pub returns : goal.returns
returns g c = rw (c.before-2.ensures.count, c.through.ensures.count) (own-range c.args.slots.now c.args.keys.now c.args.realm c.requires.there c.requires.by_realm)
