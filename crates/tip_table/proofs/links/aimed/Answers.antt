use Rattle.std.proofs.Common.{subst, sym}
use Rattle.tip_table.specs.Entries.{own_keys}
use Rattle.tip_table.specs.Links.{AreEnough}
use Rattle.tip_table.proofs.Aiming.{aimed_enough, all_enough}
use Rattle.tip_table.proofs.links.aimed.Goals as goal

pub returns-in-Some : goal.returns-in-Some
returns-in-Some g c =
    let link = g.T.Linked in
    let own = own_keys c.args.slots.now c.args.order.now c.args.realm in
    subst (λ aim. AreEnough link c.args.slots.now own aim c.listed.result.now) (sym c.in-Some.is)
    (subst (AreEnough link c.args.slots.now own _) (sym c.listed.ensures) (aimed_enough link c.args.slots.now c.args.order.now c.args.realm c.args.links.now c.args.unlisted c.in-Some.link c.requires.known (c.is_whole.ensures c.if-is_whole.true)))

pub returns-in_default : goal.returns-in_default
returns-in_default g c =
    let link = g.T.Linked in
    let own = own_keys c.args.slots.now c.args.order.now c.args.realm in
    subst (AreEnough link c.args.slots.now own c.args.aim) (sym c.own.ensures) (all_enough link c.args.slots.now c.args.order.now c.args.realm c.args.aim)
