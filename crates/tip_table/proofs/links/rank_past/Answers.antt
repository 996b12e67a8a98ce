use Rattle.std.proofs.Common.{arith}
use Rattle.tip_table.proofs.Linking.{up_to-walked}
use Rattle.tip_table.proofs.links.rank_past.Goals as goal

pub returns-clause-within : goal.returns-clause-within
returns-clause-within g c = (up_to-walked c.args.slots.now c.args.realm c.args.link c.args.links.now c.args.known c.requires.links c.requires.within c.requires.before c.len_up_to.result c.len_up_to.ensures).0

pub returns-clause-before : goal.returns-clause-before
returns-clause-before g c = (up_to-walked c.args.slots.now c.args.realm c.args.link c.args.links.now c.args.known c.requires.links c.requires.within c.requires.before c.len_up_to.result c.len_up_to.ensures).1

pub returns-clause-behind : goal.returns-clause-behind
returns-clause-behind g c = (up_to-walked c.args.slots.now c.args.realm c.args.link c.args.links.now c.args.known c.requires.links c.requires.within c.requires.before c.len_up_to.result c.len_up_to.ensures).2

pub overflow_add-result : goal.overflow_add-result
overflow_add-result g c =
    let within = (up_to-walked c.args.slots.now c.args.realm c.args.link c.args.links.now c.args.known c.requires.links c.requires.within c.requires.before c.len_up_to.result c.len_up_to.ensures).0 in
    omega (arith, within)
