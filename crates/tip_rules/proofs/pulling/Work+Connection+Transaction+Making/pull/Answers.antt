use Rattle.std.proofs.Common.{Some, sym, ◌∙◌}
use Rattle.tip_machine.specs.States.{identified_by}
use Rattle.tip_rules.specs.Growing.{joining_part}
use Rattle.tip_rules.specs.Works.{work_of}
use Rattle.tip_rules.proofs.Beginnings.{took_peer}
use Rattle.tip_rules.proofs.Joining.{pulls, pulls_not}
use Rattle.tip_rules.proofs.pulling.Work+Connection+Transaction+Making.pull.Goals as goal

pub returns-in-Some : goal.returns-in-Some
returns-in-Some g c = λ connection found.
    let a = c.args.self.now in
    let peer = c.take_peer-address.result in
    let first = took_peer a c.take_peer-address.new.self c.take_peer-address.ensures.left c.join_part.new.self (joining_part (identified_by c.args.superior.now (work_of a).state) peer (Some c.args.subordinate)) c.join_part.ensures.does in
    pulls a c.join_part.new.self c.reply_as.new.self c.args.number connection found c.args.superior.now c.args.subordinate peer (c.take_peer-address.ensures.taken ∙ c.requires.peer) first c.in-Some.role (sym c.in-Some.is ∙ c.join_part.ensures.role) c.reply_as.ensures

pub returns-in-None : goal.returns-in-None
returns-in-None g c = λ connection found.
    let a = c.args.self.now in
    let peer = c.take_peer-address.result in
    let first = took_peer a c.take_peer-address.new.self c.take_peer-address.ensures.left c.join_part.new.self (joining_part (identified_by c.args.superior.now (work_of a).state) peer (Some c.args.subordinate)) c.join_part.ensures.does in
    pulls_not a c.join_part.new.self c.reply.new.self c.args.number connection found c.args.superior.now c.args.subordinate peer (c.take_peer-address.ensures.taken ∙ c.requires.peer) first (sym c.in-None.is ∙ c.join_part.ensures.role) c.reply.ensures
