use Rattle.std.proofs.Common.{None, subst, sym, ◌∙◌}
use Rattle.tip_machine.specs.Changes.{change, send}
use Rattle.tip_machine.specs.Connections.{taking}
use Rattle.tip_machine.specs.States.{identified_by}
use Rattle.tip_machine.specs.declared.connection.Awaited.TheVariants.{Push}
use Rattle.tip_rules.specs.Growing.{joining_part}
use Rattle.tip_rules.specs.Works.{Does, work_of}
use Rattle.tip_rules.proofs.Beginnings.{took_peer}
use Rattle.tip_rules.proofs.Requests.{pushes, pushes_not}
use Rattle.tip_rules.proofs.requesting.Work+Connection+Transaction+Making.push_out.Goals as goal

pub returns-in-Some : goal.returns-in-Some
returns-in-Some g c = λ connection found.
    let a = c.args.self.now in
    let peer = c.take_peer-address.result in
    let first = took_peer a c.take_peer-address.new.self c.take_peer-address.ensures.left c.join_part.new.self (joining_part (identified_by c.args.id.now (work_of a).state) peer None) c.join_part.ensures.does in
    pushes a c.join_part.new.self c.send_as.new.self c.args.number connection found c.args.id.now peer (c.take_peer-address.ensures.taken ∙ c.requires.peer) first c.in-Some.role (sym c.in-Some.is ∙ c.join_part.ensures.role)
    (subst (λ k. Does c.join_part.new.self c.send_as.new.self (change c.args.number (taking c.in-Some.role) (send c.args.number Push k (work_of c.join_part.new.self)))) c.pushed.ensures c.send_as.ensures)

pub returns-in-None : goal.returns-in-None
returns-in-None g c = λ connection found.
    let a = c.args.self.now in
    let peer = c.take_peer-address.result in
    let first = took_peer a c.take_peer-address.new.self c.take_peer-address.ensures.left c.join_part.new.self (joining_part (identified_by c.args.id.now (work_of a).state) peer None) c.join_part.ensures.does in
    pushes_not a c.join_part.new.self c.refuse.new.self c.args.number connection found c.args.id.now peer (c.take_peer-address.ensures.taken ∙ c.requires.peer) first (sym c.in-None.is ∙ c.join_part.ensures.role) c.refuse.ensures
