use Rattle.std.proofs.Common.{sym, ◌∙◌}
use Rattle.tip_machine.specs.declared.transaction.Origin.TheVariants.{Subordinate}
use Rattle.tip_rules.proofs.Beginnings.{pushes_full, pushes_made, still_able, took_peer}
use Rattle.tip_rules.specs.Works.{make_where_room}
use Rattle.tip_rules.proofs.beginning.Work+Connection+Transaction+Making.push_new.Goals as goal

pub make_where_room-requires-clause-able : goal.make_where_room-requires-clause-able
make_where_room-requires-clause-able g c = still_able c.args.self.now c.take_peer-address.new.self c.take_peer-address.ensures.left c.args.number c.requires.able

pub returns-in-Some : goal.returns-in-Some
returns-in-Some g c = λ connection found.
    let from = Subordinate c.take_peer-address.result c.args.superior in
    let first = took_peer c.args.self.now c.take_peer-address.new.self c.take_peer-address.ensures.left c.make_where_room.new.self (make_where_room from connection) (c.make_where_room.ensures.does connection found) in
    pushes_made c.args.self.now c.make_where_room.new.self c.reply.new.self c.args.number connection found c.take_peer-address.result c.args.superior (c.take_peer-address.ensures.taken ∙ c.requires.peer) first c.in-Some.key (sym c.in-Some.is ∙ c.make_where_room.ensures.key connection found) c.reply.ensures

pub returns-in-None : goal.returns-in-None
returns-in-None g c = λ connection found.
    let from = Subordinate c.take_peer-address.result c.args.superior in
    let first = took_peer c.args.self.now c.take_peer-address.new.self c.take_peer-address.ensures.left c.make_where_room.new.self (make_where_room from connection) (c.make_where_room.ensures.does connection found) in
    pushes_full c.args.self.now c.make_where_room.new.self c.reply-in-None.new.self c.args.number connection found c.take_peer-address.result c.args.superior (c.take_peer-address.ensures.taken ∙ c.requires.peer) first (sym c.in-None.is ∙ c.make_where_room.ensures.key connection found) c.reply-in-None.ensures
