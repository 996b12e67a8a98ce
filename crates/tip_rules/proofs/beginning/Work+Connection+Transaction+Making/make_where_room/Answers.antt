use Rattle.std.proofs.Common.{refl, true}
use Rattle.tip_rules.proofs.Beginnings.{can_make, key_there, next_there, number_there, room_here, room_made, room_there}
use Rattle.tip_rules.proofs.beginning.Work+Connection+Transaction+Making.make_where_room.Goals as goal

pub next_key-key-requires-clause-number : goal.next_key-key-requires-clause-number
next_key-key-requires-clause-number g c = number_there c.args.self.now c.args.number c.len.result c.has_room.result c.connection-connection.result.now c.connection-connection.ensures c.len.ensures c.has_room.ensures c.if-not-has_room.false c.requires.able

pub make-requires-clause-key : goal.make-requires-clause-key
make-requires-clause-key g c = next_there c.args.self.now c.args.number c.connection-connection.result.now c.connection-connection.ensures c.next_key-key.result c.next_key-key.ensures

pub make-requires-clause-room : goal.make-requires-clause-room
make-requires-clause-room g c =
    room_there c.args.self.now c.args.number c.connection-connection.result.now c.connection-connection.ensures c.next_key-key.result c.next_key-key.ensures
    (can_make c.args.self.now c.args.number c.len.result c.has_room.result c.connection-connection.result.now c.connection-connection.ensures c.len.ensures c.has_room.ensures c.if-not-has_room.false c.requires.able)

pub returns-clause-key : goal.returns-clause-key
returns-clause-key g c = λ connection found.
    let room = room_here c.args.self.now c.args.number c.len.result c.has_room.result c.connection-connection.result.now c.connection-connection.ensures c.len.ensures c.has_room.ensures c.if-not-has_room.false c.requires.able connection found in
    key_there c.args.self.now c.args.origin connection true room c.next_key-key.result refl (next_there c.args.self.now c.args.number c.connection-connection.result.now c.connection-connection.ensures c.next_key-key.result c.next_key-key.ensures connection found)

pub returns-clause-lines : goal.returns-clause-lines
returns-clause-lines g c = room_made c.args.self.now c.make.new.self c.args.origin c.connection-connection.result.now (c.make.ensures.does c.connection-connection.result.now c.connection-connection.ensures)
