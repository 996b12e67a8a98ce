use Rattle.std.proofs.Common.{ap, sym, ◌∙◌}
use Rattle.std.proofs.lemmas.Option.{same_Some}
use Rattle.tip_rows.specs.Keys.{Key}
use Rattle.tip_machine.specs.declared.transaction.PartyPlace.TheVariants.{Here}
use Rattle.tip_rules.specs.Rooms.{room_for}
use Rattle.tip_rules.specs.Works.{work_of}
use Rattle.tip_rules.proofs.Beginnings.{begun_so, made_all, took_room}
use Rattle.tip_rules.proofs.beginning.Work+Connection+Transaction+Making.make.Goals as goal

pub returns-clause-does : goal.returns-clause-does
returns-clause-does g c = λ connection found.
    let head = (work_of c.args.self.now).state.head in
    let room = c.take_room-room.result in
    let key = c.args.key in
    let is = same_Some room (room_for head key) (sym c.take_room-room.ensures.taken ∙ c.requires.room) in
    let next = c.requires.key connection found in
    let party = c.give_boxes-party.result in
    made_all c.args.self.now c.give_boxes-party.new.self c.add.new.self c.args.number c.args.origin connection key (record { key = key; origin = c.args.origin; place = Here party; branches = room.branches; txn = room.txn }) found next
    (begun_so head key c.args.origin party room connection.boxes is (ap (λ (k : Key). k.epoch) next) (c.give_boxes-party.ensures.party connection found))
    (took_room c.args.self.now c.give_boxes-party.new.self c.take_room-room.new.self c.args.number key room c.take_room-room.ensures.left is c.give_boxes-party.ensures.does) c.add.ensures.does
