use Rattle.std.proofs.Common.{◌∙◌}
use Rattle.tip_rules.proofs.Beginnings.{gives_boxes, standing_number}
use Rattle.tip_rules.proofs.beginning.Work+Connection+Transaction+Making.give_boxes.Goals as goal

pub returns-clause-does : goal.returns-clause-does
returns-clause-does g c =
    let item = c.item_mut-connection.result.now in
    let found = standing_number c.args.self.now c.args.number c.args.place item c.requires.stands c.item_mut-connection.ensures.value in
    let next = c.requires.made item found in
    gives_boxes c.args.self.now c.args.number c.args.place c.args.room c.args.key item c.number-connection.result c.take_party.new.self c.requires.stands c.item_mut-connection.ensures.value (c.number-connection.ensures.same ∙ next) c.take_party.ensures.rest
