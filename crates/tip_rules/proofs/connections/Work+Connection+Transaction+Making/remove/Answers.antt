use Rattle.std.proofs.Common.{Some, ap, ◌∙◌}
use Rattle.std.specs.Prelude.{option_map}
use Rattle.tip_table.proofs.Standing.{found}
use Rattle.tip_rules.proofs.Works.{removed}
use Rattle.tip_machine.specs.Connections.{has_number}
use Rattle.tip_rules.proofs.connections.Work+Connection+Transaction+Making.remove.Goals as goal

pub returns-clause-role : goal.returns-clause-role
returns-clause-role g c = ap (option_map (λ connection. connection.role)) (found c.args.self.now.connections c.args.self.now.realm (has_number c.args.number) c.args.place c.requires ∙ c.remove-connection.ensures.taken)

pub returns-clause-gone : goal.returns-clause-gone
returns-clause-gone g c = λ connection at.
    removed c.args.self.now c.args.number c.args.place c.remove-connection.new.self c.hand_back.new.self connection c.remove-connection.result c.requires at c.remove-connection.ensures.taken c.remove-connection.ensures.left c.remove-connection.ensures.room
    (c.hand_back.ensures ∙ ap (λ boxes. record c.args.self.now.making { answer = record c.args.self.now.making.answer { unused = Some boxes } }) c.into_boxes.ensures)
