use Rattle.std.proofs.Common.{Some, ap, subst, sym, ◌∙◌}
use Rattle.tip_table.specs.Kept.{StandsAt}
use Rattle.tip_machine.specs.Connections.{advanced, has_number}
use Rattle.tip_machine.specs.Types.{Connection}
use Rattle.tip_rules.specs.Works.{Held}
use Rattle.tip_rules.proofs.Works.{replied_as}
use Rattle.tip_rules.proofs.connections.Work+Connection+Transaction+Making.reply_as.Goals as goal

pub returns : goal.returns
returns g c =
    let item = c.item_mut-connection.result.now in
    replied_as c.args.self.now c.tell.new.self c.args.number c.args.place c.args.command c.args.said c.args.role item (record c.go.new.self { role = Some c.args.role }) c.tell.ensures.does
    (subst (λ (h : Held). StandsAt h.connections h.realm (has_number c.args.number) c.args.place) (sym c.tell.ensures.tables) c.requires.stands)
    c.item_mut-connection.ensures.value
    (ap (λ (v : Connection). record v { role = Some c.args.role }) (c.go.ensures ∙ ap (λ r. advanced c.args.command r item) c.name-response.ensures))
