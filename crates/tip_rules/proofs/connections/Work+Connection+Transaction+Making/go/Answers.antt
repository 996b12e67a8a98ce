use Rattle.std.proofs.Common.{ap, refl, ◌∙◌}
use Rattle.tip_machine.proofs.RuleWalks.{advanced-number}
use Rattle.tip_machine.proofs.Walks.{found-number}
use Rattle.tip_machine.specs.Connections.{advanced}
use Rattle.tip_machine.specs.Types.{Connection}
use Rattle.tip_rules.proofs.Beginnings.{giving_stands, standing_number}
use Rattle.tip_rules.proofs.Works.{changed_at}
use Rattle.tip_rules.specs.Works.{work_of}
use Rattle.tip_rules.proofs.connections.Work+Connection+Transaction+Making.go.Goals as goal

pub returns : goal.returns
returns g c =
    let item = c.item_mut-connection.result.now in
    record {
      does = changed_at c.args.self.now c.args.number (advanced c.args.command c.args.response) c.args.place _ _ c.requires c.item_mut-connection.ensures.value c.go.ensures;
      rest = refl;
      stands = giving_stands c.args.self.now c.args.number c.args.place c.go.new.self c.requires
          (ap (λ (d : Connection). d.number) c.go.ensures ∙ advanced-number c.args.command c.args.response item ∙ found-number c.args.number (work_of c.args.self.now).state.connections item (standing_number c.args.self.now c.args.number c.args.place item c.requires c.item_mut-connection.ensures.value));
    }
