use Rattle.std.proofs.Common.{refl}
use Rattle.tip_machine.proofs.Walks.{found-number}
use Rattle.tip_machine.specs.Connections.{awaiting}
use Rattle.tip_rules.proofs.Beginnings.{giving_stands, standing_number}
use Rattle.tip_rules.proofs.Works.{changed_at}
use Rattle.tip_rules.specs.Works.{work_of}
use Rattle.tip_rules.proofs.connections.Work+Connection+Transaction+Making.wait_for.Goals as goal

pub returns : goal.returns
returns g c =
    let item = c.item_mut-connection.result.now in
    record {
      does = changed_at c.args.self.now c.args.number (awaiting c.args.awaited) c.args.place _ _ c.requires c.item_mut-connection.ensures.value refl;
      stands = giving_stands c.args.self.now c.args.number c.args.place _ c.requires (found-number c.args.number (work_of c.args.self.now).state.connections item (standing_number c.args.self.now c.args.number c.args.place item c.requires c.item_mut-connection.ensures.value));
    }
