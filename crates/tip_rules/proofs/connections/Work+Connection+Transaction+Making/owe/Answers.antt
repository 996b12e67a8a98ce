use Rattle.tip_rules.proofs.Commanding.{owing_stands}
use Rattle.std.proofs.Common.{refl}
use Rattle.tip_machine.specs.Connections.{owing}
use Rattle.tip_rules.proofs.Works.{changed_at}
use Rattle.tip_rules.proofs.connections.Work+Connection+Transaction+Making.owe.Goals as goal

pub returns : goal.returns
returns g c = record { does = changed_at c.args.self.now c.args.number (owing c.args.command) c.args.place _ _ c.requires c.item_mut-connection.ensures.value refl; stands = owing_stands c.args.self.now c.args.number c.args.place c.args.command c.item_mut-connection.result.now c.requires c.item_mut-connection.ensures.value }
