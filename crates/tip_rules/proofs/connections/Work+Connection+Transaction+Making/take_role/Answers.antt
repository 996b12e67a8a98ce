use Rattle.std.proofs.Common.{refl}
use Rattle.tip_machine.specs.Connections.{taking}
use Rattle.tip_rules.proofs.Works.{changed_at}
use Rattle.tip_rules.proofs.connections.Work+Connection+Transaction+Making.take_role.Goals as goal

pub returns : goal.returns
returns g c = changed_at c.args.self.now c.args.number (taking c.args.role) c.args.place _ _ c.requires c.item_mut-connection.ensures.value refl
