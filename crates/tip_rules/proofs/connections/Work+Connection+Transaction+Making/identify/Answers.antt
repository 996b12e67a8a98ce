use Rattle.tip_machine.specs.Connections.{identified}
use Rattle.tip_rules.proofs.Works.{changed_at}
use Rattle.tip_rules.proofs.connections.Work+Connection+Transaction+Making.identify.Goals as goal

pub returns : goal.returns
returns g c = changed_at c.args.self.now c.args.number (identified c.args.peer) c.args.place _ _ c.requires c.item_mut-connection.ensures.value c.identify.ensures
