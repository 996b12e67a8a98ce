use Rattle.tip_rules.proofs.Commanding.{served_next}
use Rattle.tip_rules.proofs.commands.Work+Connection+Transaction+Making.command.Goals as goal

pub serve-requires-clause-next : goal.serve-requires-clause-next
serve-requires-clause-next g c = λ connection found. served_next c.args.self.now c.args.number c.args.command c.admit.result c.connection-connection.result.now connection c.connection-connection.ensures c.admit.ensures c.in-Serve.is found (c.requires.next connection found)
