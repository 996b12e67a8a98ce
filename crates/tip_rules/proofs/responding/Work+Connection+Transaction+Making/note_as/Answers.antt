use Rattle.tip_rules.proofs.Responses.{went_next}
use Rattle.tip_rules.proofs.responding.Work+Connection+Transaction+Making.note_as.Goals as goal

pub note_on-requires-clause-next : goal.note_on-requires-clause-next
note_on-requires-clause-next g c = went_next c.args.self.now c.go.new.self c.args.number c.args.command c.args.response c.args.note c.connection.result.now c.connection.ensures c.go.ensures.does c.in-Some.role c.in-Some.is (c.requires.next c.connection.result.now c.connection.ensures)
