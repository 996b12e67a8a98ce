use Rattle.std.proofs.Common.{sym, ◌∙◌}
use Rattle.tip_rules.proofs.Beginnings.{begins_full, begins_made}
use Rattle.tip_rules.proofs.beginning.Work+Connection+Transaction+Making.begin.Goals as goal

pub returns-in-Some : goal.returns-in-Some
returns-in-Some g c = λ connection found.
    begins_made c.args.self.now c.make_where_room.new.self c.reply.new.self c.args.number connection found (c.make_where_room.ensures.does connection found) c.in-Some.key (sym c.in-Some.is ∙ c.make_where_room.ensures.key connection found) c.reply.ensures

pub returns-in-None : goal.returns-in-None
returns-in-None g c = λ connection found.
    begins_full c.args.self.now c.make_where_room.new.self c.reply-in-None.new.self c.args.number connection found (c.make_where_room.ensures.does connection found) (sym c.in-None.is ∙ c.make_where_room.ensures.key connection found) c.reply-in-None.ensures
