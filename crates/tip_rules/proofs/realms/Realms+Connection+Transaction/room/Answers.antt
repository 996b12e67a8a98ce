use Rattle.tip_rules.proofs.Lending.{prepared_stays}
use Rattle.tip_rules.proofs.realms.Realms+Connection+Transaction.room.Goals as goal

pub returns-clause-realms : goal.returns-clause-realms
returns-clause-realms g c = prepared_stays c.args.self.now c.lend-work.new.self c.take_back.new.self c.args.realm _ _ c.idle-idle.result c.prepare-room.new.self.making c.lend-work.result c.prepare-room.new.self c.lend-work.ensures.lent c.prepare-room.ensures.connections c.prepare-room.ensures.transactions c.prepare-room.ensures.rest c.take_back.ensures.taken c.lend-work.ensures.others c.take_back.ensures.others
