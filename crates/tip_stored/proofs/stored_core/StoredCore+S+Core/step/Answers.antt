use Rattle.tip_stored.proofs.Happening.{in_room}
use Rattle.tip_stored.proofs.stored_core.StoredCore+S+Core.step.Goals as goal

pub returns-in-Ok-clause-happens : goal.returns-in-Ok-clause-happens
returns-in-Ok-clause-happens g c = in_room g.S.RowLog.keeping c.args.self.now c.room.new.self c.happen.new.self c.args.realm c.args.event c.happen.result c.in-Ok.ensures.realms c.in-Ok.ensures.store c.happen.ensures.happens
