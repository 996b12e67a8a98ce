-- The next change of the realm is to be refused, where the store can be asked for that.
use Rattle.std.proofs.Common.{refl}
use Rattle.tip_actor.proofs.Doing.{has_refused}
use Rattle.tip_actor.proofs.actor.Actor+PartyOut.refuse.Goals as goal

pub returns-clause-refuses : goal.returns-clause-refuses
returns-clause-refuses g c = λ may place printed acting is. has_refused g.S.RowLog.keeping c.args.stored_core.now _ place c.args.self.now _ printed acting is refl refl refl refl refl (c.refuse_next.ensures.stands may) (c.refuse_next.ensures.due may)
