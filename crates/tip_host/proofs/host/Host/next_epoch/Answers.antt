use Rattle.tip_core.specs.Hosted.{realm}
use Rattle.tip_host.proofs.Renewals.{next_is}
use Rattle.tip_host.proofs.host.Host.next_epoch.Goals as goal

pub returns : goal.returns
returns g c = rw (← c.self.view_is) (next_is c.heads.result.now c.args.realm (realm c.self.inside.stored.core c.args.realm) (c.heads.ensures c.args.realm) c.next_epoch.result c.next_epoch.ensures c.self.inside.stored.is_stopped c.if-self.false)
