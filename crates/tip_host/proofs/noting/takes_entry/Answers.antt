use Rattle.tip_core.specs.Hosted.{realm}
use Rattle.tip_host.proofs.Entering.{few_here, takes_is}
use Rattle.tip_host.proofs.noting.takes_entry.Goals as goal

pub returns-clause-takes : goal.returns-clause-takes
returns-clause-takes g c = takes_is c.heads.result.now c.args.realm (realm c.args.core.now c.args.realm) (c.heads.ensures c.args.realm) c.has_room.result c.has_room.ensures.takes

pub returns-clause-few : goal.returns-clause-few
returns-clause-few g c = λ yes state here. few_here c.heads.result.now c.args.realm (realm c.args.core.now c.args.realm) (c.heads.ensures c.args.realm) state here (c.has_room.ensures.few yes)
