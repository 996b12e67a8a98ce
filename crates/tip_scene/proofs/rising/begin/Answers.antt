-- The realms are at work.
use Rattle.tip_scene.proofs.Begun.{begins}
use Rattle.tip_scene.proofs.rising.begin.Goals as goal

pub returns-clause-scene : goal.returns-clause-scene
returns-clause-scene g c = λ scene are rising. begins g.S.RowLog.keeping c.args.recovering c.in-Ok-begin.stored_core (record { store = c.in-Ok-begin.ensures.store; realms = c.in-Ok-begin.ensures.realms; names = c.in-Ok-begin.ensures.names }) c.args.actors.items scene are rising
