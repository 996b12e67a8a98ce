-- Nothing was done yet.
use Rattle.tip_script.specs.Moves.{move_by}
use Rattle.tip_scene.proofs.Halting.{none_of_it}
use Rattle.tip_scene.proofs.playing.Playing+StoredCore+S+Actor.serve.Goals as goal

pub returns-in_err-boxes-clause-halts : goal.returns-in_err-boxes-clause-halts
returns-in_err-boxes-clause-halts g c = λ scene is may boxes truth. none_of_it g.S.RowLog.keeping c.args.self.now.stored_core c.args.self.now.stored_core.store c.args.self.now.actors.items scene (move_by c.args.instruction) c.args.realm.now is (λ name epoch rows stored. stored)
