-- However far it has come.
use Rattle.std.proofs.Common.{◌∙◌, sym}
use Rattle.tip_line.specs.Words.{is_word}
use Rattle.tip_actor.specs.Acting.{on_connection, pushes}
use Rattle.tip_scene.proofs.Halting.{halts_worded}
use Rattle.tip_scene.proofs.requests.push.Goals as goal

pub returns-in-Some-clause-halts : goal.returns-in-Some-clause-halts
returns-in-Some-clause-halts g c = λ acting realm is. halts_worded g.S.RowLog.keeping c.args.stored_core.now.store c.push.new.stored_core.store c.args.actor.now.name acting (is_word c.args.asked.id.now) c.args.asked.id.now c.in-Some.id (λ id. on_connection (pushes id) c.args.asked.connection acting) (sym c.in-Some.is ∙ c.in_ok-id.ensures) (c.push.ensures.halts acting is)
