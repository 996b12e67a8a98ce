use Rattle.tip_history.proofs.Telling.{tells_if}
use Rattle.tip_history.proofs.player.play.Goals as goal

pub returns-clause-tells : goal.returns-clause-tells
returns-clause-tells g c = tells_if (g.R.Read.remaining c.args.input.now) (g.R.Read.remaining c.play.new.input) (g.W.Write.contents c.args.output.now) (g.W.Write.contents c.play.new.output) c.play.result c.play.ensures.transcribes
