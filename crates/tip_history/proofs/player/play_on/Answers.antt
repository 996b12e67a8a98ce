use Rattle.std.proofs.Common.{◌≡◌, true, subst}
use Rattle.std.specs.Prelude.{IfSome}
use Rattle.tip_play.specs.Transcripts.{TranscribesOn, covers_all}
use Rattle.tip_history.proofs.Telling.{tells_on}
use Rattle.tip_history.proofs.player.play_on.Goals as goal

pub returns-clause-tells : goal.returns-clause-tells
returns-clause-tells g c basis unasked stored written script says covers =
    let kept = g.S.RowLog.keeping in
    let rest = g.R.Read.remaining c.play_on.new.input in
    let old = g.W.Write.contents c.args.output.now in
    let new = g.W.Write.contents c.play_on.new.output in
    let read = subst (λ r. IfSome r (λ s. covers_all basis s ≡ true → TranscribesOn kept basis s rest old new c.play_on.result)) says (c.play_on.ensures.transcribes basis unasked stored) in
    tells_on kept basis written script rest old new c.play_on.result (read covers)
