-- Rows in memory may always be relied on.
use Rattle.std.proofs.Common.{refl, subst, sym}
use Rattle.std.specs.Prelude.{IfSome, IsErrOf}
use Rattle.tip_play.specs.declared.fault.PlayFault.TheVariants.{Store}
use Rattle.tip_play.specs.Transcripts.{Transcribes, in_memory}
use Rattle.tip_play.proofs.Ending.{all_ended, is_blank, never_blamed}
use Rattle.tip_play.proofs.player.play.Goals as goal

pub returns-clause-transcribes : goal.returns-clause-transcribes
returns-clause-transcribes g c = subst (λ r. IfSome (g.R.Read.remaining c.args.input.now) (λ script. Transcribes in_memory script (g.R.Read.remaining c.play_over.new.input) (g.W.Write.contents c.args.output.now) (g.W.Write.contents c.play_over.new.output) r)) (sym c.ended.ensures)
    (all_ended (g.R.Read.remaining c.args.input.now) (g.R.Read.remaining c.play_over.new.input) (g.W.Write.contents c.args.output.now) (g.W.Write.contents c.play_over.new.output) c.play_over.result
    (c.play_over.ensures.transcribes in_memory refl (is_blank c.new.result c.new.ensures.empty c.new.ensures.none_due)))

pub returns-clause-unblamed : goal.returns-clause-unblamed
returns-clause-unblamed g c = λ is. never_blamed c.play_over.result (subst (λ r. IsErrOf r Store) c.ended.ensures is)
