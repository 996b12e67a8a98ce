use Rattle.tip_history.proofs.Playing.{told_script}
use Rattle.tip_history.proofs.laws.each_transcript_tells_honest_histories.Goals as goal

pub returns : goal.returns
returns c = told_script
