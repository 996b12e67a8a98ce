use Rattle.std.proofs.Common.{[]}
use Rattle.tip_scene.specs.Acts.{Declaring}
use Rattle.tip_play.specs.Transcripts.{lines_of}
use Rattle.tip_history.proofs.Following.{left_at}
use Rattle.tip_history.proofs.laws.the_histories_lead_to_what_is_left.Goals as goal

pub returns : goal.returns
returns c = λ basis script stage is. left_at basis (Declaring []) 1 (lines_of script) stage is
