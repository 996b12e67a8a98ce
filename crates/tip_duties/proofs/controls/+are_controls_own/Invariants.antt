use Rattle.std.proofs.Common.{length}
use Rattle.tip_duties.proofs.controls.+are_controls_own.Given as goal

-- proposed from what the function passes where it calls itself
abbrev pub decreases-are_controls_own : goal.decreases-are_controls_own
decreases-are_controls_own l = length l.realms.now
