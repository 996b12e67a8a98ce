use Rattle.std.proofs.Common.{◌≡◌, length, map, take}
use Rattle.tip_journal.specs.Retiring.{none_retired}
use Rattle.tip_host.specs.Openings.{AreTaken, opened}
use Rattle.tip_host.proofs.opening.open_all.Given as goal

-- the realms that were reached
abbrev pub invariant-loop-recovery : goal.invariant-loop-recovery
invariant-loop-recovery g l = record {
  journals : l.journals ≡ map opened (take l.recovery-index l.realms);
  count : length l.rows ≡ l.recovery-index;
  retired : l.retired.items ≡ map (λ recovery. none_retired) (take l.recovery-index l.realms);
  taken : AreTaken l.recovery-index l.rows l.realms;
}
