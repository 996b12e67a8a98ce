use Rattle.std.proofs.Common.{◌≡◌, take}
use Rattle.tip_duties.specs.Duties.{called, resumed}
use Rattle.tip_duties.proofs.duties.Duties.of.Given as goal

abbrev pub invariant-loop-row : goal.invariant-loop-row
invariant-loop-row g l = record {
  resumes : l.resumes.items ≡ resumed (take l.row-index l.rows);
  dials : l.dials.items ≡ called (take l.row-index l.rows);
}
