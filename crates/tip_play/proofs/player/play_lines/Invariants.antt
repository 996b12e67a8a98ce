use Rattle.std.proofs.Common.{◌≡◌, ◌≤◌, false, length, map, take}
use Rattle.tip_scene.specs.Acts.{Basis}
use Rattle.tip_scene.specs.Boxes.{AreWilling}
use Rattle.tip_scene.specs.Stages.{IsBasis, IsSound, store_of}
use Rattle.tip_script.specs.Scripts.{plans_of}
use Rattle.tip_play.proofs.Making.{fresh_of, read_of}
use Rattle.tip_play.proofs.Reading.{Goes, IsCoveredBy, LeavesFrom}
use Rattle.tip_play.proofs.player.play_lines.Given as goal

-- so much was read and played, or the whole script
abbrev pub invariant-loop-number : goal.invariant-loop-number
invariant-loop-number g l = record {
  numbered : l.number ≤ 18446744073709551614;
  sound : IsSound l.stage;
  truth : g.S.RowLog.keeping.is_true (store_of l.stage) → g.S.RowLog.keeping.is_true l.fn.store;
  counts : g.F.Refuser.may ≡ false → g.S.RowLog.keeping.faults (store_of l.stage) ≡ g.S.RowLog.keeping.faults l.fn.store;
  rest : (basis : Basis) → basis.may_refuse ≡ g.F.Refuser.may → IsBasis g.S.RowLog.keeping basis l.fn.store → IsCoveredBy basis (g.R.Read.remaining l.fn.input) → g.S.RowLog.keeping.is_true (store_of l.stage) → LeavesFrom g.S.RowLog.keeping basis l.fn.store l.stage;
  goes : (basis : Basis) → basis.may_refuse ≡ g.F.Refuser.may → IsBasis g.S.RowLog.keeping basis l.fn.store → IsCoveredBy basis (g.R.Read.remaining l.fn.input) → g.S.RowLog.keeping.is_true (store_of l.stage) → Goes g.S.RowLog.keeping basis l.is_over l.stage l.number (g.R.Read.remaining l.fn.input) (g.R.Read.remaining l.input) (g.W.Write.contents l.fn.output) (g.W.Write.contents l.output);
}

-- making boxes leaves the stage, and each holds the branch of its letter
abbrev pub invariant-loop-kind : goal.invariant-loop-kind
invariant-loop-kind g l = record {
  same : l.stage ≡ l.initial.stage;
  made : map (read_of (λ s. s.standing)) l.boxes.items ≡ map fresh_of (plans_of (take l.kind-index l.kind-items));
}

abbrev pub invariant-loop : goal.invariant-loop
invariant-loop g l = record {
  same : l.stage ≡ l.initial.stage;
  counted : length l.pool.items ≡ l.counter;
  made : AreWilling (map (read_of (λ s. s.standing)) l.pool.items);
}
