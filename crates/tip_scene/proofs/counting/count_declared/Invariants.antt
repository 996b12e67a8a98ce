use Rattle.std.proofs.Common.{◌≡◌, ◌+◌, ℕ, List, drop, map, option_map}
use Rattle.tip_rows.specs.Logs.{Log}
use Rattle.tip_scene.specs.Boxes.{box_count}
use Rattle.tip_scene.specs.Scenes.{Scene}
use Rattle.tip_scene.specs.Wanting.{AreNamed, HasAll}
use Rattle.tip_scene.proofs.counting.count_declared.Given as goal

-- what was read left the store as it was, and the boxes of so many realms are counted
abbrev pub invariant-loop-declaration : goal.invariant-loop-declaration
invariant-loop-declaration g l = record {
  stands : (log : Log) → g.S.RowLog.keeping.stands l.fn.store log → g.S.RowLog.keeping.stands l.store log;
  due : (r : List ℕ) → g.S.RowLog.keeping.is_due l.store r ≡ g.S.RowLog.keeping.is_due l.fn.store r;
  counts : g.S.RowLog.keeping.faults l.store ≡ g.S.RowLog.keeping.faults l.fn.store;
  truth : g.S.RowLog.keeping.is_true l.store → g.S.RowLog.keeping.is_true l.fn.store;
  wanted : (scene : Scene) → AreNamed (map (λ x. x.name) l.declarations) scene → HasAll g.S.RowLog.keeping l.fn.store scene → g.S.RowLog.keeping.is_true l.store → l.count + box_count (option_map (λ name. name.now) l.only) (drop l.declaration-index scene) ≡ box_count (option_map (λ name. name.now) l.only) scene;
}
