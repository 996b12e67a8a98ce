use Rattle.std.proofs.Common.{◌≡◌, ◌++◌, drop, string_bytes}
use Rattle.std.specs.List.{flat_map}
use Rattle.tip_actor.specs.Acting.{restarts}
use Rattle.tip_scene.specs.Scenes.{Scene}
use Rattle.tip_scene.specs.Standing.{IsScene}
use Rattle.tip_scene.proofs.restarting.print_leaving.Given as goal

-- what was printed, and then what those that are left let go, is what all let go
abbrev pub invariant-loop-place : goal.invariant-loop-place
invariant-loop-place g l = (scene : Scene) → IsScene g.S.RowLog.keeping l.fn.stored_core l.fn.actors scene → string_bytes l.printed ++ flat_map (λ acting. (restarts acting).printed) (drop l.place scene) ≡ string_bytes l.fn.printed ++ flat_map (λ acting. (restarts acting).printed) scene
