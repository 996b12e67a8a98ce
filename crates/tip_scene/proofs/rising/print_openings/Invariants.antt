use Rattle.std.proofs.Common.{◌≡◌, ◌++◌, drop, string_bytes}
use Rattle.tip_scene.specs.Rising.{AreNew, AreRising}
use Rattle.tip_scene.specs.Scenes.{Scene, openings_text}
use Rattle.tip_scene.proofs.rising.print_openings.Given as goal

-- what was printed, and then what those that are left say, is what all say
abbrev pub invariant-loop-place : goal.invariant-loop-place
invariant-loop-place g l = (scene : Scene) → AreNew l.fn.actors scene → AreRising g.S.RowLog.keeping l.fn.recovering scene → string_bytes l.printed ++ openings_text (drop l.place scene) ≡ string_bytes l.fn.printed ++ openings_text scene
