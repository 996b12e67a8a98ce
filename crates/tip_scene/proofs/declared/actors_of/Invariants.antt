use Rattle.std.proofs.Common.{take}
use Rattle.tip_scene.specs.Acts.{Basis, scene_of}
use Rattle.tip_scene.specs.Rising.{AreNew}
use Rattle.tip_scene.proofs.declared.actors_of.Given as goal

-- each realm before this one is at its start
abbrev pub invariant-loop-declaration : goal.invariant-loop-declaration
invariant-loop-declaration g l = (basis : Basis) → AreNew l.actors.items (scene_of basis (take l.declaration-index l.declarations))
