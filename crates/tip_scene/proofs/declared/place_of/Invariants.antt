use Rattle.tip_scene.proofs.Places.{NonePasses}
use Rattle.tip_scene.specs.Acts.{is_declared}
use Rattle.tip_scene.proofs.declared.place_of.Given as goal

-- no realm before this one has the name
abbrev pub invariant-loop-place : goal.invariant-loop-place
invariant-loop-place l = NonePasses (is_declared l.name) l.declarations l.place
