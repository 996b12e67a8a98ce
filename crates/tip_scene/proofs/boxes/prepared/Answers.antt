-- Willing boxes are ready, and known as such.
use Rattle.std.proofs.Common.{◌∙◌, ap, map}
use Rattle.tip_branch.specs.Lots.{badges_of}
use Rattle.tip_scene.proofs.Dealing.{are_known, are_ready}
use Rattle.tip_scene.proofs.boxes.prepared.Goals as goal

pub unreachable-requires : goal.unreachable-requires
unreachable-requires g c = c.in_default.ensures.ready (are_ready _ c.requires)

pub returns-in-Ok-into_lot : goal.returns-in-Ok-into_lot
returns-in-Ok-into_lot g c = c.of-in-Ok-into_lot.ensures ∙ c.in-Ok-into_lot.ensures.known ∙ ap (λ b. badges_of (map (λ x. (goal.Branch-dyn g (x.vtable, x.value)).standing x.value) b.items)) c.in-Ok.ensures.same ∙ are_known _ c.args.boxes.items c.requires
