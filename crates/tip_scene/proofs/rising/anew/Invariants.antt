use Rattle.std.proofs.Common.{◌≡◌, ◌++◌}
use Rattle.tip_scene.specs.Rising.{AreAnew}
use Rattle.tip_scene.proofs.rising.anew.Given as goal

-- nothing has come to those that were taken
abbrev pub invariant-loop-actor : goal.invariant-loop-actor
invariant-loop-actor g l = record {
  whole : l.yielded ++ l.actor-iterator.rest.items ≡ l.fn.actors.items;
  made : AreAnew l.again.items l.yielded;
}
