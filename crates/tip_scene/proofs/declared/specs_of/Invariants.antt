use Rattle.std.proofs.Common.{◌≡◌, ◌++◌, map}
use Rattle.tip_scene.specs.Stages.{spec_of}
use Rattle.tip_scene.proofs.declared.specs_of.Given as goal

abbrev pub invariant-loop-declaration : goal.invariant-loop-declaration
invariant-loop-declaration l = record {
  whole : l.yielded ++ l.declaration-iterator.rest.items ≡ l.fn.declarations.items;
  made : l.specs.items ≡ map spec_of l.yielded;
}
