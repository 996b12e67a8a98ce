-- Each realm may be hosted.
use Rattle.std.proofs.Common.{◌++◌, ◌∙◌, List, ap, sym}
use Rattle.tip_scene.specs.declared.declared.Declaration.{Declaration}
use Rattle.tip_scene.proofs.Hosting.{one_hostable}
use Rattle.tip_scene.proofs.declared.specs_of.Goals as goal

pub into_spec-requires : goal.into_spec-requires
into_spec-requires c = one_hostable c.loop-declaration.yielded c.next.new.self.rest.items c.args.declarations.items c.in-Some.declaration c.requires (ap (λ (l : List Declaration). c.loop-declaration.yielded ++ l) (sym c.in-Some.ensures.steps.0) ∙ c.loop-declaration.invariant.whole)
