-- What was not read of realms that are covered was refused.
use Rattle.std.proofs.Common.{◌≡◌, ◌∙◌, List, Some, map, subst, sym}
use Rattle.std.specs.Prelude.{slice_get}
use Rattle.tip_scene.specs.declared.declared.Declaration.{Declaration}
use Rattle.tip_scene.proofs.Blaming.{never_spoiled}
use Rattle.tip_scene.proofs.Staging.{name_covered}
use Rattle.tip_scene.proofs.Wanting.{declared_names, has_declared}
use Rattle.tip_scene.specs.Acts.{scene_of}
use Rattle.tip_scene.specs.Wanting.{AreNamed}
use Rattle.tip_scene.proofs.declared.Declared+S+Core.willing.Goals as goal

pub returns-clause-blames : goal.returns-clause-blames
returns-clause-blames g c = λ basis declarations is store truth.
    let named = λ (l : List Declaration). map (λ (declaration : Declaration). declaration.name) l in
    never_spoiled g.S.RowLog.keeping c.args.self.now.store c.count_declared.new.store (named c.deref.result.now)
    (λ place name here.
    let covers = name_covered basis declarations place name (subst (λ l. slice_get (named l) place ≡ Some name) (c.deref.ensures.value ∙ is.declared) here) is.covered in
    (is.founded.log, is.founded.stood, (is.founded.before name covers).sound)) truth (c.count_declared.ensures.unread store)

pub returns-clause-wanted : goal.returns-clause-wanted
returns-clause-wanted g c = λ basis declarations is.
    let named = λ (l : List Declaration). map (λ (declaration : Declaration). declaration.name) l in
    c.count_declared.ensures.wanted (scene_of basis declarations) (subst (λ l. AreNamed (named l) (scene_of basis declarations)) (sym (c.deref.ensures.value ∙ is.declared)) (declared_names basis declarations)) (has_declared g.S.RowLog.keeping basis c.args.self.now.store declarations is.founded is.covered)
