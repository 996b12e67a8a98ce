-- One realm more at its start.
use Rattle.std.proofs.Common.{◌≡◌, ◌+◌, ◌++◌, ◌∷◌, ◌∙◌, [], ap, refl, subst, sym, take}
use Rattle.std.proofs.lemmas.List.{map-append, take_more}
use Rattle.tip_scene.specs.Acts.{acting_of, scene_of}
use Rattle.tip_scene.specs.Rising.{AreNew, IsNew}
use Rattle.tip_scene.proofs.Begun.{new_push}
use Rattle.tip_scene.proofs.declared.actors_of.Goals as goal

pub loop-declaration-preserved : goal.loop-declaration-preserved
loop-declaration-preserved g c = λ basis.
    let declarations = c.args.declarations.now in
    let i = c.loop-declaration.declaration-index in
    let declaration = c.declaration-item.result in
    let new : IsNew c.new-in-loop-declaration.result (acting_of basis declaration) = record {
      name = c.new-in-loop-declaration.ensures.name ∙ c.in_ok-name.ensures;
      readers = c.new-in-loop-declaration.ensures.readers;
      readings = refl;
      errands = ap (λ (e : _). e.items) c.new-in-loop-declaration.ensures.errands ∙ c.new.ensures.items;
      none_out = refl;
      due = c.new-in-loop-declaration.ensures.due;
    } in
    let more : scene_of basis (take (i + 1) declarations) ≡ scene_of basis (take i declarations) ++ acting_of basis declaration ∷ [] =
    ap (scene_of basis) (take_more declarations i declaration c.loop-declaration-test.true ∙ ap (λ d. take i declarations ++ d ∷ []) (sym c.declaration-item.is)) ∙ map-append (acting_of basis) (take i declarations) (declaration ∷ []) in
    subst (λ actors. AreNew actors (scene_of basis (take (i + 1) declarations))) (sym c.in_ok-push.ensures.items)
    (subst (AreNew (c.loop-declaration.actors.items ++ c.new-in-loop-declaration.result ∷ [])) (sym more) (new_push c.loop-declaration.actors.items (scene_of basis (take i declarations)) c.new-in-loop-declaration.result (acting_of basis declaration) (c.loop-declaration.invariant basis) new))
